use Rattle.std.proofs.Common.{◌≡◌, ◌++◌, ◌∷◌, [], ap, arith, length, length-append, subst, sym, refl, rules, List}
use Rattle.sp_msg.specs.Views.{MessageView}
use Rattle.proto_survey.specs.Surveys.{AreSame}
use Rattle.proto_shared.proofs.Copying.{each_more}
use Rattle.proto_survey.proofs.survey.copies_of.Goals as goal

pub loop-preserved : goal.loop-preserved
loop-preserved c =
    let items : c.push.new.self.items ≡ c.loop.copies.items ++ c.args.m.now ∷ [] = search rules in
    let long : length c.loop.copies.items ≡ c.loop.counter = c.loop.invariant.0 in (
      omega (arith, long, ap length items, length-append c.loop.copies.items (c.args.m.now ∷ [])),
      subst (λ (xs : List MessageView). AreSame c.args.m.now xs) (sym items) (each_more _ c.loop.copies.items c.args.m.now c.loop.invariant.1 refl),
    )
