use Rattle.std.proofs.Common.{◌≡◌, ◌++◌, ◌∷◌, [], ap, arith, length, length-append, subst, sym, rules, List}
use Rattle.sp_msg.specs.Views.{MessageView}
use Rattle.proto_shared.specs.Copies.{AreCopies}
use Rattle.proto_shared.proofs.Copying.{each_more}
use Rattle.proto_shared.proofs.flood_copies.copies_of.Goals as goal

pub loop-preserved : goal.loop-preserved
loop-preserved c =
    let items : c.push.new.self.items ≡ c.loop.copies.items ++ c.header_clear.new.self ∷ [] = search rules in
    let bare : c.header_clear.new.self ≡ record { header = []; body = c.args.m.now.body } = search rules in
    let long : length c.loop.copies.items ≡ c.loop.counter = c.loop.invariant.0 in (
      omega (arith, long, ap length items, length-append c.loop.copies.items (c.header_clear.new.self ∷ [])),
      subst (λ (xs : List MessageView). AreCopies c.args.m.now.body xs) (sym items) (each_more _ c.loop.copies.items c.header_clear.new.self c.loop.invariant.1 bare),
    )
