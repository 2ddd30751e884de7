use Rattle.std.proofs.Common.{◌≡◌, ◌∙◌, ◌≤◌, refl, sym, arith, true, ◌∷◌, ◌++◌, [], rules}
use Rattle.std.specs.Prelude.{Result, Ok, Err, OnErr}
use Rattle.std.specs.Result.{is_err}
use Rattle.std.specs.VecDeque.{deque_len, deque_capacity}
use Rattle.proto_pipeline.specs.declared.pull.Pull.{Pull}
use Rattle.proto_pipeline.proofs.PullStands.{has_place, frame_ties, well_formed}
use Rattle.proto_pipeline.proofs.pull.PullProto.frame.Goals as goal

failed : {A E : Type 0} (r : Result A E) (P : Type 0) → is_err r ≡ true → OnErr r P → P
failed (Ok a) P e h = absurd cc
failed (Err x) P e h = h

pub returns-then-is_err-clause-kept : goal.returns-then-is_err-clause-kept
returns-then-is_err-clause-kept c = λ t short l h.
    let full : deque_capacity c.args.self.now.kept ≤ deque_len c.args.self.now.kept = failed c.push_back.result _ (sym c.is_err.ensures.value ∙ c.if-is_err.true) c.push_back.ensures.full in
    absurd (omega (arith, full, has_place c.args.self.now t c.args.p c.args.m.body l h, c.args.self.now.kept.ok.0))

pub returns-then-is_err-clause-fits : goal.returns-then-is_err-clause-fits
returns-then-is_err-clause-fits c = λ t l h.
    let full : deque_capacity c.args.self.now.kept ≤ deque_len c.args.self.now.kept = failed c.push_back.result _ (sym c.is_err.ensures.value ∙ c.if-is_err.true) c.push_back.ensures.full in
    absurd (omega (arith, full, has_place c.args.self.now t c.args.p c.args.m.body l h, c.args.self.now.kept.ok.0))

pub returns-clause-kept : goal.returns-clause-kept
returns-clause-kept c = λ t short l h.
    let was = c.args.self.now in
    let items : c.push_back.new.self.items ≡ was.kept.items ++ record { pipe = c.args.p; message = c.args.m } ∷ [] = search rules in
    let capacity : deque_capacity was.kept ≤ deque_capacity c.push_back.new.self = search rules in
    let is : Pull = record was { kept = c.push_back.new.self; sources = c.mark.new.self } in
    (well_formed was t c.args.m.body h, frame_ties was is t c.args.p c.args.m short l c.requires h items capacity c.mark.ensures.kept c.mark.ensures.count (refl, refl, refl))
