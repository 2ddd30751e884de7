use Rattle.std.proofs.Common.{◌≡◌, ◌∙◌, ap, sym, refl, ℕ, true, inl, inr, arith, rules}
use Rattle.std.specs.Prelude.{◌==◌}
use Rattle.proto_requests.specs.Hints.{covers}
use Rattle.proto_requests.proofs.TestValues.{same_number}
use Rattle.proto_live_requests.specs.Outs.{IsOneLess, NoneOn}
use Rattle.proto_live_requests.proofs.DueRequests.{off_kept, gone_or, none_on, one_in, none_in, case_of}
use Rattle.proto_live_requests.proofs.dues.look_at_down.Goals as goal

pub loop-c-init : goal.loop-c-init
loop-c-init c = record { whole = refl; kept = λ x o n k. k; down = λ x o m k. inl k; more = λ q k. k }

pub loop-c-smaller : goal.loop-c-smaller
loop-c-smaller c = let e = (one_in (λ (n : ℕ). IsOneLess c.args.p n c.loop-c.outs.items c.pop_on.new.self.items) c.pop_on.result c.in-Some.c c.in-Some.is c.pop_on.ensures.one).fewer in omega (arith, e)

pub loop-c-preserved : goal.loop-c-preserved
loop-c-preserved c =
    let at = c.loop-c.invariant in
    let one = one_in (λ (n : ℕ). IsOneLess c.args.p n c.loop-c.outs.items c.pop_on.new.self.items) c.pop_on.result c.in-Some.c c.in-Some.is c.pop_on.ensures.one in
    let is : c.c.inside.0 ≡ c.in-Some.c = search rules in
    let it = c.add.ensures.more (λ n. n == c.in-Some.c) (ap (λ n. n == c.in-Some.c) is ∙ same_number c.in-Some.c) in
    let more = λ (q : ℕ) (k : covers c.loop-c.due q ≡ true). c.add.ensures.same (λ n. n == q) k in
    record {
      whole = c.pop_on.ensures.whole ∙ at.whole;
      kept = λ x o n k. off_kept c.loop-c.outs c.pop_on.new.self c.args.p c.in-Some.c c.pop_on.ensures.whole one x o n (at.kept x o n k);
      down = λ x o m k.
          case_of (λ h. case_of (λ g. inl g) (λ e. inr (ap (covers c.add.new.self) (sym e) ∙ it)) (gone_or c.loop-c.outs c.pop_on.new.self c.args.p c.in-Some.c c.pop_on.ensures.whole one x o h)) (λ d. inr (more x d)) (at.down x o m k);
      more = λ q k. more q (at.more q k);
    }

pub returns-clause-down : goal.returns-clause-down
returns-clause-down c = λ x o m k.
    case_of (λ h. none_on c.args.p x o c.loop-c.outs.items (none_in (NoneOn c.args.p c.loop-c.outs.items) c.pop_on.result c.in_default.is c.pop_on.ensures.none) m h) (λ d. d) (c.loop-c.invariant.down x o m k)
