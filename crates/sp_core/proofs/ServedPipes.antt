-- The pipes are served one after another.
use Rattle.std.proofs.Common.{◌≡◌, refl, ap, sym, ◌∙◌, subst, List, [], ℕ, ◌+◌, ◌<◌, ◌≤◌, Bool, true, false, arith}
use Rattle.std.specs.Prelude.{◌==◌, nat_lt}
use Rattle.std.proofs.lemmas.Bool.Decides.{nat_tests}
use Rattle.sp_history.specs.declared.entry.Entry.{Entry}
use Rattle.sp_history.specs.Lists.{has}
use Rattle.sp_history.specs.Past.{up}
use Rattle.sp_history.specs.Moments.{Moment, past, Lawful}
use Rattle.sp_core.specs.declared.calls.serve.Visit.{Visit}
use Rattle.core_state.specs.PartSteps.{IsFirstAbove}
use Rattle.sp_core.specs.Serving.{AreAsMany, AreFew, IsFlushedIn, IsServedIn, VisitedTo, SweptTo, ups_after}
use Rattle.core_state.proofs.ChangedWires.{equal_numbers, same_number, without-left}
use Rattle.core_state.proofs.PipesInOrder.{none_zero}

-- nothing was served yet
pub sweeps_none : (t : Moment) → Lawful t → t.turn ≡ [] → SweptTo 0 0 t t
sweeps_none t l e = subst (λ (x : Moment). SweptTo 0 0 x x) (sym is) (none t.z t.caller t.before (subst Lawful is l))
  where
    is : t ≡ (let y : Moment = record { z = t.z; caller = t.caller; before = t.before; turn = [] } in y)
    is = ap (λ xs. let y : Moment = record { z = t.z; caller = t.caller; before = t.before; turn = xs } in y) e

    none : (z : _) (caller : ℕ) (before : _) → let s : Moment = record { z = z; caller = caller; before = before; turn = [] } in Lawful s → SweptTo 0 0 s s
    none z caller before l = record {
      same = refl;
      served = λ q h k. let zero_is : 0 ≡ q = omega (arith, k) in let no : has (up before) q ≡ false = subst (λ (x : ℕ). has (up before) x ≡ false) zero_is (none_zero (record { z = z; caller = caller; before = before; turn = [] }) l) in absurd cc;
      fresh = λ q h k. (refl, refl, refl, λ w. w);
      downs = omega arith;
      stalls = refl;
      few = omega arith;
      kinds = tt;
      most = λ p. (omega arith, omega arith, omega arith);
      gives = λ g. g;
    }

pub same_all : (s t u : Moment) → t ≡ (let y : Moment = record { z = s.z; caller = s.caller; before = s.before; turn = t.turn } in y) → u ≡ (let y : Moment = record { z = t.z; caller = t.caller; before = t.before; turn = u.turn } in y)
    → u ≡ (let y : Moment = record { z = s.z; caller = s.caller; before = s.before; turn = u.turn } in y)
same_all s t u a b = b ∙ ap (λ (x : Moment). let y : Moment = record { z = x.z; caller = x.caller; before = x.before; turn = u.turn } in y) a

pub few_still : (most q : ℕ) (xs ys : List Entry) → AreFew most q xs → AreAsMany q xs ys → AreFew most q ys
few_still most q xs ys few same = (let a = few.0 in let b = same.0 in omega (arith, a, b), let a = few.1 in let b = same.1 in omega (arith, a, b), let a = few.2 in let b = same.2 in omega (arith, a, b))

pub most_still : (most p q : ℕ) (t u : Moment) → AreFew most q t.turn → AreFew most p u.turn → ((p == q) ≡ false → AreAsMany q t.turn u.turn) → AreFew most q u.turn
most_still most p q t u was now other = go (p == q) refl
  where
    go : (b : Bool) → (p == q) ≡ b → AreFew most q u.turn
    go true e = subst (λ (x : ℕ). AreFew most x u.turn) (equal_numbers p q e) now
    go false e = few_still most q t.turn u.turn was (other e)

-- a pipe that is up after a visit was up before it, and is another one where the visited pipe went down
pub up_before : (stays : Bool) (xs : List ℕ) (p q : ℕ) → has (ups_after stays xs p) q ≡ true → (has xs q ≡ true) × ((p == q) ≡ true → stays ≡ true)
up_before true xs p q h = (h, λ e. refl)
up_before false xs p q h = let k = without-left xs p q h in (k.0, λ e. absurd cc)

-- the next pipe was served
pub sweeps_on : (s t u : Moment) (last waiting p : ℕ) (v : Visit) → SweptTo last waiting s t → IsFirstAbove last p (up (past t)) → VisitedTo 64 v p t u → SweptTo p (waiting + v.stalls) s u
sweeps_on s t u last waiting p v h next visit = record {
  same = same_all s t u h.same visit.passes.same;
  served = λ q k l. one q (p == q) refl (was q k) l;
  fresh = λ q k l. visit.passes.fresh q (apart q l) (was q k).0 (h.fresh q (was q k).0 (omega (arith, l, next.above)));
  downs = omega (arith, h.downs, visit.passes.downs);
  stalls = omega (arith, h.stalls, visit.stalls);
  few = omega (arith, h.few, visit.few, next.above);
  kinds = visit.passes.kinds h.kinds;
  most = λ q. most_still 64 p q t u (h.most q) visit.counts (visit.passes.counts q);
  gives = λ g. visit.gives (h.gives g);
}
  where
    was : (q : ℕ) → has (up (past u)) q ≡ true → (has (up (past t)) q ≡ true) × ((p == q) ≡ true → v.up ≡ true)
    was q k = up_before v.up (up (past t)) p q (subst (λ (xs : List ℕ). has xs q ≡ true) visit.passes.ups k)

    apart : (q : ℕ) → p < q → (p == q) ≡ false
    apart q l = go (p == q) refl
      where
        go : (b : Bool) → (p == q) ≡ b → b ≡ false
        go false e = refl
        go true e = let same : p ≡ q = equal_numbers p q e in absurd (omega (arith, same, l))

    earlier : (q : ℕ) → (p == q) ≡ false → has (up (past t)) q ≡ true → q ≤ p → (b : Bool) → nat_lt last q ≡ b → q ≤ last
    earlier q e k l false f = grind (arith, nat_tests)
    earlier q e k l true f =
        let low : p ≤ q = next.first q k (grind (arith, nat_tests)) in
        let same : p ≡ q = omega (arith, low, l) in
        let no : (p == q) ≡ true = subst (λ (y : ℕ). (p == y) ≡ true) same (same_number p) in
        absurd cc

    one : (q : ℕ) (b : Bool) → (p == q) ≡ b → (has (up (past t)) q ≡ true) × ((p == q) ≡ true → v.up ≡ true) → q ≤ p → IsServedIn 64 u q × IsFlushedIn u q
    one q true e k l = subst (λ (y : ℕ). IsServedIn 64 u y × IsFlushedIn u y) (equal_numbers p q e) (visit.serves (k.1 e))
    one q false e k l =
        let done = h.served q k.0 (earlier q e k.0 l (nat_lt last q) refl) in
        (visit.passes.served q e done.0, visit.passes.flushes q done.1)
