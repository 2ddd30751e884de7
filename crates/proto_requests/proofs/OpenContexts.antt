-- A context that is opened has a number above all that are open.
use Rattle.std.proofs.Common.{◌≡◌, ap, ◌∙◌, sym, subst, refl, List, [], ◌∷◌, ◌++◌, ℕ, ◌+◌, ◌≤◌, Bool, true, false, cond, arith, map}
use Rattle.std.specs.Prelude.{nat_lt, ◌&&◌, ◌||◌, ◌==◌}
use Rattle.std.specs.List.{list_all}
use Rattle.std.proofs.lemmas.Bool.Decides.{nat_tests}
use Rattle.sp_history.specs.declared.setting.Setting.{Setting}
use Rattle.sp_history.specs.declared.entry.Entry.{Entry}
use Rattle.sp_history.specs.declared.entry.Entry.TheVariants.{Ctx}
use Rattle.sp_history.specs.declared.entry.ContextChange.TheVariants.{Open}
use Rattle.sp_history.specs.Lists.{has}
use Rattle.sp_history.specs.Past.{ctxs, opened}
use Rattle.sp_history.specs.Legal.{AreAllowed}
use Rattle.sp_history.specs.Moments.{Moment, Lawful, AllowedBack, past, also}
use Rattle.sp_history.proofs.Backing.{legal_allowed}
use Rattle.sp_history.proofs.LiveRequests.{opened_low}
use Rattle.proto_requests.specs.Ordered.{is_before}
use Rattle.proto_requests.proofs.TestValues.{same_number}

-- ---- Each entry was allowed

all_allowed : (z : Setting) (k : ℕ) (before turn : List Entry) → AreAllowed z before → AllowedBack z k before turn → AreAllowed z (turn ++ before)
all_allowed z k before [] h b = h
all_allowed z k before (e ∷ turn) h b = ((k, b.0), all_allowed z k before turn h b.1)

pub allowed : (t : Moment) → Lawful t → AreAllowed t.z (past t)
allowed t l = all_allowed t.z t.caller t.before t.turn (subst (λ (q : List Entry). AreAllowed t.z q) (sym l.before) (legal_allowed t.z l.history l.legal)) l.turn

pub lawful_before : (t : Moment) (e : Entry) → Lawful (also t e) → AreAllowed t.z (past t)
lawful_before t e l = (allowed (also t e) l).1

-- ---- The next context

all_by_has : (P : ℕ → Bool) (cs : List ℕ) → ((d : ℕ) → has cs d ≡ true → P d ≡ true) → list_all P cs ≡ true
all_by_has P [] h = refl
all_by_has P (c ∷ cs) h = ap (λ b. b && list_all P cs) (h c (ap (λ b. b || has cs c) (same_number c))) ∙ all_by_has P cs (λ d q. h d (later (c == d) (has cs d) q))
  where
    later : (a b : Bool) → b ≡ true → (a || b) ≡ true
    later true b q = refl
    later false b q = q

all_before : (t : Moment) (c : ℕ) → Lawful (also t (Ctx c Open)) → list_all (λ d. nat_lt d c) (ctxs (past t)) ≡ true
all_before t c l = all_by_has (λ d. nat_lt d c) (ctxs (past t)) (λ d q. under d (opened_low t.z (past t) d (lawful_before t (Ctx c Open) l) q))
  where
    next : c ≡ opened (past t) + 1
    next = l.turn.0.itself.1

    under : (d : ℕ) → d ≤ opened (past t) → nat_lt d c ≡ true
    under d h = grind (arith, nat_tests, next)

-- what has the numbers of the open contexts has numbers below the one that is opened
pub seen_before : {B : Type 0} (number : B → ℕ) (xs : List B) (t : Moment) (c : ℕ) → Lawful (also t (Ctx c Open)) → map number xs ≡ ctxs (past t) → list_all (is_before number c) xs ≡ true
seen_before {B} number xs t c l h = numbers xs ∙ ap (list_all (λ d. nat_lt d c)) h ∙ all_before t c l
  where
    numbers : (ys : List B) → list_all (is_before number c) ys ≡ list_all (λ d. nat_lt d c) (map number ys)
    numbers [] = refl
    numbers (y ∷ ys) = ap (λ b. nat_lt (number y) c && b) (numbers ys)
