-- The receive limit of a pipe stays that of its Up.
use Rattle.std.proofs.Common.{◌≡◌, refl, ◌∙◌, List, [], ◌∷◌, ℕ, ◌+◌, ◌≤◌, Bool, true, false, arith, Some}
use Rattle.std.specs.Prelude.{◌==◌}
use Rattle.std.proofs.lemmas.Bool.Decides.{nat_tests}
use Rattle.sp_history.specs.declared.entry.WireNumbers.{WireNumbers}
use Rattle.sp_history.specs.declared.entry.Entry.{Entry}
use Rattle.sp_history.specs.declared.entry.Entry.TheVariants.{Up}
use Rattle.sp_history.specs.declared.setting.Setting.{Setting}
use Rattle.sp_history.specs.Past.{ups, limit_of, onto}
use Rattle.sp_history.specs.Legal.{MayCome, Follows}

pub limit_begins : (past : List Entry) (p place limit : ℕ) (name : WireNumbers) → limit_of (Up p place limit name ∷ past) p ≡ Some limit
limit_begins past p place limit name = rw here refl
  where
    here : (p == p) ≡ true
    here = grind (arith, nat_tests)

pub limit_next : (z : Setting) (k : ℕ) (past : List Entry) (e : Entry) (p : ℕ) → MayCome z k past e → p ≤ ups past → limit_of (e ∷ past) p ≡ limit_of past p
limit_next z k past (Up q place limit name) p a l = rw (new (ups past) l a.0) refl
  where
    new : (m : ℕ) → p ≤ m → q ≡ m + 1 → (q == p) ≡ false
    new m l e = grind (arith, nat_tests)
limit_next z k past _ p a l = refl

more_ups : (e : Entry) (past : List Entry) → ups past ≤ ups (e ∷ past)
more_ups (Up q place limit name) past = omega arith
more_ups _ past = omega arith

pub limit_turn : (z : Setting) (k : ℕ) (past entries : List Entry) (p : ℕ) → Follows z k past entries → p ≤ ups past → limit_of (onto entries past) p ≡ limit_of past p
limit_turn z k past [] p f l = refl
limit_turn z k past (e ∷ entries) p f l =
    limit_turn z k (e ∷ past) entries p f.1 (omega (arith, l, more_ups e past)) ∙ limit_next z k past e p f.0.itself l
