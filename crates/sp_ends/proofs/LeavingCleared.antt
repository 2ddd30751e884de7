-- A pipe that is down stays cleared, or not.
use Rattle.std.proofs.Common.{◌≡◌, ◌≢◌, refl, sym, ◌∙◌, subst, List, [], ◌∷◌, ◌++◌, ℕ, ◌+◌, ◌≤◌, Bool, true, false, arith}
use Rattle.std.specs.Prelude.{◌==◌}
use Rattle.std.proofs.lemmas.Bool.Decides.{nat_tests}
use Rattle.turn_lock.specs.declared.turn.Turn.{Turn}
use Rattle.sp_history.specs.declared.entry.Entry.{Entry}
use Rattle.sp_history.specs.declared.entry.Entry.TheVariants.{Up, Down, Out, Clear}
use Rattle.sp_history.specs.declared.setting.Setting.{Setting}
use Rattle.sp_history.specs.Lists.{has, without}
use Rattle.sp_history.specs.Past.{up, ups, onto, past_from, is_cleared}
use Rattle.sp_history.specs.Legal.{MayCome, Follows, LegalFrom}
use Rattle.sp_history.proofs.Wiring.{has_more, has_before}

-- what is up is not the pipe that isn't up
another : (past : List Entry) (p q : ℕ) → has (up past) p ≡ false → has (up past) q ≡ true → (q == p) ≡ false
another past p q off on = go (q == p) refl
  where
    go : (b : Bool) → (q == p) ≡ b → b ≡ false
    go false e = refl
    go true e =
        let same : q ≡ p = grind (arith, nat_tests) in
        let no : true ≡ false = sym (subst (λ (n : ℕ). has (up past) n ≡ true) same on) ∙ off in cc

record StaysCleared (p : ℕ) (past more : List Entry) : Type 0 where
  came : p ≤ ups more
  off : has (up more) p ≡ false
  same : is_cleared more p ≡ is_cleared past p

still_off : (xs : List ℕ) (q p : ℕ) → q ≢ p → has xs p ≡ false → has (xs ++ q ∷ []) p ≡ false
still_off xs q p n h = go (has (xs ++ q ∷ []) p) refl
  where
    go : (b : Bool) → has (xs ++ q ∷ []) p ≡ b → b ≡ false
    go false e = refl
    go true e = absurd (n (has_more xs q p e h))

less_off : (xs : List ℕ) (q p : ℕ) → has xs p ≡ false → has (without xs q) p ≡ false
less_off xs q p h = go (has (without xs q) p) refl
  where
    go : (b : Bool) → has (without xs q) p ≡ b → b ≡ false
    go false e = refl
    go true e = let no : true ≡ false = sym (has_before xs q p e) ∙ h in cc

next : (z : Setting) (k p : ℕ) (past more : List Entry) (e : Entry) → StaysCleared p past more → MayCome z k more e → StaysCleared p past (e ∷ more)
next z k p past more (Up q place limit name) d a = record { came = let c = d.came in omega (arith, c); off = still_off (up more) q p (unlike (ups more) d.came a.0) d.off; same = d.same }
  where
    unlike : (m : ℕ) → p ≤ m → q ≡ m + 1 → q ≢ p
    unlike m l e f = absurd (omega (arith, l, e, f))
next z k p past more (Down q why) d a = record { came = d.came; off = less_off (up more) q p d.off; same = d.same }
next z k p past more (Out q b) d a = let n = another more p q d.off a in record { came = d.came; off = d.off; same = rw n d.same }
next z k p past more (Clear q) d a = let n = another more p q d.off a in record { came = d.came; off = d.off; same = rw n d.same }
next z k p past more e d a = record { came = d.came; off = d.off; same = d.same }

in_turn : (z : Setting) (k p : ℕ) (past more es : List Entry) → StaysCleared p past more → Follows z k more es → StaysCleared p past (onto es more)
in_turn z k p past more [] d f = d
in_turn z k p past more (e ∷ es) d f = in_turn z k p past (e ∷ more) es (next z k p past more e d f.0.itself) f.1

in_all : (z : Setting) (p : ℕ) (past more : List Entry) (h : List (Turn Entry)) → StaysCleared p past more → LegalFrom z more h → StaysCleared p past (past_from more h)
in_all z p past more [] d l = d
in_all z p past more (t ∷ h) d l = in_all z p past (onto t.entries more) h (in_turn z t.number p past more t.entries d l.0.entries) l.1

pub stays_cleared : (z : Setting) (past : List Entry) (turns : List (Turn Entry)) (p : ℕ) → LegalFrom z past turns → p ≤ ups past → has (up past) p ≡ false → is_cleared (past_from past turns) p ≡ is_cleared past p
stays_cleared z past turns p l came off = (in_all z p past past turns (record { came = came; off = off; same = refl }) l).same
