-- A pipe that is down is silent.
use Rattle.std.proofs.Common.{◌≡◌, ◌≢◌, refl, sym, ◌∙◌, subst, List, [], ◌∷◌, ◌++◌, ℕ, ◌+◌, ◌≤◌, Bool, true, false, arith}
use Rattle.std.specs.Prelude.{◌==◌}
use Rattle.std.proofs.lemmas.Bool.Decides.{nat_tests}
use Rattle.turn_lock.specs.declared.turn.Turn.{Turn}
use Rattle.sp_history.specs.declared.entry.Entry.{Entry}
use Rattle.sp_history.specs.declared.entry.Entry.TheVariants.{Up, Down, Frame, Out, Full, Quiet, Stall}
use Rattle.sp_history.specs.declared.setting.Setting.{Setting}
use Rattle.sp_history.specs.Lists.{has, without}
use Rattle.sp_history.specs.Past.{up, ups, onto, past_from}
use Rattle.sp_history.specs.Legal.{MayCome, Follows, LegalFrom}
use Rattle.sp_history.specs.Found.{SameOfPipe}
use Rattle.sp_history.proofs.Wiring.{has_more, has_before}

-- a pipe that is up is not the pipe that isn't up
another : (past : List Entry) (p q : ℕ) → has (up past) p ≡ false → has (up past) q ≡ true → (q == p) ≡ false
another past p q off on = go (q == p) refl
  where
    go : (b : Bool) → (q == p) ≡ b → b ≡ false
    go false e = refl
    go true e =
        let same : q ≡ p = grind (arith, nat_tests) in
        let no : true ≡ false = sym (subst (λ (n : ℕ). has (up past) n ≡ true) same on) ∙ off in cc

record StaysDown (p : ℕ) (past more : List Entry) : Type 0 where
  came : p ≤ ups more
  off : has (up more) p ≡ false
  same : SameOfPipe p past more

still_off : (xs : List ℕ) (q p : ℕ) → q ≢ p → has xs p ≡ false → has (xs ++ q ∷ []) p ≡ false
still_off xs q p n h = go (has (xs ++ q ∷ []) p) refl
  where
    go : (b : Bool) → has (xs ++ q ∷ []) p ≡ b → b ≡ false
    go false e = refl
    go true e = absurd (n (has_more xs q p e h))

less_off : (xs : List ℕ) (q p : ℕ) → has xs p ≡ false → has (without xs q) p ≡ false
less_off xs q p h = go (has (without xs q) p) refl
  where
    go : (b : Bool) → has (without xs q) p ≡ b → b ≡ false
    go false e = refl
    go true e = let no : true ≡ false = sym (has_before xs q p e) ∙ h in cc

off_next : (z : Setting) (k p : ℕ) (past more : List Entry) (e : Entry) → StaysDown p past more → MayCome z k more e → StaysDown p past (e ∷ more)
off_next z k p past more (Up q place limit name) d a =
    let n : (q == p) ≡ false = new (ups more) d.came a.0 in let s = d.same in
    record { came = let c = d.came in omega (arith, c); off = still_off (up more) q p (λ e. unlike e n) d.off; same = record { frames = s.frames; outs = s.outs; fulls = s.fulls; quiets = s.quiets; stalls = s.stalls; name = rw n s.name; limit = rw n s.limit; last = s.last; cause = s.cause } }
  where
    new : (m : ℕ) → p ≤ m → q ≡ m + 1 → (q == p) ≡ false
    new m l e = grind (arith, nat_tests)

    unlike : q ≡ p → (q == p) ≡ false → ⊥
    unlike e n = let t : (q == p) ≡ true = grind (arith, nat_tests) in let no : true ≡ false = sym t ∙ n in cc
off_next z k p past more (Down q why) d a =
    let n = another more p q d.off a.0 in let s = d.same in
    record { came = d.came; off = less_off (up more) q p d.off; same = record { frames = s.frames; outs = s.outs; fulls = s.fulls; quiets = s.quiets; stalls = s.stalls; name = s.name; limit = s.limit; last = s.last; cause = rw n s.cause } }
off_next z k p past more (Frame q b) d a =
    let n = another more p q d.off a.0 in let s = d.same in
    record { came = d.came; off = d.off; same = record { frames = rw n s.frames; outs = s.outs; fulls = s.fulls; quiets = s.quiets; stalls = s.stalls; name = s.name; limit = s.limit; last = rw n s.last; cause = s.cause } }
off_next z k p past more (Out q b) d a =
    let n = another more p q d.off a in let s = d.same in
    record { came = d.came; off = d.off; same = record { frames = s.frames; outs = rw n s.outs; fulls = s.fulls; quiets = s.quiets; stalls = s.stalls; name = s.name; limit = s.limit; last = s.last; cause = s.cause } }
off_next z k p past more (Full q) d a =
    let n = another more p q d.off a in let s = d.same in
    record { came = d.came; off = d.off; same = record { frames = s.frames; outs = s.outs; fulls = rw n s.fulls; quiets = s.quiets; stalls = s.stalls; name = s.name; limit = s.limit; last = s.last; cause = s.cause } }
off_next z k p past more (Quiet q) d a =
    let n = another more p q d.off a.0 in let s = d.same in
    record { came = d.came; off = d.off; same = record { frames = s.frames; outs = s.outs; fulls = s.fulls; quiets = rw n s.quiets; stalls = s.stalls; name = s.name; limit = s.limit; last = s.last; cause = s.cause } }
off_next z k p past more (Stall q) d a =
    let n = another more p q d.off a in let s = d.same in
    record { came = d.came; off = d.off; same = record { frames = s.frames; outs = s.outs; fulls = s.fulls; quiets = s.quiets; stalls = rw n s.stalls; name = s.name; limit = s.limit; last = s.last; cause = s.cause } }
off_next z k p past more e d a =
    let s = d.same in
    record { came = d.came; off = d.off; same = record { frames = s.frames; outs = s.outs; fulls = s.fulls; quiets = s.quiets; stalls = s.stalls; name = s.name; limit = s.limit; last = s.last; cause = s.cause } }

off_turn : (z : Setting) (k p : ℕ) (past more es : List Entry) → StaysDown p past more → Follows z k more es → StaysDown p past (onto es more)
off_turn z k p past more [] d f = d
off_turn z k p past more (e ∷ es) d f = off_turn z k p past (e ∷ more) es (off_next z k p past more e d f.0.itself) f.1

off_all : (z : Setting) (p : ℕ) (past more : List Entry) (h : List (Turn Entry)) → StaysDown p past more → LegalFrom z more h → StaysDown p past (past_from more h)
off_all z p past more [] d l = d
off_all z p past more (t ∷ h) d l = off_all z p past (onto t.entries more) h (off_turn z t.number p past more t.entries d l.0.entries) l.1

here : (z : Setting) (p : ℕ) (past : List Entry) (h : List (Turn Entry)) → LegalFrom z past h → p ≤ ups past → has (up past) p ≡ false → StaysDown p past (past_from past h)
here z p past h l came off =
    off_all z p past past h (record { came = came; off = off; same = record { frames = refl; outs = refl; fulls = refl; quiets = refl; stalls = refl; name = refl; limit = refl; last = refl; cause = refl } }) l

pub down_is_silent : (z : Setting) (past : List Entry) (turns : List (Turn Entry)) (p : ℕ) → LegalFrom z past turns → p ≤ ups past → has (up past) p ≡ false → SameOfPipe p past (past_from past turns)
down_is_silent z past turns p l came off = (here z p past turns l came off).same

pub down_stays : (z : Setting) (past : List Entry) (turns : List (Turn Entry)) (p : ℕ) → LegalFrom z past turns → p ≤ ups past → has (up past) p ≡ false → has (up (past_from past turns)) p ≡ false
down_stays z past turns p l came off = (here z p past turns l came off).off
