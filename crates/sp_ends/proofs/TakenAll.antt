-- Pipes that are down, and whose wires are taken.
use Rattle.std.proofs.Common.{◌≡◌, refl, ap, sym, ◌∙◌, subst, List, [], ◌∷◌, ◌++◌, ℕ, ◌≤◌, Bool, true, false, arith}
use Rattle.turn_lock.specs.declared.turn.Turn.{Turn}
use Rattle.sp_history.specs.declared.entry.Entry.{Entry}
use Rattle.sp_history.specs.declared.entry.Entry.TheVariants.{Taken, Down, Up}
use Rattle.sp_history.specs.declared.setting.Setting.{Setting}
use Rattle.sp_history.specs.Lists.{has, without}
use Rattle.sp_history.specs.Legal.{AreAllowed}
use Rattle.sp_history.specs.Past.{onto, past_from, past_of, up, ups, untaken}
use Rattle.sp_history.proofs.Backing.{legal_allowed}
use Rattle.sp_history.proofs.Wiring.{has_before, has_more}
use Rattle.sp_socket.specs.Singles.{SingleView, IsSound}
use Rattle.sp_ends.specs.SocketSteps.{Quietly}
use Rattle.sp_ends.proofs.LinkPlaces.{gone}
use Rattle.sp_ends.proofs.LaterEntries.{past_of_more}
use Rattle.sp_ends.proofs.TurnParts.{up_numbered}

-- the pipe came up and is no longer up; and, where the flag is true, its wire was taken
abbrev pub IsOff : Bool → List Entry → ℕ → Type 0
IsOff taken past p = (p ≤ ups past) × (has (up past) p ≡ false) × (taken ≡ true → has (untaken past) p ≡ false)

-- still not there when another is taken out
still_out : (us : List ℕ) (q p : ℕ) → has us p ≡ false → has (without us q) p ≡ false
still_out us q p off = go (has (without us q) p) refl
  where
    go : (b : Bool) → has (without us q) p ≡ b → has (without us q) p ≡ false
    go false e = e
    go true e = let no : true ≡ false = sym (has_before us q p e) ∙ off in cc

-- nor when another comes
still_apart : (us : List ℕ) (q p : ℕ) → has us p ≡ false → (q ≡ p → ⊥) → has (us ++ q ∷ []) p ≡ false
still_apart us q p off ne = go (has (us ++ q ∷ []) p) refl
  where
    go : (b : Bool) → has (us ++ q ∷ []) p ≡ b → has (us ++ q ∷ []) p ≡ false
    go false e = e
    go true e = absurd (ne (has_more us q p e off))

module _ (z : Setting) (p : ℕ) where
  -- a pipe that is down and not taken
  pub untaken_off : (past : List Entry) → AreAllowed z past → has (untaken past) p ≡ true → IsOff false past p
  untaken_off [] a h = cc
  untaken_off (Up q place limit name ∷ past) a h =
      let x = untaken_off past a.1 h in
      let f = a.0.1.itself.0 in
      let l = x.0 in (omega (arith, l), still_apart (up past) q p x.1 (λ same. absurd (omega (arith, same, f, l))), λ no. cc)
  untaken_off (Down q why ∷ past) a h = go (has (untaken past) p) refl (untaken_off past a.1)
    where
      go : (b : Bool) → has (untaken past) p ≡ b → (has (untaken past) p ≡ true → IsOff false past p) → IsOff false (Down q why ∷ past) p
      go true e before = let x = before e in (x.0, still_out (up past) q p x.1, λ no. cc)
      go false e before =
          let same : q ≡ p = has_more (untaken past) q p h e in
          (subst (λ (m : ℕ). m ≤ ups past) same (up_numbered z past q a.1 a.0.1.itself.0), subst (λ (m : ℕ). has (without (up past) q) m ≡ false) same (gone (up past) q), λ no. cc)
  untaken_off (Taken q ∷ past) a h = let x = untaken_off past a.1 (has_before (untaken past) q p h) in (x.0, x.1, λ no. cc)
  untaken_off (_ ∷ past) a h = untaken_off past a.1 h

  off_one : (t : Bool) (e : Entry) (past : List Entry) → AreAllowed z (e ∷ past) → IsOff t past p → IsOff t (e ∷ past) p
  off_one t (Up q place limit name) past a x =
      let f = a.0.1.itself.0 in
      let l = x.0 in (omega (arith, l), still_apart (up past) q p x.1 (λ same. absurd (omega (arith, same, f, l))), x.2)
  off_one t (Down q why) past a x =
      (x.0, still_out (up past) q p x.1, λ taken. still_apart (untaken past) q p (x.2 taken) (λ same. let no : true ≡ false = sym a.0.1.itself.0 ∙ (ap (has (up past)) same ∙ x.1) in cc))
  off_one t (Taken q) past a x = (x.0, x.1, λ taken. still_out (untaken past) q p (x.2 taken))
  off_one t _ past a x = x

  allowed_onto : (entries past : List Entry) → AreAllowed z (onto entries past) → AreAllowed z past
  allowed_onto [] past a = a
  allowed_onto (e ∷ entries) past a = (allowed_onto entries (e ∷ past) a).1

  pub off_onto : (t : Bool) (entries past : List Entry) → AreAllowed z (onto entries past) → IsOff t past p → IsOff t (onto entries past) p
  off_onto t [] past a x = x
  off_onto t (e ∷ entries) past a x = off_onto t entries (e ∷ past) a (off_one t e past (allowed_onto entries (e ∷ past) a) x)

  allowed_from : (turns : List (Turn Entry)) (past : List Entry) → AreAllowed z (past_from past turns) → AreAllowed z past
  allowed_from [] past a = a
  allowed_from (t ∷ turns) past a = allowed_onto t.entries past (allowed_from turns (onto t.entries past) a)

  off_from : (b : Bool) (turns : List (Turn Entry)) (past : List Entry) → AreAllowed z (past_from past turns) → IsOff b past p → IsOff b (past_from past turns) p
  off_from b [] past a x = x
  off_from b (t ∷ turns) past a x = off_from b turns (onto t.entries past) a (off_onto b t.entries past (allowed_from turns (onto t.entries past) a) x)

-- it stays so
pub off_stays : (t : Bool) (a b : SingleView) (p : ℕ) → Quietly a b → IsSound b → IsOff t (past_of a.seen) p → IsOff t (past_of b.seen) p
off_stays t a b p q sound x =
    let is : past_of b.seen ≡ past_from (past_of a.seen) q.silent.0 = ap past_of q.silent.1 ∙ past_of_more [] a.seen q.silent.0 in
    subst (λ (past : List Entry). IsOff t past p) (sym is) (off_from b.setting p t q.silent.0 (past_of a.seen) (subst (AreAllowed b.setting) is (legal_allowed b.setting b.seen sound.legal)) x)

-- where none is left that is not taken
pub none_untaken : (a b : SingleView) (p : ℕ) → Quietly a b → IsSound a → IsSound b → has (untaken (past_of a.seen)) p ≡ true → untaken (past_of b.seen) ≡ [] → IsOff true (past_of b.seen) p
none_untaken a b p q was now h none =
    let x = off_stays false a b p q now (untaken_off a.setting p (past_of a.seen) (legal_allowed a.setting a.seen was.legal) h) in
    (x.0, x.1, λ taken. ap (λ (us : List ℕ). has us p) none)
