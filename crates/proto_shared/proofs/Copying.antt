-- What each entry does to the copies.
use Rattle.std.proofs.Common.{◌≡◌, refl, sym, subst, List, [], ◌∷◌, ◌++◌, ℕ, ◌≤◌, Bool, true, false, cond, arith, length}
use Rattle.std.specs.Prelude.{not, ◌==◌, ◌&&◌, ◌||◌, filter}
use Rattle.sp_base.specs.declared.role.Role.{Role}
use Rattle.sp_base.specs.declared.role.Role.TheVariants.{Pub, Surveyor, Bus}
use Rattle.sp_history.specs.declared.entry.Why.{Why}
use Rattle.sp_history.specs.declared.entry.Entry.{Entry}
use Rattle.sp_history.specs.declared.entry.Entry.TheVariants.{Down, Out, Full, Unkept}
use Rattle.sp_history.specs.declared.setting.Setting.{Setting}
use Rattle.sp_history.specs.Lists.{without}
use Rattle.sp_history.specs.Setting.{floods, is_req, is_reply}
use Rattle.sp_history.specs.declared.parts.Item.{Item}
use Rattle.sp_history.specs.Kept.{pool, is_from}
use Rattle.sp_history.specs.Past.{up}
use Rattle.sp_history.specs.Sends.{unclaimed, is_resend}
use Rattle.sp_history.specs.Legal.{Calm, goes_on, is_part_of_send}
use Rattle.sp_history.specs.Moments.{Moment, Lawful, past, also, starts_back}
use Rattle.sp_msg.specs.Views.{MessageView}
use Rattle.proto_shared.specs.Copies.{HasCopies, Each}

-- what came before the last entry is lawful
pub lawful_before : (t : Moment) (e : Entry) → Lawful (also t e) → Lawful t
lawful_before t e l = record { history = l.history; legal = l.legal; before = l.before; turn = l.turn.1; starts = starts t.turn l.starts }
  where
    starts : (turn : List Entry) → starts_back t.z (e ∷ turn) ≡ true → starts_back t.z turn ≡ true
    starts [] h = refl
    starts (d ∷ turn) h = h

-- a role that floods sends nothing again
no_resend : (z : Setting) (before : List Entry) (b : List ℕ) → floods z.role ≡ true → is_resend z before b ≡ false
no_resend z before b f = rw (by_role z.role z.raw f) refl
  where
    by_role : (r : Role) (raw : Bool) → floods r ≡ true → (is_req r && not raw) ≡ false
    by_role Pub raw f = refl
    by_role Surveyor raw f = refl
    by_role Bus raw f = refl
    by_role _ raw f = cc

pub went_out : (z : Setting) (before : List Entry) (p : ℕ) (b : List ℕ) (n : ℕ) → floods z.role ≡ true → HasCopies z (Out p b ∷ before) n
went_out z before p b n f =
    λ u. let none : not (is_resend z before b) ≡ false = u in let k : true ≡ false = rw (no_resend z before b f) at none in absurd cc

-- what it keeps for context 0 stays when a pipe goes down
pub pool_down : (z : Setting) (before : List Entry) (p : ℕ) (why : Why) → floods z.role ≡ true → pool z before 0 ≡ pool z (Down p why ∷ before) 0
pool_down z before p why f = go (is_reply z.role) (pool z before 0) (by_role z.role f)
  where
    by_role : (r : Role) → floods r ≡ true → is_reply r ≡ false
    by_role Pub f = refl
    by_role Surveyor f = refl
    by_role Bus f = refl
    by_role _ f = cc

    go : (b : Bool) (is : List Item) → b ≡ false → is ≡ cond b (filter (λ (i : Item). not (is_from p i)) is) is
    go b is h = rw h refl

pub found_full : (z : Setting) (before : List Entry) (p n : ℕ) → floods z.role ≡ true → HasCopies z before n → HasCopies z (Full p ∷ before) n
found_full z before p n f h = λ u. let k : unclaimed z before ≡ false = rw f at u in h k

pub no_longer : (xs : List ℕ) (p : ℕ) → length (without xs p) ≤ length xs
no_longer [] p = omega arith
no_longer (x ∷ xs) p = go (x == p) (no_longer xs p)
  where
    go : (b : Bool) → length (without xs p) ≤ length xs → length (cond (not b) (x ∷ without xs p) (without xs p)) ≤ length (x ∷ xs)
    go true h = omega (arith, h)
    go false h = omega (arith, h)

pub went_down : (z : Setting) (before : List Entry) (p : ℕ) (why : Why) (n : ℕ) → floods z.role ≡ true → HasCopies z before n → HasCopies z (Down p why ∷ before) n
went_down z before p why n f h =
    λ u. let k : unclaimed z before ≡ false = rw f at u in omega (arith, h k, no_longer (up before) p)

-- an entry that isn't part of a send comes only where no Out waits
none_waits : (z : Setting) (before : List Entry) (e : Entry) → goes_on z before e ≡ true → is_part_of_send z e ≡ false → unclaimed z before ≡ false
none_waits z (Unkept p ∷ before) e g k = refl
none_waits z before e g k = go (unclaimed z before) (is_part_of_send z e) k g
  where
    go : (a b : Bool) → b ≡ false → (not a || b) ≡ true → a ≡ false
    go true true k g = cc
    go true false k g = absurd cc
    go false b k g = refl

pub others : (t : Moment) (e : Entry) (n : ℕ) → Lawful (also t e) → is_part_of_send t.z e ≡ false → up (e ∷ past t) ≡ up (past t) → HasCopies t.z (past t) n → HasCopies t.z (e ∷ past t) n
others t e n l k same h =
    λ u. subst (λ (us : List ℕ). length us ≤ n) (sym same) (h (none_waits t.z (past t) e l.turn.0.goes_on k))

-- one more copy
pub each_more : (Holds : MessageView → Type 0) (xs : List MessageView) (x : MessageView) → Each Holds xs → Holds x → Each Holds (xs ++ x ∷ [])
each_more Holds [] x h e = (e, tt)
each_more Holds (y ∷ xs) x h e = (h.0, each_more Holds xs x h.1 e)

-- one copy fewer
pub each_init : (Holds : MessageView → Type 0) (xs : List MessageView) (x : MessageView) → Each Holds (xs ++ x ∷ []) → Each Holds xs × Holds x
each_init Holds [] x h = (tt, h.0)
each_init Holds (y ∷ xs) x h = let rest = each_init Holds xs x h.1 in ((h.0, rest.0), rest.1)

pub calm : (z : Setting) (before : List Entry) (n : ℕ) → Calm z before → HasCopies z before n → length (up before) ≤ n
calm z before n c h = h c.outs_claimed
