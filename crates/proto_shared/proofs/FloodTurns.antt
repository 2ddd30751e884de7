-- The send that goes to many pipes, from entry to entry and from turn to turn.
use Rattle.std.proofs.Common.{◌≡◌, refl, ap, sym, subst, List, [], ◌∷◌, ℕ, true, false, Some}
use Rattle.std.specs.Prelude.{IsTrue}
use Rattle.turn_lock.specs.declared.turn.Turn.{Turn}
use Rattle.sp_history.specs.declared.entry.Why.{Why}
use Rattle.sp_history.specs.declared.entry.Entry.{Entry}
use Rattle.sp_history.specs.declared.entry.Entry.TheVariants.{Down, Frame, Full}
use Rattle.sp_history.specs.declared.parts.Begun.{Begun}
use Rattle.sp_history.specs.declared.setting.Setting.{Setting}
use Rattle.sp_history.specs.Setting.{floods}
use Rattle.sp_history.specs.Lists.{head_of}
use Rattle.sp_history.specs.Frames.{is_too_long}
use Rattle.sp_history.specs.Past.{pend, up, onto, past_from}
use Rattle.sp_history.specs.Legal.{is_part_of_send, sending, LegalFrom}
use Rattle.sp_history.specs.Moments.{Moment, Lawful, past, also, next, IsSilent}
use Rattle.sp_proto.specs.Readings.{MomentReading, reading, leaves, leaves_long_frame}
use Rattle.proto_shared.specs.Copies.{HasCopies, IsOnlyFlood, HasFlood}
use Rattle.proto_shared.proofs.Copying.{lawful_before, others, went_down, found_full}

-- where no send is pending the copies don't matter
pub no_flood : (n : ℕ) (AreOf : Begun → Type 0) (t : Moment) → sending (pend (past t)) ≡ [] → HasFlood t n AreOf
no_flood n AreOf t none = λ l. subst (λ (ss : List Begun). IsOnlyFlood t.z (past t) n AreOf ss) (sym none) tt

-- where there are still enough copies, and those of the send are still its own, nothing changes
still : (z : Setting) (before after : List Entry) (n : ℕ) (AreOf BeOf : Begun → Type 0) (ss : List Begun) → (HasCopies z before n → HasCopies z after n) → ((s : Begun) → head_of ss ≡ Some s → AreOf s → BeOf s) → IsOnlyFlood z before n AreOf ss → IsOnlyFlood z after n BeOf ss
still z before after n AreOf BeOf [] h k f = tt
still z before after n AreOf BeOf (s ∷ ss) h k f = (h f.0, k s refl f.1, f.2)

-- an entry that is not part of a send or of a pipe, and leaves the pending sends unchanged, doesn't concern the copies
pub goes_on : {AreOf BeOf : Begun → Type 0} (n : ℕ) (t : Moment) (e : Entry) → is_part_of_send t.z e ≡ false → up (e ∷ past t) ≡ up (past t) → sending (pend (e ∷ past t)) ≡ sending (pend (past t)) → ((s : Begun) → head_of (sending (pend (past t))) ≡ Some s → AreOf s → BeOf s) → HasFlood t n AreOf → HasFlood (also t e) n BeOf
goes_on {AreOf} {BeOf} n t e part same stay k h =
    λ l. subst (λ (ss : List Begun). IsOnlyFlood t.z (e ∷ past t) n BeOf ss) (sym stay) (still t.z (past t) (e ∷ past t) n AreOf BeOf (sending (pend (past t))) (others t e n l part same) k (h (lawful_before t e l)))

-- nor does that of a pipe that goes down
pub pipe_down : (n : ℕ) (AreOf : Begun → Type 0) (t : Moment) (p : ℕ) (why : Why) → floods t.z.role ≡ true → HasFlood t n AreOf → HasFlood (also t (Down p why)) n AreOf
pipe_down n AreOf t p why f h = λ l. still t.z (past t) (Down p why ∷ past t) n AreOf AreOf (sending (pend (past t))) (went_down t.z (past t) p why n f) (λ s e k. k) (h (lawful_before t (Down p why) l))

-- nor does that of a pipe that is found full
pub pipe_full : (n : ℕ) (AreOf : Begun → Type 0) (t : Moment) (p : ℕ) → floods t.z.role ≡ true → HasFlood t n AreOf → HasFlood (also t (Full p)) n AreOf
pipe_full n AreOf t p f h = λ l. still t.z (past t) (Full p ∷ past t) n AreOf AreOf (sending (pend (past t))) (found_full t.z (past t) p n f) (λ s e k. k) (h (lawful_before t (Full p) l))

-- nor does an entry that leaves the reading, where sends and copies depend only on it
as_read : (n : ℕ) (t : Moment) (e : Entry) (AreOf : MomentReading → Begun → Type 0) → reading t ≡ reading (also t e) → is_part_of_send t.z e ≡ false → HasFlood t n (AreOf (reading t)) → HasFlood (also t e) n (AreOf (reading (also t e)))
as_read n t e AreOf same part k =
    subst (λ (r : MomentReading). Lawful (also t e) → IsOnlyFlood t.z (e ∷ past t) n (AreOf r) (sending r.pend)) same
    (λ l. still t.z (past t) (e ∷ past t) n (AreOf (reading t)) (AreOf (reading t)) (sending (pend (past t))) (others t e n l part (sym (ap (λ (r : MomentReading). r.up) same))) (λ s q x. x) (k (lawful_before t e l)))

-- so doesn't one that no protocol is told
pub silently : (n : ℕ) (t : Moment) (e : Entry) (AreOf : MomentReading → Begun → Type 0) → IsSilent e → HasFlood t n (AreOf (reading t)) → HasFlood (also t e) n (AreOf (reading (also t e)))
silently n t e AreOf h k = as_read n t e AreOf (leaves t e h).0 (leaves t e h).1 k

-- nor a frame above its pipe's limit
pub past_frame : (n : ℕ) (t : Moment) (p : ℕ) (b : List ℕ) (AreOf : MomentReading → Begun → Type 0) → is_too_long (past t) p b ≡ true → HasFlood t n (AreOf (reading t)) → HasFlood (also t (Frame p b)) n (AreOf (reading (also t (Frame p b))))
past_frame n t p b AreOf h k = as_read n t (Frame p b) AreOf (leaves_long_frame t p b h) refl k

-- no such send is pending when a turn begins
pub turn_begins : (n : ℕ) (AreOf : Begun → Type 0) (t : Moment) (k : ℕ) → Lawful (next t k) → floods t.z.role ≡ true → HasFlood (next t k) n AreOf
turn_begins n AreOf t k l f = no_flood n AreOf (next t k) (subst (λ (before : List Entry). sending (pend before) ≡ []) (sym l.before) (go t.z [] l.history l.legal (λ g. refl) f))
  where
    go : (z : Setting) (before : List Entry) (history : List (Turn Entry)) → LegalFrom z before history → (IsTrue (floods z.role) → sending (pend before) ≡ []) → IsTrue (floods z.role) → sending (pend (past_from before history)) ≡ []
    go z before [] l n = n
    go z before (t ∷ history) l n = go z (onto t.entries before) history l.1 l.0.whole.no_flood
