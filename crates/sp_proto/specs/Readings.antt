-- All that a machine reads of a moment. An entry that no protocol is told leaves it unchanged.
use Rattle.std.specs.Prelude.{◌≡◌, ⊤, ℕ, Bool, true, false, if◌then◌else◌, List, [], ◌∷◌, ◌++◌, find, Option, None}
use Rattle.std.proofs.Common.{refl, ap, sym, ◌∙◌, subst}
use Rattle.std.proofs.Math.Path.{fun_ext}
use Rattle.sp_base.specs.declared.OpName.{OpName}
use Rattle.sp_history.specs.declared.entry.RecordedAct.{RecordedAct}
use Rattle.sp_history.specs.declared.entry.RecordedAct.TheVariants as acts
use Rattle.sp_history.specs.declared.entry.Entry.{Entry}
use Rattle.sp_history.specs.declared.entry.Entry.TheVariants.{Up, Down, Frame, Out, Met, NoUp, Quiet, Stall, Clear, Taken, Took}
use Rattle.sp_history.specs.declared.parts.Begun.{Begun}
use Rattle.sp_history.specs.declared.parts.Item.{Item}
use Rattle.sp_history.specs.declared.parts.Origin.{Origin}
use Rattle.sp_history.specs.declared.parts.Requests.{Requests}
use Rattle.sp_history.specs.declared.setting.Setting.{Setting}
use Rattle.sp_history.specs.Lists.{without}
use Rattle.sp_history.specs.Past.{pend, ctxs, topics, up, ups, now}
use Rattle.sp_history.specs.Kept.{pool, stored, route}
use Rattle.sp_history.specs.Frames.{malformed, is_too_long}
use Rattle.sp_history.proofs.Malformed.{pool_same, requests_same, too_long}
use Rattle.sp_history.specs.Requests.{requests, is_on, is_orphan}
use Rattle.sp_history.specs.Sends.{bytes_for, bytes_of, bytes_of_act}
use Rattle.sp_history.specs.Settled.{has_full, is_dry}
use Rattle.sp_history.specs.Legal.{is_part_of_send}
use Rattle.sp_history.specs.Moments.{Moment, past, also, IsSilent}
use Rattle.sp_proto.specs.Kinds.{Kind, Starts, kind_of, setting_of, start}

-- the pipes that are up, in the order in which they were last used: came up, or got a message
abbrev pub in_turn : List Entry → List ℕ
in_turn [] = []
in_turn (Up p place limit name ∷ past) = in_turn past ++ p ∷ []
in_turn (Down p why ∷ past) = without (in_turn past) p
in_turn (Out p b ∷ past) = without (in_turn past) p ++ p ∷ []
in_turn (_ ∷ past) = in_turn past

-- the pipe of the last Out, or 0
abbrev pub out_last : List Entry → ℕ
out_last [] = 0
out_last (Out p b ∷ past) = p
out_last (_ ∷ past) = out_last past

-- what a machine may depend on
pub record MomentReading : Type 0 where
  pub kind : Kind
  -- the pipes that are up, in the order in which they came up, and in the order in which they were last used; the
  -- number of the last one that came up, and of the last Out; those that were found full in this turn
  pub up : List ℕ
  pub in_turn : List ℕ
  pub ups : ℕ
  pub out_last : ℕ
  pub full : ℕ → Bool
  -- the open contexts; for each, what is kept for it, its topics, the request stored with it, and whether it is dry
  pub ctxs : List ℕ
  pub pool : ℕ → List Item
  pub topics : ℕ → List (List ℕ)
  pub stored : ℕ → Option Origin
  pub dry : ℕ → Bool
  -- the pending operations; for each, the request that it answers, and the bytes of a send
  pub pend : List Begun
  pub route : OpName → Option Origin
  pub bytes : Begun → Option (List ℕ)
  pub requests : Requests
  pub now : ℕ

abbrev pub reading : Moment → MomentReading
reading t =
    record {
      kind = kind_of t.z;
      up = up (past t);
      in_turn = in_turn (past t);
      ups = ups (past t);
      out_last = out_last (past t);
      full = λ q. has_full t.turn q;
      ctxs = ctxs (past t);
      pool = λ c. pool t.z (past t) c;
      topics = λ c. topics (past t) c;
      stored = λ c. stored t.z (past t) c;
      dry = λ c. is_dry (past t) c;
      pend = pend (past t);
      route = λ op. route t.z (past t) op;
      bytes = λ s. bytes_of t.z (past t) s;
      requests = requests t.z (past t);
      now = now (past t);
    }

-- it leaves all of that, and is not part of a send
pub leaves : (t : Moment) (e : Entry) → IsSilent e → (reading t ≡ reading (also t e)) × (is_part_of_send t.z e ≡ false)
leaves t (Met place) h = (refl, refl)
leaves t (NoUp place miss) h = (refl, refl)
leaves t (Quiet p) h = (refl, refl)
leaves t (Stall p) h = (refl, refl)
leaves t (Clear p) h = (refl, refl)
leaves t (Taken p) h = (refl, refl)
leaves t (Took op by) h = (refl, refl)
leaves t _ h = absurd h

-- so a machine that depends only on the reading stands as before
pub stays : {M : Type 0} (Stands : M → MomentReading → Type 0) (m : M) (t : Moment) (e : Entry) → IsSilent e → Stands m (reading t) → Stands m (reading (also t e))
stays Stands m t e h k = subst (Stands m) (leaves t e h).0 k

-- ---- A frame above its pipe's limit

-- a malformed frame leaves what a machine reads
leaves_frame : (t : Moment) (p : ℕ) (b : List ℕ) → malformed t.z (past t) p b ≡ true → reading t ≡ reading (also t (Frame p b))
leaves_frame t p b h =
    ap (λ (f : ℕ → List Item). record (reading t) { pool = f }) pools
    ∙ ap (λ (f : Begun → Option (List ℕ)). record (reading t) { pool = λ c. pool t.z (Frame p b ∷ past t) c; bytes = f }) texts
    ∙ ap (λ (rs : Requests). record (reading t) { pool = λ c. pool t.z (Frame p b ∷ past t) c; bytes = λ s. bytes_of t.z (Frame p b ∷ past t) s; requests = rs }) asked
  where
    asked : requests t.z (past t) ≡ requests t.z (Frame p b ∷ past t)
    asked = sym (requests_same t.z (past t) p b h)

    pools : ◌≡◌ {A = ℕ → List Item} (λ c. pool t.z (past t) c) (λ c. pool t.z (Frame p b ∷ past t) c)
    pools = fun_ext (λ c. sym (pool_same t.z (past t) p b c h))

    bytes : (s : Begun) (a : RecordedAct) → bytes_of_act t.z (past t) s a ≡ bytes_of_act t.z (Frame p b ∷ past t) s a
    bytes s acts.Recv = refl
    bytes s (acts.Send m) =
        ap (λ (rs : Requests). bytes_for t.z.role t.z.raw (route t.z (past t) s.op) (if is_orphan rs s.op then None else find (is_on s.ctx) rs.live) m) asked

    texts : ◌≡◌ {A = Begun → Option (List ℕ)} (λ s. bytes_of t.z (past t) s) (λ s. bytes_of t.z (Frame p b ∷ past t) s)
    texts = fun_ext (λ s. bytes s s.act)

pub leaves_long_frame : (t : Moment) (p : ℕ) (b : List ℕ) → is_too_long (past t) p b ≡ true → reading t ≡ reading (also t (Frame p b))
leaves_long_frame t p b h = leaves_frame t p b (too_long t.z (past t) p b h)

-- so a machine that depends only on the reading stands as before
pub passes_frame : {M : Type 0} (Stands : M → MomentReading → Type 0) (m : M) (t : Moment) (p : ℕ) (b : List ℕ) → is_too_long (past t) p b ≡ true → Stands m (reading t) → Stands m (reading (also t (Frame p b)))
passes_frame Stands m t p b h k = subst (Stands m) (leaves_long_frame t p b h) k

-- ---- An empty past

abbrev IsNil : List Entry → Type 0
IsNil [] = ⊤
IsNil (e ∷ es) = ⊥

-- it is the reading that a socket of this kind begins with
pub reads_alike : (t : Moment) (slots callers caller : ℕ) → past t ≡ [] → reading t ≡ reading (start (setting_of (kind_of t.z) slots callers) caller)
reads_alike t slots callers caller e = go t.turn t.before e
  where
    other : Setting
    other = setting_of (kind_of t.z) slots callers

    bytes : (s : Begun) (a : RecordedAct) → bytes_of_act t.z [] s a ≡ bytes_of_act other [] s a
    bytes s acts.Recv = refl
    bytes s (acts.Send m) = refl

    go : (turn before : List Entry) → turn ++ before ≡ [] → reading (record { z = t.z; caller = t.caller; before = before; turn = turn }) ≡ reading (start other caller)
    go [] [] h = ap (λ (f : Begun → Option (List ℕ)). record (reading (start other caller)) { bytes = f }) (fun_ext (λ s. bytes s s.act))
    go [] (e ∷ before) h = absurd (subst IsNil (sym h) tt)
    go (e ∷ turn) before h = absurd (subst IsNil (sym h) tt)

-- so a machine that depends only on the reading stands for the empty past of every socket of its kind
pub starts : {M : Type 0} (Stands : M → MomentReading → Type 0) (m : M) (t : Moment) (k : Kind) → kind_of t.z ≡ k → past t ≡ [] → Stands m (reading t) → Starts (λ (n : M) (u : Moment). Stands n (reading u)) m k
starts Stands m t k h e s slots callers caller =
    subst (λ (j : Kind). Stands m (reading (start (setting_of j slots callers) caller))) h (subst (Stands m) (reads_alike t slots callers caller e) s)
