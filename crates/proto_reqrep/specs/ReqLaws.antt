-- The laws of a req as a machine.
use Rattle.std.specs.Prelude.{◌≡◌, ℕ, List, true, [], is_some}
use Rattle.std.proofs.Common.{refl, ap, sym}
use Rattle.sp_history.specs.declared.entry.Entry.{Entry}
use Rattle.sp_history.specs.declared.entry.Entry.TheVariants.{Frame}
use Rattle.sp_history.specs.Frames.{is_too_long}
use Rattle.sp_history.specs.Moments.{Moment, Lawful, past, also, IsSilent}
use Rattle.sp_proto.specs.Kinds.{Starts, kind_of}
use Rattle.sp_proto.specs.Readings.{stays, passes_frame, starts}
use Rattle.proto_reqrep.specs.declared.req.Asking.{Asking}
use Rattle.proto_reqrep.specs.declared.req.Request.{Request as Machine}
use Rattle.proto_reqrep.specs.Reqs.{Ties, Stands, req_kind}

pub kinds : (m : Machine) (t : Moment) → Ties m t → kind_of t.z ≡ req_kind m.raw m.options
kinds m t h = h.0.kind

pub silent : (m : Machine) (t : Moment) (e : Entry) → IsSilent e → Lawful (also t e) → Ties m t → Ties m (also t e)
silent m t e h l k = stays Stands m t e h k

pub passes : (m : Machine) (t : Moment) (p : ℕ) (b : List ℕ) → is_too_long (past t) p b ≡ true → Lawful (also t (Frame p b)) → Ties m t → Ties m (also t (Frame p b))
passes m t p b h l k = passes_frame Stands m t p b h k

pub anew : (m : Machine) (t : Moment) → past t ≡ [] → Ties m t → Starts Ties m (req_kind m.raw m.options)
anew m t e h = starts Stands m t (req_kind m.raw m.options) (kinds m t h) e h

-- what stays unchanged when a request ends
pub left_same : (w : Asking) → (w.op ≡ w.op) × (w.ctx ≡ w.ctx) × (is_some w.message ≡ is_some w.message)
left_same w = (refl, refl, refl)

pub left_again : (w : Asking) → w.is_orphan ≡ true → record { op = w.op; ctx = w.ctx; message = w.message; is_orphan = true } ≡ w
left_again w h = ap (λ b. record { op = w.op; ctx = w.ctx; message = w.message; is_orphan = b }) (sym h)

pub left_is : (w : Asking) → true ≡ true → true ≡ true
left_is w h = refl
