-- The laws of a pub as a machine.
use Rattle.std.specs.Prelude.{◌≡◌, ℕ, true, List, []}
use Rattle.sp_history.specs.declared.entry.Entry.{Entry}
use Rattle.sp_history.specs.declared.entry.Entry.TheVariants.{Frame}
use Rattle.sp_history.specs.Frames.{is_too_long}
use Rattle.sp_history.specs.declared.parts.Begun.{Begun}
use Rattle.sp_history.specs.Moments.{Moment, Lawful, past, also, IsSilent}
use Rattle.sp_proto.specs.Kinds.{Starts, kind_of}
use Rattle.sp_proto.specs.Readings.{MomentReading, stays, passes_frame, starts}
use Rattle.proto_shared.proofs.FloodTurns.{silently, past_frame}
use Rattle.proto_pubsub.specs.declared.publish.Publish.{Publish}
use Rattle.proto_pubsub.specs.Pubs.{Ties, Stands, IsFlood, pub_kind}

pub kinds : (m : Publish) (t : Moment) → Ties m t → kind_of t.z ≡ pub_kind m.raw m.options
kinds m t h = h.0.kind

pub silent : (m : Publish) (t : Moment) (e : Entry) → IsSilent e → Lawful (also t e) → Ties m t → Ties m (also t e)
silent m t e h l k = (stays Stands m t e h k.0, silently _ t e (λ (r : MomentReading) (s : Begun). IsFlood m.copies.items s.act) h k.1)

pub passes : (m : Publish) (t : Moment) (p : ℕ) (b : List ℕ) → is_too_long (past t) p b ≡ true → Lawful (also t (Frame p b)) → Ties m t → Ties m (also t (Frame p b))
passes m t p b h l k = (passes_frame Stands m t p b h k.0, past_frame _ t p b (λ (r : MomentReading) (s : Begun). IsFlood m.copies.items s.act) h k.1)

pub anew : (m : Publish) (t : Moment) → past t ≡ [] → Ties m t → Starts Ties m (pub_kind m.raw m.options)
anew m t e h slots callers caller = (starts Stands m t (pub_kind m.raw m.options) (kinds m t h) e h.0 slots callers caller, λ l. tt)
