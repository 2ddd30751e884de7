-- The laws of a pair as a machine.
use Rattle.std.specs.Prelude.{◌≡◌, ℕ, true, List, []}
use Rattle.sp_history.specs.declared.entry.Entry.{Entry}
use Rattle.sp_history.specs.declared.entry.Entry.TheVariants.{Frame}
use Rattle.sp_history.specs.Frames.{is_too_long}
use Rattle.sp_history.specs.Moments.{Moment, Lawful, past, also, IsSilent}
use Rattle.sp_proto.specs.Kinds.{Starts, kind_of}
use Rattle.sp_proto.specs.Readings.{stays, passes_frame, starts}
use Rattle.proto_pair.specs.declared.Pair.{Pair}
use Rattle.proto_pair.specs.Pairs.{Ties, Stands, kind_for}

pub kinds : (m : Pair) (t : Moment) → Ties m t → kind_of t.z ≡ kind_for m.version m.raw m.options
kinds m t h = h.kind

pub silent : (m : Pair) (t : Moment) (e : Entry) → IsSilent e → Lawful (also t e) → Ties m t → Ties m (also t e)
silent m t e h l k = stays Stands m t e h k

pub passes : (m : Pair) (t : Moment) (p : ℕ) (b : List ℕ) → is_too_long (past t) p b ≡ true → Lawful (also t (Frame p b)) → Ties m t → Ties m (also t (Frame p b))
passes m t p b h l k = passes_frame Stands m t p b h k

pub anew : (m : Pair) (t : Moment) → past t ≡ [] → Ties m t → Starts Ties m (kind_for m.version m.raw m.options)
anew m t e h = starts Stands m t (kind_for m.version m.raw m.options) (kinds m t h) e h
