-- What a sink in memory shows, and what a put of it does.
use Rattle.std.specs.Prelude.{◌≡◌, Bool, List, ℕ, Some, false}
use Rattle.sp_base.specs.Views.{SinkView}
use Rattle.sp_base.specs.declared.outside.Sunk.{Sunk}
use Rattle.sp_base.specs.declared.outside.Sunk.TheVariants as sunk
use Rattle.sp_msg.specs.Marks.{one_more}
use Rattle.sp_base.specs.Outside.{grown}
use Rattle.sp_fakes.specs.Calls.{Calls}
use Rattle.sp_fakes.specs.declared.sink.MemSink.{MemSink}

abbrev pub sink_view : MemSink → SinkView
sink_view s = record { text = Some s.kept.items; faults = s.fault_count }

-- the puts, and those of them that fail
abbrev pub puts_of : MemSink → Calls
puts_of s = record { made = s.puts; fails = s.fails.items }

-- a put fails if it is listed, or there is no memory for it; then nothing of its piece is kept
abbrev pub PutBy : Sunk → Bool → List ℕ → SinkView → SinkView → Type 0
PutBy sunk.Done listed piece old new = (listed ≡ false) × (new ≡ record { text = grown old.text piece; faults = old.faults })
PutBy sunk.Failed listed piece old new = new ≡ record { text = old.text; faults = one_more old.faults }
