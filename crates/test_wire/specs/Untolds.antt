-- What links show that tell nothing about their bytes.
use Rattle.std.specs.Prelude.{ℕ, List, false, None}
use Rattle.sp_base.specs.Views.{LinkView}
use Rattle.sp_base.specs.declared.addr.Scheme.TheVariants as schemes
use Rattle.sp_fakes.specs.MemLinks.{link_view}
use Rattle.sp_fakes.specs.declared.link.MemLink.{MemLink}
use Rattle.test_wire.specs.declared.tube.Tube.{Tube}

abbrev pub untold_view : MemLink → LinkView
untold_view l = record (link_view l) { came = None; written = None }

abbrev pub tube_view : Tube → LinkView
tube_view t = record {
  place = 0;
  scheme = schemes.Tcp;
  came = None;
  written = None;
  faults = t.fault_count;
  idles = t.idle_count;
  stalls = t.stall_count;
  is_open = t.opened;
  ended = false;
}

-- what was written on a tube, and the number of writes
abbrev pub written_in : Tube → List ℕ
written_in t = t.bytes.items

abbrev pub writes_of : Tube → ℕ
writes_of t = t.writes
