-- What a link in memory shows.
use Rattle.std.specs.Prelude.{ℕ, true, false, List, [], Some}
use Rattle.sp_base.specs.Views.{LinkView}
use Rattle.sp_base.specs.declared.addr.Scheme.{Scheme}
use Rattle.sp_fakes.specs.Scripts.{given, left_at, LinkScript}
use Rattle.sp_fakes.specs.declared.link.MemLink.{MemLink}

-- what came is what the script gives, as far as it was read
abbrev pub link_view : MemLink → LinkView
link_view l = record {
  place = l.number;
  scheme = l.scheme;
  came = Some (given l.script.items l.at l.offset);
  written = Some l.kept.items;
  faults = l.fault_count;
  idles = l.idle_count;
  stalls = l.stall_count;
  is_open = l.opened;
  ended = l.at_end;
}

-- what was written
abbrev pub written_on : MemLink → List ℕ
written_on l = l.kept.items

-- its script from now on
abbrev pub link_script : MemLink → LinkScript
link_script l = record { left = left_at l.script.items l.at l.offset; most = l.most; writes = record { made = l.writes; fails = l.fails.items } }

-- its script when it was made
abbrev pub as_made : MemLink → LinkScript
as_made l = record { left = l.script.items; most = l.most; writes = record { made = 0; fails = l.fails.items } }

-- an open link of which nothing was read or written
abbrev pub unread_at : ℕ → Scheme → LinkView
unread_at number scheme = record {
  place = number;
  scheme = scheme;
  came = Some [];
  written = Some [];
  faults = 0;
  idles = 0;
  stalls = 0;
  is_open = true;
  ended = false;
}
