-- What the real outside shows: counts, and nothing of its content.
use Rattle.std.specs.Prelude.{◌≡◌, ◌≤◌, ℕ, Bool, List, None}
use Rattle.std.specs.FinMap.{empty, from_entries}
use Rattle.sp_base.specs.Listeners.{listens_of}
use Rattle.sp_base.specs.Views.{LinkView, NetView, PaceView}
use Rattle.sp_base.specs.declared.listeners.ListenerSchemes.{ListenerSchemes}
use Rattle.sp_real.specs.declared.link.Counts.{Counts}
use Rattle.sp_real.specs.declared.link.TcpLink.{TcpLink}

abbrev pub counts_view : Counts → LinkView
counts_view c = record { place = c.place; scheme = c.scheme; came = None; written = None; faults = c.faults; idles = c.idles; stalls = c.stalls; is_open = c.is_open; ended = c.ended }

abbrev pub link_view : TcpLink → LinkView
link_view l = counts_view l.counts

abbrev pub pace_view : ℕ → ℕ → Bool → PaceView
pace_view left latest over = record { left = left; latest = latest; is_over = over }

-- a net of such links, with those that are back by their places
abbrev pub real_net_view : ListenerSchemes → ℕ → List (ℕ × LinkView) → ℕ → ℕ → NetView
real_net_view schemes opened back faults idles = record { listens = listens_of schemes; opened = opened; back = from_entries back; faults = faults; idles = idles }

-- a net before any call
abbrev pub unasked_net : NetView
unasked_net = record { listens = empty; opened = 0; back = empty; faults = 0; idles = 0 }

-- a pace took no turn, and its time passed
abbrev pub RestsOnly : PaceView → PaceView → Type 0
RestsOnly old new = (new.left ≡ old.left) × (old.latest ≤ new.latest) × (new.is_over ≡ old.is_over)
