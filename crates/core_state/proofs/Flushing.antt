-- The pipes after a flush.
use Rattle.std.proofs.Common.{◌≡◌, refl, ap, sym, ◌∙◌, subst, List, ◌∷◌, ℕ, ◌≤◌, Bool, true, false, arith}
use Rattle.std.specs.Prelude.{◌||◌}
use Rattle.sp_msg.specs.Views.{WireView}
use Rattle.sp_msg.specs.Marks.{one_more}
use Rattle.sp_msg.specs.Wires.{AfterRoom, AfterFlush, may_flush}
use Rattle.sp_msg.specs.declared.wire.Room.TheVariants as rooms
use Rattle.sp_msg.specs.declared.wire.WireFlush.TheVariants as flushes
use Rattle.sp_history.specs.declared.entry.Entry.{Entry}
use Rattle.sp_history.specs.declared.entry.Entry.TheVariants.{Stall, Clear}
use Rattle.sp_history.specs.Past.{stalls}
use Rattle.sp_history.specs.Wires.{Agrees}
use Rattle.core_state.specs.Wires.{state_of, IsUpWire}
use Rattle.core_state.proofs.ChangedWires.{same_number, most_more}

pub open_flushes : (w : WireView) → w.is_open ≡ true → may_flush w ≡ true
open_flushes w h = go w.drains w.is_open h
  where
    go : (d b : Bool) → b ≡ true → (d || b) ≡ true
    go true b k = refl
    go false b k = k

stall_agrees : (before : List Entry) (p : ℕ) (w v : WireView) → Agrees before p w → v.waits ≤ w.waits → v ≡ record w { waits = v.waits; stalls = one_more w.stalls } → Agrees (Stall p ∷ before) p v
stall_agrees before p w v h l e =
    subst (λ (x : WireView). Agrees (Stall p ∷ before) p x) (sym e) (record {
      name_is = h.name_is;
      came_is = h.came_is;
      outs_is = h.outs_is;
      waits_is = λ c. let z = h.waits_is c in omega (arith, z, l);
      fulls_is = h.fulls_is;
      idles_is = h.idles_is;
      stalls_is = rw (same_number p, h.stalls_is) (most_more (stalls before p) _);
    })

clear_agrees : (before : List Entry) (p : ℕ) (w v : WireView) → Agrees before p w → v.waits ≡ 0 → v ≡ record w { waits = v.waits } → Agrees (Clear p ∷ before) p v
clear_agrees before p w v h l e =
    subst (λ (x : WireView). Agrees (Clear p ∷ before) p x) (sym e) (record {
      name_is = h.name_is;
      came_is = h.came_is;
      outs_is = h.outs_is;
      waits_is = λ c. l;
      fulls_is = h.fulls_is;
      idles_is = h.idles_is;
      stalls_is = h.stalls_is;
    })

pub stalled : (before : List Entry) (p : ℕ) (w v : WireView) → IsUpWire before p w → AfterFlush flushes.NotYet w v → IsUpWire (Stall p ∷ before) p v
stalled before p w v h a =
    record { agrees = stall_agrees before p (state_of w) (state_of v) h.agrees a.waits (ap state_of a.shows.0); is_open = ap (λ (x : WireView). x.is_open) a.shows.0 ∙ h.is_open }

pub cleared : (before : List Entry) (p : ℕ) (w v : WireView) → IsUpWire before p w → AfterFlush flushes.Empty w v → IsUpWire (Clear p ∷ before) p v
cleared before p w v h a =
    record { agrees = clear_agrees before p (state_of w) (state_of v) h.agrees a.shows.1 (ap state_of a.shows.0); is_open = ap (λ (x : WireView). x.is_open) a.shows.0 ∙ h.is_open }

-- a flush that ends the wire changes it as asking for room does
pub as_failed : (w v : WireView) → AfterFlush flushes.Failed w v → AfterRoom rooms.Failed w v
as_failed w v a = record { shows = a.shows.0; waits = a.waits }

pub as_refused : (w v : WireView) → AfterFlush flushes.Refused w v → AfterRoom rooms.Refused w v
as_refused w v a = record { shows = a.shows.0; waits = a.waits }

pub as_without_memory : (w v : WireView) → AfterFlush flushes.NoMemory w v → AfterRoom rooms.NoMemory w v
as_without_memory w v a = record { shows = a.shows.0; waits = a.waits }
