-- One more end.
use Rattle.std.specs.Prelude.{◌≡◌, ◌≤◌, ◌++◌, ℕ, [], ◌∷◌, Some, None, Result, Ok, Err}
use Rattle.std.specs.FinMap.{get, insert}
use Rattle.sp_base.specs.Outside.{Rose}
use Rattle.sp_base.specs.Views.{NetView}
use Rattle.sp_base.specs.declared.addr.Scheme.{Scheme}
use Rattle.sp_base.specs.Addresses.{scheme_of}
use Rattle.sp_ends.specs.declared.dialer.Dialer.{Dialer}
use Rattle.sp_ends.specs.declared.listener.Listener.{Listener}
use Rattle.sp_ends.specs.Dialing.{IsDialable}
use Rattle.sp_base.specs.Steps.{Untouched}
use Rattle.sp_base.specs.declared.addr.Addr.{Addr}
use Rattle.sp_ends.specs.EndViews.{LinkEndsView, EndsView}
use Rattle.sp_base.specs.declared.addr.Addr.TheVariants as addrs
use Rattle.sp_lane.specs.Registry.{Registry}
use Rattle.sp_ends.specs.declared.error.EndError.{EndError}
use Rattle.sp_ends.specs.declared.error.EndError.TheVariants as errors
use Rattle.sp_ends.specs.AddedNames.{ListensName, DialsName}

-- the net listens under a new number
pub record ListensAt (at : ℕ) (scheme : Scheme) (old new : NetView) : Type 0 where
  pub fresh : get old.listens at ≡ None
  pub listens : new.listens ≡ insert old.listens at scheme
  pub opened : new.opened ≡ old.opened
  pub back : new.back ≡ old.back
  pub faults : old.faults ≤ new.faults
  pub idles : new.idles ≡ old.idles

-- the net failed to listen
pub record FailsToListen (old new : NetView) : Type 0 where
  pub untouched : Untouched old new
  pub fault : Rose old.faults new.faults
  pub later : old.faults ≤ new.faults
  pub idles : new.idles ≡ old.idles

-- one more listener, or none and why
abbrev pub ListensLink : {L : Type 0} → Result (Unit {0}) EndError → Addr → ℕ → LinkEndsView L → LinkEndsView L → NetView → NetView → Type 0
ListensLink (Ok done) addr max old new net net' =
    (l : Listener) × (l.addr ≡ addr) × (l.max ≡ max) × (new ≡ record old { listeners = old.listeners ++ l ∷ [] }) × ListensAt l.at (scheme_of addr) net net'
ListensLink (Err errors.Fault) addr max old new net net' = (new ≡ old) × FailsToListen net net'
ListensLink (Err errors.InUse) addr max old new net net' = ⊥
ListensLink (Err errors.NoMemory) addr max old new net net' = (new ≡ old) × (net' ≡ net)

-- a dialer of this address that has not dialed yet, with this receive limit
pub record IsNewDialer (addr : Addr) (max : ℕ) (d : Dialer) : Type 0 where
  pub addr_is : d.addr ≡ addr
  pub max_is : d.max ≡ max
  pub dialable : IsDialable d.addr
  pub next : d.next ≡ Some 0
  pub place : d.place ≡ None
  pub tries : d.tries ≡ 0

-- one more dialer, or none when out of memory
abbrev pub DialsLink : {L : Type 0} → Result (Unit {0}) EndError → Addr → ℕ → LinkEndsView L → LinkEndsView L → Type 0
DialsLink (Ok done) addr max old new = (d : Dialer) × IsNewDialer addr max d × (new ≡ record old { dialers = old.dialers ++ d ∷ [] })
DialsLink (Err errors.Fault) addr max old new = ⊥
DialsLink (Err errors.InUse) addr max old new = ⊥
DialsLink (Err errors.NoMemory) addr max old new = new ≡ old

-- ---- Either

abbrev pub ListensAlso : {L : Type 0} → Result (Unit {0}) EndError → Addr → ℕ → EndsView L → EndsView L → NetView → NetView → Registry → Registry → Type 0
ListensAlso result (addrs.Tcp host port) max old new net net' reg reg' =
    ListensLink result (addrs.Tcp host port) max old.links new.links net net' × (new.names ≡ old.names) × (reg' ≡ reg)
ListensAlso result (addrs.Ws host port path) max old new net net' reg reg' =
    ListensLink result (addrs.Ws host port path) max old.links new.links net net' × (new.names ≡ old.names) × (reg' ≡ reg)
ListensAlso result (addrs.Ipc path) max old new net net' reg reg' =
    ListensLink result (addrs.Ipc path) max old.links new.links net net' × (new.names ≡ old.names) × (reg' ≡ reg)
ListensAlso result (addrs.Inproc name) max old new net net' reg reg' =
    ListensName result name old.links.role old.names new.names reg reg' × (new.links ≡ old.links) × (net' ≡ net)

abbrev pub DialsAlso : {L : Type 0} → Result (Unit {0}) EndError → Addr → ℕ → EndsView L → EndsView L → Type 0
DialsAlso result (addrs.Tcp host port) max old new = DialsLink result (addrs.Tcp host port) max old.links new.links × (new.names ≡ old.names)
DialsAlso result (addrs.Ws host port path) max old new = DialsLink result (addrs.Ws host port path) max old.links new.links × (new.names ≡ old.names)
DialsAlso result (addrs.Ipc path) max old new = DialsLink result (addrs.Ipc path) max old.links new.links × (new.names ≡ old.names)
DialsAlso result (addrs.Inproc name) max old new = DialsName result name old.names new.names × (new.links ≡ old.links)
