-- One end more of a node, or none and why.
use Rattle.std.specs.Prelude.{◌≡◌, ◌≤◌, ◌<◌, ◌++◌, ℕ, true, false, List, [], ◌∷◌, Result, Ok, Err}
use Rattle.sp_base.specs.Outside.{Rose}
use Rattle.sp_base.specs.Addresses.{Spells, AddrFails, is_linked, is_dialable}
use Rattle.sp_base.specs.declared.addr.Addr.{Addr}
use Rattle.sp_base.specs.declared.addr.Addr.TheVariants as addrs
use Rattle.sp_base.specs.declared.addr.AddrError.TheVariants as reads
use Rattle.sp_links.specs.Origins.{IsAmong}
use Rattle.sp_ends.specs.declared.listener.Listener.{Listener}
use Rattle.sp_ends.specs.declared.dialer.Dialer.{Dialer}
use Rattle.sp_ends.specs.declared.name_dialer.NameDialer.{NameDialer}
use Rattle.sp_ends.specs.declared.error.EndError.{EndError}
use Rattle.sp_ends.specs.declared.error.EndError.TheVariants as refusals
use Rattle.sp_ends.specs.AddedEnds.{IsNewDialer}
use Rattle.sp_ends.specs.AddedNames.{IsNewNameDialer}
use Rattle.sp_ends.specs.EndViews.{EndsView}
use Rattle.sp_node.specs.declared.error.EndsError.{EndsError}
use Rattle.sp_node.specs.declared.error.EndsError.TheVariants as errors
use Rattle.sp_node.specs.NewNodes.{NewNodeView, count_of}

-- ---- Listening

-- one listener more of this address and this receive limit, which is the last
abbrev pub OneListener : {L : Type 0} → Addr → ℕ → EndsView L → EndsView L → Type 0
OneListener addr max old new =
    (l : Listener) × (l.addr ≡ addr) × (l.max ≡ max) × (new ≡ record old { links = record old.links { listeners = old.links.listeners ++ l ∷ [] } })

-- one name more, which was not listened on
abbrev pub OneName : {L : Type 0} → List ℕ → EndsView L → EndsView L → Type 0
OneName name old new =
    (IsAmong name old.names.names → ⊥) × (new ≡ record old { names = record old.names { names = old.names.names ++ name ∷ [] } })

abbrev pub OneListen : {L : Type 0} → Addr → ℕ → EndsView L → EndsView L → Type 0
OneListen (addrs.Tcp host port) max old new = OneListener (addrs.Tcp host port) max old new
OneListen (addrs.Ws host port path) max old new = OneListener (addrs.Ws host port path) max old new
OneListen (addrs.Ipc path) max old new = OneListener (addrs.Ipc path) max old new
OneListen (addrs.Inproc name) max old new = OneName name old new

-- the name is listened on within the process
abbrev pub IsInUse : {L : Type 0} → Addr → EndsView L → Type 0
IsInUse (addrs.Inproc name) e = IsAmong name e.names.names
IsInUse _ e = ⊥

-- why there is none: the node has 64 ends, its net failed, or the name is in use
abbrev pub RefusesListen : {L : Type 0} → EndsError → Addr → EndsView L → ℕ → ℕ → Type 0
RefusesListen errors.Many addr e before now = (64 ≤ count_of e) × (now ≡ before)
RefusesListen errors.Fault addr e before now = (is_linked addr ≡ true) × Rose before now × (before ≤ now)
RefusesListen errors.InUse addr e before now = IsInUse addr e × (now ≡ before)
RefusesListen errors.NoMemory addr e before now = now ≡ before
RefusesListen errors.Host addr e before now = ⊥
RefusesListen (errors.Address at) addr e before now = ⊥

-- one end more where there were fewer than 64; or the ends as they were, and why
abbrev pub Listens : {L : Type 0} → Result (Unit {0}) EndsError → Addr → ℕ → NewNodeView L → NewNodeView L → Type 0
Listens (Ok done) addr max old new =
    (count_of old.ends < 64) × OneListen addr max old.ends new.ends × (new.single ≡ old.single) × (old.faults ≤ new.faults)
Listens (Err e) addr max old new =
    RefusesListen e addr old.ends old.faults new.faults × (new.ends ≡ old.ends) × (new.single ≡ old.single)

-- ---- Dialing

-- its host can be dialed, or it is a name within the process
abbrev pub MayDial : Addr → Type 0
MayDial addr = is_linked addr ≡ true → is_dialable addr ≡ true

-- one dialer more of this receive limit, which has not dialed yet and is the last
abbrev pub OneDialer : {L : Type 0} → Addr → ℕ → EndsView L → EndsView L → Type 0
OneDialer addr max old new =
    (d : Dialer) × IsNewDialer addr max d × (new ≡ record old { links = record old.links { dialers = old.links.dialers ++ d ∷ [] } })

abbrev pub OneCaller : {L : Type 0} → List ℕ → EndsView L → EndsView L → Type 0
OneCaller name old new =
    (c : NameDialer) × IsNewNameDialer name c × (new ≡ record old { names = record old.names { callers = old.names.callers ++ c ∷ [] } })

abbrev pub OneDial : {L : Type 0} → Addr → ℕ → EndsView L → EndsView L → Type 0
OneDial (addrs.Tcp host port) max old new = OneDialer (addrs.Tcp host port) max old new
OneDial (addrs.Ws host port path) max old new = OneDialer (addrs.Ws host port path) max old new
OneDial (addrs.Ipc path) max old new = OneDialer (addrs.Ipc path) max old new
OneDial (addrs.Inproc name) max old new = OneCaller name old new

-- why there is none: its host is `*`, or the node has 64 ends
abbrev pub RefusesDial : {L : Type 0} → EndsError → Addr → EndsView L → Type 0
RefusesDial errors.Host addr e = (is_linked addr ≡ true) × (is_dialable addr ≡ false)
RefusesDial errors.Many addr e = MayDial addr × (64 ≤ count_of e)
RefusesDial errors.NoMemory addr e = Unit {0}
RefusesDial _ addr e = ⊥

abbrev pub Dials : {L : Type 0} → Result (Unit {0}) EndsError → Addr → ℕ → NewNodeView L → NewNodeView L → Type 0
Dials (Ok done) addr max old new =
    MayDial addr × (count_of old.ends < 64) × OneDial addr max old.ends new.ends × (new.single ≡ old.single) × (new.faults ≡ old.faults)
Dials (Err e) addr max old new = RefusesDial e addr old.ends × (new ≡ old)

-- ---- By the text of an address

-- the text is no address, from here on; or it is one, of which this is said
abbrev pub OfText : Result (Unit {0}) EndsError → List ℕ → (Addr → Type 0) → Type 0 → Type 0
OfText (Err (errors.Address at)) text says same = AddrFails (reads.Fault at) text × same
OfText (Err errors.NoMemory) text says same = same
OfText (Err errors.Host) text says same = (addr : Addr) × Spells addr text × says addr
OfText (Err errors.Fault) text says same = (addr : Addr) × Spells addr text × says addr
OfText (Err errors.InUse) text says same = (addr : Addr) × Spells addr text × says addr
OfText (Err errors.Many) text says same = (addr : Addr) × Spells addr text × says addr
OfText (Ok done) text says same = (addr : Addr) × Spells addr text × says addr

-- the address of a text, or why there is none
abbrev pub ReadsAddress : Result Addr EndsError → List ℕ → Type 0
ReadsAddress (Ok addr) text = Spells addr text
ReadsAddress (Err (errors.Address at)) text = AddrFails (reads.Fault at) text
ReadsAddress (Err errors.NoMemory) text = Unit {0}
ReadsAddress (Err _) text = ⊥

abbrev pub error_of : EndError → EndsError
error_of refusals.Fault = errors.Fault
error_of refusals.InUse = errors.InUse
error_of refusals.NoMemory = errors.NoMemory
