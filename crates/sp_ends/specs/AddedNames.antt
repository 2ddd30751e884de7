-- One more name within the process.
use Rattle.std.specs.Prelude.{◌≡◌, ◌++◌, ℕ, List, [], ◌∷◌, Some, None, Result, Ok, Err}
use Rattle.sp_base.specs.declared.role.Role.{Role}
use Rattle.sp_ends.specs.declared.name_dialer.NameDialer.{NameDialer}
use Rattle.sp_ends.specs.EndViews.{NamesView}
use Rattle.sp_lane.specs.Registry.{Registry, Listens}
use Rattle.sp_lane.specs.declared.inproc.InprocError.TheVariants as lanes
use Rattle.sp_ends.specs.declared.error.EndError.{EndError}
use Rattle.sp_ends.specs.declared.error.EndError.TheVariants as errors

-- one more name is listened on, by this role; or none, and why
abbrev pub ListensName : Result (Unit {0}) EndError → List ℕ → Role → NamesView → NamesView → Registry → Registry → Type 0
ListensName (Ok done) name role old new reg reg' = (new ≡ record old { names = old.names ++ name ∷ [] }) × Listens name role (Ok done) reg reg'
ListensName (Err errors.Fault) name role old new reg reg' = ⊥
ListensName (Err errors.InUse) name role old new reg reg' = (new ≡ old) × Listens name role (Err lanes.InUse) reg reg'
ListensName (Err errors.NoMemory) name role old new reg reg' = (new ≡ old) × (reg' ≡ reg)

-- a caller of this name that has not dialed yet
pub record IsNewNameDialer (name : List ℕ) (c : NameDialer) : Type 0 where
  pub name_is : c.name ≡ name
  pub next : c.next ≡ Some 0
  pub pipe : c.pipe ≡ None

-- one more name is dialed, or none when out of memory
abbrev pub DialsName : Result (Unit {0}) EndError → List ℕ → NamesView → NamesView → Type 0
DialsName (Ok done) name old new = (c : NameDialer) × IsNewNameDialer name c × (new ≡ record old { callers = old.callers ++ c ∷ [] })
DialsName (Err errors.Fault) name old new = ⊥
DialsName (Err errors.InUse) name old new = ⊥
DialsName (Err errors.NoMemory) name old new = new ≡ old
