-- The data of a plan, and what a file holds.
use Rattle.std.specs.Prelude.{◌≡◌, ◌≤◌, ℕ, ⊤, List, Result, Ok, Err}
use Rattle.sp_base.specs.Outside.{Rose}
use Rattle.sp_base.specs.Views.{FilesView}
use Rattle.sp_base.specs.Steps.{Holds}
use Rattle.cat_text.specs.declared.plan.CatPlan.{CatPlan}
use Rattle.cat_text.specs.declared.plan.Data.{Data}
use Rattle.cat_text.specs.declared.plan.Data.TheVariants as datas
use Rattle.cat_play.specs.declared.status.Status.{Status}
use Rattle.cat_play.specs.declared.status.Status.TheVariants as status

-- the data, with the contents of the file in place of its name
abbrev pub HasContent : Data → Data → FilesView → Type 0
HasContent datas.None loaded files = loaded ≡ datas.None
HasContent (datas.Text text) loaded files = loaded ≡ datas.Text text
HasContent (datas.File name) loaded files = (bytes : List ℕ) × (loaded ≡ datas.Text bytes) × Holds files name bytes

-- the files hold what they held; where there is no name they were not asked
pub record AsksFiles (data_ : Data) (old new : FilesView) : Type 0 where
  pub holds : new.holds ≡ old.holds
  pub faults : old.faults ≤ new.faults
  pub unasked : ((name : List ℕ) → data_ ≡ datas.File name → ⊥) → new ≡ old

-- why there are no data
abbrev pub LoadFails : Status → FilesView → FilesView → Type 0
LoadFails status.FileFault old new = Rose old.faults new.faults
LoadFails status.NoMemory old new = ⊤
LoadFails _ old new = ⊥

abbrev pub DataLoads : Result Data Status → Data → FilesView → FilesView → Type 0
DataLoads (Ok loaded) data_ old new = HasContent data_ loaded old
DataLoads (Err why) data_ old new = LoadFails why old new

abbrev pub PlanLoads : Result CatPlan Status → CatPlan → FilesView → FilesView → Type 0
PlanLoads (Ok loaded) plan old new = (data_ : Data) × HasContent plan.data_ data_ old × (loaded ≡ record plan { data_ = data_ })
PlanLoads (Err why) plan old new = LoadFails why old new
