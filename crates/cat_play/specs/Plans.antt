-- The play of a plan.
use Rattle.std.specs.Prelude.{◌≡◌, ℕ, List, Option, Some, None}
use Rattle.sp_base.specs.Views.{FilesView}
use Rattle.sp_base.specs.Steps.{Holds}
use Rattle.sp_base.specs.declared.role.Role.{Role}
use Rattle.cat_text.specs.declared.plan.CatPlan.{CatPlan}
use Rattle.cat_text.specs.declared.plan.Data.{Data}
use Rattle.cat_text.specs.declared.plan.Data.TheVariants as datas
use Rattle.cat_text.specs.declared.plan.Format.{Format}

-- a play: the role, what its sends carry, if it has data, and the plan's numbers. Times are in seconds
pub record Play : Type 0 where
  pub role : Role
  pub body : Option (List ℕ)
  pub topics : List (List ℕ)
  pub count : Option ℕ
  pub interval : Option ℕ
  pub recv_timeout : Option ℕ
  pub send_timeout : Option ℕ
  pub format : Format

-- what the sends carry: the text, or what the file of that name is told to hold
abbrev pub IsBodyOf : Data → FilesView → Option (List ℕ) → Type 0
IsBodyOf datas.None files body = body ≡ None
IsBodyOf (datas.Text text) files body = body ≡ Some text
IsBodyOf (datas.File name) files body = (bytes : List ℕ) × (body ≡ Some bytes) × Holds files name bytes

-- the play of a plan, with the files as they are
pub record IsPlayOf (plan : CatPlan) (files : FilesView) (play : Play) : Type 0 where
  pub role : play.role ≡ plan.role
  pub body : IsBodyOf plan.data_ files play.body
  pub topics : play.topics ≡ plan.topics
  pub count : play.count ≡ plan.count
  pub interval : play.interval ≡ plan.interval
  pub recv_timeout : play.recv_timeout ≡ plan.recv_timeout
  pub send_timeout : play.send_timeout ≡ plan.send_timeout
  pub format : play.format ≡ plan.format
