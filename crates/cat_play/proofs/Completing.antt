-- A run that nothing stops comes to its end.
use Rattle.std.specs.Prelude.{◌⊎◌}
use Rattle.std.proofs.Common.{List, inl, inr}
use Rattle.sp_base.specs.Outside.{Rose}
use Rattle.sp_history.specs.declared.entry.Entry.{Entry}
use Rattle.sp_history.specs.declared.setting.Setting.{Setting}
use Rattle.cat_text.specs.declared.plan.CatPlan.{CatPlan}
use Rattle.cat_play.specs.declared.status.Status.{Status}
use Rattle.cat_play.specs.declared.status.Status.TheVariants as status
use Rattle.cat_play.specs.Plans.{Play}
use Rattle.cat_play.specs.Running.{World, ListensTwice, EndedFor, UnopenedFor, IsSpared, ComesToEnd}

pub opened : (s : Status) (z : Setting) (plan : CatPlan) (play : Play) (past : List Entry) (old new : World) → EndedFor s z plan play past old new → IsSpared plan old new → ComesToEnd s
opened status.Done z plan play past old new e i = tt
opened status.SendTimedOut z plan play past old new e i = tt
opened status.NoMemory z plan play past old new e i = tt
opened (status.Usage at) z plan play past old new e i = e
opened status.Over z plan play past old new e i = i.turns e
opened status.NetFault z plan play past old new e i = go e.0
  where
    go : Rose old.net.faults new.net.faults ⊎ ListensTwice plan.ends → ⊥
    go (inl rose) = i.net rose
    go (inr twice) = i.once twice
opened status.OutFault z plan play past old new e i = i.sink e.0
opened status.FileFault z plan play past old new e i = e

pub unopened : (s : Status) (plan : CatPlan) (old new : World) → UnopenedFor s old new → IsSpared plan old new → ComesToEnd s
unopened status.Done plan old new e i = tt
unopened status.SendTimedOut plan old new e i = tt
unopened status.NoMemory plan old new e i = tt
unopened (status.Usage at) plan old new e i = e
unopened status.Over plan old new e i = e
unopened status.NetFault plan old new e i = e
unopened status.OutFault plan old new e i = e
unopened status.FileFault plan old new e i = i.files e
