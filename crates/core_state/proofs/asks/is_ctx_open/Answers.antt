use Rattle.std.proofs.Common.{◌≡◌, refl, sym, subst, ◌∙◌, true, false}
use Rattle.std.specs.Prelude.{Err}
use Rattle.sp_history.specs.declared.entry.RecordedAct.TheVariants.{Recv}
use Rattle.sp_history.specs.Moments.{past}
use Rattle.sp_proto.specs.Machines.{ChecksAct}
use Rattle.sp_proto.specs.declared.CheckError.{CheckError}
use Rattle.core_state.proofs.MachineAnswers.{supports}
use Rattle.core_state.proofs.asks.is_ctx_open.Goals as goal

pub returns-in-Ok : goal.returns-in-Ok
returns-in-Ok g c = λ t l h y. sym (c.in-Ok.ensures t l h Recv refl).1

pub returns-in-Err-NotSupported : goal.returns-in-Err-NotSupported
returns-in-Err-NotSupported g c =
    λ t l h y.
    let told = c.in-Err-NotSupported.ensures t l h Recv refl in
    let none = subst (λ (e : CheckError). ChecksAct (Err e) t.z (past t) c.args.c Recv) c.in-Err-NotSupported.field-0-is told in
    let k : false ≡ true = sym none ∙ supports t.z c.args.c y in
    absurd cc

pub returns-in-Err-NoEntry : goal.returns-in-Err-NoEntry
returns-in-Err-NoEntry g c =
    λ t l h y.
    let told = c.in-Err-NoEntry.ensures t l h Recv refl in
    sym (subst (λ (e : CheckError). ChecksAct (Err e) t.z (past t) c.args.c Recv) c.in-Err-NoEntry.field-0-is told).1

pub returns-in-Err-State : goal.returns-in-Err-State
returns-in-Err-State g c =
    λ t l h y.
    let told = c.in-Err-State.ensures t l h Recv refl in
    sym (subst (λ (e : CheckError). ChecksAct (Err e) t.z (past t) c.args.c Recv) c.in-Err-State.field-0-is told).1
