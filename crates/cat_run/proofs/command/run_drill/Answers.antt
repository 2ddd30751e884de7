use Rattle.std.specs.Prelude.{None, false}
use Rattle.std.specs.Option.{option_map}
use Rattle.sp_base.specs.Views.{FilesView, PaceView}
use Rattle.cat_play.specs.Running.{world}
use Rattle.sp_real.specs.Real.{unasked_net}
use Rattle.cat_run.proofs.CompletedRuns.{drill_completes}
use Rattle.cat_run.proofs.Loaded.{drill_no_usage}
use Rattle.cat_run.proofs.command.run_drill.Goals as goal

pub returns-clause-no_usage : goal.returns-clause-no_usage
returns-clause-no_usage g c at is =
    let files : FilesView = record { holds = None; faults = 0 } in
    let pace : PaceView = record { left = 0; latest = 0; is_over = false } in
    drill_no_usage c.drill-status.result.status c.args.count (option_map (λ r. r.turns) c.drill-status.result.record_)
    (world unasked_net files pace (g.S.Sink.seen c.args.out.now))
    (world unasked_net files pace (g.S.Sink.seen c.drill-status.new.out))
    (c.drill-status.ensures unasked_net files pace) at is

pub returns-clause-completes : goal.returns-clause-completes
returns-clause-completes g c =
    let files : FilesView = record { holds = None; faults = 0 } in
    let pace : PaceView = record { left = 0; latest = 0; is_over = false } in
    drill_completes c.drill-status.result.status c.args.count (option_map (λ r. r.turns) c.drill-status.result.record_)
    (world unasked_net files pace (g.S.Sink.seen c.args.out.now))
    (world unasked_net files pace (g.S.Sink.seen c.drill-status.new.out))
    (c.drill-status.ensures unasked_net files pace)
