use Rattle.std.proofs.Common.{refl, ap, ◌∙◌}
use Rattle.sp_ws.specs.Views.{FramesView}
use Rattle.sp_ws.specs.declared.frames.FrameIn.TheVariants as ins
use Rattle.sp_ws.proofs.PullSteps.{fed_start, fed_next, fed_more, going_start, going_next, going_read, read_on_start, read_on_same, read_on_idle, pulled_body, pulled_text, pulled_broken, pulled_closed, pulled_not_yet, pulled_ended, pulled_failed, pulled_unfed, pulled_short, pulled_long}
use Rattle.sp_ws.proofs.inlet.pull_from.Goals as goal

pub pulls-init : goal.pulls-init
pulls-init g c = (going_start c.args.frames.now (g.L.Link.seen c.args.link.now), refl, refl, read_on_start c.args.frames.now, fed_start c.args.frames.now)

pub returns-in-Binary-clause-pulled : goal.returns-in-Binary-clause-pulled
returns-in-Binary-clause-pulled g c =
    pulled_body c.args.max c.taken.result.0 c.taken.result.1 c.in-Binary.body c.args.frames.now c.pulls.frames c.next.new.self _ _ c.pulls.invariant.0 c.pulls.invariant.3 c.pulls.invariant.1 c.pulls.invariant.4 c.in-Binary.ensures (rw c.as_slice.ensures at c.taken.ensures)

pub returns-in-Err-clause-pulled : goal.returns-in-Err-clause-pulled
returns-in-Err-clause-pulled g c =
    let r = c.in-Err.ensures.read in
    pulled_unfed c.args.max r.1.0 c.args.frames.now c.pulls.frames c.next.new.self c.read_some.new.frames _ _ _ c.pulls.invariant.0 c.pulls.invariant.3 c.pulls.invariant.1 c.pulls.invariant.4 c.in-Idle.ensures r.0 r.1.1 r.2

pub returns-in-NoMemory-clause-pulled : goal.returns-in-NoMemory-clause-pulled
returns-in-NoMemory-clause-pulled g c = pulled_short c.args.max c.args.frames.now c.pulls.frames c.next.new.self _ _ c.pulls.invariant.0 c.pulls.invariant.3 c.pulls.invariant.1 c.pulls.invariant.4 c.in-NoMemory.ensures

pub returns-clause-pulled : goal.returns-clause-pulled
returns-clause-pulled g c = pulled_long c.args.max c.args.frames.now c.pulls.frames _ _ c.pulls.invariant.0 c.pulls.invariant.3 c.pulls.invariant.1 c.pulls.invariant.4

pub pulls-preserved : goal.pulls-preserved
pulls-preserved g c =
    let r = rw c.in-Ok-Got.field-0-is at c.in-Ok-Got.ensures.read in
    let going = going_next ins.Idle c.args.frames.now c.pulls.frames c.next.new.self _ _ c.pulls.invariant.0 c.in-Idle.ensures in (
      going_read r.0.0 c.args.frames.now c.next.new.self c.read_some.new.frames _ _ _ going r.0.1 r.0.2 r.1,
      ap (λ (v : FramesView). v.came) r.0.2 ∙ c.in-Idle.ensures.came ∙ c.pulls.invariant.1,
      c.read_some.ensures.long ∙ c.pulls.invariant.2,
      read_on_same c.args.frames.now c.next.new.self c.read_some.new.frames (read_on_idle c.args.frames.now c.pulls.frames c.next.new.self c.pulls.invariant.3 c.in-Idle.ensures) (ap (λ (v : FramesView). v.reads) r.0.2),
      fed_more c.pulls.invariant.0.piece r.0.0 c.args.frames.now c.next.new.self c.read_some.new.frames (fed_next ins.Idle c.pulls.invariant.0.piece c.args.frames.now c.pulls.frames c.next.new.self c.pulls.invariant.4 c.in-Idle.ensures) r.0.2,
    )

pub returns-in-Text-clause-pulled : goal.returns-in-Text-clause-pulled
returns-in-Text-clause-pulled g c = pulled_text c.args.max c.args.frames.now c.pulls.frames c.next.new.self _ _ c.pulls.invariant.0 c.pulls.invariant.3 c.pulls.invariant.1 c.pulls.invariant.4 c.in-Text.ensures

pub returns-in-Broken-clause-pulled : goal.returns-in-Broken-clause-pulled
returns-in-Broken-clause-pulled g c = pulled_broken c.args.max c.args.frames.now c.pulls.frames c.next.new.self _ _ c.pulls.invariant.0 c.pulls.invariant.3 c.pulls.invariant.1 c.pulls.invariant.4 c.in-Broken.ensures

pub returns-in-Closed-clause-pulled : goal.returns-in-Closed-clause-pulled
returns-in-Closed-clause-pulled g c = pulled_closed c.args.max c.args.frames.now c.pulls.frames c.next.new.self _ _ c.pulls.invariant.0 c.pulls.invariant.3 c.pulls.invariant.1 c.pulls.invariant.4 c.in-Closed.ensures

pub returns-in-Ok-NotYet-clause-pulled : goal.returns-in-Ok-NotYet-clause-pulled
returns-in-Ok-NotYet-clause-pulled g c =
    let r = rw c.in-Ok-NotYet.field-0-is at c.in-Ok-NotYet.ensures.read in
    pulled_not_yet c.args.max c.args.frames.now c.pulls.frames c.next.new.self c.read_some.new.frames _ _ _ c.pulls.invariant.0 c.pulls.invariant.3 c.pulls.invariant.1 c.pulls.invariant.4 c.in-Idle.ensures r.0 r.1 r.2 r.3

pub returns-in-Ok-Ended-clause-pulled : goal.returns-in-Ok-Ended-clause-pulled
returns-in-Ok-Ended-clause-pulled g c =
    let r = rw c.in-Ok-Ended.field-0-is at c.in-Ok-Ended.ensures.read in
    pulled_ended c.args.max c.args.frames.now c.pulls.frames c.next.new.self c.read_some.new.frames _ _ _ c.pulls.invariant.0 c.pulls.invariant.3 c.pulls.invariant.1 c.pulls.invariant.4 c.in-Idle.ensures r.0 r.1 r.2 r.3

pub returns-in-Ok-Failed-clause-pulled : goal.returns-in-Ok-Failed-clause-pulled
returns-in-Ok-Failed-clause-pulled g c =
    let r = rw c.in-Ok-Failed.field-0-is at c.in-Ok-Failed.ensures.read in
    pulled_failed c.args.max c.args.frames.now c.pulls.frames c.next.new.self c.read_some.new.frames _ _ _ c.pulls.invariant.0 c.pulls.invariant.3 c.pulls.invariant.1 c.pulls.invariant.4 c.in-Idle.ensures r.0 r.1 r.2 r.3
