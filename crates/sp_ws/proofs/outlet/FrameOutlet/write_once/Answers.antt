use Rattle.std.proofs.Common.{ap, map, length, arith}
use Rattle.sp_msg.specs.Views.{wire_text}
use Rattle.sp_msg.specs.Links.{WriteCounts}
use Rattle.sp_ws.proofs.Outlets.{passed_shorter, passed_zero, took, wrote_none}
use Rattle.sp_ws.proofs.outlet.FrameOutlet.write_once.Goals as goal

pub invariant_of-self : goal.invariant_of-self
invariant_of-self g c = (
  c.self.invariant.0,
  omega (arith, c.pass.ensures.room, c.self.invariant.1),
  omega (arith, ap length c.pass.ensures.passed, passed_shorter c.in-Took.n c.self.inside.ends.items, c.self.invariant.2),
)

pub returns-in-Took : goal.returns-in-Took
returns-in-Took g c =
    let w = c.in-Took.ensures in
    let s = rw c.waiting.ensures at w.shows in
    let counts : WriteCounts (g.L.Link.seen c.args.link.now) (g.L.Link.seen c.write.new.self) = record { faults = w.faults; idles = w.idles; stalls = w.stalls; ended = w.ended } in
    rw (← c.self.view_is) (took _ _ c.args.frames.now c.taken.new.self _ _ c.in-Took.n s.0 s.1 c.taken.ensures (λ i. record { held = map wire_text c.self.inside.held.items; ends = c.pass.ensures.passed i }) s.2 counts)

pub returns-in-NotYet : goal.returns-in-NotYet
returns-in-NotYet g c =
    let w = c.in-NotYet.ensures in
    let counts : WriteCounts (g.L.Link.seen c.args.link.now) (g.L.Link.seen c.write.new.self) = record { faults = w.faults; idles = w.idles; stalls = w.stalls; ended = w.ended } in
    (wrote_none c.args.self.now c.args.frames.now _ _ (passed_zero c.args.self.now.ends _ c.requires.within) w.shows.0 counts, w.shows.1)

pub returns-in-Failed : goal.returns-in-Failed
returns-in-Failed g c =
    let w = c.in-Failed.ensures in
    let counts : WriteCounts (g.L.Link.seen c.args.link.now) (g.L.Link.seen c.write.new.self) = record { faults = w.faults; idles = w.idles; stalls = w.stalls; ended = w.ended } in
    (wrote_none c.args.self.now c.args.frames.now _ _ (passed_zero c.args.self.now.ends _ c.requires.within) w.shows.0 counts, w.shows.1)
