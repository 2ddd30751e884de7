use Rattle.core_state.specs.declared.pipes.DownPipe.{DownPipe}
use Rattle.sp_links.specs.declared.wire.EndWire.{EndWire}
use Rattle.sp_links.specs.EndWires.{link_of}
use Rattle.sp_ends.proofs.LeavingNet.{below_last, giving_one, wires_all, seen_below, seen_given, none_given}
use Rattle.sp_ends.proofs.shut.give_wires_back.Goals as goal

pub give_back-requires : goal.give_back-requires
give_back-requires g c =
    let net = g.N.Net.seen c.wires.net in
    let last = c.in-Some.ensures.last in
    let w = c.in-Some.wire in
    let x : DownPipe (EndWire g.row.N-L.Denot) = record { id = c.in-Some.field-0-0; why = last.0; wire = w } in
    let left = c.in-Some-leave_wire.ensures in
    seen_below (link_of w) (g.N.L.Link.seen c.in-Some-leave_wire.link) net.opened left.link_is (below_last c.wires.wires c.pop.new.self x net.opened c.wires.invariant.below last.1 left.shut)

pub wires-preserved-in-Some-leave_wire : goal.wires-preserved-in-Some-leave_wire
wires-preserved-in-Some-leave_wire g c =
    let first = g.N.Net.seen c.args.net.now in
    let net = g.N.Net.seen c.wires.net in
    let next = g.N.Net.seen c.give_back.new.self in
    let last = c.in-Some.ensures.last in
    let w = c.in-Some.wire in
    let x : DownPipe (EndWire g.row.N-L.Denot) = record { id = c.in-Some.field-0-0; why = last.0; wire = w } in
    let left = c.in-Some-leave_wire.ensures in
    giving_one c.args.wires c.wires.wires c.pop.new.self x first net next c.wires.invariant last.1 left.shut (seen_given (link_of w) (g.N.L.Link.seen c.in-Some-leave_wire.link) net next left.link_is c.give_back.ensures)

pub wires-preserved : goal.wires-preserved
wires-preserved g c =
    let first = g.N.Net.seen c.args.net.now in
    let net = g.N.Net.seen c.wires.net in
    let last = c.in-Some.ensures.last in
    let w = c.in-Some.wire in
    let x : DownPipe (EndWire g.row.N-L.Denot) = record { id = c.in-Some.field-0-0; why = last.0; wire = w } in
    let left = c.in_default-leave_wire.ensures in
    giving_one c.args.wires c.wires.wires c.pop.new.self x first net net c.wires.invariant last.1 left.shut (none_given (link_of w) net left.link_is)

pub returns : goal.returns
returns g c = wires_all c.args.wires c.wires.wires (g.N.Net.seen c.args.net.now) (g.N.Net.seen c.wires.net) c.wires.invariant c.in_default.ensures.none.0
