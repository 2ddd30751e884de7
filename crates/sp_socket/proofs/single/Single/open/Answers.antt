use Rattle.std.proofs.Common.{refl, sym}
use Rattle.sp_proto.specs.Kinds.{setting_of}
use Rattle.sp_socket.proofs.SocketLife.{new_single}
use Rattle.sp_socket.proofs.single.Single.open.Goals as goal

pub invariant_of-result : goal.invariant_of-result
invariant_of-result g c =
    let ok = c.in-Ok.ensures.ok in
    let l = c.in-Some.ensures in
    (new_single c.in-Ok.socket c.in-Ok.passes c.pop.new.self (setting_of (g.P.Proto.kind c.args.proto) c.args.slots 1) c.in-Some.pass refl ok.1 (sym ok.2) ok.3 l.last l.same.0 l.same.1).0

pub returns : goal.returns
returns g c =
    let ok = c.in-Ok.ensures.ok in
    let l = c.in-Some.ensures in
    (new_single c.in-Ok.socket c.in-Ok.passes c.pop.new.self (setting_of (g.P.Proto.kind c.args.proto) c.args.slots 1) c.in-Some.pass refl ok.1 (sym ok.2) ok.3 l.last l.same.0 l.same.1).1
