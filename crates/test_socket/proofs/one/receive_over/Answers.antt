use Rattle.std.proofs.Common.{◌≡◌, sym, subst}
use Rattle.aio_word.specs.Views.{Stands}
use Rattle.sp_history.specs.declared.setting.Setting.{Setting}
use Rattle.sp_proto.specs.Kinds.{setting_of}
use Rattle.sp_socket.specs.Passes.{PassView}
use Rattle.sp_socket.proofs.Waits.{still_of, same_twice}
use Rattle.test_socket.proofs.SocketCallers.{list_made, list_less, list_whole, whole_again, stands_last}
use Rattle.test_socket.proofs.one.receive_over.Goals as goal

pub attach-requires-clause-own : goal.attach-requires-clause-own
attach-requires-clause-own g c =
    let s = c.in-Ok.socket in
    let l = c.in-Ok.passes in
    let o = c.in-Ok.ensures.ok in
    let e = c.in-Some.ensures in
    let z : Setting = setting_of (g.P.Proto.kind c.args.machine) 1 1 in
    (list_less s l c.pop.new.self c.in-Some.pass e.last e.same.0 e.same.1 (list_made s l z o.1 (sym o.2) (sym o.3))).1

pub serve-requires : goal.serve-requires
serve-requires g c =
    let s = c.in-Ok.socket in
    let l = c.in-Ok.passes in
    let o = c.in-Ok.ensures.ok in
    let e = c.in-Some.ensures in
    let z : Setting = setting_of (g.P.Proto.kind c.args.machine) 1 1 in
    let own = (list_less s l c.pop.new.self c.in-Some.pass e.last e.same.0 e.same.1 (list_made s l z o.1 (sym o.2) (sym o.3))).1 in
    let p = c.in-Some.pass in
    let a = c.attach.new.pass in
    let b = c.begin_recv.new.pass in
    record { own = still_of s p b (same_twice p a b c.attach.ensures.pass.same c.begin_recv.ensures.pass.same) own }

pub wait-outcome-requires-clause-own : goal.wait-outcome-requires-clause-own
wait-outcome-requires-clause-own g c =
    let s = c.in-Ok.socket in
    let l = c.in-Ok.passes in
    let o = c.in-Ok.ensures.ok in
    let e = c.in-Some.ensures in
    let z : Setting = setting_of (g.P.Proto.kind c.args.machine) 1 1 in
    let own = (list_less s l c.pop.new.self c.in-Some.pass e.last e.same.0 e.same.1 (list_made s l z o.1 (sym o.2) (sym o.3))).1 in
    let p = c.in-Some.pass in
    let a = c.attach.new.pass in
    let b = c.begin_recv.new.pass in
    let own_b = still_of s p b (same_twice p a b c.attach.ensures.pass.same c.begin_recv.ensures.pass.same) own in
    still_of s b c.serve.new.pass c.serve.ensures.pass.same own_b

pub close-requires : goal.close-requires
close-requires g c =
    let s = c.in-Ok.socket in
    let l = c.in-Ok.passes in
    let o = c.in-Ok.ensures.ok in
    let e = c.in-Some.ensures in
    let z : Setting = setting_of (g.P.Proto.kind c.args.machine) 1 1 in
    let own = (list_less s l c.pop.new.self c.in-Some.pass e.last e.same.0 e.same.1 (list_made s l z o.1 (sym o.2) (sym o.3))).1 in
    let p = c.in-Some.pass in
    let a = c.attach.new.pass in
    let b = c.begin_recv.new.pass in
    let own_b = still_of s p b (same_twice p a b c.attach.ensures.pass.same c.begin_recv.ensures.pass.same) own in
    record { own = still_of s b c.wait-outcome.new.pass (same_twice b c.serve.new.pass c.wait-outcome.new.pass c.serve.ensures.pass.same c.wait-outcome.ensures.same) own_b }

pub finish-wires-requires-clause-all : goal.finish-wires-requires-clause-all
finish-wires-requires-clause-all g c =
    let s = c.in-Ok.socket in
    let l = c.in-Ok.passes in
    let o = c.in-Ok.ensures.ok in
    let e = c.in-Some.ensures in
    let z : Setting = setting_of (g.P.Proto.kind c.args.machine) 1 1 in
    whole_again l c.pop.new.self c.give.new.self c.in-Some.pass c.close.new.pass (list_whole s l z o.1) e.last e.same.0 c.give.ensures.pass c.give.ensures.same.0

pub finish-wires-requires-clause-closed : goal.finish-wires-requires-clause-closed
finish-wires-requires-clause-closed g c =
    let s = c.in-Ok.socket in
    let l = c.in-Ok.passes in
    let o = c.in-Ok.ensures.ok in
    let e = c.in-Some.ensures in
    let z : Setting = setting_of (g.P.Proto.kind c.args.machine) 1 1 in
    let own = (list_less s l c.pop.new.self c.in-Some.pass e.last e.same.0 e.same.1 (list_made s l z o.1 (sym o.2) (sym o.3))).1 in
    let p = c.in-Some.pass in
    let a = c.attach.new.pass in
    let b = c.begin_recv.new.pass in
    let own_b = still_of s p b (same_twice p a b c.attach.ensures.pass.same c.begin_recv.ensures.pass.same) own in
    let last : PassView = c.close.new.pass in
    let own_w = still_of s b c.wait-outcome.new.pass (same_twice b c.serve.new.pass c.wait-outcome.new.pass c.serve.ensures.pass.same c.wait-outcome.ensures.same) own_b in
    (last, subst (Stands last) (sym c.give.ensures.pass) (stands_last last c.pop.new.self.items), c.close.ensures.closed, still_of s c.wait-outcome.new.pass last c.close.ensures.pass.same own_w)
