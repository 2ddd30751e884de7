use Rattle.std.proofs.Common.{◌≡◌, sym, subst}
use Rattle.aio_word.specs.Views.{Stands}
use Rattle.sp_history.specs.declared.setting.Setting.{Setting}
use Rattle.sp_proto.specs.Kinds.{setting_of}
use Rattle.sp_socket.specs.Passes.{PassView}
use Rattle.sp_socket.proofs.Waits.{still_of}
use Rattle.test_socket.proofs.SocketCallers.{list_made, list_less, list_whole, whole_again, stands_last}
use Rattle.test_socket.proofs.two.ask_over.Goals as goal

pub attach-requires-clause-own : goal.attach-requires-clause-own
attach-requires-clause-own g c =
    let s = c.in-Ok.socket in
    let l = c.in-Ok.passes in
    let o = c.in-Ok.ensures.ok in
    let e = c.in-Some.ensures in
    let z : Setting = setting_of (g.P.Proto.kind c.args.machine) 2 1 in
    (list_less s l c.pop.new.self c.in-Some.pass e.last e.same.0 e.same.1 (list_made s l z o.1 (sym o.2) (sym o.3))).1

pub ask_both-replies-requires : goal.ask_both-replies-requires
ask_both-replies-requires g c =
    let s = c.in-Ok.socket in
    let l = c.in-Ok.passes in
    let o = c.in-Ok.ensures.ok in
    let e = c.in-Some.ensures in
    let z : Setting = setting_of (g.P.Proto.kind c.args.machine) 2 1 in
    let own = (list_less s l c.pop.new.self c.in-Some.pass e.last e.same.0 e.same.1 (list_made s l z o.1 (sym o.2) (sym o.3))).1 in
    still_of s c.in-Some.pass c.attach.new.pass c.attach.ensures.pass.same own

pub finish-wires-requires-clause-all : goal.finish-wires-requires-clause-all
finish-wires-requires-clause-all g c =
    let s = c.in-Ok.socket in
    let l = c.in-Ok.passes in
    let o = c.in-Ok.ensures.ok in
    let e = c.in-Some.ensures in
    let z : Setting = setting_of (g.P.Proto.kind c.args.machine) 2 1 in
    whole_again l c.pop.new.self c.give.new.self c.in-Some.pass c.close.new.pass (list_whole s l z o.1) e.last e.same.0 c.give.ensures.pass c.give.ensures.same.0

pub finish-wires-requires-clause-closed : goal.finish-wires-requires-clause-closed
finish-wires-requires-clause-closed g c =
    let s = c.in-Ok.socket in
    let last : PassView = c.close.new.pass in
    (last, subst (Stands last) (sym c.give.ensures.pass) (stands_last last c.pop.new.self.items), c.close.ensures.closed, still_of s c.ask_both-replies.new.pass last c.close.ensures.pass.same c.ask_both-replies.ensures)
