use Rattle.std.specs.Prelude.{◌≡◌, ◌≢◌, Err, IfErr}
use Rattle.sp_proto.specs.Kinds.{text_of}
use Rattle.sp_history.specs.declared.entry.RecordedAct.TheVariants as acts
use Rattle.core_state.specs.declared.causes.BeginError.TheVariants as error
use Rattle.sp_core.specs.Standing.{BeganBy, began}
use Rattle.sp_socket.proofs.Alone.{keeps, took_by, stays_open, seat_kept, opened}
use Rattle.sp_socket.proofs.single.Single.begin_send.Goals as goal

pub invariant_of-self : goal.invariant_of-self
invariant_of-self g c =
    let m = c.begin_send in
    let i = c.self.inside in
    keeps i.socket i.passes i.pass m.new.pass _ c.self.invariant m.ensures.pass.same m.ensures.turn

pub returns-clause-open_ : goal.returns-clause-open_
returns-clause-open_ g c =
    let m = c.begin_send in
    let i = c.self.inside in
    stays_open i.socket i.passes i.pass m.new.pass c.args.self.now c.self.view_is c.self.invariant (invariant_of-self g c) m.ensures.pass.open_

pub returns-clause-turn : goal.returns-clause-turn
returns-clause-turn g c =
    let m = c.begin_send in
    let i = c.self.inside in
    took_by i.socket i.passes i.pass m.new.pass (λ n z h t. BeganBy (began m.result) z h t n c.args.c (acts.Send (text_of c.args.m)) c.args.deadline × IfErr m.result (λ e. e.1 ≡ c.args.m)) c.args.self.now c.self.view_is c.self.invariant m.ensures.pass.same (seat_kept i.pass m.new.pass m.ensures.pass.seat) m.ensures.turn

pub returns-clause-opens : goal.returns-clause-opens
returns-clause-opens g c =
    let m = c.begin_send in
    let i = c.self.inside in
    opened i.socket i.passes i.pass m.new.pass m.result (invariant_of-self g c) m.ensures.open_
