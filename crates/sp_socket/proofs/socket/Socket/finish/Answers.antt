use Rattle.std.proofs.Common.{◌≡◌, sym, ap, ◌∙◌, length, List, Some, subst}
use Rattle.turn_lock.specs.declared.turn.Turn.{Turn}
use Rattle.sp_history.specs.declared.entry.Entry.{Entry}
use Rattle.sp_socket.specs.Passes.{pass_of, IsPass}
use Rattle.sp_socket.proofs.Pairs.{length-paired}
use Rattle.sp_socket.proofs.Finishes.{own_seats, closed_all, recorded}
use Rattle.sp_core.specs.CallSays.{core_label}
use Rattle.sp_history.specs.Past.{past_of}
use Rattle.sp_socket.specs.Finishing.{HasSeenClose, IsRecord}
use Rattle.sp_core.specs.declared.owner.Core.{Core}
use Rattle.sp_core.specs.Parts.{HasWires}
use Rattle.sp_core.specs.Standing.{StandsFor}
use Rattle.sp_history.specs.declared.setting.Setting.{Setting}
use Rattle.sp_socket.proofs.socket.Socket.finish.Goals as goal

pub end-held-requires-clause-all : goal.end-held-requires-clause-all
end-held-requires-clause-all g c =
    sym (length-paired pass_of IsPass c.passes.inside.turns.items c.passes.inside.parts c.passes.invariant) ∙ ap (λ l. length l.items) c.passes.view_is ∙ c.requires.all ∙ ap (λ l. l.callers) (sym c.passes.view_is)

pub join_all-requires-clause-own : goal.join_all-requires-clause-own
join_all-requires-clause-own g c =
    let e = c.end-held in
    let core = c.into_core-core.result in
    let is = e.ensures.label ∙ ap (λ (x : Core _ _). Some (core_label g.P.Proto.kind x)) (sym c.into_core-core.ensures) in
    own_seats e.result.1.seen e.result.1.label (core_label g.P.Proto.kind core) c.passes.inside.turns.items c.passes.inside.parts is c.passes.invariant e.ensures.passes

pub into_wires-requires : goal.into_wires-requires
into_wires-requires g c =
    let e = c.end-held in
    let seen = e.result.1.seen in
    let ended = subst (HasSeenClose c.args.self) (ap (λ l. l.items) (sym c.passes.view_is)) c.requires.closed in
    let state = subst (λ (x : Core _ _). StandsFor g.P.Proto.ties g.P.Proto.room g.W.Wire.shown x seen) (sym c.into_core-core.ensures) e.ensures.state in
    (seen, c.join_all.ensures.stands seen state, closed_all c.args.self seen e.result.1.label c.passes.inside.turns.items c.passes.inside.parts c.passes.invariant e.ensures.passes ended)

pub returns : goal.returns
returns g c =
    let e = c.end-held in
    let seen = e.result.1.seen in
    let core = c.into_core-core.result in
    let label = core_label g.P.Proto.kind core in
    let state = subst (λ (x : Core _ _). StandsFor g.P.Proto.ties g.P.Proto.room g.W.Wire.shown x seen) (sym c.into_core-core.ensures) e.ensures.state in
    let is = e.ensures.label ∙ ap (λ (x : Core _ _). Some (core_label g.P.Proto.kind x)) (sym c.into_core-core.ensures) in
    let stands = c.join_all.ensures.stands seen state in
    let ended = subst (HasSeenClose c.args.self) (ap (λ l. l.items) (sym c.passes.view_is)) c.requires.closed in
    let closed = closed_all c.args.self seen e.result.1.label c.passes.inside.turns.items c.passes.inside.parts c.passes.invariant e.ensures.passes ended in
    let many : c.passes.inside.turns.callers ≡ c.args.self.words.callers = ap (λ l. l.callers) c.passes.view_is ∙ c.requires.callers in
    let r = recorded g.P.Proto.ties g.P.Proto.room g.W.Wire.shown g.P.Proto.kind g.met.P.Proto.kinds c.args.self core c.join_all.new.core seen e.result.1.label c.passes.inside.turns.items c.passes.inside.parts c.passes.inside.turns.callers state stands is c.passes.invariant e.ensures.passes e.ensures.numbers many ended c.join_all.ensures.joined in
    let is_record = subst (IsRecord label seen) (ap (λ l. l.items) c.passes.view_is) r in
    let wires = subst (λ (z : Setting). HasWires g.W.Wire.shown c.into_wires.result z (past_of seen)) (ap (λ l. l.setting) c.join_all.ensures.label) (c.into_wires.ensures seen stands closed) in
    let told : seen ≡ c.of.result.turns = sym c.of.ensures in
    (label, subst (λ (h : List (Turn Entry)). IsRecord label h c.args.passes.items) told is_record, subst (λ (h : List (Turn Entry)). HasWires g.W.Wire.shown c.into_wires.result label.setting (past_of h)) told wires)
