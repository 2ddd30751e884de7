use Rattle.std.proofs.Common.{refl, ◌∙◌}
use Rattle.sp_history.specs.Moments.{next, also}
use Rattle.sp_core.proofs.NotedLinks.{link_noted}
use Rattle.sp_core.proofs.TurnEnds.{first_so}
use Rattle.sp_core.proofs.Labels.{same_label}
use Rattle.sp_core.proofs.Attached.{setting_kept}
use Rattle.sp_core.proofs.owner.Core.note_link.Goals as goal

pub settle-requires : goal.settle-requires
settle-requires g c =
    let s = c.requires.turn.0 in (next s.1.at c.args.k, c.begin_turn.ensures.does s.0 c.args.k s.1)

pub returns-clause-turn : goal.returns-clause-turn
returns-clause-turn g c =
    λ e is h s.
    let t = next s.at c.args.k in
    let o = link_noted g.P.Proto.ties g.P.Proto.room g.W.Wire.shown g.met.P.Proto.silent c.begin_turn.new.self t e is (c.begin_turn.ensures.does h c.args.k s) in
    let u = c.settle.ensures.later (also t e) o in
    first_so g.P.Proto.ties g.P.Proto.room g.W.Wire.shown c.args.self.now c.settle.new.self h c.args.k e u.0 s c.requires.turn.1 u.1 u.2 u.3

pub returns-clause-label : goal.returns-clause-label
returns-clause-label g c =
    let s = c.requires.turn.0 in
    let t = next s.1.at c.args.k in
    let u = c.settle.ensures.later t (c.begin_turn.ensures.does s.0 c.args.k s.1) in
    same_label g.P.Proto.kind c.args.self.now c.settle.new.self (setting_kept g.P.Proto.ties g.P.Proto.room g.W.Wire.shown g.P.Proto.kind g.met.P.Proto.kinds c.args.self.now c.settle.new.self s.1.at t u.0 s.1.owns refl u.1 u.2) (c.settle.ensures.words ∙ c.begin_turn.ensures.words)
