-- The lane comes up, or attach refuses it and it is shut.
use Rattle.std.proofs.Common.{◌≡◌, refl, sym, ap, ◌∙◌, subst, Some, None}
use Rattle.sp_base.specs.Views.{LinkView}
use Rattle.core_state.specs.Wires.{IsUnused}
use Rattle.sp_lane.specs.LaneWires.{LaneWireView}
use Rattle.sp_lane.specs.Registry.{IsNewHalf}
use Rattle.sp_links.specs.declared.wire.EndWire.{EndWire}
use Rattle.sp_links.specs.declared.wire.EndWire.TheVariants as wires
use Rattle.sp_links.specs.EndWires.{link_of}
use Rattle.sp_base.specs.Wires.{numbers_of}
use Rattle.sp_ends.specs.RunLinks.{IsLaneName}
use Rattle.sp_ends.specs.ShutWires.{shut_under}
use Rattle.sp_ends.proofs.DialedNames.{goes_settled, none_up, goes_up, came_up}
use Rattle.sp_ends.proofs.Lanes.{keeps_lane, keeps_settled}
use Rattle.sp_ends.proofs.names.attach_lane.Goals as goal

half_unused : (w : LaneWireView) → IsNewHalf w → IsUnused w.wire
half_unused w (x, y, is) = subst (λ (v : LaneWireView). IsUnused v.wire) (sym is) (record { came = refl; outs = refl; waits = refl; fulls = refl; idles = refl; stalls = refl; faults = refl; refusals = refl; ended = refl; malformed = refl; is_open = refl })

half_name : (w : LaneWireView) → IsNewHalf w → IsLaneName (numbers_of w.wire.name)
half_name w (x, y, is) = (x, y, ap (λ (v : LaneWireView). numbers_of v.wire.name) is)

pub attach-requires : goal.attach-requires
attach-requires g c = half_unused c.args.lane c.requires.fresh

-- a lane has no link
no_link : {L : Type 0} (w v : EndWire L) (lane : LaneWireView) (l : LinkView) → w ≡ v → v ≡ wires.Lane lane → Some l ≡ shut_under (link_of w) → ⊥
no_link w v lane l e f h = let no : Some l ≡ None = h ∙ ap (λ (x : EndWire _). shut_under (link_of x)) (e ∙ f) in cc

pub unreachable-requires : goal.unreachable-requires
unreachable-requires g c = no_link _ _ c.args.lane _ c.in-Err.ensures.turn.said.1 refl (sym c.in-Some.ensures.link_is)

pub returns-in-Ok-clause-on : goal.returns-in-Ok-clause-on
returns-in-Ok-clause-on g c =
    let took = c.in-Ok.ensures.turn in goes_up _ c.args.single.now c.attach.new.self took c.in-Ok.pipe _ _ took.said.0.0 took.said.0.1

pub returns-in-Ok-clause-links : goal.returns-in-Ok-clause-links
returns-in-Ok-clause-links g c =
    let took = c.in-Ok.ensures.turn in keeps_lane g.L.Link.seen _ c.args.single.now c.attach.new.self took c.in-Ok.pipe _ _ took.said.0.0 refl (half_name c.args.lane c.requires.fresh) took.said.0.1

pub returns-in-Ok-clause-came : goal.returns-in-Ok-clause-came
returns-in-Ok-clause-came g c =
    let took = c.in-Ok.ensures.turn in came_up _ c.args.single.now c.attach.new.self took c.in-Ok.pipe _ _ took.said.0.0 took.said.0.1

pub returns-in-None-clause-on : goal.returns-in-None-clause-on
returns-in-None-clause-on g c =
    let took = c.in-Err.ensures.turn in goes_settled _ c.args.single.now c.attach.new.self took took.said.0.0

pub returns-in-None-clause-links : goal.returns-in-None-clause-links
returns-in-None-clause-links g c =
    let took = c.in-Err.ensures.turn in keeps_settled g.L.Link.seen _ c.args.single.now c.attach.new.self took took.said.0.0

pub returns-in-None-clause-came : goal.returns-in-None-clause-came
returns-in-None-clause-came g c =
    let took = c.in-Err.ensures.turn in (none_up _ c.args.single.now c.attach.new.self took took.said.0.0, (c.in-Err.field-0-0, took.said.0.1))
