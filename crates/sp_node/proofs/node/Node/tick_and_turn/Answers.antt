use Rattle.std.proofs.Common.{◌≡◌, ◌∙◌, ◌≤◌, ap, subst, sym, Bool, false}
use Rattle.sp_ends.specs.Entries.{moves_calls}
use Rattle.sp_node.specs.Nodes.{NodeView, NodeStands}
use Rattle.sp_node.proofs.Steps.{HasTicked, ticks_on, turns_on, later_one, later_quiet, later_then, quiet_open, ticks_first, ticks_later}
use Rattle.sp_node.proofs.node.Node.tick_and_turn.Given.{Over}
use Rattle.sp_node.proofs.node.Node.tick_and_turn.Goals.{After-tick}
use Rattle.sp_node.proofs.node.Node.tick_and_turn.Goals as goal

-- the node behind its tick
behind : (g : Over) (c : After-tick g) → HasTicked g.L.Link.seen c.self.invariant.0 (g.N.Net.seen c.self.inside.net) c.tick.new.self c.self.inside.ends.links c.args.now c.self.inside.dry
behind g c =
    let old = c.self.inside in
    let start = c.self.invariant.0 in
    let net = g.N.Net.seen old.net in
    let is_open : old.closed ≡ false = ap (λ (v : NodeView _). v.closed) c.self.view_is ∙ c.requires.open_ in
    let less : old.latest ≤ c.args.now = subst (λ (v : NodeView _). v.latest ≤ c.args.now) (sym c.self.view_is) c.requires.later in
    let stands = subst (λ (b : Bool). NodeStands g.L.Link.seen start old.single old.ends.links net old.latest old.dry b) is_open c.self.invariant.1 in
    ticks_on g.L.Link.seen start net old.single c.tick.new.self old.ends.links old.latest c.args.now old.dry c.tick.ensures.turn less stands

pub turn-turn-requires-clause-ticked : goal.turn-turn-requires-clause-ticked
turn-turn-requires-clause-ticked g c =
    let at = (goal.at.turn-turn-requires-clause-ticked g c).After-tick in
    (at.self.invariant.0, (behind g at).links)

pub turn-turn-requires-clause-now : goal.turn-turn-requires-clause-now
turn-turn-requires-clause-now g c = (behind g (goal.at.turn-turn-requires-clause-now g c).After-tick).now_is

pub turn-turn-requires-clause-dry : goal.turn-turn-requires-clause-dry
turn-turn-requires-clause-dry g c = (behind g (goal.at.turn-turn-requires-clause-dry g c).After-tick).dry_is

pub invariant_of-self : goal.invariant_of-self
invariant_of-self g c =
    let old = c.self.inside in
    let start = c.self.invariant.0 in
    let o = behind g (goal.at.invariant_of-self g c).After-tick in
    let t = c.turn-turn.ensures in
    let is_open : old.closed ≡ false = ap (λ (v : NodeView _). v.closed) c.self.view_is ∙ c.requires.open_ in
    let net' = g.N.Net.seen c.turn-turn.new.net in
    (start, subst (λ (b : Bool). NodeStands g.L.Link.seen start c.turn-turn.new.single c.turn-turn.new.self.links net' c.args.now c.turn-turn.result.is_dry b) (sym is_open) (turns_on g.L.Link.seen start (g.N.Net.seen old.net) net' c.tick.new.self c.turn-turn.new.single old.ends.links c.turn-turn.new.self.links c.args.now old.dry c.turn-turn.result.is_dry t.quietly t.sound t.dry (t.stands start o.links) o))

pub returns-clause-goes_on : goal.returns-clause-goes_on
returns-clause-goes_on g c = rw (← c.self.view_is) (
    let s0 = c.self.inside.single in
    let s1 = c.tick.new.self in
    let s2 = c.turn-turn.new.single in
    let q = c.turn-turn.ensures.quietly in
    record {
      later = later_then s0 s1 s2 (later_one s0 s1 c.tick.ensures.turn) (later_quiet s1 s2 q);
      open_ = λ op o. quiet_open s1 s2 q op (c.tick.ensures.open_ op o);
    })

pub returns-clause-ticks : goal.returns-clause-ticks
returns-clause-ticks g c = rw (← c.self.view_is) (
    let s0 = c.self.inside.single in
    let s1 = c.tick.new.self in
    let s2 = c.turn-turn.new.single in
    let q = c.turn-turn.ensures.quietly in
    ticks_later s0 s1 s2 (ticks_first s0 s1 c.args.now c.tick.ensures.turn) (later_quiet s1 s2 q))
