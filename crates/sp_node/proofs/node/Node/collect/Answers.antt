use Rattle.std.proofs.Common.{sym, subst}
use Rattle.sp_core.specs.Collecting.{IsOpen}
use Rattle.sp_node.specs.Nodes.{NodeView}
use Rattle.sp_node.proofs.Steps.{still, collects_still}
use Rattle.sp_node.proofs.node.Node.collect.Goals as goal

pub collect-requires : goal.collect-requires
collect-requires g c = subst (λ (v : NodeView _). IsOpen 1 c.args.op v.single.seen) (sym c.self.view_is) c.requires.open_

pub invariant_of-self : goal.invariant_of-self
invariant_of-self g c =
    let old = c.self.inside in
    let took = c.collect.ensures.turn in
    (c.self.invariant.0, still old.single c.collect.new.self took g.L.Link.seen c.self.invariant.0 (g.N.Net.seen old.net) old.ends.links old.latest old.dry old.closed (collects_still c.collect.result c.args.op 1 old.single.seen took.turn took.said) c.self.invariant.1)

pub returns-clause-turn : goal.returns-clause-turn
returns-clause-turn g c = rw (← c.self.view_is) c.collect.ensures.turn

pub returns-clause-others : goal.returns-clause-others
returns-clause-others g c = rw (← c.self.view_is) c.collect.ensures.others
