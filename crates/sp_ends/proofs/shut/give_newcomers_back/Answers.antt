use Rattle.std.proofs.Common.{arith, deque_len, false, ◌≡◌, [], subst}
use Rattle.sp_base.specs.Steps.{AfterGiveBack}
use Rattle.sp_ends.proofs.LeavingNet.{links_first, links_one, links_all, none_left}
use Rattle.sp_ends.proofs.shut.give_newcomers_back.Goals as goal

pub links-init : goal.links-init
links-init g c = links_first g.N.L.Link.seen c.args.newcomers.items (g.N.Net.seen c.args.net.now) c.requires

pub links-preserved : goal.links-preserved
links-preserved g c =
    let seen = g.N.L.Link.seen in
    let net = g.N.Net.seen c.links.net in
    let next = g.N.Net.seen c.leave.new.net in
    let given = subst (λ (l : g.row.N-L.Denot). AfterGiveBack (record (seen l) { is_open = false }) net next) c.into_link.ensures c.leave.ensures in
    links_one seen c.args.newcomers.items c.links.newcomers.items c.pop_front.new.self.items c.in-Some.newcomer (g.N.Net.seen c.args.net.now) net next c.links.invariant c.in-Some.ensures.items given

pub returns-clause-back : goal.returns-clause-back
returns-clause-back g c =
    let empty : c.links.newcomers.items ≡ [] = none_left c.links.newcomers.items (deque_len c.links.newcomers) (omega (arith, c.links.newcomers.ok.0)) c.in_default.ensures.value in
    links_all g.N.L.Link.seen c.args.newcomers.items c.links.newcomers.items (g.N.Net.seen c.args.net.now) (g.N.Net.seen c.links.net) c.links.invariant empty

pub returns-clause-counts : goal.returns-clause-counts
returns-clause-counts g c = c.links.invariant.counts
