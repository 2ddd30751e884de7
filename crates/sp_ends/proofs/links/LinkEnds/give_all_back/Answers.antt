use Rattle.std.proofs.Common.{◌≡◌, ◌<◌, List, ℕ, sym, ap, subst, ◌∙◌}
use Rattle.std.specs.List.{AllByRecursion}
use Rattle.std.specs.FinMap.{FinMap}
use Rattle.std.specs.Ordering.{nat_cmp}
use Rattle.sp_base.specs.Views.{LinkView}
use Rattle.sp_ends.specs.declared.newcomer.Newcomer.{Newcomer}
use Rattle.sp_ends.specs.EndViews.{LinkEndsView}
use Rattle.sp_ends.specs.ShutWires.{AreHandedOut, with_links, with_wires}
use Rattle.sp_ends.proofs.LeavingNet.{counts_through}
use Rattle.sp_ends.proofs.LeavingLast.{newcomers_below, wires_below, links_left}
use Rattle.sp_ends.proofs.links.LinkEnds.give_all_back.Goals as goal

pub give_newcomers_back-requires : goal.give_newcomers_back-requires
give_newcomers_back-requires g c =
    let seen = g.L.Link.seen in
    let net = g.N.Net.seen c.args.net.now in
    let s = c.requires.stands in
    subst (λ (ns : List (Newcomer g.row.L.Denot)). AllByRecursion (λ n. (seen n.opening.link).place < net.opened) ns) (sym (ap (λ (e : LinkEndsView g.row.L.Denot). e.newcomers) c.self.view_is)) (newcomers_below seen s.0 s.1 s.2 net c.args.self s.3)

pub give_wires_back-requires : goal.give_wires_back-requires
give_wires_back-requires g c =
    let s = c.requires.stands in
    subst (λ (o : ℕ). AreHandedOut o c.args.wires) (sym c.give_newcomers_back.ensures.counts.opened) (wires_below g.L.Link.seen s.0 s.1 s.2 (g.N.Net.seen c.args.net.now) c.args.self c.args.wires s.3 s.4)

pub returns-clause-left : goal.returns-clause-left
returns-clause-left g c z start h legal closed stands has =
    let seen = g.L.Link.seen in
    let first = g.N.Net.seen c.args.net.now in
    let mid = g.N.Net.seen c.give_newcomers_back.new.net in
    let last = g.N.Net.seen c.give_wires_back.new.net in
    let wires = c.give_wires_back.ensures in
    let links : mid.back ≡ with_links seen first.back c.args.self.newcomers = c.give_newcomers_back.ensures.back ∙ ap (λ (e : LinkEndsView g.row.L.Denot). with_links seen first.back e.newcomers) c.self.view_is in
    links_left seen z start h first c.args.self c.args.wires legal closed stands has wires.shut last (counts_through first mid last c.give_newcomers_back.ensures.counts wires.counts)
    (wires.back ∙ ap (λ (b : FinMap nat_cmp LinkView). with_wires b c.args.wires) links)

pub returns-clause-counts : goal.returns-clause-counts
returns-clause-counts g c = counts_through (g.N.Net.seen c.args.net.now) (g.N.Net.seen c.give_newcomers_back.new.net) (g.N.Net.seen c.give_wires_back.new.net) c.give_newcomers_back.ensures.counts c.give_wires_back.ensures.counts
