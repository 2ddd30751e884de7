use Rattle.std.proofs.Common.{rules, ◌≡◌, ◌∙◌, ◌++◌, ◌∷◌, ◌^◌, ◌<◌, [], map, ap, sym, subst, true, false, nat_cmp}
use Rattle.std.specs.List.{list_all}
use Rattle.std.specs.BTreeMap.{insert_entry}
use Rattle.proto_requests.specs.Ports.{PortsView, AreKnown, is_under, is_below, port_in}
use Rattle.proto_requests.proofs.PortsInOrder.{more_known, more_view, under_ports, put_last}
use Rattle.proto_requests.proofs.ports.Ports.push.Goals as goal

pub returns-then-not-are_under-clause-more : goal.returns-then-not-are_under-clause-more
returns-then-not-are_under-clause-more c = λ all.
    let m = c.self.inside in
    let under : c.are_under.result ≡ true = c.are_under.ensures ∙ sym (under_ports m.turn c.args.p m.held.entries) ∙ ap (λ (v : PortsView). list_all (is_below c.args.p) v.items) c.self.view_is ∙ all in
    let no : c.are_under.result ≡ false = c.if-not-are_under.true in
    absurd cc

pub invariant_of-self-2 : goal.invariant_of-self-2
invariant_of-self-2 c =
    let m = c.self.inside in
    let all : list_all (is_under c.args.p) m.held.entries ≡ true = sym c.are_under.ensures ∙ c.if-not-are_under.false in
    let put : c.insert.new.self.entries ≡ m.held.entries ++ (c.args.p, 0) ∷ [] =
    let put : c.insert.new.self.entries ≡ insert_entry nat_cmp m.held.entries c.p.inside.0 0 = search rules in
    put ∙ ap (λ n. insert_entry nat_cmp m.held.entries n 0) c.p.view_is ∙ put_last c.args.p m.held.entries all in
    let low : c.args.p < 2 ^ 32 = search rules in
    subst (λ es. AreKnown m.turn es c.insert.new.self.entries) (sym c.clear.ensures.empty) (subst (AreKnown m.turn []) (sym put) (more_known m.turn c.args.p m.passed.entries m.held.entries c.self.invariant low))

pub returns-clause-more : goal.returns-clause-more
returns-clause-more c = λ below.
    let m = c.self.inside in
    let all : list_all (is_under c.args.p) m.held.entries ≡ true = sym c.are_under.ensures ∙ c.if-not-are_under.false in
    let put : c.insert.new.self.entries ≡ m.held.entries ++ (c.args.p, 0) ∷ [] =
    let put : c.insert.new.self.entries ≡ insert_entry nat_cmp m.held.entries c.p.inside.0 0 = search rules in
    put ∙ ap (λ n. insert_entry nat_cmp m.held.entries n 0) c.p.view_is ∙ put_last c.args.p m.held.entries all in
    ap (map (port_in m.turn)) put ∙ more_view m.turn c.args.p m.held.entries c.self.invariant.begun ∙ ap (λ (v : PortsView). v.items ++ record { pipe = c.args.p; is_full = false } ∷ []) c.self.view_is
