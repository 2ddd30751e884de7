use Rattle.std.proofs.Common.{◌≡◌, ◌∙◌, ap, sym, cond, nat_cmp, ℕ, Bool, true, false, Some, None, find}
use Rattle.std.specs.Option.{option_map}
use Rattle.std.specs.Map.{lookup}
use Rattle.std.specs.BTreeMap.{is_at}
use Rattle.std.proofs.lemmas.Bool.{eq-eqb, ne_eqb}
use Rattle.proto_requests.specs.declared.ports.Destination.TheVariants as ways
use Rattle.proto_requests.specs.Ports.{PortsView, port_in, is_pipe, is_full_in, way_at, where_is}
use Rattle.proto_requests.proofs.PortsInOrder.{find_port}
use Rattle.proto_requests.proofs.ports.Ports.way_to.Goals as goal

pub returns-in-None-get : goal.returns-in-None-get
returns-in-None-get c =
    let m = c.self.inside in
    let p = c.p.inside.0 in
    let none : lookup (is_at (nat_cmp p)) m.held.entries ≡ None = sym c.in-None-get.ensures.value in
    sym
    (ap (where_is c.args.self.now.items) c.in-Some.is ∙ sym (ap (λ n. way_at n (find (is_pipe n) c.args.self.now.items)) c.p.view_is) ∙ ap (λ (v : PortsView). way_at p (find (is_pipe p) v.items)) (sym c.self.view_is)
    ∙ ap (way_at p) (find_port m.turn p m.held.entries ∙ ap (option_map (λ (n : ℕ). port_in m.turn (p, n))) none))

pub returns-then-full_in-self : goal.returns-then-full_in-self
returns-then-full_in-self c =
    let m = c.self.inside in
    let p = c.p.inside.0 in
    let found : lookup (is_at (nat_cmp p)) m.held.entries ≡ Some c.in-Some-get.full_in.now = sym c.in-Some-get.ensures.value in
    let full : is_full_in m.turn (p, c.in-Some-get.full_in.now) ≡ true = eq-eqb _ _ c.if-full_in-self.true in
    sym
    (ap (where_is c.args.self.now.items) c.in-Some.is ∙ sym (ap (λ n. way_at n (find (is_pipe n) c.args.self.now.items)) c.p.view_is) ∙ ap (λ (v : PortsView). way_at p (find (is_pipe p) v.items)) (sym c.self.view_is)
    ∙ ap (way_at p) (find_port m.turn p m.held.entries ∙ ap (option_map (λ (n : ℕ). port_in m.turn (p, n))) found) ∙ ap (λ (b : Bool). cond b ways.Full (ways.To p)) full)

pub returns-else-full_in-self : goal.returns-else-full_in-self
returns-else-full_in-self c =
    let m = c.self.inside in
    let p = c.p.inside.0 in
    let found : lookup (is_at (nat_cmp p)) m.held.entries ≡ Some c.in-Some-get.full_in.now = sym c.in-Some-get.ensures.value in
    let full : is_full_in m.turn (p, c.in-Some-get.full_in.now) ≡ false = ne_eqb _ _ c.if-full_in-self.false in
    sym
    (ap (where_is c.args.self.now.items) c.in-Some.is ∙ sym (ap (λ n. way_at n (find (is_pipe n) c.args.self.now.items)) c.p.view_is) ∙ ap (λ (v : PortsView). way_at p (find (is_pipe p) v.items)) (sym c.self.view_is)
    ∙ ap (way_at p) (find_port m.turn p m.held.entries ∙ ap (option_map (λ (n : ℕ). port_in m.turn (p, n))) found) ∙ ap (λ (b : Bool). cond b ways.Full (ways.To p)) full ∙ ap (λ n. ways.To n) c.p.view_is)
