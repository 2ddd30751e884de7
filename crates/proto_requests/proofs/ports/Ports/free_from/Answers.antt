use Rattle.std.proofs.Common.{◌≡◌, ◌∙◌, ap, sym, subst, find}
use Rattle.std.specs.Option.{option_map}
use Rattle.proto_requests.specs.Ports.{PortView, PortsView, AreFull, is_free_at, is_free_from, number}
use Rattle.proto_requests.proofs.PortsInOrder.{begins, joined, ports_from, numbers_of}
use Rattle.proto_requests.proofs.ports.Ports.free_from.Goals as goal

pub invariant_of-self : goal.invariant_of-self
invariant_of-self c =
    let m = c.self.inside in
    let xs = m.held.entries in
    let from = c.args.from in
    let begin = c.begin_at-begin.result in
    let to = c.reached.result in
    let skipped : AreFull m.turn from begin xs = subst (λ n. AreFull m.turn from n xs) (sym c.begin_at-begin.ensures) (begins m.turn from m.passed.entries xs c.self.invariant.passed).0 in
    let full : AreFull m.turn begin to xs = subst (λ n. AreFull m.turn begin n xs) (sym c.reached.ensures) (c.first_free-found.ensures.full c.self.invariant.numbers) in
    record { numbers = c.self.invariant.numbers; turns = c.self.invariant.turns; begun = c.self.invariant.begun; passed = c.remember.ensures m.turn xs (joined m.turn from begin to xs skipped full) c.self.invariant.passed }

pub returns-clause-port : goal.returns-clause-port
returns-clause-port c =
    let m = c.self.inside in
    let xs = m.held.entries in
    let begin = c.begin_at-begin.result in
    let found : c.first_free-found.result ≡ option_map number (find (is_free_from m.turn begin) xs) = c.first_free-found.ensures.port c.self.invariant.numbers in
    let all : c.first_free-found.result ≡ option_map number (find (is_free_from m.turn c.args.from) xs) =
    found ∙ ap (λ n. option_map number (find (is_free_from m.turn n) xs)) c.begin_at-begin.ensures ∙ ap (option_map number) (sym (begins m.turn c.args.from m.passed.entries xs c.self.invariant.passed).1) in
    subst
    (λ (v : PortsView). c.first_free-found.result ≡ option_map (λ (x : PortView). x.pipe) (find (is_free_at c.args.from) v.items))
    c.self.view_is
    (all ∙ sym (ap (option_map (λ (x : PortView). x.pipe)) (ports_from m.turn c.args.from xs) ∙ numbers_of m.turn _))
