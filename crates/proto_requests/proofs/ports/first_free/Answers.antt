use Rattle.std.proofs.Common.{◌^◌, ◌≤◌, ⊎_elim, ap, sym}
use Rattle.std.specs.Option.{option_map}
use Rattle.std.proofs.lemmas.Bool.{cases_lt}
use Rattle.proto_requests.specs.Ports.{number}
use Rattle.proto_requests.proofs.PortsInOrder.{none_past, full_past}
use Rattle.proto_requests.proofs.ports.first_free.Goals as goal

pub returns-in-Err-clause-port : goal.returns-in-Err-clause-port
returns-in-Err-clause-port c = λ numbers.
    let past : 2 ^ 32 ≤ c.args.from = ⊎_elim (λ l. absurd (c.in-Err.ensures l)) (λ l. l) (cases_lt c.args.from (2 ^ 32)) in
    sym (ap (option_map number) (none_past c.args.turn c.args.from c.args.held.now.entries numbers past))

pub returns-in-Err-clause-full : goal.returns-in-Err-clause-full
returns-in-Err-clause-full c = λ numbers.
    let past : 2 ^ 32 ≤ c.args.from = ⊎_elim (λ l. absurd (c.in-Err.ensures l)) (λ l. l) (cases_lt c.args.from (2 ^ 32)) in
    full_past c.args.turn c.args.from c.args.held.now.entries past
