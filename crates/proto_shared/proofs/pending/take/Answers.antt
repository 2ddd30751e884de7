use Rattle.std.proofs.Common.{arith, sym}
use Rattle.proto_shared.specs.Waits.{is_for}
use Rattle.proto_shared.proofs.Places.{not_found}
use Rattle.proto_shared.proofs.Waiters.{without_none, taken_at, removed_at}
use Rattle.proto_shared.proofs.pending.take.Goals as goal

pub returns-in-None-clause-found : goal.returns-in-None-clause-found
returns-in-None-clause-found c = sym (not_found (is_for c.args.op) c.args.waiting.now.items (sym c.in-None.ensures))

pub returns-in-None-clause-rest : goal.returns-in-None-clause-rest
returns-in-None-clause-rest c = without_none c.args.op c.args.waiting.now.items (not_found (is_for c.args.op) c.args.waiting.now.items (sym c.in-None.ensures))

pub returns-in-Some-clause-found : goal.returns-in-Some-clause-found
returns-in-Some-clause-found c =
    let ws = c.args.waiting.now in
    taken_at c.args.op ws.items c.in-Some.i c.remove.result (sym c.in-Some.ensures) (λ d l. c.remove.ensures.succeeds d (omega (arith, ws.ok.0, l)))

pub returns-in-Some-clause-rest : goal.returns-in-Some-clause-rest
returns-in-Some-clause-rest c =
    let ws = c.args.waiting.now in
    removed_at c.args.op ws.items c.in-Some.i c.remove.result (sym c.in-Some.ensures) c.remove.new.self.items (λ s. omega (arith, ws.ok.0, c.remove.ensures.variant.0 s), λ l. c.remove.ensures.variant.1 (omega (arith, ws.ok.0, l))) c.remove.ensures.items
