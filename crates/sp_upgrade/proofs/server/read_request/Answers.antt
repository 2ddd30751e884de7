use Rattle.std.proofs.Common.{refl, arith}
use Rattle.sp_upgrade.specs.Texts.{answer_text}
use Rattle.sp_upgrade.proofs.Read.{good_request, none_of}
use Rattle.sp_upgrade.proofs.server.read_request.Goals as goal

pub returns-in-Err : goal.returns-in-Err
returns-in-Err c =
    let at = rw c.in-Ok-Complete.field-0-is at c.in-Ok-Complete.ensures.complete in
    (answer_text c.args.role c.in-Some-sole_value.key.now, good_request c.args.role c.args.path.now c.args.head.now c.parse_request.new.headers c.in-Ok-Complete.found at.0 c.fault_of.result c.in-Some-sole_value.key.now _ at.1 c.if-found-head.true (omega arith) c.fault_of.ensures (none_of c.fault_of.result c.in_default-fault_of.not-Some) c.in-Some-sole_value.ensures refl)
