use Rattle.sp_base.specs.declared.role.Role.TheVariants as roles
use Rattle.test_wire.proofs.tests.ipc.Goals as goal

pub new-requires-2-clause-met : goal.new-requires-2-clause-met
new-requires-2-clause-met g c = (roles.Pull, tt, tt)
