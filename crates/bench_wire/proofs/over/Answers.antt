use Rattle.sp_base.specs.declared.role.Role.TheVariants as roles
use Rattle.bench_wire.proofs.over.Goals as goal

pub new-requires-clause-met : goal.new-requires-clause-met
new-requires-clause-met c = (roles.Pull, tt, tt)
