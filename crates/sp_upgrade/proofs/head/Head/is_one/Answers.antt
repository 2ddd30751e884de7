use Rattle.sp_upgrade.proofs.OneResult.{one_server_answer, one_client_answer}
use Rattle.sp_upgrade.proofs.head.Head.is_one.Goals as goal

pub returns-clause-server : goal.returns-clause-server
returns-clause-server c = one_server_answer

pub returns-clause-client : goal.returns-clause-client
returns-clause-client c = one_client_answer
