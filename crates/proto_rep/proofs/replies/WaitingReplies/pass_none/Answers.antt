use Rattle.proto_requests.specs.Spots.{held}
use Rattle.proto_rep.proofs.PassedReplies.{none_passed}
use Rattle.proto_rep.proofs.replies.WaitingReplies.pass_none.Goals as goal

pub returns-clause-passed : goal.returns-clause-passed
returns-clause-passed c = none_passed c.self.inside.raw (held c.self.inside.list.items)
