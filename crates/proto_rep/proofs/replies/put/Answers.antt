use Rattle.std.proofs.Common.{◌∙◌, sym}
use Rattle.proto_requests.proofs.Backlogged.{went}
use Rattle.proto_rep.proofs.KeyedReplies.{pairs_more}
use Rattle.proto_rep.proofs.replies.put.Goals as goal

pub returns-clause-others : goal.returns-clause-others
returns-clause-others c = λ t. pairs_more (c.args.key, c.args.n) c.args.index.now.keys c.insert.new.self.keys (went c.insert.result _ (sym c.is_err.ensures.value ∙ c.if-is_err.false) c.insert.ensures.updates).0
