use Rattle.proto_rep.proofs.KeyedReplies.{pairs_less}
use Rattle.proto_rep.proofs.replies.take_key.Goals as goal

pub returns : goal.returns
returns c = pairs_less (c.args.key, c.args.n) c.args.index.now.keys c.remove.new.self.keys c.remove.ensures.updates.0
