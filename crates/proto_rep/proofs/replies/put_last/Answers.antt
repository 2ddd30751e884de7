use Rattle.proto_requests.specs.Spots.{held}
use Rattle.proto_rep.proofs.KeyedReplies.{keyed_last}
use Rattle.proto_rep.proofs.replies.put_last.Goals as goal

pub returns-then-is_indexed-clause-keys : goal.returns-then-is_indexed-clause-keys
returns-then-is_indexed-clause-keys c = λ ws w h e k n t. keyed_last c.args.raw c.args.index.now.keys c.put.new.index.keys ws (held c.args.list.now) w c.args.key c.args.n (h c.if-is_indexed.true) e k n (c.put.ensures.it t) (c.put.ensures.others t)
