use Rattle.proto_rep.proofs.KeyedReplies.{keyed_next}
use Rattle.proto_rep.proofs.replies.put_all.Goals as goal

pub loop-s-preserved : goal.loop-s-preserved
loop-s-preserved c =
    let put = c.if-not-put_spot.false in
    keyed_next c.args.raw c.loop-s.index.keys c.put_spot.new.index.keys c.args.list.now c.loop-s.s-index c.s-item.result c.loop-s-test.true c.s-item.is (c.put_spot.ensures.others put) (c.put_spot.ensures.it put) c.loop-s.invariant
