use Rattle.cat_rounds.proofs.CollectedByPlay.{pending_now}
use Rattle.cat_rounds.proofs.LastCollect.{collects_last, none_is_pending}
use Rattle.cat_rounds.proofs.player.Player.finish.Goals as goal

pub unreachable-requires : goal.unreachable-requires
unreachable-requires g c =
    let took = c.in-NotYet.ensures.turn in
    none_is_pending c.args.single.now c.collect.new.self took c.in-Some.op took.said.2.0 took.said.1 c.requires.ended (pending_now c.args.single.now c.collect.new.self took c.in-Some.op took.said.2.0 took.said.2.1)

pub returns : goal.returns
returns g c =
    record { finished = collects_last c.args.single.now c.collect.new.self c.collect.result c.in-Some.op c.collect.ensures.turn; none = λ free. absurd (let held = c.in-Some.is in cc) }
