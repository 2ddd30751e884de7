use Rattle.cat_rounds.proofs.Subscribing.{silent_prepares, subscribed, no_entry}
use Rattle.cat_rounds.proofs.topics.subscribe.Goals as goal

pub returns-in-Ok-clause-prepares : goal.returns-in-Ok-clause-prepares
returns-in-Ok-clause-prepares g c =
    (subscribed c.args.single.now c.subscribe.new.self c.args._player.now c.args.topic.now c.in-Ok.ensures.turn c.requires.before c.requires.planned).0

pub returns-in-Ok-clause-on : goal.returns-in-Ok-clause-on
returns-in-Ok-clause-on g c =
    (subscribed c.args.single.now c.subscribe.new.self c.args._player.now c.args.topic.now c.in-Ok.ensures.turn c.requires.before c.requires.planned).1

pub returns-in-Err-NoMemory-clause-prepares : goal.returns-in-Err-NoMemory-clause-prepares
returns-in-Err-NoMemory-clause-prepares g c =
    silent_prepares c.args.single.now c.subscribe.new.self c.in-Err-NoMemory.ensures.turn c.args._player.now c.requires.before c.in-Err-NoMemory.ensures.turn.said.0

pub unreachable-requires-in-Err-NoEntry : goal.unreachable-requires-in-Err-NoEntry
unreachable-requires-in-Err-NoEntry g c = no_entry c.args.single.now c.subscribe.new.self c.args._player.now c.args.topic.now c.in-Err-NoEntry.field-0 c.in-Err-NoEntry.field-0-is c.requires.before c.in-Err-NoEntry.ensures.turn
