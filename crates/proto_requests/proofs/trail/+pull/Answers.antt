use Rattle.std.proofs.Common.{◌≡◌, ◌++◌, ◌∷◌, [], rules, ◌<◌}
use Rattle.proto_requests.proofs.Trailing.{moved_last, moved_more, on_ok}
use Rattle.proto_requests.proofs.trail.+pull.Goals as goal

pub returns-then-is_last-clause-moved : goal.returns-then-is_last-clause-moved
returns-then-is_last-clause-moved t c =
    let some : 0 < c.args.hops = search rules in
    let items : c.push.new.self.items ≡ c.args.words.now.items ++ c.in-Ok.w ∷ [] = search rules in
    moved_last c.args.hops c.in-Ok.w c.args.m.now c.trim_u32.new.self c.body-2.result.now c.args.words.now.items c.push.new.self.items some c.body-2.ensures c.if-is_last.true c.in-Ok.ensures items

pub returns-else-is_last-clause-moved : goal.returns-else-is_last-clause-moved
returns-else-is_last-clause-moved t c =
    let some : 0 < c.args.hops = search rules in
    let items : c.push.new.self.items ≡ c.args.words.now.items ++ c.in-Ok.w ∷ [] = search rules in
    on_ok c.pull.result
    (moved_more c.args.hops c.in-Ok.w c.args.m.now c.trim_u32.new.self c.pull.new.m c.body-2.result.now c.args.words.now.items c.push.new.self.items c.pull.new.words.items some c.body-2.ensures c.if-is_last.false c.in-Ok.ensures items)
    c.pull.ensures.moved
