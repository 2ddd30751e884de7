use Rattle.std.proofs.Common.{◌≡◌, refl, true, false, ◌<◌, arith, Bool}
use Rattle.std.specs.Prelude.{not}
use Rattle.proto_rep.specs.declared.rep.Reply.{Reply}
use Rattle.proto_requests.specs.Ports.{free_count}
use Rattle.proto_rep.proofs.Replied.{down_ties}
use Rattle.proto_rep.proofs.Stuck.{less_stuck, other_stuck}
use Rattle.proto_requests.proofs.KnownPipes.{down_free}
use Rattle.proto_rep.proofs.rep.ReplyProto.down.Goals as goal

pub returns-then-was_full-clause-down : goal.returns-then-was_full-clause-down
returns-then-was_full-clause-down c =
    λ t why l h.
    let was = c.args.self.now in
    let is : Reply = record { alloc = was.alloc; role = was.role; raw = was.raw; options = was.options; ports = c.forget.new.self; kept = c.forget-2.new.self; waiting = c.pass_below.new.self; places = was.places } in
    down_ties was is t c.args.p why h c.forget.ensures c.forget-2.ensures c.pass_below.ensures.same (λ s. rw c.forget.ensures (other_stuck was.raw c.args.p was.ports.items was.waiting.replies is.waiting.replies c.pass_below.ensures.passed c.pass_below.ensures.none s)) refl (refl, refl, refl)

-- the pipe was not full
isnt : (a b : Bool) → a ≡ not b → a ≡ false → b ≡ true
isnt a true e f = refl
isnt a false e f = absurd cc

pub returns-else-was_full-clause-down : goal.returns-else-was_full-clause-down
returns-else-was_full-clause-down c =
    λ t why l h.
    let was = c.args.self.now in
    let is : Reply = record { alloc = was.alloc; role = was.role; raw = was.raw; options = was.options; ports = c.forget.new.self; kept = c.forget-2.new.self; waiting = was.waiting; places = was.places } in
    let k = isnt c.is_full-was_full.result _ c.is_full-was_full.ensures c.if-was_full.false in
    down_ties was is t c.args.p why h c.forget.ensures c.forget-2.ensures (λ ws w. w) (λ s. rw c.forget.ensures (less_stuck was.raw c.args.p was.ports.items was.waiting.replies k s)) refl (refl, refl, refl)

pub returns-then-was_full-clause-left : goal.returns-then-was_full-clause-left
returns-then-was_full-clause-left c =
    λ t op s b l h k.
    let was = c.args.self.now in
    let less : free_count c.forget.new.self.items < free_count was.ports.items = down_free c.forget.new.self.items was.ports.items t c.args.p h.pipes c.forget.ensures k.not_full k.is_up in
    let same = c.pass_below.ensures.count in
    omega (arith, less, same)

pub returns-else-was_full-clause-left : goal.returns-else-was_full-clause-left
returns-else-was_full-clause-left c =
    λ t op s b l h k.
    let was = c.args.self.now in
    let less : free_count c.forget.new.self.items < free_count was.ports.items = down_free c.forget.new.self.items was.ports.items t c.args.p h.pipes c.forget.ensures k.not_full k.is_up in
    omega (arith, less)
