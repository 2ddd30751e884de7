use Rattle.std.proofs.Common.{◌≡◌, ◌∙◌, ap, Some, arith, length}
use Rattle.proto_live_requests.specs.Lives.{LivesView}
use Rattle.proto_requests.specs.Spots.{held}
use Rattle.proto_requests.specs.declared.spots.Spot.{Spot}
use Rattle.proto_live_requests.specs.declared.live.Live.{Live}
use Rattle.std.proofs.Common.{◌++◌, ◌∷◌, []}
use Rattle.proto_requests.proofs.Spotted.{held_more, held_few}
use Rattle.proto_requests.proofs.KnownOperations.{length_more}
use Rattle.proto_live_requests.proofs.LiveIndexes.{found_more}
use Rattle.proto_live_requests.proofs.lives.Lives.push.Goals as goal

pub invariant_of-self : goal.invariant_of-self
invariant_of-self c =
    let ss = c.self.inside.list.items in
    let ys = c.push_reserved.new.self.items in
    let x = c.args.x in
    let s : Spot Live = record { number = c.self.inside.next; value = Some x } in
    let e : ys ≡ ss ++ s ∷ [] = c.push_reserved.ensures.items in
    let whole : held ys ≡ held ss ++ x ∷ [] = ap held e ∙ held_more ss s in
    let v = c.self.inside.list in
    let fewer = held_few ss in
    let m = c.self.invariant.number in
    let len = v.ok.0 in
    let cap = v.ok.1 in
    let small = v.small in
    let more = ap length whole ∙ length_more (held ss) x in
    let alive = c.saturating_add-self-inside.ensures in
    record {
      by_number = λ h. found_more c.self.inside.next c.self.inside.by_ctx c.self.inside.by_id c.know-self-inside.new.by_ctx c.know-self-inside.new.by_id (held ss) (held ys) x (c.self.invariant.by_number (c.know-self-inside.ensures.all h)) (c.know-self-inside.ensures.ctx h) (c.know-self-inside.ensures.id h) whole;
      number = omega (arith, alive, fewer, m, len, cap, small, more);
    }

pub returns : goal.returns
returns c =
    let ss = c.self.inside.list.items in
    let ys = c.push_reserved.new.self.items in
    let x = c.args.x in
    let s : Spot Live = record { number = c.self.inside.next; value = Some x } in
    let e : ys ≡ ss ++ s ∷ [] = c.push_reserved.ensures.items in
    let whole : held ys ≡ held ss ++ x ∷ [] = ap held e ∙ held_more ss s in
    record { items = whole ∙ ap (λ (v : LivesView). v.items ++ x ∷ []) c.self.view_is }
