use Rattle.std.proofs.Common.{◌≡◌, ◌∙◌, ap, sym, subst, List, ℕ, false, length}
use Rattle.std.specs.Prelude.{◌==◌}
use Rattle.std.specs.List.{list_any}
use Rattle.sp_history.specs.Lists.{has}
use Rattle.proto_pubsub.specs.SubContexts.{topics_without}
use Rattle.proto_pubsub.specs.Topics.{IsIndex}
use Rattle.proto_pubsub.proofs.Indexed.{index_fewer, length_left, updated}
use Rattle.proto_pubsub.proofs.topics.Topics.remove.Goals as goal

pub invariant_of-self : goal.invariant_of-self
invariant_of-self c =
    let old = c.self.inside.set.keys in
    let new = c.remove.new.self.keys in
    let lens : List ℕ = c.self.inside.lengths.items in
    let now : List ℕ = c.drop_length.new.lengths.items in
    let t : List ℕ = c.args.t.now in
    let ts : List (List ℕ) = c.self.inside.all.items in
    let us : List (List ℕ) = topics_without t ts in
    let u = c.remove.ensures.updates in
    let none : list_any (λ (x : List ℕ). length x == length t) us ≡ false =
    ap (list_any (λ (x : List ℕ). length x == length t)) (sym c.drop_topic.ensures ∙ sym c.deref.ensures.value) ∙ sym c.has_length.ensures ∙ c.if-not-has_length.true in
    subst (λ (xs : List (List ℕ)). IsIndex new now xs) (sym c.drop_topic.ensures)
    (index_fewer old new lens now ts t c.self.invariant (λ b. updated old new t b false u.1 u.3) (λ b h k. ap (λ (ns : List ℕ). has ns (length b)) c.drop_length.ensures ∙ length_left lens us (length t) none b h k))

pub invariant_of-self-else-not-has_length : goal.invariant_of-self-else-not-has_length
invariant_of-self-else-not-has_length c =
    let old = c.self.inside.set.keys in
    let new = c.remove.new.self.keys in
    let lens : List ℕ = c.self.inside.lengths.items in
    let t : List ℕ = c.args.t.now in
    let ts : List (List ℕ) = c.self.inside.all.items in
    let u = c.remove.ensures.updates in
    subst (λ (xs : List (List ℕ)). IsIndex new lens xs) (sym c.drop_topic.ensures)
    (index_fewer old new lens lens ts t c.self.invariant (λ b. updated old new t b false u.1 u.3) (λ b h k. k))
