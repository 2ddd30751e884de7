use Rattle.std.proofs.Common.{◌≡◌, ◌∙◌, ap, sym, subst, List, ℕ, true, [], ◌∷◌, ◌++◌, length}
use Rattle.sp_history.specs.Lists.{has}
use Rattle.proto_pubsub.specs.Topics.{IsIndex}
use Rattle.proto_pubsub.proofs.Indexed.{index_more, updated}
use Rattle.proto_pubsub.proofs.topics.Topics.put.Goals as goal

pub invariant_of-self-2 : goal.invariant_of-self-2
invariant_of-self-2 c =
    let old = c.self.inside.set.keys in
    let new = c.insert.new.self.keys in
    let lens : List ℕ = c.self.inside.lengths.items in
    let now : List ℕ = c.add_length.new.lengths.items in
    let ts : List (List ℕ) = c.self.inside.all.items in
    let t : List ℕ = c.in_ok-key.key.items in
    let same : t ≡ c.args.t.now = c.in_ok-key.ensures.items in
    let u = c.in_ok-insert.ensures.updates in
    let is : c.push_reserved.new.self.items ≡ ts ++ t ∷ [] =
    c.push_reserved.ensures.items ∙ ap (λ (xs : List (List ℕ)). xs ++ c.in_ok-topic.topic ∷ []) c.in_ok-reserve.ensures.items ∙ ap (λ (x : List ℕ). ts ++ x ∷ []) (c.in_ok-topic.ensures ∙ sym same) in
    let long : has now (length t) ≡ true = ap (λ (x : List ℕ). has now (length x)) same ∙ c.in_ok-add_length.ensures.added in
    subst (λ (xs : List (List ℕ)). IsIndex new now xs) (sym is) (index_more old new lens now ts t c.self.invariant (λ b. updated old new t b true u.1 u.3) long c.add_length.ensures.others)
