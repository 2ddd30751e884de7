use Rattle.std.proofs.Common.{◌∙◌, ap, [], ◌∷◌, ◌++◌, inl, inr}
use Rattle.std.specs.Prelude.{not}
use Rattle.std.specs.List.{list_any}
use Rattle.proto_requests.specs.Hints.{HintsView, covers_by}
use Rattle.proto_requests.proofs.NumbersIn.{any_first, any_last, or_last, or_both}
use Rattle.proto_requests.proofs.hints.Hints.add.Goals as goal

pub returns-then-len-capacity-clause-more : goal.returns-then-len-capacity-clause-more
returns-then-len-capacity-clause-more g c = λ P h. or_last (not c.self.inside.is_whole) _ (ap (list_any P) c.push_back_reserved.ensures.items ∙ any_last P c.self.inside.queue.items c.args.x h)

pub returns-then-len-capacity-clause-same : goal.returns-then-len-capacity-clause-same
returns-then-len-capacity-clause-same g c = λ P h. or_both (not c.self.inside.is_whole) (list_any P c.self.inside.queue.items) _ (λ k. ap (list_any P) c.push_back_reserved.ensures.items ∙ any_first P c.self.inside.queue.items (c.args.x ∷ []) k) (ap (λ (v : HintsView _). covers_by v P) c.self.view_is ∙ h)

pub returns-then-len-capacity-clause-items : goal.returns-then-len-capacity-clause-items
returns-then-len-capacity-clause-items g c = inl (c.push_back_reserved.ensures.items ∙ ap (λ (v : HintsView _). v.items ++ c.args.x ∷ []) c.self.view_is)

pub returns-else-len-capacity-clause-items : goal.returns-else-len-capacity-clause-items
returns-else-len-capacity-clause-items g c = inr (ap (λ (v : HintsView _). v.items) c.give_up.ensures)
