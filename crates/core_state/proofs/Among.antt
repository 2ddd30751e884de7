-- The operations that are pending, by the history and on the list.
use Rattle.std.proofs.Common.{◌≡◌, ap, sym, subst, [], Some, ◌≢◌, refl, ◌∙◌, List, ◌∷◌, ℕ, false, inl, inr, Option, None}
use Rattle.sp_base.specs.declared.OpName.{OpName}
use Rattle.sp_history.specs.declared.parts.Begun.{Begun}
use Rattle.sp_history.specs.Past.{pend, pending}
use Rattle.sp_history.specs.Moments.{Moment, past, Lawful}
use Rattle.core_state.specs.declared.pending.PendingOperation.{PendingOperation}
use Rattle.core_state.specs.Pendings.{IsAmong, FindsOn}
use Rattle.core_state.specs.declared.operations.Operations.{Operations}
use Rattle.core_state.specs.OperationsStand.{OperationsStand, pending_of}
use Rattle.core_state.proofs.PendingEnds.{pend_apart, among_named, named_among, find-named}
use Rattle.std.specs.Prelude.{◌==◌, map, MatchOption}
use Rattle.std.specs.List.{list_any}
use Rattle.sp_history.specs.Legal.{is_pending_on}
use Rattle.core_state.proofs.RingSteps.{differs}

module _ (s : Operations) (t : Moment) where
  -- what is on the list is pending
  pub pending_there : (x : PendingOperation) → OperationsStand [] s t → Lawful t → IsAmong x s.pending.items → (b : Begun) × (pending (past t) x.op ≡ Some b) × (b.ctx ≡ x.ctx)
  pending_there x h l m =
      let k = among_named x (pend (past t)) (pend_apart t l) (subst (IsAmong x) h.pending_is m) in
      (k.0, k.1, ap (λ (y : PendingOperation). y.ctx) (sym k.2))

  -- what is pending is on the list
  pub on_list : (op : OpName) (b : Begun) → OperationsStand [] s t → pending (past t) op ≡ Some b → (x : PendingOperation) × IsAmong x s.pending.items × (x.op ≡ op)
  on_list op b h p = (pending_of b, subst (IsAmong (pending_of b)) (sym h.pending_is) (named_among (pend (past t)) op b p), find-named (pend (past t)) op b p)

-- ---- What is pending on a context

none_on : (ss : List Begun) (c : ℕ) → ((x : PendingOperation) → IsAmong x (map pending_of ss) → x.ctx ≢ c) → list_any (λ (s : Begun). s.ctx == c) ss ≡ false
none_on [] c h = refl
none_on (s ∷ ss) c h = rw (differs s.ctx c (h (pending_of s) (inl refl))) (none_on ss c (λ x m. h x (inr m)))

-- what a search for the context finds
pub found_so : (r : Option OpName) (sh : Operations) (t : Moment) (c : ℕ) → FindsOn r c sh.pending.items → OperationsStand [] sh t → Lawful t → MatchOption r (is_pending_on (past t) c ≡ false) (λ op. (s : Begun) × (pending (past t) op ≡ Some s) × (s.ctx ≡ c))
found_so None sh t c f h l = none_on (pend (past t)) c (subst (λ (xs : List PendingOperation). (x : PendingOperation) → IsAmong x xs → x.ctx ≢ c) h.pending_is f)
found_so (Some op) sh t c f h l =
    let s = pending_there sh t f.0 h l f.1 in
    (s.0, subst (λ (o : OpName). pending (past t) o ≡ Some s.0) f.2 s.1, s.2 ∙ f.3)
