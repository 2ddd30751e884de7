-- The operations of one kind, receives or replies, among all that wait.
use Rattle.std.proofs.Common.{◌≡◌, refl, ap, sym, ◌∙◌, List, [], ◌∷◌, ℕ, ◌+◌, ◌≤◌, Bool, true, false, cond, arith, Option, Some, None, map, filter}
use Rattle.std.specs.Prelude.{find, not, is_some, ◌||◌, ◌&&◌, ◌==◌}
use Rattle.std.specs.List.{list_any}
use Rattle.std.specs.Option.{option_map}
use Rattle.sp_base.specs.declared.OpName.{OpName}
use Rattle.sp_history.specs.Once.{AreApart, occurs}
use Rattle.proto_requests.specs.FirstFound.{without_found}
use Rattle.proto_requests.specs.Ports.{PortView}
use Rattle.proto_requests.specs.Waits.{isnt, is_named}
use Rattle.proto_requests.proofs.KnownOperations.{rest_other}
use Rattle.proto_requests.proofs.Positions.{without_none}
use Rattle.proto_rep.specs.declared.operations.RepOperations.{RepOperations}
use Rattle.proto_rep.specs.declared.operations.Recipient.{Recipient}
use Rattle.proto_rep.specs.declared.operations.ReplyOperation.{ReplyOperation}
use Rattle.proto_rep.specs.declared.replies.WaitingReply.{WaitingReply}
use Rattle.proto_rep.specs.declared.replies.PendingReply.{PendingReply}
use Rattle.sp_proto.specs.declared.Offer.{Offer}
use Rattle.proto_rep.specs.Replies.{is_reply_of, without_reply, OffersFirst}
use Rattle.proto_rep.specs.Operations.{Holds, count, places, without_first, begun_of, is_for, is_receive, is_reply, is_ready, is_ready_to, receives_on, of_recipient, of_reply, can_go, can_go_to, SendsFirst}

-- ---- Seen as operations of all kinds

module _ {A B : Type 0} (f : B → A) (P : A → Bool) where
  pub find_mapped : (xs : List B) → find P (map f xs) ≡ option_map f (find (λ x. P (f x)) xs)
  find_mapped [] = refl
  find_mapped (x ∷ xs) = go (P (f x)) (find_mapped xs)
    where
      go : (b : Bool) → find P (map f xs) ≡ option_map f (find (λ x. P (f x)) xs) → cond b (Some (f x)) (find P (map f xs)) ≡ option_map f (cond b (Some x) (find (λ x. P (f x)) xs))
      go true h = refl
      go false h = h

  any_mapped : (xs : List B) → list_any P (map f xs) ≡ list_any (λ x. P (f x)) xs
  any_mapped [] = refl
  any_mapped (x ∷ xs) = ap (λ b. P (f x) || b) (any_mapped xs)

  pub without_mapped : (xs : List B) → map f (without_found (λ x. P (f x)) xs) ≡ without_found P (map f xs)
  without_mapped [] = refl
  without_mapped (x ∷ xs) = go (P (f x)) (without_mapped xs)
    where
      go : (b : Bool) → map f (without_found (λ x. P (f x)) xs) ≡ without_found P (map f xs) → map f (cond b xs (x ∷ without_found (λ x. P (f x)) xs)) ≡ cond b (map f xs) (f x ∷ without_found P (map f xs))
      go true h = refl
      go false h = ap (λ (l : List A). f x ∷ l) h

-- ---- A test that only one kind passes

module _ {A : Type 0} (P R : A → Bool) (s : (x : A) → P x ≡ true → R x ≡ true) where
  find_kind : (xs : List A) → find P (filter R xs) ≡ find P xs
  find_kind [] = refl
  find_kind (x ∷ xs) = go (P x) refl (R x) refl (find_kind xs)
    where
      go : (a : Bool) → P x ≡ a → (b : Bool) → R x ≡ b → find P (filter R xs) ≡ find P xs → find P (cond b (x ∷ filter R xs) (filter R xs)) ≡ cond a (Some x) (find P xs)
      go a e true k h = ap (λ v. cond v (Some x) (find P (filter R xs))) e ∙ ap (λ o. cond a (Some x) o) h
      go true e false k h = let bad : true ≡ false = sym (s x e) ∙ k in absurd cc
      go false e false k h = h

  any_kind : (xs : List A) → list_any P (filter R xs) ≡ list_any P xs
  any_kind [] = refl
  any_kind (x ∷ xs) = go (P x) refl (R x) refl (any_kind xs)
    where
      go : (a : Bool) → P x ≡ a → (b : Bool) → R x ≡ b → list_any P (filter R xs) ≡ list_any P xs → list_any P (cond b (x ∷ filter R xs) (filter R xs)) ≡ (a || list_any P xs)
      go a e true k h = ap (λ v. v || list_any P (filter R xs)) e ∙ ap (λ v. a || v) h
      go true e false k h = let bad : true ≡ false = sym (s x e) ∙ k in absurd cc
      go false e false k h = h

-- ---- The first of a kind

pub first_receives : (rs : List Recipient) (ws : List ReplyOperation) → map of_recipient rs ≡ filter is_receive ws → option_map (λ (x : Recipient). x.op) (find (isnt (λ (x : Recipient). false)) rs) ≡ option_map (λ (w : ReplyOperation). w.op) (find is_receive ws)
first_receives rs ws h = names (find (isnt (λ (x : Recipient). false)) rs) ∙ ap (option_map (λ (w : ReplyOperation). w.op)) (sym (find_mapped of_recipient is_receive rs) ∙ ap (find is_receive) h ∙ find_kind is_receive is_receive (λ x k. k) ws)
  where
    names : (o : Option Recipient) → option_map (λ (x : Recipient). x.op) o ≡ option_map (λ (w : ReplyOperation). w.op) (option_map of_recipient o)
    names None = refl
    names (Some x) = refl

pub receiving_on : (c : ℕ) (rs : List Recipient) (ws : List ReplyOperation) → map of_recipient rs ≡ filter is_receive ws → list_any (λ (x : Recipient). receives_on c (of_recipient x)) rs ≡ list_any (receives_on c) ws
receiving_on c rs ws h = sym (any_mapped of_recipient (receives_on c) rs) ∙ ap (list_any (receives_on c)) h ∙ any_kind (receives_on c) is_receive (λ w k. first w.answer (w.ctx == c) k) ws
  where
    first : (o : Option PendingReply) (b : Bool) → (not (is_some o) && b) ≡ true → not (is_some o) ≡ true
    first None b k = refl
    first (Some r) b k = absurd cc

ready_reply : (raw : Bool) (xs : List PortView) (w : ReplyOperation) → is_ready raw xs w ≡ true → is_reply w ≡ true
ready_reply raw xs w k = go w.answer k
  where
    go : (r : Option PendingReply) → can_go raw xs r ≡ true → is_some r ≡ true
    go None h = absurd cc
    go (Some r) h = refl

ready_to_reply : (raw : Bool) (xs : List PortView) (k : ℕ) (w : ReplyOperation) → is_ready_to raw xs k w ≡ true → is_reply w ≡ true
ready_to_reply raw xs k w h = go w.answer h
  where
    go : (r : Option PendingReply) → can_go_to raw xs k r ≡ true → is_some r ≡ true
    go None h = absurd cc
    go (Some r) h = refl

pub reply_offered : (raw : Bool) (xs : List PortView) (rs : List WaitingReply) (ws : List ReplyOperation) (x : Offer) → map of_reply rs ≡ filter is_reply ws → OffersFirst raw xs rs x → SendsFirst raw xs ws x
reply_offered raw xs rs ws x h (None, none, e) = (None, sym (find_kind (is_ready raw xs) is_reply (ready_reply raw xs) ws) ∙ ap (find (is_ready raw xs)) (sym h) ∙ find_mapped of_reply (is_ready raw xs) rs ∙ ap (option_map of_reply) none, e)
reply_offered raw xs rs ws x h (Some w, (k, first), e) =
    (Some (of_reply w), (k, sym (find_kind (is_ready_to raw xs k) is_reply (ready_to_reply raw xs k) ws) ∙ ap (find (is_ready_to raw xs k)) (sym h) ∙ find_mapped of_reply (is_ready_to raw xs k) rs ∙ ap (option_map of_reply) first), e)

-- ---- By their names

some_name : (R : ReplyOperation → Bool) (op : OpName) (ws : List ReplyOperation) (x : ReplyOperation) → find (is_for op) (filter R ws) ≡ Some x → 1 ≤ occurs (map begun_of ws) op
some_name R op [] x h = absurd cc
some_name R op (w ∷ ws) x h = go (is_for op w) refl (R w) h (some_name R op ws x)
  where
    go : (a : Bool) → is_for op w ≡ a → (b : Bool) → find (is_for op) (cond b (w ∷ filter R ws) (filter R ws)) ≡ Some x → (find (is_for op) (filter R ws) ≡ Some x → 1 ≤ occurs (map begun_of ws) op) → 1 ≤ cond a (occurs (map begun_of ws) op + 1) (occurs (map begun_of ws) op)
    go true e b h again = omega arith
    go false e true h again = again (ap (λ v. cond v (Some w) (find (is_for op) (filter R ws))) (sym e) ∙ h)
    go false e false h again = again h

-- where no two have the same name, one of a kind is the one with its name
pub found_kind : (R : ReplyOperation → Bool) (op : OpName) (ws : List ReplyOperation) (x : ReplyOperation) → occurs (map begun_of ws) op ≤ 1 → find (is_for op) (filter R ws) ≡ Some x → find (is_for op) ws ≡ Some x
found_kind R op [] x l h = h
found_kind R op (w ∷ ws) x l h = go (is_for op w) refl (R w) l h (found_kind R op ws x)
  where
    go : (a : Bool) → is_for op w ≡ a → (b : Bool) → cond a (occurs (map begun_of ws) op + 1) (occurs (map begun_of ws) op) ≤ 1 → find (is_for op) (cond b (w ∷ filter R ws) (filter R ws)) ≡ Some x
        → (occurs (map begun_of ws) op ≤ 1 → find (is_for op) (filter R ws) ≡ Some x → find (is_for op) ws ≡ Some x) → cond a (Some w) (find (is_for op) ws) ≡ Some x
    go true e true l h again = ap (λ v. cond v (Some w) (find (is_for op) (filter R ws))) (sym e) ∙ h
    go true e false l h again = let some = some_name R op ws x h in absurd (omega (arith, l, some))
    go false e true l h again = again l (ap (λ v. cond v (Some w) (find (is_for op) (filter R ws))) (sym e) ∙ h)
    go false e false l h again = again l h

-- no operation of either kind has the name
pub no_kind : (op : OpName) (ws : List ReplyOperation) → find (is_for op) (filter is_receive ws) ≡ None → find (is_for op) (filter is_reply ws) ≡ None → find (is_for op) ws ≡ None
no_kind op [] h k = refl
no_kind op (w ∷ ws) h k = go w.answer (is_for op w) refl h k (no_kind op ws)
  where
    go : (r : Option PendingReply) (a : Bool) → is_for op w ≡ a → find (is_for op) (cond (not (is_some r)) (w ∷ filter is_receive ws) (filter is_receive ws)) ≡ None → find (is_for op) (cond (is_some r) (w ∷ filter is_reply ws) (filter is_reply ws)) ≡ None
        → (find (is_for op) (filter is_receive ws) ≡ None → find (is_for op) (filter is_reply ws) ≡ None → find (is_for op) ws ≡ None) → cond a (Some w) (find (is_for op) ws) ≡ None
    go None true e h k again = let bad : Some w ≡ None = ap (λ v. cond v (Some w) (find (is_for op) (filter is_receive ws))) (sym e) ∙ h in absurd cc
    go (Some r) true e h k again = let bad : Some w ≡ None = ap (λ v. cond v (Some w) (find (is_for op) (filter is_reply ws))) (sym e) ∙ k in absurd cc
    go None false e h k again = again (ap (λ v. cond v (Some w) (find (is_for op) (filter is_receive ws))) (sym e) ∙ h) k
    go (Some r) false e h k again = again h (ap (λ v. cond v (Some w) (find (is_for op) (filter is_reply ws))) (sym e) ∙ k)

kept_without : (R : ReplyOperation → Bool) (op : OpName) (ws : List ReplyOperation) → occurs (map begun_of ws) op ≤ 1 → filter R (without_first op ws) ≡ without_first op (filter R ws)
kept_without R op [] l = refl
kept_without R op (w ∷ ws) l = go (is_for op w) refl (R w) refl l (kept_without R op ws)
  where
    none : occurs (map begun_of ws) op + 1 ≤ 1 → (o : Option ReplyOperation) → find (is_for op) (filter R ws) ≡ o → o ≡ None
    none l None e = refl
    none l (Some x) e = let some = some_name R op ws x e in absurd (omega (arith, l, some))

    go : (a : Bool) → is_for op w ≡ a → (b : Bool) → R w ≡ b → cond a (occurs (map begun_of ws) op + 1) (occurs (map begun_of ws) op) ≤ 1 → (occurs (map begun_of ws) op ≤ 1 → filter R (without_first op ws) ≡ without_first op (filter R ws))
        → filter R (cond a ws (w ∷ without_first op ws)) ≡ without_first op (cond b (w ∷ filter R ws) (filter R ws))
    go true e true k l again = ap (λ v. cond v (filter R ws) (w ∷ without_first op (filter R ws))) (sym e)
    go true e false k l again = without_none (is_for op) (filter R ws) (none l (find (is_for op) (filter R ws)) refl)
    go false e true k l again = rw k (ap (λ (rest : List ReplyOperation). w ∷ rest) (again l) ∙ ap (λ v. cond v (filter R ws) (w ∷ without_first op (filter R ws))) (sym e))
    go false e false k l again = rw k (again l)

module _ (was is : RepOperations) (op : OpName) (ws : List ReplyOperation) (apart : AreApart (map begun_of ws)) (h : Holds was ws) where
  pub reply_found : (x : WaitingReply) → Some x ≡ find (is_reply_of op) was.replies.items → find (is_for op) ws ≡ Some (of_reply x)
  reply_found x e = found_kind is_reply op ws (of_reply x) (apart op) (ap (find (is_for op)) (sym h.replies) ∙ find_mapped of_reply (is_for op) was.replies.items ∙ ap (option_map of_reply) (sym e))

  pub receive_found : (x : Recipient) → Some x ≡ find (is_named (λ (x : Recipient). x.op) op) was.receives.items → find (is_for op) ws ≡ Some (of_recipient x)
  receive_found x e = found_kind is_receive op ws (of_recipient x) (apart op) (ap (find (is_for op)) (sym h.receives) ∙ find_mapped of_recipient (is_for op) was.receives.items ∙ ap (option_map of_recipient) (sym e))

  pub none_found : None ≡ find (is_named (λ (x : Recipient). x.op) op) was.receives.items → None ≡ find (is_reply_of op) was.replies.items → find (is_for op) ws ≡ None
  none_found e f =
      no_kind op ws (ap (find (is_for op)) (sym h.receives) ∙ find_mapped of_recipient (is_for op) was.receives.items ∙ ap (option_map of_recipient) (sym e))
      (ap (find (is_for op)) (sym h.replies) ∙ find_mapped of_reply (is_for op) was.replies.items ∙ ap (option_map of_reply) (sym f))

  fewer_replies : is.replies.items ≡ without_reply op was.replies.items → map of_reply is.replies.items ≡ filter is_reply (without_first op ws)
  fewer_replies e = ap (map of_reply) e ∙ without_mapped of_reply (is_for op) was.replies.items ∙ ap (without_first op) h.replies ∙ sym (kept_without is_reply op ws (apart op))

  pub reply_ended : (x : WaitingReply) → Some x ≡ find (is_reply_of op) was.replies.items → is.replies.items ≡ without_reply op was.replies.items → is.receives ≡ was.receives → count is ≤ places is → Holds is (without_first op ws)
  reply_ended x e f g l = record { receives = rw g (h.receives ∙ sym (rest_other (is_for op) is_receive ws (of_reply x) (reply_found x e) refl)); replies = fewer_replies f; fits = l }

  pub receive_ended : is.replies.items ≡ without_reply op was.replies.items → is.receives.items ≡ without_found (is_named (λ (x : Recipient). x.op) op) was.receives.items → count is ≤ places is → Holds is (without_first op ws)
  receive_ended e f l =
      record {
        receives = ap (map of_recipient) f ∙ without_mapped of_recipient (is_for op) was.receives.items ∙ ap (without_first op) h.receives ∙ sym (kept_without is_receive op ws (apart op));
        replies = fewer_replies e;
        fits = l;
      }
