-- What is left of the operations when one ends, and when one begins.
use Rattle.std.proofs.Common.{◌≡◌, refl, ap, sym, ◌∙◌, subst, List, [], ◌∷◌, ◌++◌, ℕ, zero, suc, ◌+◌, ◌<◌, ◌≤◌, Bool, true, false, cond, arith, Option, Some, None, length, map, slice_index_or}
use Rattle.std.specs.Prelude.{find, filter, not, remove, option_to_list, IsSome, OnSome, ◌↔◌}
use Rattle.std.specs.List.{position, list_any}
use Rattle.std.specs.Option.{option_map}
use Rattle.std.specs.VecDeque.{deque_len, deque_capacity}
use Rattle.std.proofs.lemmas.List.{map-append}
use Rattle.std.proofs.lemmas.List.Quantifiers.{position-Some}
use Rattle.sp_base.specs.declared.OpName.{OpName}
use Rattle.sp_msg.specs.Views.{MessageView}
use Rattle.sp_history.specs.declared.entry.RecordedAct.{RecordedAct}
use Rattle.sp_history.specs.declared.entry.RecordedAct.TheVariants.{Recv, Send}
use Rattle.sp_history.specs.declared.entry.RecordedMessage.{RecordedMessage as Text}
use Rattle.sp_history.specs.declared.parts.Begun.{Begun}
use Rattle.sp_history.specs.Past.{is_of, without_begun}
use Rattle.sp_history.specs.Legal.{is_at, is_recv}
use Rattle.sp_history.specs.Once.{AreApart, occurs}
use Rattle.sp_history.proofs.OnceHolds.{occurs-without}
use Rattle.sp_proto.specs.Kinds.{text_of}
use Rattle.sp_proto.specs.Machines.{message_of}
use Rattle.proto_shared.specs.declared.pending.Pending.{Pending}
use Rattle.proto_shared.specs.declared.pending.Waiting.{Waiting}
use Rattle.sp_proto.specs.Kinds.{act_of}
use Rattle.proto_shared.specs.Waits.{Holds, Ends, begun_of, is_for, is_receive, is_send, without_first}
use Rattle.proto_shared.proofs.Places.{found_at}
use Rattle.proto_shared.proofs.Splits.{absent, apart_without, apart_more, occurs_most, find_passing, without_passing, other_stay, passing_append}

-- ---- Taking out

pub without_none : (op : OpName) (ws : List Waiting) → find (is_for op) ws ≡ None → ws ≡ without_first op ws
without_none op [] h = refl
without_none op (w ∷ ws) h = go (is_for op w) h (without_none op ws)
  where
    go : (b : Bool) → cond b (Some w) (find (is_for op) ws) ≡ None → (find (is_for op) ws ≡ None → ws ≡ without_first op ws) → w ∷ ws ≡ cond b ws (w ∷ without_first op ws)
    go true h again = absurd cc
    go false h again = ap (λ rest. w ∷ rest) (again h)

removes : (op : OpName) (ws : List Waiting) (i : ℕ) (d : Waiting) → i < length ws → is_for op (slice_index_or ws i d) ≡ true → ((k : ℕ) → k < i → is_for op (slice_index_or ws k d) ≡ false) → remove ws i ≡ without_first op ws
removes op [] i d h t b = absurd (omega arith)
removes op (w ∷ ws) zero d h t b = rw t refl
removes op (w ∷ ws) (suc i) d h t b =
    let no : is_for op w ≡ false = b 0 (omega arith) in
    rw no (ap (λ rest. w ∷ rest) (removes op ws i d (omega (arith, h)) t (λ k l. b (suc k) (omega (arith, l)))))

pub without_at : (op : OpName) (ws : List Waiting) (i : ℕ) (d : Waiting) → position (is_for op) ws ≡ Some i → remove ws i ≡ without_first op ws
without_at op ws i d h = let at = position-Some (is_for op) ws i d h in removes op ws i d at.0 at.1 at.2

-- what is taken out at the place of the first is the first, and the others stay
module _ (op : OpName) (ws : List Waiting) (i : ℕ) (r : Option Waiting) (h : position (is_for op) ws ≡ Some i) where
  pub taken_at : ((d : Waiting) → i < length ws → r ≡ Some (slice_index_or ws i d)) → r ≡ find (is_for op) ws
  taken_at succeeds = go ws refl
    where
      go : (vs : List Waiting) → ws ≡ vs → r ≡ find (is_for op) ws
      go [] e = let no : None ≡ Some i = sym (ap (position (is_for op)) e) ∙ h in absurd cc
      go (d ∷ vs) e = succeeds d (position-Some (is_for op) ws i d h).0 ∙ sym (found_at (is_for op) ws i d h)

  pub removed_at : (vs : List Waiting) → IsSome r ↔ (i < length ws) → OnSome r (vs ≡ remove ws i) → vs ≡ without_first op ws
  removed_at vs there items = go ws refl
    where
      there_is : (o : Option Waiting) → IsSome o → OnSome o (vs ≡ remove ws i) → vs ≡ remove ws i
      there_is None n k = absurd cc
      there_is (Some w) n k = k

      go : (us : List Waiting) → ws ≡ us → vs ≡ without_first op ws
      go [] e = let no : None ≡ Some i = sym (ap (position (is_for op)) e) ∙ h in absurd cc
      go (d ∷ us) e = there_is r (there.1 (position-Some (is_for op) ws i d h).0) items ∙ without_at op ws i d h

-- ---- As operations

-- the one of this name, and its operation
find_waiting : (op : OpName) (ws : List Waiting) (s : Begun) → find (is_of op) (map begun_of ws) ≡ Some s → (w : Waiting) × (find (is_for op) ws ≡ Some w) × (begun_of w ≡ s)
find_waiting op [] s h = absurd cc
find_waiting op (w ∷ ws) s h = go (is_for op w) h (find_waiting op ws s)
  where
    some_inj : Some (begun_of w) ≡ Some s → begun_of w ≡ s
    some_inj q = cc

    go : (b : Bool) → cond b (Some (begun_of w)) (find (is_of op) (map begun_of ws)) ≡ Some s → (find (is_of op) (map begun_of ws) ≡ Some s → (v : Waiting) × (find (is_for op) ws ≡ Some v) × (begun_of v ≡ s))
        → (v : Waiting) × (cond b (Some w) (find (is_for op) ws) ≡ Some v) × (begun_of v ≡ s)
    go true h again = (w, refl, some_inj h)
    go false h again = again h

-- where no name occurs twice, the first is the only one
without_all : (op : OpName) (ws : List Waiting) → occurs (map begun_of ws) op ≤ 1 → map begun_of (without_first op ws) ≡ without_begun (map begun_of ws) op
without_all op [] h = refl
without_all op (w ∷ ws) h = go (is_for op w) h (without_all op ws)
  where
    go : (b : Bool) → cond b (occurs (map begun_of ws) op + 1) (occurs (map begun_of ws) op) ≤ 1 → (occurs (map begun_of ws) op ≤ 1 → map begun_of (without_first op ws) ≡ without_begun (map begun_of ws) op)
        → map begun_of (cond b ws (w ∷ without_first op ws)) ≡ cond (not b) (begun_of w ∷ without_begun (map begun_of ws) op) (without_begun (map begun_of ws) op)
    go true h again = sym (absent (map begun_of ws) op (omega (arith, h)))
    go false h again = ap (λ (rest : List Begun). begun_of w ∷ rest) (again h)

-- the operations of one kind, one of which ends
module _ (f : Begun → Bool) (ws : List Waiting) (ss : List Begun) (op : OpName) (s : Begun) (h : map begun_of ws ≡ filter f ss) (k : find (is_of op) ss ≡ Some s) (passes : f s ≡ true) where
  pub found : (w : Waiting) × (find (is_for op) ws ≡ Some w) × (begun_of w ≡ s)
  found = find_waiting op ws s (ap (find (is_of op)) h ∙ find_passing f ss op s k passes)

  pub rest : AreApart ss → map begun_of (without_first op ws) ≡ filter f (without_begun ss op)
  rest apart =
      let one : occurs (map begun_of ws) op ≤ 1 = subst (λ (xs : List Begun). occurs xs op ≤ 1) (sym h) (omega (arith, occurs_most f ss op, apart op)) in
      without_all op ws one ∙ ap (λ (xs : List Begun). without_begun xs op) h ∙ sym (without_passing f ss op)

no_send : (a : Bool) → a ≡ true → not a ≡ false
no_send a h = rw h refl

a_send : (a : Bool) → a ≡ false → not a ≡ true
a_send a h = rw h refl

module _ (m n : Pending) (ss : List Begun) (op : OpName) (s : Begun) (r : Option Waiting) (h : Holds m ss) (k : find (is_of op) ss ≡ Some s) where
  pub receive_ends : is_recv s.act ≡ true → r ≡ find (is_for op) m.receives.items → n.receives.items ≡ without_first op m.receives.items → deque_len n.receives + length (option_to_list r) ≡ deque_len m.receives
      → deque_capacity n.receives ≡ deque_capacity m.receives → n.sends ≡ m.sends → Ends m n ss op
  receive_ends is e items len grown same =
      let w = found is_receive m.receives.items ss op s h.receives k is in
      let one : length (option_to_list r) ≡ 1 = ap (λ (o : Option Waiting). length (option_to_list o)) (e ∙ w.1) in
      let sends : deque_len n.sends ≡ deque_len m.sends = ap (λ q. deque_len q) same in
      let places : deque_capacity n.sends ≡ deque_capacity m.sends = ap (λ q. deque_capacity q) same in
      let fits = h.fits in (
        record {
          receives = ap (map begun_of) items ∙ rest is_receive m.receives.items ss op s h.receives k is h.apart;
          sends = ap (λ q. map begun_of q.items) same ∙ h.sends ∙ sym (other_stay is_send ss op s h.apart k (no_send (is_recv s.act) is));
          apart = apart_without ss op h.apart;
          fits = omega (arith, one, len, grown, sends, places, fits);
        },
        (omega (arith, one, len, sends), omega (arith, one, len, grown, sends, places, fits)),
      )

  pub send_ends : is_recv s.act ≡ false → r ≡ find (is_for op) m.sends.items → n.sends.items ≡ without_first op m.sends.items → deque_len n.sends + length (option_to_list r) ≡ deque_len m.sends
      → deque_capacity n.sends ≡ deque_capacity m.sends → n.receives ≡ m.receives → (w : Waiting) × (r ≡ Some w) × (begun_of w ≡ s) × Ends m n ss op
  send_ends is e items len grown same =
      let sent = a_send (is_recv s.act) is in
      let w = found is_send m.sends.items ss op s h.sends k sent in
      let one : length (option_to_list r) ≡ 1 = ap (λ (o : Option Waiting). length (option_to_list o)) (e ∙ w.1) in
      let receives : deque_len n.receives ≡ deque_len m.receives = ap (λ q. deque_len q) same in
      let places : deque_capacity n.receives ≡ deque_capacity m.receives = ap (λ q. deque_capacity q) same in
      let fits = h.fits in (
        w.0,
        e ∙ w.1,
        w.2,
        (
          record {
            receives = ap (λ q. map begun_of q.items) same ∙ h.receives ∙ sym (other_stay is_receive ss op s h.apart k is);
            sends = ap (map begun_of) items ∙ rest is_send m.sends.items ss op s h.sends k sent h.apart;
            apart = apart_without ss op h.apart;
            fits = omega (arith, one, len, grown, receives, places, fits);
          },
          (omega (arith, one, len, receives), omega (arith, one, len, grown, receives, places, fits)),
        ),
      )

  -- where no send has the name, it is a receive
  pub is_a_receive : find (is_for op) m.sends.items ≡ None → is_recv s.act ≡ true
  is_a_receive e = go (is_recv s.act) refl
    where
      go : (b : Bool) → is_recv s.act ≡ b → is_recv s.act ≡ true
      go true q = q
      go false q =
          let w = found is_send m.sends.items ss op s h.sends k (a_send (is_recv s.act) q) in
          let no : None ≡ Some w.0 = sym e ∙ w.1 in
          absurd cc

-- a send that has the name is the operation
pub is_a_send : (m : Pending) (ss : List Begun) (op : OpName) (s : Begun) (w : Waiting) → Holds m ss → find (is_of op) ss ≡ Some s → Some w ≡ find (is_for op) m.sends.items → is_recv s.act ≡ false
is_a_send m ss op s w h k e = go (is_recv s.act) refl
  where
    none_left : (ws : List Waiting) → occurs (map begun_of ws) op ≡ 0 → find (is_for op) ws ≡ None
    none_left [] q = refl
    none_left (v ∷ ws) q = step (is_for op v) q (none_left ws)
      where
        step : (b : Bool) → cond b (occurs (map begun_of ws) op + 1) (occurs (map begun_of ws) op) ≡ 0 → (occurs (map begun_of ws) op ≡ 0 → find (is_for op) ws ≡ None) → cond b (Some v) (find (is_for op) ws) ≡ None
        step true q again = absurd (omega (arith, q))
        step false q again = again q

    gone : (xs : List Begun) → occurs (without_begun xs op) op ≡ 0 → without_begun xs op ≡ xs → occurs xs op ≡ 0
    gone xs z q = subst (λ (ys : List Begun). occurs ys op ≡ 0) q z

    go : (b : Bool) → is_recv s.act ≡ b → is_recv s.act ≡ false
    go false q = q
    go true q =
        let stay = sym (without_passing is_send ss op) ∙ other_stay is_send ss op s h.apart k (no_send (is_recv s.act) q) in
        let zero_left : occurs (map begun_of m.sends.items) op ≡ 0 = subst (λ (ys : List Begun). occurs ys op ≡ 0) (sym h.sends) (gone (filter is_send ss) (occurs-without (filter is_send ss) op) stay) in
        let no : Some w ≡ None = e ∙ none_left m.sends.items zero_left in
        absurd cc

-- ---- What is returned

pub act_message : (w : Waiting) (s : Begun) → begun_of w ≡ s → option_map text_of w.message ≡ message_of s.act
act_message w s e = go w.message ∙ ap (λ (r : Begun). message_of r.act) e
  where
    go : (o : Option MessageView) → option_map text_of o ≡ message_of (act_of o)
    go None = refl
    go (Some m) = refl

pub no_message : (a : RecordedAct) → is_recv a ≡ true → None ≡ message_of a
no_message Recv h = refl
no_message (Send m) h = absurd cc

pub sends_it : (a : RecordedAct) (m : Text) → a ≡ Send m → is_recv a ≡ false
sends_it a m h = rw h refl

-- ---- One more

module _ (m n : Pending) (ss : List Begun) (w : Waiting) (h : Holds m ss) (free : list_any (is_at w.op.slot) ss ≡ false) where
  pub receive_begins : w.message ≡ None → n.receives.items ≡ m.receives.items ++ w ∷ [] → deque_len n.receives ≡ deque_len m.receives + 1 → deque_capacity n.receives ≡ deque_capacity m.receives → n.sends ≡ m.sends
      → deque_len m.receives + deque_len m.sends < deque_capacity m.receives → deque_len m.receives + deque_len m.sends < deque_capacity m.sends → Holds n (ss ++ begun_of w ∷ [])
  receive_begins e items len grown same fits_one fits_other =
      let receive : is_recv (begun_of w).act ≡ true = ap (λ (o : Option MessageView). is_recv (act_of o)) e in
      let sends : deque_len n.sends ≡ deque_len m.sends = ap (λ q. deque_len q) same in
      let places : deque_capacity n.sends ≡ deque_capacity m.sends = ap (λ q. deque_capacity q) same in
      record {
        receives = ap (map begun_of) items ∙ map-append begun_of m.receives.items (w ∷ []) ∙ ap (λ (xs : List Begun). xs ++ begun_of w ∷ []) h.receives ∙ sym (passing_append is_receive ss (begun_of w) ∙ ap (λ b. filter is_receive ss ++ cond b (begun_of w ∷ []) []) receive);
        sends = ap (λ q. map begun_of q.items) same ∙ h.sends ∙ sym (passing_append is_send ss (begun_of w) ∙ ap (λ b. filter is_send ss ++ cond (not b) (begun_of w ∷ []) []) receive ∙ ends (filter is_send ss));
        apart = apart_more ss (begun_of w) h.apart free;
        fits = omega (arith, len, grown, sends, places, fits_one, fits_other);
      }
    where
      ends : (xs : List Begun) → xs ++ [] ≡ xs
      ends [] = refl
      ends (x ∷ xs) = ap (λ (rest : List Begun). x ∷ rest) (ends xs)

  pub send_begins : (v : MessageView) → w.message ≡ Some v → n.sends.items ≡ m.sends.items ++ w ∷ [] → deque_len n.sends ≡ deque_len m.sends + 1 → deque_capacity n.sends ≡ deque_capacity m.sends → n.receives ≡ m.receives
      → deque_len m.receives + deque_len m.sends < deque_capacity m.receives → deque_len m.receives + deque_len m.sends < deque_capacity m.sends → Holds n (ss ++ begun_of w ∷ [])
  send_begins v e items len grown same fits_one fits_other =
      let send : is_recv (begun_of w).act ≡ false = ap (λ (o : Option MessageView). is_recv (act_of o)) e in
      let receives : deque_len n.receives ≡ deque_len m.receives = ap (λ q. deque_len q) same in
      let places : deque_capacity n.receives ≡ deque_capacity m.receives = ap (λ q. deque_capacity q) same in
      record {
        receives = ap (λ q. map begun_of q.items) same ∙ h.receives ∙ sym (passing_append is_receive ss (begun_of w) ∙ ap (λ b. filter is_receive ss ++ cond b (begun_of w ∷ []) []) send ∙ ends (filter is_receive ss));
        sends = ap (map begun_of) items ∙ map-append begun_of m.sends.items (w ∷ []) ∙ ap (λ (xs : List Begun). xs ++ begun_of w ∷ []) h.sends ∙ sym (passing_append is_send ss (begun_of w) ∙ ap (λ b. filter is_send ss ++ cond (not b) (begun_of w ∷ []) []) send);
        apart = apart_more ss (begun_of w) h.apart free;
        fits = omega (arith, len, grown, receives, places, fits_one, fits_other);
      }
    where
      ends : (xs : List Begun) → xs ++ [] ≡ xs
      ends [] = refl
      ends (x ∷ xs) = ap (λ (rest : List Begun). x ∷ rest) (ends xs)
