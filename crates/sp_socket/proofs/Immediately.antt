-- An immediate receive collects only what it has begun itself.
use Rattle.std.proofs.Common.{◌≡◌, refl, sym, ◌∙◌, subst, List, [], ◌∷◌, ◌++◌, ℕ, zero, suc, ◌+◌, ◌≤◌, Bool, true, false, cond, arith, Some}
use Rattle.std.specs.Prelude.{None, Result, Ok, Err, not, ◌&&◌}
use Rattle.std.proofs.lemmas.List.Folds.{list_all-append}
use Rattle.turn_lock.specs.declared.turn.Turn.{Turn}
use Rattle.sp_base.specs.declared.OpName.{OpName}
use Rattle.sp_msg.specs.Views.{MessageView}
use Rattle.sp_history.specs.declared.entry.Entry.{Entry}
use Rattle.sp_history.specs.declared.entry.Entry.TheVariants.{Begin}
use Rattle.sp_history.specs.declared.setting.Setting.{Setting}
use Rattle.sp_history.specs.Changes.{none_of}
use Rattle.sp_history.specs.Found.{IsOpenOf, collects}
use Rattle.sp_history.specs.Lists.{same_op}
use Rattle.sp_history.specs.Past.{onto, past_of}
use Rattle.sp_history.specs.Once.{begin_count}
use Rattle.sp_history.specs.Legal.{Legal}
use Rattle.sp_history.proofs.Appending.{past_of-append}
use Rattle.sp_history.proofs.OnceHolds.{ends_once}
use Rattle.core_state.specs.declared.causes.NowError.{NowError}
use Rattle.sp_core.specs.Immediate.{IsLost, AreLost, HasLost, HasReceived, ReceivedNow}
use Rattle.sp_socket.specs.Open.{LeavesOpen}
use Rattle.sp_socket.proofs.BegunOnce.{more_begun, no_caller}
use Rattle.sp_socket.proofs.NoneTaken.{none_settling}

-- ---- What the turn begins was not begun before

abbrev begins_it : OpName → Entry → Bool
begins_it op (Begin other k c act d) = same_op other op
begins_it op _ = false

begun_again : (op : OpName) (es p : List Entry) → none_of (begins_it op) es ≡ false → begin_count p op + 1 ≤ begin_count (onto es p) op
begun_again op [] p h = absurd (cc)
begun_again op (Begin other k c act d ∷ es) p h =
    go (same_op other op) h (more_begun op es (Begin other k c act d ∷ p)) (begun_again op es (Begin other k c act d ∷ p))
  where
    go : (b : Bool) → (not b && none_of (begins_it op) es) ≡ false → cond b (begin_count p op + 1) (begin_count p op) ≤ begin_count (onto es (Begin other k c act d ∷ p)) op
        → (none_of (begins_it op) es ≡ false → cond b (begin_count p op + 1) (begin_count p op) + 1 ≤ begin_count (onto es (Begin other k c act d ∷ p)) op) → begin_count p op + 1 ≤ begin_count (onto es (Begin other k c act d ∷ p)) op
    go true h more again = more
    go false h more again = again h
begun_again op (e ∷ es) p h = begun_again op es (e ∷ p) h

no_one : (n : ℕ) → None ≡ Some n → ⊥
no_one n h = cc

was_begun : (n : ℕ) (op : OpName) (p : List Entry) → IsOpenOf n op p → 1 ≤ begin_count p op
was_begun n op p o = go (begin_count p op) refl
  where
    go : (m : ℕ) → begin_count p op ≡ m → 1 ≤ m
    go zero e = absurd (no_one n (sym (no_caller p op e) ∙ o.0))
    go (suc m) e = omega arith

not_again : (z : Setting) (h : List (Turn Entry)) (t : Turn Entry) (n : ℕ) (op : OpName) → Legal z (h ++ t ∷ []) → IsOpenOf n op (past_of h) → none_of (begins_it op) t.entries ≡ true
not_again z h t n op l o = go (none_of (begins_it op) t.entries) refl
  where
    go : (b : Bool) → none_of (begins_it op) t.entries ≡ b → b ≡ true
    go true e = refl
    go false e =
        let most : begin_count (onto t.entries (past_of h)) op ≤ 1 = subst (λ (p : List Entry). begin_count p op ≤ 1) (past_of-append h t) (ends_once z (h ++ t ∷ []) op l).begun in
        absurd (omega (arith, most, was_begun n op (past_of h) o, begun_again op t.entries (past_of h) e))

-- ---- What it collects it has begun

both_parts : (f : Entry → Bool) (xs ys : List Entry) → none_of f (xs ++ ys) ≡ true → (none_of f xs ≡ true) × (none_of f ys ≡ true)
both_parts f xs ys h = go (none_of f xs) (none_of f ys) (sym (list_all-append (λ (e : Entry). not (f e)) xs ys) ∙ h)
  where
    go : (a b : Bool) → (a && b) ≡ true → (a ≡ true) × (b ≡ true)
    go true b h = (refl, h)
    go false b h = absurd (cc)

both : (f : Entry → Bool) (xs ys : List Entry) → none_of f xs ≡ true → none_of f ys ≡ true → none_of f (xs ++ ys) ≡ true
both f xs ys a b = list_all-append (λ (e : Entry). not (f e)) xs ys ∙ (λ i. a i && b i)

-- the name of a begin that is here is another one
other_name : (b r : Bool) → (not b && r) ≡ true → b ≡ false
other_name true r h = absurd (cc)
other_name false r h = refl

lost_one : (op : OpName) (k c callers : ℕ) (es : List Entry) → IsLost k c callers es → none_of (begins_it op) es ≡ true → none_of (collects op) es ≡ true
lost_one op k c callers es l n =
    let other : same_op l.op op ≡ false = other_name (same_op l.op op) _ (subst (λ (x : List Entry). none_of (begins_it op) x ≡ true) l.entries n) in
    subst (λ (x : List Entry). none_of (collects op) x ≡ true) (sym l.entries) (λ i. not (other i) && none_settling op l.late l.late_settles i)

lost_all : (op : OpName) (n k c callers : ℕ) (es : List Entry) → AreLost n k c callers es → none_of (begins_it op) es ≡ true → none_of (collects op) es ≡ true
lost_all op zero k c callers es l h = subst (λ (x : List Entry). none_of (collects op) x ≡ true) (sym l) refl
lost_all op (suc n) k c callers es l h =
    let parts = both_parts (begins_it op) l.0 l.1 (subst (λ (x : List Entry). none_of (begins_it op) x ≡ true) l.2 h) in
    subst (λ (x : List Entry). none_of (collects op) x ≡ true) (sym l.2) (both (collects op) l.0 l.1 (lost_all op n k c callers l.0 l.3 parts.0) (lost_one op k c callers l.1 l.4 parts.1))

lost_taken : (op : OpName) (k c callers : ℕ) (es : List Entry) → HasLost k c callers es → none_of (begins_it op) es ≡ true → none_of (collects op) es ≡ true
lost_taken op k c callers es l h =
    let parts = both_parts (begins_it op) l.early l.lost (subst (λ (x : List Entry). none_of (begins_it op) x ≡ true) l.entries h) in
    subst (λ (x : List Entry). none_of (collects op) x ≡ true) (sym l.entries) (both (collects op) l.early l.lost (none_settling op l.early l.early_settles) (lost_all op l.count k c callers l.lost l.are_lost parts.1))

received_taken : (op : OpName) (m : MessageView) (k c callers : ℕ) (es : List Entry) → HasReceived m k c callers es → none_of (begins_it op) es ≡ true → none_of (collects op) es ≡ true
received_taken op m k c callers es r h =
    let parts = both_parts (begins_it op) r.prefix _ (subst (λ (x : List Entry). none_of (begins_it op) x ≡ true) r.entries h) in
    let other : same_op r.op op ≡ false = other_name (same_op r.op op) _ parts.1 in
    subst (λ (x : List Entry). none_of (collects op) x ≡ true) (sym r.entries) (both (collects op) r.prefix _ (lost_taken op k c callers r.prefix r.prefix_lost parts.0) (λ i. not (other i) && none_settling op r.late r.late_settles i))

taken_by : (r : Result MessageView NowError) (z : Setting) (h : List (Turn Entry)) (t : Turn Entry) (k c : ℕ) (op : OpName) → ReceivedNow r z h t k c → none_of (begins_it op) t.entries ≡ true → none_of (collects op) t.entries ≡ true
taken_by (Ok m) z h t k c op r n = received_taken op m k c z.callers t.entries r n
taken_by (Err e) z h t k c op r n = lost_taken op k c z.callers t.entries r.0 n

-- so what was open stays so
pub leaves_received : (r : Result MessageView NowError) (z y : Setting) (h : List (Turn Entry)) (t : Turn Entry) (k c : ℕ) → Legal y (h ++ t ∷ []) → ReceivedNow r z h t k c → LeavesOpen h t
leaves_received r z y h t k c l b = λ op o. taken_by r z h t k c op b (not_again y h t t.number op l o)
