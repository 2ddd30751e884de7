use Rattle.std.proofs.Common.{◌≡◌, ◌+◌, ◌<◌, ℕ, suc, List, [], ◌∷◌, ◌++◌, ◌-◌, refl, sym, subst, arith, append_assoc, append-nil}
use Rattle.core_state.specs.OperationsStand.{AreAllSlots}
use Rattle.core_state.proofs.operations.all_slots.Goals as goal

-- one more slot, the greatest of those that are left
one_more : (slots i : ℕ) (items : List ℕ) → i < slots → ((rest : List ℕ) → AreAllSlots (slots - i) rest → AreAllSlots slots (items ++ rest)) → (rest : List ℕ) → AreAllSlots (slots - (i + 1)) rest → AreAllSlots slots ((items ++ (slots - 1 - i) ∷ []) ++ rest)
one_more slots i items l h rest k =
    let next : slots - i ≡ suc (slots - 1 - i) = omega arith in
    let left : slots - (i + 1) ≡ slots - 1 - i = omega arith in
    let k' : AreAllSlots (slots - 1 - i) rest = subst (λ (n : ℕ). AreAllSlots n rest) left k in
    let all : AreAllSlots (slots - i) ((slots - 1 - i) ∷ rest) = subst (λ (n : ℕ). AreAllSlots n ((slots - 1 - i) ∷ rest)) (sym next) (rest, refl, k') in
    subst (AreAllSlots slots) (sym (append_assoc items ((slots - 1 - i) ∷ []) rest)) (h ((slots - 1 - i) ∷ rest) all)

from_none : (n : ℕ) → n - 0 ≡ n
from_none n = omega arith

pub loop-i-init : goal.loop-i-init
loop-i-init c = record {
  slots =
      λ rest h.
      let all : AreAllSlots c.args.slots rest = subst (λ (n : ℕ). AreAllSlots n rest) (from_none c.args.slots) h in
      subst (λ (xs : List ℕ). AreAllSlots c.args.slots (xs ++ rest)) (sym c.in_ok-free.ensures.items) all;
  room = c.in_ok-free.ensures.capacity;
}

pub loop-i-preserved : goal.loop-i-preserved
loop-i-preserved c = record {
  slots = λ rest h. subst (λ (xs : List ℕ). AreAllSlots c.args.slots (xs ++ rest)) (sym c.in_ok-push.ensures.items) (one_more c.args.slots c.loop-i.i c.loop-i.free.items c.loop-i-test.true c.loop-i.invariant.slots rest h);
  room = omega (arith, c.loop-i.invariant.room, c.in_ok-push.ensures.capacity);
}

pub returns-clause-slots : goal.returns-clause-slots
returns-clause-slots c =
    let none : c.args.slots - c.loop-i.i ≡ 0 = omega (arith, c.loop-i-test.false) in
    let all = c.loop-i.invariant.slots [] (subst (λ (n : ℕ). AreAllSlots n []) (sym none) refl) in
    subst (AreAllSlots c.args.slots) (append-nil c.loop-i.free.items) all

pub returns-clause-room : goal.returns-clause-room
returns-clause-room c = c.loop-i.invariant.room
