use Rattle.std.proofs.Common.{◌≡◌, ◌≤◌, ◌++◌, ◌∷◌, [], ℕ, Some, List, length, take, drop, refl, sym, ap, subst, ◌∙◌, arith}
use Rattle.std.proofs.lemmas.List.{take-append-drop, take-take, take_at, length-append, length-set}
use Rattle.aio_expire.specs.declared.deadlines.Deadline.{Deadline}
use Rattle.aio_expire.specs.Schedule.{tally}
use Rattle.aio_expire.specs.SlotEntries.{SlotEntries, AreApart, count_cells}
use Rattle.aio_expire.proofs.InOrder.{tally-append, tally-cons}
use Rattle.aio_expire.proofs.Pulling.{last-free, put-counts, apart-back}
use Rattle.aio_expire.proofs.turning.put_back.Goals as goal

pub put-requires-clause-slot : goal.put-requires-clause-slot
put-requires-clause-slot c =
    let s = c.loop-pulled.by_slot in
    (last-free s c.pop.new.self.items c.in-Some.entry c.loop-pulled.invariant.own (subst (λ (es : List Deadline). AreApart s es) c.in-Some.ensures.items c.loop-pulled.invariant.apart)).0

pub put-requires-clause-free : goal.put-requires-clause-free
put-requires-clause-free c =
    let s = c.loop-pulled.by_slot in
    (last-free s c.pop.new.self.items c.in-Some.entry c.loop-pulled.invariant.own (subst (λ (es : List Deadline). AreApart s es) c.in-Some.ensures.items c.loop-pulled.invariant.apart)).1

-- a prefix without its last entry is a prefix
shorter : (xs ys : List Deadline) (e : Deadline) → xs ++ e ∷ [] ≡ take (length (xs ++ e ∷ [])) ys → xs ≡ take (length xs) ys
shorter xs ys e h =
    let n : length xs ≤ length (xs ++ e ∷ []) = omega (arith, length-append xs (e ∷ [])) in
    sym (take_at xs (e ∷ []) (length xs) refl) ∙ ap (take (length xs)) h ∙ take-take (length xs) (length (xs ++ e ∷ [])) ys n

pub loop-pulled-preserved : goal.loop-pulled-preserved
loop-pulled-preserved c =
    let s = c.loop-pulled.by_slot in
    let e = c.in-Some.entry in
    let rest = c.pop.new.self.items in
    let i = c.loop-pulled.invariant in
    let items = c.in-Some.ensures.items in
    let apart = subst (λ (es : List Deadline). AreApart s es) items i.apart in
    let f = last-free s rest e i.own apart in
    let long = ap (λ (es : List Deadline). length es) items in
    record {
      left = shorter rest c.args.pulled.now.items e (subst (λ (es : List Deadline). es ≡ take (length es) c.args.pulled.now.items) items i.left);
      some = omega (arith, c.loop-pulled-test.true, c.len.ensures, c.loop-pulled.pulled.ok, long, length-append rest (e ∷ []));
      own = c.put.ensures.own;
      apart = subst (λ (v : SlotEntries). AreApart v rest) (sym c.put.ensures.put) (apart-back s rest e i.own apart);
      back = λ p.
          let b = i.back p in
          let k = ap (λ (v : SlotEntries). count_cells p v.cells) c.put.ensures.put in
          let w = put-counts s.cells e f.0 f.1 p in
          let t = ap (tally p) items in
          let a = tally-append p rest (e ∷ []) in
          let o = tally-cons p e [] in
          omega (arith, b, k, w, t, a, o);
      slots = ap (λ (v : SlotEntries). length v.cells) c.put.ensures.put ∙ length-set s.cells e.op.slot (Some e) ∙ i.slots;
      turned = ap (λ (v : SlotEntries). v.turned) c.put.ensures.put ∙ i.turned;
      room = c.pop.ensures.capacity ∙ i.room;
    }

-- what is left is a prefix
front : (n k : ℕ) (xs ys : List Deadline) → xs ≡ take (length xs) ys → n ≤ length xs → length xs ≤ n → xs ≡ take n ys
front n k xs ys e l m = let q : length xs ≡ n = omega (arith, l, m) in subst (λ (i : ℕ). xs ≡ take i ys) q e

pub returns-clause-back : goal.returns-clause-back
returns-clause-back c =
    let ys = c.args.pulled.now.items in
    let xs = c.loop-pulled.pulled.items in
    let few : length xs ≤ c.args.count = omega (arith, c.loop-pulled-test.false, c.len.ensures, c.loop-pulled.pulled.ok) in
    let f = front c.args.count 0 xs ys c.loop-pulled.invariant.left c.loop-pulled.invariant.some few in
    λ p.
    let b = c.loop-pulled.invariant.back p in
    let t = tally-append p (take c.args.count ys) (drop c.args.count ys) in
    let w = ap (tally p) (take-append-drop c.args.count ys) in
    let g = ap (tally p) f in
    omega (arith, b, t, w, g)
