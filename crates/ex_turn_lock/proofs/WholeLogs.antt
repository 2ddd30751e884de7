-- The log and the count of a whole history.
use Rattle.std.proofs.Common.{◌≡◌, ℕ, zero, suc, ◌-◌, ◌^◌, ◌<◌, min, List, [], ◌∷◌, ◌++◌, length, take, map, Option, Some, None, refl, sym, ap, ◌∙◌, subst, arith, append-nil, append_assoc, length-append}
use Rattle.turn_lock.specs.declared.turn.Turn.{Turn}
use Rattle.atomic_table.specs.Seated.{TableId}
use Rattle.turn_lock.specs.History.{turns_of, IsByCallers}
use Rattle.turn_lock.specs.Passes.{TurnPassView, FitsIn, new_pass}
use Rattle.ex_turn_lock.specs.declared.setting.MachineLabel.{MachineLabel}
use Rattle.ex_turn_lock.specs.declared.writes.Write.{Write}
use Rattle.ex_turn_lock.specs.declared.writes.Written.{Written}
use Rattle.ex_turn_lock.specs.declared.counter.Added.{Added}
use Rattle.ex_turn_lock.specs.Acts.{RepliesTo, Acted}
use Rattle.ex_turn_lock.specs.Logs.{writes_of, counted, Replies, IsLogOfThree}
use Rattle.ex_turn_lock.specs.Totals.{total, Adds, IsByTwo}
use Rattle.ex_turn_lock.proofs.WriteLemmas.{writes_of-append}
use Rattle.ex_turn_lock.proofs.Callers.{AllReturn, replies_made, turns_made, three_return, both_return}

module _ {A : Type 0} where
  take_full : (n : ℕ) (xs : List A) (w : A) → length (take n xs) ≡ n → take n (xs ++ w ∷ []) ≡ take n xs
  take_full zero xs w e = refl
  take_full (suc n) [] w e = absurd (omega arith)
  take_full (suc n) (x ∷ xs) w e = ap (λ (l : List A). x ∷ l) (take_full n xs w (omega arith))

  take_none : (n : ℕ) → ◌≡◌ {A = List A} (take n []) []
  take_none zero = refl
  take_none (suc n) = refl

  take_more : (n : ℕ) (xs : List A) (w : A) → length (take n xs) < n → take n (xs ++ w ∷ []) ≡ take n xs ++ w ∷ []
  take_more zero xs w low = absurd (omega arith)
  take_more (suc n) [] w low = ap (λ (l : List A). w ∷ l) (take_none n)
  take_more (suc n) (x ∷ xs) w low = ap (λ (l : List A). x ∷ l) (take_more n xs w (omega arith))

-- one more turn
counted-push : (before xs : List (Turn Written)) (t : Turn Written) → counted before (xs ++ t ∷ []) ≡ counted before xs ++ record { by = t.number; value = length (turns_of t.number (before ++ xs)) } ∷ []
counted-push before [] t = ap (λ (l : List (Turn Written)). record { by = t.number; value = length (turns_of t.number l) } ∷ []) (sym (append-nil before))
counted-push before (x ∷ xs) t = let here : Write = record { by = x.number; value = length (turns_of x.number before) } in
    ap (λ (l : List Write). here ∷ l) (counted-push (before ++ x ∷ []) xs t ∙ ap (λ (l : List (Turn Written)). counted (before ++ x ∷ []) xs ++ record { by = t.number; value = length (turns_of t.number l) } ∷ []) (append_assoc before (x ∷ []) xs))

writes_of-push : (past : List (Turn Written)) (t : Turn Written) → writes_of (past ++ t ∷ []) ≡ writes_of past ++ map (λ (w : Written). record { by = t.number; value = w.0 }) t.entries
writes_of-push past t = let here : List Write = map (λ (w : Written). record { by = t.number; value = w.0 }) t.entries in writes_of-append past (t ∷ []) ∙ ap (λ (l : List Write). writes_of past ++ l) (append-nil here)

step : (room : ℕ) (prefix : List (Turn Written)) (t : Turn Written) (reply : Option ℕ) → Replies room (length (turns_of t.number prefix)) reply prefix t → writes_of prefix ≡ take room (counted [] prefix) → writes_of (prefix ++ t ∷ []) ≡ take room (counted [] (prefix ++ t ∷ []))
step room prefix t None r so_far = let w : Write = record { by = t.number; value = length (turns_of t.number prefix) } in
    let full : length (take room (counted [] prefix)) ≡ room = ap length (sym so_far) ∙ r.0 in
    let none : map (λ (w : Written). record { by = t.number; value = w.0 }) t.entries ≡ [] = ap (map (λ (w : Written). record { by = t.number; value = w.0 })) r.1 in
    writes_of-push prefix t ∙ (ap (λ (l : List Write). writes_of prefix ++ l) none ∙ (append-nil (writes_of prefix) ∙ (so_far ∙ (sym (take_full room (counted [] prefix) w full) ∙ ap (take room) (sym (counted-push [] prefix t))))))
step room prefix t (Some before) r so_far = let w : Write = record { by = t.number; value = length (turns_of t.number prefix) } in
    let low : length (take room (counted [] prefix)) < room = subst (λ (l : List Write). length l < room) so_far r.0 in
    let one : map (λ (w : Written). record { by = t.number; value = w.0 }) t.entries ≡ w ∷ [] = ap (map (λ (w : Written). record { by = t.number; value = w.0 })) r.2 in
    writes_of-push prefix t ∙ (ap (λ (l : List Write). writes_of prefix ++ l) one ∙ (ap (λ (l : List Write). l ++ w ∷ []) so_far ∙ (sym (take_more room (counted [] prefix) w low) ∙ ap (take room) (sym (counted-push [] prefix t)))))

follow : (room : ℕ) (past prefix rest : List (Turn Written)) → past ≡ prefix ++ rest → AllReturn (λ value before t. (reply : Option ℕ) × Replies room value reply before t) past → writes_of prefix ≡ take room (counted [] prefix) → writes_of past ≡ take room (counted [] past)
follow room past prefix [] is all so_far = let same : past ≡ prefix = is ∙ append-nil prefix in subst (λ (l : List (Turn Written)). writes_of l ≡ take room (counted [] l)) (sym same) so_far
follow room past prefix (t ∷ ts) is all so_far = let r = all prefix t ts is in follow room past (prefix ++ t ∷ []) ts (is ∙ sym (append_assoc prefix (t ∷ []) ts)) all (step room prefix t r.0 r.1 so_far)

-- where every turn returns, the log is what the turns write in their order, as far as the room goes
pub log_of : (setting : MachineLabel) (label : Option MachineLabel) (past : List (Turn Written)) → label ≡ Some setting → AllReturn (RepliesTo Replies label) past → writes_of past ≡ take setting.room (counted [] past)
log_of setting label past is all = follow setting.room past [] past refl
    (λ prefix t rest e. let r = all prefix t rest e in let same : r.0 ≡ setting = some_same r.0 setting (sym r.1 ∙ is) in (r.2, subst (λ (z : MachineLabel). Replies z.room (length (turns_of t.number prefix)) r.2 prefix t) same r.3))
    (sym (take_none setting.room))
  where
    or_else : MachineLabel → Option MachineLabel → MachineLabel
    or_else d (Some z) = z
    or_else d None = d

    some_same : (a b : MachineLabel) → Some a ≡ Some b → a ≡ b
    some_same a b e = ap (or_else a) e

-- the log of three callers that acted
pub whole_log : (lock lock' : TableId) (z : MachineLabel) (label : Option MachineLabel) (times : ℕ) (past : List (Turn Written)) (log : List Write) (p q p' q' p'' q'' : TurnPassView Written MachineLabel) → log ≡ writes_of past → IsByCallers 3 past
    → p ≡ new_pass lock (Some z) 1 → Acted (RepliesTo Replies p.label) lock' p times q → FitsIn past label q
    → p' ≡ new_pass lock (Some z) 2 → Acted (RepliesTo Replies p'.label) lock' p' times q' → FitsIn past label q'
    → p'' ≡ new_pass lock (Some z) 3 → Acted (RepliesTo Replies p''.label) lock' p'' times q'' → FitsIn past label q'' → IsLogOfThree times z.room log
whole_log lock lock' z label times past log p q p' q' p'' q'' is by new acted fits new' acted' fits' new'' acted'' fits'' =
    let first = replies_made Replies lock lock' (Some z) label 1 times past p q new acted fits in
    let second = replies_made Replies lock lock' (Some z) label 2 times past p' q' new' acted' fits' in
    let third = replies_made Replies lock lock' (Some z) label 3 times past p'' q'' new'' acted'' fits'' in record {
      past = past;
      log_is = is ∙ log_of z (Some z) past refl (three_return (RepliesTo Replies (Some z)) past by first.1 second.1 third.1);
      callers = by;
      first = first.0;
      second = second.0;
      third = third.0;
    }

added : (past prefix rest : List (Turn Added)) → past ≡ prefix ++ rest → AllReturn (λ _. Adds 1) past → total prefix ≡ min (length prefix) (2 ^ 64 - 1) → total past ≡ min (length past) (2 ^ 64 - 1)
added past prefix [] is all so_far = let same : past ≡ prefix = is ∙ append-nil prefix in subst (λ (l : List (Turn Added)). total l ≡ min (length l) (2 ^ 64 - 1)) (sym same) so_far
added past prefix (t ∷ ts) is all so_far = let more = all prefix t ts is in let longer = length-append prefix (t ∷ []) in added past (prefix ++ t ∷ []) ts (is ∙ sym (append_assoc prefix (t ∷ []) ts)) all (omega arith)

-- where every turn adds 1, the sum is the number of turns, up to the greatest count
pub count_of : (past : List (Turn Added)) → AllReturn (λ _. Adds 1) past → total past ≡ min (length past) (2 ^ 64 - 1)
count_of past all = added past [] past refl all refl

-- the count of two callers that acted
pub whole_count : {L : Type 0} (lock lock' : TableId) (z label : Option L) (times : ℕ) (past : List (Turn Added)) (p q p' q' : TurnPassView Added L) → IsByCallers 2 past
    → p ≡ new_pass lock z 1 → Acted (λ _. Adds 1) lock' p times q → FitsIn past label q
    → p' ≡ new_pass lock z 2 → Acted (λ _. Adds 1) lock' p' times q' → FitsIn past label q' → IsByTwo times past × (total past ≡ min (length past) (2 ^ 64 - 1))
whole_count lock lock' z label times past p q p' q' by new acted fits new' acted' fits' =
    let first = turns_made (λ _. Adds 1) lock lock' z label 1 times past p q new acted fits in
    let second = turns_made (λ _. Adds 1) lock lock' z label 2 times past p' q' new' acted' fits' in
    (record { callers = by; first = first.0; second = second.0 }, count_of past (both_return (λ _. Adds 1) past by first.1 second.1))
