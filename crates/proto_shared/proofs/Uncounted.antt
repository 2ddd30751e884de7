-- The first send without a hop count, among those that wait and in the history.
use Rattle.std.proofs.Common.{◌≡◌, refl, ap, sym, ◌∙◌, List, [], ◌∷◌, ℕ, ◌<◌, Bool, true, false, cond, Option, Some, None, map, length, slice_index_or}
use Rattle.std.specs.Prelude.{find, filter, not}
use Rattle.std.specs.List.{position}
use Rattle.std.specs.Option.{option_map}
use Rattle.std.proofs.lemmas.List.Quantifiers.{position-Some}
use Rattle.sp_base.specs.declared.OpName.{OpName}
use Rattle.sp_history.specs.declared.entry.RecordedAct.{RecordedAct}
use Rattle.sp_history.specs.declared.entry.RecordedAct.TheVariants.{Recv, Send}
use Rattle.sp_history.specs.declared.parts.Begun.{Begun}
use Rattle.sp_history.specs.Lists.{head_of}
use Rattle.sp_history.specs.Legal.{is_recv}
use Rattle.sp_history.specs.Sends.{lacks_hops}
use Rattle.proto_shared.specs.declared.pending.Pending.{Pending}
use Rattle.proto_shared.specs.declared.pending.Waiting.{Waiting}
use Rattle.proto_shared.specs.Waits.{Holds, begun_of, is_send, is_uncounted, first_name}
use Rattle.proto_shared.proofs.Places.{found_at, not_found}

abbrev pub lacks : Waiting → Bool
lacks w = is_uncounted (begun_of w)

-- the place is in the list
pub within : {A : Type 0} (p : A → Bool) (xs : List A) (i : ℕ) → position p xs ≡ Some i → i < length xs
within p [] i h = absurd cc
within p (d ∷ xs) i h = (position-Some p (d ∷ xs) i d h).0

-- only sends lack one
of_sends : (ss : List Begun) → filter is_uncounted (filter is_send ss) ≡ filter is_uncounted ss
of_sends [] = refl
of_sends (s ∷ ss) = go (is_send s) refl (of_sends ss)
  where
    only : (a : RecordedAct) → not (is_recv a) ≡ false → lacks_hops a ≡ false
    only Recv h = refl
    only (Send m) h = absurd cc

    here : (b : Bool) → filter is_uncounted (filter is_send ss) ≡ filter is_uncounted ss → cond b (s ∷ filter is_uncounted (filter is_send ss)) (filter is_uncounted (filter is_send ss)) ≡ cond b (s ∷ filter is_uncounted ss) (filter is_uncounted ss)
    here true again = ap (λ (rest : List Begun). s ∷ rest) again
    here false again = again

    go : (b : Bool) → is_send s ≡ b → filter is_uncounted (filter is_send ss) ≡ filter is_uncounted ss → filter is_uncounted (cond b (s ∷ filter is_send ss) (filter is_send ss)) ≡ cond (is_uncounted s) (s ∷ filter is_uncounted ss) (filter is_uncounted ss)
    go true e again = here (is_uncounted s) again
    go false e again = again ∙ sym (ap (λ (b : Bool). cond b (s ∷ filter is_uncounted ss) (filter is_uncounted ss)) (only s.act e))

of_waiting : (ws : List Waiting) → head_of (filter is_uncounted (map begun_of ws)) ≡ option_map begun_of (find lacks ws)
of_waiting [] = refl
of_waiting (w ∷ ws) = go (lacks w) (of_waiting ws)
  where
    go : (b : Bool) → head_of (filter is_uncounted (map begun_of ws)) ≡ option_map begun_of (find lacks ws)
        → head_of (cond b (begun_of w ∷ filter is_uncounted (map begun_of ws)) (filter is_uncounted (map begun_of ws))) ≡ option_map begun_of (cond b (Some w) (find lacks ws))
    go true again = refl
    go false again = again

first_is : (m : Pending) (ss : List Begun) → Holds m ss → first_name (filter is_uncounted ss) ≡ option_map (λ (s : Begun). s.op) (option_map begun_of (find lacks m.sends.items))
first_is m ss h =
    ap first_name (sym (of_sends ss) ∙ ap (filter is_uncounted) (sym h.sends)) ∙ ap (option_map (λ (s : Begun). s.op)) (of_waiting m.sends.items)

pub none_uncounted : (m : Pending) (ss : List Begun) → Holds m ss → position lacks m.sends.items ≡ None → None ≡ first_name (filter is_uncounted ss)
none_uncounted m ss h e = sym (first_is m ss h ∙ ap (λ (o : Option Waiting). option_map (λ (s : Begun). s.op) (option_map begun_of o)) (not_found lacks m.sends.items e))

pub first_uncounted : (m : Pending) (ss : List Begun) (i : ℕ) (w : Waiting) → Holds m ss → position lacks m.sends.items ≡ Some i → w ≡ slice_index_or m.sends.items i w → Some w.op ≡ first_name (filter is_uncounted ss)
first_uncounted m ss i w h e at =
    let found : find lacks m.sends.items ≡ Some w = found_at lacks m.sends.items i w e ∙ ap (λ (x : Waiting). Some x) (sym at) in
    sym (first_is m ss h ∙ ap (λ (o : Option Waiting). option_map (λ (s : Begun). s.op) (option_map begun_of o)) found)
