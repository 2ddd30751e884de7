-- What a caller's seat reads of a word, and what the core finds by it.
use Rattle.std.proofs.Common.{◌≡◌, ◌≢◌, refl, ap, sym, ◌∙◌, subst, List, [], ◌∷◌, ◌++◌, ℕ, ◌<◌, true, arith, Some, None, append_assoc, append-nil, inl, inr}
use Rattle.std.specs.Prelude.{◌⊎◌}
use Rattle.sp_base.specs.declared.OpName.{OpName}
use Rattle.aio_word.specs.declared.phase.Phase.{Phase}
use Rattle.aio_word.specs.declared.phase.Phase.TheVariants.{Pending}
use Rattle.aio_word.specs.declared.rule.ShownOperation as words
use Rattle.aio_word.specs.declared.rule.WordsView.{WordsView}
use Rattle.aio_word.specs.Sight.{Sight}
use Rattle.aio_word.specs.Word.{is_decided}
use Rattle.aio_word.specs.Views.{Each, learned, saw}
use Rattle.aio_word.specs.Results.{Agrees, CallStale, CoreSaw, of_op}
use Rattle.sp_history.specs.declared.parts.Begun.{Begun}
use Rattle.sp_history.specs.Past.{pending}
use Rattle.sp_history.specs.Moments.{Moment, past, Lawful}
use Rattle.core_state.specs.declared.op_words.OpWords.{OpWords}
use Rattle.core_state.specs.declared.op_words.Decision.{Decision}
use Rattle.core_state.specs.declared.op_words.Decision.TheVariants as decision
use Rattle.core_state.specs.OpWordsStand.{OpWordsStand, DecidedAs, GoneAs}
use Rattle.core_state.specs.Reads.{ReadAs, ReadOnce, HasReadEnd, IsEarlier, IsStale}
use Rattle.core_state.proofs.OpWordSteps.{open_is, looked, none_decided}

-- ---- Reads

-- reads of the slot that show no end of the operation
abbrev pub AreOthers : OpName → List words.ShownOperation → Type 0
AreOthers op es = Each (IsEarlier op) es

abbrev pub Grew : OpName → WordsView → WordsView → Type 0
Grew op v w = (others : List words.ShownOperation) × AreOthers op others × (w ≡ record v { reads = v.reads ++ others })

pub grew_none : (op : OpName) (v : WordsView) → Grew op v v
grew_none op v = ([], tt, ap (λ (xs : List words.ShownOperation). record v { reads = xs }) (sym (append-nil v.reads)))

each_push : (op : OpName) (es : List words.ShownOperation) (e : words.ShownOperation) → AreOthers op es → IsEarlier op e → AreOthers op (es ++ e ∷ [])
each_push op [] e h k = (k, tt)
each_push op (d ∷ es) e h k = (h.0, each_push op es e h.1 k)

-- one more read
saw_more : (v w x : WordsView) (others : List words.ShownOperation) (e : words.ShownOperation) → w ≡ record v { reads = v.reads ++ others } → x ≡ saw w e → x ≡ record v { reads = v.reads ++ others ++ e ∷ [] }
saw_more v w x others e h k = k ∙ ap (λ (y : WordsView). saw y e) h

pub grew_stale : (op : OpName) (slots : ℕ) (v w x : WordsView) → op.slot < slots → 0 < op.generation → Grew op v w → CallStale w slots op x → Grew op v x
grew_stale op slots v w x inside some g (inl h) = absurd (omega (arith, inside, h.0))
grew_stale op slots v w x inside some g (inr h) = go h.1.2
  where
    go : (h.1.0.generation ≢ op.generation) ⊎ (op.generation ≡ 0) → Grew op v x
    go (inl n) = (g.0 ++ h.1.0 ∷ [], each_push op g.0 h.1.0 g.1 (h.1.1, inl n), saw_more v w x g.0 h.1.0 g.2 h.1.3 ∙ ap (λ (xs : List words.ShownOperation). record v { reads = xs }) (append_assoc v.reads g.0 (h.1.0 ∷ [])))
    go (inr z) = absurd (omega (arith, some, z))

pub grew_pending : (op : OpName) (v w x : WordsView) → Grew op v w → x ≡ saw w (of_op op Pending 0) → Grew op v x
grew_pending op v w x g h = (g.0 ++ of_op op Pending 0 ∷ [], each_push op g.0 (of_op op Pending 0) g.1 (refl, inr refl), saw_more v w x g.0 (of_op op Pending 0) g.2 h ∙ ap (λ (xs : List words.ShownOperation). record v { reads = xs }) (append_assoc v.reads g.0 (of_op op Pending 0 ∷ [])))

-- ---- Reads of other operations

-- reads of the slot that show other operations
abbrev pub GrewStale : OpName → WordsView → WordsView → Type 0
GrewStale op v w = (others : List words.ShownOperation) × Each (IsStale op) others × (w ≡ record v { reads = v.reads ++ others })

pub stale_none : (op : OpName) (v : WordsView) → GrewStale op v v
stale_none op v = ([], tt, ap (λ (xs : List words.ShownOperation). record v { reads = xs }) (sym (append-nil v.reads)))

stale_push : (op : OpName) (es : List words.ShownOperation) (e : words.ShownOperation) → Each (IsStale op) es → IsStale op e → Each (IsStale op) (es ++ e ∷ [])
stale_push op [] e h k = (k, tt)
stale_push op (d ∷ es) e h k = (h.0, stale_push op es e h.1 k)

pub stale_more : (op : OpName) (slots : ℕ) (v w x : WordsView) → op.slot < slots → 0 < op.generation → GrewStale op v w → CallStale w slots op x → GrewStale op v x
stale_more op slots v w x inside some g (inl h) = absurd (omega (arith, inside, h.0))
stale_more op slots v w x inside some g (inr h) = go h.1.2
  where
    go : (h.1.0.generation ≢ op.generation) ⊎ (op.generation ≡ 0) → GrewStale op v x
    go (inl n) = (g.0 ++ h.1.0 ∷ [], stale_push op g.0 h.1.0 g.1 (h.1.1, n), saw_more v w x g.0 h.1.0 g.2 h.1.3 ∙ ap (λ (xs : List words.ShownOperation). record v { reads = xs }) (append_assoc v.reads g.0 (h.1.0 ∷ [])))
    go (inr z) = absurd (omega (arith, some, z))

pub read_once : (op : OpName) (e : words.ShownOperation) (v w x : WordsView) → GrewStale op v w → x ≡ saw w e → ReadOnce op v x
read_once op e v w x g h = record { others = g.0; are_others = g.1; last = e; read = saw_more v w x g.0 e g.2 h }

-- ---- The last read

pub read_last : (op : OpName) (p : Phase) (by : ℕ) (v w x : WordsView) → Grew op v w → x ≡ saw w (of_op op p by) → ReadAs op p by v x
read_last op p by v w x g h = record { others = g.0; are_others = g.1; read = saw_more v w x g.0 (of_op op p by) g.2 h }

-- ---- What the core finds

-- the core's words with the reads of the seat
abbrev pub with_reads : OpWords → WordsView → OpWords
with_reads d v = record { words = d.words; seat = let x : Sight = record { words = d.seat.words; view = learned d.seat.view v } in x }

with_reads_stands : (d : OpWords) (v : WordsView) (t : Moment) → OpWordsStand d t → OpWordsStand (with_reads d v) t
with_reads_stands d v t h = record { own = h.own; slots_are = h.slots_are; callers_are = h.callers_are; made_are = h.made_are; ends_are = h.ends_are; wide = h.wide; gens_are = h.gens_are }

agrees_last : (e d : words.ShownOperation) (es : List words.ShownOperation) → Agrees e (es ++ d ∷ []) → is_decided d.phase ≡ true → d.slot ≡ e.slot → d.generation ≡ e.generation → d ≡ e
agrees_last e d [] h p s g = h.0 p s g
agrees_last e d (x ∷ es) h p s g = agrees_last e d es h.1 p s g

pub read_decided : (op : OpName) (v : WordsView) (p : Phase) (by : ℕ) → HasReadEnd op v → Agrees (of_op op p by) v.reads → is_decided p ≡ true
read_decided op v p by r a =
    let same = agrees_last (of_op op p by) (of_op op r.1 r.2) r.0 (subst (Agrees (of_op op p by)) r.4 a) r.3 refl refl in
    subst (λ (x : Phase). is_decided x ≡ true) (ap (λ (e : words.ShownOperation). e.phase) same) r.3

pub found_some : (d e : OpWords) (v : WordsView) (t : Moment) (op : OpName) (s : Begun) (p : Phase) (by : ℕ) → OpWordsStand d t → Lawful t → pending (past t) op ≡ Some s → HasReadEnd op v → Agrees (of_op op p by) v.reads → CoreSaw (learned d.seat.view v) (of_op op p by) e.seat.view → GoneAs None p by → ⊥
found_some d e v t op s p by h l q r a k g = none_decided (learned d.seat.view v) op p by (read_decided op v p by r a) k.1 (open_is (with_reads d v) t op s (with_reads_stands d v t h) l q) g

pub found_gone : (d e : OpWords) (v : WordsView) (t : Moment) (op : OpName) (s : Begun) (p : Phase) (by : ℕ) (made : Decision) → OpWordsStand d t → Lawful t → pending (past t) op ≡ Some s → e.words ≡ d.words → e.seat.words ≡ d.seat.words → CoreSaw (learned d.seat.view v) (of_op op p by) e.seat.view → GoneAs (Some made) p by
    → (made ≢ decision.Won) × DecidedAs made op t e
found_gone d e v t op s p by made h l q w sw k g = looked (with_reads d v) e t op s p by (Some made) (with_reads_stands d v t h) l q w sw g k
