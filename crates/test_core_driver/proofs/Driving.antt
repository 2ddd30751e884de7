-- What a turn of caller 1 does to a core that it drives, and to its open operations.
use Rattle.std.proofs.Common.{◌≡◌, refl, ap, sym, ◌∙◌, subst, List, [], ◌∷◌, ◌++◌, ℕ, zero, suc, ◌+◌, ◌≤◌, ◌<◌, Bool, true, false, cond, arith, Option, Some, None, Result, Ok, Err, inl, inr}
use Rattle.std.specs.Prelude.{⊤}
use Rattle.std.proofs.lemmas.Bool.Decides.{nat_tests}
use Rattle.sp_base.specs.declared.OpName.{OpName}
use Rattle.turn_lock.specs.declared.turn.Turn.{Turn}
use Rattle.sp_msg.specs.Views.{WireView}
use Rattle.sp_history.specs.declared.parts.Begun.{Begun}
use Rattle.sp_history.specs.declared.entry.RecordedAct.{RecordedAct}
use Rattle.sp_history.specs.declared.entry.Entry.{Entry}
use Rattle.sp_history.specs.declared.entry.Entry.TheVariants.{Up, Taken, Begin, End, Took, Close}
use Rattle.sp_history.specs.declared.entry.Totals.{Totals}
use Rattle.sp_history.specs.declared.setting.Setting.{Setting}
use Rattle.sp_history.specs.Lists.{same_op}
use Rattle.sp_history.specs.Moments.{Moment}
use Rattle.sp_history.specs.Once.{Once, begin_count, took_count}
use Rattle.sp_history.specs.Past.{past_of, onto, caller_of, is_closed}
use Rattle.sp_history.proofs.Appending.{onto-append, past_of-append}
use Rattle.sp_history.proofs.OnceHolds.{same_op-refl, ends_once}
use Rattle.aio_word.specs.Sight.{Named, Sight, IsSameSeat}
use Rattle.sp_core.specs.declared.owner.Core.{Core}
use Rattle.core_state.specs.declared.causes.BeginError.{BeginError}
use Rattle.core_state.specs.declared.causes.AttachError.{AttachError}
use Rattle.sp_core.specs.declared.calls.attach.Gone.{Gone}
use Rattle.sp_core.specs.Moving.{IsSettling, AreSettling}
use Rattle.sp_core.specs.Standing.{StandsFor, HasBegin, HasFirst, BeganBy}
use Rattle.sp_msg.specs.Views.{MessageView}
use Rattle.sp_proto.specs.Kinds.{text_of}
use Rattle.sp_history.specs.declared.entry.RecordedAct.TheVariants.{Recv}
use Rattle.sp_history.specs.declared.entry.Ending.{Ending}
use Rattle.sp_history.specs.declared.entry.Ending.TheVariants.{Won, Gone as GoneEnd}
use Rattle.sp_history.specs.declared.entry.Completion.TheVariants.{Received}
use Rattle.core_state.specs.declared.causes.NowError.{NowError}
use Rattle.sp_core.specs.Immediate.{AreLost, HasLost, ReceivedNow}
use Rattle.sp_core.specs.Attaching.{AttachedBy, TookWire}
use Rattle.sp_core.specs.Collecting.{IsOpen, IsOpenBefore, HasTook, DueFrom, DueBy}
use Rattle.sp_core.specs.Serving.{IsServing, AreServing}
use Rattle.sp_core.specs.Closing.{AreEndsOf, GoesDownAs, AreDownsOf, ClosedBy, closed_totals}
use Rattle.test_core_driver.specs.Drives.{count_of, AreHeld, Drives}

-- ---- Turns that begin and collect nothing

abbrev pub IsPlain : Entry → Type 0
IsPlain (Begin op k c act d) = ⊥
IsPlain (Took op k) = ⊥
IsPlain _ = ⊤

abbrev pub ArePlain : List Entry → Type 0
ArePlain [] = ⊤
ArePlain (e ∷ es) = IsPlain e × ArePlain es

pub plain-append : (xs ys : List Entry) → ArePlain xs → ArePlain ys → ArePlain (xs ++ ys)
plain-append [] ys h g = g
plain-append (x ∷ xs) ys h g = (h.0, plain-append xs ys h.1 g)

settles_plain : (e : Entry) → IsSettling e → IsPlain e
settles_plain (Begin op k c act d) h = h
settles_plain (Took op k) h = h
settles_plain _ h = tt

pub settling_plain : (es : List Entry) → AreSettling es → ArePlain es
settling_plain [] h = tt
settling_plain (e ∷ es) h = (settles_plain e h.0, settling_plain es h.1)

serves_plain : (e : Entry) → IsServing e → IsPlain e
serves_plain (Begin op k c act d) h = h
serves_plain (Took op k) h = h
serves_plain _ h = tt

pub serving_plain : (es : List Entry) → AreServing es → ArePlain es
serving_plain [] h = tt
serving_plain (e ∷ es) h = (serves_plain e h.0, serving_plain es h.1)

pub first_plain : (e : Entry) (t : Turn Entry) → IsPlain e → HasFirst e t → ArePlain t.entries
first_plain e t h f = subst ArePlain (sym f.entries) (h, settling_plain f.late f.late_settles)

pub began_plain : (e : BeginError) (z : Setting) (h : List (Turn Entry)) (t : Turn Entry) (k c : ℕ) (act : RecordedAct) (d : Option ℕ) → BeganBy (Err e) z h t k c act d → ArePlain t.entries
began_plain e z h t k c act d b = settling_plain t.entries b.0

pub attached_plain : (r : Result ℕ AttachError) (z : Setting) (h : List (Turn Entry)) (t : Turn Entry) (place limit : ℕ) (name : List ℕ) → AttachedBy r z h t place limit name → ArePlain t.entries
attached_plain (Ok p) z h t place limit name a = first_plain (Up p place limit (record { numbers = name })) t tt a.1
attached_plain (Err e) z h t place limit name a = settling_plain t.entries a.0

pub taken_plain : {W : Type 0} (shown : W → WireView) (r : Option (Gone W)) (z : Setting) (h : List (Turn Entry)) (t : Turn Entry) → TookWire shown r z h t → ArePlain t.entries
taken_plain shown None z h t a = settling_plain t.entries a.1
taken_plain shown (Some g) z h t a = first_plain (Taken g.pipe) t tt a.2

due_from_plain : (b : Bool) (before : List Entry) (t : Turn Entry) (at : ℕ) (old new : List OpName) → DueFrom b before t at old new → ArePlain t.entries
due_from_plain true before t at old new a = settling_plain t.entries a.0
due_from_plain false before t at old new a = first_plain _ t tt a.0

pub due_plain : (h : List (Turn Entry)) (t : Turn Entry) (at : ℕ) (old new : List OpName) → DueBy h t at old new → ArePlain t.entries
due_plain h t at old new a = due_from_plain (is_closed (past_of h)) (past_of h) t _ old new a

ends_plain : (callers : ℕ) (ss : List Begun) (es : List Entry) → AreEndsOf callers ss es → ArePlain es
ends_plain callers [] es h = subst ArePlain (sym h) tt
ends_plain callers (s ∷ ss) es h = subst ArePlain (sym h.3) (tt, ends_plain callers ss h.2 h.5)

falls_as_plain : (p : ℕ) (es : List Entry) → GoesDownAs p es → ArePlain es
falls_as_plain p es (inl h) = subst ArePlain (sym h) (tt, (tt, tt))
falls_as_plain p es (inr (inl h)) = subst ArePlain (sym h) (tt, (tt, tt))
falls_as_plain p es (inr (inr h)) = subst ArePlain (sym h.2) (tt, tt)

falls_plain : (ps : List ℕ) (es : List Entry) → AreDownsOf ps es → ArePlain es
falls_plain [] es h = subst ArePlain (sym h) tt
falls_plain (p ∷ ps) es h = subst ArePlain (sym h.2) (plain-append h.0 h.1 (falls_as_plain p h.0 h.3) (falls_plain ps h.1 h.4))

pub closed_plain : (totals : Totals) (callers : ℕ) (h : List (Turn Entry)) (t : Turn Entry) → ClosedBy totals callers h t → ArePlain t.entries
closed_plain totals callers h t c = go (is_closed (past_of h)) refl
  where
    go : (b : Bool) → is_closed (past_of h) ≡ b → ArePlain t.entries
    go true e = subst ArePlain (sym (c.second e)) tt
    go false e =
        let f = c.first e in
        subst ArePlain (sym f.entries) (plain-append f.ends (f.down_entries ++ Close f.totals ∷ []) (ends_plain callers _ f.ends f.ended) (plain-append f.down_entries (Close f.totals ∷ []) (falls_plain _ f.down_entries f.gone_down) (tt, tt)))

pub totals_closed : (past : List Entry) (totals : Totals) → closed_totals past ≡ Some totals → is_closed past ≡ true
totals_closed [] totals h = cc
totals_closed (Close other ∷ past) totals h = refl
totals_closed (_ ∷ past) totals h = totals_closed past totals h

-- ---- What is held

count-append : (ops : List OpName) (o op : OpName) → count_of (ops ++ o ∷ []) op ≡ cond (same_op o op) (count_of ops op + 1) (count_of ops op)
count-append [] o op = refl
count-append (r ∷ ops) o op = grind (arith, nat_tests, count-append ops o op)

held_entry : (past : List Entry) (ops : List OpName) (e : Entry) → IsPlain e → AreHeld past ops → AreHeld (e ∷ past) ops
held_entry past ops (Begin op k c act d) h a = absurd h
held_entry past ops (Took op k) h a = absurd h
held_entry past ops _ h a = a

held_plain : (past : List Entry) (ops : List OpName) (es : List Entry) → ArePlain es → AreHeld past ops → AreHeld (onto es past) ops
held_plain past ops [] h a = a
held_plain past ops (e ∷ es) h a = held_plain (e ∷ past) ops es h.1 (held_entry past ops e h.0 a)

held_begin : (past : List Entry) (ops : List OpName) (op : OpName) (c : ℕ) (act : RecordedAct) (d : Option ℕ) → AreHeld past ops → AreHeld (Begin op 1 c act d ∷ past) (ops ++ op ∷ [])
held_begin past ops op c act d a o =
    subst (λ (n : ℕ). (n + took_count past o ≤ cond (same_op op o) (begin_count past o + 1) (begin_count past o)) × (0 < n → cond (same_op op o) (Some 1) (caller_of past o) ≡ Some 1)) (sym (count-append ops op o)) (go (same_op op o) (a o))
  where
    go : (b : Bool) → (count_of ops o + took_count past o ≤ begin_count past o) × (0 < count_of ops o → caller_of past o ≡ Some 1)
        → (cond b (count_of ops o + 1) (count_of ops o) + took_count past o ≤ cond b (begin_count past o + 1) (begin_count past o)) × (0 < cond b (count_of ops o + 1) (count_of ops o) → cond b (Some 1) (caller_of past o) ≡ Some 1)
    go true h = (omega (arith, h.0), λ p. refl)
    go false h = h

held_took : (past : List Entry) (ops : List OpName) (op : OpName) → AreHeld past (ops ++ op ∷ []) → AreHeld (Took op 1 ∷ past) ops
held_took past ops op a o =
    go (same_op op o) (subst (λ (n : ℕ). (n + took_count past o ≤ begin_count past o) × (0 < n → caller_of past o ≡ Some 1)) (count-append ops op o) (a o))
  where
    go : (b : Bool) → (cond b (count_of ops o + 1) (count_of ops o) + took_count past o ≤ begin_count past o) × (0 < cond b (count_of ops o + 1) (count_of ops o) → caller_of past o ≡ Some 1)
        → (count_of ops o + cond b (took_count past o + 1) (took_count past o) ≤ begin_count past o) × (0 < count_of ops o → caller_of past o ≡ Some 1)
    go true h = (omega (arith, h.0), λ p. h.1 (omega arith))
    go false h = h

held_open : (past : List Entry) (ops : List OpName) (op : OpName) → Once past op → AreHeld past (ops ++ op ∷ []) → IsOpenBefore 1 op past
held_open past ops op once h =
    let a = h op in
    let n : count_of (ops ++ op ∷ []) op ≡ count_of ops op + 1 = subst (λ (b : Bool). count_of (ops ++ op ∷ []) op ≡ cond b (count_of ops op + 1) (count_of ops op)) (same_op-refl op) (count-append ops op op) in
    (a.1 (omega (arith, n)), omega (arith, n, a.0, once.begun))

held_with : (past : List Entry) (ops more : List OpName) (early late : List Entry) (e : Entry) (es : List Entry) → es ≡ early ++ e ∷ late → AreSettling late
    → AreHeld (e ∷ onto early past) more → AreHeld (onto es past) more
held_with past ops more early late e es is quiet h =
    subst (λ (x : List Entry). AreHeld x more) (sym (ap (λ (x : List Entry). onto x past) is ∙ onto-append early (e ∷ late) past)) (held_plain (e ∷ onto early past) more late (settling_plain late quiet) h)

-- a receive that was begun and collected at once
held_try : (past : List Entry) (ops : List OpName) (op : OpName) (c : ℕ) (ending : Ending) → AreHeld past ops → AreHeld (Took op 1 ∷ End op ending ∷ Begin op 1 c Recv None ∷ past) ops
held_try past ops op c ending a =
    held_took (End op ending ∷ Begin op 1 c Recv None ∷ past) ops op (held_entry (Begin op 1 c Recv None ∷ past) (ops ++ op ∷ []) (End op ending) tt (held_begin past ops op c Recv None a))

held_lost : (n c callers : ℕ) (es past : List Entry) (ops : List OpName) → AreLost n 1 c callers es → AreHeld past ops → AreHeld (onto es past) ops
held_lost zero c callers es past ops l a = subst (λ (xs : List Entry). AreHeld (onto xs past) ops) (sym l) a
held_lost (suc n) c callers es past ops l a =
    let prefix = held_lost n c callers l.0 past ops l.3 a in
    let one = l.4 in
    let last : AreHeld (onto l.1 (onto l.0 past)) ops = subst (λ (xs : List Entry). AreHeld (onto xs (onto l.0 past)) ops) (sym one.entries) (held_plain _ ops one.late (settling_plain one.late one.late_settles) (held_try (onto l.0 past) ops one.op c (GoneEnd one.cause one.by) prefix)) in
    subst (λ (xs : List Entry). AreHeld xs ops) (sym (ap (λ (xs : List Entry). onto xs past) l.2 ∙ onto-append l.0 l.1 past)) last

held_has_lost : (c callers : ℕ) (es past : List Entry) (ops : List OpName) → HasLost 1 c callers es → AreHeld past ops → AreHeld (onto es past) ops
held_has_lost c callers es past ops l a =
    subst (λ (xs : List Entry). AreHeld xs ops) (sym (ap (λ (xs : List Entry). onto xs past) l.entries ∙ onto-append l.early l.lost past)) (held_lost l.count c callers l.lost (onto l.early past) ops l.are_lost (held_plain past ops l.early (settling_plain l.early l.early_settles) a))

held_now : (r : Result MessageView NowError) (z : Setting) (h : List (Turn Entry)) (t : Turn Entry) (c : ℕ) (ops : List OpName) → ReceivedNow r z h t 1 c → AreHeld (past_of h) ops → AreHeld (onto t.entries (past_of h)) ops
held_now (Ok m) z h t c ops n a =
    let prefix = held_has_lost c z.callers n.prefix (past_of h) ops n.prefix_lost a in
    let last = held_plain _ ops n.late (settling_plain n.late n.late_settles) (held_try (onto n.prefix (past_of h)) ops n.op c (Won (Received (text_of m))) prefix) in
    subst (λ (xs : List Entry). AreHeld xs ops) (sym (ap (λ (xs : List Entry). onto xs (past_of h)) n.entries ∙ onto-append n.prefix _ (past_of h))) last
held_now (Err e) z h t c ops n a = held_has_lost c z.callers t.entries (past_of h) ops n.0 a

count_turned : (op : OpName) (ops : List OpName) (o : OpName) → count_of (ops ++ op ∷ []) o ≡ count_of (op ∷ ops) o
count_turned op ops o = count-append ops op o

count-two : (ops : List OpName) (a b op : OpName) → count_of ((ops ++ a ∷ []) ++ b ∷ []) op ≡ cond (same_op b op) (cond (same_op a op) (count_of ops op + 1) (count_of ops op) + 1) (cond (same_op a op) (count_of ops op + 1) (count_of ops op))
count-two ops a b op =
    subst (λ (n : ℕ). count_of ((ops ++ a ∷ []) ++ b ∷ []) op ≡ cond (same_op b op) (n + 1) n) (count-append ops a op) (count-append (ops ++ a ∷ []) b op)

either-way : (x y : Bool) (n : ℕ) → cond y (cond x (n + 1) n + 1) (cond x (n + 1) n) ≡ cond x (cond y (n + 1) n + 1) (cond y (n + 1) n)
either-way true true n = refl
either-way true false n = refl
either-way false true n = refl
either-way false false n = refl

count-swap : (ops : List OpName) (a b op : OpName) → count_of ((ops ++ a ∷ []) ++ b ∷ []) op ≡ count_of ((ops ++ b ∷ []) ++ a ∷ []) op
count-swap ops a b op = count-two ops a b op ∙ either-way (same_op a op) (same_op b op) (count_of ops op) ∙ sym (count-two ops b a op)

-- ---- Drivers

module _ {P W : Type 0} (ties : P → Moment → Type 0) (room : P → ℕ) (shown : W → WireView) where
  more_turn : (c d : Core P W) (s o : Sight) (n : ℕ) (ops more : List OpName) (p : Drives ties room shown c s o n ops) (t : Turn Entry) → StandsFor ties room shown d (p.history ++ t ∷ []) → AreHeld (onto t.entries (past_of p.history)) more
      → d.op_words.words ≡ c.op_words.words → Drives ties room shown d s o n more
  more_turn c d s o n ops more p t st held same =
      record {
        history = p.history ++ t ∷ [];
        stands = st;
        held = subst (λ (x : List Entry). AreHeld x more) (sym (past_of-append p.history t)) held;
        has_caller = subst (λ (x : Named). 1 ≤ x.callers) (sym same) p.has_caller;
        slots_are = ap (λ (x : Named). x.slots) same ∙ p.slots_are;
        own_seat = p.own_seat ∙ sym (ap (λ (x : Named). x.id) same);
        first_seat = p.first_seat;
        other_seat = p.other_seat ∙ sym (ap (λ (x : Named). x.id) same);
      }

  pub plain_turn : (c d : Core P W) (s o : Sight) (n : ℕ) (ops : List OpName) (p : Drives ties room shown c s o n ops) (t : Turn Entry) → StandsFor ties room shown d (p.history ++ t ∷ []) → ArePlain t.entries → d.op_words.words ≡ c.op_words.words
      → Drives ties room shown d s o n ops
  plain_turn c d s o n ops p t st plain same =
      more_turn c d s o n ops ops p t st (held_plain (past_of p.history) ops t.entries plain p.held) same

  pub now_turn : (c d : Core P W) (s o : Sight) (n : ℕ) (ops : List OpName) (p : Drives ties room shown c s o n ops) (t : Turn Entry) (r : Result MessageView NowError) (z : Setting) (x : ℕ) → StandsFor ties room shown d (p.history ++ t ∷ []) → ReceivedNow r z p.history t 1 x
      → d.op_words.words ≡ c.op_words.words → Drives ties room shown d s o n ops
  now_turn c d s o n ops p t r z x st now same = more_turn c d s o n ops ops p t st (held_now r z p.history t x ops now p.held) same

  pub begun_turn : (c d : Core P W) (s o : Sight) (n : ℕ) (ops more : List OpName) (p : Drives ties room shown c s o n ops) (t : Turn Entry) (op : OpName) (x : ℕ) (act : RecordedAct) (dl : Option ℕ) → StandsFor ties room shown d (p.history ++ t ∷ [])
      → HasBegin op 1 x act dl t → d.op_words.words ≡ c.op_words.words → more ≡ ops ++ op ∷ [] → Drives ties room shown d s o n more
  begun_turn c d s o n ops more p t op x act dl st b same is =
      let early : AreHeld (onto b.early (past_of p.history)) ops = held_plain (past_of p.history) ops b.early (settling_plain b.early b.early_settles) p.held in
      let begun : AreHeld (Begin op 1 x act dl ∷ onto b.early (past_of p.history)) (ops ++ op ∷ []) = held_begin (onto b.early (past_of p.history)) ops op x act dl early in
      subst (λ (l : List OpName). Drives ties room shown d s o n l) (sym is) (more_turn c d s o n ops (ops ++ op ∷ []) p t st (held_with (past_of p.history) ops (ops ++ op ∷ []) b.early b.late (Begin op 1 x act dl) t.entries b.entries b.late_settles begun) same)

  seated : (c : Core P W) (s r o : Sight) (n : ℕ) (ops : List OpName) → Drives ties room shown c s o n ops → IsSameSeat s r → Drives ties room shown c r o n ops
  seated c s r o n ops p same =
      record { history = p.history; stands = p.stands; held = p.held; has_caller = p.has_caller; slots_are = p.slots_are; own_seat = same.0 ∙ p.own_seat; first_seat = same.1 ∙ p.first_seat; other_seat = p.other_seat }

  same_ops : (c : Core P W) (s o : Sight) (n : ℕ) (ops more : List OpName) → Drives ties room shown c s o n ops → more ≡ ops → Drives ties room shown c s o n more
  same_ops c s o n ops more p is = subst (λ (l : List OpName). Drives ties room shown c s o n l) (sym is) p

  pub took_turn : (c d : Core P W) (s r o : Sight) (n : ℕ) (ops more : List OpName) (op : OpName) (p : Drives ties room shown c s o n ops) (t : Turn Entry) → ops ≡ more ++ op ∷ [] → StandsFor ties room shown d (p.history ++ t ∷ [])
      → HasTook op 1 t → d.op_words.words ≡ c.op_words.words → IsSameSeat s r → Drives ties room shown d r o n more
  took_turn c d s r o n ops more op p t is st b same seat =
      let before : AreHeld (past_of p.history) (more ++ op ∷ []) = subst (λ (l : List OpName). AreHeld (past_of p.history) l) is p.held in
      let early : AreHeld (onto b.early (past_of p.history)) (more ++ op ∷ []) = held_plain (past_of p.history) (more ++ op ∷ []) b.early (settling_plain b.early b.early_settles) before in
      let took : AreHeld (Took op 1 ∷ onto b.early (past_of p.history)) more = held_took (onto b.early (past_of p.history)) more op early in
      seated d s r o n more (more_turn c d s o n ops more p t st (held_with (past_of p.history) ops more b.early b.late (Took op 1) t.entries b.entries b.late_settles took) same) seat

  pub kept_turn : (c d : Core P W) (s r o : Sight) (n : ℕ) (ops more : List OpName) (p : Drives ties room shown c s o n ops) (t : Turn Entry) → StandsFor ties room shown d (p.history ++ t ∷ []) → ArePlain t.entries → d.op_words.words ≡ c.op_words.words
      → IsSameSeat s r → more ≡ ops → Drives ties room shown d r o n more
  kept_turn c d s r o n ops more p t st plain same seat is = same_ops d r o n ops more (seated d s r o n ops (plain_turn c d s o n ops p t st plain same) seat) is

  pub is_open : (c : Core P W) (s o : Sight) (n : ℕ) (ops more : List OpName) (op : OpName) (p : Drives ties room shown c s o n ops) → ops ≡ more ++ op ∷ [] → IsOpen 1 op p.history
  is_open c s o n ops more op p is =
      held_open (past_of p.history) more op (ends_once p.stands.at.z p.history op p.stands.legal) (subst (λ (l : List OpName). AreHeld (past_of p.history) l) is p.held)

  -- the order of the operations doesn't matter
  held_alike : (c : Core P W) (s o : Sight) (n : ℕ) (ops more : List OpName) → Drives ties room shown c s o n ops → ((op : OpName) → count_of more op ≡ count_of ops op) → Drives ties room shown c s o n more
  held_alike c s o n ops more p alike =
      record {
        history = p.history;
        stands = p.stands;
        held = λ op. subst (λ (k : ℕ). (k + took_count (past_of p.history) op ≤ begin_count (past_of p.history) op) × (0 < k → caller_of (past_of p.history) op ≡ Some 1)) (sym (alike op)) (p.held op);
        has_caller = p.has_caller;
        slots_are = p.slots_are;
        own_seat = p.own_seat;
        first_seat = p.first_seat;
        other_seat = p.other_seat;
      }

  -- the open operation that began first may be the last as well
  pub last_one : (c : Core P W) (s o : Sight) (n : ℕ) (ops more : List OpName) (op : OpName) → Drives ties room shown c s o n ops → ops ≡ op ∷ more → Drives ties room shown c s o n (more ++ op ∷ [])
  last_one c s o n ops more op p is = held_alike c s o n ops (more ++ op ∷ []) p (λ x. count_turned op more x ∙ sym (ap (λ (l : List OpName). count_of l x) is))

  pub swapped : (c : Core P W) (s o : Sight) (n : ℕ) (ops rest more : List OpName) (a b : OpName) → Drives ties room shown c s o n ops → ops ≡ (rest ++ a ∷ []) ++ b ∷ [] → more ≡ (rest ++ b ∷ []) ++ a ∷ [] → Drives ties room shown c s o n more
  swapped c s o n ops rest more a b p was is =
      held_alike c s o n ops more p (λ x. ap (λ (l : List OpName). count_of l x) is ∙ count-swap rest b a x ∙ sym (ap (λ (l : List OpName). count_of l x) was))
