-- The words and the core's seat as operations begin and end.
use Rattle.std.proofs.Common.{◌≡◌, ◌≢◌, refl, ap, sym, ◌∙◌, subst, List, [], ◌∷◌, ◌++◌, ℕ, zero, suc, ◌+◌, ◌<◌, ◌≤◌, Bool, true, false, cond, arith, length, length-set, get_or, set, inl, inr, Some, None}
use Rattle.std.specs.Prelude.{map, not, ◌&&◌, ◌==◌, Option, MatchOption, slice_index}
use Rattle.std.specs.List.{list_any}
use Rattle.std.proofs.lemmas.List.{get_or-set_same, get_or-set_other}
use Rattle.std.proofs.lemmas.Bool.Decides.{nat_tests}
use Rattle.sp_base.specs.declared.OpName.{OpName}
use Rattle.aio_word.specs.declared.phase.Phase.{Phase}
use Rattle.aio_word.specs.declared.phase.Phase.TheVariants.{Idle, Pending, Won as WonPhase, Shut, Superseded, SurveyOver, Cancelled, Expired}
use Rattle.aio_word.specs.declared.rule.WordsView.{WordsView}
use Rattle.aio_word.specs.Word.{is_decided}
use Rattle.aio_word.specs.declared.rule.ShownOperation as words
use Rattle.aio_word.specs.Views.{times, noted}
use Rattle.aio_word.specs.Results.{HasSeen, IsName, IsFound, CoreSaw, CoreTook, of_op}
use Rattle.aio_word.specs.Meanings.{BeganAt}
use Rattle.sp_history.specs.declared.entry.RecordedAct.{RecordedAct}
use Rattle.sp_history.specs.declared.entry.Entry.{Entry}
use Rattle.sp_history.specs.declared.entry.Entry.TheVariants.{Begin, End}
use Rattle.sp_history.specs.declared.entry.Ending.{Ending}
use Rattle.sp_history.specs.declared.entry.Ending.TheVariants.{Won, Gone}
use Rattle.sp_history.specs.declared.entry.Completion.{Completion}
use Rattle.sp_history.specs.declared.entry.Cause.{Cause}
use Rattle.sp_history.specs.declared.entry.Cause.TheVariants as cause
use Rattle.sp_history.specs.declared.setting.Setting.{Setting}
use Rattle.sp_history.specs.declared.parts.Begun.{Begun}
use Rattle.sp_history.specs.Lists.{same_op}
use Rattle.sp_history.specs.Past.{pend, pending, begins}
use Rattle.sp_history.specs.Once.{occurs, begin_count}
use Rattle.sp_history.specs.Legal.{Allowed, is_free, is_at}
use Rattle.sp_history.specs.Moments.{Moment, past, also, Lawful}
use Rattle.sp_history.proofs.OnceHolds.{same_op-refl}
use Rattle.core_state.specs.declared.op_words.OpWords.{OpWords}
use Rattle.core_state.specs.declared.op_words.Decision.{Decision}
use Rattle.core_state.specs.declared.op_words.Decision.TheVariants as decision
use Rattle.core_state.specs.Ends.{decided, end_of, phase_for, IsCallers}
use Rattle.core_state.specs.Reads.{LookReads}
use Rattle.core_state.specs.OpWordsStand.{OpWordsStand, DecidedAs, GoneAs}
use Rattle.core_state.proofs.Lawfuls.{by_steps, counted, current, unended, ends_counted, none_at}

abbrev named : ℕ → ℕ → OpName
named slot gen = record { slot = slot; generation = gen }

-- ---- The slot's last operation

abbrev Last : ℕ → List Entry → Type 0
Last slot before = 0 < begins before slot → 1 ≤ begin_count before (named slot (begins before slot))

last_next : (slot : ℕ) (before : List Entry) (other : OpName) → Last slot before → other.generation ≡ begins before other.slot + 1 → (x : Bool) → (other.slot == slot) ≡ x
    → 0 < cond x (begins before slot + 1) (begins before slot)
    → 1 ≤ cond (same_op other (named slot (cond x (begins before slot + 1) (begins before slot)))) (begin_count before (named slot (cond x (begins before slot + 1) (begins before slot))) + 1) (begin_count before (named slot (cond x (begins before slot + 1) (begins before slot))))
last_next slot before other h g true e p =
    let s : other.slot ≡ slot = grind (arith, nat_tests) in
    let gen : other.generation ≡ begins before slot + 1 = subst (λ (i : ℕ). other.generation ≡ begins before i + 1) s g in
    let is : other ≡ named slot (begins before slot + 1) = λ i. named (s i) (gen i) in
    let same : same_op other (named slot (begins before slot + 1)) ≡ true = subst (λ (o : OpName). same_op other o ≡ true) is (same_op-refl other) in
    rw same (omega arith)
last_next slot before other h g false e p = go (same_op other (named slot (begins before slot))) (begin_count before (named slot (begins before slot))) (h p)
  where
    go : (b : Bool) (n : ℕ) → 1 ≤ n → 1 ≤ cond b (n + 1) n
    go true n h = omega arith
    go false n h = h

last_step : (z : Setting) (slot k : ℕ) (before : List Entry) (e : Entry) → Last slot before → Allowed z k before e → Last slot (e ∷ before)
last_step z slot k before (Begin other caller c act d) h a = last_next slot before other h a.itself.generation (other.slot == slot) refl
last_step z slot k before _ h a = h

last_begun : (t : Moment) (slot : ℕ) → Lawful t → Last slot (past t)
last_begun t slot l = by_steps t (Last slot) (λ p. absurd (omega arith)) (last_step t.z slot) l

free_none : (ss : List Begun) (slot gen : ℕ) → list_any (is_at slot) ss ≡ false → occurs ss (named slot gen) ≡ 0
free_none ss slot gen h = go (occurs ss (named slot gen)) (none_at ss (named slot gen) slot h)
  where
    go : (n : ℕ) → (1 ≤ n → (slot == slot) ≡ false) → n ≡ 0
    go zero h = refl
    go (suc n) h = let k : (slot == slot) ≡ false = h (omega arith) in absurd (grind (arith, nat_tests))

both_not : (a b : Bool) → (not a && not b) ≡ true → (a ≡ false) × (b ≡ false)
both_not true b h = absurd cc
both_not false true h = absurd cc
both_not false false h = (refl, refl)

pub seen : (d : OpWords) (t : Moment) (slot : ℕ) → OpWordsStand d t → Lawful t → slot < t.z.slots → is_free (past t) slot ≡ true → HasSeen d.seat.view slot
seen d t slot h l inside free = go (begins (past t) slot) refl
  where
    go : (n : ℕ) → n ≡ begins (past t) slot → HasSeen d.seat.view slot
    go zero e = inl (h.gens_are slot inside ∙ sym e)
    go (suc n) e =
        let op = named slot (begins (past t) slot) in
        let one : 1 ≤ begin_count (past t) op = last_begun t slot l (omega (arith, e)) in
        let none : occurs (pend (past t)) op ≡ 0 = free_none (pend (past t)) slot (begins (past t) slot) (both_not _ _ free).0 in
        let c = counted t op l in
        inr (rw (h.gens_are slot inside, h.ends_are, ends_counted (past t) op) (omega (arith, c.0, one, none)))

-- ---- The words and the lists of operations

pub op_words_begun : (d e : OpWords) (t : Moment) (op : OpName) (k c : ℕ) (act : RecordedAct) (dl : Option ℕ) → OpWordsStand d t → op.slot < t.z.slots → e.words ≡ d.words → e.seat.words ≡ d.seat.words → BeganAt d.seat.view op e.seat.view → OpWordsStand e (also t (Begin op k c act dl))
op_words_begun d e t op k c act dl h inside w sw b =
    let gens : e.seat.view.generations ≡ set d.seat.view.generations op.slot op.generation = ap (λ v. v.generations) b.2 in
    let ends_same : e.seat.view.ends ≡ d.seat.view.ends = ap (λ v. v.ends) b.2 in
    let made_same : e.seat.view.made ≡ d.seat.view.made = ap (λ v. v.made) b.2 in
    record {
      own = sw ∙ h.own ∙ ap (λ x. x.id) (sym w);
      slots_are = ap (λ x. x.slots) w ∙ h.slots_are;
      callers_are = ap (λ x. x.callers) w ∙ h.callers_are;
      made_are = made_same ∙ h.made_are;
      ends_are = ends_same ∙ h.ends_are;
      wide = ap length gens ∙ length-set d.seat.view.generations op.slot op.generation ∙ h.wide;
      gens_are = λ i l. rw gens (at i l (op.slot == i) refl);
    }
  where
    at : (i : ℕ) → i < t.z.slots → (x : Bool) → (op.slot == i) ≡ x → get_or (set d.seat.view.generations op.slot op.generation) i 0 ≡ cond x (begins (past t) i + 1) (begins (past t) i)
    at i l true f =
        let same : op.slot ≡ i = grind (arith, nat_tests) in
        let there : op.slot < length d.seat.view.generations = omega (arith, h.wide, inside) in
        rw (← same) (get_or-set_same d.seat.view.generations op.slot op.generation 0 there ∙ b.0 ∙ ap (λ (n : ℕ). n + 1) (h.gens_are op.slot inside))
    at i l false f =
        let other : i ≢ op.slot = λ q. grind (arith, nat_tests, q) in
        get_or-set_other d.seat.view.generations op.slot i op.generation 0 other ∙ h.gens_are i l

-- ---- Ends

pub map-append : {A B : Type 0} (f : A → B) (xs ys : List A) → map f (xs ++ ys) ≡ map f xs ++ map f ys
map-append f [] ys = refl
map-append f (x ∷ xs) ys = ap (λ zs. f x ∷ zs) (map-append f xs ys)

pub op_words_ended : (d e : OpWords) (t : Moment) (op : OpName) (ending : Ending) → OpWordsStand d t → e.words ≡ d.words → e.seat.words ≡ d.seat.words → e.seat.view.ends ≡ d.seat.view.ends ++ end_of op ending ∷ [] → e.seat.view.generations ≡ d.seat.view.generations → e.seat.view.made ≡ d.seat.view.made
    → OpWordsStand e (also t (End op ending))
op_words_ended d e t op ending h w sw ee ge me =
    record {
      own = sw ∙ h.own ∙ ap (λ x. x.id) (sym w);
      slots_are = ap (λ x. x.slots) w ∙ h.slots_are;
      callers_are = ap (λ x. x.callers) w ∙ h.callers_are;
      made_are = me ∙ h.made_are;
      ends_are = ee ∙ ap (λ xs. xs ++ end_of op ending ∷ []) h.ends_are ∙ sym (map-append decided _ ((op, ending) ∷ []));
      wide = ap length ge ∙ h.wide;
      gens_are = λ i l. rw ge (h.gens_are i l);
    }

is_callers : (v : WordsView) (op : OpName) (p : Phase) (by : ℕ) → is_decided p ≡ true → IsFound v (of_op op p by) → times op.slot op.generation v.ends ≡ 0 → p ≢ Cancelled → p ≢ Expired → ⊥
is_callers v op Idle by d f o a b = cc
is_callers v op Pending by d f o a b = cc
is_callers v op WonPhase by d f o a b = let z : by ≡ 0 = f.begun.1 in let k = f.own refl z in omega (arith, k, o)
is_callers v op Shut by d f o a b = let z : by ≡ 0 = f.begun.1 in let k = f.own refl z in omega (arith, k, o)
is_callers v op Superseded by d f o a b = let z : by ≡ 0 = f.begun.1 in let k = f.own refl z in omega (arith, k, o)
is_callers v op SurveyOver by d f o a b = let z : by ≡ 0 = f.begun.1 in let k = f.own refl z in omega (arith, k, o)
is_callers v op Cancelled by d f o a b = a refl
is_callers v op Expired by d f o a b = b refl

-- ---- What the core finds

pub name_is : (d : OpWords) (t : Moment) (op : OpName) (s : Begun) → OpWordsStand d t → Lawful t → pending (past t) op ≡ Some s → IsName d.seat.view d.words.slots op
name_is d t op s h l p =
    let k = current t op s l p in
    (rw h.slots_are k.1, k.2, k.0 ∙ sym (h.gens_are op.slot k.1))

pub open_is : (d : OpWords) (t : Moment) (op : OpName) (s : Begun) → OpWordsStand d t → Lawful t → pending (past t) op ≡ Some s → times op.slot op.generation d.seat.view.ends ≡ 0
open_is d t op s h l p = rw h.ends_are (unended t op s l p)

-- the core has won it
pub took_ended : (d e : OpWords) (t : Moment) (op : OpName) (r : Completion) → OpWordsStand d t → e.words ≡ d.words → e.seat.words ≡ d.seat.words → CoreTook d.seat.view op WonPhase e.seat.view → OpWordsStand e (also t (End op (Won r)))
took_ended d e t op r h w sw k =
    let v = k.1 in
    op_words_ended d e t op (Won r) h w sw (ap (λ x. x.ends) v) (ap (λ x. x.generations) v) (ap (λ x. x.made) v)

noted_ended : (es : List words.ShownOperation) (e : words.ShownOperation) → is_decided e.phase ≡ true → times e.slot e.generation es ≡ 0 → noted es e ≡ es ++ e ∷ []
noted_ended es e d o = rw (d, o) refl

noted_none : (es : List words.ShownOperation) (e : words.ShownOperation) → is_decided e.phase ≡ false → noted es e ≡ es
noted_none es e d = rw d refl

-- a caller has ended it
callers_ended : (d e : OpWords) (t : Moment) (op : OpName) (s : Begun) (cause : Cause) (by : ℕ) → OpWordsStand d t → Lawful t → pending (past t) op ≡ Some s → e.words ≡ d.words → e.seat.words ≡ d.seat.words → IsCallers cause → 1 ≤ by → is_decided (phase_for cause) ≡ true
    → CoreSaw d.seat.view (of_op op (phase_for cause) by) e.seat.view → DecidedAs (decision.Gone cause by) op t e
callers_ended d e t op s cause by h l p w sw c b dec k =
    let v = k.0 in
    let ends_are = ap (λ x. x.ends) v ∙ noted_ended d.seat.view.ends (of_op op (phase_for cause) by) dec (open_is d t op s h l p) in
    (c, b, omega (arith, k.1.made, h.made_are), op_words_ended d e t op (Gone cause by) h w sw ends_are (ap (λ x. x.generations) v) (ap (λ x. x.made) v))

-- it is still pending
still_pending : (d e : OpWords) (t : Moment) (op : OpName) (phase : Phase) (by : ℕ) → OpWordsStand d t → e.words ≡ d.words → e.seat.words ≡ d.seat.words → is_decided phase ≡ false → CoreSaw d.seat.view (of_op op phase by) e.seat.view → OpWordsStand e t
still_pending d e t op phase by h w sw dec k =
    let v = k.0 in
    record {
      own = sw ∙ h.own ∙ ap (λ x. x.id) (sym w);
      slots_are = ap (λ x. x.slots) w ∙ h.slots_are;
      callers_are = ap (λ x. x.callers) w ∙ h.callers_are;
      made_are = ap (λ x. x.made) v ∙ h.made_are;
      ends_are = ap (λ x. x.ends) v ∙ noted_none d.seat.view.ends (of_op op phase by) dec ∙ h.ends_are;
      wide = ap (λ x. length x.generations) v ∙ h.wide;
      gens_are = λ i m. ap (λ x. slice_index x.generations i) v ∙ h.gens_are i m;
    }

abbrev Looked : Option Decision → OpName → Moment → OpWords → Type 0
Looked r op t e = MatchOption r (OpWordsStand e t) (λ made. (made ≢ decision.Won) × DecidedAs made op t e)

pub looked : (d e : OpWords) (t : Moment) (op : OpName) (s : Begun) (phase : Phase) (by : ℕ) (r : Option Decision) → OpWordsStand d t → Lawful t → pending (past t) op ≡ Some s → e.words ≡ d.words → e.seat.words ≡ d.seat.words → GoneAs r phase by
    → CoreSaw d.seat.view (of_op op phase by) e.seat.view → Looked r op t e
looked d e t op s Idle by r h l p w sw g k = subst (λ x. Looked x op t e) (sym g) (still_pending d e t op Idle by h w sw refl k)
looked d e t op s Pending by r h l p w sw g k = subst (λ x. Looked x op t e) (sym g) (still_pending d e t op Pending by h w sw refl k)
looked d e t op s Cancelled by r h l p w sw g k = subst (λ x. Looked x op t e) (sym g) (λ q. cc, callers_ended d e t op s cause.Cancelled by h l p w sw tt k.1.begun.1.0 refl k)
looked d e t op s Expired by r h l p w sw g k = subst (λ x. Looked x op t e) (sym g) (λ q. cc, callers_ended d e t op s cause.TimedOut by h l p w sw tt k.1.begun.1.0 refl k)
looked d e t op s WonPhase by r h l p w sw g k = absurd (is_callers d.seat.view op WonPhase by refl k.1 (open_is d t op s h l p) (λ q. cc) (λ q. cc))
looked d e t op s Shut by r h l p w sw g k = absurd (is_callers d.seat.view op Shut by refl k.1 (open_is d t op s h l p) (λ q. cc) (λ q. cc))
looked d e t op s Superseded by r h l p w sw g k = absurd (is_callers d.seat.view op Superseded by refl k.1 (open_is d t op s h l p) (λ q. cc) (λ q. cc))
looked d e t op s SurveyOver by r h l p w sw g k = absurd (is_callers d.seat.view op SurveyOver by refl k.1 (open_is d t op s h l p) (λ q. cc) (λ q. cc))

-- a decided word that the core has not decided is a caller's
pub none_decided : (v : WordsView) (op : OpName) (phase : Phase) (by : ℕ) → is_decided phase ≡ true → IsFound v (of_op op phase by) → times op.slot op.generation v.ends ≡ 0 → GoneAs None phase by → ⊥
none_decided v op Cancelled by d f o g = cc
none_decided v op Expired by d f o g = cc
none_decided v op Idle by d f o g = cc
none_decided v op Pending by d f o g = cc
none_decided v op WonPhase by d f o g = is_callers v op WonPhase by refl f o (λ q. cc) (λ q. cc)
none_decided v op Shut by d f o g = is_callers v op Shut by refl f o (λ q. cc) (λ q. cc)
none_decided v op Superseded by d f o g = is_callers v op Superseded by refl f o (λ q. cc) (λ q. cc)
none_decided v op SurveyOver by d f o g = is_callers v op SurveyOver by refl f o (λ q. cc) (λ q. cc)

-- what the core has read in it: that the operation is pending, where it has not ended
pub look_reads : (d e : OpWords) (t : Moment) (op : OpName) (s : Begun) (phase : Phase) (by : ℕ) (r : Option Decision) → OpWordsStand d t → Lawful t → pending (past t) op ≡ Some s → GoneAs r phase by → CoreSaw d.seat.view (of_op op phase by) e.seat.view → LookReads r op d.seat.view.reads e.seat.view.reads
look_reads d e t op s Idle by r h l p g k = absurd (k.1.begun.0 (name_is d t op s h l p).1 refl)
look_reads d e t op s Pending by r h l p g k =
    subst (λ x. LookReads x op d.seat.view.reads e.seat.view.reads) (sym g) (ap (λ v. v.reads) k.0 ∙ ap (λ (n : ℕ). d.seat.view.reads ++ of_op op Pending n ∷ []) k.1.begun.1)
look_reads d e t op s Cancelled by r h l p g k = subst (λ x. LookReads x op d.seat.view.reads e.seat.view.reads) (sym g) (record { more = of_op op Cancelled by ∷ []; is = ap (λ v. v.reads) k.0 })
look_reads d e t op s Expired by r h l p g k = subst (λ x. LookReads x op d.seat.view.reads e.seat.view.reads) (sym g) (record { more = of_op op Expired by ∷ []; is = ap (λ v. v.reads) k.0 })
look_reads d e t op s WonPhase by r h l p g k = absurd (is_callers d.seat.view op WonPhase by refl k.1 (open_is d t op s h l p) (λ q. cc) (λ q. cc))
look_reads d e t op s Shut by r h l p g k = absurd (is_callers d.seat.view op Shut by refl k.1 (open_is d t op s h l p) (λ q. cc) (λ q. cc))
look_reads d e t op s Superseded by r h l p g k = absurd (is_callers d.seat.view op Superseded by refl k.1 (open_is d t op s h l p) (λ q. cc) (λ q. cc))
look_reads d e t op s SurveyOver by r h l p g k = absurd (is_callers d.seat.view op SurveyOver by refl k.1 (open_is d t op s h l p) (λ q. cc) (λ q. cc))
