-- Which calls collect nothing.
use Rattle.std.proofs.Common.{◌≡◌, refl, sym, ◌∙◌, subst, List, [], ◌∷◌, ◌++◌, ℕ, Bool, true, false, inl, inr}
use Rattle.std.proofs.lemmas.List.Folds.{list_all-append}
use Rattle.std.specs.Prelude.{◌≢◌, not, ◌&&◌, max, Option, Some, None, Result, Ok, Err}
use Rattle.turn_lock.specs.declared.turn.Turn.{Turn}
use Rattle.sp_base.specs.declared.OpName.{OpName}
use Rattle.sp_msg.specs.Views.{WireView}
use Rattle.sp_history.specs.declared.entry.RecordedAct.{RecordedAct}
use Rattle.sp_history.specs.declared.entry.Entry.{Entry}
use Rattle.sp_history.specs.declared.entry.Entry.TheVariants.{Took, Tick, Close, Begin, Ctx, Topic}
use Rattle.sp_history.specs.declared.entry.ContextChange.TheVariants.{Open, Shut}
use Rattle.sp_history.specs.declared.entry.Switch.TheVariants.{On, Off}
use Rattle.sp_history.specs.declared.entry.Totals.{Totals}
use Rattle.sp_history.specs.declared.parts.Begun.{Begun}
use Rattle.sp_history.specs.declared.setting.Setting.{Setting}
use Rattle.sp_history.specs.Lists.{same_op}
use Rattle.sp_history.specs.Past.{past_of, is_closed, up, pend, now, due_at}
use Rattle.sp_history.proofs.OnceHolds.{same_op-eq}
use Rattle.core_state.specs.declared.causes.BeginError.{BeginError}
use Rattle.sp_core.specs.declared.calls.collect.Collected.TheVariants as collected
use Rattle.core_state.specs.declared.causes.AttachError.{AttachError}
use Rattle.sp_core.specs.declared.calls.attach.Gone.{Gone}
use Rattle.core_state.specs.declared.causes.CtxError.{CtxError}
use Rattle.core_state.specs.declared.causes.TopicError.{TopicError}
use Rattle.sp_core.specs.Contexts.{OpenedBy, IsCtxEnd, AreCtxEnds, ShutBy, PutOn, SubscribedBy, UnsubscribedBy}
use Rattle.sp_core.specs.Moving.{AreSettling}
use Rattle.sp_core.specs.Standing.{BeganBy, HasFirst}
use Rattle.sp_core.specs.Attaching.{AttachedBy, TookWire}
use Rattle.sp_core.specs.Serving.{AreServing}
use Rattle.sp_core.specs.Closing.{ClosedBy, AreEndsOf, AreDownsOf, GoesDownAs}
use Rattle.sp_core.specs.Collecting.{CollectedBy, DueBy, DueFrom}
use Rattle.sp_history.specs.Changes.{none_of}
use Rattle.sp_history.specs.Found.{collects}
use Rattle.sp_socket.specs.Open.{NoneTaken, LeavesOpen}

-- ---- Lists of entries

abbrev NotTaken : OpName → List Entry → Type 0
NotTaken op es = none_of (collects op) es ≡ true

pub none_settling : (op : OpName) (es : List Entry) → AreSettling es → NotTaken op es
none_settling op [] s = refl
none_settling op (Took other k ∷ es) s = absurd s.0
none_settling op (_ ∷ es) s = none_settling op es s.1

none_serving : (op : OpName) (es : List Entry) → AreServing es → NotTaken op es
none_serving op [] s = refl
none_serving op (Took other k ∷ es) s = absurd s.0
none_serving op (_ ∷ es) s = none_serving op es s.1

none_both : (op : OpName) (es more : List Entry) → NotTaken op es → NotTaken op more → NotTaken op (es ++ more)
none_both op es more a b =
    list_all-append (λ (e : Entry). not (collects op e)) es more ∙ (λ i. a i && b i)

-- only settling entries
pub none_in : (es : List Entry) → AreSettling es → NoneTaken es
none_in es s = λ op. none_settling op es s

-- entries of serving
pub none_served : (es : List Entry) → AreServing es → NoneTaken es
none_served es s = λ op. none_serving op es s

-- one entry and then settling entries
pub none_first : (e : Entry) (t : Turn Entry) → NoneTaken (e ∷ []) → HasFirst e t → NoneTaken t.entries
none_first e t n h = λ op. subst (NotTaken op) (sym h.entries) (none_both op (e ∷ []) h.late (n op) (none_settling op h.late h.late_settles))

-- what collects nothing collects nothing that was open
pub leaves : (h : List (Turn Entry)) (t : Turn Entry) → NoneTaken t.entries → LeavesOpen h t
leaves h t n = λ op o. n op

-- ---- Calls

pub none_began : (r : Result OpName BeginError) (z : Setting) (h : List (Turn Entry)) (t : Turn Entry) (k c : ℕ) (act : RecordedAct) (d : Option ℕ) → BeganBy r z h t k c act d → NoneTaken t.entries
none_began (Ok op) z h t k c act d b = λ x. subst (NotTaken x) (sym b.entries) (none_both x b.early (Begin op k c act d ∷ b.late) (none_settling x b.early b.early_settles) (none_settling x b.late b.late_settles))
none_began (Err e) z h t k c act d b = none_in t.entries b.0

pub none_attached : (r : Result ℕ AttachError) (z : Setting) (h : List (Turn Entry)) (t : Turn Entry) (place limit : ℕ) (name : List ℕ) → AttachedBy r z h t place limit name → NoneTaken t.entries
none_attached (Ok p) z h t place limit name b = none_first _ t (λ op. refl) b.1
none_attached (Err e) z h t place limit name b = none_in t.entries b.0

pub none_took : {W : Type 0} (shown : W → WireView) (r : Option (Gone W)) (z : Setting) (h : List (Turn Entry)) (t : Turn Entry) → TookWire shown r z h t → NoneTaken t.entries
none_took shown None z h t b = none_in t.entries b.1
none_took shown (Some g) z h t b = none_first _ t (λ op. refl) b.2

none_ends : (op : OpName) (callers : ℕ) (ss : List Begun) (es : List Entry) → AreEndsOf callers ss es → NotTaken op es
none_ends op callers [] es e = subst (NotTaken op) (sym e) refl
none_ends op callers (s ∷ ss) es e = subst (NotTaken op) (sym e.3) (none_ends op callers ss e.2 e.5)

none_down : (op : OpName) (p : ℕ) (es : List Entry) → GoesDownAs p es → NotTaken op es
none_down op p es (inl e) = subst (NotTaken op) (sym e) refl
none_down op p es (inr (inl e)) = subst (NotTaken op) (sym e) refl
none_down op p es (inr (inr e)) = subst (NotTaken op) (sym e.2) refl

none_downs : (op : OpName) (ps : List ℕ) (es : List Entry) → AreDownsOf ps es → NotTaken op es
none_downs op [] es e = subst (NotTaken op) (sym e) refl
none_downs op (p ∷ ps) es e = subst (NotTaken op) (sym e.2) (none_both op e.0 e.1 (none_down op p e.0 e.3) (none_downs op ps e.1 e.4))

pub none_closed : (r : Totals) (callers : ℕ) (h : List (Turn Entry)) (t : Turn Entry) → ClosedBy r callers h t → NoneTaken t.entries
none_closed r callers h t c = λ op. go op (is_closed (past_of h)) refl
  where
    go : (op : OpName) (b : Bool) → is_closed (past_of h) ≡ b → NotTaken op t.entries
    go op true e = subst (NotTaken op) (sym (c.second e)) refl
    go op false e =
        let f = c.first e in
        subst (NotTaken op) (sym f.entries) (none_both op f.ends (f.down_entries ++ Close f.totals ∷ []) (none_ends op callers (pend (past_of h)) f.ends f.ended) (none_both op f.down_entries (Close f.totals ∷ []) (none_downs op (up (past_of h)) f.down_entries f.gone_down) refl))

pub none_opened : (r : Result ℕ CtxError) (z : Setting) (h : List (Turn Entry)) (t : Turn Entry) → OpenedBy r z h t → NoneTaken t.entries
none_opened (Ok c) z h t b = none_first (Ctx c Open) t (λ op. refl) b.1
none_opened (Err e) z h t b = none_in t.entries b.0

none_ctx_end : (op : OpName) (callers c : ℕ) (past : List Entry) (e : Entry) (es : List Entry) → IsCtxEnd callers c past e → NotTaken op es → NotTaken op (e ∷ es)
none_ctx_end op callers c past (Took other k) es i n = absurd i
none_ctx_end op callers c past _ es i n = n

none_ctx_ends : (op : OpName) (callers c : ℕ) (past es : List Entry) → AreCtxEnds callers c past es → NotTaken op es
none_ctx_ends op callers c past [] a = refl
none_ctx_ends op callers c past (e ∷ es) a = none_ctx_end op callers c past e es a.0 (none_ctx_ends op callers c (e ∷ past) es a.1)

pub none_shut : (r : Result (Unit {0}) CtxError) (z : Setting) (h : List (Turn Entry)) (t : Turn Entry) (c : ℕ) → ShutBy r z h t c → NoneTaken t.entries
none_shut (Ok done) z h t c b = λ op.
    let s = b.1 in
    subst (NotTaken op) (sym s.entries) (none_both op s.ends (Ctx c Shut ∷ s.late) (none_ctx_ends op z.callers c (past_of h) s.ends s.ended) (none_settling op s.late s.late_settles))
none_shut (Err e) z h t c b = none_in t.entries b.0

none_put_on : (there : Bool) (c : ℕ) (b : List ℕ) (t : Turn Entry) → PutOn there c b t → NoneTaken t.entries
none_put_on there c b t (inl h) = none_in t.entries h.1
none_put_on there c b t (inr h) = none_first (Topic c b On) t (λ op. refl) h.1

pub none_subscribed : (r : Result (Unit {0}) TopicError) (z : Setting) (h : List (Turn Entry)) (t : Turn Entry) (c : ℕ) (b : List ℕ) → SubscribedBy r z h t c b → NoneTaken t.entries
none_subscribed (Ok done) z h t c b s = none_put_on _ c b t s.2
none_subscribed (Err e) z h t c b s = none_in t.entries s.0

pub none_unsubscribed : (r : Result (Unit {0}) TopicError) (z : Setting) (h : List (Turn Entry)) (t : Turn Entry) (c : ℕ) (b : List ℕ) → UnsubscribedBy r z h t c b → NoneTaken t.entries
none_unsubscribed (Ok done) z h t c b s = none_first (Topic c b Off) t (λ op. refl) s.2
none_unsubscribed (Err e) z h t c b s = none_in t.entries s.0

none_from : (b : Bool) (before : List Entry) (t : Turn Entry) (at : ℕ) (old new : List OpName) → DueFrom b before t at old new → NoneTaken t.entries
none_from true before t at old new d = none_in t.entries d.0
none_from false before t at old new d = none_first (Tick at (due_at before at)) t (λ op. refl) d.0

pub none_due : (h : List (Turn Entry)) (t : Turn Entry) (at : ℕ) (old new : List OpName) → DueBy h t at old new → NoneTaken t.entries
none_due h t at old new d = none_from (is_closed (past_of h)) (past_of h) t (max (now (past_of h)) at) old new d

-- ---- Collecting

same_if : (op other : OpName) (b : Bool) → same_op op other ≡ b → op ≢ other → b ≡ false
same_if op other true e n = absurd (n (same_op-eq op other e))
same_if op other false e n = refl

-- for another operation
pub not_same : (op other : OpName) → op ≢ other → same_op op other ≡ false
not_same op other n = same_if op other (same_op op other) refl n

pub not_collected : (outcome : _) (op other : OpName) (k : ℕ) (h : List (Turn Entry)) (t : Turn Entry) → CollectedBy (collected.Ended outcome) op k h t → op ≢ other → NotTaken other t.entries
not_collected outcome op other k h t c n =
    let took = c.0 in
    let here : NotTaken other (Took op k ∷ took.late) = (λ i. not (not_same op other n i) && none_settling other took.late took.late_settles i) in
    subst (NotTaken other) (sym took.entries) (none_both other took.early (Took op k ∷ took.late) (none_settling other took.early took.early_settles) here)
