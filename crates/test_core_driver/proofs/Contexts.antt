-- Turns that open or shut a context, or change its topics, begin and collect nothing.
use Rattle.std.proofs.Common.{sym, subst, List, [], ◌∷◌, ℕ, Bool, Result, Ok, Err, inl, inr}
use Rattle.turn_lock.specs.declared.turn.Turn.{Turn}
use Rattle.sp_history.specs.declared.entry.Entry.{Entry}
use Rattle.sp_history.specs.declared.entry.Entry.TheVariants.{Begin, Ctx, Topic, Took}
use Rattle.sp_history.specs.declared.entry.ContextChange.TheVariants.{Open, Shut}
use Rattle.sp_history.specs.declared.entry.Switch.TheVariants.{On, Off}
use Rattle.sp_history.specs.declared.setting.Setting.{Setting}
use Rattle.sp_history.specs.Past.{past_of}
use Rattle.core_state.specs.declared.causes.CtxError.{CtxError}
use Rattle.core_state.specs.declared.causes.TopicError.{TopicError}
use Rattle.sp_core.specs.Contexts.{OpenedBy, ShutBy, SubscribedBy, UnsubscribedBy, PutOn, IsCtxEnd, AreCtxEnds}
use Rattle.test_core_driver.proofs.Driving.{IsPlain, ArePlain, plain-append, first_plain, settling_plain}

pub opened_plain : (r : Result ℕ CtxError) (z : Setting) (h : List (Turn Entry)) (t : Turn Entry) → OpenedBy r z h t → ArePlain t.entries
opened_plain (Ok c) z h t a = first_plain (Ctx c Open) t tt a.1
opened_plain (Err e) z h t a = settling_plain t.entries a.0

end_plain : (callers c : ℕ) (past : List Entry) (e : Entry) → IsCtxEnd callers c past e → IsPlain e
end_plain callers c past (Begin op k x act d) h = absurd h
end_plain callers c past (Took op k) h = absurd h
end_plain callers c past _ h = tt

ends_plain : (callers c : ℕ) (past es : List Entry) → AreCtxEnds callers c past es → ArePlain es
ends_plain callers c past [] h = tt
ends_plain callers c past (e ∷ es) h = (end_plain callers c past e h.0, ends_plain callers c (e ∷ past) es h.1)

pub shut_plain : (r : Result (Unit {0}) CtxError) (z : Setting) (h : List (Turn Entry)) (t : Turn Entry) (c : ℕ) → ShutBy r z h t c → ArePlain t.entries
shut_plain (Ok done) z h t c a =
    let s = a.1 in
    subst ArePlain (sym s.entries) (plain-append s.ends (Ctx c Shut ∷ s.late) (ends_plain z.callers c (past_of h) s.ends s.ended) (tt, settling_plain s.late s.late_settles))
shut_plain (Err e) z h t c a = settling_plain t.entries a.0

put_plain : (there : Bool) (t : Turn Entry) (c : ℕ) (b : List ℕ) → PutOn there c b t → ArePlain t.entries
put_plain there t c b (inl q) = settling_plain t.entries q.1
put_plain there t c b (inr q) = first_plain (Topic c b On) t tt q.1

pub subscribed_plain : (r : Result (Unit {0}) TopicError) (z : Setting) (h : List (Turn Entry)) (t : Turn Entry) (c : ℕ) (b : List ℕ) → SubscribedBy r z h t c b → ArePlain t.entries
subscribed_plain (Ok done) z h t c b a = put_plain _ t c b a.2
subscribed_plain (Err e) z h t c b a = settling_plain t.entries a.0

pub unsubscribed_plain : (r : Result (Unit {0}) TopicError) (z : Setting) (h : List (Turn Entry)) (t : Turn Entry) (c : ℕ) (b : List ℕ) → UnsubscribedBy r z h t c b → ArePlain t.entries
unsubscribed_plain (Ok done) z h t c b a = first_plain (Topic c b Off) t tt a.2
unsubscribed_plain (Err e) z h t c b a = settling_plain t.entries a.0
