-- What a rep finds before an operation begins.
use Rattle.std.proofs.Common.{◌≡◌, refl, ap, sym, ◌∙◌, List, [], ◌∷◌, ℕ, Bool, true, false, Option, Some, None, map}
use Rattle.std.specs.Prelude.{not, is_some, ◌&&◌, ◌||◌, ◌==◌}
use Rattle.std.specs.List.{list_any}
use Rattle.sp_base.specs.declared.role.Role.{Role}
use Rattle.sp_base.specs.Roles.{has_contexts as role_has_contexts}
use Rattle.sp_history.specs.declared.entry.RecordedAct.{RecordedAct}
use Rattle.sp_history.specs.declared.entry.RecordedAct.TheVariants.{Recv, Send}
use Rattle.sp_history.specs.declared.parts.Origin.{Origin}
use Rattle.sp_history.specs.Lists.{has}
use Rattle.sp_history.specs.Setting.{has_contexts}
use Rattle.sp_history.specs.Past.{ctxs}
use Rattle.sp_history.specs.Legal.{does, is_recv_on, is_state, state_for}
use Rattle.sp_history.specs.Moments.{Moment, past}
use Rattle.sp_proto.specs.Kinds.{verb_of}
use Rattle.sp_proto.specs.declared.Verb.{Verb}
use Rattle.proto_rep.specs.declared.rep.Reply.{Reply}
use Rattle.proto_rep.specs.Places.{ReplyContext}
use Rattle.proto_rep.specs.declared.replies.PendingReply.{PendingReply}
use Rattle.proto_rep.specs.declared.operations.ReplyOperation.{ReplyOperation}
use Rattle.proto_rep.specs.Reps.{Ties, ctx_of, is_of_context, state_at, role_of}
use Rattle.proto_rep.specs.Operations.{begun_of, act_of, receives_on}
use Rattle.proto_rep.proofs.Replied.{is_rep, is_raw}
use Rattle.proto_rep.specs.declared.rep.ReplyRole.{ReplyRole}
use Rattle.proto_rep.specs.declared.rep.ReplyRole.TheVariants as sides

recv_any : (c : ℕ) (ws : List ReplyOperation) → list_any (is_recv_on c) (map begun_of ws) ≡ list_any (receives_on c) ws
recv_any c [] = refl
recv_any c (w ∷ ws) = go w.answer (recv_any c ws)
  where
    go : (r : Option PendingReply) → list_any (is_recv_on c) (map begun_of ws) ≡ list_any (receives_on c) ws
        → (is_recv_on c (record { op = w.op; ctx = w.ctx; act = act_of r }) || list_any (is_recv_on c) (map begun_of ws)) ≡ (not (is_some r) && (w.ctx == c) || list_any (receives_on c) ws)
    go None h = ap (λ b. (w.ctx == c) || b) h
    go (Some r) h = h

state_is : (y : ReplyRole) (m : Reply) (t : Moment) (c : ℕ) (act : RecordedAct) → (h : Ties m t) → state_for (role_of y) t.z (past t) c act ≡ state_at h.waits m.places.items c (verb_of act)
state_is sides.Rep m t c Recv h = ap (list_any (is_recv_on c)) (sym h.pending) ∙ recv_any c h.waits
state_is sides.Rep m t c (Send x) h = ap (λ (o : Option Origin). not (is_some o)) (sym (h.stored c))
state_is sides.Respondent m t c Recv h = ap (list_any (is_recv_on c)) (sym h.pending) ∙ recv_any c h.waits
state_is sides.Respondent m t c (Send x) h = ap (λ (o : Option Origin). not (is_some o)) (sym (h.stored c))

pub refused_for : (m : Reply) (t : Moment) (c : ℕ) (v : Verb) (act : RecordedAct) (b s : Bool) → (h : Ties m t) → verb_of act ≡ v → s ≡ state_at h.waits m.places.items c v → (s && not m.raw) ≡ b → is_state t.z (past t) c act ≡ b
refused_for m t c v act b s h e k f =
    ap (λ (r : Role). state_for r t.z (past t) c act && not t.z.raw) (is_rep m t h) ∙ ap (λ q. q && not t.z.raw) (state_is m.role m t c act h ∙ ap (state_at h.waits m.places.items c) e ∙ sym k) ∙ ap (λ q. s && not q) (is_raw m t h) ∙ f

pub never_raw : (m : Reply) (t : Moment) (c : ℕ) (act : RecordedAct) → Ties m t → m.raw ≡ true → is_state t.z (past t) c act ≡ false
never_raw m t c act h r = ap (λ q. state_for t.z.role t.z (past t) c act && not q) (is_raw m t h ∙ r) ∙ none (state_for t.z.role t.z (past t) c act)
  where
    none : (b : Bool) → (b && false) ≡ false
    none true = refl
    none false = refl

does_both : (y : ReplyRole) (act : RecordedAct) → does (role_of y) act ≡ true
does_both sides.Rep Recv = refl
does_both sides.Rep (Send m) = refl
does_both sides.Respondent Recv = refl
does_both sides.Respondent (Send m) = refl

has_ctxs : (y : ReplyRole) → role_has_contexts (role_of y) ≡ true
has_ctxs sides.Rep = refl
has_ctxs sides.Respondent = refl

pub does_is : (m : Reply) (t : Moment) (c : ℕ) (act : RecordedAct) (b : Bool) → Ties m t → ((c == 0) || not m.raw) ≡ b → (does t.z.role act && ((c == 0) || has_contexts t.z)) ≡ b
does_is m t c act b h e =
    ap (λ (r : Role). does r act && ((c == 0) || role_has_contexts r && not t.z.raw)) (is_rep m t h) ∙ ap (λ q. q && ((c == 0) || role_has_contexts (role_of m.role) && not t.z.raw)) (does_both m.role act)
    ∙ ap (λ q. (c == 0) || q && not t.z.raw) (has_ctxs m.role) ∙ ap (λ q. (c == 0) || not q) (is_raw m t h) ∙ e

any_of_context : (c : ℕ) (xs : List ReplyContext) → list_any (is_of_context c) xs ≡ has (map ctx_of xs) c
any_of_context c [] = refl
any_of_context c (x ∷ xs) = ap (λ b. (x.ctx == c) || b) (any_of_context c xs)

pub open_is : (m : Reply) (t : Moment) (c : ℕ) (xs : List ReplyContext) (b o : Bool) → Ties m t → xs ≡ m.places.items → o ≡ list_any (is_of_context c) xs → o ≡ b → has (ctxs (past t)) c ≡ b
open_is m t c xs b o h e k f = ap (λ cs. has cs c) (sym h.contexts) ∙ sym (any_of_context c m.places.items) ∙ ap (list_any (is_of_context c)) (sym e) ∙ sym k ∙ f
