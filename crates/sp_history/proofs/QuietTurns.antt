-- Where no send is pending and no request is live, nothing goes out until something is begun.
use Rattle.std.proofs.Common.{◌≡◌, refl, ap, sym, ◌∙◌, subst, List, [], ◌∷◌, ℕ, Bool, true, false, cond, Option, Some, None}
use Rattle.std.specs.Prelude.{filter, find, map, not, ◌&&◌, ◌||◌}
use Rattle.std.specs.List.{list_any}
use Rattle.sp_base.specs.declared.OpName.{OpName}
use Rattle.turn_lock.specs.declared.turn.Turn.{Turn}
use Rattle.sp_history.specs.declared.entry.Completion.TheVariants.{Received, Sent}
use Rattle.sp_history.specs.declared.entry.Ending.{Ending}
use Rattle.sp_history.specs.declared.entry.Ending.TheVariants.{Won, Gone}
use Rattle.sp_history.specs.declared.entry.ContextChange.TheVariants.{Shut}
use Rattle.sp_history.specs.declared.entry.Entry.{Entry}
use Rattle.sp_history.specs.declared.entry.Entry.TheVariants.{Begin, End, Frame, Out, Full, Down, Unkept, Tick, Ctx, Close}
use Rattle.sp_history.specs.declared.parts.Begun.{Begun}
use Rattle.sp_history.specs.declared.parts.LiveRequest.{LiveRequest}
use Rattle.sp_history.specs.declared.parts.Requests.{Requests}
use Rattle.sp_history.specs.declared.setting.Setting.{Setting}
use Rattle.sp_history.specs.declared.parts.How.TheVariants as how
use Rattle.sp_history.specs.Lists.{has, same_bytes}
use Rattle.sp_history.specs.Setting.{is_req, floods, has_requests, resends}
use Rattle.sp_history.specs.Changes.{none_of}
use Rattle.sp_history.specs.Past.{is_of, without_begun, onto, pend, pending, now}
use Rattle.sp_history.specs.Requests.{no_requests, wire_of, with_frame, with_out, with_taken, end_on, of_live, after_end, after_moment, over_at, asked, requests}
use Rattle.sp_history.specs.Sends.{is_due_again, is_resend, unclaimed}
use Rattle.sp_history.specs.Legal.{is_recv, sending, Allowed, MayEndAs, goes_on, is_part_of_send, Follows, LegalTurn}
use Rattle.sp_history.specs.Found.{is_begin, is_out}
use Rattle.sp_history.proofs.OnceHolds.{has_value}
use Rattle.sp_history.proofs.Surveys.{none_first, none_rest}

-- ---- Empty lists

filter_none : {A : Type 0} (p q : A → Bool) (xs : List A) → filter p xs ≡ [] → filter p (filter q xs) ≡ []
filter_none p q [] h = refl
filter_none p q (x ∷ xs) h = go (p x) refl (q x) h (filter_none p q xs)
  where
    go : (a : Bool) → p x ≡ a → (b : Bool) → cond a (x ∷ filter p xs) (filter p xs) ≡ [] → (filter p xs ≡ [] → filter p (filter q xs) ≡ []) → filter p (cond b (x ∷ filter q xs) (filter q xs)) ≡ []
    go true e b h again = cc
    go false e true h again = rw e (again h)
    go false e false h again = again h

map_none : (f : LiveRequest → LiveRequest) (rs : List LiveRequest) → rs ≡ [] → map f rs ≡ []
map_none f rs h = ap (map f) h

none_mapped : (f : LiveRequest → LiveRequest) (rs : List LiveRequest) → map f rs ≡ [] → rs ≡ []
none_mapped f [] h = refl
none_mapped f (r ∷ rs) h = cc

less_none : (p : LiveRequest → Bool) (rs : List LiveRequest) → rs ≡ [] → filter p rs ≡ []
less_none p rs h = ap (filter p) h

-- ---- No send is pending

is_receive : (ss : List Begun) (op : OpName) (s : Begun) → sending ss ≡ [] → find (is_of op) ss ≡ Some s → is_recv s.act ≡ true
is_receive [] op s h f = cc
is_receive (x ∷ ss) op s h f = go (is_of op x) (is_recv x.act) refl h f (is_receive ss op s)
  where
    go : (it r : Bool) → is_recv x.act ≡ r → cond (not r) (x ∷ sending ss) (sending ss) ≡ [] → cond it (Some x) (find (is_of op) ss) ≡ Some s → (sending ss ≡ [] → find (is_of op) ss ≡ Some s → is_recv s.act ≡ true) → is_recv s.act ≡ true
    go true true e h f again = let same : x ≡ s = cc in subst (λ (y : Begun). is_recv y.act ≡ true) same e
    go false true e h f again = again h f
    go it false e h f again = cc

sends_next : (e : Entry) (past : List Entry) → is_begin e ≡ false → sending (pend past) ≡ [] → sending (pend (e ∷ past)) ≡ []
sends_next (Begin op k c act d) past b h = cc
sends_next (End op ending) past b h = filter_none (λ s. not (is_recv s.act)) (λ s. not (is_of op s)) (pend past) h
sends_next _ past b h = h

-- ---- No request is live

end_none : (z : Setting) (ending : Ending) (o : Option Begun) (ss : List Begun) (rs : Requests) → rs.live ≡ [] → (after_end z ending o ss rs).live ≡ []
end_none z ending None ss rs h = h
end_none z (Won Sent) (Some s) ss rs h = h
end_none z (Won (Received m)) (Some s) ss rs h = go (is_req z.role)
  where
    go : (req : Bool) → (cond req (end_on (s.ctx ∷ []) how.Answered ss rs) (record rs { live = map (with_taken s.ctx) rs.live })).live ≡ []
    go true = less_none (λ r. not (has (s.ctx ∷ []) r.ctx)) rs.live h
    go false = map_none (with_taken s.ctx) rs.live h
end_none z (Gone cause by) (Some s) ss rs h = go (is_req z.role)
  where
    go : (req : Bool) → (cond req (end_on (s.ctx ∷ []) how.GivenUp ss rs) rs).live ≡ []
    go true = less_none (λ r. not (has (s.ctx ∷ []) r.ctx)) rs.live h
    go false = h

moment_none : (z : Setting) (t : ℕ) (ss : List Begun) (rs : Requests) → rs.live ≡ [] → (after_moment z t ss rs).live ≡ []
unfolding after_moment
moment_none z t ss rs h = go (is_req z.role)
  where
    go : (req : Bool) → (cond req rs (end_on (over_at z t rs) how.Over ss rs)).live ≡ []
    go true = h
    go false = less_none (λ r. not (has (over_at z t rs) r.ctx)) rs.live h

asked_next : (z : Setting) (e : Entry) (past : List Entry) → is_begin e ≡ false → (asked z past).live ≡ [] → (asked z (e ∷ past)).live ≡ []
asked_next z (Begin op k c act d) past b h = cc
asked_next z (End op ending) past b h = end_none z ending (of_live (asked z past) (pending past op)) (without_begun (pend past) op) (asked z past) h
asked_next z (Out p x) past b h = map_none (with_out (now past) p x) (asked z past).live h
asked_next z (Frame p x) past b h = map_none (with_frame z past p x) (asked z past).live h
asked_next z (Unkept p) (Frame q x ∷ past) b h = none_mapped (with_frame z past q x) (asked z past).live h
asked_next z (Ctx c Shut) past b h = less_none (λ r. not (has (c ∷ []) r.ctx)) (asked z past).live h
asked_next z (Tick t due) past b h = moment_none z t (pend past) (asked z past) h
asked_next z (Close totals) past b h = refl
asked_next z _ past b h = h

live_next : (z : Setting) (e : Entry) (past : List Entry) → is_begin e ≡ false → (requests z past).live ≡ [] → (requests z (e ∷ past)).live ≡ []
live_next z e past b h = go (has_requests z) h
  where
    go : (y : Bool) → (cond y (asked z past) no_requests).live ≡ [] → (cond y (asked z (e ∷ past)) no_requests).live ≡ []
    go true h = asked_next z e past b h
    go false h = refl

-- ---- So an Out would never be claimed

record Idle (z : Setting) (past : List Entry) : Type 0 where
  sends : sending (pend past) ≡ []
  live : (requests z past).live ≡ []

idle_next : (z : Setting) (e : Entry) (past : List Entry) → is_begin e ≡ false → Idle z past → Idle z (e ∷ past)
idle_next z e past b i = record { sends = sends_next e past b i.sends; live = live_next z e past b i.live }

no_resend : (z : Setting) (past : List Entry) (b : List ℕ) → (requests z past).live ≡ [] → is_resend z past b ≡ false
no_resend z past b h =
    subst (λ (rs : List LiveRequest). (resends z && list_any (λ r. is_due_again z past r && same_bytes (wire_of r) b) rs) ≡ false) (sym h) (none (resends z))
  where
    none : (a : Bool) → (a && false) ≡ false
    none true = refl
    none false = refl

owes : (z : Setting) (past : List Entry) (p : ℕ) (b : List ℕ) → (requests z past).live ≡ [] → unclaimed z (Out p b ∷ past) ≡ true
owes z past p b h = ap not (no_resend z past b h)

is_part : (a b : Bool) → a ≡ true → (not a || b) ≡ true → b ≡ true
is_part true b h k = k
is_part false b h k = cc

part_of : (z : Setting) (past : List Entry) (e : Entry) → unclaimed z past ≡ true → goes_on z past e ≡ true → is_part_of_send z e ≡ true
part_of z [] e u g = cc
part_of z (Unkept p ∷ past) e u g = cc
part_of z (_ ∷ past) e u g = is_part _ _ u g

both_true : (a b : Bool) → a ≡ true → b ≡ true → (a && b) ≡ true
both_true true b h k = k
both_true false b h k = cc

owes_next : (z : Setting) (k : ℕ) (past : List Entry) (e : Entry) → is_begin e ≡ false → Idle z past → unclaimed z past ≡ true → Allowed z k past e → unclaimed z (e ∷ past) ≡ true
owes_next z k past (Begin op n c act d) b i u a = cc
owes_next z k past (Out q x) b i u a = owes z past q x i.live
owes_next z k past (Full q) b i u a = both_true (floods z.role) (unclaimed z past) (part_of z past (Full q) u a.goes_on) u
owes_next z k past (Down q why) b i u a = both_true (floods z.role) (unclaimed z past) (part_of z past (Down q why) u a.goes_on) u
owes_next z k past (End op (Won Sent)) b i u a =
    let found = has_value (pending past op) (MayEndAs z past (Won Sent)) a.itself in
    let receives : is_recv found.0.act ≡ true = is_receive (pend past) op found.0 i.sends found.1 in
    let no : true ≡ false = sym (rw receives at found.2.0) in cc
owes_next z k past e b i u a = let no : false ≡ true = part_of z past e u a.goes_on in cc

all_owe : (z : Setting) (k : ℕ) (past es : List Entry) → none_of is_begin es ≡ true → Idle z past → unclaimed z past ≡ true → Follows z k past es → unclaimed z (onto es past) ≡ true
all_owe z k past [] n i u f = u
all_owe z k past (e ∷ es) n i u f =
    let b = none_first is_begin e es n in
    all_owe z k (e ∷ past) es (none_rest is_begin e es n) (idle_next z e past b i) (owes_next z k past e b i u f.0) f.1

none_out : (z : Setting) (k : ℕ) (past es : List Entry) → none_of is_begin es ≡ true → Idle z past → Follows z k past es → unclaimed z (onto es past) ≡ false → none_of is_out es ≡ true
none_out z k past [] n i f e = refl
none_out z k past (Out p b ∷ es) n i f e =
    let next = idle_next z (Out p b) past refl i in
    let no : true ≡ false = sym (all_owe z k (Out p b ∷ past) es (none_rest is_begin (Out p b) es n) next (owes z past p b i.live) f.1) ∙ e in cc
none_out z k past (d ∷ es) n i f e =
    none_out z k (d ∷ past) es (none_rest is_begin d es n) (idle_next z d past (none_first is_begin d es n) i) f.1 e

pub nothing_out : (z : Setting) (past : List Entry) (t : Turn Entry) → LegalTurn z past t → sending (pend past) ≡ [] → (requests z past).live ≡ [] → none_of is_begin t.entries ≡ true → none_of is_out t.entries ≡ true
nothing_out z past t l s r n = none_out z t.number past t.entries n (record { sends = s; live = r }) l.entries l.whole.calm.outs_claimed
