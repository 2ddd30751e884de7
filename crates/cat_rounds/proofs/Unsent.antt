-- Where no send is pending and no request is live, nothing goes out until something is begun.
use Rattle.std.proofs.Common.{◌≡◌, refl, ap, sym, ◌∙◌, inl, inr, List, [], ◌∷◌, ℕ, Bool, true, false, cond, Option, Some, None}
use Rattle.std.specs.Prelude.{filter, find, map, not, ◌&&◌, ◌||◌, ◌⊎◌, if◌then◌else◌}
use Rattle.sp_base.specs.declared.OpName.{OpName}
use Rattle.turn_lock.specs.declared.turn.Turn.{Turn}
use Rattle.sp_history.specs.declared.entry.Completion.TheVariants.{Received, Sent}
use Rattle.sp_history.specs.declared.entry.Ending.{Ending}
use Rattle.sp_history.specs.declared.entry.Ending.TheVariants.{Won, Gone}
use Rattle.sp_history.specs.declared.entry.ContextChange.TheVariants.{Shut}
use Rattle.sp_history.specs.declared.entry.Entry.{Entry}
use Rattle.sp_history.specs.declared.entry.Entry.TheVariants.{Begin, End, Frame, Out, Full, Down, Unkept, Tick, Ctx, Close}
use Rattle.sp_history.specs.declared.parts.Begun.{Begun}
use Rattle.sp_history.specs.declared.parts.LiveRequest.{LiveRequest}
use Rattle.sp_history.specs.declared.parts.Requests.{Requests}
use Rattle.sp_history.specs.declared.parts.How.TheVariants as how
use Rattle.sp_history.specs.declared.setting.Setting.{Setting}
use Rattle.sp_history.specs.Setting.{is_req, floods, resends, has_requests}
use Rattle.sp_history.specs.Changes.{none_of}
use Rattle.sp_history.specs.Lists.{has}
use Rattle.sp_history.specs.Past.{is_of, onto, pend, pending, now, without_begun}
use Rattle.sp_history.specs.Requests.{no_requests, with_out, with_frame, with_taken, of_live, after_end, after_moment, over_at, end_on, asked, requests}
use Rattle.sp_history.specs.Sends.{unclaimed}
use Rattle.sp_history.specs.Legal.{is_recv, sending, Allowed, MayEndAs, goes_on, is_part_of_send, Follows, LegalTurn}
use Rattle.sp_history.specs.Found.{is_begin, is_out}
use Rattle.sp_history.proofs.OnceHolds.{has_value}
use Rattle.sp_history.proofs.Surveys.{none_first, none_rest}

-- ---- No request is live until one is begun

map_none : {A B : Type 0} (f : A → B) (xs : List A) → map f xs ≡ [] → xs ≡ []
map_none f [] h = refl
map_none f (x ∷ xs) h = cc

either_none : (b : Bool) (xs ys : List LiveRequest) → xs ≡ [] → ys ≡ [] → (if b then xs else ys) ≡ []
either_none true xs ys h k = h
either_none false xs ys h k = k

end_none : (z : Setting) (ending : Ending) (s : Option Begun) (ss : List Begun) (rs : Requests) → rs.live ≡ [] → (after_end z ending s ss rs).live ≡ []
end_none z ending None ss rs h = h
end_none z (Won Sent) (Some s) ss rs h = h
end_none z (Won (Received m)) (Some s) ss rs h = go (is_req z.role)
  where
    go : (b : Bool) → (if b then end_on (s.ctx ∷ []) how.Answered ss rs else record rs { live = map (with_taken s.ctx) rs.live }).live ≡ []
    go true = ap (λ (xs : List LiveRequest). filter (λ r. not (has (s.ctx ∷ []) r.ctx)) xs) h
    go false = ap (λ (xs : List LiveRequest). map (with_taken s.ctx) xs) h
end_none z (Gone cause by) (Some s) ss rs h = go (is_req z.role)
  where
    go : (b : Bool) → (if b then end_on (s.ctx ∷ []) how.GivenUp ss rs else rs).live ≡ []
    go true = ap (λ (xs : List LiveRequest). filter (λ r. not (has (s.ctx ∷ []) r.ctx)) xs) h
    go false = h

moment_none : (z : Setting) (t : ℕ) (ss : List Begun) (rs : Requests) → rs.live ≡ [] → (after_moment z t ss rs).live ≡ []
unfolding after_moment
moment_none z t ss rs h = go (is_req z.role)
  where
    go : (b : Bool) → (if b then rs else end_on (over_at z t rs) how.Over ss rs).live ≡ []
    go true = h
    go false = ap (λ (xs : List LiveRequest). filter (λ r. not (has (over_at z t rs) r.ctx)) xs) h

pub asked_none : (z : Setting) (e : Entry) (past : List Entry) → is_begin e ≡ false → (asked z past).live ≡ [] → (asked z (e ∷ past)).live ≡ []
asked_none z (Begin op k c act d) past b h = cc
asked_none z (End op ending) past b h =
    end_none z ending (of_live (asked z past) (pending past op)) (without_begun (pend past) op) (asked z past) h
asked_none z (Out p x) past b h = ap (λ (xs : List LiveRequest). map (with_out (now past) p x) xs) h
asked_none z (Unkept p) (Frame q x ∷ past) b h = map_none (with_frame z past q x) (asked z past).live h
asked_none z (Frame p x) past b h = ap (λ (xs : List LiveRequest). map (with_frame z past p x) xs) h
asked_none z (Ctx c Shut) past b h = ap (λ (xs : List LiveRequest). filter (λ r. not (has (c ∷ []) r.ctx)) xs) h
asked_none z (Tick t due) past b h = moment_none z t (pend past) (asked z past) h
asked_none z (Close totals) past b h = refl
asked_none z _ past b h = h

requests_none : (z : Setting) (e : Entry) (past : List Entry) → is_begin e ≡ false → (requests z past).live ≡ [] → (requests z (e ∷ past)).live ≡ []
requests_none z e past b h = go (has_requests z) h
  where
    go : (y : Bool) → (if y then asked z past else no_requests).live ≡ [] → (if y then asked z (e ∷ past) else no_requests).live ≡ []
    go true k = asked_none z e past b k
    go false k = refl

-- ---- Sockets that send nothing again

-- the role sends nothing again, or no request is live
abbrev pub IsSilent : Setting → List Entry → Type 0
IsSilent z past = (resends z ≡ false) ⊎ ((requests z past).live ≡ [])

silent_next : (z : Setting) (e : Entry) (past : List Entry) → is_begin e ≡ false → IsSilent z past → IsSilent z (e ∷ past)
silent_next z e past b (inl never) = inl never
silent_next z e past b (inr none) = inr (requests_none z e past b none)

-- only a req sends again
pub sends_once : (z : Setting) → is_req z.role ≡ false → resends z ≡ false
sends_once z other = rw other refl

filter_none : {A : Type 0} (p q : A → Bool) (xs : List A) → filter p xs ≡ [] → filter p (filter q xs) ≡ []
filter_none p q [] h = refl
filter_none p q (x ∷ xs) h = go (p x) refl (q x) h (filter_none p q xs)
  where
    go : (a : Bool) → p x ≡ a → (b : Bool) → cond a (x ∷ filter p xs) (filter p xs) ≡ [] → (filter p xs ≡ [] → filter p (filter q xs) ≡ []) → filter p (cond b (x ∷ filter q xs) (filter q xs)) ≡ []
    go true e b h again = cc
    go false e true h again = rw e (again h)
    go false e false h again = again h

-- no send is pending
sends_next : (e : Entry) (past : List Entry) → is_begin e ≡ false → sending (pend past) ≡ [] → sending (pend (e ∷ past)) ≡ []
sends_next (Begin op k c act d) past b h = cc
sends_next (End op ending) past b h = filter_none (λ s. not (is_recv s.act)) (λ s. not (is_of op s)) (pend past) h
sends_next _ past b h = h

is_receive : (ss : List Begun) (op : OpName) (s : Begun) → sending ss ≡ [] → find (is_of op) ss ≡ Some s → is_recv s.act ≡ true
is_receive [] op s h f = cc
is_receive (x ∷ ss) op s h f = go (is_of op x) (is_recv x.act) refl h f (is_receive ss op s)
  where
    go : (it r : Bool) → is_recv x.act ≡ r → cond (not r) (x ∷ sending ss) (sending ss) ≡ [] → cond it (Some x) (find (is_of op) ss) ≡ Some s → (sending ss ≡ [] → find (is_of op) ss ≡ Some s → is_recv s.act ≡ true) → is_recv s.act ≡ true
    go true true e h f again = let same : x ≡ s = cc in rw⁻¹ same e
    go false true e h f again = again h f
    go it false e h f again = cc

not_both : (a : Bool) → not (a && false) ≡ true
not_both true = refl
not_both false = refl

-- so an Out would never be claimed
owes : (z : Setting) (past : List Entry) (p : ℕ) (b : List ℕ) → IsSilent z past → unclaimed z (Out p b ∷ past) ≡ true
owes z past p b (inl never) = rw never refl
owes z past p b (inr none) = rw none (not_both (resends z))

is_part : (a b : Bool) → a ≡ true → (not a || b) ≡ true → b ≡ true
is_part true b h k = k
is_part false b h k = cc

part_of : (z : Setting) (past : List Entry) (e : Entry) → unclaimed z past ≡ true → goes_on z past e ≡ true → is_part_of_send z e ≡ true
part_of z [] e u g = cc
part_of z (Unkept p ∷ past) e u g = cc
part_of z (_ ∷ past) e u g = is_part _ _ u g

both_true : (a b : Bool) → a ≡ true → b ≡ true → (a && b) ≡ true
both_true true b h k = k
both_true false b h k = cc

owes_next : (z : Setting) (k : ℕ) (past : List Entry) (e : Entry) → is_begin e ≡ false → IsSilent z past → sending (pend past) ≡ [] → unclaimed z past ≡ true → Allowed z k past e → unclaimed z (e ∷ past) ≡ true
owes_next z k past (Begin op n c act d) b i s u a = cc
owes_next z k past (Out q x) b i s u a = owes z past q x i
owes_next z k past (Full q) b i s u a = both_true (floods z.role) (unclaimed z past) (part_of z past (Full q) u a.goes_on) u
owes_next z k past (Down q why) b i s u a = both_true (floods z.role) (unclaimed z past) (part_of z past (Down q why) u a.goes_on) u
owes_next z k past (End op (Won Sent)) b i s u a =
    let found = has_value (pending past op) (MayEndAs z past (Won Sent)) a.itself in
    let receives : is_recv found.0.act ≡ true = is_receive (pend past) op found.0 s found.1 in
    let no : true ≡ false = sym (rw receives at found.2.0) in cc
owes_next z k past e b i s u a = let no : false ≡ true = part_of z past e u a.goes_on in cc

all_owe : (z : Setting) (k : ℕ) (past es : List Entry) → none_of is_begin es ≡ true → IsSilent z past → sending (pend past) ≡ [] → unclaimed z past ≡ true → Follows z k past es → unclaimed z (onto es past) ≡ true
all_owe z k past [] n i s u f = u
all_owe z k past (e ∷ es) n i s u f =
    let b = none_first is_begin e es n in
    all_owe z k (e ∷ past) es (none_rest is_begin e es n) (silent_next z e past b i) (sends_next e past b s) (owes_next z k past e b i s u f.0) f.1

none_out : (z : Setting) (k : ℕ) (past es : List Entry) → none_of is_begin es ≡ true → IsSilent z past → sending (pend past) ≡ [] → Follows z k past es → unclaimed z (onto es past) ≡ false → none_of is_out es ≡ true
none_out z k past [] n i s f e = refl
none_out z k past (Out p b ∷ es) n i s f e =
    let no : true ≡ false = sym (all_owe z k (Out p b ∷ past) es (none_rest is_begin (Out p b) es n) (silent_next z (Out p b) past refl i) s (owes z past p b i) f.1) ∙ e in cc
none_out z k past (d ∷ es) n i s f e =
    let b = none_first is_begin d es n in
    none_out z k (d ∷ past) es (none_rest is_begin d es n) (silent_next z d past b i) (sends_next d past b s) f.1 e

pub nothing_sent : (z : Setting) (past : List Entry) (t : Turn Entry) → LegalTurn z past t → sending (pend past) ≡ [] → IsSilent z past → none_of is_begin t.entries ≡ true → none_of is_out t.entries ≡ true
nothing_sent z past t l s i n = none_out z t.number past t.entries n i s l.entries l.whole.calm.outs_claimed
