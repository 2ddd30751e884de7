-- No frame comes while a receive waits that could be given something.
use Rattle.std.proofs.Common.{◌≡◌, refl, ap, sym, ◌∙◌, subst, List, [], ◌∷◌, ◌++◌, ℕ, Bool, true, false, cond, inl, inr, Some, None, map, ◌&&◌}
use Rattle.std.specs.Prelude.{not, ◌||◌, ◌⊎◌, IsTrue, Option, filter, find}
use Rattle.std.specs.List.{list_all}
use Rattle.turn_lock.specs.declared.turn.Turn.{Turn}
use Rattle.sp_base.specs.Roles.{can_send}
use Rattle.sp_base.specs.declared.OpName.{OpName}
use Rattle.sp_base.specs.declared.role.Role.{Role}
use Rattle.sp_base.specs.declared.role.Role.TheVariants.{Sub, Surveyor, Bus}
use Rattle.sp_msg.specs.Views.{WireView}
use Rattle.sp_history.specs.declared.entry.RecordedAct.{RecordedAct}
use Rattle.sp_history.specs.declared.entry.RecordedAct.TheVariants.{Recv, Send}
use Rattle.sp_history.specs.declared.entry.Cause.{Cause}
use Rattle.sp_history.specs.declared.entry.Cause.TheVariants.{Superseded, SurveyOver}
use Rattle.sp_history.specs.declared.entry.Entry.{Entry}
use Rattle.sp_history.specs.declared.entry.Entry.TheVariants.{Begin, End, Frame, Unkept, Down, Dry, Out, Full}
use Rattle.sp_history.specs.declared.entry.Ending.{Ending}
use Rattle.sp_history.specs.declared.entry.Ending.TheVariants.{Won, Gone}
use Rattle.sp_history.specs.declared.entry.Completion.TheVariants.{Received, Sent}
use Rattle.sp_history.specs.declared.entry.Why.{Why}
use Rattle.sp_history.specs.declared.parts.Begun.{Begun}
use Rattle.sp_history.specs.declared.parts.Item.{Item}
use Rattle.sp_history.specs.declared.parts.LiveRequest.{LiveRequest}
use Rattle.sp_history.specs.declared.parts.Requests.{Requests}
use Rattle.sp_history.specs.declared.setting.Setting.{Setting}
use Rattle.sp_history.specs.Frames.{malformed}
use Rattle.sp_history.specs.Kept.{kept, pool, pool_of, replies_of}
use Rattle.sp_history.specs.Legal.{Allowed, MayGo, does, is_recv, sending}
use Rattle.sp_history.specs.Lists.{has, is_nil}
use Rattle.sp_history.specs.Moments.{Moment, past, also, next, Lawful}
use Rattle.sp_history.specs.Past.{onto, past_from, pend, is_of, without_begun, pending}
use Rattle.sp_history.specs.Requests.{requests, no_requests, asked, after_end, change_live, with_frame, without_orphan, of_live, how_ended, is_on}
use Rattle.sp_history.specs.Sends.{targets_of}
use Rattle.sp_history.specs.Setting.{floods, has_requests, is_req, is_sub}
use Rattle.sp_history.specs.Settled.{SettledFrom, receive_settled}
use Rattle.sp_proto.specs.Machines.{IsOffered, NoFlood}
use Rattle.sp_proto.specs.declared.Offer.{Offer}
use Rattle.sp_proto.specs.declared.Offer.TheVariants as offer
use Rattle.core_state.proofs.Lawfuls.{by_steps}
use Rattle.sp_core.specs.declared.owner.Core.{Core}
use Rattle.sp_core.specs.Moving.{AreSettling, Later, with_entries}
use Rattle.sp_core.specs.Serving.{AreEnds, HasOnlyEnded, IsMore}
use Rattle.sp_core.specs.Standing.{StandsFor}
use Rattle.sp_core.specs.Waiting.{discards, NoneWaits, FindNoneWaiting, FoundNoneWaiting, OnlyReceives, HasNoneWaiting, GivesAll, HasGivenFirst}
use Rattle.sp_core.proofs.TurnEnds.{stands_calm, next_lawful}

-- ---- Lists

filter_none : {A : Type 0} (f g : A → Bool) (xs : List A) → filter f xs ≡ [] → filter f (filter g xs) ≡ []
filter_none f g [] h = refl
filter_none f g (x ∷ xs) h = go (g x) (f x) refl h (filter_none f g xs)
  where
    go : (y i : Bool) → f x ≡ i → cond i (x ∷ filter f xs) (filter f xs) ≡ [] → (filter f xs ≡ [] → filter f (filter g xs) ≡ []) → filter f (cond y (x ∷ filter g xs) (filter g xs)) ≡ []
    go y true e h again = cc
    go true false e h again = rw e (again h)
    go false false e h again = again h

filter_last : {A : Type 0} (f : A → Bool) (xs : List A) (x : A) → f x ≡ false → filter f xs ≡ [] → filter f (xs ++ x ∷ []) ≡ []
filter_last f [] x e h = rw e refl
filter_last f (y ∷ xs) x e h = go (f y) h (filter_last f xs x e)
  where
    go : (i : Bool) → cond i (y ∷ filter f xs) (filter f xs) ≡ [] → (filter f xs ≡ [] → filter f (xs ++ x ∷ []) ≡ []) → cond i (y ∷ filter f (xs ++ x ∷ [])) (filter f (xs ++ x ∷ [])) ≡ []
    go true h again = cc
    go false h again = again h

all_same : (f g : Begun → Bool) → ((s : Begun) → f s ≡ g s) → (ss : List Begun) → list_all f ss ≡ list_all g ss
all_same f g e [] = refl
all_same f g e (s ∷ ss) = ap (λ (b : Bool). b && list_all f ss) (e s) ∙ ap (λ (b : Bool). g s && b) (all_same f g e ss)

map_same : (f : LiveRequest → LiveRequest) → ((r : LiveRequest) → f r ≡ r) → (rs : List LiveRequest) → map f rs ≡ rs
map_same f e [] = refl
map_same f e (r ∷ rs) = ap (λ (x : LiveRequest). x ∷ map f rs) (e r) ∙ ap (λ (xs : List LiveRequest). r ∷ xs) (map_same f e rs)

-- ---- Frames that leave nothing, and pipes that go down

abbrev AllDone : Setting → List Entry → Type 0
AllDone z before = OnlyReceives z before × NoneWaits z before

down_for : (z : Setting) (r : Role) (raw : Bool) (before : List Entry) (p : ℕ) (why : Why) → IsTrue (discards r) → AllDone (record z { role = r; raw = raw }) before → AllDone (record z { role = r; raw = raw }) (Down p why ∷ before)
down_for z Sub raw before p why d h = h
down_for z Surveyor raw before p why d h = h
down_for z Bus raw before p why d h = h
down_for z _ raw before p why d h = absurd cc

pub given_down : (t : Moment) (p : ℕ) (why : Why) → HasGivenFirst t → HasGivenFirst (also t (Down p why))
given_down t p why g = λ d.
    let k = g d in
    let n = down_for t.z t.z.role t.z.raw (past t) p why d (k.0, k.1) in
    (n.0, n.1, k.2)

frame_orphans : (z : Setting) (before : List Entry) (p : ℕ) (b : List ℕ) → (requests z before).orphans ≡ [] → (requests z (Frame p b ∷ before)).orphans ≡ []
frame_orphans z before p b h = go (has_requests z) h
  where
    go : (r : Bool) → (cond r (asked z before) no_requests).orphans ≡ [] → (cond r (change_live (with_frame z before p b) (asked z before)) no_requests).orphans ≡ []
    go true h = h
    go false h = h

asked_same : (z : Setting) (before : List Entry) (p : ℕ) (b : List ℕ) → malformed z before p b ≡ true → asked z (Frame p b ∷ before) ≡ asked z before
asked_same z before p b m = ap (λ (live : List LiveRequest). let x : Requests = record (asked z before) { live = live } in x) (map_same (with_frame z before p b) one (asked z before).live)
  where
    one : (r : LiveRequest) → with_frame z before p b r ≡ r
    one r = rw m refl

kept_same : (z : Setting) (before : List Entry) (p : ℕ) (b : List ℕ) (c : ℕ) → malformed z before p b ≡ true → kept z (Frame p b ∷ before) c ≡ kept z before c
kept_same z before p b c m =
    ap (λ (rs : Requests). cond (has_requests z) (replies_of (find (is_on c) (cond (has_requests z) rs no_requests).live)) (pool z (Frame p b ∷ before) (pool_of z c))) (asked_same z before p b m)
    ∙ ap (λ (items : List Item). cond (has_requests z) (replies_of (find (is_on c) (cond (has_requests z) (asked z before) no_requests).live)) items) pools
  where
    pools : pool z (Frame p b ∷ before) (pool_of z c) ≡ pool z before (pool_of z c)
    pools = rw m refl

malformed_done : (z : Setting) (before : List Entry) (p : ℕ) (b : List ℕ) → malformed z before p b ≡ true → AllDone z before → AllDone z (Frame p b ∷ before)
malformed_done z before p b m h =
    ((h.0.0, frame_orphans z before p b h.0.1), all_same (receive_settled z (Frame p b ∷ before)) (receive_settled z before) (λ s. ap (λ (items : List Item). not (is_recv s.act) || is_nil items) (kept_same z before p b s.ctx m)) (pend before) ∙ h.1)

pub given_malformed : (t : Moment) (p : ℕ) (b : List ℕ) (why : Why) → malformed t.z (past t) p b ≡ true → HasGivenFirst t → HasGivenFirst (also (also t (Frame p b)) (Down p why))
given_malformed t p b why m g = λ d.
    let k = g d in
    let n = down_for t.z t.z.role t.z.raw (Frame p b ∷ past t) p why d (malformed_done t.z (past t) p b m (k.0, k.1)) in
    (n.0, n.1, (k.1, k.2))

pub given_unkept : (t : Moment) (p : ℕ) (b : List ℕ) (why : Why) → HasGivenFirst t → HasGivenFirst (also (also (also t (Frame p b)) (Unkept p)) (Down p why))
given_unkept t p b why g = λ d.
    let k = g d in
    let n = down_for t.z t.z.role t.z.raw (Unkept p ∷ Frame p b ∷ past t) p why d (k.0, k.1) in
    (n.0, n.1, (k.1, k.2))

-- ---- Receives that end

orphans_after : (z : Setting) (e : Ending) (o : Option Begun) (ss : List Begun) (rs : Requests) → is_req z.role ≡ false → rs.orphans ≡ [] → (after_end z e o ss rs).orphans ≡ []
orphans_after z e None ss rs q h = h
orphans_after z (Won Sent) (Some s) ss rs q h = h
orphans_after z (Won (Received m)) (Some s) ss rs q h = rw q h
orphans_after z (Gone cause by) (Some s) ss rs q h = rw q h

orphans_for : (z : Setting) (r : Role) (raw : Bool) (before : List Entry) (op : OpName) (e : Ending) → IsTrue (discards r) → (requests (record z { role = r; raw = raw }) before).orphans ≡ [] → (requests (record z { role = r; raw = raw }) (End op e ∷ before)).orphans ≡ []
orphans_for z Sub raw before op e d h = h
orphans_for z Bus raw before op e d h = h
orphans_for z Surveyor true before op e d h = h
orphans_for z Surveyor false before op e d h =
    let y : Setting = record z { role = Surveyor; raw = false } in
    without op (after_end y e (of_live (asked y before) (pending before op)) (without_begun (pend before) op) (asked y before)) (orphans_after y e (of_live (asked y before) (pending before op)) (without_begun (pend before) op) (asked y before) refl h)
  where
    without : (op : OpName) (rs : Requests) → rs.orphans ≡ [] → (without_orphan op rs).orphans ≡ []
    without op rs h = rw h refl
orphans_for z _ raw before op e d h = absurd cc

end_only : (z : Setting) (before : List Entry) (op : OpName) (e : Ending) → IsTrue (discards z.role) → OnlyReceives z before → OnlyReceives z (End op e ∷ before)
end_only z before op e d h = (filter_none (λ s. not (is_recv s.act)) (λ s. not (is_of op s)) (pend before) h.0, orphans_for z z.role z.raw before op e d h.1)

all_only : (t : Moment) (es : List Entry) → AreEnds es → IsTrue (discards t.z.role) → OnlyReceives t.z (past t) → OnlyReceives t.z (past (with_entries t es))
all_only t [] h d k = k
all_only t (End op e ∷ es) h d k = end_only t.z (past (with_entries t es)) op e d (all_only t es h d k)
all_only t (_ ∷ es) h d k = absurd h

-- ---- What an offer says

is_receive : (ss : List Begun) (op : OpName) (s : Begun) → sending ss ≡ [] → find (is_of op) ss ≡ Some s → is_recv s.act ≡ true
is_receive [] op s h f = cc
is_receive (x ∷ ss) op s h f = go (is_of op x) (is_recv x.act) refl h f (is_receive ss op s)
  where
    go : (it r : Bool) → is_recv x.act ≡ r → cond (not r) (x ∷ sending ss) (sending ss) ≡ [] → cond it (Some x) (find (is_of op) ss) ≡ Some s → (sending ss ≡ [] → find (is_of op) ss ≡ Some s → is_recv s.act ≡ true) → is_recv s.act ≡ true
    go true true e h f again = let same : x ≡ s = cc in subst (λ (y : Begun). is_recv y.act ≡ true) same e
    go false true e h f again = again h f
    go it false e h f again = cc

no_target : (z : Setting) (before : List Entry) (op : OpName) (act : RecordedAct) (p : ℕ) → is_recv act ≡ true → has (targets_of z before op act) p ≡ true → ⊥
no_target z before op Recv p r h = cc
no_target z before op (Send m) p r h = cc

no_finish : (z : Setting) (before : List Entry) (s : Begun) (cause : Cause) → (requests z before).orphans ≡ [] → (cause ≡ Superseded) ⊎ (cause ≡ SurveyOver) → MayGo z before s cause 0 → ⊥
no_finish z before s cause h (inl e) m =
    let none : how_ended z before s.op ≡ None = rw h refl in
    let k = subst (λ (c : Cause). MayGo z before s c 0) e m in
    let over = k.1 in
    cc
no_finish z before s cause h (inr e) m =
    let none : how_ended z before s.op ≡ None = rw h refl in
    let k = subst (λ (c : Cause). MayGo z before s c 0) e m in
    let over = k.2 in
    cc

not_req : (r : Role) (raw : Bool) → IsTrue (discards r) → (is_req r && not raw) ≡ false
not_req Sub raw d = refl
not_req Surveyor raw d = refl
not_req Bus raw d = refl
not_req _ raw d = absurd cc

-- an offer of another kind says that none waits
pub none_left : (t : Moment) (r : Offer) → ((op : OpName) → r ≡ offer.Give op → ⊥) → IsOffered r t → HasNoneWaiting t
none_left t offer.Idle n i d h = i.settled.receives
none_left t (offer.Give op) n i d h = absurd (n op refl)
none_left t (offer.Send op p) n (s, b, k) d h = absurd (no_target t.z (past t) s.op s.act p (is_receive (pend (past t)) op s h.0 k.pending) k.target)
none_left t (offer.Flood op) n (s, b, k) d h =
    let is = is_receive (pend (past t)) op s h.0 k.pending in
    let no = k.is_send in
    absurd cc
none_left t (offer.Drop op) n (s, k) d h =
    let is = is_receive (pend (past t)) op s h.0 k.pending in
    let no = k.is_send in
    absurd cc
none_left t (offer.Finish op cause) n (s, k) d h = absurd (no_finish t.z (past t) s cause h.1 k.is_finish k.may)
none_left t (offer.Again c p) n (r, k) d h =
    let no = not_req t.z.role t.z.raw d in
    let is = k.sends_again in
    absurd cc

-- none waits after the gives
pub last_given : (t u : Moment) → HasOnlyEnded t u → HasNoneWaiting u → GivesAll t u
last_given t u l n = subst (λ (x : Moment). HasNoneWaiting x → GivesAll t x) (sym l.2) (λ n d h. let k = all_only t l.0 l.1 d h in (k, n d k)) n

-- ---- A frame, and the ends after it

-- the frame is the last that came, and its effects are recorded
abbrev IsFramed : Moment → Type 0
IsFramed t = IsTrue (discards t.z.role) → OnlyReceives t.z (past t) × FoundNoneWaiting t.z t.before t.turn

frame_given : (t : Moment) (p : ℕ) (b : List ℕ) → HasGivenFirst t → IsFramed (also t (Frame p b))
frame_given t p b g = λ d. let k = g d in ((k.0.0, frame_orphans t.z (past t) p b k.0.1), (k.1, k.2))

found_ended : (z : Setting) (before turn es : List Entry) → AreEnds es → FoundNoneWaiting z before turn → FoundNoneWaiting z before (es ++ turn)
found_ended z before turn [] h k = k
found_ended z before turn (End op e ∷ es) h k = found_ended z before turn es h k
found_ended z before turn (_ ∷ es) h k = absurd h

ends_given : (t u : Moment) → HasOnlyEnded t u → GivesAll t u → IsFramed t → HasGivenFirst u
ends_given t u l = subst (λ (x : Moment). GivesAll t x → IsFramed t → HasGivenFirst x) (sym l.2) (λ n g d. let k = g d in let m = n d k.0 in (m.0, m.1, found_ended t.z t.before t.turn l.0 l.1 k.1))

pub given_more : (t u v : Moment) (p : ℕ) → IsMore p t u → HasOnlyEnded u v → GivesAll u v → HasGivenFirst t → HasGivenFirst v
given_more t u v p m l n g = ends_given u v l n framed
  where
    framed : IsFramed u
    framed = elim m.1 [
      | inl e ↦ subst IsFramed (sym e) (frame_given t p m.0 g)
      | inr d ↦ subst IsFramed (sym d.2) (frame_given t p m.0 g)
    ]

-- ---- The turn begins

sub_or_floods : (r : Role) → IsTrue (discards r) → (is_sub r ≡ true) ⊎ (floods r ≡ true)
sub_or_floods Sub d = inl refl
sub_or_floods Surveyor d = inr refl
sub_or_floods Bus d = inr refl
sub_or_floods _ d = absurd cc

sends_not : (r : Role) → is_sub r ≡ true → can_send r ≡ true → ⊥
sends_not Sub s c = cc
sends_not _ s c = cc

sub_begins : (z : Setting) (before : List Entry) (op : OpName) (c : ℕ) (act : RecordedAct) → is_sub z.role ≡ true → does z.role act ≡ true → sending (pend before) ≡ [] → sending (pend before ++ record { op = op; ctx = c; act = act } ∷ []) ≡ []
sub_begins z before op c Recv s d h = filter_last (λ s. not (is_recv s.act)) (pend before) (record { op = op; ctx = c; act = Recv }) refl h
sub_begins z before op c (Send m) s d h = absurd (sends_not z.role s d)

sub_next : (z : Setting) (k : ℕ) (before : List Entry) (e : Entry) → is_sub z.role ≡ true → sending (pend before) ≡ [] → Allowed z k before e → sending (pend (e ∷ before)) ≡ []
sub_next z k before (Begin op caller c act deadline) s h a = sub_begins z before op c act s a.itself.role_does h
sub_next z k before (End op e) s h a = filter_none (λ s. not (is_recv s.act)) (λ s. not (is_of op s)) (pend before) h
sub_next z k before _ s h a = h

no_sends : (t : Moment) → Lawful t → NoFlood t → IsTrue (discards t.z.role) → sending (pend (past t)) ≡ []
no_sends t l n d = elim (sub_or_floods t.z.role d) [
  | inl s ↦ by_steps t (λ before. sending (pend before) ≡ []) refl (λ k before e h a. sub_next t.z k before e s h a) l
  | inr f ↦ n f
]

settled_left : (z : Setting) (before : List Entry) (h : List (Turn Entry)) → SettledFrom z before h → ((requests z before).orphans ≡ []) × NoneWaits z before → ((requests z (past_from before h)).orphans ≡ []) × NoneWaits z (past_from before h)
settled_left z before [] s k = k
settled_left z before (t ∷ h) s k = settled_left z (onto t.entries before) h s.1 (s.0.finished, s.0.receives)

none_asked : (z : Setting) → (requests z []).orphans ≡ []
none_asked z = go (has_requests z)
  where
    go : (r : Bool) → (cond r no_requests no_requests).orphans ≡ []
    go true = refl
    go false = refl

pub begins_given : {P W : Type 0} (ties : P → Moment → Type 0) (room : P → ℕ) (shown : W → WireView) (c : Core P W) (h : List (Turn Entry)) (k : ℕ) (s : StandsFor ties room shown c h) → HasGivenFirst (next s.at k)
begins_given ties room shown c h k s = λ d.
    let left = settled_left s.at.z [] h s.settled (none_asked s.at.z, refl) in
    let at = subst (λ (before : List Entry). ((requests s.at.z before).orphans ≡ []) × NoneWaits s.at.z before) (sym s.past_is) left in
    ((no_sends (next s.at k) (next_lawful ties room shown c h k s) (stands_calm ties room shown c h k s) d, at.0), at.1, tt)

-- ---- The turn ends

found_later : (z : Setting) (before turn es : List Entry) → AreSettling es → FoundNoneWaiting z before turn → FoundNoneWaiting z before (es ++ turn)
found_later z before turn [] h k = k
found_later z before turn (Down p why ∷ es) h k = found_later z before turn es h.1 k
found_later z before turn (Out p b ∷ es) h k = found_later z before turn es h.1 k
found_later z before turn (Full p ∷ es) h k = found_later z before turn es h.1 k
found_later z before turn (End op e ∷ es) h k = found_later z before turn es h.1 k
found_later z before turn (Dry c ∷ es) h k = found_later z before turn es h.1 k
found_later z before turn (_ ∷ es) h k = absurd h.0

found_onto : (z : Setting) (before turn acc : List Entry) → FoundNoneWaiting z before turn → FindNoneWaiting z (turn ++ before) acc → FindNoneWaiting z before (onto turn acc)
found_onto z before [] acc h k = k
found_onto z before (Frame p b ∷ turn) acc h k = found_onto z before turn (Frame p b ∷ acc) h.1 (h.0, k)
found_onto z before (e ∷ turn) acc h k = found_onto z before turn (e ∷ acc) h k

pub found_all : (t u : Moment) → HasGivenFirst t → Later t u → IsTrue (discards t.z.role) → FindNoneWaiting t.z t.before (onto u.turn [])
found_all t u g l d =
    subst (λ (x : Moment). FindNoneWaiting t.z t.before (onto x.turn [])) (sym l.2) (found_onto t.z t.before (l.0 ++ t.turn) [] (found_later t.z t.before t.turn l.0 l.1 (g d).2) tt)
