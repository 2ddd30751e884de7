-- When the play of a req is over, no request of it is live: it was answered or given up.
use Rattle.std.proofs.Common.{◌≡◌, refl, ap, sym, ◌∙◌, subst, arith, List, [], ◌∷◌, ◌++◌, ℕ, Bool, true, false, cond, Option, Some, None}
use Rattle.std.specs.Prelude.{◌+◌, filter, find, map, not, ◌&&◌, ◌||◌, ⊤, IsTrue, is_some, if◌then◌else◌}
use Rattle.std.specs.List.{list_any}
use Rattle.std.proofs.lemmas.Bool.Decides.{nat_tests}
use Rattle.turn_lock.specs.declared.turn.Turn.{Turn}
use Rattle.sp_base.specs.declared.OpName.{OpName}
use Rattle.sp_base.specs.declared.role.Role.{Role}
use Rattle.sp_base.specs.declared.role.Role.TheVariants as roles
use Rattle.sp_history.specs.declared.entry.RecordedAct.TheVariants.{Send}
use Rattle.sp_history.specs.declared.entry.Completion.TheVariants.{Received, Sent}
use Rattle.sp_history.specs.declared.entry.Ending.{Ending}
use Rattle.sp_history.specs.declared.entry.Ending.TheVariants.{Won, Gone}
use Rattle.sp_history.specs.declared.entry.Entry.{Entry}
use Rattle.sp_history.specs.declared.entry.Entry.TheVariants.{Begin, End, Frame, Out, Unkept, Took, Tick, Ctx, Close}
use Rattle.sp_history.specs.declared.parts.Begun.{Begun}
use Rattle.sp_history.specs.declared.parts.OperationEnd.{OperationEnd}
use Rattle.sp_history.specs.declared.parts.LiveRequest.{LiveRequest}
use Rattle.sp_history.specs.declared.parts.Requests.{Requests}
use Rattle.sp_history.specs.declared.parts.How.{How}
use Rattle.sp_history.specs.declared.parts.How.TheVariants as how
use Rattle.sp_history.specs.declared.setting.Setting.{Setting}
use Rattle.sp_history.specs.Lists.{has, same_op}
use Rattle.sp_history.specs.Setting.{is_req, has_requests}
use Rattle.sp_history.specs.Past.{is_of, is_closed, pend, pending, uncollected, ended_as, now, past_of, without_begun}
use Rattle.sp_history.specs.Requests.{no_requests, next_id, with_out, with_frame, begin_on, end_on, of_live, after_end, after_moment, without_orphan, asked, requests}
use Rattle.sp_history.specs.Legal.{Legal, MayEndAs, is_at}
use Rattle.sp_history.specs.Found.{act_of, end_of}
use Rattle.sp_history.proofs.OnceHolds.{same_op-refl, same_op-eq, same_op-slot, has_value}
use Rattle.cat_play.specs.Plans.{Play}
use Rattle.cat_play.specs.Scripts.{under_way, last_result, counts_for, asks_anew, count_in, timed_out_in, timed_out, counted, is_kind, is_timed_out, has_reached, over}
use Rattle.sp_ends.specs.Entries.{each}
use Rattle.cat_play.specs.Playing.{alternates, is_in_turn}
use Rattle.cat_play.proofs.Stepping.{open_is}
use Rattle.cat_rounds.specs.declared.player.PlayEnd.{PlayEnd}
use Rattle.cat_rounds.specs.declared.player.PlayEnd.TheVariants as overs
use Rattle.cat_rounds.specs.declared.player.Player.{Player}
use Rattle.cat_rounds.specs.Lasting.{play_of, PlayStands, IsOver, IsUnderWay}
use Rattle.cat_rounds.proofs.BeginOrder.{is_op_means, none_means, later_rule, uncollected_has_end, over_in, open_over, going}
use Rattle.cat_rounds.proofs.Surveying.{Plain, before, plain_past, out_ctx, frame_ctx, left_true, right_true, same_zero, never}
use Rattle.cat_rounds.proofs.Unsent.{asked_none}

-- ---- One operation at a time

-- what is pending is the operation under way, on context 0, and is not collected
abbrev IsAlone : Option OpName → List Begun → List OperationEnd → Type 0
IsAlone w [] es = ⊤
IsAlone w (s ∷ []) es = (w ≡ Some s.op) × (s.ctx ≡ 0) × (list_any (λ (e : OperationEnd). is_of s.op e.begun) es ≡ false)
IsAlone w (s ∷ x ∷ ss) es = ⊥

pends_none : (ss : List Begun) (es : List OperationEnd) → IsAlone None ss es → ss ≡ []
pends_none [] es a = refl
pends_none (s ∷ []) es a = let no : None ≡ Some s.op = a.0 in cc
pends_none (s ∷ x ∷ ss) es a = elim a [ ]

-- no operation of the slot is there, so not this one
not_there : (op : OpName) (es : List OperationEnd) → list_any (λ (e : OperationEnd). is_at op.slot e.begun) es ≡ false → list_any (λ (e : OperationEnd). is_of op e.begun) es ≡ false
not_there op [] h = refl
not_there op (e ∷ es) h = go (is_at op.slot e.begun) refl (is_of op e.begun) refl h (not_there op es)
  where
    go : (a : Bool) → is_at op.slot e.begun ≡ a → (b : Bool) → is_of op e.begun ≡ b → (a || list_any (λ (x : OperationEnd). is_at op.slot x.begun) es) ≡ false
        → (list_any (λ (x : OperationEnd). is_at op.slot x.begun) es ≡ false → list_any (λ (x : OperationEnd). is_of op x.begun) es ≡ false) → (b || list_any (λ (x : OperationEnd). is_of op x.begun) es) ≡ false
    go true i b j h again = cc
    go false i false j h again = again h
    go false i true j h again =
        let slot : e.begun.op.slot ≡ op.slot = same_op-slot e.begun.op op j in
        let no : false ≡ true = sym i ∙ grind (arith, nat_tests) in cc

free_there : (a b : Bool) → (not a && not b) ≡ true → b ≡ false
free_there true b h = cc
free_there false true h = cc
free_there false false h = refl

-- the end of the only pending operation leaves none
end_alone : (w : Option OpName) (op : OpName) (ss : List Begun) (es : List OperationEnd) → IsAlone w ss es → (s : Begun) → find (is_of op) ss ≡ Some s → (ss ≡ s ∷ []) × (is_of op s ≡ true)
end_alone w op [] es a s f = cc
end_alone w op (x ∷ []) es a s f = go (is_of op x) refl f
  where
    go : (b : Bool) → is_of op x ≡ b → cond b (Some x) None ≡ Some s → (x ∷ [] ≡ s ∷ []) × (is_of op s ≡ true)
    go true e f = let same : x ≡ s = cc in (ap (λ (y : Begun). y ∷ []) same, subst (λ (y : Begun). is_of op y ≡ true) same e)
    go false e f = cc
end_alone w op (x ∷ y ∷ ss) es a s f = elim a [ ]

nothing_left : (op : OpName) (s : Begun) (ss : List Begun) → ss ≡ s ∷ [] → is_of op s ≡ true → without_begun ss op ≡ []
nothing_left op s ss one is = rw (one, is) refl

alone : (z : Setting) (play : Play) (past : List Entry) → Plain z play past → IsAlone (under_way past) (pend past) (uncollected past)
alone z play [] p = tt
alone z play (Begin op k c act d ∷ past) p =
    let free = none_means (under_way past) (left_true _ _ (left_true _ _ p.orders)) in
    let was = alone z play past (before z play (Begin op k c act d) past p) in
    let none = pends_none (pend past) (uncollected past) (subst (λ (w : Option OpName). IsAlone w (pend past) (uncollected past)) free was) in
    let zero : c ≡ 0 = same_zero c (right_true _ _ (left_true _ _ p.orders)) in
    let new = not_there op (uncollected past) (free_there _ _ p.allowed.0.1.itself.slot_free) in
    subst (λ (ss : List Begun). IsAlone (Some op) (ss ++ record { op = op; ctx = c; act = act } ∷ []) (uncollected past)) (sym none) (refl, zero, new)
alone z play (End op ending ∷ past) p =
    let was = alone z play past (before z play (End op ending) past p) in
    let found = has_value (pending past op) (MayEndAs z past ending) p.allowed.0.1.itself in
    let one = end_alone (under_way past) op (pend past) (uncollected past) was found.0 found.1 in
    subst (λ (ss : List Begun). IsAlone (under_way past) ss (uncollected past ++ ended_as ending (pending past op))) (sym (nothing_left op found.0 (pend past) one.0 one.1)) tt
alone z play (Took op k ∷ past) p =
    let is = is_op_means (under_way past) op (left_true _ _ p.orders) in
    let was = alone z play past (before z play (Took op k) past p) in
    subst (λ (ss : List Begun). IsAlone None ss (uncollected (Took op k ∷ past))) (sym (taken (pend past) is was p.allowed.0.1.itself.2)) tt
  where
    taken : (ss : List Begun) → under_way past ≡ Some op → IsAlone (under_way past) ss (uncollected past) → list_any (λ (e : OperationEnd). is_of op e.begun) (uncollected past) ≡ true → ss ≡ []
    taken [] is a there = refl
    taken (s ∷ []) is a there =
        let named : s.op ≡ op = let both : Some s.op ≡ Some op = sym a.0 ∙ is in cc in
        let no : true ≡ false = sym there ∙ subst (λ (o : OpName). list_any (λ (e : OperationEnd). is_of o e.begun) (uncollected past) ≡ false) named a.2 in cc
    taken (s ∷ x ∷ ss) is a there = elim a [ ]
alone z play (e ∷ past) p = alone z play past (before z play e past p)

-- the operation that ends: the one that was pending
record EndsOne (past : List Entry) (op : OpName) : Type 0 where
  s : Begun
  found : pending past op ≡ Some s
  under : under_way past ≡ Some s.op
  named : s.op ≡ op
  ctx : s.ctx ≡ 0
  none_left : without_begun (pend past) op ≡ []

ends_one : (z : Setting) (play : Play) (op : OpName) (ending : Ending) (past : List Entry) → Plain z play (End op ending ∷ past) → EndsOne past op
ends_one z play op ending past p =
    let was = alone z play past (before z play (End op ending) past p) in
    let found = has_value (pending past op) (MayEndAs z past ending) p.allowed.0.1.itself in
    let one = end_alone (under_way past) op (pend past) (uncollected past) was found.0 found.1 in
    let it = subst (λ (ss : List Begun). IsAlone (under_way past) ss (uncollected past)) one.0 was in
    record { s = found.0; found = found.1; under = it.0; named = same_op-eq found.0.op op one.1; ctx = it.1; none_left = nothing_left op found.0 (pend past) one.0 one.1 }

-- ---- Requests on context 0

abbrev elsewhere : List LiveRequest → List LiveRequest
elsewhere rs = filter (λ (r : LiveRequest). not (has (0 ∷ []) r.ctx)) rs

-- no live request is on another context, and none has left an operation behind
abbrev AreZero : Requests → Type 0
AreZero rs = (elsewhere rs.live ≡ []) × (rs.orphans ≡ [])

zero_map : (f : LiveRequest → LiveRequest) → ((r : LiveRequest) → (f r).ctx ≡ r.ctx) → (rs : List LiveRequest) → elsewhere rs ≡ [] → elsewhere (map f rs) ≡ []
zero_map f same [] h = refl
zero_map f same (r ∷ rs) h = go (has (0 ∷ []) r.ctx) refl h (zero_map f same rs)
  where
    go : (b : Bool) → has (0 ∷ []) r.ctx ≡ b → cond (not b) (r ∷ elsewhere rs) (elsewhere rs) ≡ [] → (elsewhere rs ≡ [] → elsewhere (map f rs) ≡ []) → cond (not (has (0 ∷ []) (f r).ctx)) (f r ∷ elsewhere (map f rs)) (elsewhere (map f rs)) ≡ []
    go true e h again = rw (same r, e) (again h)
    go false e h again = cc

-- the requests of context 0 end, and nothing is pending
ended_on : (c : ℕ) (why : How) (rs : Requests) → c ≡ 0 → AreZero rs → ((end_on (c ∷ []) why [] rs).live ≡ []) × ((end_on (c ∷ []) why [] rs).orphans ≡ [])
ended_on c why rs zero a = (
  subst (λ (n : ℕ). filter (λ (r : LiveRequest). not (has (n ∷ []) r.ctx)) rs.live ≡ []) (sym zero) a.0,
  rw a.1 refl,
)

none_zero : (rs : Requests) → rs.live ≡ [] → rs.orphans ≡ [] → AreZero rs
none_zero rs none behind = (ap elsewhere none, behind)

-- a request begins there
begun_zero : (z : Setting) (t c : ℕ) (body : List ℕ) (rs : Requests) → c ≡ 0 → rs.live ≡ [] → rs.orphans ≡ [] → AreZero (begin_on z t c body rs)
begun_zero z t c body rs zero none behind = (
  subst (λ (xs : List LiveRequest). elsewhere (xs ++ new c ∷ []) ≡ []) (sym none) (subst (λ (n : ℕ). elsewhere (new n ∷ []) ≡ []) (sym zero) refl),
  behind,
)
  where
    new : ℕ → LiveRequest
    new n = record { ctx = n; id = next_id z rs; body = body; birth = t; last_out = None; replies = [] }

-- the operation ended without a reply that is still to come
abbrev closes : Option Ending → Bool
closes (Some (Won Sent)) = false
closes _ = true

-- an operation of the live request ended, and nothing is pending
ended : (z : Setting) → is_req z.role ≡ true → (ending : Ending) (s : Begun) (rs : Requests) → s.ctx ≡ 0 → AreZero rs → AreZero (after_end z ending (Some s) [] rs)
ended z req (Won Sent) s rs zero a = a
ended z req (Won (Received m)) s rs zero a =
    rw req (let e = ended_on s.ctx how.Answered rs zero a in none_zero (end_on (s.ctx ∷ []) how.Answered [] rs) e.0 e.1)
ended z req (Gone cause by) s rs zero a =
    rw req (let e = ended_on s.ctx how.GivenUp rs zero a in none_zero (end_on (s.ctx ∷ []) how.GivenUp [] rs) e.0 e.1)

closed : (z : Setting) → is_req z.role ≡ true → (ending : Ending) (s : Begun) (rs : Requests) → s.ctx ≡ 0 → AreZero rs → closes (Some ending) ≡ true → (after_end z ending (Some s) [] rs).live ≡ []
closed z req (Won Sent) s rs zero a c = cc
closed z req (Won (Received m)) s rs zero a c = rw req (ended_on s.ctx how.Answered rs zero a).0
closed z req (Gone cause by) s rs zero a c = rw req (ended_on s.ctx how.GivenUp rs zero a).0

lives : (rs : Requests) (s : Begun) → rs.orphans ≡ [] → of_live rs (Some s) ≡ Some s
lives rs s behind = rw behind refl

-- what an end does to the requests
end_is : (z : Setting) (past : List Entry) (op : OpName) (ending : Ending) (one : EndsOne past op) → (asked z past).orphans ≡ [] → asked z (End op ending ∷ past) ≡ without_orphan op (after_end z ending (Some one.s) [] (asked z past))
end_is z past op ending one behind =
    ap (λ (o : Option Begun). without_orphan op (after_end z ending (of_live (asked z past) o) (without_begun (pend past) op) (asked z past))) one.found
    ∙ ap (λ (ss : List Begun). without_orphan op (after_end z ending (of_live (asked z past) (Some one.s)) ss (asked z past))) one.none_left
    ∙ ap (λ (o : Option Begun). without_orphan op (after_end z ending o [] (asked z past))) (lives (asked z past) one.s behind)

zero_without : (op : OpName) (rs : Requests) → AreZero rs → AreZero (without_orphan op rs)
zero_without op rs a = (a.0, rw a.1 refl)

zero : (z : Setting) → is_req z.role ≡ true → (play : Play) (past : List Entry) → Plain z play past → AreZero (asked z past)
unfolding after_moment
zero z req play [] p = (refl, refl)
zero z req play (Begin op k c (Send m) d ∷ past) p =
    let free = none_means (under_way past) (left_true _ _ (left_true _ _ p.orders)) in
    let plain = before z play (Begin op k c (Send m) d) past p in
    let none = pends_none (pend past) (uncollected past) (subst (λ (w : Option OpName). IsAlone w (pend past) (uncollected past)) free (alone z play past plain)) in
    let at_zero : c ≡ 0 = same_zero c (right_true _ _ (left_true _ _ p.orders)) in
    let e = ended_on c how.Replaced (asked z past) at_zero (zero z req play past plain) in
    subst (λ (ss : List Begun). AreZero (begin_on z (now past) c m.body (end_on (c ∷ []) how.Replaced ss (asked z past)))) (sym none) (begun_zero z (now past) c m.body (end_on (c ∷ []) how.Replaced [] (asked z past)) at_zero e.0 e.1)
zero z req play (End op ending ∷ past) p =
    let one = ends_one z play op ending past p in
    let was = zero z req play past (before z play (End op ending) past p) in
    subst AreZero (sym (end_is z past op ending one was.1)) (zero_without op (after_end z ending (Some one.s) [] (asked z past)) (ended z req ending one.s (asked z past) one.ctx was))
zero z req play (Out q b ∷ past) p =
    let was = zero z req play past (before z play (Out q b) past p) in (zero_map (with_out (now past) q b) (out_ctx (now past) q b) (asked z past).live was.0, was.1)
zero z req play (Frame q b ∷ past) p =
    let was = zero z req play past (before z play (Frame q b) past p) in (zero_map (with_frame z past q b) (frame_ctx z past q b) (asked z past).live was.0, was.1)
zero z req play (Unkept q ∷ Frame r b ∷ past) p =
    zero z req play past (before z play (Frame r b) past (before z play (Unkept q) (Frame r b ∷ past) p))
zero z req play (Tick t due ∷ past) p = rw req (zero z req play past (before z play (Tick t due) past p))
zero z req play (Ctx c gate ∷ past) p = never p.topics
zero z req play (Close totals ∷ past) p = never (sym p.open_)
zero z req play (e ∷ past) p = zero z req play past (before z play e past p)

-- ---- No request is live

not_nil : {A : Type 0} (xs : List A) (x : A) → xs ++ x ∷ [] ≡ [] → ⊥
not_nil [] x e = cc
not_nil (y ∷ xs) x e = cc

-- where the operation under way has ended, and not as a send that went out
gone : (z : Setting) → is_req z.role ≡ true → (play : Play) (past : List Entry) → Plain z play past → (op : OpName) → under_way past ≡ Some op → pend past ≡ [] → (ending : Ending) → end_of past op ≡ Some ending → closes (Some ending) ≡ true → (asked z past).live ≡ []
gone z req play [] p op under none ending is c = refl
gone z req play (Begin o k d act due ∷ past) p op under none ending is c =
    elim (not_nil (pend past) (record { op = o; ctx = d; act = act }) none) [ ]
gone z req play (End o x ∷ past) p op under none ending is c =
    let one = ends_one z play o x past p in
    let was = zero z req play past (before z play (End o x) past p) in
    let both : Some one.s.op ≡ Some op = sym one.under ∙ under in
    let same : o ≡ op = sym one.named ∙ the_one one.s.op op both in
    let found : Some x ≡ Some ending = sym (ap (λ (b : Bool). if b then Some x else end_of past op) (subst (λ (n : OpName). same_op o n ≡ true) same (same_op-refl o))) ∙ is in
    ap (λ (rs : Requests). rs.live) (end_is z past o x one was.1) ∙ closed z req x one.s (asked z past) one.ctx was (ap closes found ∙ c)
  where
    the_one : (a b : OpName) → Some a ≡ Some b → a ≡ b
    the_one a b e = cc
gone z req play (Took o k ∷ past) p op under none ending is c = cc
gone z req play (e ∷ past) p op under none ending is c =
    asked_none z e past refl (gone z req play past (before z play e past p) op under none ending is c)

-- where nothing is under way, and what was collected last isn't a send that went out
rested : (z : Setting) → is_req z.role ≡ true → (play : Play) (past : List Entry) → Plain z play past → under_way past ≡ None → closes (last_result past) ≡ true → (asked z past).live ≡ []
rested z req play [] p under c = refl
rested z req play (Begin o k d act due ∷ past) p under c = cc
rested z req play (Took op k ∷ past) p under c =
    let is = is_op_means (under_way past) op (left_true _ _ p.orders) in
    let none = pends_none (pend past) (uncollected (Took op k ∷ past)) (alone z play (Took op k ∷ past) p) in
    go (end_of past op) refl is none
  where
    go : (o : Option Ending) → end_of past op ≡ o → under_way past ≡ Some op → pend past ≡ [] → (asked z past).live ≡ []
    go None e is none =
        let some : is_some (end_of past op) ≡ true = uncollected_has_end past op p.allowed.0.1.itself.2 in
        let no : false ≡ true = sym (ap is_some e) ∙ some in cc
    go (Some x) e is none = gone z req play past (before z play (Took op k) past p) op is none x e (sym (ap closes e) ∙ c)
rested z req play (e ∷ past) p under c =
    asked_none z e past refl (rested z req play past (before z play e past p) under c)

-- ---- The play is over

-- a send of a req doesn't count
sent_counts : (role : Role) → is_req role ≡ true → (b r : Bool) → counts_for role b r (Some (Won Sent)) ≡ false
sent_counts roles.Req h b r = refl
sent_counts _ h b r = cc

left_out : (a x t y u : Bool) → (a || (x && false || t) || (y && false || u)) ≡ true → (a || t || u) ≡ true
left_out true x t y u h = refl
left_out false true t true u h = h
left_out false true t false u h = h
left_out false false t true u h = h
left_out false false t false u h = h

-- the play is over with an operation that counts, or that timed out
over_closes : (z : Setting) (play : Play) (past : List Entry) → is_req play.role ≡ true → is_closed past ≡ false → IsTrue (each alternates past) → IsTrue (each (is_in_turn z play) past) → over_in z play past ≡ true → under_way past ≡ None → closes (last_result past) ≡ true
over_closes z play [] req open_ orders turns o under = refl
over_closes z play (Begin op k c act d ∷ past) req open_ orders turns o under = cc
over_closes z play (Close t ∷ past) req open_ orders turns o under = cc
over_closes z play (Took op k ∷ past) req open_ orders turns o under =
    go (end_of past op) refl (is_op_means (under_way past) op (left_true _ _ orders))
  where
    n : ℕ
    n = count_in z play past

    asks : Bool
    asks = asks_anew z (Took op k ∷ past)

    go : (x : Option Ending) → end_of past op ≡ x → under_way past ≡ Some op → closes x ≡ true
    go None e is = refl
    go (Some (Won (Received m))) e is = refl
    go (Some (Gone cause by)) e is = refl
    go (Some (Won Sent)) e is =
        let sent = subst (λ (x : Option Ending). (has_reached play.count (if counts_for play.role (is_some play.body) asks x then n + 1 else n) || (is_kind true (act_of past op) && is_timed_out x || timed_out_in true past) || (is_kind false (act_of past op) && is_timed_out x || timed_out_in false past)) ≡ true) e o in
        let less = subst (λ (b : Bool). (has_reached play.count (if b then n + 1 else n) || (is_kind true (act_of past op) && false || timed_out_in true past) || (is_kind false (act_of past op) && false || timed_out_in false past)) ≡ true) (sent_counts play.role req (is_some play.body) asks) sent in
        let was = left_out (has_reached play.count n) (is_kind true (act_of past op)) (timed_out_in true past) (is_kind false (act_of past op)) (timed_out_in false past) less in
        let no : true ≡ false = sym was ∙ going z play op past open_ (later_rule (is_in_turn z play) (Took op k) past turns) is in
        cc
over_closes z play (e ∷ past) req open_ orders turns o under =
    over_closes z play past req open_ (later_rule alternates e past orders) (later_rule (is_in_turn z play) e past turns) o under

-- the player records this correctly
pub is_over_so : (o : PlayEnd) (z : Setting) (p : Player) (past : List Entry) → (o ≡ overs.Open → ⊥) → IsOver o z (play_of p.script) past → over z (play_of p.script) past ≡ true
is_over_so overs.Open z p past n i = absurd (n refl)
is_over_so overs.Finished z p past n i = go (has_reached p.script.count (counted z (play_of p.script) past)) (timed_out true past) (timed_out false past) i
  where
    go : (a b c : Bool) → IsTrue (a || b) → (a || b || c) ≡ true
    go true b c h = refl
    go false true c h = refl
    go false false c h = cc
is_over_so overs.SendTimedOut z p past n i = go (has_reached p.script.count (counted z (play_of p.script) past)) (timed_out true past) (timed_out false past) i
  where
    go : (a b c : Bool) → IsTrue c → (a || b || c) ≡ true
    go true b c h = refl
    go false true c h = refl
    go false false c h = h

pub none_live : (z : Setting) (h : List (Turn Entry)) (p : Player) → Legal z h → PlayStands z h p → is_req z.role ≡ true → (p.over ≡ overs.Open → ⊥) → p.op ≡ None → (requests z (past_of h)).live ≡ []
none_live z h p legal was req n free = go (has_requests z)
  where
    plain : Plain z (play_of p.script) (past_of h)
    plain = plain_past z h p legal was

    under : IsUnderWay None h
    under = subst (λ (o : Option OpName). IsUnderWay o h) free was.hand

    turns : IsTrue (each (is_in_turn z (play_of p.script)) (past_of h))
    turns = subst (λ (past : List Entry). IsTrue (each (is_in_turn z (play_of p.script)) past)) (open_is (past_of h) was.is_open) was.so_far.verbs

    is_over : over_in z (play_of p.script) (past_of h) ≡ true
    is_over = sym (open_over z (play_of p.script) (past_of h) was.is_open) ∙ is_over_so p.over z p (past_of h) n was.over

    closing : closes (last_result (past_of h)) ≡ true
    closing = over_closes z (play_of p.script) (past_of h) (ap is_req (sym was.role) ∙ req) was.is_open plain.orders turns is_over under

    go : (y : Bool) → (if y then asked z (past_of h) else no_requests).live ≡ []
    go true = rested z req (play_of p.script) (past_of h) plain under closing
    go false = refl
