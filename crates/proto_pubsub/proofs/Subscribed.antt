-- A sub stands for its history after each call.
use Rattle.std.proofs.Common.{◌≡◌, refl, ap, sym, ◌∙◌, subst, List, [], ◌∷◌, ◌++◌, ℕ, Bool, true, false, cond, arith, Option, Some, None, length, map, slice_index_or, ◌<◌, ◌≤◌}
use Rattle.std.specs.Prelude.{find, filter, drop, not, nat_lt, ◌&&◌, ◌||◌, ◌==◌, Result, Ok, Err}
use Rattle.std.specs.List.{list_all, list_any, position}
use Rattle.std.specs.Option.{option_map}
use Rattle.std.proofs.lemmas.Bool.Decides.{nat_tests}
use Rattle.std.proofs.lemmas.List.{map-append, length-map}
use Rattle.sp_base.specs.declared.OpName.{OpName}
use Rattle.sp_base.specs.declared.role.Role.{Role}
use Rattle.sp_base.specs.declared.role.Role.TheVariants as role
use Rattle.sp_base.specs.Roles.{has_contexts as role_has_contexts}
use Rattle.sp_msg.specs.Views.{MessageView}
use Rattle.sp_history.specs.declared.setting.Setting.{Setting}
use Rattle.sp_history.specs.declared.setting.Options.{Options}
use Rattle.sp_history.specs.declared.entry.Entry.{Entry}
use Rattle.sp_history.specs.declared.entry.Entry.TheVariants.{Down, Frame, Begin, End, Ctx, Topic, Dry, Close}
use Rattle.sp_history.specs.declared.entry.ContextChange.TheVariants.{Open, Shut}
use Rattle.sp_history.specs.declared.entry.Switch.TheVariants.{Off}
use Rattle.sp_history.specs.declared.entry.RecordedAct.{RecordedAct}
use Rattle.sp_history.specs.declared.entry.RecordedAct.TheVariants.{Recv, Send}
use Rattle.sp_history.specs.declared.entry.Cause.{Cause}
use Rattle.sp_history.specs.declared.entry.Totals.{Totals}
use Rattle.sp_history.specs.declared.entry.Why.{Why}
use Rattle.sp_history.specs.declared.entry.Ending.TheVariants.{Won, Gone}
use Rattle.sp_history.specs.declared.entry.Completion.TheVariants.{Received}
use Rattle.sp_history.specs.declared.entry.RecordedMessage.{RecordedMessage}
use Rattle.sp_history.specs.declared.parts.Begun.{Begun}
use Rattle.sp_history.specs.declared.parts.Item.{Item}
use Rattle.sp_history.specs.declared.parts.Keeping.TheVariants.{Everywhere}
use Rattle.sp_history.specs.Lists.{has, is_nil, head_of, same_bytes}
use Rattle.sp_history.specs.Setting.{floods, has_contexts, is_reply}
use Rattle.sp_history.specs.Past.{is_of, without_begun, pend, pending, ctxs, topics}
use Rattle.sp_history.specs.Kept.{pool, kept, takes, add_for, add_discarding, is_wanted_by, is_on_pool, is_from}
use Rattle.sp_history.specs.Frames.{breaks_rule, is_too_long, plain_item, item_of}
use Rattle.sp_history.specs.Settled.{receive_settled, send_settled, has_full}
use Rattle.sp_history.specs.Legal.{is_recv_on, is_state, does, AreAllowed}
use Rattle.sp_history.specs.Once.{AreApart}
use Rattle.sp_history.specs.Moments.{Moment, Lawful, past, also}
use Rattle.sp_proto.specs.Kinds.{Kind, text_of, verb_of}
use Rattle.sp_proto.specs.declared.Verb.TheVariants as verbs
use Rattle.sp_proto.specs.declared.Verdict.TheVariants as verdicts
use Rattle.sp_proto.specs.Machines.{CanGive, CanSend, CanDrop, IsIdle, Frames, Topics, switch_of, message_of}
use Rattle.proto_pubsub.specs.declared.subscribe.Subscribe.{Subscribe}
use Rattle.proto_pubsub.specs.declared.subscribe.WaitingReceive.{WaitingReceive}
use Rattle.proto_pubsub.specs.SubContexts.{SubContextView, is_of_context, kept_in, takes_frame, added, fresh_context, given_from, emptied, switched, first_in, with_found, ctx_of, AreOrdered, InOrder, SwitchesIn, StopsAt}
use Rattle.proto_pubsub.specs.Subs.{Ties, NeedsCopy, context_at, view_of, begun_of, is_for, is_ready, keeps_at, is_kept, without_first, NoneBefore}
use Rattle.proto_pubsub.proofs.Knowing.{IsRising, allowed, allowed_before, apart, rising, only_zero, AreOfContexts, of_contexts, context_of, pool_of_context, kept_of_context, nothing}
use Rattle.proto_pubsub.proofs.SubContexts.{found_at, not_found, long_with, found_context, any_context, changed, each, map_same, shut, stands, is_at, stopped}
use Rattle.proto_pubsub.proofs.ContextsByNumber.{numbers, ordered_is}
use Rattle.proto_pubsub.proofs.SearchedReceives.{before_first, before_end, more_before, still_before, given_kept, switched_kept, emptied_kept, opened_kept, shut_kept, looks_on, looks_anew}
use Rattle.proto_pubsub.proofs.ReceivesLeft.{find_begun, find_own, without_all, first_of_its}

pub is_sub : (m : Subscribe) (t : Moment) → Ties m t → t.z.role ≡ role.Sub
is_sub m t h = ap (λ (k : Kind). k.role) h.kind

pub is_raw : (m : Subscribe) (t : Moment) → Ties m t → t.z.raw ≡ m.raw
is_raw m t h = ap (λ (k : Kind). k.raw) h.kind

is_options : (m : Subscribe) (t : Moment) → Ties m t → t.z.options ≡ m.options
is_options m t h = ap (λ (k : Kind). k.options) h.kind

-- its contexts are in order
pub in_order : (m : Subscribe) (t : Moment) (xs : List SubContextView) → Ties m t → xs ≡ m.contexts.items → InOrder xs
in_order m t xs h e = subst AreOrdered (sym (ap (map ctx_of) (e ∙ h.contexts) ∙ numbers m.options.queue (λ c. pool t.z (past t) c) (λ c. topics (past t) c) (ctxs (past t)))) h.order

-- what is kept in the pools, and the topics, at a moment
abbrev pub pools : Moment → ℕ → List Item
pools t c = pool t.z (past t) c

abbrev pub tops : Moment → ℕ → List (List ℕ)
tops t c = topics (past t) c

pub never_floods : {A : Type 0} (m : Subscribe) (t : Moment) → Ties m t → floods t.z.role ≡ true → A
never_floods m t h f = let k : false ≡ true = rw (is_sub m t h) at f in absurd cc

-- ---- Frames

views_added : (y : Bool) (most : ℕ) (i : Item) (is : List Item) → added y most (view_of i) (map view_of is) ≡ map view_of (add_discarding y most (Some i) is)
views_added y most i is = ap (λ n. cond (nat_lt n most) (map view_of is ++ view_of i ∷ []) (cond y (drop 1 (map view_of is) ++ view_of i ∷ []) (map view_of is))) (length-map is view_of) ∙ go (nat_lt (length is) most) y
  where
    more : (js : List Item) → map view_of js ++ view_of i ∷ [] ≡ map view_of (js ++ i ∷ [])
    more js = sym (map-append view_of js (i ∷ []))

    less : (js : List Item) → drop 1 (map view_of js) ≡ map view_of (drop 1 js)
    less [] = refl
    less (j ∷ js) = refl

    go : (a b : Bool) → cond a (map view_of is ++ view_of i ∷ []) (cond b (drop 1 (map view_of is) ++ view_of i ∷ []) (map view_of is)) ≡ map view_of (cond a (is ++ i ∷ []) (cond b (drop 1 is ++ i ∷ []) is))
    go true b = more is
    go false true = ap (λ (vs : List MessageView). vs ++ view_of i ∷ []) (less is) ∙ more (drop 1 is)
    go false false = refl

module _ (m : Subscribe) (t : Moment) (p : ℕ) (v : MessageView) (h : Ties m t) (short : is_too_long (past t) p v.body ≡ false) (a : AreAllowed t.z (past t)) (bare : v.header ≡ []) where
  takes_is : (c : ℕ) → has (ctxs (past t)) c ≡ true → takes t.z (past t) c p v.body ≡ (m.raw || is_wanted_by (tops t c) v.body)
  takes_is c k = by_role ∙ ap (λ b. cond (not t.z.raw) (b && is_wanted_by (tops t c) v.body) (c == 0)) k ∙ go t.z.raw refl ∙ ap (λ b. b || is_wanted_by (tops t c) v.body) (is_raw m t h)
    where
      by_role : takes t.z (past t) c p v.body ≡ cond (not t.z.raw) (has (ctxs (past t)) c && is_wanted_by (tops t c) v.body) (c == 0)
      by_role = rw (is_sub m t h, short) refl

      zero_is : (n : ℕ) → n ≡ 0 → (n == 0) ≡ true
      zero_is n e = grind (arith, nat_tests)

      go : (b : Bool) → t.z.raw ≡ b → cond (not t.z.raw) (is_wanted_by (tops t c) v.body) (c == 0) ≡ (t.z.raw || is_wanted_by (tops t c) v.body)
      go true e = ap (λ b. cond (not b) (is_wanted_by (tops t c) v.body) (c == 0)) e ∙ zero_is c (only_zero t.z (past t) c a e k) ∙ sym (ap (λ b. b || is_wanted_by (tops t c) v.body) e)
      go false e = ap (λ b. cond (not b) (is_wanted_by (tops t c) v.body) (c == 0)) e ∙ sym (ap (λ b. b || is_wanted_by (tops t c) v.body) e)

  adds : (c : ℕ) → add_for t.z.role t.z (item_of t.z p v.body) (pools t c) ≡ add_discarding m.options.prefer_new m.options.queue (Some (plain_item p v.body)) (pools t c)
  adds c = by_role ∙ ap (λ (o : Options). add_discarding o.prefer_new o.queue (Some (plain_item p v.body)) (pools t c)) (is_options m t h)
    where
      by_role : add_for t.z.role t.z (item_of t.z p v.body) (pools t c) ≡ add_discarding t.z.options.prefer_new t.z.options.queue (Some (plain_item p v.body)) (pools t c)
      by_role = rw (is_sub m t h) refl

  -- the context keeps it
  takes_in : (c : ℕ) → has (ctxs (past t)) c ≡ true → kept_in m.raw m.options v (context_at m.options.queue (pools t) (tops t) c) ≡ context_at m.options.queue (pools (also t (Frame p v.body))) (tops t) c
  takes_in c k = go (m.raw || is_wanted_by (tops t c) v.body) ∙ sym (ap (λ (is : List Item). let x : SubContextView = record { ctx = c; topics = tops t c; places = m.options.queue; kept = map view_of is } in x) same)
    where
      more : List Item
      more = add_discarding m.options.prefer_new m.options.queue (Some (plain_item p v.body)) (pools t c)

      same : pools (also t (Frame p v.body)) c ≡ cond (m.raw || is_wanted_by (tops t c) v.body) more (pools t c)
      same = ap (λ b. cond b (add_for t.z.role t.z (item_of t.z p v.body) (pools t c)) (pools t c)) (takes_is c k) ∙ ap (λ is. cond (m.raw || is_wanted_by (tops t c) v.body) is (pools t c)) (adds c)

      is : v ≡ view_of (plain_item p v.body)
      is = ap (λ (header : List ℕ). let x : MessageView = record { header = header; body = v.body } in x) bare

      puts : added m.options.prefer_new m.options.queue v (map view_of (pools t c)) ≡ map view_of more
      puts = ap (λ (x : MessageView). added m.options.prefer_new m.options.queue x (map view_of (pools t c))) is ∙ views_added m.options.prefer_new m.options.queue (plain_item p v.body) (pools t c)

      go : (b : Bool) → cond b (record { ctx = c; topics = tops t c; places = m.options.queue; kept = added m.options.prefer_new m.options.queue v (map view_of (pools t c)) }) (context_at m.options.queue (pools t) (tops t) c)
          ≡ (let x : SubContextView = record { ctx = c; topics = tops t c; places = m.options.queue; kept = map view_of (cond b more (pools t c)) } in x)
      go true = ap (λ (vs : List MessageView). let x : SubContextView = record { ctx = c; topics = tops t c; places = m.options.queue; kept = vs } in x) puts
      go false = refl

  well_formed : breaks_rule t.z v.body ≡ false
  well_formed = rw (is_sub m t h) refl

  pub whole_ties : (n : Subscribe) → n.contexts.items ≡ map (kept_in m.raw m.options v) m.contexts.items → n.waiting ≡ m.waiting → n.looked ≡ 0 → (n.raw ≡ m.raw) × (n.options ≡ m.options) → Frames (Ties n) verdicts.Fine t p v.body
  whole_ties n e w z same = (
    well_formed,
    record {
      kind = rw (same.0, same.1) h.kind;
      contexts = rw same.1 (e ∙ ap (map (kept_in m.raw m.options v)) h.contexts ∙ each (kept_in m.raw m.options v) (context_at m.options.queue (pools t) (tops t)) (context_at m.options.queue (pools (also t (Frame p v.body))) (tops t)) (ctxs (past t)) takes_in);
      order = h.order;
      pending = rw w h.pending;
      looked = looks_anew n z;
    },
  )

  pub dry_ties : (n : Subscribe) (d : ℕ) → StopsAt (takes_frame m.raw m.options v.body) (kept_in m.raw m.options v) d m.contexts.items n.contexts.items → n.waiting ≡ m.waiting → n.looked ≡ 0 → (n.raw ≡ m.raw) × (n.options ≡ m.options) → Frames (Ties n) (verdicts.Dry d) t p v.body
  dry_ties n d stops w z same =
      let before = sym h.contexts ∙ stops.before in (
        well_formed,
        rw (is_sub m t h) refl,
        stands m.options.queue (pools t) (tops t) d (ctxs (past t)) stops.done stops.rest stops.at before stops.here,
        record {
          kind = rw (same.0, same.1) h.kind;
          contexts = rw same.1 (stops.after ∙ stopped m.options.queue (pools t) (tops t) (pools (also (also t (Frame p v.body)) (Dry d))) (tops t) (kept_in m.raw m.options v) d (ctxs (past t)) stops.done stops.rest stops.at (rising t.z (past t) a) before stops.here low high);
          order = h.order;
          pending = rw w h.pending;
          looked = looks_anew n z;
        },
      )
    where
      below : (e : ℕ) → e < d → nat_lt e d ≡ true
      below e l = grind (arith, nat_tests)

      above : (e : ℕ) → d ≤ e → nat_lt e d ≡ false
      above e l = grind (arith, nat_tests)

      now_is : (e : ℕ) (b : Bool) → nat_lt e d ≡ b → pools (also (also t (Frame p v.body)) (Dry d)) e ≡ cond b (pools (also t (Frame p v.body)) e) (pools t e)
      now_is e b q = ap (λ b'. cond b' (pools (also t (Frame p v.body)) e) (pools t e)) q

      low : (e : ℕ) → has (ctxs (past t)) e ≡ true → e < d → kept_in m.raw m.options v (context_at m.options.queue (pools t) (tops t) e) ≡ context_at m.options.queue (pools (also (also t (Frame p v.body)) (Dry d))) (tops t) e
      low e k l = takes_in e k ∙ ap (λ (is : List Item). let x : SubContextView = record { ctx = e; topics = tops t e; places = m.options.queue; kept = map view_of is } in x) (sym (now_is e true (below e l)))

      high : (e : ℕ) → has (ctxs (past t)) e ≡ true → d ≤ e → context_at m.options.queue (pools t) (tops t) e ≡ context_at m.options.queue (pools (also (also t (Frame p v.body)) (Dry d))) (tops t) e
      high e k l = ap (λ (is : List Item). let x : SubContextView = record { ctx = e; topics = tops t e; places = m.options.queue; kept = map view_of is } in x) (sym (now_is e false (above e l)))

  -- the context at which it stopped needed a copy
  pub dry_needs : (ys : List SubContextView) (d : ℕ) → StopsAt (takes_frame m.raw m.options v.body) (kept_in m.raw m.options v) d m.contexts.items ys → NeedsCopy t.z (past t) d p v.body
  dry_needs ys d stops =
      let before = sym h.contexts ∙ stops.before in
      let within = stands m.options.queue (pools t) (tops t) d (ctxs (past t)) stops.done stops.rest stops.at before stops.here in
      let at : stops.at ≡ context_at m.options.queue (pools t) (tops t) d = is_at m.options.queue (pools t) (tops t) (ctxs (past t)) stops.done stops.rest stops.at before ∙ ap (context_at m.options.queue (pools t) (tops t)) stops.here in
      let parts = both (m.raw || is_wanted_by (tops t d) v.body) (nat_lt (length (map view_of (pools t d))) m.options.queue || m.options.prefer_new) (sym (ap (takes_frame m.raw m.options v.body) at) ∙ stops.needed) in
      record {
        is_open = within;
        takes = takes_is d within ∙ parts.0;
        place = ap (λ (o : Options). nat_lt (length (pools t d)) o.queue || o.prefer_new) (is_options m t h) ∙ ap (λ (n : ℕ). nat_lt n m.options.queue || m.options.prefer_new) (sym (length-map (pools t d) view_of)) ∙ parts.1;
      }
    where
      both : (a b : Bool) → (a && b) ≡ true → (a ≡ true) × (b ≡ true)
      both true true q = (refl, refl)
      both true false q = absurd cc
      both false b q = absurd cc

-- as many contexts as the sub has
pub many : (m : Subscribe) (t : Moment) → Ties m t → length m.contexts.items ≡ length (ctxs (past t))
many m t h = ap length h.contexts ∙ length-map (ctxs (past t)) (context_at m.options.queue (pools t) (tops t))

-- raw, only one is open
pub one_raw : (m : Subscribe) (t : Moment) → AreAllowed t.z (past t) → Ties m t → t.z.raw ≡ true → length m.contexts.items ≤ 1
one_raw m t a h r = let few = at_most (ctxs (past t)) (rising t.z (past t) a) (λ c k. only_zero t.z (past t) c a r k) in omega (arith, many m t h, few)
  where
    itself : (n : ℕ) (b : Bool) → ((n == n) || b) ≡ true
    itself n b = grind (arith, nat_tests)

    second : (a b : Bool) → b ≡ true → (a || b) ≡ true
    second true b e = refl
    second false b e = e

    at_most : (cs : List ℕ) → IsRising cs → ((c : ℕ) → has cs c ≡ true → c ≡ 0) → length cs ≤ 1
    at_most [] r all = omega arith
    at_most (x ∷ []) r all = omega arith
    at_most (x ∷ y ∷ cs) r all =
        let under : x < y = r.0 y (itself y (has cs y)) in
        let none : y ≡ 0 = all y (second (x == y) ((y == y) || has cs y) (itself y (has cs y))) in
        absurd (omega (arith, under, none))

-- ---- What is kept

nil_views : (is : List Item) → is_nil (map view_of is) ≡ is_nil is
nil_views [] = refl
nil_views (i ∷ is) = refl

keeps_of : (m : Subscribe) (t : Moment) (c : ℕ) → AreAllowed t.z (past t) → Ties m t → has (ctxs (past t)) c ≡ true → keeps_at m.contexts.items c ≡ not (is_nil (kept t.z (past t) c))
keeps_of m t c a h k =
    ap (λ (xs : List SubContextView). is_kept (find (is_of_context c) xs)) h.contexts ∙ ap is_kept (found_context m.options.queue (pools t) (tops t) c (ctxs (past t)) ∙ ap (λ b. cond b (Some (context_at m.options.queue (pools t) (tops t) c)) None) k) ∙ ap not (nil_views (pools t c))
    ∙ sym (ap (λ (is : List Item). not (is_nil is)) (kept_of_context t.z (past t) c (is_sub m t h) a k))

pub keeps_means : (m : Subscribe) (t : Moment) (c : ℕ) (xs : List SubContextView) (b : Bool) → Lawful t → Ties m t → has (ctxs (past t)) c ≡ true → xs ≡ m.contexts.items → b ≡ keeps_at xs c → b ≡ not (is_nil (kept t.z (past t) c))
keeps_means m t c xs b l h k e f = f ∙ ap (λ (ys : List SubContextView). keeps_at ys c) e ∙ keeps_of m t c (allowed t l) h k

-- ---- Whether an operation may begin

pub open_is : (m : Subscribe) (t : Moment) (c : ℕ) (xs : List SubContextView) (b o : Bool) → Ties m t → xs ≡ m.contexts.items → o ≡ list_any (is_of_context c) xs → o ≡ b → has (ctxs (past t)) c ≡ b
open_is m t c xs b o h e k f = sym (any_context m.options.queue (pools t) (tops t) c (ctxs (past t))) ∙ ap (list_any (is_of_context c)) (sym h.contexts ∙ sym e) ∙ sym k ∙ f

pub no_state : (m : Subscribe) (t : Moment) (c : ℕ) (act : RecordedAct) → Ties m t → is_state t.z (past t) c act ≡ false
no_state m t c act h = rw (is_sub m t h) refl

sends_nothing : (r : Role) (act : RecordedAct) (b : Bool) → r ≡ role.Sub → verb_of act ≡ verbs.Send → (does r act && b) ≡ false
sends_nothing r Recv b e v = absurd cc
sends_nothing r (Send x) b e v = rw e refl

pub never_sends_on : (m : Subscribe) (t : Moment) (c : ℕ) (act : RecordedAct) → Ties m t → verb_of act ≡ verbs.Send → (does t.z.role act && ((c == 0) || has_contexts t.z)) ≡ false
never_sends_on m t c act h v = sends_nothing t.z.role act ((c == 0) || has_contexts t.z) (is_sub m t h) v

does_recv : (r : Role) (act : RecordedAct) (b raw : Bool) → r ≡ role.Sub → verb_of act ≡ verbs.Recv → (does r act && (b || role_has_contexts r && not raw)) ≡ (b || not raw)
does_recv r Recv b raw e v = rw e refl
does_recv r (Send x) b raw e v = absurd cc

pub does_is : (m : Subscribe) (t : Moment) (c : ℕ) (act : RecordedAct) (b : Bool) → Ties m t → verb_of act ≡ verbs.Recv → ((c == 0) || not m.raw) ≡ b → (does t.z.role act && ((c == 0) || has_contexts t.z)) ≡ b
does_is m t c act b h v e = does_recv t.z.role act (c == 0) t.z.raw (is_sub m t h) v ∙ ap (λ q. (c == 0) || not q) (is_raw m t h) ∙ e

pub zero_is : (n : ℕ) (b : Bool) → n ≡ 0 → ((n == 0) || b) ≡ true
zero_is n b h = rw h refl

pub cooked_is : (b r : Bool) → r ≡ false → (b || not r) ≡ true
cooked_is true r h = refl
cooked_is false r h = rw h refl

-- ---- Offers

is_own : (m : Subscribe) (t : Moment) → AreAllowed t.z (past t) → Ties m t → AreApart (map begun_of m.waiting.items)
is_own m t a h = subst (λ (ss : List Begun). AreApart ss) (sym h.pending) (apart t.z (past t) a)

some_kept : (is : List Item) → not (is_nil is) ≡ true → (i : Item) × (rest : List Item) × (is ≡ i ∷ rest)
some_kept [] h = absurd cc
some_kept (i ∷ is) h = (i, is, refl)

passes : (P : WaitingReceive → Bool) (ws : List WaitingReceive) (w : WaitingReceive) → find P ws ≡ Some w → P w ≡ true
passes P [] w h = absurd cc
passes P (x ∷ ws) w h = go (P x) refl h (passes P ws w)
  where
    some_inj : Some x ≡ Some w → x ≡ w
    some_inj q = cc

    go : (b : Bool) → P x ≡ b → cond b (Some x) (find P ws) ≡ Some w → (find P ws ≡ Some w → P w ≡ true) → P w ≡ true
    go true e q again = subst (λ (v : WaitingReceive). P v ≡ true) (some_inj q) e
    go false e q again = again q

pub can_give : (m : Subscribe) (t : Moment) (w : WaitingReceive) → Lawful t → Ties m t → find (is_ready m.contexts.items) m.waiting.items ≡ Some w → (s : Begun) × (x : RecordedMessage) × CanGive t w.op s x
can_give m t w l h f =
    let a = allowed t l in
    let own : pending (past t) w.op ≡ Some (begun_of w) = subst (λ (ss : List Begun). find (is_of w.op) ss ≡ Some (begun_of w)) h.pending (find_own (is_ready m.contexts.items) m.waiting.items w f (is_own m t a h)) in
    let within = context_of (ctxs (past t)) (pend (past t)) w.op (begun_of w) (of_contexts t.z (past t) a) own in
    let some = some_kept (kept t.z (past t) w.ctx) (sym (keeps_of m t w.ctx a h within) ∙ passes (is_ready m.contexts.items) m.waiting.items w f) in (
      begun_of w,
      some.0.message,
      record {
        pending = own;
        may =
            record {
              is_receive = refl;
              first_pending = subst (λ (ss : List Begun). option_map (λ (s : Begun). s.op) (find (is_recv_on w.ctx) ss) ≡ Some w.op) h.pending (first_of_its (keeps_at m.contexts.items) m.waiting.items w f);
              oldest = ap (λ (is : List Item). option_map (λ (i : Item). i.message) (head_of is)) some.2;
              live = λ q. let no : false ≡ true = rw (is_sub m t h) at q in absurd cc;
            };
      },
    )

all_wait : (m : Subscribe) (t : Moment) (ws : List WaitingReceive) → AreAllowed t.z (past t) → Ties m t → AreOfContexts (ctxs (past t)) (map begun_of ws) → find (is_ready m.contexts.items) ws ≡ None → list_all (receive_settled t.z (past t)) (map begun_of ws) ≡ true
all_wait m t [] a h within f = refl
all_wait m t (w ∷ ws) a h within f = go (keeps_at m.contexts.items w.ctx) refl f (all_wait m t ws a h within.1)
  where
    turned : (b : Bool) → not b ≡ false → b ≡ true
    turned true e = refl
    turned false e = absurd cc

    go : (b : Bool) → keeps_at m.contexts.items w.ctx ≡ b → cond b (Some w) (find (is_ready m.contexts.items) ws) ≡ None → (find (is_ready m.contexts.items) ws ≡ None → list_all (receive_settled t.z (past t)) (map begun_of ws) ≡ true)
        → (is_nil (kept t.z (past t) w.ctx) && list_all (receive_settled t.z (past t)) (map begun_of ws)) ≡ true
    go true e q again = absurd cc
    go false e q again =
        let none : is_nil (kept t.z (past t) w.ctx) ≡ true = turned _ (sym (keeps_of m t w.ctx a h within.0) ∙ e) in
        rw none (again q)

no_sends : (z : Setting) (before : List Entry) (full : ℕ → Bool) (ws : List WaitingReceive) → list_all (send_settled z before full) (map begun_of ws) ≡ true
no_sends z before full [] = refl
no_sends z before full (w ∷ ws) = no_sends z before full ws

pub idle : (m : Subscribe) (t : Moment) → Lawful t → Ties m t → find (is_ready m.contexts.items) m.waiting.items ≡ None → IsIdle t
idle m t l h f =
    let a = allowed t l in
    let within = subst (λ (ss : List Begun). AreOfContexts (ctxs (past t)) ss) (sym h.pending) (of_contexts t.z (past t) a) in
    record {
      settled =
          record {
            receives = subst (λ (ss : List Begun). list_all (receive_settled t.z (past t)) ss ≡ true) h.pending (all_wait m t m.waiting.items a h within f);
            sends = subst (λ (ss : List Begun). list_all (send_settled t.z (past t) (has_full t.turn)) ss ≡ true) h.pending (no_sends t.z (past t) (has_full t.turn) m.waiting.items);
            again = λ q. let k : false ≡ true = rw (is_sub m t h) at q in absurd cc;
            finished = rw (is_sub m t h) refl;
          };
      no_flood = λ q. let k : false ≡ true = rw (is_sub m t h) at q in absurd cc;
    }

-- the place of the first that is ready
pub place_of : (m : Subscribe) (t : Moment) (xs : List SubContextView) (r : Option ℕ) → Ties m t → xs ≡ m.contexts.items → (NoneBefore (is_ready xs) m.looked m.waiting.items → r ≡ position (is_ready xs) m.waiting.items) → r ≡ position (is_ready m.contexts.items) m.waiting.items
place_of m t xs r h e f = g h.looked
  where
    g : NoneBefore (is_ready m.contexts.items) m.looked m.waiting.items → r ≡ position (is_ready m.contexts.items) m.waiting.items
    g = subst (λ (ys : List SubContextView). NoneBefore (is_ready ys) m.looked m.waiting.items → r ≡ position (is_ready ys) m.waiting.items) e f

pub can_give_at : (m : Subscribe) (t : Moment) (xs : List SubContextView) (i : ℕ) (w : WaitingReceive) (r : Option ℕ) → Lawful t → Ties m t → xs ≡ m.contexts.items → Some i ≡ r → (NoneBefore (is_ready xs) m.looked m.waiting.items → r ≡ position (is_ready xs) m.waiting.items) → w ≡ slice_index_or m.waiting.items i w
    → (s : Begun) × (x : RecordedMessage) × CanGive t w.op s x
can_give_at m t xs i w r l h e f g k = can_give m t w l h (found_at (is_ready m.contexts.items) m.waiting.items i w (sym (f ∙ place_of m t xs r h e g)) ∙ ap (λ (v : WaitingReceive). Some v) (sym k))

pub idle_at : (m : Subscribe) (t : Moment) (xs : List SubContextView) (r : Option ℕ) → Lawful t → Ties m t → xs ≡ m.contexts.items → None ≡ r → (NoneBefore (is_ready xs) m.looked m.waiting.items → r ≡ position (is_ready xs) m.waiting.items) → IsIdle t
idle_at m t xs r l h e f g = idle m t l h (not_found (is_ready m.contexts.items) m.waiting.items (sym (f ∙ place_of m t xs r h e g)))

-- the receives were looked at up to this place
pub looked_ties : (m n : Subscribe) (t : Moment) → Ties m t → n.contexts ≡ m.contexts → n.waiting ≡ m.waiting → NoneBefore (is_ready m.contexts.items) n.looked m.waiting.items → (n.raw ≡ m.raw) × (n.options ≡ m.options) → Ties n t
looked_ties m n t h s w k same =
    record {
      kind = rw (same.0, same.1) h.kind;
      contexts = rw (s, same.1) h.contexts;
      order = h.order;
      pending = rw w h.pending;
      looked = rw (s, w) k;
    }

-- up to the one that is ready
pub looked_to : (m : Subscribe) (t : Moment) (xs : List SubContextView) (i : ℕ) (d : WaitingReceive) (r : Option ℕ) → Ties m t → xs ≡ m.contexts.items → Some i ≡ r → (NoneBefore (is_ready xs) m.looked m.waiting.items → r ≡ position (is_ready xs) m.waiting.items) → NoneBefore (is_ready m.contexts.items) i m.waiting.items
looked_to m t xs i d r h e f g = before_first (is_ready m.contexts.items) m.waiting.items i d (f ∙ place_of m t xs r h e g)

-- all
pub looked_all : (m : Subscribe) (t : Moment) (xs : List SubContextView) (n : ℕ) (r : Option ℕ) → Ties m t → xs ≡ m.contexts.items → None ≡ r → n ≡ length m.waiting.items → (NoneBefore (is_ready xs) m.looked m.waiting.items → r ≡ position (is_ready xs) m.waiting.items) → NoneBefore (is_ready m.contexts.items) n m.waiting.items
looked_all m t xs n r h e f l g = before_end (is_ready m.contexts.items) m.waiting.items n l (f ∙ place_of m t xs r h e g)

-- ---- Begin

pub begun_ties : (m n : Subscribe) (t : Moment) (w : WaitingReceive) (deadline : Option ℕ) → Ties m t → n.waiting.items ≡ m.waiting.items ++ w ∷ [] → n.contexts ≡ m.contexts → n.looked ≡ m.looked → (n.raw ≡ m.raw) × (n.options ≡ m.options) → Ties n (also t (Begin w.op t.caller w.ctx Recv deadline))
begun_ties m n t w deadline h e s k same =
    record {
      kind = rw (same.0, same.1) h.kind;
      contexts = rw (s, same.1) h.contexts;
      order = h.order;
      pending = ap (map begun_of) e ∙ map-append begun_of m.waiting.items (w ∷ []) ∙ ap (λ (ss : List Begun). ss ++ begun_of w ∷ []) h.pending;
      looked = rw (s, k, e) (more_before (is_ready m.contexts.items) m.waiting.items (w ∷ []) m.looked h.looked);
    }

-- ---- Ends

-- the pending operation
pub the_op : (m : Subscribe) (t : Moment) (op : OpName) (s : Begun) → Ties m t → pending (past t) op ≡ Some s → (w : WaitingReceive) × (find (is_for op) m.waiting.items ≡ Some w) × (begun_of w ≡ s)
the_op m t op s h p =
    let q : find (is_of op) (map begun_of m.waiting.items) ≡ Some s = rw h.pending p in find_begun op m.waiting.items s q

pub none_taken : {A : Type 0} (m : Subscribe) (t : Moment) (op : OpName) (s : Begun) → Ties m t → pending (past t) op ≡ Some s → None ≡ find (is_for op) m.waiting.items → A
none_taken m t op s h p f =
    let w = the_op m t op s h p in
    let no : None ≡ Some w.0 = f ∙ w.1 in absurd cc

pub taken : (m : Subscribe) (t : Moment) (op : OpName) (s : Begun) (w : WaitingReceive) → Ties m t → pending (past t) op ≡ Some s → Some w ≡ find (is_for op) m.waiting.items → begun_of w ≡ s
taken m t op s w h p f =
    let v = the_op m t op s h p in
    let same : Some w ≡ Some v.0 = f ∙ v.1 in
    ap begun_of (inj v.0 same) ∙ v.2
  where
    inj : (v : WaitingReceive) → Some w ≡ Some v → w ≡ v
    inj v q = cc

left_over : (m : Subscribe) (t : Moment) (op : OpName) (ws : List WaitingReceive) → AreAllowed t.z (past t) → Ties m t → ws ≡ without_first op m.waiting.items → map begun_of ws ≡ without_begun (pend (past t)) op
left_over m t op ws a h e = ap (map begun_of) e ∙ without_all op m.waiting.items (is_own m t a h op) ∙ ap (λ (ss : List Begun). without_begun ss op) h.pending

pub lost_ties : (m n : Subscribe) (t : Moment) (op : OpName) (cause : Cause) (by : ℕ) → AreAllowed t.z (past t) → Ties m t → n.waiting.items ≡ without_first op m.waiting.items → n.contexts ≡ m.contexts → ((P : WaitingReceive → Bool) → NoneBefore P m.looked m.waiting.items → NoneBefore P n.looked n.waiting.items) → (n.raw ≡ m.raw) × (n.options ≡ m.options) → Ties n (also t (End op (Gone cause by)))
lost_ties m n t op cause by a h e s k same =
    record {
      kind = rw (same.0, same.1) h.kind;
      contexts = rw (s, same.1) h.contexts;
      order = h.order;
      pending = left_over m t op n.waiting.items a h e;
      looked = rw s (k (is_ready m.contexts.items) h.looked);
    }

pub no_message : (s : Begun) (w : WaitingReceive) → begun_of w ≡ s → None ≡ message_of s.act
no_message s w e = ap (λ (q : Begun). message_of q.act) e

pub never_sent : {A : Type 0} (t : Moment) (op : OpName) (p : ℕ) (s : Begun) (b : List ℕ) (w : WaitingReceive) → CanSend t op p s b → begun_of w ≡ s → A
never_sent t op p s b w c e =
    let act : s.act ≡ Recv = ap (λ (q : Begun). q.act) (sym e) in
    let k : false ≡ true = rw act at c.target in absurd cc

pub never_dropped : {A : Type 0} (t : Moment) (op : OpName) (s : Begun) (w : WaitingReceive) → CanDrop t op s → begun_of w ≡ s → A
never_dropped t op s w c e =
    let act : s.act ≡ Recv = ap (λ (q : Begun). q.act) (sym e) in
    let k : true ≡ false = rw act at c.is_send in absurd cc

-- no send is ever pending
pub never_sends : {A : Type 0} (m : Subscribe) (t : Moment) (op : OpName) (p : ℕ) (s : Begun) (b : List ℕ) → Ties m t → CanSend t op p s b → A
never_sends m t op p s b h c = let w = the_op m t op s h c.pending in never_sent t op p s b w.0 c w.2

module _ (m n : Subscribe) (t : Moment) (op : OpName) (s : Begun) (text : RecordedMessage) (l : Lawful t) (h : Ties m t) (c : CanGive t op s text) where
  a : AreAllowed t.z (past t)
  a = allowed t l

  within : has (ctxs (past t)) s.ctx ≡ true
  within = context_of (ctxs (past t)) (pend (past t)) op s (of_contexts t.z (past t) a) c.pending

  heads : (is : List Item) → option_map text_of (head_of (map view_of is)) ≡ option_map (λ (i : Item). i.message) (head_of is)
  heads [] = refl
  heads (i ∷ is) = refl

  pub gives : (r : Option MessageView) (xs : List SubContextView) → xs ≡ m.contexts.items → r ≡ first_in (find (is_of_context s.ctx) xs) → option_map text_of r ≡ Some text
  gives r xs e f =
      ap (option_map text_of) (f ∙ ap (λ (ys : List SubContextView). first_in (find (is_of_context s.ctx) ys)) (e ∙ h.contexts) ∙ ap first_in (found_context m.options.queue (pools t) (tops t) s.ctx (ctxs (past t)) ∙ ap (λ b. cond b (Some (context_at m.options.queue (pools t) (tops t) s.ctx)) None) within))
      ∙ heads (pools t s.ctx) ∙ ap (λ (is : List Item). option_map (λ (i : Item). i.message) (head_of is)) (sym (kept_of_context t.z (past t) s.ctx (is_sub m t h) a within)) ∙ c.may.oldest

  on : (e : ℕ) → is_on_pool t.z e (pending (past t) op) ≡ (s.ctx == e)
  on e = ap (is_on_pool t.z e) c.pending ∙ ap (λ n. n == e) (pool_of_context t.z (past t) s.ctx (is_sub m t h) a within)

  pub given_ties : (xs : List SubContextView) → xs ≡ m.contexts.items → n.contexts.items ≡ with_found (is_of_context s.ctx) given_from xs → n.waiting.items ≡ without_first op m.waiting.items → ((P : WaitingReceive → Bool) → NoneBefore P m.looked m.waiting.items → NoneBefore P n.looked n.waiting.items) → (n.raw ≡ m.raw) × (n.options ≡ m.options) → Ties n (also t (End op (Won (Received text))))
  given_ties xs e f w k same =
      record {
        kind = rw (same.0, same.1) h.kind;
        contexts = rw same.1 (f ∙ ap (with_found (is_of_context s.ctx) given_from) (e ∙ h.contexts) ∙ changed m.options.queue (pools t) (tops t) (pools (also t (End op (Won (Received text))))) (tops t) given_from s.ctx (ctxs (past t)) (rising t.z (past t) a) here others);
        order = h.order;
        pending = left_over m t op n.waiting.items a h w;
        looked = k (is_ready n.contexts.items) (still_before (is_ready m.contexts.items) (is_ready n.contexts.items) nothing_more m.waiting.items m.looked h.looked);
      }
    where
      itself : (k : ℕ) → (k == k) ≡ true
      itself k = grind (arith, nat_tests)

      nothing_more : (x : WaitingReceive) → is_ready m.contexts.items x ≡ false → is_ready n.contexts.items x ≡ false
      nothing_more x q = ap (λ (ys : List SubContextView). keeps_at ys x.ctx) (f ∙ ap (with_found (is_of_context s.ctx) given_from) e) ∙ given_kept (is_of_context s.ctx) m.contexts.items x.ctx q

      fewer : (is : List Item) → drop 1 (map view_of is) ≡ map view_of (drop 1 is)
      fewer [] = refl
      fewer (i ∷ is) = refl

      now_is : (k : ℕ) (b : Bool) → (s.ctx == k) ≡ b → pools (also t (End op (Won (Received text)))) k ≡ cond b (drop 1 (pools t k)) (pools t k)
      now_is k b q = ap (λ b'. cond b' (drop 1 (pools t k)) (pools t k)) (on k ∙ q)

      here : given_from (context_at m.options.queue (pools t) (tops t) s.ctx) ≡ context_at m.options.queue (pools (also t (End op (Won (Received text))))) (tops t) s.ctx
      here = ap (λ (vs : List MessageView). let x : SubContextView = record { ctx = s.ctx; topics = tops t s.ctx; places = m.options.queue; kept = vs } in x) (fewer (pools t s.ctx) ∙ ap (map view_of) (sym (now_is s.ctx true (itself s.ctx))))

      others : (k : ℕ) → has (ctxs (past t)) k ≡ true → (s.ctx == k) ≡ false → context_at m.options.queue (pools t) (tops t) k ≡ context_at m.options.queue (pools (also t (End op (Won (Received text))))) (tops t) k
      others k q f = ap (λ (is : List Item). let x : SubContextView = record { ctx = k; topics = tops t k; places = m.options.queue; kept = map view_of is } in x) (sym (now_is k false f))

pub gives_from : (m n : Subscribe) (t : Moment) (op : OpName) (s : Begun) (text : RecordedMessage) → Lawful t → Ties m t → CanGive t op s text → (w : WaitingReceive) → begun_of w ≡ s → (r : Option MessageView) (xs : List SubContextView) → xs ≡ m.contexts.items → r ≡ first_in (find (is_of_context w.ctx) xs) → option_map text_of r ≡ Some text
gives_from m n t op s text l h c w own r xs e f = gives m n t op s text l h c r xs e (f ∙ ap (λ (q : Begun). first_in (find (is_of_context q.ctx) xs)) own)

pub given_from_ties : (m n : Subscribe) (t : Moment) (op : OpName) (s : Begun) (text : RecordedMessage) → Lawful t → Ties m t → CanGive t op s text → (w : WaitingReceive) → begun_of w ≡ s → (xs : List SubContextView) → xs ≡ m.contexts.items → n.contexts.items ≡ with_found (is_of_context w.ctx) given_from xs → n.waiting.items ≡ without_first op m.waiting.items
    → ((P : WaitingReceive → Bool) → NoneBefore P m.looked m.waiting.items → NoneBefore P n.looked n.waiting.items) → (n.raw ≡ m.raw) × (n.options ≡ m.options) → Ties n (also t (End op (Won (Received text))))
given_from_ties m n t op s text l h c w own xs e f g k same = given_ties m n t op s text l h c xs e (f ∙ ap (λ (q : Begun). with_found (is_of_context q.ctx) given_from xs) own) g k same

-- ---- Contexts

pub opened_ties : (m n : Subscribe) (t : Moment) (c : ℕ) → Lawful (also t (Ctx c Open)) → Ties m t → n.contexts.items ≡ m.contexts.items ++ fresh_context m.options.queue c ∷ [] → n.waiting ≡ m.waiting → n.looked ≡ m.looked → (n.raw ≡ m.raw) × (n.options ≡ m.options) → Ties n (also t (Ctx c Open))
opened_ties m n t c l h e w k same =
    let now = l.turn.0.itself.1 in
    let none = nothing t.z Everywhere (past t) c (is_sub m t h) (allowed_before t (Ctx c Open) l) (omega (arith, now)) in
    let new : fresh_context m.options.queue c ≡ context_at m.options.queue (pools t) (tops t) c =
    ap (λ (is : List Item). let x : SubContextView = record { ctx = c; topics = []; places = m.options.queue; kept = map view_of is } in x) (sym none.0) ∙ ap (λ (ts : List (List ℕ)). let x : SubContextView = record { ctx = c; topics = ts; places = m.options.queue; kept = map view_of (pools t c) } in x) (sym none.1) in
    record {
      kind = rw (same.0, same.1) h.kind;
      contexts = rw same.1 (e ∙ ap (λ (xs : List SubContextView). xs ++ fresh_context m.options.queue c ∷ []) h.contexts ∙ ap (λ (x : SubContextView). map (context_at m.options.queue (pools t) (tops t)) (ctxs (past t)) ++ x ∷ []) new ∙ sym (map-append (context_at m.options.queue (pools t) (tops t)) (ctxs (past t)) (c ∷ [])));
      order = ordered_is (ctxs (past (also t (Ctx c Open)))) (rising t.z (past (also t (Ctx c Open))) (allowed (also t (Ctx c Open)) l));
      pending = rw w h.pending;
      looked = looks_on m n h.looked w k (λ d q. ap (λ (xs : List SubContextView). keeps_at xs d) e ∙ opened_kept m.options.queue c m.contexts.items d q);
    }

pub shut_ties : (m n : Subscribe) (t : Moment) (c : ℕ) → Lawful (also t (Ctx c Shut)) → Ties m t → n.contexts.items ≡ filter (λ (x : SubContextView). not (x.ctx == c)) m.contexts.items → n.waiting ≡ m.waiting → n.looked ≡ m.looked → (n.raw ≡ m.raw) × (n.options ≡ m.options) → Ties n (also t (Ctx c Shut))
shut_ties m n t c l h e w k same =
    record {
      kind = rw (same.0, same.1) h.kind;
      contexts = rw same.1 (e ∙ ap (filter (λ (x : SubContextView). not (x.ctx == c))) h.contexts ∙ shut m.options.queue (pools t) (tops t) (pools (also t (Ctx c Shut))) (tops (also t (Ctx c Shut))) c (ctxs (past t)) others);
      order = ordered_is (ctxs (past (also t (Ctx c Shut)))) (rising t.z (past (also t (Ctx c Shut))) (allowed (also t (Ctx c Shut)) l));
      pending = rw w h.pending;
      looked = looks_on m n h.looked w k (λ d q. ap (λ (xs : List SubContextView). keeps_at xs d) e ∙ shut_kept c m.contexts.items d q);
    }
  where
    others : (k : ℕ) → (c == k) ≡ false → context_at m.options.queue (pools t) (tops t) k ≡ context_at m.options.queue (pools (also t (Ctx c Shut))) (tops (also t (Ctx c Shut))) k
    others k f = sym (ap (λ b. let x : SubContextView = record { ctx = k; topics = cond b [] (tops t k); places = m.options.queue; kept = map view_of (cond b [] (pools t k)) } in x) f)

pub closed_ties : (m n : Subscribe) (t : Moment) (totals : Totals) → Ties m t → n.contexts.items ≡ map emptied m.contexts.items → n.waiting ≡ m.waiting → n.looked ≡ m.looked → (n.raw ≡ m.raw) × (n.options ≡ m.options) → Ties n (also t (Close totals))
closed_ties m n t totals h e w k same =
    record {
      kind = rw (same.0, same.1) h.kind;
      contexts = rw same.1 (e ∙ ap (map emptied) h.contexts ∙ each emptied (context_at m.options.queue (pools t) (tops t)) (context_at m.options.queue (λ c. []) (tops t)) (ctxs (past t)) (λ c k. refl));
      order = h.order;
      pending = rw w h.pending;
      looked = looks_on m n h.looked w k (λ d q. ap (λ (xs : List SubContextView). keeps_at xs d) e ∙ emptied_kept m.contexts.items d);
    }

-- ---- Pipes

pub down_ties : (m : Subscribe) (t : Moment) (p : ℕ) (why : Why) → Ties m t → Ties m (also t (Down p why))
down_ties m t p why h =
    record {
      kind = h.kind;
      contexts = h.contexts ∙ map_same (context_at m.options.queue (pools t) (tops t)) (context_at m.options.queue (pools (also t (Down p why))) (tops t)) (ctxs (past t)) stays;
      order = h.order;
      pending = h.pending;
      looked = h.looked;
    }
  where
    same : (r : Role) (is : List Item) → r ≡ role.Sub → is ≡ cond (is_reply r) (filter (λ (i : Item). not (is_from p i)) is) is
    same r is e = rw e refl

    stays : (c : ℕ) → has (ctxs (past t)) c ≡ true → context_at m.options.queue (pools t) (tops t) c ≡ context_at m.options.queue (pools (also t (Down p why))) (tops t) c
    stays c k = ap (λ (is : List Item). let x : SubContextView = record { ctx = c; topics = tops t c; places = m.options.queue; kept = map view_of is } in x) (same t.z.role (pools t c) (is_sub m t h))

-- ---- Topics

filters : (P : List ℕ → Bool) (is : List Item) → filter (λ (x : MessageView). P x.body) (map view_of is) ≡ map view_of (filter (λ (i : Item). P i.message.body) is)
filters P [] = refl
filters P (i ∷ is) = go (P i.message.body) (filters P is)
  where
    go : (b : Bool) → filter (λ (x : MessageView). P x.body) (map view_of is) ≡ map view_of (filter (λ (i : Item). P i.message.body) is)
        → cond b (view_of i ∷ filter (λ (x : MessageView). P x.body) (map view_of is)) (filter (λ (x : MessageView). P x.body) (map view_of is)) ≡ map view_of (cond b (i ∷ filter (λ (i : Item). P i.message.body) is) (filter (λ (i : Item). P i.message.body) is))
    go true h = ap (λ (vs : List MessageView). view_of i ∷ vs) h
    go false h = h

module _ (m n : Subscribe) (t : Moment) (c : ℕ) (topic : List ℕ) (l : Lawful t) (h : Ties m t) (open_ : has (ctxs (past t)) c ≡ true) (w : n.waiting ≡ m.waiting) (mark : n.looked ≡ m.looked) (same : (n.raw ≡ m.raw) × (n.options ≡ m.options)) where
  itself : (k : ℕ) → (k == k) ≡ true
  itself k = grind (arith, nat_tests)

  switched_at : (on : Bool) → switched on topic (context_at m.options.queue (pools t) (tops t) c) ≡ context_at m.options.queue (pools (also t (Topic c topic (switch_of on)))) (tops (also t (Topic c topic (switch_of on)))) c
  switched_at true = sym (ap (λ b. let x : SubContextView = record { ctx = c; topics = cond b (tops t c ++ topic ∷ []) (tops t c); places = m.options.queue; kept = map view_of (pools t c) } in x) (itself c))
  switched_at false =
      let P : List ℕ → Bool = is_wanted_by (filter (λ u. not (same_bytes u topic)) (tops t c)) in
      let now : tops (also t (Topic c topic Off)) c ≡ filter (λ u. not (same_bytes u topic)) (tops t c) = ap (λ b. cond b (filter (λ u. not (same_bytes u topic)) (tops t c)) (tops t c)) (itself c) in
      let left : pools (also t (Topic c topic Off)) c ≡ filter (λ (i : Item). P i.message.body) (pools t c) =
      ap (λ b. cond b (filter (λ (i : Item). is_wanted_by (tops (also t (Topic c topic Off)) c) i.message.body) (pools t c)) (pools t c)) (itself c) ∙ ap (λ (ts : List (List ℕ)). filter (λ (i : Item). is_wanted_by ts i.message.body) (pools t c)) now in
      ap (λ (vs : List MessageView). let x : SubContextView = record { ctx = c; topics = filter (λ u. not (same_bytes u topic)) (tops t c); places = m.options.queue; kept = vs } in x) (filters P (pools t c) ∙ ap (map view_of) (sym left))
      ∙ ap (λ (ts : List (List ℕ)). let x : SubContextView = record { ctx = c; topics = ts; places = m.options.queue; kept = map view_of (pools (also t (Topic c topic Off)) c) } in x) (sym now)

  others : (on : Bool) (k : ℕ) → has (ctxs (past t)) k ≡ true → (c == k) ≡ false → context_at m.options.queue (pools t) (tops t) k ≡ context_at m.options.queue (pools (also t (Topic c topic (switch_of on)))) (tops (also t (Topic c topic (switch_of on)))) k
  others true k q f = sym (ap (λ b. let x : SubContextView = record { ctx = k; topics = cond b (tops t k ++ topic ∷ []) (tops t k); places = m.options.queue; kept = map view_of (pools t k) } in x) f)
  others false k q f =
      sym
      (ap (λ b. let x : SubContextView = record { ctx = k; topics = cond b (filter (λ u. not (same_bytes u topic)) (tops t k)) (tops t k); places = m.options.queue; kept = map view_of (cond b (filter (λ (i : Item). is_wanted_by (tops (also t (Topic c topic Off)) k) i.message.body) (pools t k)) (pools t k)) } in x) f)

  ctxs_same : (on : Bool) → ctxs (past (also t (Topic c topic (switch_of on)))) ≡ ctxs (past t)
  ctxs_same true = refl
  ctxs_same false = refl

  pend_same : (on : Bool) → pend (past (also t (Topic c topic (switch_of on)))) ≡ pend (past t)
  pend_same true = refl
  pend_same false = refl

  unchanged : n.contexts.items ≡ m.contexts.items → Ties n t
  unchanged e =
      record {
        kind = rw (same.0, same.1) h.kind;
        contexts = rw same.1 (e ∙ h.contexts);
        order = h.order;
        pending = rw w h.pending;
        looked = looks_on m n h.looked w mark (λ d k. ap (λ (xs : List SubContextView). keeps_at xs d) e ∙ k);
      }

  found : (xs : List SubContextView) → xs ≡ m.contexts.items → find (is_of_context c) xs ≡ Some (context_at m.options.queue (pools t) (tops t) c)
  found xs e = ap (find (is_of_context c)) (e ∙ h.contexts) ∙ found_context m.options.queue (pools t) (tops t) c (ctxs (past t)) ∙ ap (λ b. cond b (Some (context_at m.options.queue (pools t) (tops t) c)) None) open_

  pub switched_ties : {E : Type 0} (r : Result Bool E) (xs : List SubContextView) (on : Bool) → xs ≡ m.contexts.items → SwitchesIn r (find (is_of_context c) xs) c xs n.contexts.items topic on → Topics (Ties n) r t c topic on
  switched_ties {E = E} r xs on e s = go r (subst (λ (o : Option SubContextView). SwitchesIn r o c xs n.contexts.items topic on) (found xs e) s)
    where
      go : (r : Result Bool E) → SwitchesIn r (Some (context_at m.options.queue (pools t) (tops t) c)) c xs n.contexts.items topic on → Topics (Ties n) r t c topic on
      go (Ok true) q = (
        q.0,
        record {
          kind = rw (same.0, same.1) h.kind;
          contexts =
              rw same.1 (q.1 ∙ ap (with_found (is_of_context c) (switched on topic)) (e ∙ h.contexts)
              ∙ changed m.options.queue (pools t) (tops t) (pools (also t (Topic c topic (switch_of on)))) (tops (also t (Topic c topic (switch_of on)))) (switched on topic) c (ctxs (past t)) (rising t.z (past t) (allowed t l)) (switched_at on) (others on)
              ∙ ap (map (context_at m.options.queue (pools (also t (Topic c topic (switch_of on)))) (tops (also t (Topic c topic (switch_of on)))))) (sym (ctxs_same on)));
          order = subst AreOrdered (sym (ctxs_same on)) h.order;
          pending = rw w h.pending ∙ sym (pend_same on);
          looked = looks_on m n h.looked w mark (λ d k. ap (λ (xs : List SubContextView). keeps_at xs d) (q.1 ∙ ap (with_found (is_of_context c) (switched on topic)) e) ∙ switched_kept on topic (is_of_context c) m.contexts.items d k);
        },
      )
      go (Ok false) q = (q.0, unchanged (q.1 ∙ e))
      go (Err x) q = unchanged (q.1 ∙ e)

pub long_switched : {E : Type 0} (r : Result Bool E) (o : Option SubContextView) (c : ℕ) (xs ys : List SubContextView) (topic : List ℕ) (on : Bool) → SwitchesIn r o c xs ys topic on → length ys ≡ length xs
long_switched r None c xs ys topic on s = ap length s.0
long_switched (Ok true) (Some x) c xs ys topic on s = long_with (is_of_context c) (switched on topic) ys xs s.1
long_switched (Ok false) (Some x) c xs ys topic on s = ap length s.1
long_switched (Err e) (Some x) c xs ys topic on s = ap length s.1
