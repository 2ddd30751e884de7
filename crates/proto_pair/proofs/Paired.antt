-- A pair stands for its history after each call.
use Rattle.std.proofs.Common.{◌≡◌, refl, ap, sym, ◌∙◌, subst, List, [], ◌∷◌, ◌++◌, ℕ, Bool, true, false, cond, arith, Option, Some, None, map, ◌<◌, ◌≤◌}
use Rattle.std.specs.Prelude.{filter, find, drop, not, option_to_list, ◌&&◌, ◌||◌, ◌==◌}
use Rattle.std.specs.List.{list_all}
use Rattle.std.specs.Option.{option_map}
use Rattle.std.proofs.lemmas.Bool.Decides.{nat_tests}
use Rattle.sp_base.specs.declared.OpName.{OpName}
use Rattle.sp_base.specs.declared.role.Role.{Role}
use Rattle.sp_base.specs.declared.role.Role.TheVariants as role
use Rattle.sp_msg.specs.Views.{MessageView, wire_text}
use Rattle.sp_history.specs.declared.setting.Setting.{Setting}
use Rattle.sp_history.specs.declared.setting.Options.{Options}
use Rattle.sp_history.specs.declared.entry.Entry.{Entry}
use Rattle.sp_history.specs.declared.entry.Entry.TheVariants.{Down, Frame, Full, Out, Begin, End}
use Rattle.sp_history.specs.declared.entry.Why.{Why}
use Rattle.sp_history.specs.declared.entry.RecordedAct.{RecordedAct}
use Rattle.sp_history.specs.declared.entry.RecordedAct.TheVariants.{Recv, Send}
use Rattle.sp_history.specs.declared.entry.Cause.{Cause}
use Rattle.sp_history.specs.declared.entry.Ending.TheVariants.{Won, Gone}
use Rattle.sp_history.specs.declared.entry.Completion.TheVariants.{Received, Sent}
use Rattle.sp_history.specs.declared.entry.RecordedMessage.{RecordedMessage}
use Rattle.sp_history.specs.declared.parts.Begun.{Begun}
use Rattle.sp_history.specs.declared.parts.Item.{Item}
use Rattle.sp_history.specs.declared.parts.Origin.{Origin}
use Rattle.sp_history.specs.Setting.{is_reply, has_hops, has_topics}
use Rattle.sp_history.specs.Lists.{has, without, is_nil, head_of}
use Rattle.sp_history.specs.Past.{is_of, without_begun, pend, pending, up, ups, ctxs, topics as tops}
use Rattle.sp_history.specs.Kept.{pool, kept, route, is_from, is_on_pool, is_wanted_by, takes, add_item, add_for, wanted, wanted_for}
use Rattle.sp_history.specs.Frames.{breaks_rule, is_too_long, malformed, malformed_for, item_for, item_of as of_frame}
use Rattle.sp_history.proofs.Malformed.{pool_same, by_rule}
use Rattle.sp_history.specs.Requests.{asked, no_requests, request_of}
use Rattle.sp_history.specs.Sends.{may_go, targets, targets_of, bytes_for, bytes_of, bytes_of_act, lacks_hops, has_no_way}
use Rattle.sp_history.specs.Settled.{receive_settled, send_settled, has_full}
use Rattle.sp_history.specs.Legal.{Calm, is_recv}
use Rattle.sp_history.specs.Moments.{Moment, Lawful, past, also, next}
use Rattle.sp_proto.specs.Kinds.{Kind, text_of}
use Rattle.sp_proto.specs.Machines.{CanGive, CanSend, CanDrop, IsIdle, IsOffered, Frames}
use Rattle.sp_proto.specs.declared.Verdict.TheVariants as verdicts
use Rattle.sp_proto.specs.declared.Offer.{Offer}
use Rattle.sp_proto.specs.declared.Offer.TheVariants as offer
use Rattle.proto_shared.specs.Waits.{Holds, is_receive, is_send, first_name}
use Rattle.proto_shared.proofs.Firsts.{first_found, passes_first, first_on, no_receives, none_kept, no_sends, first_of_all, first_is, none_first}
use Rattle.proto_pair.specs.declared.Pair.{Pair}
use Rattle.proto_pair.specs.declared.PairPort.{PairPort}
use Rattle.proto_pair.specs.declared.PairVersion.{PairVersion}
use Rattle.proto_pair.specs.declared.PairVersion.TheVariants as versions
use Rattle.proto_pair.specs.declared.Arrival.TheVariants as arrivals
use Rattle.proto_pair.specs.Pairs.{Ties, Arrives, GoesOut, NoneStray, role_of, counts, is_stray, port_of, marked, message_in, free, receiver_of, send_offer, to_pipe}
use Rattle.proto_pair.proofs.Versions.{no_reply, no_requests as no_requests_of, no_topics, no_resends, no_floods, hops_are, adds, wants, goes, bytes_there, stray_without, none_more, found_not}

pub is_pair : (m : Pair) (t : Moment) → Ties m t → t.z.role ≡ role_of m.version
is_pair m t h = ap (λ (k : Kind). k.role) h.kind

is_raw : (m : Pair) (t : Moment) → Ties m t → t.z.raw ≡ m.raw
is_raw m t h = ap (λ (k : Kind). k.raw) h.kind

is_options : (m : Pair) (t : Moment) → Ties m t → t.z.options ≡ m.options
is_options m t h = ap (λ (k : Kind). k.options) h.kind

pub kept_pair : (y : PairVersion) (z : Setting) (before : List Entry) (c : ℕ) → z.role ≡ role_of y → kept z before c ≡ pool z before 0
kept_pair versions.Zero z before c h = rw h refl
kept_pair versions.One z before c h = rw h refl

equal_of : (m n : ℕ) → (m == n) ≡ true → m ≡ n
equal_of m n h = grind (arith, nat_tests)

same_number : (n : ℕ) → (n == n) ≡ true
same_number n = grind (arith, nat_tests)

-- ---- The pipe

module _ (full : ℕ → Bool) (o : Option PairPort) (us : List ℕ) (h : option_to_list o ≡ map (port_of full) us) where
  -- where no pipe is known, none is up
  none_up : o ≡ None → us ≡ []
  none_up e = go us (sym (ap (λ (p : Option PairPort). option_to_list p) e) ∙ h)
    where
      go : (vs : List ℕ) → [] ≡ map (port_of full) vs → vs ≡ []
      go [] q = refl
      go (v ∷ vs) q = absurd cc

  one_up : (x : PairPort) → o ≡ Some x → (us ≡ x.pipe ∷ []) × (full x.pipe ≡ x.is_full)
  one_up x e = go us (sym (ap (λ (p : Option PairPort). option_to_list p) e) ∙ h)
    where
      go : (vs : List ℕ) → x ∷ [] ≡ map (port_of full) vs → (vs ≡ x.pipe ∷ []) × (full x.pipe ≡ x.is_full)
      go [] q = absurd cc
      go (v ∷ []) q =
          let is : x ≡ port_of full v = cc in
          let pipe : x.pipe ≡ v = ap (λ (y : PairPort). y.pipe) is in
          (ap (λ n. n ∷ []) (sym pipe), ap full pipe ∙ sym (ap (λ (y : PairPort). y.is_full) is))
      go (v ∷ w ∷ vs) q = absurd cc

  -- a pipe that is up is the known one
  the_pipe : (p : ℕ) → has us p ≡ true → (x : PairPort) × (o ≡ Some x) × (x.pipe ≡ p) × (us ≡ p ∷ [])
  the_pipe p up = go o refl
    where
      go : (q : Option PairPort) → o ≡ q → (x : PairPort) × (o ≡ Some x) × (x.pipe ≡ p) × (us ≡ p ∷ [])
      go None e = let no : false ≡ true = rw (none_up e) at up in absurd cc
      go (Some x) e =
          let one = one_up x e in
          let known : ((x.pipe == p) || false) ≡ true = rw one.0 at up in
          let is = same x.pipe known in
          (x, e, is, one.0 ∙ ap (λ n. n ∷ []) is)
        where
          same : (n : ℕ) → ((n == p) || false) ≡ true → n ≡ p
          same n k = grind (arith, nat_tests)

  -- the pipe, marked
  pub ports_marked : (is_full : Bool) (now : ℕ → Bool) → ((q : ℕ) → has us q ≡ true → now q ≡ is_full) → option_to_list (marked is_full o) ≡ map (port_of now) us
  ports_marked is_full now each = go o refl
    where
      go : (q : Option PairPort) → o ≡ q → option_to_list (marked is_full q) ≡ map (port_of now) us
      go None e = rw (none_up e) refl
      go (Some x) e =
          let one = one_up x e in
          let up : has us x.pipe ≡ true = rw one.0 (ap (λ b. b || false) (same_number x.pipe)) in
          rw (one.0, each x.pipe up) refl

-- ---- Targets

all_pass : (f : ℕ → Bool) (us : List ℕ) → ((p : ℕ) → f p ≡ true) → filter f us ≡ us
all_pass f [] h = refl
all_pass f (u ∷ us) h = rw (h u) (ap (λ (rest : List ℕ). u ∷ rest) (all_pass f us h))

targets_are : (y : PairVersion) (raw : Bool) (z : Setting) (before : List Entry) (s : Begun) (m : RecordedMessage) → z.role ≡ role_of y → z.raw ≡ raw → s.act ≡ Send m → (counts y raw && lacks_hops (Send m)) ≡ false → targets z before s ≡ up before
targets_are y raw z before s m h k e n =
    ap (targets_of z before s.op) e ∙ all_pass (may_go z.role z.raw (route z before s.op) m.header) (up before) every
  where
    every : (p : ℕ) → may_go z.role z.raw (route z before s.op) m.header p ≡ true
    every p =
        ap (λ (r : Role). may_go r z.raw (route z before s.op) m.header p) h
        ∙ (ap (λ (b : Bool). may_go (role_of y) b (route z before s.op) m.header p) k ∙ goes y raw (route z before s.op) m p n)

bytes_are : (y : PairVersion) (raw : Bool) (z : Setting) (before : List Entry) (s : Begun) (m : RecordedMessage) → z.role ≡ role_of y → z.raw ≡ raw → s.act ≡ Send m → bytes_of z before s ≡ bytes_for (role_of y) raw (route z before s.op) (request_of z before s) m
bytes_are y raw z before s m h k e =
    ap (bytes_of_act z before s) e ∙ ap (λ (r : Role). bytes_for r z.raw (route z before s.op) (request_of z before s) m) h ∙ ap (λ (b : Bool). bytes_for (role_of y) b (route z before s.op) (request_of z before s) m) k

a_send : (a : RecordedAct) → not (is_recv a) ≡ true → (m : RecordedMessage) × (a ≡ Send m)
a_send Recv h = absurd cc
a_send (Send m) h = (m, refl)

-- ---- Idle

both : (a b : Bool) → a ≡ true → b ≡ true → (a && b) ≡ true
both a b h k = rw (h, k) refl

-- none of these sends goes nowhere
has_way : (y : PairVersion) (raw : Bool) (z : Setting) (before : List Entry) (s : Begun) → z.role ≡ role_of y → z.raw ≡ raw → is_stray y raw s ≡ false → not (has_no_way z before s) ≡ true
has_way y raw z before s h k n =
    ap (λ (b : Bool). not (b && is_nil (targets z before s) || has_hops z && lacks_hops s.act)) (no_reply y z h) ∙ ap (λ (b : Bool). not (b && lacks_hops s.act)) (hops_are y z raw h k) ∙ ap not n

all_full : (y : PairVersion) (raw : Bool) (z : Setting) (before : List Entry) (full : ℕ → Bool) → z.role ≡ role_of y → z.raw ≡ raw → list_all full (up before) ≡ true → (ss : List Begun) → filter (is_stray y raw) ss ≡ [] → list_all (send_settled z before full) ss ≡ true
all_full y raw z before full h k all [] none = refl
all_full y raw z before full h k all (s ∷ ss) none = go (is_stray y raw s) refl none (all_full y raw z before full h k all ss)
  where
    one : (a : RecordedAct) → s.act ≡ a → is_stray y raw s ≡ false → send_settled z before full s ≡ true
    one Recv e n = rw e refl
    one (Send m) e n =
        let apart : (counts y raw && lacks_hops (Send m)) ≡ false = ap (λ (a : RecordedAct). counts y raw && lacks_hops a) (sym e) ∙ n in
        let all_met : list_all full (targets z before s) ≡ true = ap (list_all full) (targets_are y raw z before s m h k e apart) ∙ all in
        let sends : is_recv s.act ≡ false = ap is_recv e in
        rw sends (both _ _ all_met (has_way y raw z before s h k n))

    go : (b : Bool) → is_stray y raw s ≡ b → cond b (s ∷ filter (is_stray y raw) ss) (filter (is_stray y raw) ss) ≡ [] → (filter (is_stray y raw) ss ≡ [] → list_all (send_settled z before full) ss ≡ true) → (send_settled z before full s && list_all (send_settled z before full) ss) ≡ true
    go true e n again = absurd cc
    go false e n again = both _ _ (one s.act refl e) (again n)

idle : (m : Pair) (t : Moment) → Ties m t → list_all (receive_settled t.z (past t)) (pend (past t)) ≡ true → list_all (send_settled t.z (past t) (has_full t.turn)) (pend (past t)) ≡ true → IsIdle t
idle m t h receives sends =
    record {
      settled =
          record {
            receives = receives;
            sends = sends;
            again = λ q. let k : false ≡ true = sym (no_resends m.version t.z (is_pair m t h)) ∙ q in absurd cc;
            finished = ap (λ (b : Bool). (cond b (asked t.z (past t)) no_requests).orphans) (no_requests_of m.version t.z (is_pair m t h));
          };
      no_flood = λ q. let k : false ≡ true = sym (no_floods m.version t.z (is_pair m t h)) ∙ q in absurd cc;
    }

-- ---- What is kept

head_map : (is : List Item) (x : RecordedMessage) → x ∷ [] ≡ map message_in is → option_map message_in (head_of is) ≡ Some x
head_map [] x h = absurd cc
head_map (i ∷ is) x h = let first : x ≡ i.message = cc in ap (λ (y : RecordedMessage). Some y) (sym first)

nothing_kept : (is : List Item) → [] ≡ map message_in is → is ≡ []
nothing_kept [] h = refl
nothing_kept (i ∷ is) h = absurd cc

abbrev tail : List Item → List Item
tail [] = []
tail (i ∷ is) = is

one_less : (is : List Item) (x : RecordedMessage) → x ∷ [] ≡ map message_in is → [] ≡ map message_in (tail is)
one_less [] x h = refl
one_less (i ∷ is) x h = cc

-- ---- Give

pub gives : (m : Pair) (t : Moment) (op : OpName) → Ties m t → Some op ≡ receiver_of m.kept (pend (past t)) → (s : Begun) × (text : RecordedMessage) × CanGive t op s text
gives m t op h e = go m.kept refl e
  where
    go : (o : Option MessageView) → m.kept ≡ o → Some op ≡ receiver_of o (pend (past t)) → (s : Begun) × (text : RecordedMessage) × CanGive t op s text
    go None k q = absurd cc
    go (Some v) k q =
        let s = first_is (filter is_receive (pend (past t))) op q in
        let items : text_of v ∷ [] ≡ map message_in (pool t.z (past t) 0) = sym (ap (λ (o : Option MessageView). map text_of (option_to_list o)) k) ∙ h.items in
        let can : CanGive t s.0.op s.0 (text_of v) =
        record {
          pending = first_found is_receive (pend (past t)) s.0 h.pending.apart s.1;
          may =
              record {
                is_receive = passes_first is_receive (pend (past t)) s.0 s.1;
                first_pending = first_on (pend (past t)) s.0 s.1;
                oldest = ap (λ (is : List Item). option_map message_in (head_of is)) (kept_pair m.version t.z (past t) s.0.ctx (is_pair m t h)) ∙ head_map (pool t.z (past t) 0) (text_of v) items;
                live = λ q. let no : false ≡ true = sym (no_requests_of m.version t.z (is_pair m t h)) ∙ q in absurd cc;
              };
        } in
        (s.0, text_of v, subst (λ (o : OpName). CanGive t o s.0 (text_of v)) s.2 can)

-- ---- Send

receives_wait : (m : Pair) (t : Moment) → Ties m t → None ≡ receiver_of m.kept (pend (past t)) → list_all (receive_settled t.z (past t)) (pend (past t)) ≡ true
receives_wait m t h e = go m.kept refl e
  where
    go : (o : Option MessageView) → m.kept ≡ o → None ≡ receiver_of o (pend (past t)) → list_all (receive_settled t.z (past t)) (pend (past t)) ≡ true
    go None k q =
        let nil = nothing_kept (pool t.z (past t) 0) (sym (ap (λ (o : Option MessageView). map text_of (option_to_list o)) k) ∙ h.items) in
        none_kept t.z (past t) (λ c. kept_pair m.version t.z (past t) c (is_pair m t h) ∙ nil) (pend (past t))
    go (Some v) k q = no_receives t.z (past t) (pend (past t)) (none_first (filter is_receive (pend (past t))) q)

can_send : (m : Pair) (t : Moment) (x : PairPort) (s : Begun) → Ties m t → NoneStray m (pend (past t)) → m.port ≡ Some x → x.is_full ≡ false → head_of (filter is_send (pend (past t))) ≡ Some s → (b : List ℕ) × CanSend t s.op x.pipe s b
can_send m t x s h none e room first =
    let one = one_up (λ q. has_full t.turn q) m.port (up (past t)) h.port x e in
    let sent = a_send s.act (passes_first is_send (pend (past t)) s first) in
    let found = first_found is_send (pend (past t)) s h.pending.apart first in
    let apart : (counts m.version m.raw && lacks_hops (Send sent.0)) ≡ false = ap (λ (a : RecordedAct). counts m.version m.raw && lacks_hops a) (sym sent.1) ∙ found_not (is_stray m.version m.raw) (is_of s.op) (pend (past t)) s none found in
    let some = bytes_there m.version m.raw (route t.z (past t) s.op) (request_of t.z (past t) s) sent.0 apart in
    let is_up : has (up (past t)) x.pipe ≡ true = rw one.0 (ap (λ b. b || false) (same_number x.pipe)) in (
      some.0,
      record {
        pending = found;
        is_up = is_up;
        target = ap (λ us. has us x.pipe) (targets_are m.version m.raw t.z (past t) s sent.0 (is_pair m t h) (is_raw m t h) sent.1 apart) ∙ is_up;
        bytes = bytes_are m.version m.raw t.z (past t) s sent.0 (is_pair m t h) (is_raw m t h) sent.1 ∙ some.1;
        first = ap not (first_of_all t.z (past t) (pend (past t)) s x.pipe first);
        not_full = one.1 ∙ room;
        one_target = no_floods m.version t.z (is_pair m t h);
      },
    )

pub sends : (m : Pair) (t : Moment) (r : Offer) → Ties m t → NoneStray m (pend (past t)) → None ≡ receiver_of m.kept (pend (past t)) → r ≡ send_offer m.port (pend (past t)) → IsOffered r t
sends m t r h none wait e = subst (λ (o : Offer). IsOffered o t) (sym e) (go m.port refl)
  where
    settled : list_all (receive_settled t.z (past t)) (pend (past t)) ≡ true
    settled = receives_wait m t h wait

    no_room : list_all (has_full t.turn) (up (past t)) ≡ true → IsIdle t
    no_room full = idle m t h settled (all_full m.version m.raw t.z (past t) (has_full t.turn) (is_pair m t h) (is_raw m t h) full (pend (past t)) none)

    go : (o : Option PairPort) → m.port ≡ o → IsOffered (send_offer o (pend (past t))) t
    go None k = no_room (rw (none_up (λ q. has_full t.turn q) m.port (up (past t)) h.port k) refl)
    go (Some x) k = full x.is_full refl
      where
        offered : (f : Option OpName) → f ≡ first_name (filter is_send (pend (past t))) → x.is_full ≡ false → IsOffered (to_pipe x.pipe f) t
        offered None q free = idle m t h settled (no_sends t.z (past t) (has_full t.turn) (pend (past t)) (none_first (filter is_send (pend (past t))) q))
        offered (Some op) q free =
            let s = first_is (filter is_send (pend (past t))) op q in
            let can = can_send m t x s.0 h none k free s.1 in
            (s.0, can.0, subst (λ (o : OpName). CanSend t o x.pipe s.0 can.0) s.2 can.1)

        full : (b : Bool) → x.is_full ≡ b → IsOffered (cond b offer.Idle (to_pipe x.pipe (first_name (filter is_send (pend (past t)))))) t
        full true f =
            let one = one_up (λ q. has_full t.turn q) m.port (up (past t)) h.port x k in
            no_room (rw one.0 (both _ _ (one.1 ∙ f) refl))
        full false f = offered (first_name (filter is_send (pend (past t)))) refl f

-- the same, after a look at strays
pub sends_after : (m n : Pair) (t : Moment) (r : Offer) → Ties m t → n ≡ record m { may_stray = n.may_stray } → NoneStray m (pend (past t)) → None ≡ receiver_of m.kept (pend (past t)) → ((ss : List Begun) → Holds n.pending ss → r ≡ send_offer n.port ss) → IsOffered r t
sends_after m n t r h same none wait given =
    let first : (ss : List Begun) → Holds m.pending ss → r ≡ send_offer m.port ss = subst (λ (x : Pair). (ss : List Begun) → Holds x.pending ss → r ≡ send_offer x.port ss) same given in
    sends m t r h none wait (first (pend (past t)) h.pending)

-- a stray is dropped
pub drops : (m : Pair) (t : Moment) (op : OpName) → Calm t.z (past t) → Ties m t → Some op ≡ first_name (filter (is_stray m.version m.raw) (pend (past t))) → (s : Begun) × CanDrop t op s
drops m t op calm h e =
    let s = first_is (filter (is_stray m.version m.raw) (pend (past t))) op e in
    let stray : is_stray m.version m.raw s.0 ≡ true = passes_first (is_stray m.version m.raw) (pend (past t)) s.0 s.1 in
    let lacks : lacks_hops s.0.act ≡ true = second (counts m.version m.raw) (lacks_hops s.0.act) stray in
    let can : CanDrop t s.0.op s.0 = record {
      pending = first_found (is_stray m.version m.raw) (pend (past t)) s.0 h.pending.apart s.1;
      is_send = not_recv s.0.act lacks;
      nowhere = rw (hops_are m.version t.z m.raw (is_pair m t h) (is_raw m t h), stray, calm.outs_claimed) (either (is_reply t.z.role && is_nil (targets t.z (past t) s.0)));
    } in
    (s.0, subst (λ (o : OpName). CanDrop t o s.0) s.2 can)
  where
    second : (a b : Bool) → (a && b) ≡ true → b ≡ true
    second true b q = q
    second false b q = absurd cc

    not_recv : (a : RecordedAct) → lacks_hops a ≡ true → is_recv a ≡ false
    not_recv Recv q = absurd cc
    not_recv (Send x) q = refl

    either : (a : Bool) → ((a || true) && true) ≡ true
    either true = refl
    either false = refl

-- ---- Ends

pub ended_ties : (m n : Pair) (t : Moment) (op : OpName) (cause : Cause) (by : ℕ) → Ties m t → Holds n.pending (without_begun (pend (past t)) op) → n ≡ record m { pending = n.pending } → Ties n (also t (End op (Gone cause by)))
ended_ties m n t op cause by h e same =
    record {
      kind = rw same h.kind;
      port = rw same h.port;
      known = h.known;
      unmet = h.unmet;
      items = rw same h.items;
      pending = e;
      none_stray = rw same (λ q. stray_without m.version m.raw (pend (past t)) op (h.none_stray q));
      contexts = h.contexts;
    }

pub given_ties : (m n : Pair) (t : Moment) (op : OpName) (s : Begun) (text : RecordedMessage) → Ties m t → CanGive t op s text → Holds n.pending (without_begun (pend (past t)) op) → n ≡ record m { pending = n.pending; kept = None } → (option_map text_of m.kept ≡ Some text) × Ties n (also t (End op (Won (Received text))))
given_ties m n t op s text h c e same = go m.kept refl
  where
    oldest : option_map message_in (head_of (pool t.z (past t) 0)) ≡ Some text
    oldest = ap (λ (is : List Item). option_map message_in (head_of is)) (sym (kept_pair m.version t.z (past t) s.ctx (is_pair m t h))) ∙ c.may.oldest

    less : pool t.z (past (also t (End op (Won (Received text))))) 0 ≡ tail (pool t.z (past t) 0)
    less = ap (λ (b : Bool). cond b (drop 1 (pool t.z (past t) 0)) (pool t.z (past t) 0)) on ∙ drops (pool t.z (past t) 0)
      where
        on : is_on_pool t.z 0 (pending (past t) op) ≡ true
        on = ap (is_on_pool t.z 0) c.pending ∙ ap (λ (b : Bool). cond b s.ctx 0 == 0) (no_topics m.version t.z (is_pair m t h))

        drops : (is : List Item) → drop 1 is ≡ tail is
        drops [] = refl
        drops (i ∷ is) = refl

    go : (o : Option MessageView) → m.kept ≡ o → (option_map text_of m.kept ≡ Some text) × Ties n (also t (End op (Won (Received text))))
    go None k =
        let nil = nothing_kept (pool t.z (past t) 0) (sym (ap (λ (o : Option MessageView). map text_of (option_to_list o)) k) ∙ h.items) in
        let no : None ≡ Some text = rw nil at oldest in
        absurd cc
    go (Some v) k =
        let items : text_of v ∷ [] ≡ map message_in (pool t.z (past t) 0) = sym (ap (λ (o : Option MessageView). map text_of (option_to_list o)) k) ∙ h.items in (
          ap (option_map text_of) k ∙ sym (head_map (pool t.z (past t) 0) (text_of v) items) ∙ oldest,
          record {
            kind = rw same h.kind;
            port = rw same h.port;
            known = h.known;
            unmet = h.unmet;
            items = rw same (one_less (pool t.z (past t) 0) (text_of v) items ∙ ap (map message_in) (sym less));
            pending = e;
            none_stray = rw same (λ q. stray_without m.version m.raw (pend (past t)) op (h.none_stray q));
            contexts = h.contexts;
          },
        )

-- a send that no pipe gets is won
pub dropped_ties : (m n : Pair) (t : Moment) (op : OpName) → Ties m t → Holds n.pending (without_begun (pend (past t)) op) → n ≡ record m { pending = n.pending } → Ties n (also t (End op (Won Sent)))
dropped_ties m n t op h e same =
    record {
      kind = rw same h.kind;
      port = rw same h.port;
      known = h.known;
      unmet = h.unmet;
      items = rw same h.items;
      pending = e;
      none_stray = rw same (λ q. stray_without m.version m.raw (pend (past t)) op (h.none_stray q));
      contexts = h.contexts;
    }

pub sent_ties : (m n : Pair) (t : Moment) (op : OpName) (p : ℕ) (b : List ℕ) → Ties m t → Holds n.pending (without_begun (pend (past t)) op) → n ≡ record m { pending = n.pending } → Ties n (also (also t (Out p b)) (End op (Won Sent)))
sent_ties m n t op p b h e same =
    record {
      kind = rw same h.kind;
      port = rw same h.port;
      known = h.known;
      unmet = h.unmet;
      items = rw same h.items;
      pending = e;
      none_stray = rw same (λ q. stray_without m.version m.raw (pend (past t)) op (h.none_stray q));
      contexts = h.contexts;
    }

-- what goes out for the message
pub sent_text : (m : Pair) (t : Moment) (op : OpName) (p : ℕ) (s : Begun) (b : List ℕ) (text : RecordedMessage) (old new : MessageView) → Ties m t → CanSend t op p s b → s.act ≡ Send text → Some (text_of old) ≡ Some text → GoesOut m.version m.raw old new → wire_text new ≡ b
sent_text m t op p s b text old new h c e is out =
    let same : text_of old ≡ text = cc in
    let bytes : bytes_for (role_of m.version) m.raw (route t.z (past t) s.op) (request_of t.z (past t) s) text ≡ Some b = sym (bytes_are m.version m.raw t.z (past t) s text (is_pair m t h) (is_raw m t h) e) ∙ c.bytes in
    out (route t.z (past t) s.op) (request_of t.z (past t) s) b (ap (bytes_for (role_of m.version) m.raw (route t.z (past t) s.op) (request_of t.z (past t) s)) same ∙ bytes)

-- an operation that can be sent is a send
pub the_send : (m : Pair) (t : Moment) (op : OpName) (p : ℕ) (s : Begun) (b : List ℕ) → CanSend t op p s b → (text : RecordedMessage) × (s.act ≡ Send text)
the_send m t op p s b c = go s.act refl
  where
    go : (a : RecordedAct) → s.act ≡ a → (text : RecordedMessage) × (s.act ≡ Send text)
    go Recv e = let no : false ≡ true = rw e at c.target in absurd cc
    go (Send text) e = (text, e)

-- ---- Pipes and frames

pool_down : (y : PairVersion) (z : Setting) (before : List Entry) (p : ℕ) (why : Why) → z.role ≡ role_of y → pool z before 0 ≡ pool z (Down p why ∷ before) 0
pool_down y z before p why h = sym (ap (λ (b : Bool). cond b (filter (λ (i : Item). not (is_from p i)) (pool z before 0)) (pool z before 0)) (no_reply y z h))

pub down_ties : (m n : Pair) (t : Moment) (p : ℕ) (why : Why) → Lawful (also t (Down p why)) → Ties m t → n ≡ record m { port = None } → Ties n (also t (Down p why))
down_ties m n t p why l h same =
    let one = the_pipe (λ q. has_full t.turn q) m.port (up (past t)) h.port p l.turn.0.itself.0 in
    let none : without (up (past t)) p ≡ [] = rw (one.3, same_number p) refl in
    record {
      kind = rw same h.kind;
      port = rw (same, none) refl;
      known = λ q k. let no : false ≡ true = rw none at k in absurd cc;
      unmet = h.unmet;
      items = rw same h.items ∙ ap (map message_in) (pool_down m.version t.z (past t) p why (is_pair m t h));
      pending = rw same h.pending;
      none_stray = rw same h.none_stray;
      contexts = h.contexts;
    }

-- a pipe that is offered is free
pub is_free : (m : Pair) (t : Moment) (op : OpName) (p : ℕ) (s : Begun) (b : List ℕ) → Ties m t → CanSend t op p s b → free m.port ≡ 1
is_free m t op p s b h c =
    let x = the_pipe (λ q. has_full t.turn q) m.port (up (past t)) h.port p c.is_up in
    let one = one_up (λ q. has_full t.turn q) m.port (up (past t)) h.port x.0 x.1 in
    let room : x.0.is_full ≡ false = sym one.1 ∙ ap (has_full t.turn) x.2 ∙ c.not_full in
    rw (x.1, room) refl

pub none_free : (o : Option PairPort) → free (marked true o) ≡ 0
none_free None = refl
none_free (Some x) = refl

pub full_ties : (m n : Pair) (t : Moment) (p : ℕ) → Lawful (also t (Full p)) → Ties m t → n ≡ record m { port = marked true m.port } → Ties n (also t (Full p))
full_ties m n t p l h same =
    let is_up = l.turn.0.itself in
    let one = the_pipe (λ q. has_full t.turn q) m.port (up (past t)) h.port p is_up in
    record {
      kind = rw same h.kind;
      port = rw same (ports_marked (λ q. has_full t.turn q) m.port (up (past t)) h.port true (λ q. (p == q) || has_full t.turn q) (λ q k. met q (rw one.3 at k)));
      known = h.known;
      unmet = λ q k. ap (λ b. (p == q) || b) (h.unmet q k) ∙ other q (h.known p is_up) k;
      items = rw same h.items;
      pending = rw same h.pending;
      none_stray = rw same h.none_stray;
      contexts = h.contexts;
    }
  where
    met : (q : ℕ) → ((p == q) || false) ≡ true → ((p == q) || has_full t.turn q) ≡ true
    met q k = go (p == q) k
      where
        go : (b : Bool) → (b || false) ≡ true → (b || has_full t.turn q) ≡ true
        go true k = refl
        go false k = absurd cc

    other : (q : ℕ) → p ≤ ups (past t) → ups (past t) < q → ((p == q) || false) ≡ false
    other q k g = grind (arith, nat_tests)

pub fresh_ties : (m n : Pair) (t : Moment) (k : ℕ) → Ties m t → n ≡ record m { port = marked false m.port } → Ties n (next t k)
fresh_ties m n t k h same =
    record {
      kind = rw same h.kind;
      port = rw same (ports_marked (λ q. has_full t.turn q) m.port (up (past t)) h.port false (λ q. false) (λ q k. refl));
      known = h.known;
      unmet = λ q g. refl;
      items = rw same h.items;
      pending = rw same h.pending;
      none_stray = rw same h.none_stray;
      contexts = h.contexts;
    }

-- what is kept after a frame within its pipe's limit, which isn't malformed
pool_frame : (y : PairVersion) (z : Setting) (before : List Entry) (p : ℕ) (b : List ℕ) → z.role ≡ role_of y → malformed z before p b ≡ false → pool z (Frame p b ∷ before) 0 ≡ add_item (of_frame z p b) (pool z before 0)
pool_frame y z before p b h well =
    let topics : Bool = has (ctxs before) 0 && is_wanted_by (tops before 0) b in
    let taken : takes z before 0 p b ≡ true = ap (λ q. not q && cond (has_topics z) topics (0 == 0)) well ∙ ap (λ q. cond q topics (0 == 0)) (no_topics y z h) in
    ap (λ q. cond q (add_for z.role z (of_frame z p b) (pool z before 0)) (pool z before 0)) taken ∙ ap (λ (r : Role). add_for r z (of_frame z p b) (pool z before 0)) h ∙ adds y z (of_frame z p b) (pool z before 0)

wanted_none : (y : PairVersion) (z : Setting) (before : List Entry) (p : ℕ) → z.role ≡ role_of y → wanted z before p ≡ true → pool z before 0 ≡ []
wanted_none y z before p h w =
    go (pool z before 0) (sym (ap is_nil (kept_pair y z before 0 h)) ∙ sym (wants y z.raw p (kept z before 0)) ∙ ap (λ (r : Role). wanted_for r z.raw p (kept z before 0)) (sym h) ∙ w)
  where
    go : (is : List Item) → is_nil is ≡ true → is ≡ []
    go [] k = refl
    go (i ∷ is) k = absurd cc

module _ (m : Pair) (t : Moment) (p : ℕ) (b : List ℕ) (h : Ties m t) where
  -- the rule and the item, by what the machine knows
  pub rule_is : breaks_rule t.z b ≡ malformed_for (role_of m.version) m.options.ttl b
  rule_is = ap (λ (r : Role). malformed_for r t.z.options.ttl b) (is_pair m t h) ∙ ap (λ (o : Options). malformed_for (role_of m.version) o.ttl b) (is_options m t h)

  item_is : of_frame t.z p b ≡ item_for (role_of m.version) m.raw m.options.ttl p b
  item_is =
      ap (λ (r : Role). item_for r t.z.raw t.z.options.ttl p b) (is_pair m t h) ∙ ap (λ (raw : Bool). item_for (role_of m.version) raw t.z.options.ttl p b) (is_raw m t h)
      ∙ ap (λ (o : Options). item_for (role_of m.version) m.raw o.ttl p b) (is_options m t h)

  -- where nothing more is kept
  same_ties : pool t.z (Frame p b ∷ past t) 0 ≡ pool t.z (past t) 0 → Ties m (also t (Frame p b))
  same_ties same = record {
    kind = h.kind;
    port = h.port;
    known = h.known;
    unmet = h.unmet;
    items = h.items ∙ ap (map message_in) (sym same);
    pending = h.pending;
    none_stray = h.none_stray;
    contexts = h.contexts;
  }

  pub malformed_ties : malformed t.z (past t) p b ≡ true → Ties m (also t (Frame p b))
  malformed_ties bad = same_ties (pool_same t.z (past t) p b 0 bad)

  pub far_ties : malformed t.z (past t) p b ≡ false → item_for (role_of m.version) m.raw m.options.ttl p b ≡ None → Ties m (also t (Frame p b))
  far_ties well none =
      same_ties (pool_frame m.version t.z (past t) p b (is_pair m t h) well ∙ ap (λ (o : Option Item). add_item o (pool t.z (past t) 0)) (item_is ∙ none))

pub frame_ties : (m n : Pair) (t : Moment) (p : ℕ) (b : List ℕ) (v : MessageView) (i : Item) → Lawful (also t (Frame p b)) → Ties m t → malformed t.z (past t) p b ≡ false → item_for (role_of m.version) m.raw m.options.ttl p b ≡ Some i → text_of v ≡ i.message → n ≡ record m { kept = Some v } → Ties n (also t (Frame p b))
frame_ties m n t p b v i l h well is text same =
    let nil = wanted_none m.version t.z (past t) p (is_pair m t h) l.turn.0.itself.1 in
    let now : pool t.z (Frame p b ∷ past t) 0 ≡ i ∷ [] = pool_frame m.version t.z (past t) p b (is_pair m t h) well ∙ ap (λ (o : Option Item). add_item o (pool t.z (past t) 0)) (item_is m t p b h ∙ is) ∙ ap (λ (is : List Item). is ++ i ∷ []) nil in
    record {
      kind = rw same h.kind;
      port = rw same h.port;
      known = h.known;
      unmet = h.unmet;
      items = rw same (ap (λ (x : RecordedMessage). x ∷ []) text ∙ ap (map message_in) (sym now));
      pending = rw same h.pending;
      none_stray = rw same h.none_stray;
      contexts = h.contexts;
    }

-- the history that it stands for after a frame, by what the frame is
pub framed : (m n : Pair) (t : Moment) (p : ℕ) (v : MessageView) (x : MessageView) → is_too_long (past t) p v.body ≡ false → Lawful (also t (Frame p v.body)) → Ties m t → Arrives m.version m.raw m.options.ttl v (arrivals.Kept x) → n ≡ record m { kept = Some x } → Frames (Ties n) verdicts.Fine t p v.body
framed m n t p v x short l h a same =
    let rule = rule_is m t p v.body h ∙ a.0 in
    let i = a.1 p in
    (rule, frame_ties m n t p v.body x i.0 l h (by_rule t.z (past t) p v.body short ∙ rule) i.1 i.2 same)

pub framed_far : (m : Pair) (t : Moment) (p : ℕ) (v : MessageView) → is_too_long (past t) p v.body ≡ false → Ties m t → Arrives m.version m.raw m.options.ttl v arrivals.TooFar → Frames (Ties m) verdicts.Fine t p v.body
framed_far m t p v short h a =
    let rule = rule_is m t p v.body h ∙ a.0 in
    (rule, far_ties m t p v.body h (by_rule t.z (past t) p v.body short ∙ rule) (a.1 p))

pub framed_malformed : (m : Pair) (t : Moment) (p : ℕ) (v : MessageView) → is_too_long (past t) p v.body ≡ false → Ties m t → Arrives m.version m.raw m.options.ttl v arrivals.Malformed → Frames (Ties m) verdicts.Malformed t p v.body
framed_malformed m t p v short h a =
    let rule = rule_is m t p v.body h ∙ a in
    (rule, malformed_ties m t p v.body h (by_rule t.z (past t) p v.body short ∙ rule))

-- a new operation, of which it is known whether a pipe may get it
pub begun_ties : (m n : Pair) (t : Moment) (op : OpName) (c : ℕ) (act : RecordedAct) (deadline : Option ℕ) → Lawful (also t (Begin op t.caller c act deadline)) → Ties m t → Holds n.pending (pend (past t) ++ record { op = op; ctx = c; act = act } ∷ []) → n ≡ record m { pending = n.pending; may_stray = m.may_stray || (counts m.version m.raw && lacks_hops act) } → Ties n (also t (Begin op t.caller c act deadline))
begun_ties m n t op c act deadline l h e same =
    record {
      kind = rw same h.kind;
      port = rw same h.port;
      known = h.known;
      unmet = h.unmet;
      items = rw same h.items;
      pending = e;
      none_stray = rw same (λ q. none_more (is_stray m.version m.raw) (pend (past t)) (record { op = op; ctx = c; act = act }) (h.none_stray (left m.may_stray (counts m.version m.raw && lacks_hops act) q)) (right m.may_stray (counts m.version m.raw && lacks_hops act) q));
      contexts = h.contexts;
    }
  where
    left : (a b : Bool) → (a || b) ≡ false → a ≡ false
    left true b q = absurd cc
    left false b q = refl

    right : (a b : Bool) → (a || b) ≡ false → b ≡ false
    right true b q = absurd cc
    right false b q = q

-- nothing but what it knows of strays has changed
pub looked_ties : (m n : Pair) (t : Moment) → Ties m t → n ≡ record m { may_stray = n.may_stray } → (n.may_stray ≡ false → NoneStray m (pend (past t))) → Ties n t
looked_ties m n t h same none =
    record {
      kind = rw same h.kind;
      port = rw same h.port;
      known = h.known;
      unmet = h.unmet;
      items = rw same h.items;
      pending = rw same h.pending;
      none_stray = rw same none;
      contexts = h.contexts;
    }
