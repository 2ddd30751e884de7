-- A bus stands for its history after each call.
use Rattle.std.proofs.Common.{◌≡◌, refl, ap, sym, ◌∙◌, subst, List, [], ◌∷◌, ◌++◌, ℕ, ◌+◌, ◌-◌, Bool, true, false, cond, arith, Option, Some, None, map, length, ◌<◌}
use Rattle.std.specs.Prelude.{filter, drop, ◌↔◌, not, nat_lt, min, ◌^◌, slice_get, Result, Ok, Err, IsOk, OnOk, IfErr}
use Rattle.std.specs.List.{list_all}
use Rattle.std.specs.Option.{option_map}
use Rattle.circular_buffer.specs.Buffer.{Buffer, buffer}
use Rattle.std.proofs.lemmas.Bool.Decides.{nat_tests}
use Rattle.std.proofs.lemmas.List.{map-append}
use Rattle.std.proofs.lemmas.Option.{same_Some}
use Rattle.sp_base.specs.declared.OpName.{OpName}
use Rattle.sp_base.specs.declared.role.Role.{Role}
use Rattle.sp_base.specs.declared.role.Role.TheVariants as role
use Rattle.sp_msg.specs.Views.{MessageView, wire_text}
use Rattle.sp_history.specs.declared.setting.Setting.{Setting}
use Rattle.sp_history.specs.declared.setting.Options.{Options}
use Rattle.sp_history.specs.declared.entry.Entry.{Entry}
use Rattle.sp_history.specs.declared.entry.Entry.TheVariants.{Up, Down, Frame, Full, Out, End}
use Rattle.sp_history.specs.declared.entry.Why.{Why}
use Rattle.sp_history.specs.declared.entry.WireNumbers.{WireNumbers}
use Rattle.sp_history.specs.declared.entry.RecordedAct.TheVariants.{Send}
use Rattle.sp_history.specs.declared.entry.Cause.{Cause}
use Rattle.sp_history.specs.declared.entry.Ending.TheVariants.{Won, Gone}
use Rattle.sp_history.specs.declared.entry.Completion.TheVariants.{Received, Sent}
use Rattle.sp_history.specs.declared.entry.RecordedMessage.{RecordedMessage}
use Rattle.sp_history.specs.declared.parts.Begun.{Begun}
use Rattle.sp_history.specs.declared.parts.Item.{Item}
use Rattle.sp_history.specs.declared.parts.Origin.{Origin}
use Rattle.sp_history.specs.Setting.{floods}
use Rattle.sp_history.specs.Lists.{has, head_of, is_number}
use Rattle.sp_history.specs.Past.{without_begun, pend, pending, up}
use Rattle.sp_history.specs.Kept.{pool, kept, route, is_on_pool, takes, add_for}
use Rattle.sp_history.specs.Frames.{breaks_rule, is_too_long, item_for, item_of as of_frame}
use Rattle.sp_history.specs.Sends.{may_go, targets, bytes_of}
use Rattle.sp_history.specs.Settled.{receive_settled, has_full}
use Rattle.sp_history.specs.Moments.{Moment, Lawful, past, also, next}
use Rattle.sp_proto.specs.Kinds.{Kind, text_of}
use Rattle.sp_proto.specs.Machines.{CanGive, CanFlood, IsIdle, NoFlood, message_of}
use Rattle.proto_shared.specs.Copies.{AreCopies}
use Rattle.proto_shared.proofs.Copying.{pool_down, each_init}
use Rattle.proto_shared.proofs.FloodTurns.{no_flood, goes_on, pipe_down, pipe_full, turn_begins}
use Rattle.proto_shared.proofs.Sending.{a_send, is_a_send, is_a_receive, won_send, the_flood, can_flood as first_floods, none_sending, goes_to, goes_out, send_ends, receive_ends}
use Rattle.proto_shared.specs.Waits.{Holds, is_receive, is_send, first_name}
use Rattle.proto_shared.proofs.Firsts.{first_found, passes_first, first_on, no_receives, none_kept, no_sends, first_is, none_first}
use Rattle.proto_bus.specs.declared.Bus.{Bus}
use Rattle.proto_bus.specs.Buses.{Ties, IsFlood, message_in, receiver_of, left_out_of, header_of}
use Rattle.proto_shared.proofs.PipeCounts.{counted_up, counted_down}

pub is_bus : (m : Bus) (t : Moment) → Ties m t → t.z.role ≡ role.Bus
is_bus m t h = ap (λ (k : Kind). k.role) h.0.kind

is_raw : (m : Bus) (t : Moment) → Ties m t → t.z.raw ≡ m.raw
is_raw m t h = ap (λ (k : Kind). k.raw) h.0.kind

is_options : (m : Bus) (t : Moment) → Ties m t → t.z.options ≡ m.options
is_options m t h = ap (λ (k : Kind). k.options) h.0.kind

it_floods : (z : Setting) → z.role ≡ role.Bus → floods z.role ≡ true
it_floods z h = rw h refl

kept_bus : (z : Setting) (before : List Entry) (c : ℕ) → z.role ≡ role.Bus → kept z before c ≡ pool z before 0
kept_bus z before c h = rw h refl

-- ---- Pipes

pub up_ties : (m n : Bus) (t : Moment) (p place limit : ℕ) (name : WireNumbers) → NoFlood t → Lawful (also t (Up p place limit name)) → Ties m t → n ≡ record m { pipes = min (m.pipes + 1) (2 ^ 64 - 1) } → Ties n (also t (Up p place limit name))
up_ties m n t p place limit name calm l h same = (
  record {
    kind = rw same h.0.kind;
    pipes = rw same (counted_up t p place limit name m.pipes l h.0.pipes);
    items = rw same h.0.items;
    places = rw same h.0.places;
    pending = rw same h.0.pending;
    contexts = h.0.contexts;
  },
  no_flood _ _ (also t (Up p place limit name)) (calm (it_floods t.z (is_bus m t h))),
)

pub down_ties : (m n : Bus) (t : Moment) (p : ℕ) (why : Why) → Lawful (also t (Down p why)) → Ties m t → n ≡ record m { pipes = m.pipes - 1 } → Ties n (also t (Down p why))
down_ties m n t p why l h same = (
  record {
    kind = rw same h.0.kind;
    pipes = rw same (counted_down t p why m.pipes l h.0.pipes);
    items = rw same h.0.items ∙ ap (map message_in) (pool_down t.z (past t) p why (it_floods t.z (is_bus m t h)));
    places = rw same h.0.places;
    pending = rw same h.0.pending;
    contexts = h.0.contexts;
  },
  rw same (pipe_down _ _ t p why (it_floods t.z (is_bus m t h)) h.1),
)

pub full_ties : (m : Bus) (t : Moment) (p : ℕ) → Ties m t → Ties m (also t (Full p))
full_ties m t p h = (h.0, pipe_full _ _ t p (it_floods t.z (is_bus m t h)) h.1)

bytes_are : (z : Setting) (before : List Entry) (s : Begun) (m : RecordedMessage) → z.role ≡ role.Bus → s.act ≡ Send m → bytes_of z before s ≡ Some m.body
bytes_are z before s m h e = rw (e, h) refl

-- ---- It goes out

may_go_is : (r : Role) (raw : Bool) (o : Option Origin) (header : List ℕ) (p : ℕ) → r ≡ role.Bus → may_go r raw o header p ≡ not (is_number (left_out_of raw header) p)
may_go_is r true o header p h = rw h refl
may_go_is r false o header p h = rw h refl

pub goes : (m : Bus) (t : Moment) (op : OpName) (s : Begun) (b : List ℕ) (p : ℕ) → Lawful t → Ties m t → CanFlood t op s b → has (up (past t)) p ≡ true → not (is_number m.left_out p) ≡ has (targets t.z (past t) s) p
goes m t op s b p l h c is_up =
    let sent = a_send s.act c.is_send in
    let flood = the_flood _ _ t op s l h.1 c.pending c.is_send in
    let out : m.left_out ≡ left_out_of t.z.raw sent.0.header = (subst (IsFlood t.z.raw m.left_out m.copies.items) sent.1 flood.2).0 in
    ap (λ o. not (is_number o p)) out ∙ sym (goes_to t s sent.0 p sent.1 is_up ∙ may_go_is t.z.role t.z.raw (route t.z (past t) s.op) sent.0.header p (is_bus m t h))

pub flood_ties : (m n : Bus) (t : Moment) (op : OpName) (p : ℕ) (s : Begun) (b : List ℕ) (copy : MessageView) → Lawful t → Ties m t → CanFlood t op s b → m.copies.items ≡ n.copies.items ++ copy ∷ [] → n ≡ record m { copies = n.copies } → (wire_text copy ≡ b) × Ties n (also t (Out p b))
flood_ties m n t op p s b copy l h c items same =
    let sent = a_send s.act c.is_send in
    let flood = the_flood _ _ t op s l h.1 c.pending c.is_send in
    let parts = subst (IsFlood t.z.raw m.left_out m.copies.items) sent.1 flood.2 in
    let last = each_init _ n.copies.items copy (subst (AreCopies sent.0.body) items parts.1) in
    let bytes : Some sent.0.body ≡ Some b = sym (bytes_are t.z (past t) s sent.0 (is_bus m t h) sent.1) ∙ c.bytes in
    let now : IsFlood t.z.raw n.left_out n.copies.items s.act = subst (IsFlood t.z.raw n.left_out n.copies.items) (sym sent.1) (ap (λ (x : Bus). x.left_out) same ∙ parts.0, last.0) in (
      ap wire_text last.1 ∙ same_Some sent.0.body b bytes,
      (
        record {
          kind = rw same h.0.kind;
          pipes = rw same h.0.pipes;
          items = rw same h.0.items;
          places = rw same h.0.places;
          pending = rw same h.0.pending;
          contexts = h.0.contexts;
        },
        goes_out _ _ _ _ t op s b p l h.1 c now,
      ),
    )

-- ---- Offers

pub can_flood : (m : Bus) (t : Moment) (op : OpName) → Ties m t → Some op ≡ first_name (filter is_send (pend (past t))) → (s : Begun) × (b : List ℕ) × CanFlood t op s b
can_flood m t op h e = first_floods t op (it_floods t.z (is_bus m t h)) (λ s x. bytes_are t.z (past t) s x (is_bus m t h)) h.0.pending.apart e

head_map : (is : List Item) (x : RecordedMessage) (xs : List RecordedMessage) → x ∷ xs ≡ map message_in is → option_map message_in (head_of is) ≡ Some x
head_map [] x xs h = absurd cc
head_map (i ∷ is) x xs h = let first : x ≡ i.message = cc in ap (λ (y : RecordedMessage). Some y) (sym first)

nothing_kept : (is : List Item) → [] ≡ map message_in is → is ≡ []
nothing_kept [] h = refl
nothing_kept (i ∷ is) h = absurd cc

pub gives : (m : Bus) (t : Moment) (op : OpName) → Ties m t → Some op ≡ receiver_of m.kept.items (pend (past t)) → (s : Begun) × (text : RecordedMessage) × CanGive t op s text
gives m t op h e = go m.kept.items refl e
  where
    go : (ks : List MessageView) → m.kept.items ≡ ks → Some op ≡ receiver_of ks (pend (past t)) → (s : Begun) × (text : RecordedMessage) × CanGive t op s text
    go [] k q = absurd cc
    go (v ∷ vs) k q =
        let s = first_is (filter is_receive (pend (past t))) op q in
        let items : text_of v ∷ map text_of vs ≡ map message_in (pool t.z (past t) 0) = sym (ap (map text_of) k) ∙ h.0.items in
        let can : CanGive t s.0.op s.0 (text_of v) =
        record {
          pending = first_found is_receive (pend (past t)) s.0 h.0.pending.apart s.1;
          may =
              record {
                is_receive = passes_first is_receive (pend (past t)) s.0 s.1;
                first_pending = first_on (pend (past t)) s.0 s.1;
                oldest = ap (λ (is : List Item). option_map message_in (head_of is)) (kept_bus t.z (past t) s.0.ctx (is_bus m t h)) ∙ head_map (pool t.z (past t) 0) (text_of v) (map text_of vs) items;
                live = λ q. let no : false ≡ true = rw (is_bus m t h) at q in absurd cc;
              };
        } in
        (s.0, text_of v, subst (λ (o : OpName). CanGive t o s.0 (text_of v)) s.2 can)

receives_wait : (m : Bus) (t : Moment) → Ties m t → None ≡ receiver_of m.kept.items (pend (past t)) → list_all (receive_settled t.z (past t)) (pend (past t)) ≡ true
receives_wait m t h e = go m.kept.items refl e
  where
    go : (ks : List MessageView) → m.kept.items ≡ ks → None ≡ receiver_of ks (pend (past t)) → list_all (receive_settled t.z (past t)) (pend (past t)) ≡ true
    go [] k q =
        let nil = nothing_kept (pool t.z (past t) 0) (sym (ap (map text_of) k) ∙ h.0.items) in
        none_kept t.z (past t) (λ c. kept_bus t.z (past t) c (is_bus m t h) ∙ nil) (pend (past t))
    go (v ∷ vs) k q = no_receives t.z (past t) (pend (past t)) (none_first (filter is_receive (pend (past t))) q)

pub idle : (m : Bus) (t : Moment) → Ties m t → None ≡ first_name (filter is_send (pend (past t))) → None ≡ receiver_of m.kept.items (pend (past t)) → IsIdle t
idle m t h none wait =
    record {
      settled =
          record {
            receives = receives_wait m t h wait;
            sends = no_sends t.z (past t) (has_full t.turn) (pend (past t)) (none_first (filter is_send (pend (past t))) none);
            again = λ q. let k : false ≡ true = rw (is_bus m t h) at q in absurd cc;
            finished = rw (is_bus m t h) refl;
          };
      no_flood = λ q. none_sending (filter is_send (pend (past t))) none;
    }

-- ---- Ends

-- a send is lost
pub lost_send : (m n : Bus) (t : Moment) (op : OpName) (s : Begun) (x : RecordedMessage) (cause : Cause) (by : ℕ) → Ties m t → pending (past t) op ≡ Some s → Some x ≡ message_of s.act → Holds n.pending (without_begun (pend (past t)) op) → n ≡ record m { pending = n.pending; copies = n.copies } → Ties n (also t (End op (Gone cause by)))
lost_send m n t op s x cause by h p e holds same = (
  record {
    kind = rw same h.0.kind;
    pipes = rw same h.0.pipes;
    items = rw same h.0.items;
    places = rw same h.0.places;
    pending = holds;
    contexts = h.0.contexts;
  },
  send_ends _ _ _ _ t op s (Gone cause by) h.1 p (is_a_send s.act x e),
)

pub lost_receive : (m n : Bus) (t : Moment) (op : OpName) (s : Begun) (cause : Cause) (by : ℕ) → Ties m t → pending (past t) op ≡ Some s → None ≡ message_of s.act → Holds n.pending (without_begun (pend (past t)) op) → n ≡ record m { pending = n.pending } → Ties n (also t (End op (Gone cause by)))
lost_receive m n t op s cause by h p e holds same = (
  record {
    kind = rw same h.0.kind;
    pipes = rw same h.0.pipes;
    items = rw same h.0.items;
    places = rw same h.0.places;
    pending = holds;
    contexts = h.0.contexts;
  },
  rw same (receive_ends _ t op s (Gone cause by) h.0.pending.apart p (is_a_receive s.act e) refl (λ r d q. q) h.1),
)

-- a send went to its pipes
pub flooded_ties : (m n : Bus) (t : Moment) (op : OpName) (s : Begun) → Lawful (also t (End op (Won Sent))) → Ties m t → pending (past t) op ≡ Some s → Holds n.pending (without_begun (pend (past t)) op) → n ≡ record m { pending = n.pending; copies = n.copies } → Ties n (also t (End op (Won Sent)))
flooded_ties m n t op s l h p holds same = (
  record {
    kind = rw same h.0.kind;
    pipes = rw same h.0.pipes;
    items = rw same h.0.items;
    places = rw same h.0.places;
    pending = holds;
    contexts = h.0.contexts;
  },
  send_ends _ _ _ _ t op s (Won Sent) h.1 p (won_send t op s l p),
)

-- a receive is given the oldest
pub given_ties : (m n : Bus) (t : Moment) (op : OpName) (s : Begun) (text : RecordedMessage) (r : Option MessageView) → Ties m t → CanGive t op s text → Holds n.pending (without_begun (pend (past t)) op) → r ≡ slice_get m.kept.items 0 → n.kept ≡ buffer (drop 1 m.kept.items) m.kept.capacity → n ≡ record m { pending = n.pending; kept = n.kept }
    → (option_map text_of r ≡ Some text) × Ties n (also t (End op (Won (Received text))))
given_ties m n t op s text r h c holds first rest same = go m.kept.items refl
  where
    oldest : option_map message_in (head_of (pool t.z (past t) 0)) ≡ Some text
    oldest = ap (λ (is : List Item). option_map message_in (head_of is)) (sym (kept_bus t.z (past t) s.ctx (is_bus m t h))) ∙ c.may.oldest

    less : pool t.z (past (also t (End op (Won (Received text))))) 0 ≡ drop 1 (pool t.z (past t) 0)
    less = ap (λ (b : Bool). cond b (drop 1 (pool t.z (past t) 0)) (pool t.z (past t) 0)) on
      where
        on : is_on_pool t.z 0 (pending (past t) op) ≡ true
        on = rw (c.pending, is_bus m t h) refl

    rest_of : (is : List Item) (x : RecordedMessage) (xs : List RecordedMessage) → x ∷ xs ≡ map message_in is → xs ≡ map message_in (drop 1 is)
    rest_of [] x xs e = absurd cc
    rest_of (i ∷ is) x xs e = cc

    none : (is : List Item) → [] ≡ map message_in is → option_map message_in (head_of is) ≡ Some text → ⊥
    none [] e k = absurd cc
    none (i ∷ is) e k = absurd cc

    go : (ks : List MessageView) → m.kept.items ≡ ks → (option_map text_of r ≡ Some text) × Ties n (also t (End op (Won (Received text))))
    go [] e = absurd (none (pool t.z (past t) 0) (sym (ap (map text_of) e) ∙ h.0.items) oldest)
    go (v ∷ vs) e =
        let now : text_of v ∷ map text_of vs ≡ map message_in (pool t.z (past t) 0) = sym (ap (map text_of) e) ∙ h.0.items in
        let left : n.kept.items ≡ vs = ap (λ (b : Buffer MessageView). b.items) rest ∙ ap (λ (xs : List MessageView). drop 1 xs) e in (
          ap (option_map text_of) (first ∙ ap (λ (xs : List MessageView). slice_get xs 0) e) ∙ sym (head_map (pool t.z (past t) 0) (text_of v) (map text_of vs) now) ∙ oldest,
          (
            record {
              kind = rw same h.0.kind;
              pipes = rw same h.0.pipes;
              items = ap (map text_of) left ∙ rest_of (pool t.z (past t) 0) (text_of v) (map text_of vs) now ∙ ap (map message_in) (sym less);
              places = ap (λ (b : Buffer MessageView). b.capacity) rest ∙ h.0.places ∙ sym (ap (λ (x : Bus). x.options.queue) same);
              pending = holds;
              contexts = h.0.contexts;
            },
            rw same (receive_ends _ t op s (Won (Received text)) h.0.pending.apart c.pending c.may.is_receive refl (λ r d q. q) h.1),
          ),
        )

-- ---- Frames

module _ (m : Bus) (t : Moment) (p : ℕ) (v : MessageView) (h : Ties m t) (short : is_too_long (past t) p v.body ≡ false) where
  taken_in : takes t.z (past t) 0 p v.body ≡ true
  taken_in = rw (is_bus m t h, short) refl

  abbrev item : Item
  item = record { pipe = p; words = []; message = record { header = header_of m.raw p; body = v.body } }

  frame_item : of_frame t.z p v.body ≡ Some item
  frame_item = by_role t.z.role t.z.raw (is_bus m t h) ∙ ap (λ (raw : Bool). let i : Item = record { pipe = p; words = []; message = record { header = header_of raw p; body = v.body } } in Some i) (is_raw m t h)
    where
      by_role : (r : Role) (raw : Bool) → r ≡ role.Bus → item_for r raw t.z.options.ttl p v.body ≡ Some (record { pipe = p; words = []; message = record { header = header_of raw p; body = v.body } })
      by_role r true e = rw e refl
      by_role r false e = rw e refl

  discards : pool t.z (Frame p v.body ∷ past t) 0 ≡ cond (nat_lt (length m.kept.items) m.options.queue) (pool t.z (past t) 0 ++ item ∷ []) (pool t.z (past t) 0)
  discards =
      ap (λ (x : Bool). cond x (add_for t.z.role t.z (of_frame t.z p v.body) (pool t.z (past t) 0)) (pool t.z (past t) 0)) taken_in ∙ ap (λ (o : Option Item). add_for t.z.role t.z o (pool t.z (past t) 0)) frame_item ∙ by_role t.z.role (is_bus m t h)
      ∙ ap (λ (o : Options). cond (nat_lt (length (pool t.z (past t) 0)) o.queue) (pool t.z (past t) 0 ++ item ∷ []) (pool t.z (past t) 0)) (is_options m t h) ∙ ap (λ (n : ℕ). cond (nat_lt n m.options.queue) (pool t.z (past t) 0 ++ item ∷ []) (pool t.z (past t) 0)) many
    where
      by_role : (r : Role) → r ≡ role.Bus → add_for r t.z (Some item) (pool t.z (past t) 0) ≡ cond (nat_lt (length (pool t.z (past t) 0)) t.z.options.queue) (pool t.z (past t) 0 ++ item ∷ []) (pool t.z (past t) 0)
      by_role r e = rw e refl

      long : (xs : List MessageView) → length (map text_of xs) ≡ length xs
      long [] = refl
      long (x ∷ xs) = omega (arith, long xs)

      longer : (is : List Item) → length (map message_in is) ≡ length is
      longer [] = refl
      longer (i ∷ is) = omega (arith, longer is)

      many : length (pool t.z (past t) 0) ≡ length m.kept.items
      many = omega (arith, ap length h.0.items, long m.kept.items, longer (pool t.z (past t) 0))

  discarded_ties : nat_lt (length m.kept.items) m.options.queue ≡ false → Ties m (also t (Frame p v.body))
  discarded_ties full =
      let same = discards ∙ ap (λ (b : Bool). cond b (pool t.z (past t) 0 ++ item ∷ []) (pool t.z (past t) 0)) full in (
        record {
          kind = h.0.kind;
          pipes = h.0.pipes;
          items = h.0.items ∙ ap (map message_in) (sym same);
          places = h.0.places;
          pending = h.0.pending;
          contexts = h.0.contexts;
        },
        goes_on _ t (Frame p v.body) refl refl refl (λ s e q. q) h.1,
      )

  kept_ties : (k : Buffer MessageView) (x : MessageView) → nat_lt (length m.kept.items) m.options.queue ≡ true → x ≡ record v { header = header_of m.raw p } → k ≡ buffer (m.kept.items ++ x ∷ []) m.kept.capacity → Ties (record m { kept = k }) (also t (Frame p v.body))
  kept_ties k x room is more =
      let now = discards ∙ ap (λ (b : Bool). cond b (pool t.z (past t) 0 ++ item ∷ []) (pool t.z (past t) 0)) room in
      let items : k.items ≡ m.kept.items ++ x ∷ [] = ap (λ (b : Buffer MessageView). b.items) more in
      let text : text_of x ≡ message_in item = ap text_of is in (
        record {
          kind = h.0.kind;
          pipes = h.0.pipes;
          items = ap (map text_of) items ∙ map-append text_of m.kept.items (x ∷ []) ∙ ap (λ (y : RecordedMessage). map text_of m.kept.items ++ y ∷ []) text ∙ ap (λ (ys : List RecordedMessage). ys ++ message_in item ∷ []) h.0.items ∙ sym (map-append message_in (pool t.z (past t) 0) (item ∷ [])) ∙ ap (map message_in) (sym now);
          places = ap (λ (b : Buffer MessageView). b.capacity) more ∙ h.0.places;
          pending = h.0.pending;
          contexts = h.0.contexts;
        },
        goes_on _ t (Frame p v.body) refl refl refl (λ s e q. q) h.1,
      )

  -- it is kept where there is a place for it, otherwise discarded
  pub frame_ties : {U : Type 0} (k : Buffer MessageView) (x : MessageView) (r : Result U MessageView) → x ≡ record v { header = header_of m.raw p } → IsOk r ↔ (length m.kept.items < m.kept.capacity) → OnOk r (k ≡ buffer (m.kept.items ++ x ∷ []) m.kept.capacity) → IfErr r (λ y. (y ≡ x) × (k ≡ m.kept)) → Ties (record m { kept = k }) (also t (Frame p v.body))
  frame_ties k x (Ok u) is fits ok err = kept_ties k x (less (length m.kept.items) m.kept.capacity m.options.queue (fits.0 refl) h.0.places) is ok
    where
      less : (n c q : ℕ) → n < c → c ≡ q → nat_lt n q ≡ true
      less n c q a e = grind (arith, nat_tests)
  frame_ties k x (Err y) is fits ok err = subst (λ (b : Buffer MessageView). Ties (record m { kept = b }) (also t (Frame p v.body))) (sym err.1) (discarded_ties (full (length m.kept.items) m.kept.capacity m.options.queue (λ a. let no : false ≡ true = fits.1 a in absurd cc) h.0.places))
    where
      full : (n c q : ℕ) → (n < c → ⊥) → c ≡ q → nat_lt n q ≡ false
      full n c q a e = go (nat_lt n q) refl
        where
          go : (b : Bool) → nat_lt n q ≡ b → b ≡ false
          go true k = absurd (a (grind (arith, nat_tests)))
          go false k = refl

pub well_formed : (m : Bus) (t : Moment) (b : List ℕ) → Ties m t → breaks_rule t.z b ≡ false
well_formed m t b h = rw (is_bus m t h) refl

-- ---- A turn begins

pub fresh_ties : (m : Bus) (t : Moment) (k : ℕ) → Lawful (next t k) → Ties m t → Ties m (next t k)
fresh_ties m t k l h = (h.0, turn_begins _ _ t k l (it_floods t.z (is_bus m t h)))
