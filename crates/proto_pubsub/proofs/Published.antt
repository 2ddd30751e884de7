-- A pub stands for its history after each call.
use Rattle.std.proofs.Common.{◌≡◌, refl, ap, sym, ◌∙◌, subst, List, [], ◌∷◌, ◌++◌, ℕ, ◌+◌, ◌-◌, Bool, true, false, cond, Option, Some, None}
use Rattle.std.specs.Prelude.{filter, min, ◌^◌}
use Rattle.std.specs.Option.{option_map}
use Rattle.std.proofs.lemmas.Option.{same_Some}
use Rattle.sp_base.specs.declared.OpName.{OpName}
use Rattle.sp_base.specs.declared.role.Role.{Role}
use Rattle.sp_base.specs.declared.role.Role.TheVariants as role
use Rattle.sp_msg.specs.Views.{MessageView, wire_text}
use Rattle.sp_history.specs.declared.setting.Setting.{Setting}
use Rattle.sp_history.specs.declared.entry.Entry.{Entry}
use Rattle.sp_history.specs.declared.entry.Entry.TheVariants.{Up, Down, Frame, Full, Out, End}
use Rattle.sp_history.specs.declared.entry.Why.{Why}
use Rattle.sp_history.specs.declared.entry.WireNumbers.{WireNumbers}
use Rattle.sp_history.specs.declared.entry.RecordedAct.TheVariants.{Send}
use Rattle.sp_history.specs.declared.entry.Cause.{Cause}
use Rattle.sp_history.specs.declared.entry.Ending.TheVariants.{Won, Gone}
use Rattle.sp_history.specs.declared.entry.Completion.TheVariants.{Sent}
use Rattle.sp_history.specs.declared.entry.RecordedMessage.{RecordedMessage}
use Rattle.sp_history.specs.declared.parts.Begun.{Begun}
use Rattle.sp_history.specs.declared.parts.Item.{Item}
use Rattle.sp_history.specs.declared.parts.Origin.{Origin}
use Rattle.sp_history.specs.Setting.{floods}
use Rattle.sp_history.specs.Lists.{has, head_of}
use Rattle.sp_history.specs.Past.{without_begun, pend, pending, up}
use Rattle.sp_history.specs.Kept.{pool, kept, route, takes, add_for}
use Rattle.sp_history.specs.Frames.{breaks_rule, item_of as of_frame}
use Rattle.sp_history.specs.Sends.{may_go, targets, bytes_of}
use Rattle.sp_history.specs.Settled.{has_full}
use Rattle.sp_history.specs.Moments.{Moment, Lawful, past, also, next}
use Rattle.sp_proto.specs.Kinds.{Kind}
use Rattle.sp_proto.specs.Machines.{CanGive, CanFlood, IsIdle, NoFlood, message_of}
use Rattle.proto_shared.specs.Copies.{AreCopies}
use Rattle.proto_shared.proofs.Copying.{pool_down, each_init}
use Rattle.proto_shared.proofs.FloodTurns.{no_flood, goes_on, pipe_down, pipe_full, turn_begins}
use Rattle.proto_shared.proofs.Sending.{a_send, is_a_send, is_a_receive, won_send, the_flood, can_flood as first_floods, none_sending, goes_to, goes_out, send_ends, receive_ends}
use Rattle.proto_shared.proofs.PipeCounts.{counted_up, counted_down}
use Rattle.proto_shared.specs.Waits.{Holds, is_send, first_name}
use Rattle.proto_shared.proofs.Firsts.{none_kept, no_sends, none_first}
use Rattle.proto_pubsub.specs.declared.publish.Publish.{Publish}
use Rattle.proto_pubsub.specs.Pubs.{Ties, IsFlood}

pub is_pub : (m : Publish) (t : Moment) → Ties m t → t.z.role ≡ role.Pub
is_pub m t h = ap (λ (k : Kind). k.role) h.0.kind

it_floods : (z : Setting) → z.role ≡ role.Pub → floods z.role ≡ true
it_floods z h = rw h refl

kept_pub : (z : Setting) (before : List Entry) (c : ℕ) → z.role ≡ role.Pub → kept z before c ≡ pool z before 0
kept_pub z before c h = rw h refl

-- ---- Pipes

pub up_ties : (m n : Publish) (t : Moment) (p place limit : ℕ) (name : WireNumbers) → NoFlood t → Lawful (also t (Up p place limit name)) → Ties m t → n ≡ record m { pipes = min (m.pipes + 1) (2 ^ 64 - 1) } → Ties n (also t (Up p place limit name))
up_ties m n t p place limit name calm l h same = (
  record {
    kind = rw same h.0.kind;
    pipes = rw same (counted_up t p place limit name m.pipes l h.0.pipes);
    items = h.0.items;
    pending = rw same h.0.pending;
    contexts = h.0.contexts;
  },
  no_flood _ _ (also t (Up p place limit name)) (calm (it_floods t.z (is_pub m t h))),
)

pub down_ties : (m n : Publish) (t : Moment) (p : ℕ) (why : Why) → Lawful (also t (Down p why)) → Ties m t → n ≡ record m { pipes = m.pipes - 1 } → Ties n (also t (Down p why))
down_ties m n t p why l h same = (
  record {
    kind = rw same h.0.kind;
    pipes = rw same (counted_down t p why m.pipes l h.0.pipes);
    items = sym (pool_down t.z (past t) p why (it_floods t.z (is_pub m t h))) ∙ h.0.items;
    pending = rw same h.0.pending;
    contexts = h.0.contexts;
  },
  rw same (pipe_down _ _ t p why (it_floods t.z (is_pub m t h)) h.1),
)

pub full_ties : (m : Publish) (t : Moment) (p : ℕ) → Ties m t → Ties m (also t (Full p))
full_ties m t p h = (h.0, pipe_full _ _ t p (it_floods t.z (is_pub m t h)) h.1)

bytes_are : (z : Setting) (before : List Entry) (s : Begun) (m : RecordedMessage) → z.role ≡ role.Pub → s.act ≡ Send m → bytes_of z before s ≡ Some m.body
bytes_are z before s m h e = rw (e, h) refl

-- ---- It goes out

may_go_is : (r : Role) (raw : Bool) (o : Option Origin) (header : List ℕ) (p : ℕ) → r ≡ role.Pub → may_go r raw o header p ≡ true
may_go_is r raw o header p h = rw h refl

pub goes : (m : Publish) (t : Moment) (op : OpName) (s : Begun) (b : List ℕ) (p : ℕ) → Ties m t → CanFlood t op s b → has (up (past t)) p ≡ true → true ≡ has (targets t.z (past t) s) p
goes m t op s b p h c is_up =
    let sent = a_send s.act c.is_send in
    sym (goes_to t s sent.0 p sent.1 is_up ∙ may_go_is t.z.role t.z.raw (route t.z (past t) s.op) sent.0.header p (is_pub m t h))

pub flood_ties : (m n : Publish) (t : Moment) (op : OpName) (p : ℕ) (s : Begun) (b : List ℕ) (copy : MessageView) → Lawful t → Ties m t → CanFlood t op s b → m.copies.items ≡ n.copies.items ++ copy ∷ [] → n ≡ record m { copies = n.copies } → (wire_text copy ≡ b) × Ties n (also t (Out p b))
flood_ties m n t op p s b copy l h c items same =
    let sent = a_send s.act c.is_send in
    let flood = the_flood _ _ t op s l h.1 c.pending c.is_send in
    let parts = subst (IsFlood m.copies.items) sent.1 flood.2 in
    let last = each_init _ n.copies.items copy (subst (AreCopies sent.0.body) items parts) in
    let bytes : Some sent.0.body ≡ Some b = sym (bytes_are t.z (past t) s sent.0 (is_pub m t h) sent.1) ∙ c.bytes in
    let now : IsFlood n.copies.items s.act = subst (IsFlood n.copies.items) (sym sent.1) last.0 in (
      ap wire_text last.1 ∙ same_Some sent.0.body b bytes,
      (
        record {
          kind = rw same h.0.kind;
          pipes = rw same h.0.pipes;
          items = h.0.items;
          pending = rw same h.0.pending;
          contexts = h.0.contexts;
        },
        goes_out _ _ _ _ t op s b p l h.1 c now,
      ),
    )

-- ---- Offers

pub can_flood : (m : Publish) (t : Moment) (op : OpName) → Ties m t → Some op ≡ first_name (filter is_send (pend (past t))) → (s : Begun) × (b : List ℕ) × CanFlood t op s b
can_flood m t op h e = first_floods t op (it_floods t.z (is_pub m t h)) (λ s x. bytes_are t.z (past t) s x (is_pub m t h)) h.0.pending.apart e

pub idle : (m : Publish) (t : Moment) → Ties m t → None ≡ first_name (filter is_send (pend (past t))) → IsIdle t
idle m t h none =
    record {
      settled =
          record {
            receives = none_kept t.z (past t) (λ c. kept_pub t.z (past t) c (is_pub m t h) ∙ h.0.items) (pend (past t));
            sends = no_sends t.z (past t) (has_full t.turn) (pend (past t)) (none_first (filter is_send (pend (past t))) none);
            again = λ q. let k : false ≡ true = rw (is_pub m t h) at q in absurd cc;
            finished = rw (is_pub m t h) refl;
          };
      no_flood = λ q. none_sending (filter is_send (pend (past t))) none;
    }

-- ---- Ends

-- a send is lost
pub lost_send : (m n : Publish) (t : Moment) (op : OpName) (s : Begun) (x : RecordedMessage) (cause : Cause) (by : ℕ) → Ties m t → pending (past t) op ≡ Some s → Some x ≡ message_of s.act → Holds n.pending (without_begun (pend (past t)) op) → n ≡ record m { pending = n.pending; copies = n.copies } → Ties n (also t (End op (Gone cause by)))
lost_send m n t op s x cause by h p e holds same = (
  record {
    kind = rw same h.0.kind;
    pipes = rw same h.0.pipes;
    items = h.0.items;
    pending = holds;
    contexts = h.0.contexts;
  },
  send_ends _ _ _ _ t op s (Gone cause by) h.1 p (is_a_send s.act x e),
)

pub lost_receive : (m n : Publish) (t : Moment) (op : OpName) (s : Begun) (cause : Cause) (by : ℕ) → Ties m t → pending (past t) op ≡ Some s → None ≡ message_of s.act → Holds n.pending (without_begun (pend (past t)) op) → n ≡ record m { pending = n.pending } → Ties n (also t (End op (Gone cause by)))
lost_receive m n t op s cause by h p e holds same = (
  record {
    kind = rw same h.0.kind;
    pipes = rw same h.0.pipes;
    items = h.0.items;
    pending = holds;
    contexts = h.0.contexts;
  },
  rw same (receive_ends _ t op s (Gone cause by) h.0.pending.apart p (is_a_receive s.act e) refl (λ r d q. q) h.1),
)

-- a send went to its pipes
pub flooded_ties : (m n : Publish) (t : Moment) (op : OpName) (s : Begun) → Lawful (also t (End op (Won Sent))) → Ties m t → pending (past t) op ≡ Some s → Holds n.pending (without_begun (pend (past t)) op) → n ≡ record m { pending = n.pending; copies = n.copies } → Ties n (also t (End op (Won Sent)))
flooded_ties m n t op s l h p holds same = (
  record {
    kind = rw same h.0.kind;
    pipes = rw same h.0.pipes;
    items = h.0.items;
    pending = holds;
    contexts = h.0.contexts;
  },
  send_ends _ _ _ _ t op s (Won Sent) h.1 p (won_send t op s l p),
)

-- no receive is given anything
pub none_given : (m : Publish) (t : Moment) (op : OpName) (s : Begun) (text : RecordedMessage) → Ties m t → CanGive t op s text → ⊥
none_given m t op s text h c =
    let nil : kept t.z (past t) s.ctx ≡ [] = kept_pub t.z (past t) s.ctx (is_pub m t h) ∙ h.0.items in
    let no : None ≡ Some text = sym (ap (λ (is : List Item). option_map (λ (i : Item). i.message) (head_of is)) nil) ∙ c.may.oldest in cc

-- ---- Frames

module _ (m : Publish) (t : Moment) (p : ℕ) (b : List ℕ) (h : Ties m t) where
  pub malformed_ties : Ties m (also t (Frame p b))
  malformed_ties = (
    record {
      kind = h.0.kind;
      pipes = h.0.pipes;
      items = not_taken ∙ h.0.items;
      pending = h.0.pending;
      contexts = h.0.contexts;
    },
    goes_on _ t (Frame p b) refl refl refl (λ s e q. q) h.1,
  )
    where
      not_taken : pool t.z (Frame p b ∷ past t) 0 ≡ pool t.z (past t) 0
      not_taken = ap (λ (taken : Bool). cond taken (add_for t.z.role t.z (of_frame t.z p b) (pool t.z (past t) 0)) (pool t.z (past t) 0)) passed
        where
          passed : takes t.z (past t) 0 p b ≡ false
          passed = rw (is_pub m t h) refl

pub ill_formed : (m : Publish) (t : Moment) (b : List ℕ) → Ties m t → breaks_rule t.z b ≡ true
ill_formed m t b h = rw (is_pub m t h) refl

-- ---- A turn begins

pub fresh_ties : (m : Publish) (t : Moment) (k : ℕ) → Lawful (next t k) → Ties m t → Ties m (next t k)
fresh_ties m t k l h = (h.0, turn_begins _ _ t k l (it_floods t.z (is_pub m t h)))
