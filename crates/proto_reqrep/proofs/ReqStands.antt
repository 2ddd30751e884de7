-- A req stands for its history after each call.
use Rattle.std.proofs.Common.{◌≡◌, ◌≢◌, refl, ap, sym, ◌∙◌, subst, List, [], ◌∷◌, ℕ, Bool, true, false, cond, Option, Some, None, map}
use Rattle.std.specs.Prelude.{find, drop, is_some}
use Rattle.std.specs.Option.{option_map}
use Rattle.sp_base.specs.declared.OpName.{OpName}
use Rattle.sp_base.specs.declared.role.Role.TheVariants as role
use Rattle.sp_msg.specs.Views.{MessageView}
use Rattle.sp_history.specs.declared.setting.Setting.{Setting}
use Rattle.sp_history.specs.declared.entry.Entry.{Entry}
use Rattle.sp_history.specs.declared.entry.Entry.TheVariants.{End}
use Rattle.sp_history.specs.declared.entry.RecordedAct.TheVariants.{Recv, Send}
use Rattle.sp_history.specs.declared.entry.Cause.{Cause}
use Rattle.sp_history.specs.declared.entry.Ending.{Ending}
use Rattle.sp_history.specs.declared.entry.Ending.TheVariants.{Won, Gone}
use Rattle.sp_history.specs.declared.entry.Completion.TheVariants.{Received}
use Rattle.sp_history.specs.declared.entry.RecordedMessage.{RecordedMessage}
use Rattle.sp_history.specs.declared.parts.Begun.{Begun}
use Rattle.sp_history.specs.declared.parts.Item.{Item}
use Rattle.sp_history.specs.declared.parts.LiveRequest.{LiveRequest}
use Rattle.sp_history.specs.declared.parts.Requests.{Requests}
use Rattle.sp_history.specs.declared.parts.How.TheVariants as how
use Rattle.sp_history.specs.Lists.{head_of, same_op}
use Rattle.sp_history.specs.Setting.{is_req, floods, has_requests}
use Rattle.sp_history.specs.Past.{is_of, without_begun, pend, pending}
use Rattle.sp_history.specs.Kept.{pool, kept, replies_of, pool_of, is_on_pool}
use Rattle.sp_history.specs.Requests.{requests, no_requests, asked, is_orphan, end_on, without_orphan, after_end, of_live, change_live, with_taken, live_on, is_on}
use Rattle.sp_history.specs.Once.{AreApart}
use Rattle.sp_history.specs.Moments.{Moment, past}
use Rattle.sp_history.proofs.OnceHolds.{same_op-eq, occurs-without}
use Rattle.sp_history.proofs.Requesting.{end_makes}
use Rattle.sp_proto.specs.Kinds.{Kind, text_of}
use Rattle.sp_proto.specs.Machines.{CanGive, CanSend, CanDrop, message_of}
use Rattle.proto_reqrep.specs.declared.req.Request.{Request as Machine}
use Rattle.proto_live_requests.specs.declared.live.Live.{Live}
use Rattle.proto_live_requests.specs.declared.live.KeptReply.{KeptReply}
use Rattle.proto_reqrep.specs.declared.req.Asking.{Asking}
use Rattle.sp_proto.specs.Kinds.{act_of}
use Rattle.proto_live_requests.specs.LiveRequests.{without_live, is_live_on, request_of, item_of, items_of, reply_in, message_in}
use Rattle.proto_reqrep.specs.Reqs.{Ties, Asked, begun_of, is_asked, is_sending, orphaned, without_first}
use Rattle.proto_reqrep.proofs.Orphaned.{flag_of}
use Rattle.proto_live_requests.proofs.RequestLives.{find_request, sound_at}
use Rattle.proto_reqrep.proofs.OwnedRequests.{owned_taken, only_receive, none_beside}
use Rattle.proto_reqrep.proofs.Requested.{taken, taken_own, no_such, ended, ended_alone}

pub is_req_role : (m : Machine) (t : Moment) → Ties m t → t.z.role ≡ role.Req
is_req_role m t h = ap (λ (k : Kind). k.role) h.0.kind

pub is_raw : (m : Machine) (t : Moment) → Ties m t → t.z.raw ≡ m.raw
is_raw m t h = ap (λ (k : Kind). k.raw) h.0.kind

pub asks : (z : Setting) → z.role ≡ role.Req → z.raw ≡ false → has_requests z ≡ true
asks z h r = rw (h, r) refl

pub asks_nothing : (z : Setting) → z.role ≡ role.Req → z.raw ≡ true → has_requests z ≡ false
asks_nothing z h r = rw (h, r) refl

pub req_is : (z : Setting) → z.role ≡ role.Req → is_req z.role ≡ true
req_is z h = rw h refl

pub never_floods : {A : Type 0} (m : Machine) (t : Moment) → Ties m t → floods t.z.role ≡ true → A
never_floods m t h f = let k : false ≡ true = rw (is_req_role m t h) at f in absurd cc

pub never_drops : {A : Type 0} (m : Machine) (t : Moment) (op : OpName) (s : Begun) → Ties m t → CanDrop t op s → A
never_drops m t op s h c = let k : false ≡ true = rw (is_req_role m t h) at c.nowhere in absurd cc

-- raw, there are no requests at any time
pub raw_same : (z : Setting) (a b : List Entry) → has_requests z ≡ false → requests z a ≡ requests z b
raw_same z a b h = ap (λ q. cond q (asked z a) no_requests) h ∙ sym (ap (λ q. cond q (asked z b) no_requests) h)

pub raw_end : (z : Setting) (before : List Entry) (op : OpName) (ending : Ending) → has_requests z ≡ false → without_orphan op (requests z before) ≡ requests z (End op ending ∷ before)
raw_end z before op ending h = ap (λ q. without_orphan op (cond q (asked z before) no_requests)) h ∙ sym (ap (λ q. cond q (asked z (End op ending ∷ before)) no_requests) h)

live_end : (z : Setting) (before : List Entry) (op : OpName) (s : Begun) (ending : Ending) → has_requests z ≡ true → pending before op ≡ Some s → is_orphan (requests z before) s.op ≡ false
    → requests z (End op ending ∷ before) ≡ without_orphan op (after_end z ending (Some s) (without_begun (pend before) op) (requests z before))
live_end z before op s ending h p o =
    end_makes z before op ending h ∙ ap (λ (x : Option Begun). without_orphan op (after_end z ending (of_live (requests z before) x) (without_begun (pend before) op) (requests z before))) p
    ∙ ap (λ q. without_orphan op (after_end z ending (cond q None (Some s)) (without_begun (pend before) op) (requests z before))) o

orphan_end : (z : Setting) (before : List Entry) (op : OpName) (s : Begun) (ending : Ending) → has_requests z ≡ true → pending before op ≡ Some s → is_orphan (requests z before) s.op ≡ true
    → requests z (End op ending ∷ before) ≡ without_orphan op (requests z before)
orphan_end z before op s ending h p o =
    end_makes z before op ending h ∙ ap (λ (x : Option Begun). without_orphan op (after_end z ending (of_live (requests z before) x) (without_begun (pend before) op) (requests z before))) p
    ∙ ap (λ q. without_orphan op (after_end z ending (cond q None (Some s)) (without_begun (pend before) op) (requests z before))) o

-- ---- The operation of a name

find_begun : (op : OpName) (ws : List Asking) (s : Begun) → find (is_of op) (map begun_of ws) ≡ Some s → (w : Asking) × (find (is_asked op) ws ≡ Some w) × (begun_of w ≡ s)
find_begun op [] s h = absurd cc
find_begun op (w ∷ ws) s h = go (is_asked op w) h (find_begun op ws s)
  where
    some_inj : Some (begun_of w) ≡ Some s → begun_of w ≡ s
    some_inj q = cc

    go : (b : Bool) → cond b (Some (begun_of w)) (find (is_of op) (map begun_of ws)) ≡ Some s → (find (is_of op) (map begun_of ws) ≡ Some s → (v : Asking) × (find (is_asked op) ws ≡ Some v) × (begun_of v ≡ s))
        → (v : Asking) × (cond b (Some w) (find (is_asked op) ws) ≡ Some v) × (begun_of v ≡ s)
    go true h again = (w, refl, some_inj h)
    go false h again = again h

pub the_op : (m : Machine) (t : Moment) (op : OpName) (s : Begun) → Ties m t → pending (past t) op ≡ Some s → (w : Asking) × (find (is_asked op) m.waiting.items ≡ Some w) × (begun_of w ≡ s)
the_op m t op s h p = find_begun op m.waiting.items s (ap (find (is_of op)) h.3.pending ∙ p)

pub none_taken : {A : Type 0} (m : Machine) (t : Moment) (op : OpName) (s : Begun) → Ties m t → pending (past t) op ≡ Some s → None ≡ find (is_asked op) m.waiting.items → A
none_taken m t op s h p e = let v = the_op m t op s h p in let k : None ≡ Some v.0 = e ∙ v.1 in absurd cc

pub is_begun : (m : Machine) (t : Moment) (op : OpName) (s : Begun) (w : Asking) → Ties m t → pending (past t) op ≡ Some s → Some w ≡ find (is_asked op) m.waiting.items → begun_of w ≡ s
is_begun m t op s w h p e = let v = the_op m t op s h p in ap begun_of (some_inj v.0 (e ∙ v.1)) ∙ v.2
  where
    some_inj : (v : Asking) → Some w ≡ Some v → w ≡ v
    some_inj v q = cc

named : (op : OpName) (ws : List Asking) (w : Asking) → find (is_asked op) ws ≡ Some w → w.op ≡ op
named op [] w h = absurd cc
named op (v ∷ ws) w h = go (same_op v.op op) refl h (named op ws w)
  where
    some_inj : Some v ≡ Some w → v ≡ w
    some_inj q = cc

    go : (b : Bool) → same_op v.op op ≡ b → cond b (Some v) (find (is_asked op) ws) ≡ Some w → (find (is_asked op) ws ≡ Some w → w.op ≡ op) → w.op ≡ op
    go true e h again = ap (λ (u : Asking). u.op) (sym (some_inj h)) ∙ same_op-eq v.op op e
    go false e h again = again h

-- its request has ended, or not
pub flag : (m : Machine) (t : Moment) (P : Asking → Bool) (w : Asking) → Ties m t → find P m.waiting.items ≡ Some w → is_orphan (requests t.z (past t)) w.op ≡ w.is_orphan
flag m t P w h f = h.3.orphans w.op ∙ flag_of m.waiting.items P w (subst (λ (l : List Begun). AreApart l) (sym h.3.pending) h.3.apart) f

pub its_message : (s : Begun) (w : Asking) (x : MessageView) → begun_of w ≡ s → w.message ≡ Some x → Some (text_of x) ≡ message_of s.act
its_message s w x e g = sym (ap (λ (o : Option MessageView). message_of (act_of o)) g) ∙ ap (λ (q : Begun). message_of q.act) e

pub no_message : (s : Begun) (w : Asking) → begun_of w ≡ s → w.message ≡ None → None ≡ message_of s.act
no_message s w e g = sym (ap (λ (o : Option MessageView). message_of (act_of o)) g) ∙ ap (λ (q : Begun). message_of q.act) e

pub recv_isnt_send : {A : Type 0} (t : Moment) (op : OpName) (p : ℕ) (s : Begun) (b : List ℕ) (w : Asking) → CanSend t op p s b → begun_of w ≡ s → w.message ≡ None → A
recv_isnt_send t op p s b w c e g =
    let act : s.act ≡ Recv = ap (λ (q : Begun). q.act) (sym e) ∙ ap act_of g in
    let k : false ≡ true = rw act at c.target in
    absurd cc

pub send_isnt_recv : {A : Type 0} (t : Moment) (op : OpName) (s : Begun) (text : RecordedMessage) (w : Asking) (x : MessageView) → CanGive t op s text → begun_of w ≡ s → w.message ≡ Some x → A
send_isnt_recv t op s text w x c e g =
    let act : s.act ≡ Send (text_of x) = ap (λ (q : Begun). q.act) (sym e) ∙ ap act_of g in
    let k : false ≡ true = rw act at c.may.is_receive in
    absurd cc

-- ---- An operation is lost

module _ (m : Machine) (t : Moment) (op : OpName) (s : Begun) (w : Asking) (cause : Cause) (by : ℕ) (h : Ties m t) (p : pending (past t) op ≡ Some s) (f : Some w ≡ find (is_asked op) m.waiting.items) where
  abbrev pub lost_past : List Entry
  lost_past = End op (Gone cause by) ∷ past t

  its : begun_of w ≡ s
  its = is_begun m t op s w h p f

  orphan_is : is_orphan (requests t.z (past t)) s.op ≡ w.is_orphan
  orphan_is = ap (λ (q : Begun). is_orphan (requests t.z (past t)) q.op) (sym its) ∙ flag m t (is_asked op) w h (sym f)

  name_is : s.op ≡ op
  name_is = ap (λ (q : Begun). q.op) (sym its) ∙ named op m.waiting.items w (sym f)

  pub lost_raw : m.raw ≡ true → Asked m.raw m.live.items m.last_id (without_first op m.waiting.items) (pend lost_past) (requests t.z lost_past)
  lost_raw r =
      let nothing = asks_nothing t.z (is_req_role m t h) (is_raw m t h ∙ r) in
      subst (λ (rs : Requests). Asked m.raw m.live.items m.last_id (without_first op m.waiting.items) (pend lost_past) rs) (raw_end t.z (past t) op (Gone cause by) nothing) (taken m.raw m.live.items m.last_id m.waiting.items (pend (past t)) (requests t.z (past t)) op h.3)

  pub lost_orphan : m.raw ≡ false → w.is_orphan ≡ true → Asked m.raw m.live.items m.last_id (without_first op m.waiting.items) (pend lost_past) (requests t.z lost_past)
  lost_orphan r o =
      let has_some = asks t.z (is_req_role m t h) (is_raw m t h ∙ r) in
      subst (λ (rs : Requests). Asked m.raw m.live.items m.last_id (without_first op m.waiting.items) (pend lost_past) rs) (sym (orphan_end t.z (past t) op s (Gone cause by) has_some p (orphan_is ∙ o))) (taken m.raw m.live.items m.last_id m.waiting.items (pend (past t)) (requests t.z (past t)) op h.3)

  pub lost_live : m.raw ≡ false → w.is_orphan ≡ false → Asked m.raw (without_live w.ctx m.live.items) m.last_id (map (orphaned w.ctx) (without_first op m.waiting.items)) (pend lost_past) (requests t.z lost_past)
  lost_live r o =
      let rs = requests t.z (past t) in
      let left = without_begun (pend (past t)) op in
      let has_some = asks t.z (is_req_role m t h) (is_raw m t h ∙ r) in
      let own : is_orphan rs op ≡ false = ap (is_orphan rs) (sym name_is) ∙ orphan_is ∙ o in
      let first = taken_own m.raw m.live.items m.last_id m.waiting.items (pend (past t)) rs op h.3 own in
      let second = ended m.raw m.live.items m.last_id (without_first op m.waiting.items) left rs w.ctx how.GivenUp refl first in
      let third = no_such m.raw (without_live w.ctx m.live.items) m.last_id (map (orphaned w.ctx) (without_first op m.waiting.items)) left (end_on (w.ctx ∷ []) how.GivenUp left rs) op second (occurs-without (pend (past t)) op) in
      let makes : requests t.z lost_past ≡ without_orphan op (end_on (s.ctx ∷ []) how.GivenUp left rs) =
      live_end t.z (past t) op s (Gone cause by) has_some p (orphan_is ∙ o)
      ∙ ap (λ q. without_orphan op (cond q (end_on (s.ctx ∷ []) how.GivenUp left rs) rs)) (req_is t.z (is_req_role m t h)) in
      let ctx_is : w.ctx ≡ s.ctx = ap (λ (q : Begun). q.ctx) its in
      subst (λ (q : Requests). Asked m.raw (without_live w.ctx m.live.items) m.last_id (map (orphaned w.ctx) (without_first op m.waiting.items)) (pend lost_past) q)
      (ap (λ n. without_orphan op (end_on (n ∷ []) how.GivenUp left rs)) ctx_is ∙ sym makes) third

-- ---- A receive is given a message

kept_cooked : (z : Setting) (before : List Entry) (c : ℕ) → has_requests z ≡ true → kept z before c ≡ replies_of (live_on z before c)
kept_cooked z before c h = ap (λ q. cond q (replies_of (live_on z before c)) (pool z before (pool_of z c))) h

pub kept_raw : (z : Setting) (before : List Entry) (c : ℕ) → z.role ≡ role.Req → z.raw ≡ true → kept z before c ≡ pool z before 0
kept_raw z before c h r = rw (h, r) refl

pub live_is : (m : Machine) (t : Moment) (c : ℕ) → Ties m t → live_on t.z (past t) c ≡ option_map request_of (find (is_live_on c) m.live.items)
live_is m t c h = ap (find (is_on c)) (sym h.3.live) ∙ find_request c m.live.items

pub kept_is : (m : Machine) (t : Moment) (c : ℕ) → Ties m t → m.raw ≡ false → kept t.z (past t) c ≡ replies_of (option_map request_of (find (is_live_on c) m.live.items))
kept_is m t c h r = kept_cooked t.z (past t) c (asks t.z (is_req_role m t h) (is_raw m t h ∙ r)) ∙ ap replies_of (live_is m t c h)

module _ (m : Machine) (t : Moment) (op : OpName) (s : Begun) (w : Asking) (text : RecordedMessage) (h : Ties m t) (g : CanGive t op s text) (f : Some w ≡ find (is_asked op) m.waiting.items) where
  abbrev pub given_past : List Entry
  given_past = End op (Won (Received text)) ∷ past t

  given_its : begun_of w ≡ s
  given_its = is_begun m t op s w h g.pending f

  -- the request that is answered has a reply, and went out
  reply_there : m.raw ≡ false → (x : Live) × (find (is_live_on w.ctx) m.live.items ≡ Some x) × (option_map text_of (message_in x.reply) ≡ Some text) × (x.last_out ≢ None)
  reply_there r = go (find (is_live_on w.ctx) m.live.items) refl
    where
      oldest : option_map (λ (i : Item). i.message) (head_of (replies_of (option_map request_of (find (is_live_on w.ctx) m.live.items)))) ≡ Some text
      oldest = ap (λ (is : List Item). option_map (λ (i : Item). i.message) (head_of is)) (sym (kept_is m t w.ctx h r)) ∙ ap (λ (q : Begun). option_map (λ (i : Item). i.message) (head_of (kept t.z (past t) q.ctx))) given_its ∙ g.may.oldest

      with_one : (x : Live) → find (is_live_on w.ctx) m.live.items ≡ Some x → (k : Option KeptReply) → x.reply ≡ k → option_map (λ (i : Item). i.message) (head_of (items_of k)) ≡ Some text → (option_map text_of (message_in x.reply) ≡ Some text) × (x.last_out ≢ None)
      with_one x e None q o = absurd cc
      with_one x e (Some k) q o =
          (ap (λ (y : Option KeptReply). option_map text_of (message_in y)) q ∙ o, λ n. let z : x.reply ≡ None = (sound_at w.ctx m.live.items x h.3.sound e).2 n in let bad : Some k ≡ None = sym q ∙ z in absurd cc)

      go : (o : Option Live) → find (is_live_on w.ctx) m.live.items ≡ o → (x : Live) × (find (is_live_on w.ctx) m.live.items ≡ Some x) × (option_map text_of (message_in x.reply) ≡ Some text) × (x.last_out ≢ None)
      go None e = let bad : None ≡ Some text = sym (ap (λ (o : Option Live). option_map (λ (i : Item). i.message) (head_of (replies_of (option_map request_of o)))) e) ∙ oldest in absurd cc
      go (Some x) e =
          let k = with_one x e x.reply refl (sym (ap (λ (o : Option Live). option_map (λ (i : Item). i.message) (head_of (replies_of (option_map request_of o)))) e) ∙ oldest) in
          (x, e, k.0, k.1)

  pub given_message : m.raw ≡ false → option_map text_of (reply_in (find (is_live_on w.ctx) m.live.items)) ≡ Some text
  given_message r = let x = reply_there r in ap (λ (o : Option Live). option_map text_of (reply_in o)) x.1 ∙ x.2

  pub given_cooked : m.raw ≡ false → w.message ≡ None → Asked m.raw (without_live w.ctx m.live.items) m.last_id (without_first op m.waiting.items) (pend given_past) (requests t.z given_past)
  given_cooked r n =
      let rs = requests t.z (past t) in
      let left = without_begun (pend (past t)) op in
      let has_some = asks t.z (is_req_role m t h) (is_raw m t h ∙ r) in
      let orphan_is : is_orphan rs s.op ≡ false = alive (is_orphan rs s.op) refl has_some in
      let name_is : s.op ≡ op = ap (λ (q : Begun). q.op) (sym given_its) ∙ named op m.waiting.items w (sym f) in
      let own : is_orphan rs op ≡ false = ap (is_orphan rs) (sym name_is) ∙ orphan_is in
      let first = taken_own m.raw m.live.items m.last_id m.waiting.items (pend (past t)) rs op h.3 own in
      let x = reply_there r in
      let not_sending : is_sending w ≡ false = ap is_some n in
      let lone = none_beside w.ctx m.live.items x.0 (without_first op m.waiting.items) (owned_taken m.live.items op m.waiting.items (h.3.owned r)) x.1 x.3 (only_receive op m.waiting.items w (h.3.single r) (sym f) not_sending) in
      let second = ended_alone m.raw m.live.items m.last_id (without_first op m.waiting.items) left rs w.ctx how.Answered lone first in
      let third = no_such m.raw (without_live w.ctx m.live.items) m.last_id (without_first op m.waiting.items) left (end_on (w.ctx ∷ []) how.Answered left rs) op second (occurs-without (pend (past t)) op) in
      let makes : requests t.z given_past ≡ without_orphan op (end_on (s.ctx ∷ []) how.Answered left rs) =
      live_end t.z (past t) op s (Won (Received text)) has_some g.pending orphan_is
      ∙ ap (λ q. without_orphan op (cond q (end_on (s.ctx ∷ []) how.Answered left rs) (change_live (with_taken s.ctx) rs))) (req_is t.z (is_req_role m t h)) in
      let ctx_is : w.ctx ≡ s.ctx = ap (λ (q : Begun). q.ctx) given_its in
      subst (λ (q : Requests). Asked m.raw (without_live w.ctx m.live.items) m.last_id (without_first op m.waiting.items) (pend given_past) q) (ap (λ c. without_orphan op (end_on (c ∷ []) how.Answered left rs)) ctx_is ∙ sym makes) third
    where
      alive : (b : Bool) → is_orphan (requests t.z (past t)) s.op ≡ b → has_requests t.z ≡ true → b ≡ false
      alive false e k = refl
      alive true e k =
          let one : is_some (request_of_it (cond (is_orphan (requests t.z (past t)) s.op) None (live_on t.z (past t) s.ctx))) ≡ true = g.may.live k in
          let bad : false ≡ true = sym (ap (λ q. is_some (cond {A = Option LiveRequest} q None (live_on t.z (past t) s.ctx))) e) ∙ one in
          absurd cc
        where
          request_of_it : Option LiveRequest → Option LiveRequest
          request_of_it o = o

  pub given_raw : m.raw ≡ true → Asked m.raw m.live.items m.last_id (without_first op m.waiting.items) (pend given_past) (requests t.z given_past)
  given_raw r =
      let nothing = asks_nothing t.z (is_req_role m t h) (is_raw m t h ∙ r) in
      subst (λ (rs : Requests). Asked m.raw m.live.items m.last_id (without_first op m.waiting.items) (pend given_past) rs) (raw_end t.z (past t) op (Won (Received text)) nothing) (taken m.raw m.live.items m.last_id m.waiting.items (pend (past t)) (requests t.z (past t)) op h.3)

  pub given_items : m.raw ≡ true → map item_of (drop 1 m.kept.items) ≡ pool t.z given_past 0
  given_items r =
      dropped m.kept.items ∙ ap (drop 1) (h.2 r) ∙ sym (ap (λ b. cond b (drop 1 (pool t.z (past t) 0)) (pool t.z (past t) 0)) (ap (is_on_pool t.z 0) g.pending ∙ on_pool t.z s (is_req_role m t h)))
    where
      dropped : (ks : List KeptReply) → map item_of (drop 1 ks) ≡ drop 1 (map item_of ks)
      dropped [] = refl
      dropped (k ∷ ks) = refl

      on_pool : (z : Setting) (s : Begun) → z.role ≡ role.Req → is_on_pool z 0 (Some s) ≡ true
      on_pool z s h = rw h refl

  pub given_oldest : m.raw ≡ true → option_map text_of (option_map (λ (k : KeptReply). k.message) (head_of m.kept.items)) ≡ Some text
  given_oldest r =
      firsts m.kept.items ∙ ap (λ (is : List Item). option_map (λ (i : Item). i.message) (head_of is)) (h.2 r ∙ sym (kept_raw t.z (past t) s.ctx (is_req_role m t h) (is_raw m t h ∙ r))) ∙ g.may.oldest
    where
      firsts : (ks : List KeptReply) → option_map text_of (option_map (λ (k : KeptReply). k.message) (head_of ks)) ≡ option_map (λ (i : Item). i.message) (head_of (map item_of ks))
      firsts [] = refl
      firsts (k ∷ ks) = refl

pub its_lost : (s : Begun) (w : Asking) → begun_of w ≡ s → option_map text_of w.message ≡ message_of s.act
its_lost s w e = go w.message ∙ ap (λ (q : Begun). message_of q.act) e
  where
    go : (o : Option MessageView) → option_map text_of o ≡ message_of (act_of o)
    go None = refl
    go (Some x) = refl
