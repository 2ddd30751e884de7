-- What goes out for a send, from one moment to the next.
use Rattle.std.proofs.Common.{◌≡◌, refl, ap, sym, ◌∙◌, subst, List, [], ◌∷◌, ◌++◌, ℕ, Bool, true, false, cond, Option, Some, None}
use Rattle.std.specs.Prelude.{find, filter, not, drop, ◌&&◌, ◌||◌, ◌==◌}
use Rattle.std.specs.List.{list_any}
use Rattle.std.specs.Option.{option_map}
use Rattle.sp_base.specs.declared.OpName.{OpName}
use Rattle.sp_base.specs.declared.role.Role.{Role}
use Rattle.sp_base.specs.declared.role.Role.TheVariants as role
use Rattle.sp_history.specs.declared.setting.Setting.{Setting}
use Rattle.sp_history.specs.declared.entry.Entry.{Entry}
use Rattle.sp_history.specs.declared.entry.Entry.TheVariants.{Out, Frame}
use Rattle.sp_history.specs.declared.entry.RecordedAct.{RecordedAct}
use Rattle.sp_history.specs.declared.entry.RecordedAct.TheVariants.{Recv, Send}
use Rattle.sp_history.specs.declared.parts.Begun.{Begun}
use Rattle.sp_history.specs.declared.parts.Orphan.{Orphan}
use Rattle.sp_history.specs.declared.parts.LiveRequest.{LiveRequest}
use Rattle.sp_history.specs.declared.parts.Requests.{Requests}
use Rattle.sp_history.specs.Lists.{same_op, same_bytes}
use Rattle.sp_history.specs.Setting.{floods, is_req, has_requests}
use Rattle.sp_history.specs.Past.{now}
use Rattle.sp_history.specs.Kept.{route}
use Rattle.sp_history.specs.Frames.{malformed, plain_item}
use Rattle.sp_history.specs.Requests.{requests, no_requests, asked, is_on, is_orphan, is_for, has_room, live_on, request_of, wire_of, with_out, with_frame, with_taken}
use Rattle.sp_history.specs.Sends.{bytes_of, bytes_of_act, bytes_for}
use Rattle.sp_history.proofs.OnceHolds.{same_op-eq}
use Rattle.sp_history.proofs.Requesting.{out_makes, frame_makes, out_live, frame_live}

pub surveys : (z : Setting) → z.role ≡ role.Surveyor → z.raw ≡ false → has_requests z ≡ true
surveys z h r = rw (h, r) refl

pub surveys_nothing : (z : Setting) → z.role ≡ role.Surveyor → z.raw ≡ true → has_requests z ≡ false
surveys_nothing z h r = rw (h, r) refl

pub no_req : (z : Setting) → z.role ≡ role.Surveyor → is_req z.role ≡ false
no_req z h = rw h refl

pub it_floods : (z : Setting) → z.role ≡ role.Surveyor → floods z.role ≡ true
it_floods z h = rw h refl

-- raw, there are no requests at any time
pub raw_same : (z : Setting) (a b : List Entry) → has_requests z ≡ false → requests z a ≡ requests z b
raw_same z a b h = ap (λ q. cond q (asked z a) no_requests) h ∙ sym (ap (λ q. cond q (asked z b) no_requests) h)

-- ---- The bytes of a send

bytes_same : (z : Setting) (a b : List Entry) (s : Begun) → z.role ≡ role.Surveyor → (z.raw ≡ false → option_map wire_of (request_of z a s) ≡ option_map wire_of (request_of z b s)) → bytes_of z a s ≡ bytes_of z b s
bytes_same z a b s h k = go s.act
  where
    go : (act : RecordedAct) → bytes_of_act z a s act ≡ bytes_of_act z b s act
    go Recv = refl
    go (Send m) = ap (λ (y : Role). bytes_for y z.raw (route z a s.op) (request_of z a s) m) h ∙ inner z.raw refl ∙ sym (ap (λ (y : Role). bytes_for y z.raw (route z b s.op) (request_of z b s) m) h)
      where
        inner : (r : Bool) → z.raw ≡ r → bytes_for role.Surveyor r (route z a s.op) (request_of z a s) m ≡ bytes_for role.Surveyor r (route z b s.op) (request_of z b s) m
        inner true e = refl
        inner false e = k e

changed : (f : LiveRequest → LiveRequest) → ((r : LiveRequest) → wire_of (f r) ≡ wire_of r) → (x y : Bool) (o q : Option LiveRequest) → y ≡ x → q ≡ option_map f o → option_map wire_of (cond x None o) ≡ option_map wire_of (cond y None q)
changed f h x y o q e g = go x o ∙ ap (λ b. option_map wire_of (cond {A = Option LiveRequest} b None (option_map f o))) (sym e) ∙ ap (λ (p : Option LiveRequest). option_map wire_of (cond y None p)) (sym g)
  where
    go : (b : Bool) (p : Option LiveRequest) → option_map wire_of (cond b None p) ≡ option_map wire_of (cond b None (option_map f p))
    go true p = refl
    go false None = refl
    go false (Some r) = ap (λ (w : List ℕ). Some w) (sym (h r))

-- each live request is changed, except for what goes out for it
pub bytes_changed : (z : Setting) (a b : List Entry) (s : Begun) (f : LiveRequest → LiveRequest) → z.role ≡ role.Surveyor → ((r : LiveRequest) → wire_of (f r) ≡ wire_of r)
    → (z.raw ≡ false → (is_orphan (requests z b) s.op ≡ is_orphan (requests z a) s.op) × (live_on z b s.ctx ≡ option_map f (live_on z a s.ctx))) → bytes_of z a s ≡ bytes_of z b s
bytes_changed z a b s f h w k = bytes_same z a b s h (λ r. let g = k r in changed f w (is_orphan (requests z a) s.op) (is_orphan (requests z b) s.op) (live_on z a s.ctx) (live_on z b s.ctx) g.0 g.1)

by_flag : (b : Bool) (q r : LiveRequest) → wire_of q ≡ wire_of r → wire_of (cond b q r) ≡ wire_of r
by_flag true q r h = h
by_flag false q r h = refl

pub wire_taken : (c : ℕ) (r : LiveRequest) → wire_of (with_taken c r) ≡ wire_of r
wire_taken c r = go (r.ctx == c)
  where
    go : (b : Bool) → wire_of (cond b (record r { replies = drop 1 r.replies }) r) ≡ wire_of r
    go true = refl
    go false = refl

wire_out : (t p : ℕ) (b : List ℕ) (r : LiveRequest) → wire_of (with_out t p b r) ≡ wire_of r
wire_out t p b r = go (same_bytes b (wire_of r))
  where
    go : (y : Bool) → wire_of (cond y (record r { last_out = Some (record { pipe = p; when = t }) }) r) ≡ wire_of r
    go true = refl
    go false = refl

wire_frame : (z : Setting) (past : List Entry) (p : ℕ) (b : List ℕ) (r : LiveRequest) → wire_of (with_frame z past p b r) ≡ wire_of r
wire_frame z past p b r = go (not (malformed z past p b) && is_for b r && has_room z r)
  where
    go : (y : Bool) → wire_of (cond y (record r { replies = r.replies ++ plain_item p (drop 4 b) ∷ [] }) r) ≡ wire_of r
    go true = refl
    go false = refl

pub out_bytes : (z : Setting) (before : List Entry) (p : ℕ) (b : List ℕ) (s : Begun) → z.role ≡ role.Surveyor → bytes_of z before s ≡ bytes_of z (Out p b ∷ before) s
out_bytes z before p b s h =
    bytes_changed z before (Out p b ∷ before) s (with_out (now before) p b) h (wire_out (now before) p b) (λ r. (ap (λ (rs : Requests). is_orphan rs s.op) (out_makes z before p b (surveys z h r)), out_live z before p b s.ctx))

pub frame_bytes : (z : Setting) (before : List Entry) (p : ℕ) (b : List ℕ) (s : Begun) → z.role ≡ role.Surveyor → bytes_of z before s ≡ bytes_of z (Frame p b ∷ before) s
frame_bytes z before p b s h =
    bytes_changed z before (Frame p b ∷ before) s (with_frame z before p b) h (wire_frame z before p b) (λ r. (ap (λ (rs : Requests). is_orphan rs s.op) (frame_makes z before p b (surveys z h r)), frame_live z before p b s.ctx))

-- the requests are the same
pub same_requests : (z : Setting) (a b : List Entry) (s : Begun) → z.role ≡ role.Surveyor → requests z b ≡ requests z a → bytes_of z a s ≡ bytes_of z b s
same_requests z a b s h e = bytes_same z a b s h (λ r. ap (λ (rs : Requests). option_map wire_of (cond {A = Option LiveRequest} (is_orphan rs s.op) None (find (is_on s.ctx) rs.live))) (sym e))

-- ---- One orphan fewer

module _ (op other : OpName) where
  is_not : same_op op other ≡ false → (a : OpName) → same_op a op ≡ true → same_op a other ≡ false
  is_not e a f = subst (λ (x : OpName). same_op x other ≡ false) (sym (same_op-eq a op f)) e

  pub other_orphan : same_op op other ≡ false → (os : List Orphan) → list_any (λ (o : Orphan). same_op o.op other) (filter (λ (o : Orphan). not (same_op o.op op)) os) ≡ list_any (λ (o : Orphan). same_op o.op other) os
  other_orphan e [] = refl
  other_orphan e (o ∷ os) = go (same_op o.op op) refl (other_orphan e os)
    where
      rest : List Orphan
      rest = filter (λ (o : Orphan). not (same_op o.op op)) os

      go : (b : Bool) → same_op o.op op ≡ b → list_any (λ (o : Orphan). same_op o.op other) rest ≡ list_any (λ (o : Orphan). same_op o.op other) os → list_any (λ (o : Orphan). same_op o.op other) (cond (not b) (o ∷ rest) rest) ≡ (same_op o.op other || list_any (λ (o : Orphan). same_op o.op other) os)
      go true f k = k ∙ sym (ap (λ b. b || list_any (λ (o : Orphan). same_op o.op other) os) (is_not e o.op f))
      go false f k = ap (λ b. same_op o.op other || b) k
