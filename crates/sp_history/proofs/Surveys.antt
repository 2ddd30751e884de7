-- A survey stays live, or over, until it is begun again or time passes.
use Rattle.std.proofs.Common.{◌≡◌, refl, ap, sym, subst, ◌∙◌, List, [], ◌∷◌, ℕ, Bool, true, false, cond, Option, Some, None}
use Rattle.std.specs.Prelude.{not, ◌==◌, ◌&&◌, ◌++◌, map, drop, filter, find, is_some, if◌then◌else◌}
use Rattle.sp_history.specs.declared.entry.RecordedAct.TheVariants.{Recv, Send}
use Rattle.sp_history.specs.declared.entry.Completion.TheVariants.{Received, Sent}
use Rattle.sp_history.specs.declared.entry.Ending.{Ending}
use Rattle.sp_history.specs.declared.entry.Ending.TheVariants.{Won, Gone}
use Rattle.sp_history.specs.declared.entry.ContextChange.TheVariants.{Open, Shut}
use Rattle.sp_history.specs.declared.entry.Entry.{Entry}
use Rattle.sp_history.specs.declared.entry.Entry.TheVariants.{Begin, End, Frame, Out, Unkept, Tick, Ctx, Close}
use Rattle.sp_history.specs.declared.parts.Begun.{Begun}
use Rattle.sp_history.specs.declared.parts.LiveRequest.{LiveRequest}
use Rattle.sp_history.specs.declared.parts.Requests.{Requests}
use Rattle.sp_history.specs.declared.setting.Setting.{Setting}
use Rattle.sp_history.specs.Lists.{has, same_bytes}
use Rattle.sp_history.specs.Setting.{is_req, has_requests}
use Rattle.sp_history.specs.Frames.{malformed, plain_item}
use Rattle.sp_history.specs.Changes.{none_of}
use Rattle.sp_history.specs.Past.{onto, pend, pending, now, without_begun}
use Rattle.sp_history.specs.Requests.{is_on, with_out, with_frame, with_taken, is_for, has_room, wire_of, after_end, after_moment, over_at, no_requests, of_live, asked, live_on}
use Rattle.sp_history.specs.Found.{begins_send, moves_surveys}

pub none_first : (f : Entry → Bool) (e : Entry) (entries : List Entry) → none_of f (e ∷ entries) ≡ true → f e ≡ false
none_first f e entries h = go (f e) h
  where
    go : (b : Bool) → (not b && none_of f entries) ≡ true → b ≡ false
    go true h = cc
    go false h = refl

pub none_rest : (f : Entry → Bool) (e : Entry) (entries : List Entry) → none_of f (e ∷ entries) ≡ true → none_of f entries ≡ true
none_rest f e entries h = go (f e) h
  where
    go : (b : Bool) → (not b && none_of f entries) ≡ true → none_of f entries ≡ true
    go true h = cc
    go false h = h

-- a request is live on the context
abbrev has_live : ℕ → List LiveRequest → Bool
has_live c rs = is_some (find (is_on c) rs)

find_map : (f : LiveRequest → LiveRequest) → ((r : LiveRequest) → (f r).ctx ≡ r.ctx) → (c : ℕ) (rs : List LiveRequest) → has_live c (map f rs) ≡ has_live c rs
find_map f keeps c [] = refl
find_map f keeps c (r ∷ rs) = go ((f r).ctx == c) (r.ctx == c) (ap (λ (n : ℕ). n == c) (keeps r)) (find_map f keeps c rs)
  where
    go : (a b : Bool) → a ≡ b → has_live c (map f rs) ≡ has_live c rs → is_some (cond a (Some (f r)) (find (is_on c) (map f rs))) ≡ is_some (cond b (Some r) (find (is_on c) rs))
    go true true e h = refl
    go false false e h = h
    go true false e h = cc
    go false true e h = cc

out_keeps : (t p : ℕ) (b : List ℕ) (r : LiveRequest) → (with_out t p b r).ctx ≡ r.ctx
out_keeps t p b r = go (same_bytes b (wire_of r))
  where
    go : (x : Bool) → (if x then record r { last_out = Some (record { pipe = p; when = t }) } else r).ctx ≡ r.ctx
    go true = refl
    go false = refl

taken_keeps : (c : ℕ) (r : LiveRequest) → (with_taken c r).ctx ≡ r.ctx
taken_keeps c r = go (is_on c r)
  where
    go : (x : Bool) → (if x then record r { replies = drop 1 r.replies } else r).ctx ≡ r.ctx
    go true = refl
    go false = refl

frame_keeps : (z : Setting) (past : List Entry) (p : ℕ) (b : List ℕ) (r : LiveRequest) → (with_frame z past p b r).ctx ≡ r.ctx
frame_keeps z past p b r = go (not (malformed z past p b) && is_for b r && has_room z r)
  where
    go : (x : Bool) → (if x then record r { replies = r.replies ++ plain_item p (drop 4 b) ∷ [] } else r).ctx ≡ r.ctx
    go true = refl
    go false = refl

end_keeps : (z : Setting) → is_req z.role ≡ false → (ending : Ending) (o : Option Begun) (ss : List Begun) (rs : Requests) (c : ℕ) → has_live c (after_end z ending o ss rs).live ≡ has_live c rs.live
end_keeps z survey ending None ss rs c = refl
end_keeps z survey (Won Sent) (Some s) ss rs c = refl
end_keeps z survey (Won (Received m)) (Some s) ss rs c = rw survey (find_map (with_taken s.ctx) (taken_keeps s.ctx) c rs.live)
end_keeps z survey (Gone cause by) (Some s) ss rs c = rw survey refl

step : (z : Setting) → is_req z.role ≡ false → (c : ℕ) (e : Entry) (past : List Entry) → moves_surveys e ≡ false → has_live c (asked z (e ∷ past)).live ≡ has_live c (asked z past).live
step z survey c (Begin op k d (Send m) x) past h = cc
step z survey c (Tick t due) past h = cc
step z survey c (Ctx d gate) past h = cc
step z survey c (Close totals) past h = cc
step z survey c (End op ending) past h =
    end_keeps z survey ending (of_live (asked z past) (pending past op)) (without_begun (pend past) op) (asked z past) c
step z survey c (Out p b) past h = find_map (with_out (now past) p b) (out_keeps (now past) p b) c (asked z past).live
step z survey c (Frame p b) past h = find_map (with_frame z past p b) (frame_keeps z past p b) c (asked z past).live
step z survey c (Unkept p) (Frame q b ∷ past) h = sym (find_map (with_frame z past q b) (frame_keeps z past q b) c (asked z past).live)
step z survey c _ past h = refl

all_steps : (z : Setting) → is_req z.role ≡ false → (c : ℕ) (entries past : List Entry) → none_of moves_surveys entries ≡ true → has_live c (asked z (onto entries past)).live ≡ has_live c (asked z past).live
all_steps z survey c [] past h = refl
all_steps z survey c (e ∷ entries) past h =
    all_steps z survey c entries (e ∷ past) (none_rest moves_surveys e entries h) ∙ step z survey c e past (none_first moves_surveys e entries h)

pub survey_stays : (z : Setting) → has_requests z ≡ true → is_req z.role ≡ false → (c : ℕ) (entries past : List Entry) → none_of moves_surveys entries ≡ true → is_some (live_on z (onto entries past) c) ≡ is_some (live_on z past c)
survey_stays z asks survey c entries past h = rw asks (all_steps z survey c entries past h)

-- ---- One that is over

none_left : (f : LiveRequest → Bool) (c : ℕ) (rs : List LiveRequest) → has_live c rs ≡ false → has_live c (filter f rs) ≡ false
none_left f c [] h = refl
none_left f c (r ∷ rs) h = go (is_on c r) refl (f r) h (none_left f c rs)
  where
    go : (a : Bool) → is_on c r ≡ a → (b : Bool) → is_some (cond a (Some r) (find (is_on c) rs)) ≡ false → (has_live c rs ≡ false → has_live c (filter f rs) ≡ false) → has_live c (cond b (r ∷ filter f rs) (filter f rs)) ≡ false
    go true e b h again = cc
    go false e true h again = rw e (again h)
    go false e false h again = again h

gone_step : (z : Setting) → is_req z.role ≡ false → (c : ℕ) (e : Entry) (past : List Entry) → begins_send e ≡ false → has_live c (asked z past).live ≡ false → has_live c (asked z (e ∷ past)).live ≡ false
unfolding after_moment
gone_step z survey c (Begin op k d (Send m) x) past h gone = cc
gone_step z survey c (Begin op k d Recv x) past h gone = gone
gone_step z survey c (Tick t due) past h gone =
    rw survey (none_left (λ r. not (has (over_at z t (asked z past)) r.ctx)) c (asked z past).live gone)
gone_step z survey c (Ctx d Open) past h gone = gone
gone_step z survey c (Ctx d Shut) past h gone = none_left (λ r. not (has (d ∷ []) r.ctx)) c (asked z past).live gone
gone_step z survey c (Close totals) past h gone = refl
gone_step z survey c (End op ending) past h gone = step z survey c (End op ending) past refl ∙ gone
gone_step z survey c (Out p b) past h gone = step z survey c (Out p b) past refl ∙ gone
gone_step z survey c (Frame p b) past h gone = step z survey c (Frame p b) past refl ∙ gone
gone_step z survey c (Unkept p) past h gone = step z survey c (Unkept p) past refl ∙ gone
gone_step z survey c _ past h gone = gone

all_gone : (z : Setting) → is_req z.role ≡ false → (c : ℕ) (entries past : List Entry) → none_of begins_send entries ≡ true → has_live c (asked z past).live ≡ false → has_live c (asked z (onto entries past)).live ≡ false
all_gone z survey c [] past h gone = gone
all_gone z survey c (e ∷ entries) past h gone =
    all_gone z survey c entries (e ∷ past) (none_rest begins_send e entries h) (gone_step z survey c e past (none_first begins_send e entries h) gone)

pub survey_gone : (z : Setting) → has_requests z ≡ true → is_req z.role ≡ false → (c : ℕ) (entries past : List Entry) → none_of begins_send entries ≡ true → is_some (live_on z past c) ≡ false → is_some (live_on z (onto entries past) c) ≡ false
survey_gone z asks survey c entries past h gone = rw asks (all_gone z survey c entries past h (known gone))
  where
    known : is_some (live_on z past c) ≡ false → has_live c (asked z past).live ≡ false
    known = subst (λ (b : Bool). is_some (find (is_on c) (if b then asked z past else no_requests).live) ≡ false → has_live c (asked z past).live ≡ false) (sym asks) (λ k. k)
