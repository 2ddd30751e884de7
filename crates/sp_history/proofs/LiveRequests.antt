-- What is true of each live request, of the next id, and of the context that is opened next.
use Rattle.std.proofs.Common.{◌≡◌, refl, ap, sym, ◌∙◌, List, [], ◌∷◌, ◌++◌, ℕ, ◌+◌, ◌^◌, ◌<◌, ◌≤◌, max, Bool, true, false, cond, arith, length, Option, Some, None}
use Rattle.std.specs.Prelude.{filter, drop, map, not, ◌&&◌, ◌||◌, ◌==◌}
use Rattle.std.specs.List.{list_any, list_all}
use Rattle.std.proofs.lemmas.Bool.Decides.{nat_tests}
use Rattle.sp_history.specs.declared.entry.RecordedAct.TheVariants.{Send}
use Rattle.sp_history.specs.declared.entry.Completion.TheVariants.{Received, Sent}
use Rattle.sp_history.specs.declared.entry.Ending.{Ending}
use Rattle.sp_history.specs.declared.entry.Ending.TheVariants.{Won, Gone}
use Rattle.sp_history.specs.declared.entry.ContextChange.TheVariants.{Open, Shut}
use Rattle.sp_history.specs.declared.entry.Entry.{Entry}
use Rattle.sp_history.specs.declared.entry.Entry.TheVariants.{Begin, End, Frame, Out, Unkept, Tick, Ctx, Dry, Close}
use Rattle.sp_history.specs.declared.parts.Begun.{Begun}
use Rattle.sp_history.specs.declared.parts.LastOut.{LastOut}
use Rattle.sp_history.specs.declared.parts.LiveRequest.{LiveRequest}
use Rattle.sp_history.specs.declared.parts.Requests.{Requests}
use Rattle.sp_history.specs.declared.parts.How.TheVariants as how
use Rattle.sp_history.specs.declared.setting.Setting.{Setting}
use Rattle.sp_history.specs.Lists.{has, same_bytes}
use Rattle.sp_history.specs.Setting.{is_req, has_requests}
use Rattle.sp_history.specs.Frames.{malformed, plain_item}
use Rattle.sp_history.specs.Past.{now, pend, pending, without_begun, opened, ctxs}
use Rattle.sp_history.specs.Requests.{no_requests, has_id, next_number, next_id, is_on, wire_of, is_for, has_room, with_out, with_frame, with_taken, end_on, of_live, after_end, after_moment, over_at, asked, requests}
use Rattle.sp_history.specs.Settled.{is_dry}
use Rattle.sp_history.specs.Legal.{AreAllowed}
use Rattle.sp_history.specs.Found.{is_by, is_out_by}
use Rattle.sp_history.proofs.Ids.{free_is_new, has_ids}
use Rattle.sp_history.proofs.Wiring.{has_more, has_before}

-- ---- Last Outs

all_filtered : (f p : LiveRequest → Bool) (rs : List LiveRequest) → list_all f rs ≡ true → list_all f (filter p rs) ≡ true
all_filtered f p [] h = h
all_filtered f p (r ∷ rs) h = go (f r) refl (p r) h (all_filtered f p rs)
  where
    go : (a : Bool) → f r ≡ a → (b : Bool) → (a && list_all f rs) ≡ true → (list_all f rs ≡ true → list_all f (filter p rs) ≡ true) → list_all f (cond b (r ∷ filter p rs) (filter p rs)) ≡ true
    go true e true h again = rw e (again h)
    go true e false h again = again h
    go false e b h again = cc

all_mapped : (f g : LiveRequest → Bool) (change : LiveRequest → LiveRequest) → ((r : LiveRequest) → f r ≡ true → g (change r) ≡ true) → (rs : List LiveRequest) → list_all f rs ≡ true → list_all g (map change rs) ≡ true
all_mapped f g change k [] h = refl
all_mapped f g change k (r ∷ rs) h = go (f r) refl h (all_mapped f g change k rs)
  where
    go : (a : Bool) → f r ≡ a → (a && list_all f rs) ≡ true → (list_all f rs ≡ true → list_all g (map change rs) ≡ true) → (g (change r) && list_all g (map change rs)) ≡ true
    go true e h again = rw (k r e) (again h)
    go false e h again = cc

all_added : (f : LiveRequest → Bool) (rs : List LiveRequest) (r : LiveRequest) → list_all f rs ≡ true → f r ≡ true → list_all f (rs ++ r ∷ []) ≡ true
all_added f [] r h k = rw k refl
all_added f (x ∷ rs) r h k = go (f x) h (λ a. all_added f rs r a k)
  where
    go : (a : Bool) → (a && list_all f rs) ≡ true → (list_all f rs ≡ true → list_all f (rs ++ r ∷ []) ≡ true) → (a && list_all f (rs ++ r ∷ [])) ≡ true
    go true h again = again h
    go false h again = cc

itself : (r : LiveRequest) → r ≡ r
itself r = refl

later_out : (a b : ℕ) → a ≤ b → (o : Option LastOut) → is_by a o ≡ true → is_by b o ≡ true
later_out a b h None k = refl
later_out a b h (Some o) k = grind (arith, nat_tests, h)

map-self : (rs : List LiveRequest) → map (λ r. r) rs ≡ rs
map-self [] = refl
map-self (r ∷ rs) = ap (λ (xs : List LiveRequest). r ∷ xs) (map-self rs)

later_all : (a b : ℕ) → a ≤ b → (rs : List LiveRequest) → list_all (is_out_by a) rs ≡ true → list_all (is_out_by b) rs ≡ true
later_all a b h rs k = ap (λ (xs : List LiveRequest). list_all (is_out_by b) xs) (sym (map-self rs)) ∙ all_mapped (is_out_by a) (is_out_by b) (λ r. r) (λ r. later_out a b h r.last_out) rs k

out_by : (t p : ℕ) (b : List ℕ) (r : LiveRequest) → is_out_by t r ≡ true → is_out_by t (with_out t p b r) ≡ true
out_by t p b r h = go (same_bytes b (wire_of r))
  where
    go : (y : Bool) → is_out_by t (cond y (record r { last_out = Some (record { pipe = p; when = t }) }) r) ≡ true
    go true = grind (arith, nat_tests)
    go false = h

frame_by : (z : Setting) (past : List Entry) (t p : ℕ) (b : List ℕ) (r : LiveRequest) → is_out_by t r ≡ true → is_out_by t (with_frame z past p b r) ≡ true
frame_by z past t p b r h = go (not (malformed z past p b) && is_for b r && has_room z r)
  where
    go : (y : Bool) → is_out_by t (cond y (record r { replies = r.replies ++ plain_item p (drop 4 b) ∷ [] }) r) ≡ true
    go true = h
    go false = h

taken_by : (c t : ℕ) (r : LiveRequest) → is_out_by t r ≡ true → is_out_by t (with_taken c r) ≡ true
taken_by c t r h = go (is_on c r)
  where
    go : (y : Bool) → is_out_by t (cond y (record r { replies = drop 1 r.replies }) r) ≡ true
    go true = h
    go false = h

end_by : (z : Setting) (t : ℕ) (ending : Ending) (s : Option Begun) (ss : List Begun) (rs : Requests) → list_all (is_out_by t) rs.live ≡ true → list_all (is_out_by t) (after_end z ending s ss rs).live ≡ true
end_by z t ending None ss rs h = h
end_by z t (Won Sent) (Some s) ss rs h = h
end_by z t (Won (Received m)) (Some s) ss rs h = go (is_req z.role)
  where
    go : (req : Bool) → list_all (is_out_by t) (cond req (end_on (s.ctx ∷ []) how.Answered ss rs) (record rs { live = map (with_taken s.ctx) rs.live })).live ≡ true
    go true = all_filtered (is_out_by t) (λ r. not (has (s.ctx ∷ []) r.ctx)) rs.live h
    go false = all_mapped (is_out_by t) (is_out_by t) (with_taken s.ctx) (taken_by s.ctx t) rs.live h
end_by z t (Gone cause by) (Some s) ss rs h = go (is_req z.role)
  where
    go : (req : Bool) → list_all (is_out_by t) (cond req (end_on (s.ctx ∷ []) how.GivenUp ss rs) rs).live ≡ true
    go true = all_filtered (is_out_by t) (λ r. not (has (s.ctx ∷ []) r.ctx)) rs.live h
    go false = h

moment_by : (z : Setting) (t n : ℕ) (ss : List Begun) (rs : Requests) → list_all (is_out_by n) rs.live ≡ true → list_all (is_out_by n) (after_moment z t ss rs).live ≡ true
unfolding after_moment
moment_by z t n ss rs h = go (is_req z.role)
  where
    go : (req : Bool) → list_all (is_out_by n) (cond req rs (end_on (over_at z t rs) how.Over ss rs)).live ≡ true
    go true = h
    go false = all_filtered (is_out_by n) (λ r. not (has (over_at z t rs) r.ctx)) rs.live h

all_by : (z : Setting) (past : List Entry) → list_all (is_out_by (now past)) (asked z past).live ≡ true
all_by z [] = refl
all_by z (Begin op k c (Send m) d ∷ past) = all_added (is_out_by (now past)) (filter (λ r. not (has (c ∷ []) r.ctx)) (asked z past).live) (record { ctx = c; id = next_id z (end_on (c ∷ []) how.Replaced (pend past) (asked z past)); body = m.body; birth = now past; last_out = None; replies = [] }) (all_filtered (is_out_by (now past)) (λ r. not (has (c ∷ []) r.ctx)) (asked z past).live (all_by z past)) refl
all_by z (End op ending ∷ past) = end_by z (now past) ending (of_live (asked z past) (pending past op)) (without_begun (pend past) op) (asked z past) (all_by z past)
all_by z (Out p b ∷ past) = all_mapped (is_out_by (now past)) (is_out_by (now past)) (with_out (now past) p b) (out_by (now past) p b) (asked z past).live (all_by z past)
all_by z (Unkept p ∷ Frame q b ∷ past) = all_by z past
all_by z (Frame p b ∷ past) = all_mapped (is_out_by (now past)) (is_out_by (now past)) (with_frame z past p b) (frame_by z past (now past) p b) (asked z past).live (all_by z past)
all_by z (Ctx c Shut ∷ past) = all_filtered (is_out_by (now past)) (λ r. not (has (c ∷ []) r.ctx)) (asked z past).live (all_by z past)
all_by z (Tick t due ∷ past) =
    later_all (now past) (max (now past) t) (least (now past) t) (after_moment z t (pend past) (asked z past)).live (moment_by z t (now past) (pend past) (asked z past) (all_by z past))
  where
    least : (a b : ℕ) → a ≤ max a b
    least a b = omega arith
all_by z (Close totals ∷ past) = refl
all_by z (_ ∷ past) = all_by z past

pub outs_are_by : (z : Setting) (past : List Entry) → list_all (is_out_by (now past)) (requests z past).live ≡ true
outs_are_by z past = go (has_requests z)
  where
    go : (y : Bool) → list_all (is_out_by (now past)) (cond y (asked z past) no_requests).live ≡ true
    go true = all_by z past
    go false = refl

-- ---- The next id

pub next_is_new : (z : Setting) (rs : Requests) → length rs.live < 2 ^ 31 → list_any (has_id (next_id z rs)) rs.live ≡ false
next_is_new z rs h = has_ids rs.live (next_id z rs) ∙ free_is_new rs.live (next_number z.options.dice rs.last_id) h

-- ---- The context that is opened next

low : (z : Setting) (past : List Entry) (c : ℕ) → AreAllowed z past → has (ctxs past) c ≡ true → c ≤ opened past
low z [] c a h = go (0 == c) refl h
  where
    go : (b : Bool) → (0 == c) ≡ b → (b || false) ≡ true → c ≤ 0
    go true e h = grind (arith, nat_tests)
    go false e h = cc
low z (Ctx d Open ∷ past) c a h = go (has (ctxs past) c) refl (low z past c a.1)
  where
    go : (b : Bool) → has (ctxs past) c ≡ b → (has (ctxs past) c ≡ true → c ≤ opened past) → c ≤ opened past + 1
    go true e again = let k = again e in omega (arith, k)
    go false e again = let same = has_more (ctxs past) d c h e in let n = a.0.1.itself.1 in omega (arith, same, n)
low z (Ctx d Shut ∷ past) c a h = low z past c a.1 (has_before (ctxs past) d c h)
low z (_ ∷ past) c a h = low z past c a.1 h

pub opened_low : (z : Setting) (past : List Entry) (c : ℕ) → AreAllowed z past → has (ctxs past) c ≡ true → c ≤ opened past
opened_low = low

left : (a b : Bool) → (a && b) ≡ true → a ≡ true
left true b h = refl
left false b h = cc

pub next_not_dry : (z : Setting) (past : List Entry) (c : ℕ) → AreAllowed z past → opened past < c → is_dry past c ≡ false
next_not_dry z [] c a h = refl
next_not_dry z (Dry d ∷ past) c a h = go (d == c) refl (next_not_dry z past c a.1 h)
  where
    go : (b : Bool) → (d == c) ≡ b → is_dry past c ≡ false → (b || is_dry past c) ≡ false
    go true e again =
        let under : d ≤ opened past = low z past d a.1 (left _ _ a.0.1.itself) in
        let same : d ≡ c = grind (arith, nat_tests) in
        let none : ⊥ = omega (arith, under, same, h) in absurd none
    go false e again = again
next_not_dry z (Tick t due ∷ past) c a h = refl
next_not_dry z (Ctx d Open ∷ past) c a h = next_not_dry z past c a.1 (omega (arith, h))
next_not_dry z (_ ∷ past) c a h = next_not_dry z past c a.1 h
