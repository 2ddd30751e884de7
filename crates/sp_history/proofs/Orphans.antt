-- An operation whose request has ended is pending.
use Rattle.std.proofs.Common.{◌≡◌, refl, sym, ◌∙◌, subst, List, [], ◌∷◌, ◌++◌, ℕ, Bool, true, false, cond, Option, Some, None}
use Rattle.std.specs.Prelude.{filter, find, map, not, ◌||◌, is_some}
use Rattle.std.specs.List.{list_any}
use Rattle.sp_base.specs.declared.OpName.{OpName}
use Rattle.sp_history.specs.declared.entry.RecordedAct.TheVariants.{Recv, Send}
use Rattle.sp_history.specs.declared.entry.Completion.TheVariants.{Received, Sent}
use Rattle.sp_history.specs.declared.entry.Ending.{Ending}
use Rattle.sp_history.specs.declared.entry.Ending.TheVariants.{Won, Gone}
use Rattle.sp_history.specs.declared.entry.ContextChange.TheVariants.{Shut}
use Rattle.sp_history.specs.declared.entry.Entry.{Entry}
use Rattle.sp_history.specs.declared.entry.Entry.TheVariants.{Begin, End, Frame, Unkept, Tick, Ctx}
use Rattle.sp_history.specs.declared.parts.Begun.{Begun}
use Rattle.sp_history.specs.declared.parts.Orphan.{Orphan}
use Rattle.sp_history.specs.declared.parts.Requests.{Requests}
use Rattle.sp_history.specs.declared.parts.How.{How}
use Rattle.sp_history.specs.declared.parts.How.TheVariants as how
use Rattle.sp_history.specs.declared.setting.Setting.{Setting}
use Rattle.sp_history.specs.Lists.{same_op}
use Rattle.sp_history.specs.Setting.{is_req, has_requests}
use Rattle.sp_history.specs.Past.{is_of, without_begun, pend, pending}
use Rattle.sp_history.specs.Requests.{no_requests, is_orphan, orphan_of, is_bereft, end_on, change_live, with_taken, of_live, after_end, after_moment, over_at, without_orphan, asked, requests}
use Rattle.sp_history.proofs.OnceHolds.{same_op-eq}

-- each of the orphans is among these operations
record Within (os : List Orphan) (ss : List Begun) : Type 0 where
  found : (op : OpName) → list_any (λ o. same_op o.op op) os ≡ true → list_any (is_of op) ss ≡ true

some_found : (ss : List Begun) (op : OpName) → list_any (is_of op) ss ≡ true → is_some (find (is_of op) ss) ≡ true
some_found [] op h = cc
some_found (s ∷ ss) op h = go (is_of op s) h (some_found ss op)
  where
    go : (b : Bool) → (b || list_any (is_of op) ss) ≡ true → (list_any (is_of op) ss ≡ true → is_some (find (is_of op) ss) ≡ true) → is_some (cond b (Some s) (find (is_of op) ss)) ≡ true
    go true h again = refl
    go false h again = again h

any_either : {A : Type 0} (f : A → Bool) (xs ys : List A) → list_any f (xs ++ ys) ≡ (list_any f xs || list_any f ys)
any_either f [] ys = refl
any_either f (x ∷ xs) ys = go (f x) (any_either f xs ys)
  where
    go : (b : Bool) → list_any f (xs ++ ys) ≡ (list_any f xs || list_any f ys) → (b || list_any f (xs ++ ys)) ≡ ((b || list_any f xs) || list_any f ys)
    go true h = refl
    go false h = h

or_cases : {P : Type 0} (a b : Bool) → (a || b) ≡ true → (a ≡ true → P) → (b ≡ true → P) → P
or_cases true b h f g = f refl
or_cases false b h f g = g h

or_left : (a b : Bool) → a ≡ true → (a || b) ≡ true
or_left true b h = refl
or_left false b h = cc

-- what some operations leave behind is among them
left_among : (h : How) (p : Begun → Bool) (ss : List Begun) (op : OpName) → list_any (λ o. same_op o.op op) (map (orphan_of h) (filter p ss)) ≡ true → list_any (is_of op) ss ≡ true
left_among h p [] op k = k
left_among h p (s ∷ ss) op k = go (p s) (same_op s.op op) refl k (left_among h p ss op)
  where
    go : (b it : Bool) → same_op s.op op ≡ it → list_any (λ o. same_op o.op op) (map (orphan_of h) (cond b (s ∷ filter p ss) (filter p ss))) ≡ true
        → (list_any (λ o. same_op o.op op) (map (orphan_of h) (filter p ss)) ≡ true → list_any (is_of op) ss ≡ true) → (it || list_any (is_of op) ss) ≡ true
    go b true e k again = refl
    go true false e k again = again (rw e at k)
    go false false e k again = again k

ended_within : (cs : List ℕ) (h : How) (ss : List Begun) (rs : Requests) → Within rs.orphans ss → Within (end_on cs h ss rs).orphans ss
ended_within cs h ss rs w =
    record {
      found = λ op k.
          or_cases (list_any (λ o. same_op o.op op) rs.orphans) (list_any (λ o. same_op o.op op) (map (orphan_of h) (filter (is_bereft cs rs) ss))) (sym (any_either (λ (o : Orphan). same_op o.op op) rs.orphans (map (orphan_of h) (filter (is_bereft cs rs) ss))) ∙ k)
          (w.found op) (left_among h (is_bereft cs rs) ss op);
    }

more_within : (os : List Orphan) (ss : List Begun) (s : Begun) → Within os ss → Within os (ss ++ s ∷ [])
more_within os ss s w = record { found = λ op k. any_either (is_of op) ss (s ∷ []) ∙ or_left (list_any (is_of op) ss) (list_any (is_of op) (s ∷ [])) (w.found op k) }

-- of the orphans except one, all others are left
not_that : (os : List Orphan) (op other : OpName) → list_any (λ o. same_op o.op other) (filter (λ o. not (same_op o.op op)) os) ≡ true → (same_op op other ≡ false) × (list_any (λ o. same_op o.op other) os ≡ true)
not_that [] op other h = cc
not_that (o ∷ os) op other h = go (same_op o.op op) refl (same_op o.op other) refl h (not_that os op other)
  where
    go : (out : Bool) → same_op o.op op ≡ out → (it : Bool) → same_op o.op other ≡ it → list_any (λ o. same_op o.op other) (cond (not out) (o ∷ filter (λ o. not (same_op o.op op)) os) (filter (λ o. not (same_op o.op op)) os)) ≡ true
        → (list_any (λ o. same_op o.op other) (filter (λ o. not (same_op o.op op)) os) ≡ true → (same_op op other ≡ false) × (list_any (λ o. same_op o.op other) os ≡ true)) → (same_op op other ≡ false) × ((it || list_any (λ o. same_op o.op other) os) ≡ true)
    go true e it f h again = let k = again h in (k.0, right it (list_any (λ o. same_op o.op other) os) k.1)
      where
        right : (a b : Bool) → b ≡ true → (a || b) ≡ true
        right true b h = refl
        right false b h = h
    go false e true f h again = (apart (same_op op other) refl, refl)
      where
        apart : (b : Bool) → same_op op other ≡ b → b ≡ false
        apart false g = refl
        apart true g =
            let same : op ≡ other = same_op-eq op other g in
            let x : same_op o.op op ≡ true = subst (λ (y : OpName). same_op o.op y ≡ true) (sym same) f in
            let bad : true ≡ false = sym x ∙ e in cc
    go false e false f h again = again (rw f at h)

still_there : (ss : List Begun) (op other : OpName) → same_op op other ≡ false → list_any (is_of other) ss ≡ true → list_any (is_of other) (without_begun ss op) ≡ true
still_there [] op other n h = h
still_there (s ∷ ss) op other n h = go (same_op s.op op) refl (same_op s.op other) refl h (still_there ss op other n)
  where
    go : (out : Bool) → same_op s.op op ≡ out → (it : Bool) → same_op s.op other ≡ it → (it || list_any (is_of other) ss) ≡ true → (list_any (is_of other) ss ≡ true → list_any (is_of other) (without_begun ss op) ≡ true)
        → list_any (is_of other) (cond (not out) (s ∷ without_begun ss op) (without_begun ss op)) ≡ true
    go true e true f h again =
        let x : op ≡ s.op = sym (same_op-eq s.op op e) in
        let y : same_op op other ≡ true = subst (λ (o : OpName). same_op o other ≡ true) (sym x) f in
        let bad : true ≡ false = sym y ∙ n in cc
    go true e false f h again = again h
    go false e true f h again = rw f refl
    go false e false f h again = rw f (again h)

-- after an end: those that were within are within the rest, except the one that ended
less_within : (op : OpName) (os : List Orphan) (ss : List Begun) → Within os ss → Within (filter (λ o. not (same_op o.op op)) os) (without_begun ss op)
less_within op os ss w = record { found = λ other k. let n = not_that os op other k in still_there ss op other n.0 (w.found other n.1) }

both_within : (op : OpName) (cs : List ℕ) (h : How) (ss : List Begun) (rs : Requests) → Within rs.orphans ss → Within (filter (λ o. not (same_op o.op op)) (end_on cs h (without_begun ss op) rs).orphans) (without_begun ss op)
both_within op cs h ss rs w = record { found = λ other k. found_in other (not_that (end_on cs h (without_begun ss op) rs).orphans op other k) }
  where
    found_in : (other : OpName) → (same_op op other ≡ false) × (list_any (λ o. same_op o.op other) (rs.orphans ++ map (orphan_of h) (filter (is_bereft cs rs) (without_begun ss op))) ≡ true) → list_any (is_of other) (without_begun ss op) ≡ true
    found_in other n =
        or_cases (list_any (λ o. same_op o.op other) rs.orphans) (list_any (λ o. same_op o.op other) (map (orphan_of h) (filter (is_bereft cs rs) (without_begun ss op)))) (sym (any_either (λ (o : Orphan). same_op o.op other) rs.orphans (map (orphan_of h) (filter (is_bereft cs rs) (without_begun ss op)))) ∙ n.1)
        (λ k. still_there ss op other n.0 (w.found other k)) (left_among h (is_bereft cs rs) (without_begun ss op) other)

-- the orphans that an end leaves behind are among the rest
end_within : (z : Setting) (op : OpName) (ending : Ending) (s : Option Begun) (ss : List Begun) (rs : Requests) → Within rs.orphans ss → Within (without_orphan op (after_end z ending s (without_begun ss op) rs)).orphans (without_begun ss op)
end_within z op ending None ss rs w = less_within op rs.orphans ss w
end_within z op (Won Sent) (Some s) ss rs w = less_within op rs.orphans ss w
end_within z op (Won (Received m)) (Some s) ss rs w = go (is_req z.role)
  where
    go : (req : Bool) → Within (filter (λ o. not (same_op o.op op)) (cond req (end_on (s.ctx ∷ []) how.Answered (without_begun ss op) rs) (change_live (with_taken s.ctx) rs)).orphans) (without_begun ss op)
    go true = both_within op (s.ctx ∷ []) how.Answered ss rs w
    go false = less_within op rs.orphans ss w
end_within z op (Gone cause by) (Some s) ss rs w = go (is_req z.role)
  where
    go : (req : Bool) → Within (filter (λ o. not (same_op o.op op)) (cond req (end_on (s.ctx ∷ []) how.GivenUp (without_begun ss op) rs) rs).orphans) (without_begun ss op)
    go true = both_within op (s.ctx ∷ []) how.GivenUp ss rs w
    go false = less_within op rs.orphans ss w

moment_within : (z : Setting) (t : ℕ) (ss : List Begun) (rs : Requests) → Within rs.orphans ss → Within (after_moment z t ss rs).orphans ss
unfolding after_moment
moment_within z t ss rs w = go (is_req z.role)
  where
    go : (req : Bool) → Within (cond req rs (end_on (over_at z t rs) how.Over ss rs)).orphans ss
    go true = w
    go false = ended_within (over_at z t rs) how.Over ss rs w

all_within : (z : Setting) (past : List Entry) → Within (asked z past).orphans (pend past)
all_within z [] = record { found = λ op h. cc }
all_within z (Begin op k c (Send m) d ∷ past) =
    more_within (end_on (c ∷ []) how.Replaced (pend past) (asked z past)).orphans (pend past) (record { op = op; ctx = c; act = Send m }) (ended_within (c ∷ []) how.Replaced (pend past) (asked z past) (all_within z past))
all_within z (Begin op k c Recv d ∷ past) = more_within (asked z past).orphans (pend past) (record { op = op; ctx = c; act = Recv }) (all_within z past)
all_within z (End op ending ∷ past) = end_within z op ending (of_live (asked z past) (pending past op)) (pend past) (asked z past) (all_within z past)
all_within z (Unkept p ∷ Frame q b ∷ past) = all_within z past
all_within z (Ctx c Shut ∷ past) = ended_within (c ∷ []) how.Shut (pend past) (asked z past) (all_within z past)
all_within z (Tick t due ∷ past) = moment_within z t (pend past) (asked z past) (all_within z past)
all_within z (_ ∷ past) = all_within z past

pub orphan_is_pending : (z : Setting) (past : List Entry) (op : OpName) → is_orphan (requests z past) op ≡ true → is_some (pending past op) ≡ true
orphan_is_pending z past op h = some_found (pend past) op (go (has_requests z) h)
  where
    go : (y : Bool) → list_any (λ o. same_op o.op op) (cond y (asked z past) no_requests).orphans ≡ true → list_any (is_of op) (pend past) ≡ true
    go true h = (all_within z past).found op h
    go false h = cc
