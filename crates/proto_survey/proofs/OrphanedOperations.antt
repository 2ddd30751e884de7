-- The waiting operations that no longer have a survey.
use Rattle.std.proofs.Common.{◌≡◌, refl, ap, sym, ◌∙◌, subst, List, [], ◌∷◌, ◌++◌, ℕ, ◌+◌, ◌≤◌, Bool, true, false, cond, arith, Option, Some, None, map}
use Rattle.std.specs.Prelude.{find, filter, not, is_some, ◌&&◌, ◌||◌, ◌==◌}
use Rattle.std.specs.List.{list_any}
use Rattle.std.specs.Option.{option_map}
use Rattle.sp_base.specs.declared.OpName.{OpName}
use Rattle.sp_history.specs.declared.setting.Setting.{Setting}
use Rattle.sp_history.specs.declared.entry.Entry.{Entry}
use Rattle.sp_history.specs.declared.parts.Begun.{Begun}
use Rattle.sp_history.specs.declared.parts.Orphan.{Orphan}
use Rattle.sp_history.specs.declared.parts.Requests.{Requests}
use Rattle.sp_history.specs.declared.parts.How.{How}
use Rattle.sp_history.specs.Lists.{has, same_op}
use Rattle.sp_history.specs.Past.{is_of, without_begun, pend, pending}
use Rattle.sp_history.specs.Requests.{requests, is_orphan, orphan_of, is_bereft}
use Rattle.sp_history.specs.Legal.{is_at}
use Rattle.sp_history.specs.Once.{AreApart, occurs}
use Rattle.sp_history.proofs.OnceHolds.{same_op-refl, same_op-eq, same_op-slot, occurs-find}
use Rattle.sp_history.proofs.Orphans.{orphan_is_pending}
use Rattle.proto_survey.specs.declared.waiting.SurveyOperation.{SurveyOperation}
use Rattle.proto_survey.specs.declared.waiting.SurveyEnd.{SurveyEnd}
use Rattle.proto_survey.specs.Askings.{begun_of, is_asked, without_first, ended_by, left_by, how_of, how_in, Ends}
use Rattle.proto_survey.proofs.SurveyLives.{same_number}

-- ---- The operation of a name

pub find_begun : (op : OpName) (ws : List SurveyOperation) (s : Begun) → find (is_of op) (map begun_of ws) ≡ Some s → (w : SurveyOperation) × (find (is_asked op) ws ≡ Some w) × (begun_of w ≡ s)
find_begun op [] s h = absurd cc
find_begun op (w ∷ ws) s h = go (is_asked op w) h (find_begun op ws s)
  where
    some_inj : Some (begun_of w) ≡ Some s → begun_of w ≡ s
    some_inj q = cc

    go : (b : Bool) → cond b (Some (begun_of w)) (find (is_of op) (map begun_of ws)) ≡ Some s → (find (is_of op) (map begun_of ws) ≡ Some s → (v : SurveyOperation) × (find (is_asked op) ws ≡ Some v) × (begun_of v ≡ s))
        → (v : SurveyOperation) × (cond b (Some w) (find (is_asked op) ws) ≡ Some v) × (begun_of v ≡ s)
    go true h again = (w, refl, some_inj h)
    go false h again = again h

pub begun_found : (op : OpName) (ws : List SurveyOperation) (w : SurveyOperation) → find (is_asked op) ws ≡ Some w → find (is_of op) (map begun_of ws) ≡ Some (begun_of w)
begun_found op [] w h = absurd cc
begun_found op (v ∷ ws) w h = go (is_asked op v) h (begun_found op ws w)
  where
    some_inj : Some v ≡ Some w → v ≡ w
    some_inj q = cc

    go : (b : Bool) → cond b (Some v) (find (is_asked op) ws) ≡ Some w → (find (is_asked op) ws ≡ Some w → find (is_of op) (map begun_of ws) ≡ Some (begun_of w)) → cond b (Some (begun_of v)) (find (is_of op) (map begun_of ws)) ≡ Some (begun_of w)
    go true q again = ap (λ (x : SurveyOperation). Some (begun_of x)) (some_inj q)
    go false q again = again q

pub named : (op : OpName) (ws : List SurveyOperation) (w : SurveyOperation) → find (is_asked op) ws ≡ Some w → w.op ≡ op
named op [] w h = absurd cc
named op (v ∷ ws) w h = go (same_op v.op op) refl h (named op ws w)
  where
    some_inj : Some v ≡ Some w → v ≡ w
    some_inj q = cc

    go : (b : Bool) → same_op v.op op ≡ b → cond b (Some v) (find (is_asked op) ws) ≡ Some w → (find (is_asked op) ws ≡ Some w → w.op ≡ op) → w.op ≡ op
    go true e h again = ap (λ (u : SurveyOperation). u.op) (sym (some_inj h)) ∙ same_op-eq v.op op e
    go false e h again = again h

-- where names are distinct, the first that passes a test is found by its name
pub find_own : (P : SurveyOperation → Bool) (ws : List SurveyOperation) (w : SurveyOperation) → find P ws ≡ Some w → AreApart (map begun_of ws) → find (is_asked w.op) ws ≡ Some w
find_own P [] w h a = absurd cc
find_own P (x ∷ ws) w h a = go (P x) h (λ q. find_own P ws w q rest)
  where
    some_inj : Some x ≡ Some w → x ≡ w
    some_inj q = cc

    rest : AreApart (map begun_of ws)
    rest op = step (same_op x.op op) (a op)
      where
        step : (b : Bool) → cond b (occurs (map begun_of ws) op + 1) (occurs (map begun_of ws) op) ≤ 1 → occurs (map begun_of ws) op ≤ 1
        step true k = omega (arith, k)
        step false k = k

    twice : (b : Bool) → cond b (occurs (map begun_of ws) w.op + 1) (occurs (map begun_of ws) w.op) ≤ 1 → 1 ≤ occurs (map begun_of ws) w.op → find (is_asked w.op) ws ≡ Some w → cond b (Some x) (find (is_asked w.op) ws) ≡ Some w
    twice true k l again = absurd (omega (arith, k, l))
    twice false k l again = again

    go : (b : Bool) → cond b (Some x) (find P ws) ≡ Some w → (find P ws ≡ Some w → find (is_asked w.op) ws ≡ Some w) → cond (same_op x.op w.op) (Some x) (find (is_asked w.op) ws) ≡ Some w
    go true q more =
        let is : x ≡ w = some_inj q in
        subst (λ (v : SurveyOperation). cond (same_op v.op w.op) (Some v) (find (is_asked w.op) ws) ≡ Some w) (sym is) (ap (λ b. cond b (Some w) (find (is_asked w.op) ws)) (same_op-refl w.op))
    go false q more =
        let again = more q in
        twice (same_op x.op w.op) (a w.op) (occurs-find (map begun_of ws) w.op (begun_of w) (begun_found w.op ws w again)) again

-- ---- How requests ended

pub not_orphan : (os : List Orphan) (op : OpName) → how_in os op ≡ None → list_any (λ (o : Orphan). same_op o.op op) os ≡ false
not_orphan [] op h = refl
not_orphan (o ∷ os) op h = go (same_op o.op op) h (not_orphan os op)
  where
    go : (b : Bool) → option_map (λ (o : Orphan). o.how) (cond b (Some o) (find (λ (o : Orphan). same_op o.op op) os)) ≡ None → (how_in os op ≡ None → list_any (λ (o : Orphan). same_op o.op op) os ≡ false) → (b || list_any (λ (o : Orphan). same_op o.op op) os) ≡ false
    go true k again = absurd cc
    go false k again = again k

pub no_how : (os : List Orphan) (op : OpName) → list_any (λ (o : Orphan). same_op o.op op) os ≡ false → how_in os op ≡ None
no_how [] op h = refl
no_how (o ∷ os) op h = go (same_op o.op op) h (no_how os op)
  where
    go : (b : Bool) → (b || list_any (λ (o : Orphan). same_op o.op op) os) ≡ false → (list_any (λ (o : Orphan). same_op o.op op) os ≡ false → how_in os op ≡ None) → option_map (λ (o : Orphan). o.how) (cond b (Some o) (find (λ (o : Orphan). same_op o.op op) os)) ≡ None
    go true k again = absurd cc
    go false k again = again k

abbrev first_of : Option How → Option How → Option How
first_of (Some h) o = Some h
first_of None o = o

how_both : (os ps : List Orphan) (op : OpName) → how_in (os ++ ps) op ≡ first_of (how_in os op) (how_in ps op)
how_both [] ps op = refl
how_both (o ∷ os) ps op = go (same_op o.op op) (how_both os ps op)
  where
    go : (b : Bool) → how_in (os ++ ps) op ≡ first_of (how_in os op) (how_in ps op)
        → option_map (λ (o : Orphan). o.how) (cond b (Some o) (find (λ (o : Orphan). same_op o.op op) (os ++ ps))) ≡ first_of (option_map (λ (o : Orphan). o.how) (cond b (Some o) (find (λ (o : Orphan). same_op o.op op) os))) (how_in ps op)
    go true k = refl
    go false k = k

how_left : (h : How) (ss : List Begun) (op : OpName) → how_in (map (orphan_of h) ss) op ≡ option_map (λ (s : Begun). h) (find (is_of op) ss)
how_left h [] op = refl
how_left h (s ∷ ss) op = go (same_op s.op op) (how_left h ss op)
  where
    go : (b : Bool) → how_in (map (orphan_of h) ss) op ≡ option_map (λ (s : Begun). h) (find (is_of op) ss) → option_map (λ (o : Orphan). o.how) (cond b (Some (orphan_of h s)) (find (λ (o : Orphan). same_op o.op op) (map (orphan_of h) ss))) ≡ option_map (λ (s : Begun). h) (cond b (Some s) (find (is_of op) ss))
    go true k = refl
    go false k = k

none_passing : (P : Begun → Bool) (ss : List Begun) (op : OpName) → occurs ss op ≤ 0 → find (is_of op) (filter P ss) ≡ None
none_passing P [] op h = refl
none_passing P (s ∷ ss) op h = go (is_of op s) refl h (P s) (none_passing P ss op)
  where
    go : (b : Bool) → is_of op s ≡ b → cond b (occurs ss op + 1) (occurs ss op) ≤ 0 → (p : Bool) → (occurs ss op ≤ 0 → find (is_of op) (filter P ss) ≡ None) → find (is_of op) (cond p (s ∷ filter P ss) (filter P ss)) ≡ None
    go true e k p again = absurd (omega (arith, k))
    go false e k true again = rw e (again k)
    go false e k false again = again k

find_passing : (P : Begun → Bool) (ss : List Begun) (op : OpName) (s : Begun) → occurs ss op ≤ 1 → find (is_of op) ss ≡ Some s → find (is_of op) (filter P ss) ≡ cond (P s) (Some s) None
find_passing P [] op s h k = absurd cc
find_passing P (x ∷ ss) op s h k = go (is_of op x) refl h k (P x) refl (find_passing P ss op s)
  where
    some_inj : Some x ≡ Some s → x ≡ s
    some_inj q = cc

    go : (b : Bool) → is_of op x ≡ b → cond b (occurs ss op + 1) (occurs ss op) ≤ 1 → cond b (Some x) (find (is_of op) ss) ≡ Some s → (p : Bool) → P x ≡ p
        → (occurs ss op ≤ 1 → find (is_of op) ss ≡ Some s → find (is_of op) (filter P ss) ≡ cond (P s) (Some s) None) → find (is_of op) (cond p (x ∷ filter P ss) (filter P ss)) ≡ cond (P s) (Some s) None
    go true e a q true f again = rw e (subst (λ (y : Begun). Some x ≡ cond (P y) (Some y) None) (some_inj q) (sym (ap (λ b. cond b (Some x) None) f)))
    go true e a q false f again = none_passing P ss op (omega (arith, a)) ∙ subst (λ (y : Begun). None ≡ cond (P y) (Some y) None) (some_inj q) (sym (ap (λ b. cond b (Some x) None) f))
    go false e a q true f again = rw e (again a q)
    go false e a q false f again = again a q

-- ---- Surveys end

find_map : (f : SurveyOperation → SurveyOperation) → ((w : SurveyOperation) → (f w).op ≡ w.op) → (op : OpName) (ws : List SurveyOperation) → find (is_asked op) (map f ws) ≡ option_map f (find (is_asked op) ws)
find_map f h op [] = refl
find_map f h op (w ∷ ws) = ap (λ (o : OpName). cond (same_op o op) (Some (f w)) (find (is_asked op) (map f ws))) (h w) ∙ go (same_op w.op op) (find_map f h op ws)
  where
    go : (b : Bool) → find (is_asked op) (map f ws) ≡ option_map f (find (is_asked op) ws) → cond b (Some (f w)) (find (is_asked op) (map f ws)) ≡ option_map f (cond b (Some w) (find (is_asked op) ws))
    go true k = refl
    go false k = k

module _ (cs : List ℕ) (e : SurveyEnd) (rs : Requests) (ws : List SurveyOperation) where
  abbrev pub after_ends : List Orphan
  after_ends = rs.orphans ++ map (orphan_of (how_of e)) (filter (is_bereft cs rs) (map begun_of ws))

  pub ends_left : AreApart (map begun_of ws) → Ends rs.orphans ws → Ends after_ends (map (left_by (has cs) e) ws)
  ends_left a h op v f = go (find (is_asked op) ws) refl (sym (find_map (left_by (has cs) e) (λ w. refl) op ws) ∙ f)
    where
      some_inj : (x y : SurveyOperation) → Some x ≡ Some y → x ≡ y
      some_inj x y q = cc

      at : (w : SurveyOperation) → find (is_asked op) ws ≡ Some w → option_map how_of (ended_by (has cs w.ctx) e w.ended) ≡ how_in after_ends op
      at w g = step w.ended refl
        where
          those : find (is_of op) (filter (is_bereft cs rs) (map begun_of ws)) ≡ cond (is_bereft cs rs (begun_of w)) (Some (begun_of w)) None
          those = find_passing (is_bereft cs rs) (map begun_of ws) op (begun_of w) (a op) (begun_found op ws w g)

          is : how_in after_ends op ≡ first_of (how_in rs.orphans op) (option_map (λ (s : Begun). how_of e) (cond (is_bereft cs rs (begun_of w)) (Some (begun_of w)) None))
          is = how_both rs.orphans (map (orphan_of (how_of e)) (filter (is_bereft cs rs) (map begun_of ws))) op ∙ ap (first_of (how_in rs.orphans op)) (how_left (how_of e) (filter (is_bereft cs rs) (map begun_of ws)) op ∙ ap (option_map (λ (s : Begun). how_of e)) those)

          last : (b : Bool) → option_map how_of (cond b (Some e) None) ≡ option_map (λ (s : Begun). how_of e) (cond (b && true) (Some (begun_of w)) None)
          last true = refl
          last false = refl

          step : (o : Option SurveyEnd) → w.ended ≡ o → option_map how_of (ended_by (has cs w.ctx) e o) ≡ how_in after_ends op
          step (Some first) q =
              let was : how_in rs.orphans op ≡ Some (how_of first) = sym (h op w g) ∙ ap (option_map how_of) q in
              sym (is ∙ ap (λ (o : Option How). first_of o (option_map (λ (s : Begun). how_of e) (cond (is_bereft cs rs (begun_of w)) (Some (begun_of w)) None))) was)
          step None q =
              let was : how_in rs.orphans op ≡ None = sym (h op w g) ∙ ap (option_map how_of) q in
              let free : is_orphan rs w.op ≡ false = ap (is_orphan rs) (named op ws w g) ∙ not_orphan rs.orphans op was in
              last (has cs w.ctx)
              ∙ sym (is ∙ ap (λ (o : Option How). first_of o (option_map (λ (s : Begun). how_of e) (cond (is_bereft cs rs (begun_of w)) (Some (begun_of w)) None))) was ∙ ap (λ b. option_map (λ (s : Begun). how_of e) (cond (has cs w.ctx && not b) (Some (begun_of w)) None)) free)

      go : (o : Option SurveyOperation) → find (is_asked op) ws ≡ o → option_map (left_by (has cs) e) o ≡ Some v → option_map how_of v.ended ≡ how_in after_ends op
      go None g q = absurd cc
      go (Some w) g q = subst (λ (x : SurveyOperation). option_map how_of x.ended ≡ how_in after_ends op) (some_inj (left_by (has cs) e w) v q) (at w g)

pub begun_left : (on : ℕ → Bool) (e : SurveyEnd) (ws : List SurveyOperation) → map begun_of (map (left_by on e) ws) ≡ map begun_of ws
begun_left on e [] = refl
begun_left on e (w ∷ ws) = ap (λ (rest : List Begun). begun_of w ∷ rest) (begun_left on e ws)

pub left_like : (f g : ℕ → Bool) (e : SurveyEnd) → ((c : ℕ) → f c ≡ g c) → (ws : List SurveyOperation) → map (left_by f e) ws ≡ map (left_by g e) ws
left_like f g e h [] = refl
left_like f g e h (w ∷ ws) = ap (λ b. record { op = w.op; ctx = w.ctx; message = w.message; ended = ended_by b e w.ended } ∷ map (left_by f e) ws) (h w.ctx) ∙ ap (λ (rest : List SurveyOperation). left_by g e w ∷ rest) (left_like f g e h ws)

-- where none of these contexts has a survey that ends, nothing changes
pub none_left_by : (on : ℕ → Bool) (e : SurveyEnd) → ((c : ℕ) → on c ≡ false) → (ws : List SurveyOperation) → map (left_by on e) ws ≡ ws
none_left_by on e h [] = refl
none_left_by on e h (w ∷ ws) = ap (λ b. record { op = w.op; ctx = w.ctx; message = w.message; ended = ended_by b e w.ended } ∷ map (left_by on e) ws) (h w.ctx) ∙ ap (λ (o : Option SurveyEnd). record { op = w.op; ctx = w.ctx; message = w.message; ended = o } ∷ map (left_by on e) ws) (same w.ended) ∙ ap (λ (rest : List SurveyOperation). w ∷ rest) (none_left_by on e h ws)
  where
    same : (o : Option SurveyEnd) → ended_by false e o ≡ o
    same None = refl
    same (Some x) = refl

-- ---- One is taken out

pub without_map : (op : OpName) (ws : List SurveyOperation) → occurs (map begun_of ws) op ≤ 1 → map begun_of (without_first op ws) ≡ without_begun (map begun_of ws) op
without_map op [] h = refl
without_map op (w ∷ ws) h = go (is_asked op w) h (without_map op ws)
  where
    no_more : (ss : List Begun) → occurs ss op ≤ 0 → ss ≡ without_begun ss op
    no_more [] k = refl
    no_more (s ∷ ss) k = step (is_of op s) k (no_more ss)
      where
        step : (b : Bool) → cond b (occurs ss op + 1) (occurs ss op) ≤ 0 → (occurs ss op ≤ 0 → ss ≡ without_begun ss op) → s ∷ ss ≡ cond (not b) (s ∷ without_begun ss op) (without_begun ss op)
        step true k again = absurd (omega (arith, k))
        step false k again = ap (λ (rest : List Begun). s ∷ rest) (again k)

    go : (b : Bool) → cond b (occurs (map begun_of ws) op + 1) (occurs (map begun_of ws) op) ≤ 1 → (occurs (map begun_of ws) op ≤ 1 → map begun_of (without_first op ws) ≡ without_begun (map begun_of ws) op)
        → map begun_of (cond b ws (w ∷ without_first op ws)) ≡ cond (not b) (begun_of w ∷ without_begun (map begun_of ws) op) (without_begun (map begun_of ws) op)
    go true h again = no_more (map begun_of ws) (omega (arith, h))
    go false h again = ap (λ (rest : List Begun). begun_of w ∷ rest) (again h)

module _ (op other : OpName) where
  is_not : same_op op other ≡ false → (a : OpName) → same_op a op ≡ true → same_op a other ≡ false
  is_not e a f = subst (λ (x : OpName). same_op x other ≡ false) (sym (same_op-eq a op f)) e

  find_other : same_op op other ≡ false → (ws : List SurveyOperation) → find (is_asked other) (without_first op ws) ≡ find (is_asked other) ws
  find_other e [] = refl
  find_other e (w ∷ ws) = go (same_op w.op op) refl (find_other e ws)
    where
      go : (b : Bool) → same_op w.op op ≡ b → find (is_asked other) (without_first op ws) ≡ find (is_asked other) ws → find (is_asked other) (cond b ws (w ∷ without_first op ws)) ≡ cond (same_op w.op other) (Some w) (find (is_asked other) ws)
      go true f k = sym (ap (λ b. cond b (Some w) (find (is_asked other) ws)) (is_not e w.op f))
      go false f k = ap (λ (o : Option SurveyOperation). cond (same_op w.op other) (Some w) o) k

  how_other : same_op op other ≡ false → (os : List Orphan) → how_in (filter (λ (o : Orphan). not (same_op o.op op)) os) other ≡ how_in os other
  how_other e [] = refl
  how_other e (o ∷ os) = go (same_op o.op op) refl (how_other e os)
    where
      rest : List Orphan
      rest = filter (λ (o : Orphan). not (same_op o.op op)) os

      both : (b : Bool) → how_in rest other ≡ how_in os other → option_map (λ (o : Orphan). o.how) (cond b (Some o) (find (λ (o : Orphan). same_op o.op other) rest)) ≡ option_map (λ (o : Orphan). o.how) (cond b (Some o) (find (λ (o : Orphan). same_op o.op other) os))
      both true k = refl
      both false k = k

      go : (b : Bool) → same_op o.op op ≡ b → how_in rest other ≡ how_in os other → how_in (cond (not b) (o ∷ rest) rest) other ≡ option_map (λ (o : Orphan). o.how) (cond (same_op o.op other) (Some o) (find (λ (o : Orphan). same_op o.op other) os))
      go true f k = k ∙ sym (ap (λ b. option_map (λ (o : Orphan). o.how) (cond b (Some o) (find (λ (o : Orphan). same_op o.op other) os))) (is_not e o.op f))
      go false f k = both (same_op o.op other) k

nowhere : (op : OpName) (ws : List SurveyOperation) → occurs (map begun_of ws) op ≤ 0 → find (is_asked op) ws ≡ None
nowhere op [] h = refl
nowhere op (w ∷ ws) h = go (same_op w.op op) h (nowhere op ws)
  where
    go : (b : Bool) → cond b (occurs (map begun_of ws) op + 1) (occurs (map begun_of ws) op) ≤ 0 → (occurs (map begun_of ws) op ≤ 0 → find (is_asked op) ws ≡ None) → cond b (Some w) (find (is_asked op) ws) ≡ None
    go true k again = absurd (omega (arith, k))
    go false k again = again k

taken_once : (op : OpName) (ws : List SurveyOperation) → occurs (map begun_of ws) op ≤ 1 → find (is_asked op) (without_first op ws) ≡ None
taken_once op [] h = refl
taken_once op (w ∷ ws) h = go (same_op w.op op) refl h (taken_once op ws)
  where
    go : (b : Bool) → same_op w.op op ≡ b → cond b (occurs (map begun_of ws) op + 1) (occurs (map begun_of ws) op) ≤ 1 → (occurs (map begun_of ws) op ≤ 1 → find (is_asked op) (without_first op ws) ≡ None) → find (is_asked op) (cond b ws (w ∷ without_first op ws)) ≡ None
    go true e k again = nowhere op ws (omega (arith, k))
    go false e k again = rw e (again k)

pub ends_taken : (op : OpName) (os : List Orphan) (ws : List SurveyOperation) → AreApart (map begun_of ws) → Ends os ws → Ends (filter (λ (o : Orphan). not (same_op o.op op)) os) (without_first op ws)
ends_taken op os ws a h other w f = go (same_op op other) refl
  where
    go : (b : Bool) → same_op op other ≡ b → option_map how_of w.ended ≡ how_in (filter (λ (o : Orphan). not (same_op o.op op)) os) other
    go true e =
        let none : find (is_asked other) (without_first op ws) ≡ None = subst (λ (x : OpName). find (is_asked x) (without_first op ws) ≡ None) (same_op-eq op other e) (taken_once op ws (a op)) in
        let bad : Some w ≡ None = sym f ∙ none in absurd cc
    go false e = h other w (sym (find_other op other e ws) ∙ f) ∙ sym (how_other op other e os)

-- ---- One more

pub ends_more : (os : List Orphan) (ws : List SurveyOperation) (w : SurveyOperation) → w.ended ≡ None → how_in os w.op ≡ None → Ends os ws → Ends os (ws ++ w ∷ [])
ends_more os ws w n k h op v f = go ws f (λ x q. h op x q)
  where
    some_inj : (x y : SurveyOperation) → Some x ≡ Some y → x ≡ y
    some_inj x y q = cc

    last : (b : Bool) → same_op w.op op ≡ b → cond b (Some w) None ≡ Some v → option_map how_of v.ended ≡ how_in os op
    last true e q =
        let is : w ≡ v = some_inj w v q in
        ap (λ (x : SurveyOperation). option_map how_of x.ended) (sym is) ∙ ap (option_map how_of) n ∙ sym k ∙ ap (how_in os) (same_op-eq w.op op e)
    last false e q = absurd cc

    go : (xs : List SurveyOperation) → find (is_asked op) (xs ++ w ∷ []) ≡ Some v → ((x : SurveyOperation) → find (is_asked op) xs ≡ Some x → option_map how_of x.ended ≡ how_in os op) → option_map how_of v.ended ≡ how_in os op
    go [] q g = last (same_op w.op op) refl q
    go (x ∷ xs) q g = step (same_op x.op op) q g (go xs)
      where
        step : (b : Bool) → cond b (Some x) (find (is_asked op) (xs ++ w ∷ [])) ≡ Some v → ((y : SurveyOperation) → cond b (Some x) (find (is_asked op) xs) ≡ Some y → option_map how_of y.ended ≡ how_in os op)
            → (find (is_asked op) (xs ++ w ∷ []) ≡ Some v → ((y : SurveyOperation) → find (is_asked op) xs ≡ Some y → option_map how_of y.ended ≡ how_in os op) → option_map how_of v.ended ≡ how_in os op) → option_map how_of v.ended ≡ how_in os op
        step true q g again = g v q
        step false q g again = again q g

none_at : (ss : List Begun) (op : OpName) → list_any (is_at op.slot) ss ≡ false → find (is_of op) ss ≡ None
none_at [] op h = refl
none_at (s ∷ ss) op h = go (s.op.slot == op.slot) refl (same_op s.op op) refl h (none_at ss op)
  where
    go : (a : Bool) → (s.op.slot == op.slot) ≡ a → (b : Bool) → same_op s.op op ≡ b → (a || list_any (is_at op.slot) ss) ≡ false → (list_any (is_at op.slot) ss ≡ false → find (is_of op) ss ≡ None) → cond b (Some s) (find (is_of op) ss) ≡ None
    go true e b f k again = absurd cc
    go false e true f k again =
        let same : (s.op.slot == op.slot) ≡ true = ap (λ n. n == op.slot) (same_op-slot s.op op f) ∙ same_number op.slot in
        let bad : true ≡ false = sym same ∙ e in absurd cc
    go false e false f k again = again k

-- an operation that begins has no request that ended
pub fresh_how : (z : Setting) (before : List Entry) (op : OpName) → list_any (is_at op.slot) (pend before) ≡ false → how_in (requests z before).orphans op ≡ None
fresh_how z before op h = go (is_orphan (requests z before) op) refl
  where
    go : (b : Bool) → is_orphan (requests z before) op ≡ b → how_in (requests z before).orphans op ≡ None
    go false e = no_how (requests z before).orphans op e
    go true e =
        let here : is_some (pending before op) ≡ true = orphan_is_pending z before op e in
        let none : is_some (pending before op) ≡ false = ap (λ (o : Option Begun). is_some o) (none_at (pend before) op h) in
        let bad : true ≡ false = sym here ∙ none in absurd cc

pub fresh_left : (h : How) (os : List Orphan) (P : Begun → Bool) (ss : List Begun) (op : OpName) → how_in os op ≡ None → list_any (is_at op.slot) ss ≡ false → how_in (os ++ map (orphan_of h) (filter P ss)) op ≡ None
fresh_left h os P ss op k f =
    how_both os (map (orphan_of h) (filter P ss)) op ∙ ap (λ (o : Option How). first_of o (how_in (map (orphan_of h) (filter P ss)) op)) k ∙ how_left h (filter P ss) op ∙ ap (option_map (λ (s : Begun). h)) (none_at (filter P ss) op (fewer ss f))
  where
    fewer : (ss : List Begun) → list_any (is_at op.slot) ss ≡ false → list_any (is_at op.slot) (filter P ss) ≡ false
    fewer [] q = refl
    fewer (s ∷ ss) q = go (is_at op.slot s) refl (P s) q (fewer ss)
      where
        go : (a : Bool) → is_at op.slot s ≡ a → (b : Bool) → (a || list_any (is_at op.slot) ss) ≡ false → (list_any (is_at op.slot) ss ≡ false → list_any (is_at op.slot) (filter P ss) ≡ false) → list_any (is_at op.slot) (cond b (s ∷ filter P ss) (filter P ss)) ≡ false
        go true e b q again = absurd cc
        go false e true q again = rw e (again q)
        go false e false q again = again q

-- ---- None is left behind

pub all_finished : (z : Setting) (before : List Entry) (ws : List SurveyOperation) → map begun_of ws ≡ pend before → Ends (requests z before).orphans ws → list_any (λ (w : SurveyOperation). is_some w.ended) ws ≡ false → (requests z before).orphans ≡ []
all_finished z before ws e h n = go (requests z before).orphans refl
  where
    not_ended : (xs : List SurveyOperation) (op : OpName) (w : SurveyOperation) → list_any (λ (w : SurveyOperation). is_some w.ended) xs ≡ false → find (is_asked op) xs ≡ Some w → is_some w.ended ≡ false
    not_ended [] op w q f = absurd cc
    not_ended (x ∷ xs) op w q f = step (same_op x.op op) (is_some x.ended) refl q f (not_ended xs op w)
      where
        some_inj : Some x ≡ Some w → x ≡ w
        some_inj q = cc

        step : (b a : Bool) → is_some x.ended ≡ a → (a || list_any (λ (w : SurveyOperation). is_some w.ended) xs) ≡ false → cond b (Some x) (find (is_asked op) xs) ≡ Some w → (list_any (λ (w : SurveyOperation). is_some w.ended) xs ≡ false → find (is_asked op) xs ≡ Some w → is_some w.ended ≡ false) → is_some w.ended ≡ false
        step b true g q f again = absurd cc
        step true false g q f again = subst (λ (y : SurveyOperation). is_some y.ended ≡ false) (some_inj f) g
        step false false g q f again = again q f

    go : (os : List Orphan) → (requests z before).orphans ≡ os → (requests z before).orphans ≡ []
    go [] g = g
    go (o ∷ os) g =
        let one : is_orphan (requests z before) o.op ≡ true = ap (λ (l : List Orphan). list_any (λ (x : Orphan). same_op x.op o.op) l) g ∙ ap (λ b. b || list_any (λ (x : Orphan). same_op x.op o.op) os) (same_op-refl o.op) in
        at (pending before o.op) refl (orphan_is_pending z before o.op one)
      where
        first : how_in (requests z before).orphans o.op ≡ Some o.how
        first = ap (λ (l : List Orphan). how_in l o.op) g ∙ ap (λ b. option_map (λ (x : Orphan). x.how) (cond b (Some o) (find (λ (x : Orphan). same_op x.op o.op) os))) (same_op-refl o.op)

        ended : (x : Option SurveyEnd) → option_map how_of x ≡ Some o.how → is_some x ≡ false → (requests z before).orphans ≡ []
        ended None q r = absurd cc
        ended (Some x) q r = absurd cc

        at : (p : Option Begun) → pending before o.op ≡ p → is_some p ≡ true → (requests z before).orphans ≡ []
        at None q r = absurd cc
        at (Some s) q r =
            let w = find_begun o.op ws s (ap (find (is_of o.op)) e ∙ q) in
            ended w.0.ended (h o.op w.0 w.1 ∙ first) (not_ended ws o.op w.0 n w.1)
