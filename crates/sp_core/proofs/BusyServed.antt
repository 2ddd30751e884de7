-- The pipes that are busy are served one after another.
use Rattle.std.proofs.Common.{◌≡◌, refl, ap, sym, ◌∙◌, subst, List, [], ◌∷◌, ◌++◌, append_assoc, append-nil, ℕ, suc, ◌+◌, ◌-◌, ◌^◌, ◌<◌, ◌≤◌, Bool, true, false, arith, inl, inr, length, length-append, Some, None}
use Rattle.std.specs.Prelude.{◌==◌, ◌||◌, ◌⊎◌, Option}
use Rattle.std.specs.List.{All}
use Rattle.sp_msg.specs.Views.{WireView}
use Rattle.sp_history.specs.declared.entry.Entry.{Entry}
use Rattle.sp_history.specs.declared.entry.Entry.TheVariants.{Up}
use Rattle.sp_history.specs.declared.setting.Setting.{Setting}
use Rattle.sp_history.specs.Lists.{has}
use Rattle.sp_history.specs.Once.{AreDistinct}
use Rattle.sp_history.specs.Past.{up, ups}
use Rattle.sp_history.specs.Legal.{Allowed}
use Rattle.sp_history.specs.Moments.{Moment, past, Lawful}
use Rattle.core_state.specs.Busy.{is_busy}
use Rattle.core_state.specs.Pipes.{UpPipe, ids, up_pipes, IsMarked, PipesStand, KeepsListed, TakesNext, TurnedTo}
use Rattle.core_state.specs.declared.pipes.Pipes.{Pipes}
use Rattle.core_state.proofs.ChangedWires.{equal_numbers, same_number, has-push}
use Rattle.core_state.proofs.Lawfuls.{by_steps}
use Rattle.sp_core.specs.declared.calls.serve.Visit.{Visit}
use Rattle.sp_core.specs.Serving.{BusySwept, IsFlushedIn, IsFresh, IsServedIn, VisitedTo}
use Rattle.sp_core.proofs.ServedPipes.{most_still, same_all, up_before}

-- ---- Lists

pub has_on : (xs : List ℕ) (p : ℕ) → has (xs ++ p ∷ []) p ≡ true
has_on xs p = has-push xs p p ∙ ap (λ (b : Bool). has xs p || b) (same_number p) ∙ always (has xs p)
  where
    always : (b : Bool) → (b || true) ≡ true
    always true = refl
    always false = refl

has_off : (xs : List ℕ) (p q : ℕ) → has (xs ++ p ∷ []) q ≡ false → (has xs q ≡ false) × ((p == q) ≡ false)
has_off xs p q h = go (has xs q) refl (p == q) refl (sym (has-push xs p q) ∙ h)
  where
    go : (a : Bool) → has xs q ≡ a → (b : Bool) → (p == q) ≡ b → (a || b) ≡ false → (has xs q ≡ false) × ((p == q) ≡ false)
    go true e b f k = absurd cc
    go false e true f k = absurd cc
    go false e false f k = (e, f)

has_either : (xs : List ℕ) (p q : ℕ) → has (xs ++ p ∷ []) q ≡ true → (has xs q ≡ true) ⊎ ((p == q) ≡ true)
has_either xs p q h = go (has xs q) refl (p == q) refl (sym (has-push xs p q) ∙ h)
  where
    go : (a : Bool) → has xs q ≡ a → (b : Bool) → (p == q) ≡ b → (a || b) ≡ true → (has xs q ≡ true) ⊎ ((p == q) ≡ true)
    go true e b f k = inl e
    go false e true f k = inr f
    go false e false f k = absurd cc

has_still : (xs : List ℕ) (p q : ℕ) → has xs q ≡ true → has (xs ++ p ∷ []) q ≡ true
has_still xs p q h = has-push xs p q ∙ ap (λ (b : Bool). b || (p == q)) h

not_behind : (xs ys : List ℕ) (p : ℕ) → has (xs ++ ys) p ≡ false → has ys p ≡ false
not_behind [] ys p h = h
not_behind (x ∷ xs) ys p h = go (x == p) h (not_behind xs ys p)
  where
    go : (b : Bool) → (b || has (xs ++ ys) p) ≡ false → (has (xs ++ ys) p ≡ false → has ys p ≡ false) → has ys p ≡ false
    go true k again = absurd cc
    go false k again = again k

-- a list that is long enough has a first number
first_of : (rest : List ℕ) (n : ℕ) → length rest ≡ n → 0 < n → (p : ℕ) × (more : List ℕ) × (rest ≡ p ∷ more)
first_of [] n e l = absurd (omega (arith, e, l))
first_of (p ∷ more) n e l = (p, more, refl)

-- ---- The list

-- a pipe that is up and busy is on the list
marked_listed : {W : Type 0} (f : ℕ → Bool) (list : List ℕ) (us : List (UpPipe W)) (q : ℕ) → All (IsMarked f list) us → has (ids us) q ≡ true → f q ≡ true → has list q ≡ true
marked_listed f list [] q all h k = absurd cc
marked_listed {W = W} f list (x ∷ us) q all h k = go (x.id == q) refl h (λ m. marked_listed f list us q (λ i d l. all (suc i) d (omega (arith, l))) m k)
  where
    at : IsMarked f list x
    at = all 0 x (omega arith)

    go : (b : Bool) → (x.id == q) ≡ b → (b || has (ids us) q) ≡ true → (has (ids us) q ≡ true → has list q ≡ true) → has list q ≡ true
    go true e m again =
        let same : x.id ≡ q = equal_numbers x.id q e in
        let busy : x.busy ≡ true = at.0 ∙ ap f same ∙ k in
        let on : has list x.id ≡ true = sym at.1 ∙ at.2 busy in
        subst (λ (y : ℕ). has list y ≡ true) same on
    go false e m again = again m

module _ {W : Type 0} (shown : W → WireView) where
  pub busy_listed : (l : Pipes W) (t : Moment) (q : ℕ) → PipesStand shown l t → has (up (past t)) q ≡ true → is_busy (past t) q ≡ true → has l.busy.items q ≡ true
  busy_listed l t q h u b = marked_listed (λ p. is_busy (past t) p) l.busy.items (up_pipes l) q h.marks.0 (subst (λ (xs : List ℕ). has xs q ≡ true) (sym h.up_is) u) b

few_ups : (t : Moment) → Lawful t → ups (past t) < 2 ^ 31
few_ups t l = by_steps t (λ before. ups before < 2 ^ 31) (omega arith) (λ k before e h a. one k before e h a) l
  where
    one : (k : ℕ) (before : List Entry) (e : Entry) → ups before < 2 ^ 31 → Allowed t.z k before e → ups (e ∷ before) < 2 ^ 31
    one k before (Up p place limit name) h a = let is = a.itself.0 in let low = a.itself.2 in omega (arith, is, low)
    one k before _ h a = h

-- ---- One after another

-- `asked` and `rest` are on the list, and those that are busy and were not asked are in `rest`
pub record Asking {W : Type 0} (most waiting left : ℕ) (l : Pipes W) (asked rest : List ℕ) (s t : Moment) : Type 0 where
  pub swept : BusySwept most asked rest waiting s t
  pub list : l.busy.items ≡ rest ++ asked
  pub count : length rest ≡ left

module _ {W : Type 0} (shown : W → WireView) where
  -- nothing was asked yet
  pub asks_none : (most left : ℕ) (l : Pipes W) (t : Moment) → t.turn ≡ [] → PipesStand shown l t → length l.busy.items ≡ left → Asking most 0 left l [] l.busy.items t t
  asks_none most left l t e h n = record { swept = subst (λ (x : Moment). BusySwept most [] l.busy.items 0 x x) (sym is) (none t.z t.caller t.before (subst (λ (x : Moment). PipesStand shown l x) is h)); list = sym (append-nil l.busy.items); count = n }
    where
      is : t ≡ (let y : Moment = record { z = t.z; caller = t.caller; before = t.before; turn = [] } in y)
      is = ap (λ xs. let y : Moment = record { z = t.z; caller = t.caller; before = t.before; turn = xs } in y) e

      none : (z : Setting) (caller : ℕ) (before : List Entry) → let s : Moment = record { z = z; caller = caller; before = before; turn = [] } in PipesStand shown l s → BusySwept most [] l.busy.items 0 s s
      none z caller before h = record {
        same = refl;
        served = λ q u a. absurd cc;
        fresh = λ q u a. (refl, refl, refl, λ w. w);
        others = λ q a. (refl, refl, refl);
        still = λ q a. refl;
        only = λ q a. absurd cc;
        all = λ q u b. inr (busy_listed shown l (record { z = z; caller = caller; before = before; turn = [] }) q h u b);
        downs = omega arith;
        stalls = refl;
        few = omega arith;
        kinds = tt;
        counts = λ q. (omega arith, omega arith, omega arith);
        gives = λ g. g;
      }

  -- fewer are asked than came up
  pub asks_few : (most waiting left : ℕ) (l : Pipes W) (asked rest : List ℕ) (s t : Moment) → Lawful t → PipesStand shown l t → Asking most waiting left l asked rest s t → waiting < 2 ^ 31
  asks_few most waiting left l asked rest s t lawful h a =
      let long = ap length a.list ∙ length-append rest asked in
      let few = a.swept.few in
      let all = h.marks.4 in
      let low = few_ups t lawful in
      omega (arith, long, few, all, low)

-- the next one isn't up, or isn't busy
turned_off : (most waiting p : ℕ) (asked more : List ℕ) (s t : Moment) → BusySwept most asked (p ∷ more) waiting s t → has asked p ≡ false → (has (up (past t)) p ≡ true → is_busy (past t) p ≡ false) → BusySwept most asked more waiting s t
turned_off most waiting p asked more s t h off idle = record {
  same = h.same;
  served = h.served;
  fresh = h.fresh;
  others = h.others;
  still = h.still;
  only = h.only;
  all = λ q u b. one q u b (h.all q u b);
  downs = h.downs;
  stalls = h.stalls;
  few = h.few;
  kinds = h.kinds;
  counts = h.counts;
  gives = h.gives;
}
  where
    left : (q : ℕ) → has (up (past t)) q ≡ true → is_busy s.before q ≡ true → (b : Bool) → (p == q) ≡ b → (b || has more q) ≡ true → (has asked q ≡ true) ⊎ (has more q ≡ true)
    left q u b true e k =
        let same : p ≡ q = equal_numbers p q e in
        let no : is_busy (past t) p ≡ false = idle (subst (λ (y : ℕ). has (up (past t)) y ≡ true) (sym same) u) in
        let yes : is_busy s.before p ≡ true = subst (λ (y : ℕ). is_busy s.before y ≡ true) (sym same) b in
        let was = h.still p off in
        absurd cc
    left q u b false e k = inr k

    one : (q : ℕ) → has (up (past t)) q ≡ true → is_busy s.before q ≡ true → (has asked q ≡ true) ⊎ (has (p ∷ more) q ≡ true) → (has asked q ≡ true) ⊎ (has more q ≡ true)
    one q u b (inl a) = inl a
    one q u b (inr m) = left q u b (p == q) refl m

-- the next one was served
turned_on : (most waiting p : ℕ) (asked more : List ℕ) (v : Visit) (s t u : Moment) → BusySwept most asked (p ∷ more) waiting s t → has asked p ≡ false → is_busy (past t) p ≡ true → VisitedTo most v p t u → BusySwept most (asked ++ p ∷ []) more (waiting + v.stalls) s u
turned_on most waiting p asked more v s t u h off busy visit = record {
  same = same_all s t u h.same visit.passes.same;
  served = λ q k a. done q k (has_either asked p q a);
  fresh = λ q k a. let n = has_off asked p q a in visit.passes.fresh q n.1 (was q k).0 (h.fresh q (was q k).0 n.0);
  others = λ q a. let n = has_off asked p q a in let o = h.others q n.0 in let c = visit.passes.counts q n.1 in (c.0 ∙ o.0, c.1 ∙ o.1, c.2 ∙ o.2);
  still = λ q a. let n = has_off asked p q a in visit.passes.busy q n.1 ∙ h.still q n.0;
  only = λ q a. only q (has_either asked p q a);
  all = λ q k b. all q (h.all q (was q k).0 b);
  downs = omega (arith, h.downs, visit.passes.downs);
  stalls = omega (arith, h.stalls, visit.stalls);
  few = let long = length-append asked (p ∷ []) in omega (arith, h.few, visit.few, long);
  kinds = visit.passes.kinds h.kinds;
  counts = λ q. most_still most p q t u (h.counts q) visit.counts (visit.passes.counts q);
  gives = λ g. visit.gives (h.gives g);
}
  where
    was : (q : ℕ) → has (up (past u)) q ≡ true → (has (up (past t)) q ≡ true) × ((p == q) ≡ true → v.up ≡ true)
    was q k = up_before v.up (up (past t)) p q (subst (λ (xs : List ℕ). has xs q ≡ true) visit.passes.ups k)

    itself : (q : ℕ) → has (up (past u)) q ≡ true → (p == q) ≡ true → IsServedIn most u q × IsFlushedIn u q
    itself q k e = subst (λ (y : ℕ). IsServedIn most u y × IsFlushedIn u y) (equal_numbers p q e) (visit.serves ((was q k).1 e))

    done : (q : ℕ) → has (up (past u)) q ≡ true → (has asked q ≡ true) ⊎ ((p == q) ≡ true) → IsServedIn most u q × IsFlushedIn u q
    done q k (inr e) = itself q k e
    done q k (inl a) = go (p == q) refl
      where
        go : (b : Bool) → (p == q) ≡ b → IsServedIn most u q × IsFlushedIn u q
        go true e = itself q k e
        go false e = let o = h.served q (was q k).0 a in (visit.passes.served q e o.0, visit.passes.flushes q o.1)

    only : (q : ℕ) → (has asked q ≡ true) ⊎ ((p == q) ≡ true) → is_busy s.before q ≡ true
    only q (inl a) = h.only q a
    only q (inr e) = subst (λ (y : ℕ). is_busy s.before y ≡ true) (equal_numbers p q e) (sym (h.still p off) ∙ busy)

    here : (q : ℕ) (b : Bool) → (p == q) ≡ b → (b || has more q) ≡ true → (has (asked ++ p ∷ []) q ≡ true) ⊎ (has more q ≡ true)
    here q true e k = inl (subst (λ (y : ℕ). has (asked ++ p ∷ []) y ≡ true) (equal_numbers p q e) (has_on asked p))
    here q false e k = inr k

    all : (q : ℕ) → (has asked q ≡ true) ⊎ (has (p ∷ more) q ≡ true) → (has (asked ++ p ∷ []) q ≡ true) ⊎ (has more q ≡ true)
    all q (inl a) = inl (has_still asked p q a)
    all q (inr m) = here q (p == q) refl m

module _ {W : Type 0} (shown : W → WireView) (most waiting left : ℕ) (l m : Pipes W) (asked rest : List ℕ) (s t : Moment) where
  -- the first of the list, and those behind it
  record Next (r : Option (ℕ × ℕ)) : Type 0 where
    first : ℕ
    more : List ℕ
    is : rest ≡ first ∷ more
    count : length more + 1 ≡ left
    off : has asked first ≡ false
    turned : TurnedTo r first (more ++ asked) t m

  next_one : (r : Option (ℕ × ℕ)) → PipesStand shown l t → Asking most waiting left l asked rest s t → 0 < left → TakesNext shown r t l m → Next r
  next_one r h a some k = let f = first_of rest left a.count some in go f.0 f.1 f.2
    where
      go : (p : ℕ) (more : List ℕ) → rest ≡ p ∷ more → Next r
      go p more e =
          let both : k.first ∷ k.rest ≡ p ∷ (more ++ asked) = sym k.was ∙ a.list ∙ ap (λ (xs : List ℕ). xs ++ asked) e in
          let first : k.first ≡ p = cc in
          let behind : k.rest ≡ more ++ asked = cc in
          let apart : AreDistinct (p ∷ (more ++ asked)) = subst AreDistinct both (subst AreDistinct k.was h.marks.1) in
          record {
            first = p;
            more = more;
            is = e;
            count = let n = ap length e in let c = a.count in omega (arith, n, c);
            off = not_behind more asked p apart.0;
            turned = subst (λ (x : ℕ). TurnedTo r x (more ++ asked) t m) first (subst (λ (xs : List ℕ). TurnedTo r k.first xs t m) behind k.turned);
          }

  -- it has left the list
  pub asks_off : PipesStand shown l t → Asking most waiting left l asked rest s t → 0 < left → TakesNext shown None t l m → (more : List ℕ) × Asking most waiting (left - 1) m asked more s t
  asks_off h a some k =
      let n = next_one None h a some k in
      (n.more, record { swept = turned_off most waiting n.first asked n.more s t (subst (λ (xs : List ℕ). BusySwept most asked xs waiting s t) n.is a.swept) n.off n.turned.1; list = n.turned.0; count = let c = n.count in omega (arith, c) })

  -- no entry of this turn concerns it, and it is on the list
  pub asks_next : (f : ℕ × ℕ) → PipesStand shown l t → Asking most waiting left l asked rest s t → 0 < left → TakesNext shown (Some f) t l m → has (up (past t)) f.1 ≡ true → IsFresh t f.1
  asks_next f h a some k u =
      let n = next_one (Some f) h a some k in
      a.swept.fresh f.1 u (subst (λ (x : ℕ). has asked x ≡ false) (sym n.turned.0) n.off)

  -- it was served
  pub asks_on : (f : ℕ × ℕ) (v : Visit) (u : Moment) (o : Pipes W) → PipesStand shown l t → Asking most waiting left l asked rest s t → 0 < left → TakesNext shown (Some f) t l m → VisitedTo most v f.1 t u → KeepsListed f.1 m o → (more : List ℕ) × Asking most (waiting + v.stalls) (left - 1) o (asked ++ f.1 ∷ []) more s u
  asks_on f v u o h a some k visit keeps =
      let p = f.1 in
      let n = next_one (Some f) h a some k in
      let same : n.first ≡ p = sym n.turned.0 in
      let list : m.busy.items ≡ n.more ++ (asked ++ p ∷ []) = n.turned.2 ∙ append_assoc n.more asked (p ∷ []) in
      let on : has m.busy.items p ≡ true = subst (λ (xs : List ℕ). has xs p ≡ true) (sym n.turned.2) (has_on (n.more ++ asked) p) in
      let before : BusySwept most asked (p ∷ n.more) waiting s t = subst (λ (x : ℕ). BusySwept most asked (x ∷ n.more) waiting s t) same (subst (λ (xs : List ℕ). BusySwept most asked xs waiting s t) n.is a.swept) in (
        n.more,
        record {
          swept = turned_on most waiting p asked n.more v s t u before (subst (λ (x : ℕ). has asked x ≡ false) same n.off) n.turned.3 visit;
          list = keeps on ∙ list;
          count = let c = n.count in omega (arith, c);
        },
      )

-- none is left
pub asks_all : {W : Type 0} (most waiting left : ℕ) (l : Pipes W) (asked rest : List ℕ) (s t : Moment) → Asking most waiting left l asked rest s t → left ≤ 0 → BusySwept most asked [] waiting s t
asks_all most waiting left l asked rest s t a none = go rest a.count a.swept
  where
    go : (rest : List ℕ) → length rest ≡ left → BusySwept most asked rest waiting s t → BusySwept most asked [] waiting s t
    go [] n h = h
    go (x ∷ xs) n h = absurd (omega (arith, n, none))

-- what is left of the list is as long as before, or one shorter
pub one_shorter : {W : Type 0} (shown : W → WireView) (r : Option (ℕ × ℕ)) (t : Moment) (l m : Pipes W) → TakesNext shown r t l m → length l.busy.items ≤ length m.busy.items + 1
one_shorter shown None t l m k = let a = ap length k.was in let b = ap length k.turned.0 in omega (arith, a, b)
one_shorter shown (Some f) t l m k = let a = ap length k.was in let b = ap length k.turned.2 ∙ length-append k.rest (f.1 ∷ []) in omega (arith, a, b)
