-- Where each link is once all were given back.
use Rattle.std.proofs.Common.{◌≡◌, ◌≤◌, ◌<◌, ℕ, suc, Bool, true, false, cond, List, [], ◌∷◌, Option, Some, None, refl, sym, ap, subst, ◌∙◌, inl, inr, arith, eq-eqb, eqb-true}
use Rattle.std.specs.Prelude.{⊤, ◌==◌, ◌⊎◌, ◌||◌, ◌&&◌, IsTrue, is_none, is_some, nat_le, nat_lt}
use Rattle.std.specs.List.{All, AllByRecursion}
use Rattle.std.specs.FinMap.{FinMap, get, insert}
use Rattle.std.specs.Ordering.{nat_cmp}
use Rattle.std.proofs.lemmas.Bool.{ne_eqb}
use Rattle.sp_base.specs.Views.{LinkView}
use Rattle.sp_links.specs.declared.wire.EndWire.{EndWire}
use Rattle.sp_links.specs.EndWires.{link_of}
use Rattle.sp_history.specs.declared.entry.Entry.{Entry}
use Rattle.sp_history.specs.declared.entry.Entry.TheVariants.{Up, Met, NoUp}
use Rattle.sp_history.specs.Lists.{has, without}
use Rattle.sp_history.specs.Past.{now, name_of}
use Rattle.core_state.specs.declared.pipes.DownPipe.{DownPipe}
use Rattle.core_state.specs.Pipes.{down_ids}
use Rattle.sp_ends.specs.Entries.{each}
use Rattle.sp_ends.specs.LinkRecords.{lane_place, place_of, met_at, greeting, keeps_places}
use Rattle.sp_ends.specs.declared.newcomer.Newcomer.{Newcomer}
use Rattle.sp_ends.specs.RunLinks.{places, is_over_link}
use Rattle.sp_ends.specs.ShutWires.{with_links, with_link, with_wires, shut_link}
use Rattle.sp_ends.proofs.Moves.{there, elsewhere}
use Rattle.sp_ends.proofs.LinkPlaces.{left_of, right_of, passed, met_inside, was_met, gone, not_without, has_append, over_of, Kept}

-- ---- Maps

get_same : (m : FinMap nat_cmp LinkView) (k : ℕ) (v : LinkView) (q : ℕ) → q ≡ k → get (insert m k v) q ≡ Some v
get_same m k v q e = ap (get (insert m k v)) e ∙ there m k v

get_other : (m : FinMap nat_cmp LinkView) (k : ℕ) (v : LinkView) (q : ℕ) → ¬ (q ≡ k) → get (insert m k v) q ≡ get m q
get_other m k v q ne = elsewhere m k v q ne

pub same_or_not : (m n : ℕ) → (m ≡ n) ⊎ ¬ (m ≡ n)
same_or_not m n = go (m == n) refl
  where
    go : (b : Bool) → (m == n) ≡ b → (m ≡ n) ⊎ ¬ (m ≡ n)
    go true e = inl (eqb-true m n e)
    go false e = inr (λ same. let t : (m == n) ≡ true = eq-eqb m n same in let no : true ≡ false = sym t ∙ e in cc)

-- ---- Wires

pub from_all : {X : Type 0} (P : X → Type 0) (xs : List X) → All P xs → AllByRecursion P xs
from_all P [] h = tt
from_all P (x ∷ xs) h = (h 0 x (omega arith), from_all P xs (λ k d lt. h (suc k) d (omega arith)))

-- one of the wires has a link with this place, and the link is back; or none has
pub record OneOf {L : Type 0} (Fact : DownPipe (EndWire L) → Type 0) (back : FinMap nat_cmp LinkView) (ws : List (DownPipe (EndWire L))) (place : ℕ) : Type 0 where
  pub x : DownPipe (EndWire L)
  pub fact : Fact x
  pub there : has (down_ids ws) x.id ≡ true
  pub link : LinkView
  pub link_is : link_of x.wire ≡ Some link
  pub place_is : link.place ≡ place
  pub found : get (with_wires back ws) place ≡ Some (shut_link link)

abbrev pub IsElsewhere : ℕ → Option LinkView → Type 0
IsElsewhere place None = ⊤
IsElsewhere place (Some link) = ¬ (link.place ≡ place)

pub record NoneOf {L : Type 0} (back : FinMap nat_cmp LinkView) (ws : List (DownPipe (EndWire L))) (place : ℕ) : Type 0 where
  pub none : AllByRecursion (λ x. IsElsewhere place (link_of x.wire)) ws
  pub found : get (with_wires back ws) place ≡ get back place

or_true : (a : Bool) → (a || true) ≡ true
or_true true = refl
or_true false = refl

module _ {L : Type 0} (Fact : DownPipe (EndWire L) → Type 0) where
  pub look_wires : (back : FinMap nat_cmp LinkView) (ws : List (DownPipe (EndWire L))) (place : ℕ) → AllByRecursion Fact ws → OneOf Fact back ws place ⊎ NoneOf back ws place
  look_wires back [] place all = inr (record { none = tt; found = refl })
  look_wires back (x ∷ xs) place all = go (link_of x.wire) refl (look_wires back xs place all.1)
    where
      with_it : (o : Option LinkView) → link_of x.wire ≡ o → get (with_wires back (x ∷ xs)) place ≡ get (with_link (with_wires back xs) o) place
      with_it o e = ap (λ (p : Option LinkView). get (with_link (with_wires back xs) p) place) e

      also : OneOf Fact back xs place → get (with_wires back (x ∷ xs)) place ≡ get (with_wires back xs) place → OneOf Fact back (x ∷ xs) place
      also one same = record { x = one.x; fact = one.fact; there = ap (λ (b : Bool). (x.id == one.x.id) || b) one.there ∙ or_true (x.id == one.x.id); link = one.link; link_is = one.link_is; place_is = one.place_is; found = same ∙ one.found }

      at_link : (link : LinkView) → link_of x.wire ≡ Some link → (link.place ≡ place) ⊎ ¬ (link.place ≡ place) → OneOf Fact back xs place ⊎ NoneOf back xs place → OneOf Fact back (x ∷ xs) place ⊎ NoneOf back (x ∷ xs) place
      at_link link e (inl same) r = inl (record { x = x; fact = all.0; there = rw (eq-eqb x.id x.id refl) refl; link = link; link_is = e; place_is = same; found = with_it (Some link) e ∙ get_same (with_wires back xs) link.place (shut_link link) place (sym same) })
      at_link link e (inr ne) (inl one) = inl (also one (with_it (Some link) e ∙ get_other (with_wires back xs) link.place (shut_link link) place (λ q. ne (sym q))))
      at_link link e (inr ne) (inr nobody) = inr (record { none = (subst (IsElsewhere place) (sym e) ne, nobody.none); found = with_it (Some link) e ∙ (get_other (with_wires back xs) link.place (shut_link link) place (λ q. ne (sym q)) ∙ nobody.found) })

      go : (o : Option LinkView) → link_of x.wire ≡ o → OneOf Fact back xs place ⊎ NoneOf back xs place → OneOf Fact back (x ∷ xs) place ⊎ NoneOf back (x ∷ xs) place
      go (Some link) e r = at_link link e (same_or_not link.place place) r
      go None e (inl one) = inl (also one (with_it None e))
      go None e (inr nobody) = inr (record { none = (subst (IsElsewhere place) (sym e) tt, nobody.none); found = with_it None e ∙ nobody.found })

  -- the wire of this pipe
  pub at_id : (ws : List (DownPipe (EndWire L))) (p : ℕ) → has (down_ids ws) p ≡ true → AllByRecursion Fact ws → (x : DownPipe (EndWire L)) × (x.id ≡ p) × Fact x
  at_id [] p h all = cc
  at_id (x ∷ xs) p h all = go (x.id == p) refl h (at_id xs p)
    where
      go : (b : Bool) → (x.id == p) ≡ b → (b || has (down_ids xs) p) ≡ true → (has (down_ids xs) p ≡ true → AllByRecursion Fact xs → (x : DownPipe (EndWire L)) × (x.id ≡ p) × Fact x) → (x : DownPipe (EndWire L)) × (x.id ≡ p) × Fact x
      go true e k before = (x, eqb-true x.id p e, all.0)
      go false e k before = before k all.1

pub both_of : {X : Type 0} (P Q : X → Type 0) (xs : List X) → AllByRecursion P xs → AllByRecursion Q xs → AllByRecursion (λ x. P x × Q x) xs
both_of P Q [] a b = tt
both_of P Q (x ∷ xs) a b = ((a.0, b.0), both_of P Q xs a.1 b.1)

pub mapped_all : {X : Type 0} (P Q : X → Type 0) → ((x : X) → P x → Q x) → (xs : List X) → AllByRecursion P xs → AllByRecursion Q xs
mapped_all P Q f [] a = tt
mapped_all P Q f (x ∷ xs) a = (f x a.0, mapped_all P Q f xs a.1)

-- ---- Newcomers

module _ {L : Type 0} (seen : L → LinkView) (Fact : Newcomer L → Type 0) where
  abbrev pub shut_of : Newcomer L → LinkView
  shut_of n = record (seen n.opening.link) { is_open = false }

  pub record OneCame (back : FinMap nat_cmp LinkView) (ns : List (Newcomer L)) (place : ℕ) : Type 0 where
    pub n : Newcomer L
    pub fact : Fact n
    pub place_is : (seen n.opening.link).place ≡ place
    pub there : has (places seen ns) place ≡ true
    pub found : get (with_links seen back ns) place ≡ Some (shut_of n)

  pub record NoneCame (back : FinMap nat_cmp LinkView) (ns : List (Newcomer L)) (place : ℕ) : Type 0 where
    pub none : has (places seen ns) place ≡ false
    pub found : get (with_links seen back ns) place ≡ get back place

  pub look_links : (back : FinMap nat_cmp LinkView) (ns : List (Newcomer L)) (place : ℕ) → AllByRecursion Fact ns → OneCame back ns place ⊎ NoneCame back ns place
  look_links back [] place all = inr (record { none = refl; found = refl })
  look_links back (n ∷ ns) place all = go (same_or_not (seen n.opening.link).place place) (look_links (insert back (seen n.opening.link).place (shut_of n)) ns place all.1)
    where
      more : FinMap nat_cmp LinkView
      more = insert back (seen n.opening.link).place (shut_of n)

      differs : ¬ ((seen n.opening.link).place ≡ place) → ((seen n.opening.link).place == place) ≡ false
      differs ne = ne_eqb (seen n.opening.link).place place ne

      go : ((seen n.opening.link).place ≡ place) ⊎ ¬ ((seen n.opening.link).place ≡ place) → OneCame more ns place ⊎ NoneCame more ns place → OneCame back (n ∷ ns) place ⊎ NoneCame back (n ∷ ns) place
      go t (inl one) = inl (record { n = one.n; fact = one.fact; place_is = one.place_is; there = ap (λ (b : Bool). ((seen n.opening.link).place == place) || b) one.there ∙ or_true ((seen n.opening.link).place == place); found = one.found })
      go (inl same) (inr nobody) = inl (record { n = n; fact = all.0; place_is = same; there = rw (eq-eqb (seen n.opening.link).place place same) refl; found = nobody.found ∙ get_same back (seen n.opening.link).place (shut_of n) place (sym same) })
      go (inr ne) (inr nobody) = inr (record { none = rw (differs ne) nobody.none; found = nobody.found ∙ get_other back (seen n.opening.link).place (shut_of n) place (λ e. ne (sym e)) })

-- ---- Places of pipes

module _ (first opened : ℕ) (few : first < opened → opened ≤ lane_place) where
  abbrev Over : List Entry → Type 0
  Over past = IsTrue (each is_over_link past)

  -- a link was missed
  abbrev pub was_missed : List Entry → ℕ → Bool
  was_missed [] place = false
  was_missed (NoUp other miss ∷ past) place = (other == place) || was_missed past place
  was_missed (_ ∷ past) place = was_missed past place

  apart_from : {b : Bool} → b ≡ true → b ≡ false → ⊥
  apart_from t f = let no : true ≡ false = sym t ∙ f in cc

  missed_met : (past : List Entry) (place : ℕ) → Kept first opened past → was_missed past place ≡ true → is_some (met_at past place) ≡ true
  missed_met [] place k m = cc
  missed_met (Met other ∷ past) place k m = go (other == place) (missed_met past place (right_of _ _ k) m)
    where
      go : (t : Bool) → is_some (met_at past place) ≡ true → is_some (cond t (Some (now past)) (met_at past place)) ≡ true
      go true before = refl
      go false before = before
  missed_met (NoUp other miss ∷ past) place k m = go (other == place) refl m (missed_met past place (right_of _ _ k))
    where
      go : (t : Bool) → (other == place) ≡ t → (t || was_missed past place) ≡ true → (was_missed past place ≡ true → is_some (met_at past place) ≡ true) → is_some (met_at past place) ≡ true
      go true e x before = was_met first opened past place (subst (λ (q : ℕ). has (greeting past) q ≡ true) (eqb-true other place e) (left_of _ _ k))
      go false e x before = before x
  missed_met (Up r other limit name ∷ past) place k m = missed_met past place (right_of _ _ k) m
  missed_met (_ ∷ past) place k m = missed_met past place k m

  -- it isn't that of lanes
  pub missed_place : (past : List Entry) (place : ℕ) → Kept first opened past → was_missed past place ≡ true → place ≡ lane_place → ⊥
  missed_place past place k m lane = let b = met_inside first opened past place k (missed_met past place k m) in let f = few (omega (arith, b.0, b.1)) in omega (arith, b.1, f, lane)

  -- it is no longer in progress, and no pipe came up over it
  pub missed_rests : (past : List Entry) (place : ℕ) → Kept first opened past → Over past → (place ≡ lane_place → ⊥) → was_missed past place ≡ true → (has (greeting past) place ≡ false) × ((p : ℕ) → place_of past p ≡ Some place → ⊥)
  missed_rests [] place k o n m = cc
  missed_rests (Met other ∷ past) place k o n m =
      let r = missed_rests past place (right_of _ _ k) o n m in
      (has_append (greeting past) (other ∷ []) place ∙ go (other == place) refl r.0, r.1)
    where
      none_of_it : (q : Option ℕ) → is_none q ≡ true → is_some q ≡ true → ⊥
      none_of_it None a b = cc
      none_of_it (Some x) a b = cc

      go : (t : Bool) → (other == place) ≡ t → has (greeting past) place ≡ false → (has (greeting past) place || ((other == place) || false)) ≡ false
      go false e off = rw (off, e) refl
      go true e off =
          let met = missed_met past place (right_of _ _ k) m in
          let unmet : is_none (met_at past other) ≡ true = right_of (nat_le first other && nat_lt other opened) (is_none (met_at past other)) (left_of (keeps_places first opened past (Met other)) (each (keeps_places first opened) past) k) in
          absurd (none_of_it (met_at past other) unmet (subst (λ (q : ℕ). is_some (met_at past q) ≡ true) (sym (eqb-true other place e)) met))
  missed_rests (NoUp other miss ∷ past) place k o n m = go (other == place) refl m (missed_rests past place (right_of _ _ k) o n)
    where
      go : (t : Bool) → (other == place) ≡ t → (t || was_missed past place) ≡ true → (was_missed past place ≡ true → (has (greeting past) place ≡ false) × ((p : ℕ) → place_of past p ≡ Some place → ⊥)) → (has (without (greeting past) other) place ≡ false) × ((p : ℕ) → place_of past p ≡ Some place → ⊥)
      go true e x before =
          let same = eqb-true other place e in
          let on : has (greeting past) place ≡ true = subst (λ (q : ℕ). has (greeting past) q ≡ true) same (left_of _ _ k) in (
            subst (λ (q : ℕ). has (without (greeting past) other) q ≡ false) same (gone (greeting past) other),
            λ p up. apart_from on (passed first opened past p place (right_of (has (greeting past) other) (each (keeps_places first opened) past) k) few up),
          )
      go false e x before = let r = before x in (not_without (greeting past) other place r.0, r.1)
  missed_rests (Up q other limit name ∷ past) place k o n m =
      let r = missed_rests past place (right_of _ _ k) (right_of _ _ o) n m in
      (not_without (greeting past) other place r.0, λ p up. go p (q == p) up r.0 r.1)
    where
      go : (p : ℕ) (t : Bool) → cond t (Some other) (place_of past p) ≡ Some place → has (greeting past) place ≡ false → ((s : ℕ) → place_of past s ≡ Some place → ⊥) → ⊥
      go p true x off none =
          let same : other ≡ place = cc in
          let on : has (greeting past) other ≡ true = over_of past other (λ l. n (sym same ∙ l)) (left_of _ _ o) in
          let no : true ≡ false = sym on ∙ ap (has (greeting past)) same ∙ off in cc
      go p false x off none = none p x
  missed_rests (_ ∷ past) place k o n m = missed_rests past place k o n m

-- a pipe with a name came up over some link
pub named_place : (past : List Entry) (p : ℕ) (name : List ℕ) → name_of past p ≡ Some name → (place : ℕ) × (place_of past p ≡ Some place)
named_place [] p name e = cc
named_place (Up q other limit n ∷ past) p name e = go (q == p) e (named_place past p name)
  where
    go : (t : Bool) → cond t (Some n.numbers) (name_of past p) ≡ Some name → (name_of past p ≡ Some name → (place : ℕ) × (place_of past p ≡ Some place)) → (place : ℕ) × (cond t (Some other) (place_of past p) ≡ Some place)
    go true x before = (other, refl)
    go false x before = before x
named_place (_ ∷ past) p name e = named_place past p name e
