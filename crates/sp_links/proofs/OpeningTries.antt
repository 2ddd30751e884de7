-- What a try to go on gives.
use Rattle.std.proofs.Common.{◌≡◌, ◌≤◌, ◌<◌, ◌++◌, ℕ, List, [], length, take, Option, Some, None, refl, sym, ap, subst, ◌∙◌, arith, inl, inr}
use Rattle.std.specs.Prelude.{◌⊎◌}
use Rattle.std.proofs.lemmas.List.{append-nil, length-take, take_all}
use Rattle.sp_base.specs.Outside.{Told, Rose, IsPrefix}
use Rattle.sp_base.specs.Views.{LinkView}
use Rattle.sp_links.specs.declared.opening.Opening.{Opening}
use Rattle.sp_links.specs.declared.opening.Progress.{Progress}
use Rattle.sp_links.specs.declared.opening.Progress.TheVariants as progress
use Rattle.sp_links.specs.Openings.{IsGood, Owes}
use Rattle.sp_links.specs.Going.{Stands, IsOwn, IsMissing, IsOpened, IsLater, HasWaited, WaitsFor, IsUndone, HasTried, IsSame, OpenedTo, IsSaying, SaidTo, HeardTo}
use Rattle.sp_links.proofs.Owing.{more_not_good, more_owes, owes_one}

-- ---- A link that isn't complete

module _ {L : Type 0} (seen : L → LinkView) (n : Opening L) (stands : Stands seen n) where
  came_is : (s : List ℕ) → (seen n.link).came ≡ Some s → s ≡ n.came
  came_is s e = subst (λ (o : Option (List ℕ)). Told o (λ t. t ≡ n.came)) e stands.came

  written_is : (w : List ℕ) → (seen n.link).written ≡ Some w → w ≡ take n.said n.own
  written_is w e = subst (λ (o : Option (List ℕ)). Told o (λ t. t ≡ take n.said n.own)) e stands.written

  own_as : (u : Option ℕ) → n.used ≡ u → IsOwn n.role n.way n.own n.came u
  own_as u e = subst (λ (v : Option ℕ). IsOwn n.role n.way n.own n.came v) e stands.own

  undone_by : (u : Option ℕ) → n.used ≡ u → IsMissing n u → IsUndone seen n
  undone_by None e m (came, written, ce, we, good, owes) = more_not_good n.role n.way n.came (own_as None e).1 (subst (λ (s : List ℕ). IsGood n.role n.way s) (came_is came ce) good)
  undone_by (Some u) e m (came, written, ce, we, good, owes) =
      let own = own_as (Some u) e in
      let owed : written ≡ own.0 ++ own.1 = owes_one n.role n.way u own.0 own.1 n.came written own.2 own.3 (subst (λ (s : List ℕ). Owes n.role n.way s written) (came_is came ce) owes) in
      omega (arith, m, ap length (written_is written we), length-take n.said n.own, ap length (owed ∙ sym own.4))

  -- something is missing
  pub undone : IsMissing n n.used → IsUndone seen n
  undone m = undone_by n.used refl m

  -- it once took nothing
  pub stalled : 1 ≤ (seen n.link).stalls → HasTried seen n
  stalled s = go (seen n.link).came (seen n.link).written
    where
      go : (c w : Option (List ℕ)) → Told c (λ came. Told w (λ written. (owed : List ℕ) → Owes n.role n.way came owed → IsPrefix owed written ⊎ (1 ≤ (seen n.link).stalls)))
      go None w = tt
      go (Some c) None = tt
      go (Some c) (Some w) = λ owed o. inr s

  -- all that is owed so far is written
  pub tried : n.used ≡ None → n.said ≡ length n.own → HasTried seen n
  tried none all = go (seen n.link).came (seen n.link).written stands.came stands.written
    where
      prefix : (c w owed : List ℕ) → c ≡ n.came → w ≡ take n.said n.own → Owes n.role n.way c owed → IsPrefix owed w
      prefix c w owed ce we o =
          let own = own_as None none in
          let is : owed ≡ n.own = more_owes n.role n.way n.came n.own owed own.1 own.0 (subst (λ (s : List ℕ). Owes n.role n.way s owed) ce o) in
          ([], we ∙ (take_all n.said n.own (omega (arith, all)) ∙ (sym is ∙ sym (append-nil owed))))

      go : (c w : Option (List ℕ)) → Told c (λ s. s ≡ n.came) → Told w (λ t. t ≡ take n.said n.own) → Told c (λ came. Told w (λ written. (owed : List ℕ) → Owes n.role n.way came owed → IsPrefix owed written ⊎ (1 ≤ (seen n.link).stalls)))
      go None w x y = tt
      go (Some c) None x y = tt
      go (Some c) (Some w) x y = λ owed o. inl (prefix c w owed x y o)

missing_if : {L : Type 0} (n : Opening L) → n.said < length n.own → (u : Option ℕ) → IsMissing n u
missing_if n few None = tt
missing_if n few (Some u) = few

missing_none : {L : Type 0} (n : Opening L) (u : Option ℕ) → u ≡ None → IsMissing n u
missing_none n None e = tt
missing_none n (Some u) e = absurd (cc e)

-- ---- One step after another

pub same_after : {L : Type 0} (a b c : Opening L) → IsSame a b → IsSame b c → IsSame a c
same_after a b c x y = record { role = y.role ∙ x.role; way = y.way ∙ x.way }

pub later_on : (a b c : LinkView) → IsLater a b → IsLater b c → IsLater a c
later_on a b c f g = record { place = g.place ∙ f.place; scheme = g.scheme ∙ f.scheme; faults = omega (arith, f.faults, g.faults); idles = omega (arith, f.idles, g.idles); stalls = omega (arith, f.stalls, g.stalls) }

rose_before : (a b c : ℕ) → a ≤ b → Rose b c → Rose a c
rose_before a b c le r = omega (arith, le, r)

module _ {L : Type 0} (seen : L → LinkView) where
  waits_before : (a b : LinkView) (n : Opening L) → IsLater a b → WaitsFor seen b n → WaitsFor seen a n
  waits_before a b n l (inl (few, r)) = inl (few, rose_before a.stalls b.stalls (seen n.link).stalls l.stalls r)
  waits_before a b n l (inr (all, r)) = inr (all, rose_before a.idles b.idles (seen n.link).idles l.idles r)

  pub has_waited : (a : LinkView) (n : Opening L) → WaitsFor seen a n → HasWaited a (seen n.link)
  has_waited a n (inl (few, r)) = inr r
  has_waited a n (inr (all, r)) = inl r

  pub is_same : (old new : Opening L) → IsSaying old new → IsSame old new
  is_same old new s = record { role = ap (λ (n : Opening L). n.role) s; way = ap (λ (n : Opening L). n.way) s }

  pub opened_from : (p : Progress) (old mid new : Opening L) → IsSame old mid → IsLater (seen old.link) (seen mid.link) → OpenedTo seen p mid new → OpenedTo seen p old new
  opened_from progress.Waits old mid new s l o = record { came_to = (o.came_to.0, o.came_to.1, o.came_to.2, waits_before (seen old.link) (seen mid.link) new l o.came_to.3); same = same_after old mid new s o.same }
  opened_from progress.Opened old mid new s l o = record { came_to = o.came_to; same = same_after old mid new s o.same }
  opened_from progress.Bad old mid new s l o = record { came_to = o.came_to; same = same_after old mid new s o.same }
  opened_from progress.Ended old mid new s l o = record { came_to = o.came_to; same = same_after old mid new s o.same }
  opened_from progress.Failed old mid new s l o = record { came_to = o.came_to; same = same_after old mid new s o.same }
  opened_from progress.NoMemory old mid new s l o = record { came_to = o.came_to; same = same_after old mid new s o.same }

  -- where not all is written
  pub said_to : (p : Progress) (old new : Opening L) → SaidTo seen p old new → (p ≡ progress.Opened → ⊥) → OpenedTo seen p old new
  said_to progress.Waits old new s not_all =
      let u = s.so.0 in
      record { came_to = (u, undone seen new u.stands u.missing, stalled seen new u.stands s.so.1, inl (s.so.2, s.so.3)); same = is_same old new s.same }
  said_to progress.Opened old new s not_all = absurd (not_all refl)
  said_to progress.Bad old new s not_all = absurd s.so
  said_to progress.Ended old new s not_all = absurd s.so
  said_to progress.Failed old new s not_all = record { came_to = (s.so.0, undone seen new s.so.1 (missing_if new s.so.2 new.used)); same = is_same old new s.same }
  said_to progress.NoMemory old new s not_all = absurd s.so

  -- where the peer's part isn't right
  pub heard_to : (p : Progress) (old new : Opening L) → HeardTo seen p old new → (p ≡ progress.Opened → ⊥) → OpenedTo seen p old new
  heard_to progress.Waits old new h not_all =
      let x = h.so.0 in
      let m = missing_none new new.used x.unheard in
      record { came_to = (record { stands = x.stands; missing = m }, undone seen new x.stands m, tried seen new x.stands x.unheard x.said, inr (x.said, h.so.1)); same = h.same }
  heard_to progress.Opened old new h not_all = absurd (not_all refl)
  heard_to progress.Bad old new h not_all = record { came_to = h.so; same = h.same }
  heard_to progress.Ended old new h not_all =
      let x = h.so.0 in
      record { came_to = (h.so.1, undone seen new x.stands (missing_none new new.used x.unheard), tried seen new x.stands x.unheard x.said); same = h.same }
  heard_to progress.Failed old new h not_all =
      let x = h.so.0 in
      record { came_to = (h.so.1, undone seen new x.stands (missing_none new new.used x.unheard)); same = h.same }
  heard_to progress.NoMemory old new h not_all = record { came_to = tt; same = h.same }

  opened_by : (old new : Opening L) (u : ℕ) → old.used ≡ Some u → IsSaying old new → Stands seen new → new.said ≡ length new.own → IsOpened seen new
  opened_by old new u e s st all = record { stands = st; said = all; used = u; used_is = ap (λ (n : Opening L). n.used) s ∙ e }

  -- where it is right, and all or part of what is owed for it is written
  pub answered : (p : Progress) (old mid new : Opening L) → HeardTo seen progress.Opened old mid → IsLater (seen old.link) (seen mid.link) → SaidTo seen p mid new → OpenedTo seen p old new
  answered progress.Opened old mid new h l s = record { came_to = opened_by mid new h.so.1.0 h.so.1.1 s.same s.so.0 s.so.1; same = same_after old mid new h.same (is_same mid new s.same) }
  answered progress.Waits old mid new h l s = opened_from progress.Waits old mid new h.same l (said_to progress.Waits mid new s (λ e. cc e))
  answered progress.Bad old mid new h l s = absurd s.so
  answered progress.Ended old mid new h l s = absurd s.so
  answered progress.Failed old mid new h l s = opened_from progress.Failed old mid new h.same l (said_to progress.Failed mid new s (λ e. cc e))
  answered progress.NoMemory old mid new h l s = absurd s.so
