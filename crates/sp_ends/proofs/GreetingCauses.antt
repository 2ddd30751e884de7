-- The result of the opening of one link.
use Rattle.std.proofs.Common.{◌≡◌, ap, ◌∙◌, subst, List, ℕ, ◌+◌, ◌≤◌, false, arith, Some}
use Rattle.std.specs.Prelude.{⊤}
use Rattle.turn_lock.specs.declared.turn.Turn.{Turn}
use Rattle.sp_base.specs.Views.{LinkView}
use Rattle.sp_base.specs.declared.role.Role.{Role}
use Rattle.sp_history.specs.declared.entry.Entry.{Entry}
use Rattle.sp_history.specs.declared.entry.Miss.{Miss}
use Rattle.sp_history.specs.declared.entry.Miss.TheVariants as misses
use Rattle.sp_history.specs.declared.setting.Setting.{Setting}
use Rattle.sp_history.specs.Past.{past_of, now}
use Rattle.sp_links.specs.Ways.{IsComplete, IsSpoilt, WroteOrStalled}
use Rattle.sp_ends.specs.LinkRecords.{met_at, IsLate}
use Rattle.sp_links.specs.declared.opening.Opening.{Opening}
use Rattle.sp_links.specs.declared.opening.Progress.{Progress}
use Rattle.sp_links.specs.Openings.{openings}
use Rattle.sp_links.specs.Origins.{Origins, run_ways}
use Rattle.sp_links.specs.Going.{IsUndone, HasTried, IsWrong, IsLater, CameTo}
use Rattle.sp_ends.specs.declared.greeting.NewcomerDecision.TheVariants as decisions
use Rattle.sp_ends.specs.RunLinks.{IsOfRun, IsCauseOf}
use Rattle.sp_ends.specs.NewcomerSteps.{DecidedFor, IsOut, FateHasWaited, FateIsYoung}
use Rattle.sp_ends.specs.declared.newcomer.Newcomer.{Newcomer}
use Rattle.sp_ends.specs.declared.greeting.NewcomerFate.{NewcomerFate}
use Rattle.sp_ends.specs.declared.greeting.NewcomerFate.TheVariants as fates

abbrev shut : LinkView → LinkView
shut link = record link { is_open = false }

-- ---- A link that was left or given back

module _ {L : Type 0} (seen : L → LinkView) (o : Origins) (z : Setting) (m : Opening L) (run : IsOfRun seen o z m) where
  pub spoilt : IsWrong seen m → IsSpoilt (run_ways z.role o) m.way (shut (seen m.link))
  spoilt w = subst (λ (r : Role). IsSpoilt (openings r (λ way. ⊤)) m.way (seen m.link)) run.role w

  pub incomplete : IsUndone seen m → IsComplete (run_ways z.role o) m.way (shut (seen m.link)) → ⊥
  incomplete u = subst (λ (r : Role). IsComplete (openings r (λ way. ⊤)) m.way (seen m.link) → ⊥) run.role u

  pub wrote : HasTried seen m → WroteOrStalled (run_ways z.role o) m.way (shut (seen m.link))
  wrote t = subst (λ (r : Role). WroteOrStalled (openings r (λ way. ⊤)) m.way (seen m.link)) run.role t

-- ---- Its cause

module _ {L : Type 0} (seen : L → LinkView) (o : Origins) (z : Setting) (h : List (Turn Entry)) (n m : Opening L) (later : IsLater (seen n.link) (seen m.link)) (run : IsOfRun seen o z m) where
  late : (at : ℕ) → met_at (past_of h) (seen n.link).place ≡ Some at → at + 10000 ≤ now (past_of h) → IsLate (past_of h) (seen m.link).place
  late at is long = (at, ap (λ (q : ℕ). met_at (past_of h) q) later.place ∙ is, long)

  pub cause_of : (why : Miss) (p : Progress) (at time : ℕ) → DecidedFor (decisions.Miss why) p at time → CameTo seen p (seen n.link) m → met_at (past_of h) (seen n.link).place ≡ Some at → time ≡ now (past_of h) → IsCauseOf o z h why (seen m.link)
  cause_of misses.Bad p at time d g is t = (m.way, (run.scheme, run.known), spoilt seen o z m run (subst (λ (x : Progress). CameTo seen x (seen n.link) m) d g).0)
  cause_of misses.Ended p at time d g is t =
      let e = subst (λ (x : Progress). CameTo seen x (seen n.link) m) d g in
      (m.way, (run.scheme, run.known), (e.0, incomplete seen o z m run e.1, wrote seen o z m run e.2))
  cause_of misses.Failed p at time d g is t =
      let e = subst (λ (x : Progress). CameTo seen x (seen n.link) m) d g in
      (m.way, (run.scheme, run.known), (e.0, incomplete seen o z m run e.1))
  cause_of misses.Late p at time d g is t =
      let e = subst (λ (x : Progress). CameTo seen x (seen n.link) m) d.0 g in
      (m.way, (run.scheme, run.known), (late at is (let b = d.1 in omega (arith, b, t)), incomplete seen o z m run e.1, wrote seen o z m run e.2))
  cause_of misses.Refused p at time d g is t = absurd d
  cause_of misses.NoMemory p at time d g is t = (m.way, (run.scheme, run.known), tt)

-- ---- A link that is out

module _ {L : Type 0} where
  pub out_waited : (seen : L → LinkView) (n : Newcomer L) (f : NewcomerFate L) → IsOut f → FateHasWaited seen n f
  out_waited seen n (fates.Stays m) out = absurd out
  out_waited seen n fates.Up out = tt
  out_waited seen n (fates.Missed miss) out = tt

  pub out_young : (now : ℕ) (f : NewcomerFate L) → IsOut f → FateIsYoung now f
  out_young now (fates.Stays n) out = absurd out
  out_young now fates.Up out = tt
  out_young now (fates.Missed miss) out = tt
