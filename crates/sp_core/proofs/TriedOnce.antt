-- A receive is begun, given and taken in one turn: the results of its three steps.
use Rattle.std.proofs.Common.{◌≡◌, refl, ap, ◌∙◌, [], ◌∷◌, ℕ, true, false, Some, None}
use Rattle.sp_base.specs.declared.OpName.{OpName}
use Rattle.sp_msg.specs.Views.{WireView}
use Rattle.sp_history.specs.declared.entry.RecordedAct.TheVariants.{Recv}
use Rattle.sp_history.specs.declared.entry.Ending.{Ending}
use Rattle.sp_history.specs.declared.entry.Entry.TheVariants.{Begin, End, Took}
use Rattle.sp_history.specs.declared.entry.RecordedMessage.{RecordedMessage as Text}
use Rattle.sp_history.specs.declared.parts.Begun.{Begun}
use Rattle.sp_history.specs.declared.parts.OperationEnd.{OperationEnd}
use Rattle.sp_history.specs.Lists.{is_nil}
use Rattle.sp_history.specs.Past.{pending}
use Rattle.sp_history.specs.Kept.{kept}
use Rattle.sp_history.specs.Legal.{is_uncollected}
use Rattle.sp_history.specs.Moments.{Moment, Lawful, past, also}
use Rattle.sp_proto.specs.Machines.{CanGive, NoFlood}
use Rattle.core_state.specs.declared.outcome.Outcome.{Outcome}
use Rattle.sp_core.specs.declared.owner.Core.{Core}
use Rattle.sp_core.specs.Collecting.{IsOpenBefore}
use Rattle.core_state.specs.OperationsStand.{IsOutcomeOf}
use Rattle.core_state.specs.Ends.{outcome_of}
use Rattle.sp_core.specs.Immediate.{IsGiven, tried}
use Rattle.sp_core.specs.Owning.{Owns, CanBegin}
use Rattle.core_state.specs.OpWordsStand.{IsNext}
use Rattle.sp_core.specs.Standing.{IsSettled}
use Rattle.sp_core.proofs.UncollectedOperations.{ended_now}
use Rattle.sp_core.proofs.ReceivedAtOnce.{can_now, now_begun, open_now, the_last}

module _ {P W : Type 0} (ties : P → Moment → Type 0) (room : P → ℕ) (shown : W → WireView) (op : OpName) (c : ℕ) where
  -- with the entry of the begin
  abbrev pub begun : Moment → Moment
  begun t = also t (Begin op t.caller c Recv None)

  -- a slot is drawn for a receive that can be given something
  abbrev pub Drawn : Core P W → Moment → Type 0
  Drawn x t = Owns ties room shown (op.slot ∷ []) x t × IsNext t op × CanBegin t c Recv × (is_nil (kept t.z (past t) c) ≡ false)

  -- it has begun, and can be given this
  pub record BegunNow (x : Core P W) (t : Moment) : Type 0 where
    pub message : Text
    pub lawful : Lawful t
    pub next : IsNext t op
    pub owns : Owns ties room shown [] x (begun t)
    pub can : CanGive (begun t) op (now_begun op c) message

  -- it has ended with `ending`, and was not collected
  pub record GivenNow (x : Core P W) (t : Moment) : Type 0 where
    pub message : Text
    pub ending : Ending
    pub given : IsGiven t.z.callers message ending
    pub was : pending (past (begun t)) op ≡ Some (now_begun op c)
    pub owns : Owns ties room shown [] x (also (begun t) (End op ending))
    pub there : is_uncollected (past (also (begun t) (End op ending))) op ≡ true
    pub open_ : IsOpenBefore t.caller op (past (also (begun t) (End op ending)))

  -- it was collected, with this outcome
  pub record TookNow (x : Core P W) (r : Outcome) (t : Moment) : Type 0 where
    pub message : Text
    pub ending : Ending
    pub given : IsGiven t.z.callers message ending
    pub owns : Owns ties room shown [] x (tried t op c ending)
    pub outcome : r ≡ outcome_of (now_begun op c) ending

  module _ (w x : Core P W) (begins : (t : Moment) → Owns ties room shown (op.slot ∷ []) w t → IsNext t op → CanBegin t c Recv → NoFlood t → Owns ties room shown [] x (begun t)) where
    pub begun_now : (t : Moment) → IsSettled t → Drawn w t → BegunNow x t
    begun_now t settled d =
        let can = can_now t op c settled d.2 d.1 d.3 in
        record { message = can.0.message; lawful = d.0.lawful; next = d.1; owns = begins t d.0 d.1 d.2 settled.no_flood; can = can.1 }

    module _ (y : Core P W) (gives : (t : Moment) (s : Begun) (m : Text) → Owns ties room shown [] x t → CanGive t op s m → (ending : Ending) × IsGiven t.z.callers m ending × Owns ties room shown [] y (also t (End op ending))) where
      given_by : (t : Moment) → BegunNow x t → GivenNow y t
      given_by t b =
          let g = gives (begun t) (now_begun op c) b.message b.owns b.can in
          record { message = b.message; ending = g.0; given = g.1; was = b.can.pending; owns = g.2; there = ended_now (begun t) op (now_begun op c) g.0 b.can.pending; open_ = open_now t op c g.0 b.lawful b.next }

      pub given_now : (t : Moment) → IsSettled t → Drawn w t → GivenNow y t
      given_now t settled d = given_by t (begun_now t settled d)

      module _ (z : Core P W) (r : Outcome) (takes : (t : Moment) → Owns ties room shown [] y t → IsOpenBefore t.caller op (past t) → is_uncollected (past t) op ≡ true → Owns ties room shown [] z (also t (Took op t.caller)) × ((e : OperationEnd) × IsOutcomeOf e op (past t) r)) where
        taken_by : (t : Moment) → GivenNow y t → TookNow z r t
        taken_by t g =
            let k = takes (also (begun t) (End op g.ending)) g.owns g.open_ g.there in
            let last = the_last (begun t) op (now_begun op c) g.ending k.1.0 g.owns.lawful g.was refl k.1.1.0 k.1.1.1 in
            record { message = g.message; ending = g.ending; given = g.given; owns = k.0; outcome = k.1.1.2 ∙ ap (λ (e : OperationEnd). outcome_of e.begun e.ending) last }

        pub took_now : (t : Moment) → IsSettled t → Drawn w t → TookNow z r t
        took_now t settled d = taken_by t (given_now t settled d)
