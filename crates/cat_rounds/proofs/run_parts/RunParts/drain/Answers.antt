use Rattle.std.proofs.Common.{sym, subst, ap, ◌∙◌, ◌≡◌, refl, Some, None, true, false, ℕ, Bool, inl, inr}
use Rattle.std.specs.Prelude.{◌⊎◌, ◌&&◌, not, Option}
use Rattle.cat_rounds.specs.declared.player.PlayEnd.TheVariants as overs
use Rattle.cat_rounds.specs.Parts.{RunPartsView, IsAt}
use Rattle.cat_rounds.specs.declared.rounds.Round.{Round}
use Rattle.sp_history.specs.Past.{past_of, now}
use Rattle.cat_rounds.specs.declared.player.PlayEnd.{PlayEnd}
use Rattle.cat_rounds.specs.declared.stillness.Stillness.{Stillness}
use Rattle.cat_rounds.specs.Stillness.{noted_still, gives_up, gives_up_at}
use Rattle.cat_rounds.specs.RunRounds.{AreCleared, IsThrough, IsThroughOrGivenUp, RoundGoesTo, DrainsFor, has_more}
use Rattle.sp_base.specs.Views.{SinkView}
use Rattle.cat_rounds.proofs.Opened.{running_of, at_of, stands_in}
use Rattle.cat_rounds.proofs.Rounding.{ServedOnce, serve_along, serve_texts, may_tick_at_end, through}
use Rattle.cat_rounds.proofs.Late.{serve_stalls, something_waits}
use Rattle.cat_rounds.proofs.run_parts.RunParts.drain.Given.{Over}
use Rattle.cat_rounds.proofs.run_parts.RunParts.drain.Goals.{After-serve-served, After-goes_on-waits, in-SendTimedOut, in-Finished}
use Rattle.cat_rounds.proofs.run_parts.RunParts.drain.Goals as goal

abbrev quiet : SinkView
quiet = record { text = None; faults = 0 }

-- what the serve left, at any moment
first : (g : Over) (c : After-serve-served g) (now : ℕ) → IsAt c.args.self.now.single c.args.self.now.player now → ServedOnce c.self.inside.single c.serve-served.new.self c.self.inside.player quiet now
first g c now at =
    serve_along c.serve-served.result c.self.inside.single c.serve-served.new.self c.self.inside.player quiet now c.serve-served.ensures.turn (stands_in _ _ now c.self.view_is c.self.invariant at)

-- nothing is under way
free : (g : Over) (c : After-serve-served g) → c.self.inside.player.op ≡ None
free g c = ap (λ (v : RunPartsView _). v.player.op) c.self.view_is ∙ c.requires.free

-- the play is over
over : (g : Over) (c : After-serve-served g) → c.self.inside.player.over ≡ overs.Open → ⊥
over g c open_ = c.requires.over (ap (λ (v : RunPartsView _). v.player.over) (sym c.self.view_is) ∙ open_)

pub invariant_of-self : goal.invariant_of-self
invariant_of-self g c =
    running_of c.serve-served.new.self c.self.inside.player c.args.now (first g (goal.at.invariant_of-self g c).After-serve-served c.args.now c.requires.at).stands

pub returns-then-waits-clause-at : goal.returns-then-waits-clause-at
returns-then-waits-clause-at g c = λ now at.
    at_of c.serve-served.new.self c.self.inside.player now (first g (goal.at.returns-then-waits-clause-at g c).After-serve-served now at).stands

pub returns-then-waits-clause-goes_on : goal.returns-then-waits-clause-goes_on
returns-then-waits-clause-goes_on g c =
    rw (← c.self.view_is) (first g (goal.at.returns-then-waits-clause-goes_on g c).After-serve-served c.args.now c.requires.at).along.goes_on

pub returns-then-waits-clause-texts : goal.returns-then-waits-clause-texts
returns-then-waits-clause-texts g c =
    rw (← c.self.view_is) (serve_texts c.serve-served.result c.self.inside.single c.serve-served.new.self c.self.inside.player c.args.now c.serve-served.ensures.turn (stands_in _ _ c.args.now c.self.view_is c.self.invariant c.requires.at))

pub returns-then-waits-clause-same : goal.returns-then-waits-clause-same
returns-then-waits-clause-same g c = rw (← c.self.view_is) (refl, refl)

pub returns-then-waits-clause-names : goal.returns-then-waits-clause-names
returns-then-waits-clause-names g c = rw (← c.self.view_is) refl

pub returns-then-waits-clause-went : goal.returns-then-waits-clause-went
returns-then-waits-clause-went g c =
    let at = (goal.at.returns-then-waits-clause-went g c).After-serve-served in
    let a = first g at c.args.now c.requires.at in
    may_tick_at_end c.serve-served.new.self.setting c.serve-served.new.self.seen c.self.inside.player a.stands.play a.stands.topics_on a.served (free g at) (over g at)

both_true : (a b : Bool) → (a && not b) ≡ true → (a ≡ true) × (b ≡ false)
both_true true false e = (refl, refl)
both_true true true e = cc
both_true false b e = cc

one_false : (a b : Bool) → (a && not b) ≡ false → (a ≡ false) ⊎ (b ≡ true)
one_false false b e = inl refl
one_false true true e = inr refl
one_false true false e = cc

-- ---- Why it goes on, or ends

-- what the links had taken is recorded
abbrev still_now : (g : Over) (c : After-goes_on-waits g) → Stillness
still_now g c = noted_still c.self.inside.still c.serve-served.result.taken c.args.now

noted : (g : Over) (c : After-goes_on-waits g) → still_now g c ≡ noted_still c.args.self.now.still c.serve-served.result.taken c.args.now
noted g c = ap (λ (v : RunPartsView _). noted_still v.still c.serve-served.result.taken c.args.now) c.self.view_is

given : (g : Over) (c : After-goes_on-waits g) → c.gives_up-given_up.result ≡ gives_up c.self.inside.player.over c.self.inside.player.script.send_timeout (still_now g c) c.args.now
given g c = c.gives_up-given_up.ensures ∙ ap (λ (s : Option Stillness). gives_up_at c.self.inside.player.over c.self.inside.player.script.send_timeout s c.args.now) c.note.ensures

-- a pipe has something left to write and the run isn't given up, or one of the two is false
waits_so : (g : Over) (c : After-goes_on-waits g) → c.goes_on-waits.result ≡ true → (has_more c.serve-served.result ≡ true) × (gives_up c.self.inside.player.over c.self.inside.player.script.send_timeout (still_now g c) c.args.now ≡ false)
waits_so g c e = let b = both_true _ _ (sym c.goes_on-waits.ensures ∙ e) in (b.0, sym (given g c) ∙ b.1)

ends_so : (g : Over) (c : After-goes_on-waits g) → c.goes_on-waits.result ≡ false → (has_more c.serve-served.result ≡ false) ⊎ (gives_up c.self.inside.player.over c.self.inside.player.script.send_timeout (still_now g c) c.args.now ≡ true)
ends_so g c e = go (one_false _ _ (sym c.goes_on-waits.ensures ∙ e))
  where
    go : (has_more c.serve-served.result ≡ false) ⊎ (c.gives_up-given_up.result ≡ true) → (has_more c.serve-served.result ≡ false) ⊎ (gives_up c.self.inside.player.over c.self.inside.player.script.send_timeout (still_now g c) c.args.now ≡ true)
    go (inl none) = inl none
    go (inr up) = inr (sym (given g c) ∙ up)

cleared : (g : Over) (c : After-serve-served g) → has_more c.serve-served.result ≡ false → AreCleared (past_of c.serve-served.new.self.seen)
cleared g c none =
    through c.serve-served.result c.self.inside.single c.serve-served.new.self c.self.inside.player c.args.now c.serve-served.ensures.turn (stands_in _ _ c.args.now c.self.view_is c.self.invariant c.requires.at) (free g c) (over g c) none

-- the tick is the last one
now_is : (g : Over) (c : After-serve-served g) → c.args.now ≡ now (past_of c.serve-served.new.self.seen)
now_is g c = (first g c c.args.now c.requires.at).stands.now_is

pub returns-then-waits-clause-stalls : goal.returns-then-waits-clause-stalls
returns-then-waits-clause-stalls g c =
    let more = (waits_so g (goal.at.returns-then-waits-clause-stalls g c).After-goes_on-waits c.if-waits.true).0 in
    rw (← c.self.view_is) (serve_stalls _ c.serve-served.result c.self.inside.single c.serve-served.new.self c.serve-served.ensures.turn c.serve-served.ensures.turn.said.3.1 (something_waits c.serve-served.result more))

pub returns-then-waits-clause-drains : goal.returns-then-waits-clause-drains
returns-then-waits-clause-drains g c =
    let at = (goal.at.returns-then-waits-clause-drains g c).After-goes_on-waits in
    let is = noted g at in (
      c.serve-served.result.taken,
      c.note.ensures ∙ ap Some is,
      subst (λ (s : Stillness). gives_up c.self.inside.player.over c.self.inside.player.script.send_timeout s c.args.now ≡ false) is (waits_so g at c.if-waits.true).1,
    )

pub invariant_of-self-2 : goal.invariant_of-self-2
invariant_of-self-2 g c =
    running_of c.serve-served.new.self c.self.inside.player c.args.now (first g (goal.at.invariant_of-self-2 g c).After-serve-served c.args.now c.requires.at).stands

pub returns-clause-at : goal.returns-clause-at
returns-clause-at g c = λ now at.
    at_of c.serve-served.new.self c.self.inside.player now (first g (goal.at.returns-clause-at g c).After-serve-served now at).stands

pub returns-clause-goes_on : goal.returns-clause-goes_on
returns-clause-goes_on g c =
    rw (← c.self.view_is) (first g (goal.at.returns-clause-goes_on g c).After-serve-served c.args.now c.requires.at).along.goes_on

pub returns-clause-texts : goal.returns-clause-texts
returns-clause-texts g c =
    rw (← c.self.view_is) (serve_texts c.serve-served.result c.self.inside.single c.serve-served.new.self c.self.inside.player c.args.now c.serve-served.ensures.turn (stands_in _ _ c.args.now c.self.view_is c.self.invariant c.requires.at))

pub returns-clause-same : goal.returns-clause-same
returns-clause-same g c = rw (← c.self.view_is) (refl, refl)

pub returns-clause-names : goal.returns-clause-names
returns-clause-names g c = rw (← c.self.view_is) refl

-- a play that came to its end isn't given up
never_up : (o : PlayEnd) (timeout : Option ℕ) (still : Stillness) (now : ℕ) → o ≡ overs.Finished → gives_up o timeout still now ≡ true → ⊥
never_up o timeout still now is up = let no : false ≡ true = sym (ap (λ (x : PlayEnd). gives_up x timeout still now) is) ∙ up in cc

-- why it ends
module _ (g : Over) (c : After-serve-served g) (still : Stillness) where
  abbrev Why : Type 0
  Why = (has_more c.serve-served.result ≡ false) ⊎ (gives_up c.self.inside.player.over c.self.inside.player.script.send_timeout still c.args.now ≡ true)

  all_through : has_more c.serve-served.result ≡ false → IsThrough c.serve-served.new.self c.self.inside.player
  all_through none = record { free = free g c; cleared = cleared g c none }

  timed_out : Why → IsThroughOrGivenUp c.serve-served.new.self c.self.inside.player
  timed_out (inl none) = inl (all_through none)
  timed_out (inr up) = inr (free g c, (still, subst (λ (n : ℕ). gives_up c.self.inside.player.over c.self.inside.player.script.send_timeout still n ≡ true) (now_is g c) up))

  finished : Why → c.self.inside.player.over ≡ overs.Finished → IsThrough c.serve-served.new.self c.self.inside.player
  finished (inl none) is = all_through none
  finished (inr up) is = absurd (never_up c.self.inside.player.over c.self.inside.player.script.send_timeout still c.args.now is up)

  ends_for : (s : Stillness) → still ≡ s → Why → AreCleared (past_of c.serve-served.new.self.seen) ⊎ (gives_up c.self.inside.player.over c.self.inside.player.script.send_timeout s c.args.now ≡ true)
  ends_for s is (inl none) = inl (cleared g c none)
  ends_for s is (inr up) = inr (subst (λ (x : Stillness). gives_up c.self.inside.player.over c.self.inside.player.script.send_timeout x c.args.now ≡ true) is up)

pub returns-clause-went : goal.returns-clause-went
returns-clause-went g c =
    let at = (goal.at.returns-clause-went g c).After-serve-served in
    let why = ends_so g (goal.at.returns-clause-went g c).After-goes_on-waits c.if-waits.false in
    elim c.match-self.branch [
      | in-SendTimedOut w ↦ subst (λ (r : Round). RoundGoesTo r c.serve-served.new.self c.self.inside.player) (sym w.result-is) (timed_out g at (still_now g (goal.at.returns-clause-went g c).After-goes_on-waits) why, w.in-SendTimedOut.is)
      | in-Finished w ↦ subst (λ (r : Round). RoundGoesTo r c.serve-served.new.self c.self.inside.player) (sym w.result-is) (finished g at (still_now g (goal.at.returns-clause-went g c).After-goes_on-waits) why w.in-Finished.is, w.in-Finished.is)
    ]

pub returns-clause-drains : goal.returns-clause-drains
returns-clause-drains g c =
    let at = (goal.at.returns-clause-drains g c).After-goes_on-waits in
    let first = (goal.at.returns-clause-drains g c).After-serve-served in
    let is = noted g at in
    let why = ends_so g at c.if-waits.false in
    elim c.match-self.branch [
      | in-SendTimedOut w ↦ (c.serve-served.result.taken, c.note.ensures ∙ ap Some is, subst (λ (r : Round). DrainsFor r c.args.now c.serve-served.new.self c.self.inside.player (noted_still c.args.self.now.still c.serve-served.result.taken c.args.now)) (sym w.result-is) (ends_for g first (still_now g (goal.at.returns-clause-drains g c).After-goes_on-waits) _ is why))
      | in-Finished w ↦ (c.serve-served.result.taken, c.note.ensures ∙ ap Some is, subst (λ (r : Round). DrainsFor r c.args.now c.serve-served.new.self c.self.inside.player (noted_still c.args.self.now.still c.serve-served.result.taken c.args.now)) (sym w.result-is) (ends_for g first (still_now g (goal.at.returns-clause-drains g c).After-goes_on-waits) _ is why))
    ]

pub unreachable-requires : goal.unreachable-requires
unreachable-requires g c = over g (goal.at.unreachable-requires g c).After-serve-served c.in-Open.is
