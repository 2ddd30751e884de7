use Rattle.std.proofs.Common.{◌≡◌, Bool, ap, sym, ◌∙◌, subst, ℕ, List, Some}
use Rattle.sp_history.specs.Past.{past_of}
use Rattle.cat_play.specs.Scripts.{joined}
use Rattle.sp_base.specs.Outside.{grown}
use Rattle.cat_rounds.specs.Lasting.{play_of, is_survey_over, AreOn}
use Rattle.cat_rounds.proofs.TopicsStay.{still_on}
use Rattle.cat_rounds.specs.PlayerSteps.{Stands, NotedAs, PutsFor}
use Rattle.cat_rounds.proofs.Settling.{settling_silent, settling_linkless}
use Rattle.cat_rounds.proofs.Begins.{silent_stands, silent_texts, goes_on_by}
use Rattle.cat_rounds.proofs.CollectedByPlay.{IsCollected, is_collected, busy_is_due, noted_stands, noted_prints, noted_script, noted_op, stays_busy, not_left, pending_now}
use Rattle.cat_rounds.proofs.Pipes.{knows_after, noted_sent}
use Rattle.cat_rounds.proofs.player.Player.collect.Given
use Rattle.cat_rounds.proofs.player.Player.collect.Goals as goal

pub note-requires : goal.note-requires
note-requires g c =
    record { due = busy_is_due c.args.single.now c.args.self.now c.args.now c.in-Some.op c.requires.stands (sym c.in-Some.ensures.value) }

-- ---- Where it has not ended

stands_still : (g : Given.Over) → (c : goal.After-hold g) → Stands c.collect.new.self c.args.self.now c.args.now
stands_still g c =
    let took = c.in-NotYet.ensures.turn in
    silent_stands c.args.single.now c.collect.new.self took c.args.self.now c.args.now (settling_silent took.turn.entries took.said.1) c.requires.stands

held_again : (g : Given.Over) → (c : goal.After-hold g) → c.hold.new.place ≡ c.args.self.now.op
held_again g c =
    c.hold.ensures ∙ (ap (λ o. Some o) c.in-NotYet.ensures.turn.said.0 ∙ c.in-Some.ensures.value)

pub returns-in-NotYet-clause-stands : goal.returns-in-NotYet-clause-stands
returns-in-NotYet-clause-stands g c = subst (λ o. Stands c.collect.new.self (record c.args.self.now { op = o }) c.args.now) (sym (held_again g c)) (stands_still g c)

pub returns-in-NotYet-clause-goes_on : goal.returns-in-NotYet-clause-goes_on
returns-in-NotYet-clause-goes_on g c =
    let took = c.in-NotYet.ensures.turn in
    goes_on_by c.args.single.now c.collect.new.self took (settling_linkless took.turn.entries took.said.1)

pub returns-in-NotYet-clause-left : goal.returns-in-NotYet-clause-left
returns-in-NotYet-clause-left g c =
    let took = c.in-NotYet.ensures.turn in
    not_left c.collect.new.self c.args.self.now c.args.now c.in-Some.op took.said.2.0 (stands_still g c) (sym c.in-Some.ensures.value) (pending_now c.args.single.now c.collect.new.self took c.in-Some.op took.said.2.0 took.said.2.1)

pub returns-in-NotYet-clause-busy : goal.returns-in-NotYet-clause-busy
returns-in-NotYet-clause-busy g c = λ e. stays_busy c.collect.new.self c.args.self.now c.args.now c.in-Some.op (stands_still g c) (sym c.in-Some.ensures.value)

pub returns-in-NotYet-clause-printed : goal.returns-in-NotYet-clause-printed
returns-in-NotYet-clause-printed g c = λ before had.
    (let took = c.in-NotYet.ensures.turn in
    had ∙ ap (λ ts. grown before (joined ts)) (sym (silent_texts c.args.single.now c.collect.new.self took (play_of c.args.self.now.script) (settling_silent took.turn.entries took.said.1) c.requires.stands.play.is_open)))

-- ---- Where it has

collected : (g : Given.Over) → (c : goal.After-note g) → IsCollected c.args.single.now c.collect.new.self c.args.self.now c.in-Some.op c.in-Ended.ensures.turn.said.1.0.act c.in-Ended.ensures.turn.said.1.1
collected g c =
    let took = c.in-Ended.ensures.turn in
    is_collected c.args.single.now c.collect.new.self took c.args.self.now c.args.now c.in-Some.op took.said.1.0 took.said.1.1 took.said.0 took.said.1.2 c.requires.stands (sym c.in-Some.ensures.value)

-- no survey is live, or one is
abbrev is_over : (g : Given.Over) → (c : goal.After-note g) → Bool
is_over g c = is_survey_over c.args.self.now.last_send c.args.now

pub returns-in-Ended-clause-stands : goal.returns-in-Ended-clause-stands
returns-in-Ended-clause-stands g c =
    let said = c.in-Ended.ensures.turn.said in
    let coll = collected g c in
    let was = c.requires.stands in
    record {
      play = noted_stands c.args.single.now c.collect.new.self c.args.self.now c.note.new.self c.args.now c.in-Some.op said.1.0 said.1.1 c.take.new.self coll was (sym c.in-Some.ensures.value) c.take.ensures.after (subst (λ o. NotedAs (is_over g c) o (record c.args.self.now { op = c.take.new.self }) c.note.new.self) said.1.3 c.note.ensures.noted);
      sound = coll.sound;
      now_is = was.now_is ∙ sym coll.leaves.now_is;
      topics_on = subst (λ (ts : List (List ℕ)). AreOn ts (past_of c.collect.new.self.seen)) (sym (ap (λ sc. sc.topics) (noted_script (is_over g c) c.in-Ended.outcome (record c.args.self.now { op = c.take.new.self }) c.note.new.self c.note.ensures.noted))) (still_on c.args.self.now.script.topics (past_of c.args.single.now.seen) (past_of c.collect.new.self.seen) coll.leaves.topics_are was.topics_on);
    }

pub returns-in-Ended-clause-goes_on : goal.returns-in-Ended-clause-goes_on
returns-in-Ended-clause-goes_on g c = (collected g c).goes_on

pub returns-in-Ended-clause-left : goal.returns-in-Ended-clause-left
returns-in-Ended-clause-left g c = (collected g c).leaves.left_

pub returns-in-Ended-clause-printed : goal.returns-in-Ended-clause-printed
returns-in-Ended-clause-printed g c = λ before had.
    (let said = c.in-Ended.ensures.turn.said in
    noted_prints c.note.result c.args.single.now c.collect.new.self c.args.self.now c.note.new.self c.in-Some.op said.1.0 said.1.1 before (g.S.Sink.seen c.args.out.now).text (g.S.Sink.seen c.note.new.out).text (collected g c) (noted_script (is_over g c) c.in-Ended.outcome (record c.args.self.now { op = c.take.new.self }) c.note.new.self c.note.ensures.noted) (noted_op (is_over g c) c.in-Ended.outcome (record c.args.self.now { op = c.take.new.self }) c.note.new.self c.note.ensures.noted ∙ c.take.ensures.after) (subst (λ o. PutsFor o c.note.result c.note.new.self (g.S.Sink.seen c.args.out.now).text (g.S.Sink.seen c.note.new.out).text) said.1.3 c.note.ensures.printed) had)

pub returns-in-Ended-clause-pipes : goal.returns-in-Ended-clause-pipes
returns-in-Ended-clause-pipes g c has_pipe was =
    let s = c.args.single.now in
    let p = c.args.self.now in
    let old = record p { op = c.take.new.self } in
    let script = noted_script (is_over g c) c.in-Ended.outcome old c.note.new.self c.note.ensures.noted in
    let sent = noted_sent (is_over g c) c.in-Ended.outcome old c.note.new.self c.note.ensures.noted in
    knows_after has_pipe s.setting s.seen p c.in-Some.op c.collect.new.self c.note.new.self c.requires.stands.sound.legal c.requires.stands.play (sym c.in-Some.ensures.value) script sent
