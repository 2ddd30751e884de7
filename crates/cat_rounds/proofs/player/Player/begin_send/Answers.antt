use Rattle.std.proofs.Common.{ap, sym, ◌∙◌, subst, Some}
use Rattle.std.specs.Prelude.{not}
use Rattle.std.specs.Option.{option_map}
use Rattle.sp_proto.specs.Kinds.{text_of}
use Rattle.sp_history.specs.declared.entry.RecordedAct.TheVariants.{Send}
use Rattle.sp_history.specs.Past.{past_of}
use Rattle.cat_play.specs.Playing.{after_seconds}
use Rattle.cat_play.specs.Scripts.{asks_anew, last_result}
use Rattle.cat_rounds.specs.Lasting.{HasPlayed, play_of}
use Rattle.cat_rounds.specs.PlayerSteps.{Stands, Rested}
use Rattle.cat_rounds.proofs.Settling.{settling_silent, settling_linkless}
use Rattle.cat_rounds.proofs.WhatCounts.{has_body, is_plain_message}
use Rattle.cat_rounds.proofs.Begins.{silent_stands, silent_texts, goes_on_by, refused_rests, rested_after, has_begun, HasBegun}
use Rattle.cat_rounds.proofs.player.Player.begin_send.Given
use Rattle.cat_rounds.proofs.player.Player.begin_send.Goals as goal

pub returns-in-Err-clause-stands : goal.returns-in-Err-clause-stands
returns-in-Err-clause-stands g c =
    let took = c.in-Err.ensures.turn in
    silent_stands c.args.single.now c.begin_send.new.self took c.args.self.now c.args.now (settling_silent took.turn.entries took.said.0.0) c.requires.stands

pub returns-in-Err-clause-goes_on : goal.returns-in-Err-clause-goes_on
returns-in-Err-clause-goes_on g c =
    let took = c.in-Err.ensures.turn in
    goes_on_by c.args.single.now c.begin_send.new.self took (settling_linkless took.turn.entries took.said.0.0)

pub returns-in-Err-clause-rested : goal.returns-in-Err-clause-rested
returns-in-Err-clause-rested g c =
    let took = c.in-Err.ensures.turn in
    subst (λ r. Rested r c.begin_send.new.self c.args.self.now) (sym c.step_for.ensures) (rested_after c.in-Err.error c.begin_send.new.self c.args.self.now (λ not_memory. refused_rests c.args.single.now c.begin_send.new.self took c.args.self.now c.args.now (Send (text_of c.in-Ok.m)) c.in-Err.error took.said.0.0 c.requires.stands c.requires.left (ap (λ b. not b) c.requires.next) took.said.0.1 not_memory))

pub returns-in-Err-clause-texts : goal.returns-in-Err-clause-texts
returns-in-Err-clause-texts g c =
    let took = c.in-Err.ensures.turn in
    silent_texts c.args.single.now c.begin_send.new.self took (play_of c.args.self.now.script) (settling_silent took.turn.entries took.said.0.0) c.requires.stands.play.is_open

begun : (g : Given.Over) → (c : goal.After-self-1 g) → HasBegun c.args.single.now c.begin_send.new.self c.args.self.now c.args.now c.in-Ok-begin_send.op (Some c.args.now)
begun g c =
    let took = c.in-Ok-begin_send.ensures.turn in
    let some = has_body c.args.self.now.script.role _ (asks_anew c.args.single.now.setting (past_of c.args.single.now.seen)) (last_result (past_of c.args.single.now.seen)) c.requires.next c.requires.stands.play.carries in
    has_begun c.args.single.now c.begin_send.new.self took c.args.self.now c.args.now c.in-Ok-begin_send.op (Send (text_of c.in-Ok.m)) c.after.result took.said.0 c.in-Ok-begin_send.ensures.opens c.requires.stands (record { free = c.requires.free; open_ = c.requires.open_; next = ap (λ b. not b) c.requires.next; data_ = is_plain_message c.args.self.now.script.body (text_of c.in-Ok.m) some c.in-Ok.ensures.0 c.in-Ok.ensures.1; deadline = c.after.ensures ∙ ap (λ t. option_map (after_seconds t) c.args.self.now.script.send_timeout) c.requires.stands.now_is; spaced = ap (λ b. not b) c.requires.spaced; pipe = c.requires.pipe })

pub returns-clause-stands : goal.returns-clause-stands
returns-clause-stands g c =
    subst (λ o. Stands c.begin_send.new.self (record c.args.self.now { op = o; last_send = Some c.args.now }) c.args.now) (sym c.hold.ensures) (begun g c).stands

pub returns-clause-goes_on : goal.returns-clause-goes_on
returns-clause-goes_on g c = (begun g c).goes_on

pub returns-clause-rested : goal.returns-clause-rested
returns-clause-rested g c =
    subst (λ o. HasPlayed c.begin_send.new.self.setting c.begin_send.new.self.seen (record c.args.self.now { op = o; last_send = Some c.args.now })) (sym c.hold.ensures) ((begun g c).played c.requires.left)

pub returns-clause-texts : goal.returns-clause-texts
returns-clause-texts g c = (begun g c).texts_are
