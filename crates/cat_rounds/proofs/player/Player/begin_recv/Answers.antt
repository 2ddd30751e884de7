use Rattle.std.proofs.Common.{refl, ap, sym, ◌∙◌, subst, Err}
use Rattle.std.specs.Option.{option_map}
use Rattle.sp_history.specs.declared.entry.RecordedAct.TheVariants.{Recv}
use Rattle.cat_play.specs.Playing.{after_seconds}
use Rattle.cat_rounds.specs.Lasting.{HasPlayed, play_of}
use Rattle.cat_rounds.specs.PlayerSteps.{Stands}
use Rattle.cat_rounds.proofs.player.Player.begin_recv.Given
use Rattle.cat_rounds.proofs.Settling.{settling_silent, settling_linkless}
use Rattle.cat_rounds.proofs.Begins.{silent_stands, silent_texts, goes_on_by, refused_rests, has_begun, HasBegun}
use Rattle.cat_rounds.proofs.player.Player.begin_recv.Goals as goal

pub returns-in-Err-clause-stands : goal.returns-in-Err-clause-stands
returns-in-Err-clause-stands g c =
    let took = c.in-Err.ensures.turn in
    silent_stands c.args.single.now c.begin_recv.new.self took c.args.self.now c.args.now (settling_silent took.turn.entries took.said.0.0) c.requires.stands

pub returns-in-Err-clause-goes_on : goal.returns-in-Err-clause-goes_on
returns-in-Err-clause-goes_on g c =
    let took = c.in-Err.ensures.turn in
    goes_on_by c.args.single.now c.begin_recv.new.self took (settling_linkless took.turn.entries took.said.0.0)

pub returns-in-Err-clause-rested : goal.returns-in-Err-clause-rested
returns-in-Err-clause-rested g c =
    let took = c.in-Err.ensures.turn in
    let not_memory = c.begin_recv.ensures.turn.said.1 in
    refused_rests c.args.single.now c.begin_recv.new.self took c.args.self.now c.args.now Recv c.in-Err.field-0 took.said.0.0 c.requires.stands c.requires.left c.requires.next took.said.0.1 (λ h. not_memory (c.in-Err.is ∙ ap (λ x. Err x) h))

pub returns-in-Err-clause-texts : goal.returns-in-Err-clause-texts
returns-in-Err-clause-texts g c =
    let took = c.in-Err.ensures.turn in
    silent_texts c.args.single.now c.begin_recv.new.self took (play_of c.args.self.now.script) (settling_silent took.turn.entries took.said.0.0) c.requires.stands.play.is_open

begun : (g : Given.Over) → (c : goal.After-hold g) → HasBegun c.args.single.now c.begin_recv.new.self c.args.self.now c.args.now c.in-Ok.op c.args.self.now.last_send
begun g c =
    let took = c.in-Ok.ensures.turn in
    has_begun c.args.single.now c.begin_recv.new.self took c.args.self.now c.args.now c.in-Ok.op Recv c.after.result took.said.0 c.in-Ok.ensures.opens c.requires.stands (record { free = c.requires.free; open_ = c.requires.open_; next = c.requires.next; data_ = refl; deadline = c.after.ensures ∙ ap (λ t. option_map (after_seconds t) c.args.self.now.script.recv_timeout) c.requires.stands.now_is; spaced = refl; pipe = refl })

pub returns-in-Ok-clause-stands : goal.returns-in-Ok-clause-stands
returns-in-Ok-clause-stands g c =
    subst (λ o. Stands c.begin_recv.new.self (record c.args.self.now { op = o }) c.args.now) (sym c.hold.ensures) (begun g c).stands

pub returns-in-Ok-clause-goes_on : goal.returns-in-Ok-clause-goes_on
returns-in-Ok-clause-goes_on g c = (begun g c).goes_on

pub returns-in-Ok-clause-rested : goal.returns-in-Ok-clause-rested
returns-in-Ok-clause-rested g c =
    subst (λ o. HasPlayed c.begin_recv.new.self.setting c.begin_recv.new.self.seen (record c.args.self.now { op = o })) (sym c.hold.ensures) ((begun g c).played c.requires.left)

pub returns-in-Ok-clause-texts : goal.returns-in-Ok-clause-texts
returns-in-Ok-clause-texts g c = (begun g c).texts_are
