use Rattle.std.proofs.Common.{ap, ◌∙◌}
use Rattle.cat_drill.proofs.DrillBeginning.{four_callers_new}
use Rattle.cat_drill.proofs.run.four_callers_of.Goals as goal

pub returns : goal.returns
returns g c =
    let made = four_callers_new c.args.socket.now c.args.list.now c.take_last-four.new.list.items c.take_last-three.new.list.items c.take_last-two.new.list.items c.take_last-main.new.list.items c.take_last-main.result c.take_last-two.result c.take_last-three.result c.take_last-four.result c.requires.list c.requires.words c.take_last-four.ensures.last c.take_last-three.ensures.last c.take_last-two.ensures.last c.take_last-main.ensures.last in
    record {
      list = record {
        items = made.1;
        callers = c.take_last-main.ensures.same.0 ∙ c.take_last-two.ensures.same.0 ∙ c.take_last-three.ensures.same.0 ∙ c.take_last-four.ensures.same.0 ∙ ap (λ l. l.callers) c.requires.list;
        lock = c.take_last-main.ensures.same.1 ∙ c.take_last-two.ensures.same.1 ∙ c.take_last-three.ensures.same.1 ∙ c.take_last-four.ensures.same.1 ∙ ap (λ l. l.lock) c.requires.list;
      };
      four_callers = made.0;
    }
