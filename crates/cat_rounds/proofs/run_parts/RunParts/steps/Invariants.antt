use Rattle.std.proofs.Common.{◌≡◌, ◌<◌, false}
use Rattle.sp_history.specs.Past.{past_of}
use Rattle.cat_play.specs.Scripts.{under_way}
use Rattle.cat_rounds.specs.Lasting.{HasServed, HasPlayed}
use Rattle.cat_rounds.specs.PlayerSteps.{Stands, KnowsPipes}
use Rattle.cat_rounds.proofs.Rounding.{Along}
use Rattle.cat_rounds.proofs.run_parts.RunParts.steps.Given as goal

abbrev pub invariant-steps : goal.invariant-steps
invariant-steps g l = record {
  stands : Stands l.self-inside.single l.self-inside.player l.now;
  along : Along l.fn.self.single l.self-inside.single l.fn.self.player l.self-inside.player (g.S.Sink.seen l.fn.out) (g.S.Sink.seen l.out);
  served : HasServed l.self-inside.single.setting l.self-inside.single.seen;
  played : 0 < l.counter → HasPlayed l.self-inside.single.setting l.self-inside.single.seen l.self-inside.player;
  pipes : KnowsPipes l.has_pipe l.self-inside.single l.self-inside.player;
  ends : l.self-inside.ends ≡ l.fn.self.ends;
  inproc : l.self-inside.inproc ≡ l.fn.self.inproc;
  still : l.moved ≡ false → under_way (past_of l.self-inside.single.seen) ≡ under_way (past_of l.fn.self.single.seen);
}
