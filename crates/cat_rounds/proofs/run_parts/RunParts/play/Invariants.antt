use Rattle.std.proofs.Common.{◌≡◌, ◌<◌, ◌≤◌, ◌+◌, length}
use Rattle.cat_rounds.specs.Lasting.{HasServed, HasPlayed}
use Rattle.cat_rounds.specs.Parts.{IsAt}
use Rattle.cat_rounds.proofs.Rounding.{Along}
use Rattle.cat_rounds.specs.declared.player.PlayEnd.TheVariants as overs
use Rattle.cat_rounds.proofs.run_parts.RunParts.play.Given as goal

abbrev pub invariant-sweeps : goal.invariant-sweeps
invariant-sweeps g l = record {
  at : IsAt l.self.single l.self.player l.now;
  along : Along l.fn.self.single l.self.single l.fn.self.player l.self.player (g.S.Sink.seen l.fn.out) (g.S.Sink.seen l.out);
  rests : 0 < l.counter → HasServed l.self.single.setting l.self.single.seen × HasPlayed l.self.single.setting l.self.single.seen l.self.player;
  ends : l.self.ends ≡ l.fn.self.ends;
  inproc : l.self.inproc ≡ l.fn.self.inproc;
  many : length l.fn.self.single.seen + l.counter ≤ length l.self.single.seen;
  first : (l.fn.self.player.over ≡ overs.Open → ⊥) → (l.counter ≡ 0) × (l.self.player ≡ l.fn.self.player);
}
