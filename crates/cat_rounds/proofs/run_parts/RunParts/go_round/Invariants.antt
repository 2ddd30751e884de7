use Rattle.std.proofs.Common.{◌≡◌, ◌≤◌, ◌+◌, ◌-◌, ◌^◌, ℕ, List, Option, false, length}
use Rattle.std.specs.Sync.Forever.{forever_left}
use Rattle.sp_ends.specs.EndViews.{Beginning}
use Rattle.sp_history.specs.Past.{past_of}
use Rattle.sp_history.specs.Found.{ticks}
use Rattle.sp_ends.specs.EndsTurns.{SameEnds}
use Rattle.cat_rounds.specs.Lasting.{HasPrinted, MayTick}
use Rattle.cat_rounds.specs.PlayerSteps.{SameScript}
use Rattle.cat_rounds.specs.RunRounds.{LinksStand, RunStands, past_now}
use Rattle.cat_rounds.specs.Late.{IsLateBy}
use Rattle.cat_rounds.proofs.run_parts.RunParts.go_round.Given as goal

abbrev pub invariant-rounds : goal.invariant-rounds
invariant-rounds g l = record {
  some : (start : Beginning) × LinksStand g.L.Link.seen start l.self.single l.self.ends.links (g.N.Net.seen l.net) false;
  stands : (start : Beginning) → RunStands g.L.Link.seen start l.fn.self.single l.fn.self.ends.links l.fn.self.player (g.N.Net.seen l.fn.net) false → RunStands g.L.Link.seen start l.self.single l.self.ends.links l.self.player (g.N.Net.seen l.net) false;
  may_tick : MayTick l.self.single.setting l.self.single.seen l.self.player;
  printed : (before : Option (List ℕ)) → HasPrinted before (g.S.Sink.seen l.fn.out).text l.fn.self.single.seen l.fn.self.player → HasPrinted before (g.S.Sink.seen l.out).text l.self.single.seen l.self.player;
  faultless : (g.S.Sink.seen l.out).faults ≡ (g.S.Sink.seen l.fn.out).faults;
  same : SameEnds l.fn.self.ends.links l.self.ends.links × SameScript l.fn.self.player l.self.player × (l.self.single.setting ≡ l.fn.self.single.setting);
  left_ : (g.Pa.Pace.seen l.fn.pace).left ≡ (g.Pa.Pace.seen l.pace).left + length (ticks (past_of l.self.single.seen));
  count : length (ticks (past_of l.self.single.seen)) + forever_left l.iterator' ≤ 2 ^ 64 - 1;
  now_is : past_now l.self.single ≤ (g.Pa.Pace.seen l.pace).latest;
  late : IsLateBy 0 l.self.single l.self.player;
  silent : (g.Pa.Pace.seen l.pace).is_over ≡ (g.Pa.Pace.seen l.fn.pace).is_over;
}
