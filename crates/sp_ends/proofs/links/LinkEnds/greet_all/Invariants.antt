-- Each link that was greeted is after those that are still to be greeted.
use Rattle.std.proofs.Common.{ℕ, length, ◌-◌, ◌≤◌}
use Rattle.sp_ends.specs.EndViews.{Beginning}
use Rattle.sp_ends.specs.Freeing.{Frees}
use Rattle.sp_ends.specs.Listening.{FewerOwn}
use Rattle.sp_ends.specs.EndsTurns.{InTurn, Serves, AreYoung, AreWaitingBehind}
use Rattle.sp_ends.specs.SocketSteps.{IsDry}
use Rattle.sp_ends.proofs.links.LinkEnds.greet_all.Given as goal

abbrev pub invariant-greets : goal.invariant-greets
invariant-greets g l =
    record {
      in_turn : (start : Beginning) → InTurn g.L.Link.seen start l.fn.self (g.N.Net.seen l.fn.net) l.fn.single l.fn.now (length l.fn.self.newcomers) → InTurn g.L.Link.seen start l.self (g.N.Net.seen l.net) l.single l.fn.now (length l.fn.self.newcomers - l.counter);
      stands : (start : Beginning) × InTurn g.L.Link.seen start l.self (g.N.Net.seen l.net) l.single l.fn.now (length l.fn.self.newcomers - l.counter);
      few : length l.self.newcomers ≤ length l.fn.self.newcomers;
      own : FewerOwn l.fn.self.newcomers l.self.newcomers;
      serves : Serves l.fn.self l.self (g.N.Net.seen l.fn.net) (g.N.Net.seen l.net) l.fn.single l.single;
      frees : Frees l.fn.now (g.N.Net.seen l.fn.net) (g.N.Net.seen l.net) l.fn.self.dialers l.self.dialers;
      dry : IsDry l.turn.is_dry l.single;
      young : AreYoung l.fn.now (length l.fn.self.newcomers - l.counter) l.self.newcomers;
      waited : (opened : ℕ) → AreWaitingBehind g.L.Link.seen l.fn.self.newcomers opened (length l.fn.self.newcomers - l.counter) l.self.newcomers;
    }
