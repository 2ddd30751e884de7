use Rattle.std.proofs.Common.{◌≡◌, ◌≤◌, ◌+◌, take, false, length}
use Rattle.std.specs.List.{AllByRecursion}
use Rattle.sp_ends.specs.EndViews.{Beginning}
use Rattle.cat_play.specs.Spending.{listens_of, dials_of}
use Rattle.cat_rounds.specs.RunRounds.{LinksStand, RunStands}
use Rattle.sp_lane.specs.Registry.{names, AreApart}
use Rattle.cat_rounds.specs.Built.{IsEndOf, listen_names}
use Rattle.cat_rounds.proofs.run_parts.RunParts.follow.Given as goal

abbrev pub invariant-loop-end : goal.invariant-loop-end
invariant-loop-end g l = record {
  some : (start : Beginning) × AllByRecursion (IsEndOf start.origins l.max) l.ends × LinksStand g.L.Link.seen start l.self.single l.self.ends.links (g.N.Net.seen l.net) false;
  stands : (start : Beginning) → AllByRecursion (IsEndOf start.origins l.max) l.ends → RunStands g.L.Link.seen start l.fn.self.single l.fn.self.ends.links l.fn.self.player (g.N.Net.seen l.fn.net) false → RunStands g.L.Link.seen start l.self.single l.self.ends.links l.self.player (g.N.Net.seen l.net) false;
  single : l.self.single ≡ l.fn.self.single;
  player : l.self.player ≡ l.fn.self.player;
  listens : length l.self.ends.links.listeners ≡ listens_of (take l.end-index l.ends);
  dials : length l.self.ends.links.dialers ≡ dials_of (take l.end-index l.ends);
  count : length l.self.ends.links.listeners + length l.self.ends.links.dialers ≤ l.end-index;
  names_are : names l.self.inproc ≡ listen_names (take l.end-index l.ends);
  apart : AreApart (names l.self.inproc);
  opened : (g.N.Net.seen l.net).opened ≡ (g.N.Net.seen l.fn.net).opened;
  faults : (g.N.Net.seen l.fn.net).faults ≤ (g.N.Net.seen l.net).faults;
}
