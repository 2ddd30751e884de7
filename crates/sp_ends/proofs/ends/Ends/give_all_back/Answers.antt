-- The links are those of the ends over links.
use Rattle.std.proofs.Common.{ap, sym, subst, List}
use Rattle.turn_lock.specs.declared.turn.Turn.{Turn}
use Rattle.sp_history.specs.declared.entry.Entry.{Entry}
use Rattle.sp_history.specs.declared.setting.Setting.{Setting}
use Rattle.sp_history.specs.Past.{past_of}
use Rattle.sp_core.specs.Parts.{HasWires}
use Rattle.sp_links.specs.EndWires.{shown}
use Rattle.sp_ends.specs.EndViews.{Beginning, LinkEndsView, EndsView}
use Rattle.sp_ends.specs.RunLinks.{EndsStand}
use Rattle.sp_ends.proofs.ends.Ends.give_all_back.Goals as goal

pub give_all_back-requires : goal.give_all_back-requires
give_all_back-requires g c =
    record { stands = subst (λ (e : LinkEndsView g.row.L.Denot). (z : Setting) × (start : Beginning) × (h : List (Turn Entry)) × EndsStand g.L.Link.seen z start h (g.N.Net.seen c.args.net.now) e × HasWires shown c.args.wires z (past_of h)) (sym (ap (λ (v : EndsView g.row.L.Denot). v.links) c.self.view_is)) c.requires.stands }

pub returns-clause-left : goal.returns-clause-left
returns-clause-left g c = rw (← c.self.view_is) c.give_all_back.ensures.left
