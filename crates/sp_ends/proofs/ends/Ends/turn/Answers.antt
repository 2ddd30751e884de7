-- The turn is the turn of the ends over links, with the names.
use Rattle.std.proofs.Common.{ap, sym, subst}
use Rattle.sp_ends.specs.EndViews.{Beginning, LinkEndsView, EndsView}
use Rattle.sp_ends.specs.EndsTurns.{EndsTicked}
use Rattle.sp_ends.proofs.ends.Ends.turn.Goals as goal

pub turn-requires-clause-ticked : goal.turn-requires-clause-ticked
turn-requires-clause-ticked g c =
    subst (λ (e : LinkEndsView g.row.L.Denot). (start : Beginning) × EndsTicked g.L.Link.seen c.args.single.now.setting start c.args.single.now.seen (g.N.Net.seen c.args.net.now) e) (sym (ap (λ (v : EndsView g.row.L.Denot). v.links) c.self.view_is)) c.requires.ticked

pub returns : goal.returns
returns g c = rw (← c.self.view_is) (
    let t = c.turn.ensures in
    record {
      stands = t.stands;
      sound = t.sound;
      quietly = t.quietly;
      dry = t.dry;
      taken = t.taken;
      same = t.same;
      asked = record {
        turns = t.turns;
        waits = t.waits;
        young = t.young;
        waited = t.waited;
        known = t.known;
        listens = t.listens;
        all = t.asked;
        each = t.each;
        dues = t.dues;
        few = t.few;
      };
      names = t.names;
      callers = t.callers;
      lanes = t.lanes;
    })
