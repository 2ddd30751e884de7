-- The wires are taken one after another, until there is none.
use Rattle.std.proofs.Common.{refl, true, ◌∙◌}
use Rattle.sp_ends.proofs.TurnedNames.{takes_same, takes_lost, takes_all}
use Rattle.sp_ends.proofs.TakenAll.{none_untaken, off_stays}
use Rattle.sp_ends.proofs.WholeTurn.{takes_none, takes_more}
use Rattle.sp_ends.proofs.links.LinkEnds.take_all_ended.Goals as goal

pub takes-init : goal.takes-init
takes-init g c =
    record {
      links = takes_none g.L.Link.seen c.args.self.now (g.N.Net.seen c.args.net.now) c.args.single.now c.args.now;
      names = refl;
      callers = takes_same c.args.now c.args.single.now c.args.names.now.callers;
    }

pub take_ended-requires : goal.take_ended-requires
take_ended-requires g c =
    let i = c.requires.in_turn in record { in_turn = (i.0, c.takes.invariant.links.in_turn i.0 i.1) }

pub takes-preserved : goal.takes-preserved
takes-preserved g c =
    let i = c.requires.in_turn in
    record {
      links = takes_more g.L.Link.seen c.args.self.now (g.N.Net.seen c.args.net.now) c.args.single.now c.args.now c.takes.self c.take_ended.new.self (g.N.Net.seen c.takes.net) (g.N.Net.seen c.take_ended.new.net) c.takes.single c.take_ended.new.single c.takes.invariant.links c.in-Some-take_ended.ensures.in_turn c.in-Some-take_ended.ensures.few c.in-Some-take_ended.ensures.newcomers c.in-Some-take_ended.ensures.serves c.in-Some-take_ended.ensures.frees c.in-Some-take_ended.ensures.dry;
      names = c.lost.ensures.names ∙ c.takes.invariant.names;
      callers = takes_lost c.args.now c.args.single.now c.takes.single c.take_ended.new.single c.in-Some-take_ended.pipe c.in-Some-take_ended.ensures.taken c.in-Some-take_ended.ensures.serves.quietly (c.in-Some-take_ended.ensures.in_turn i.0 (c.takes.invariant.links.in_turn i.0 i.1)).sound c.args.names.now.callers c.takes.names.callers c.lost.new.self.callers c.takes.invariant.callers c.lost.ensures.lost;
    }

pub returns-in_default-clause-in_turn : goal.returns-in_default-clause-in_turn
returns-in_default-clause-in_turn g c =
    λ start i. c.in_default.ensures.in_turn start (c.takes.invariant.links.in_turn start i)

pub returns-in_default-clause-few : goal.returns-in_default-clause-few
returns-in_default-clause-few g c =
    (takes_more g.L.Link.seen c.args.self.now (g.N.Net.seen c.args.net.now) c.args.single.now c.args.now c.takes.self c.take_ended.new.self (g.N.Net.seen c.takes.net) (g.N.Net.seen c.take_ended.new.net) c.takes.single c.take_ended.new.single c.takes.invariant.links c.in_default.ensures.in_turn c.in_default.ensures.few c.in_default.ensures.newcomers c.in_default.ensures.serves c.in_default.ensures.frees c.in_default.ensures.dry).few

pub returns-in_default-clause-serves : goal.returns-in_default-clause-serves
returns-in_default-clause-serves g c =
    (takes_more g.L.Link.seen c.args.self.now (g.N.Net.seen c.args.net.now) c.args.single.now c.args.now c.takes.self c.take_ended.new.self (g.N.Net.seen c.takes.net) (g.N.Net.seen c.take_ended.new.net) c.takes.single c.take_ended.new.single c.takes.invariant.links c.in_default.ensures.in_turn c.in_default.ensures.few c.in_default.ensures.newcomers c.in_default.ensures.serves c.in_default.ensures.frees c.in_default.ensures.dry).serves

pub returns-in_default-clause-frees : goal.returns-in_default-clause-frees
returns-in_default-clause-frees g c =
    (takes_more g.L.Link.seen c.args.self.now (g.N.Net.seen c.args.net.now) c.args.single.now c.args.now c.takes.self c.take_ended.new.self (g.N.Net.seen c.takes.net) (g.N.Net.seen c.take_ended.new.net) c.takes.single c.take_ended.new.single c.takes.invariant.links c.in_default.ensures.in_turn c.in_default.ensures.few c.in_default.ensures.newcomers c.in_default.ensures.serves c.in_default.ensures.frees c.in_default.ensures.dry).frees

pub returns-in_default-clause-dry : goal.returns-in_default-clause-dry
returns-in_default-clause-dry g c =
    (takes_more g.L.Link.seen c.args.self.now (g.N.Net.seen c.args.net.now) c.args.single.now c.args.now c.takes.self c.take_ended.new.self (g.N.Net.seen c.takes.net) (g.N.Net.seen c.take_ended.new.net) c.takes.single c.take_ended.new.single c.takes.invariant.links c.in_default.ensures.in_turn c.in_default.ensures.few c.in_default.ensures.newcomers c.in_default.ensures.serves c.in_default.ensures.frees c.in_default.ensures.dry).dry

pub returns-in_default-clause-names : goal.returns-in_default-clause-names
returns-in_default-clause-names g c =
    c.takes.invariant.names

pub returns-in_default-clause-taken : goal.returns-in_default-clause-taken
returns-in_default-clause-taken g c p h =
    let i = c.requires.in_turn in
    let mid = c.takes.invariant.links.in_turn i.0 i.1 in
    let last = c.in_default.ensures.in_turn i.0 mid in
    let off = none_untaken c.args.single.now c.takes.single p c.takes.invariant.links.serves.quietly i.1.sound mid.sound h c.in_default.ensures.taken in
    (off_stays true c.takes.single c.take_ended.new.single p c.in_default.ensures.serves.quietly last.sound off).2 refl

pub returns-in_default-clause-callers : goal.returns-in_default-clause-callers
returns-in_default-clause-callers g c =
    let i = c.requires.in_turn in
    let mid = c.takes.invariant.links.in_turn i.0 i.1 in
    takes_all c.args.now c.args.single.now c.takes.single c.take_ended.new.single c.in_default.ensures.taken c.in_default.ensures.serves.quietly (c.in_default.ensures.in_turn i.0 mid).sound c.args.names.now.callers c.takes.names.callers c.takes.invariant.callers

pub returns-in_default-clause-newcomers : goal.returns-in_default-clause-newcomers
returns-in_default-clause-newcomers g c = c.in_default.ensures.newcomers ∙ c.takes.invariant.links.newcomers
