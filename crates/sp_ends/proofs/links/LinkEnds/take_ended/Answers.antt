-- The link that is left of the wire is back, and its dialer may dial again.
use Rattle.std.proofs.Common.{refl, sym, ap, subst, List, ℕ, ◌<◌, length, arith}
use Rattle.sp_ends.specs.declared.newcomer.Newcomer.{Newcomer}
use Rattle.sp_ends.specs.RunLinks.{LinksStand}
use Rattle.sp_ends.proofs.links.LinkEnds.take_ended.Goals as goal
use Rattle.sp_ends.proofs.Turns.{quiet_one, first_play, settles_play, lanes_one, lane_first, lane_settles, dry_first, dry_settles, sound_one}
use Rattle.sp_ends.proofs.TurnParts.{turn_on, taken_stands, settled_stands, lane_taken, ends_none, ends_lost, same_dialers, counts_none, counts_back, newcomers_lost}
use Rattle.sp_ends.proofs.TakenWires.{left_by, lane_left}
use Rattle.sp_ends.proofs.TurnedNames.{took_pipe, taken_first}
use Rattle.sp_ends.proofs.FreedDialers.{frees_none, frees_lost}

pub returns-in_default-clause-in_turn : goal.returns-in_default-clause-in_turn
returns-in_default-clause-in_turn g c =
    λ start i. let took = c.in_default.ensures.turn in
    turn_on g.L.Link.seen start c.args.self.now c.args.self.now (g.N.Net.seen c.args.net.now) (g.N.Net.seen c.args.net.now) c.args.now (length c.args.self.now.newcomers) (length c.args.self.now.newcomers) c.args.single.now c.take_ended.new.self (ends_none c.args.self.now)
    (quiet_one _ c.args.single.now c.take_ended.new.self took (settles_play took.turn.entries took.said.1)) (sound_one _ c.args.single.now c.take_ended.new.self took) i
    (settled_stands g.L.Link.seen start c.args.self.now.newcomers (length c.args.self.now.newcomers) _ c.args.single.now c.take_ended.new.self took (g.N.Net.seen c.args.net.now) took.said.1 i.links)

pub returns-in_default-clause-serves : goal.returns-in_default-clause-serves
returns-in_default-clause-serves g c =
    let took = c.in_default.ensures.turn in
    record { ends = ends_none c.args.self.now; dialers = same_dialers c.args.self.now.dialers; counts = counts_none (g.N.Net.seen c.args.net.now); quietly = quiet_one _ c.args.single.now c.take_ended.new.self took (settles_play took.turn.entries took.said.1); lanes = lanes_one _ c.args.single.now c.take_ended.new.self took (lane_settles took.turn.entries took.said.1) }

pub returns-in_default-clause-dry : goal.returns-in_default-clause-dry
returns-in_default-clause-dry g c =
    let took = c.in_default.ensures.turn in dry_settles _ c.args.single.now c.take_ended.new.self took took.said.1

pub give_back-requires : goal.give_back-requires
give_back-requires g c =
    let i = c.requires.in_turn in
    let took = c.in-Some.ensures.turn in
    (left_by g.L.Link.seen c.args.single.now.setting i.0 (g.N.Net.seen c.args.net.now) c.args.single.now.seen c.in-Some.pipe-1-given.0.0.pipe c.in-Some.pipe-1-given.0.0.why c.in-Some.pipe-1-given.0.0.wire i.1.links.kept took.said.1 c.in-Some-leave_wire.link i.1.sound.legal c.in-Some-leave_wire.ensures).inside

pub returns-clause-in_turn : goal.returns-clause-in_turn
returns-clause-in_turn g c =
    λ start i.
    let took = c.in-Some.ensures.turn in
    let left = left_by g.L.Link.seen c.args.single.now.setting start (g.N.Net.seen c.args.net.now) c.args.single.now.seen c.in-Some.pipe-1-given.0.0.pipe c.in-Some.pipe-1-given.0.0.why c.in-Some.pipe-1-given.0.0.wire i.links.kept took.said.1 c.in-Some-leave_wire.link i.sound.legal c.in-Some-leave_wire.ensures in
    let same = newcomers_lost c.args.self.now c.lost.new.self c.lost.ensures.same in
    let stands = taken_stands g.L.Link.seen start c.args.self.now.newcomers (length c.args.self.now.newcomers) _ c.args.single.now c.take_ended.new.self took (g.N.Net.seen c.args.net.now) (g.N.Net.seen c.give_back.new.self) c.in-Some.pipe-1-given.0.0.pipe (g.L.Link.seen c.in-Some-leave_wire.link) c.give_back.ensures left.is_place left.no_lane left.off left.is_shut left.asked left.carries took.said.2 i.links in
    turn_on g.L.Link.seen start c.args.self.now c.lost.new.self (g.N.Net.seen c.args.net.now) (g.N.Net.seen c.give_back.new.self) c.args.now (length c.args.self.now.newcomers) (length c.lost.new.self.newcomers) c.args.single.now c.take_ended.new.self (ends_lost c.args.self.now c.lost.new.self c.lost.ensures.same)
    (quiet_one _ c.args.single.now c.take_ended.new.self took (first_play _ took.turn took.said.2 refl)) (sound_one _ c.args.single.now c.take_ended.new.self took) i
    (subst (λ (ns : List (Newcomer g.row.L.Denot)). LinksStand g.L.Link.seen c.take_ended.new.self.setting start c.take_ended.new.self.seen (g.N.Net.seen c.give_back.new.self) ns (length ns)) (sym same) stands)

pub returns-clause-serves : goal.returns-clause-serves
returns-clause-serves g c =
    let took = c.in-Some.ensures.turn in
    record {
      ends = ends_lost c.args.self.now c.lost.new.self c.lost.ensures.same;
      dialers = c.lost.ensures.same.dialers;
      counts = counts_back (g.L.Link.seen c.in-Some-leave_wire.link) (g.N.Net.seen c.args.net.now) (g.N.Net.seen c.give_back.new.self) c.give_back.ensures;
      quietly = quiet_one _ c.args.single.now c.take_ended.new.self took (first_play _ took.turn took.said.2 refl);
      lanes = lanes_one _ c.args.single.now c.take_ended.new.self took (lane_first _ took.turn took.said.2 refl);
    }

pub returns-clause-dry : goal.returns-clause-dry
returns-clause-dry g c =
    let took = c.in-Some.ensures.turn in dry_first _ _ c.args.single.now c.take_ended.new.self took took.said.2

pub returns-clause-few : goal.returns-clause-few
returns-clause-few g c =
    let same = ap length (newcomers_lost c.args.self.now c.lost.new.self c.lost.ensures.same) in omega (arith, same)

pub returns-in_default-clause-frees : goal.returns-in_default-clause-frees
returns-in_default-clause-frees g c =
    frees_none c.args.now (g.N.Net.seen c.args.net.now) (g.N.Net.seen c.args.net.now) c.args.self.now.dialers c.args.self.now.dialers (omega arith) refl refl

pub returns-clause-frees : goal.returns-clause-frees
returns-clause-frees g c =
    let i = c.requires.in_turn in
    let took = c.in-Some.ensures.turn in
    let left = left_by g.L.Link.seen c.args.single.now.setting i.0 (g.N.Net.seen c.args.net.now) c.args.single.now.seen c.in-Some.pipe-1-given.0.0.pipe c.in-Some.pipe-1-given.0.0.why c.in-Some.pipe-1-given.0.0.wire i.1.links.kept took.said.1 c.in-Some-leave_wire.link i.1.sound.legal c.in-Some-leave_wire.ensures in
    frees_lost c.place-place.result (g.N.Net.seen c.args.net.now) (g.N.Net.seen c.give_back.new.self) (record { link = g.L.Link.seen c.in-Some-leave_wire.link; is_place = sym c.place-place.ensures; inside = subst (λ (q : ℕ). q < (g.N.Net.seen c.args.net.now).opened) (sym c.place-place.ensures) left.inside; back = c.give_back.ensures }) c.args.now c.args.self.now.dialers c.lost.new.self.dialers c.lost.ensures.freed

pub returns-in_default-leave_wire-clause-in_turn : goal.returns-in_default-leave_wire-clause-in_turn
returns-in_default-leave_wire-clause-in_turn g c =
    λ start i. let took = c.in-Some.ensures.turn in
    turn_on g.L.Link.seen start c.args.self.now c.args.self.now (g.N.Net.seen c.args.net.now) (g.N.Net.seen c.args.net.now) c.args.now (length c.args.self.now.newcomers) (length c.args.self.now.newcomers) c.args.single.now c.take_ended.new.self (ends_none c.args.self.now)
    (quiet_one _ c.args.single.now c.take_ended.new.self took (first_play _ took.turn took.said.2 refl)) (sound_one _ c.args.single.now c.take_ended.new.self took) i
    (lane_taken g.L.Link.seen start c.args.self.now.newcomers (length c.args.self.now.newcomers) _ c.args.single.now c.take_ended.new.self took (g.N.Net.seen c.args.net.now) c.in-Some.pipe-1-given.0.0.pipe (lane_left g.L.Link.seen c.args.single.now.setting start (g.N.Net.seen c.args.net.now) c.args.single.now.seen c.in-Some.pipe-1-given.0.0.pipe c.in-Some.pipe-1-given.0.0.why c.in-Some.pipe-1-given.0.0.wire i.links.kept took.said.1 c.in_default-leave_wire.ensures) took.said.2 i.links)

pub returns-in_default-leave_wire-clause-serves : goal.returns-in_default-leave_wire-clause-serves
returns-in_default-leave_wire-clause-serves g c =
    let took = c.in-Some.ensures.turn in
    record { ends = ends_none c.args.self.now; dialers = same_dialers c.args.self.now.dialers; counts = counts_none (g.N.Net.seen c.args.net.now); quietly = quiet_one _ c.args.single.now c.take_ended.new.self took (first_play _ took.turn took.said.2 refl); lanes = lanes_one _ c.args.single.now c.take_ended.new.self took (lane_first _ took.turn took.said.2 refl) }

pub returns-in_default-leave_wire-clause-dry : goal.returns-in_default-leave_wire-clause-dry
returns-in_default-leave_wire-clause-dry g c =
    let took = c.in-Some.ensures.turn in dry_first _ _ c.args.single.now c.take_ended.new.self took took.said.2

pub returns-in_default-leave_wire-clause-frees : goal.returns-in_default-leave_wire-clause-frees
returns-in_default-leave_wire-clause-frees g c =
    frees_none c.args.now (g.N.Net.seen c.args.net.now) (g.N.Net.seen c.args.net.now) c.args.self.now.dialers c.args.self.now.dialers (omega arith) refl refl

pub returns-in_default-leave_wire-clause-taken : goal.returns-in_default-leave_wire-clause-taken
returns-in_default-leave_wire-clause-taken g c =
    let took = c.in-Some.ensures.turn in took_pipe _ c.args.single.now c.take_ended.new.self took c.in-Some.pipe-1-given.0.0.pipe took.said.2 (taken_first _ _ took.said.0)

pub returns-in_default-clause-taken : goal.returns-in_default-clause-taken
returns-in_default-clause-taken g c = c.in_default.ensures.turn.said.0

pub returns-clause-taken : goal.returns-clause-taken
returns-clause-taken g c =
    let took = c.in-Some.ensures.turn in took_pipe _ c.args.single.now c.take_ended.new.self took c.in-Some.pipe-1-given.0.0.pipe took.said.2 (taken_first _ _ took.said.0)

pub returns-clause-newcomers : goal.returns-clause-newcomers
returns-clause-newcomers g c = newcomers_lost c.args.self.now c.lost.new.self c.lost.ensures.same
