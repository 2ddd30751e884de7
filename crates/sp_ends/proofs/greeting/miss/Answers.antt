-- The link is in hand, and its turn records the miss.
use Rattle.std.proofs.Common.{refl, false}
use Rattle.sp_ends.proofs.greeting.miss.Goals as goal
use Rattle.sp_ends.proofs.Turns.{hand_opened, missed_stands, missed_quiet, missed_lanes, missed_dry}

pub leave-requires : goal.leave-requires
leave-requires g c =
    hand_opened g.N.L.Link.seen c.args.single.now.setting c.args.single.now.seen (g.N.Net.seen c.args.net.now) (g.N.L.Link.seen c.args.link) c.requires.stands

pub returns-clause-stands : goal.returns-clause-stands
returns-clause-stands g c =
    λ start ns k s cause. missed_stands g.N.L.Link.seen start ns k c.args.single.now c.missed.new.self (g.N.Net.seen c.args.net.now) (g.N.Net.seen c.leave.new.net) (g.N.L.Link.seen c.args.link) c.place-place.result c.args.why c.place-place.ensures c.missed.ensures.turn c.leave.ensures cause s

pub returns-clause-quietly : goal.returns-clause-quietly
returns-clause-quietly g c =
    missed_quiet c.place-place.result c.args.why c.args.single.now c.missed.new.self c.missed.ensures.turn

pub returns-clause-no_lane : goal.returns-clause-no_lane
returns-clause-no_lane g c = missed_lanes c.place-place.result c.args.why c.args.single.now c.missed.new.self c.missed.ensures.turn

pub returns-clause-dry : goal.returns-clause-dry
returns-clause-dry g c =
    missed_dry c.place-place.result c.args.why c.args.single.now c.missed.new.self c.missed.ensures.turn

pub returns-clause-back : goal.returns-clause-back
returns-clause-back g c =
    record { link = record (g.N.L.Link.seen c.args.link) { is_open = false }; is_place = refl; inside = hand_opened g.N.L.Link.seen c.args.single.now.setting c.args.single.now.seen (g.N.Net.seen c.args.net.now) (g.N.L.Link.seen c.args.link) c.requires.stands; back = c.leave.ensures }
