-- What holds is passed on from part to part.
use Rattle.std.proofs.Common.{◌*◌, ap, ◌∙◌, arith, length}
use Rattle.sp_ends.proofs.Turns.{quiet_both, lanes_both}
use Rattle.sp_ends.proofs.TurnParts.{dialers_long, ends_both}
use Rattle.sp_ends.proofs.FreedDialers.{frees_both, turns_all}
use Rattle.sp_ends.proofs.NewcomingAsks.{asked_all}
use Rattle.sp_ends.proofs.WholeTurn.{serves_net, room_on, asks_all, asks_each, dues_asked, dues_taken, turn_ends}
use Rattle.sp_ends.proofs.links.LinkEnds.go_on.Goals as goal

pub greet_all-requires-clause-in_turn : goal.greet_all-requires-clause-in_turn
greet_all-requires-clause-in_turn g c = let t = c.requires.ticked in (t.0, t.1)

pub accept_all-requires-clause-in_turn : goal.accept_all-requires-clause-in_turn
accept_all-requires-clause-in_turn g c = let t = c.requires.ticked in (t.0, c.greet_all.ensures.in_turn t.0 t.1)

pub accept_all-requires-clause-listens : goal.accept_all-requires-clause-listens
accept_all-requires-clause-listens g c =
    let t = c.requires.ticked in
    (serves_net t.0 c.args.self.now c.greet_all.new.self (g.N.Net.seen c.args.net.now) (g.N.Net.seen c.greet_all.new.net) c.args.single.now c.greet_all.new.single c.greet_all.ensures.serves t.2).listens

pub dial_all-requires-clause-in_turn : goal.dial_all-requires-clause-in_turn
dial_all-requires-clause-in_turn g c = let t = c.requires.ticked in (t.0, c.accept_all.ensures.asked.in_turn t.0 (c.greet_all.ensures.in_turn t.0 t.1))

pub dial_all-requires-clause-asked : goal.dial_all-requires-clause-asked
dial_all-requires-clause-asked g c =
    let t = c.requires.ticked in
    let greeted = c.greet_all.ensures.in_turn t.0 t.1 in
    let asked = serves_net t.0 c.args.self.now c.greet_all.new.self (g.N.Net.seen c.args.net.now) (g.N.Net.seen c.greet_all.new.net) c.args.single.now c.greet_all.new.single c.greet_all.ensures.serves t.2 in
    let room = room_on c.args.self.now c.greet_all.new.self c.args.single.now c.greet_all.new.single c.greet_all.ensures.serves.quietly c.greet_all.ensures.few c.requires.room in
    (t.0, c.accept_all.ensures.asked.in_turn t.0 greeted, asked_all g.L.Link.seen c.greet_all.new.self c.accept_all.new.self (g.N.Net.seen c.greet_all.new.net) (g.N.Net.seen c.accept_all.new.net) c.greet_all.new.single c.accept_all.new.single c.args.now c.accept_all.new.turn.is_dry t.0 c.accept_all.ensures greeted room asked)

pub dial_all-requires-clause-dry : goal.dial_all-requires-clause-dry
dial_all-requires-clause-dry g c = c.accept_all.ensures.asked.dry

pub returns-clause-stands : goal.returns-clause-stands
returns-clause-stands g c start i n =
    let greeted = c.greet_all.ensures.in_turn start i in
    let asked = serves_net start c.args.self.now c.greet_all.new.self (g.N.Net.seen c.args.net.now) (g.N.Net.seen c.greet_all.new.net) c.args.single.now c.greet_all.new.single c.greet_all.ensures.serves n in
    let room = room_on c.args.self.now c.greet_all.new.self c.args.single.now c.greet_all.new.single c.greet_all.ensures.serves.quietly c.greet_all.ensures.few c.requires.room in
    let accepted = c.accept_all.ensures.asked.in_turn start greeted in
    let all = asked_all g.L.Link.seen c.greet_all.new.self c.accept_all.new.self (g.N.Net.seen c.greet_all.new.net) (g.N.Net.seen c.accept_all.new.net) c.greet_all.new.single c.accept_all.new.single c.args.now c.accept_all.new.turn.is_dry start c.accept_all.ensures greeted room asked in
    turn_ends g.L.Link.seen start c.args.now c.dial_all.new.self (g.N.Net.seen c.dial_all.new.net) c.dial_all.new.single (c.dial_all.ensures.in_turn start accepted) (c.dial_all.ensures.asked start accepted all)

pub returns-clause-sound : goal.returns-clause-sound
returns-clause-sound g c = let t = c.requires.ticked in (c.dial_all.ensures.in_turn t.0 (c.accept_all.ensures.asked.in_turn t.0 (c.greet_all.ensures.in_turn t.0 t.1))).sound

pub returns-clause-quietly : goal.returns-clause-quietly
returns-clause-quietly g c =
    quiet_both c.args.single.now c.greet_all.new.single c.dial_all.new.single c.greet_all.ensures.serves.quietly
    (quiet_both c.greet_all.new.single c.accept_all.new.single c.dial_all.new.single c.accept_all.ensures.asked.quietly c.dial_all.ensures.quietly)

pub returns-clause-no_lane : goal.returns-clause-no_lane
returns-clause-no_lane g c =
    lanes_both c.args.single.now c.greet_all.new.single c.dial_all.new.single c.greet_all.ensures.serves.lanes
    (lanes_both c.greet_all.new.single c.accept_all.new.single c.dial_all.new.single c.accept_all.ensures.asked.lanes c.dial_all.ensures.no_lane)

pub returns-clause-few : goal.returns-clause-few
returns-clause-few g c =
    let greeted = c.greet_all.ensures.own in
    let accepted = c.accept_all.ensures.asked in
    let dialed = c.dial_all.ensures.few in
    let first = dialers_long c.args.self.now.dialers c.greet_all.new.self.dialers c.greet_all.ensures.serves.dialers in
    let last = dialers_long c.greet_all.new.self.dialers c.accept_all.new.self.dialers accepted.dialers in
    record {
      listeners = λ i n l o. let x = greeted.own i in let y = accepted.held i n l (omega (arith, x, o)) in let z = dialed.0 i in omega (arith, y, z);
      dialers = let x = greeted.dialed in let y = accepted.dialed in omega (arith, x, y, dialed.1, first, last);
    }

pub returns-clause-same : goal.returns-clause-same
returns-clause-same g c =
    ends_both c.args.self.now c.greet_all.new.self c.dial_all.new.self c.greet_all.ensures.serves.ends (ends_both c.greet_all.new.self c.accept_all.new.self c.dial_all.new.self c.accept_all.ensures.asked.ends c.dial_all.ensures.same)

pub returns-clause-turns : goal.returns-clause-turns
returns-clause-turns g c =
    turns_all c.args.now (g.N.Net.seen c.args.net.now) (g.N.Net.seen c.accept_all.new.net) (g.N.Net.seen c.dial_all.new.net) c.args.self.now.dialers c.accept_all.new.self.dialers c.dial_all.new.self.dialers
    (frees_both c.args.now (g.N.Net.seen c.args.net.now) (g.N.Net.seen c.greet_all.new.net) (g.N.Net.seen c.accept_all.new.net) c.args.self.now.dialers c.greet_all.new.self.dialers c.accept_all.new.self.dialers c.greet_all.ensures.frees c.accept_all.ensures.asked.frees)
    c.dial_all.ensures.turns

pub returns-clause-young : goal.returns-clause-young
returns-clause-young g c = c.dial_all.ensures.young (c.accept_all.ensures.asked.young c.greet_all.ensures.young)

pub returns-clause-known : goal.returns-clause-known
returns-clause-known g c =
    let greeted = c.greet_all.ensures.serves in
    let handed = c.accept_all.ensures.asked.handed in
    ((g.N.Net.seen c.accept_all.new.net).opened, omega (arith, handed, greeted.counts.opened, ap length greeted.ends.listeners), c.dial_all.ensures.known)

pub returns-clause-listens : goal.returns-clause-listens
returns-clause-listens g c = c.dial_all.ensures.listens ∙ (c.accept_all.ensures.asked.listens ∙ c.greet_all.ensures.serves.counts.listens)

pub returns-clause-asked : goal.returns-clause-asked
returns-clause-asked g c =
    asks_all g.L.Link.seen c.args.now c.args.self.now c.greet_all.new.self c.accept_all.new.self (g.N.Net.seen c.args.net.now) (g.N.Net.seen c.greet_all.new.net) (g.N.Net.seen c.accept_all.new.net) (g.N.Net.seen c.dial_all.new.net) c.greet_all.new.single c.accept_all.new.single c.accept_all.new.turn.is_dry
    c.greet_all.ensures.serves.ends c.greet_all.ensures.serves.dialers c.greet_all.ensures.serves.counts c.greet_all.ensures.own c.accept_all.ensures c.dial_all.ensures.counts.0 c.dial_all.ensures.counts.1 c.dial_all.ensures.dialed

pub returns-clause-each : goal.returns-clause-each
returns-clause-each g c =
    let counts = c.dial_all.ensures.counts in
    let served = c.greet_all.ensures.serves in
    asks_each g.L.Link.seen c.args.now c.args.self.now c.greet_all.new.self c.accept_all.new.self (g.N.Net.seen c.args.net.now) (g.N.Net.seen c.greet_all.new.net) (g.N.Net.seen c.accept_all.new.net) (g.N.Net.seen c.dial_all.new.net) c.greet_all.new.single c.accept_all.new.single c.accept_all.new.turn.is_dry
    served.ends served.dialers served.counts c.greet_all.ensures.own c.accept_all.ensures counts.0 counts.1 counts.2 c.dial_all.ensures.dialed

pub returns-clause-dues : goal.returns-clause-dues
returns-clause-dues g c =
    let served = c.greet_all.ensures.serves in
    let old = g.N.Net.seen c.args.net.now in
    let net = g.N.Net.seen c.greet_all.new.net in
    let last = g.N.Net.seen c.dial_all.new.net in
    dues_taken c.args.now c.args.self.now.dialers c.greet_all.new.self.dialers old net last served.dialers served.counts
    (dues_asked g.L.Link.seen c.args.now 0 (length c.greet_all.new.self.listeners) (16 * length c.greet_all.new.self.listeners) c.greet_all.new.self c.accept_all.new.self net (g.N.Net.seen c.accept_all.new.net) last c.greet_all.new.single c.accept_all.new.single c.accept_all.new.turn.is_dry c.accept_all.ensures.asked c.dial_all.ensures.dialed)

pub returns-clause-waited : goal.returns-clause-waited
returns-clause-waited g c = λ opened le.
    let counts = c.greet_all.ensures.serves.counts.opened in
    let more = c.accept_all.ensures.asked.opened in
    c.dial_all.ensures.waited c.args.self.now.newcomers opened (omega (arith, le, counts, more)) (c.accept_all.ensures.asked.waited c.args.self.now.newcomers opened (omega (arith, le, counts)) (c.greet_all.ensures.waited opened))
