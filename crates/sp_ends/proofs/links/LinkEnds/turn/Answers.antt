-- What holds is passed on from part to part.
use Rattle.std.proofs.Common.{refl, true, false, ap, subst, ◌∙◌, arith, length, List}
use Rattle.std.specs.List.{AllByRecursion}
use Rattle.sp_history.specs.Past.{past_of}
use Rattle.sp_history.proofs.Backing.{legal_allowed}
use Rattle.sp_ends.specs.declared.newcomer.Newcomer.{Newcomer}
use Rattle.sp_ends.specs.EndViews.{LinkEndsView}
use Rattle.sp_ends.specs.Listening.{own_of, dialed_of}
use Rattle.sp_ends.specs.EndsTurns.{HasWaitedSince}
use Rattle.sp_ends.proofs.TakenAll.{untaken_off, off_stays}
use Rattle.sp_ends.proofs.Turns.{quiet_both, lanes_both}
use Rattle.sp_ends.proofs.TurnParts.{dialers_long, ends_both}
use Rattle.sp_ends.proofs.FreedDialers.{turns_all}
use Rattle.sp_ends.proofs.WholeTurn.{turn_begins, serves_net, room_on, asks_taken, each_taken, dues_taken}
use Rattle.sp_ends.proofs.DialedNames.{goes_both}
use Rattle.sp_ends.proofs.TurnedNames.{quiet_ups, turns_callers, turns_lanes, accepts_for, bring_for}
use Rattle.sp_ends.proofs.links.LinkEnds.turn.Goals as goal

pub take_all_ended-requires : goal.take_all_ended-requires
take_all_ended-requires g c =
    let t = c.requires.ticked in
    record { in_turn = (t.0, turn_begins g.L.Link.seen t.0 c.args.now c.args.self.now (g.N.Net.seen c.args.net.now) c.args.single.now t.1 c.requires.now c.requires.sound) }

pub go_on-requires-clause-ticked : goal.go_on-requires-clause-ticked
go_on-requires-clause-ticked g c =
    let t = c.requires.ticked in
    let i = turn_begins g.L.Link.seen t.0 c.args.now c.args.self.now (g.N.Net.seen c.args.net.now) c.args.single.now t.1 c.requires.now c.requires.sound in
    (t.0, c.take_all_ended.ensures.in_turn t.0 i, serves_net t.0 c.args.self.now c.take_all_ended.new.self (g.N.Net.seen c.args.net.now) (g.N.Net.seen c.take_all_ended.new.net) c.args.single.now c.take_all_ended.new.single c.take_all_ended.ensures.serves t.1.asked)

pub go_on-requires-clause-room : goal.go_on-requires-clause-room
go_on-requires-clause-room g c = room_on c.args.self.now c.take_all_ended.new.self c.args.single.now c.take_all_ended.new.single c.take_all_ended.ensures.serves.quietly c.take_all_ended.ensures.few c.requires.ticked.1.room

pub returns-clause-stands : goal.returns-clause-stands
returns-clause-stands g c = λ start e.
    let i = turn_begins g.L.Link.seen start c.args.now c.args.self.now (g.N.Net.seen c.args.net.now) c.args.single.now e c.requires.now c.requires.sound in
    let asked = serves_net start c.args.self.now c.take_all_ended.new.self (g.N.Net.seen c.args.net.now) (g.N.Net.seen c.take_all_ended.new.net) c.args.single.now c.take_all_ended.new.single c.take_all_ended.ensures.serves e.asked in
    let mid = c.go_on.ensures.stands start (c.take_all_ended.ensures.in_turn start i) asked in
    c.accept_all.ensures.links start (g.N.Net.seen c.go_on.new.net) c.go_on.new.self (c.call_all.ensures.links start (g.N.Net.seen c.go_on.new.net) c.go_on.new.self mid)

pub returns-clause-sound : goal.returns-clause-sound
returns-clause-sound g c = c.accept_all.ensures.on.sound (c.call_all.ensures.on.sound c.go_on.ensures.sound)

pub returns-clause-quietly : goal.returns-clause-quietly
returns-clause-quietly g c =
    quiet_both c.args.single.now c.take_all_ended.new.single c.accept_all.new.single c.take_all_ended.ensures.serves.quietly
    (quiet_both c.take_all_ended.new.single c.go_on.new.single c.accept_all.new.single c.go_on.ensures.quietly
    (quiet_both c.go_on.new.single c.call_all.new.single c.accept_all.new.single c.call_all.ensures.on.quietly c.accept_all.ensures.on.quietly))

pub returns-clause-dry : goal.returns-clause-dry
returns-clause-dry g c = c.accept_all.ensures.on.dry ∙ (c.call_all.ensures.on.dry ∙ c.go_on.ensures.dry)

pub returns-clause-few : goal.returns-clause-few
returns-clause-few g c =
    let f = c.go_on.ensures.few in
    let taken = dialers_long c.args.self.now.dialers c.take_all_ended.new.self.dialers c.take_all_ended.ensures.serves.dialers in
    let same = c.take_all_ended.ensures.newcomers in
    record {
      listeners = λ i n l o. let w = ap (own_of i) same in f.listeners i n l (omega (arith, w, o));
      dialers = let w = ap dialed_of same in let d = f.dialers in omega (arith, d, w, taken);
    }

pub returns-clause-same : goal.returns-clause-same
returns-clause-same g c = ends_both c.args.self.now c.take_all_ended.new.self c.go_on.new.self c.take_all_ended.ensures.serves.ends c.go_on.ensures.same

pub returns-clause-names : goal.returns-clause-names
returns-clause-names g c = c.call_all.ensures.names ∙ c.take_all_ended.ensures.names

pub returns-clause-turns : goal.returns-clause-turns
returns-clause-turns g c =
    turns_all c.args.now (g.N.Net.seen c.args.net.now) (g.N.Net.seen c.take_all_ended.new.net) (g.N.Net.seen c.go_on.new.net) c.args.self.now.dialers c.take_all_ended.new.self.dialers c.go_on.new.self.dialers c.take_all_ended.ensures.frees c.go_on.ensures.turns

pub returns-clause-taken : goal.returns-clause-taken
returns-clause-taken g c p h =
    let t = c.requires.ticked in
    let i = turn_begins g.L.Link.seen t.0 c.args.now c.args.self.now (g.N.Net.seen c.args.net.now) c.args.single.now t.1 c.requires.now c.requires.sound in
    let mid = c.take_all_ended.ensures.in_turn t.0 i in
    let later = quiet_both c.take_all_ended.new.single c.go_on.new.single c.accept_all.new.single c.go_on.ensures.quietly (quiet_both c.go_on.new.single c.call_all.new.single c.accept_all.new.single c.call_all.ensures.on.quietly c.accept_all.ensures.on.quietly) in
    let last = c.accept_all.ensures.on.sound (c.call_all.ensures.on.sound c.go_on.ensures.sound) in
    let off = untaken_off c.args.single.now.setting p (past_of c.args.single.now.seen) (legal_allowed c.args.single.now.setting c.args.single.now.seen c.requires.sound.legal) h in
    let down = off_stays false c.args.single.now c.take_all_ended.new.single p c.take_all_ended.ensures.serves.quietly mid.sound off in
    (off_stays true c.take_all_ended.new.single c.accept_all.new.single p later last (down.0, down.1, λ taken. c.take_all_ended.ensures.taken p h)).2 refl

pub returns-clause-known : goal.returns-clause-known
returns-clause-known g c =
    let taken = c.take_all_ended.ensures.serves in
    let k = c.go_on.ensures.known in
    (k.0, (let l = k.1 in omega (arith, l, taken.counts.opened, ap length taken.ends.listeners)), k.2)

pub returns-clause-listens : goal.returns-clause-listens
returns-clause-listens g c = c.go_on.ensures.listens ∙ c.take_all_ended.ensures.serves.counts.listens

pub returns-clause-asked : goal.returns-clause-asked
returns-clause-asked g c =
    asks_taken c.args.now c.args.self.now c.take_all_ended.new.self (g.N.Net.seen c.args.net.now) (g.N.Net.seen c.take_all_ended.new.net) (g.N.Net.seen c.go_on.new.net) c.args.single.now c.take_all_ended.new.single c.take_all_ended.ensures.serves c.take_all_ended.ensures.newcomers c.go_on.ensures.asked

pub returns-clause-each : goal.returns-clause-each
returns-clause-each g c =
    each_taken c.args.now c.args.self.now c.take_all_ended.new.self (g.N.Net.seen c.args.net.now) (g.N.Net.seen c.take_all_ended.new.net) (g.N.Net.seen c.go_on.new.net) c.args.single.now c.take_all_ended.new.single c.take_all_ended.ensures.serves c.take_all_ended.ensures.newcomers c.go_on.ensures.each

pub returns-clause-dues : goal.returns-clause-dues
returns-clause-dues g c =
    let taken = c.take_all_ended.ensures.serves in
    dues_taken c.args.now c.args.self.now.dialers c.take_all_ended.new.self.dialers (g.N.Net.seen c.args.net.now) (g.N.Net.seen c.take_all_ended.new.net) (g.N.Net.seen c.go_on.new.net) taken.dialers taken.counts c.go_on.ensures.dues

pub returns-clause-callers : goal.returns-clause-callers
returns-clause-callers g c =
    let on = goes_both c.go_on.new.single c.call_all.new.single c.accept_all.new.single c.call_all.ensures.on c.accept_all.ensures.on in
    turns_callers c.args.now c.args.single.now c.take_all_ended.new.single c.go_on.new.single c.call_all.new.single c.accept_all.new.single c.accept_all.ensures.on c.call_all.ensures.on
    (quiet_ups c.args.single.now c.go_on.new.single (quiet_both c.args.single.now c.take_all_ended.new.single c.go_on.new.single c.take_all_ended.ensures.serves.quietly c.go_on.ensures.quietly))
    c.go_on.ensures.quietly c.go_on.ensures.sound on.quietly (on.sound c.go_on.ensures.sound) c.args.names.now.callers c.take_all_ended.new.names.callers c.call_all.new.self.callers c.take_all_ended.ensures.callers c.call_all.ensures.callers

pub returns-clause-lanes : goal.returns-clause-lanes
returns-clause-lanes g c =
    let same = c.call_all.ensures.names ∙ c.take_all_ended.ensures.names in
    let role = ap (λ (e : LinkEndsView g.row.L.Denot). e.role) c.self.view_is ∙ (c.go_on.ensures.same.role ∙ c.take_all_ended.ensures.serves.ends.role) in
    turns_lanes c.args.now c.args.self.now.role _ c.args.names.now.names c.args.single.now c.take_all_ended.new.single c.go_on.new.single c.call_all.new.single c.accept_all.new.single c.args.inproc.now c.call_all.new.inproc c.accept_all.new.inproc c.args.names.now.callers c.take_all_ended.new.names.callers c.call_all.new.self.callers
    (quiet_both c.args.single.now c.take_all_ended.new.single c.go_on.new.single c.take_all_ended.ensures.serves.quietly c.go_on.ensures.quietly)
    (lanes_both c.args.single.now c.take_all_ended.new.single c.go_on.new.single c.take_all_ended.ensures.serves.lanes c.go_on.ensures.no_lane) role c.take_all_ended.ensures.callers c.call_all.ensures.dials c.accept_all.ensures.on (accepts_for _ _ _ _ _ _ same c.accept_all.ensures.accepted) (bring_for c.call_all.new.inproc c.accept_all.new.inproc _ _ same c.accept_all.ensures.brings)

pub returns-clause-waited : goal.returns-clause-waited
returns-clause-waited g c =
    let counts = c.take_all_ended.ensures.serves.counts.opened in
    let w = c.go_on.ensures.waited (g.N.Net.seen c.args.net.now).opened (omega (arith, counts)) in
    subst (λ (ns : List (Newcomer g.row.L.Denot)). AllByRecursion (HasWaitedSince g.L.Link.seen ns (g.N.Net.seen c.args.net.now).opened) c.go_on.new.self.newcomers) c.take_all_ended.ensures.newcomers w.rest
