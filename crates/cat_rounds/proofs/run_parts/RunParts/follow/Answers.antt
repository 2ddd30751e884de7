use Rattle.std.proofs.Common.{◌≡◌, ◌<◌, ◌+◌, ◌++◌, ◌∙◌, sym, subst, ap, arith, length, take, List, ℕ, inl, inr}
use Rattle.std.proofs.lemmas.List.{take_all}
use Rattle.cat_play.specs.Spending.{listens_of, dials_of}
use Rattle.sp_socket.specs.Singles.{SingleView}
use Rattle.cat_rounds.specs.declared.player.Player.{Player}
use Rattle.cat_rounds.specs.SubscribedTopics.{CanSubscribe}
use Rattle.sp_lane.specs.Registry.{AreApart}
use Rattle.cat_rounds.specs.Built.{IsEndOf, listen_names}
use Rattle.cat_rounds.proofs.Following.{adds_links, adds_on, refuses_on, refused, grows, name_one, listens_next, dials_next, names_next, followed_on, unfollowed, net_fault, in_use_twice, end_at, as_many, rose_on}
use Rattle.cat_rounds.proofs.run_parts.RunParts.follow.Goals as goal

pub loop-end-preserved : goal.loop-end-preserved
loop-end-preserved g c =
    let i = c.loop-end.invariant in
    let x = c.end-item.result in
    let a = c.in-Ok.ensures in
    let before = c.loop-end.self.ends in
    let after = c.add.new.self.ends in
    let reg = c.loop-end.self.inproc in
    let reg' = c.add.new.self.inproc in
    let net = g.N.Net.seen c.loop-end.net in
    let net' = g.N.Net.seen c.add.new.net in
    let s = c.loop-end.self.single in
    let p = c.loop-end.self.player in
    let w = grows net net' reg reg' before after x c.args.max a.added in
    let few : length before.links.listeners + length before.links.dialers < 64 = omega (arith, i.count, c.loop-end-test.true, c.requires.built.few) in
    let seen = ap (λ (v : SingleView). v.seen) i.single ∙ c.requires.fresh in
    let single = ap (λ q. q.single) a.same in
    let player = ap (λ q. q.player) a.same in
    record {
      some = (i.some.0, i.some.1, adds_links g.L.Link.seen i.some.0 net net' reg reg' s c.add.new.self.single before after x c.args.max seen single (end_at (IsEndOf i.some.0.origins c.args.max) c.args.ends.now c.loop-end.end-index x i.some.1 c.loop-end-test.true c.end-item.is) a.added few i.some.2);
      stands = λ start of run. adds_on g.L.Link.seen start net net' reg reg' s c.add.new.self.single before after p c.add.new.self.player x c.args.max seen single player (end_at (IsEndOf start.origins c.args.max) c.args.ends.now c.loop-end.end-index x of c.loop-end-test.true c.end-item.is) a.added few (i.stands start of run);
      single = single ∙ i.single;
      player = player ∙ i.player;
      listens = (let n = listens_next c.args.ends.now c.loop-end.end-index x c.loop-end-test.true c.end-item.is in omega (arith, w.listens, i.listens, n));
      dials = (let n = dials_next c.args.ends.now c.loop-end.end-index x c.loop-end-test.true c.end-item.is in omega (arith, w.dials, i.dials, n));
      count = omega (arith, i.count, w.listens, w.dials, w.one);
      names_are = w.names_are ∙ (ap (λ (r : List (List ℕ)). r ++ name_one x) i.names_are ∙ sym (names_next c.args.ends.now c.loop-end.end-index x c.loop-end-test.true c.end-item.is));
      apart = w.apart i.apart;
      opened = w.opened ∙ i.opened;
      faults = omega (arith, i.faults, w.faults);
    }

pub returns-clause-followed : goal.returns-clause-followed
returns-clause-followed g c =
    let i = c.loop-end.invariant in
    let r = c.begin.ensures in
    let all : take c.loop-end.end-index c.args.ends.now ≡ c.args.ends.now = take_all c.loop-end.end-index c.args.ends.now c.loop-end-test.false in
    followed_on c.begin.result c.args.ends.now c.begin.new.self.single c.begin.new.self.ends.links c.begin.new.self.player (g.N.Net.seen c.args.net.now) (g.N.Net.seen c.begin.new.net) (g.Pa.Pace.seen c.args.pace.now) (g.Pa.Pace.seen c.begin.new.pace) (g.S.Sink.seen c.args.out.now) (g.S.Sink.seen c.begin.new.out) r.went r.pace (ap length r.same.0.listeners ∙ (i.listens ∙ ap listens_of all)) (as_many c.begin.new.self.ends.links.dialers c.loop-end.self.ends.links.dialers r.same.0.dials ∙ (i.dials ∙ ap dials_of all)) (subst AreApart (i.names_are ∙ ap listen_names all) i.apart) r.sinks

pub begin-requires-clause-can : goal.begin-requires-clause-can
begin-requires-clause-can g c =
    let i = c.loop-end.invariant in
    subst (λ (v : SingleView). CanSubscribe v.setting c.loop-end.self.player.script.topics) (sym i.single) (subst (λ (q : Player). CanSubscribe c.args.self.now.single.setting q.script.topics) (sym i.player) c.requires.topics)

-- ---- An end was refused

pub returns-in-Err-Fault-clause-stands : goal.returns-in-Err-Fault-clause-stands
returns-in-Err-Fault-clause-stands g c = λ start of run.
    let i = c.loop-end.invariant in
    let a = c.in-Err-Fault.ensures in
    refuses_on g.L.Link.seen start (g.N.Net.seen c.loop-end.net) (g.N.Net.seen c.add.new.net) c.loop-end.self.inproc c.add.new.self.inproc c.loop-end.self.single c.add.new.self.single c.loop-end.self.ends c.add.new.self.ends c.loop-end.self.player c.add.new.self.player c.end-item.result c.args.max c.in-Err-Fault.field-0 (ap (λ q. q.single) a.same) (ap (λ q. q.player) a.same) a.added (i.stands start of run)

pub returns-in-Err-Fault-clause-followed : goal.returns-in-Err-Fault-clause-followed
returns-in-Err-Fault-clause-followed g c =
    let i = c.loop-end.invariant in
    let a = c.in-Err-Fault.ensures in
    let r = refused (g.N.Net.seen c.loop-end.net) (g.N.Net.seen c.add.new.net) c.loop-end.self.inproc c.add.new.self.inproc c.loop-end.self.ends c.add.new.self.ends c.end-item.result c.args.max c.in-Err-Fault.field-0 a.added in
    net_fault c.args.ends.now c.add.new.self.single c.add.new.self.ends.links c.add.new.self.player (g.N.Net.seen c.args.net.now) (g.N.Net.seen c.add.new.net) (g.Pa.Pace.seen c.args.pace.now) (g.S.Sink.seen c.args.out.now) (ap (λ q. q.single.seen) a.same ∙ (ap (λ (v : SingleView). v.seen) i.single ∙ c.requires.fresh)) (inl (rose_on (g.N.Net.seen c.args.net.now).faults (g.N.Net.seen c.loop-end.net).faults (g.N.Net.seen c.add.new.net).faults i.faults (r.fault c.in-Err-Fault.field-0-is))) (r.opened ∙ i.opened)

pub returns-in-Err-InUse-clause-stands : goal.returns-in-Err-InUse-clause-stands
returns-in-Err-InUse-clause-stands g c = λ start of run.
    let i = c.loop-end.invariant in
    let a = c.in-Err-InUse.ensures in
    refuses_on g.L.Link.seen start (g.N.Net.seen c.loop-end.net) (g.N.Net.seen c.add.new.net) c.loop-end.self.inproc c.add.new.self.inproc c.loop-end.self.single c.add.new.self.single c.loop-end.self.ends c.add.new.self.ends c.loop-end.self.player c.add.new.self.player c.end-item.result c.args.max c.in-Err-InUse.field-0 (ap (λ q. q.single) a.same) (ap (λ q. q.player) a.same) a.added (i.stands start of run)

pub returns-in-Err-InUse-clause-followed : goal.returns-in-Err-InUse-clause-followed
returns-in-Err-InUse-clause-followed g c =
    let i = c.loop-end.invariant in
    let a = c.in-Err-InUse.ensures in
    let r = refused (g.N.Net.seen c.loop-end.net) (g.N.Net.seen c.add.new.net) c.loop-end.self.inproc c.add.new.self.inproc c.loop-end.self.ends c.add.new.self.ends c.end-item.result c.args.max c.in-Err-InUse.field-0 a.added in
    net_fault c.args.ends.now c.add.new.self.single c.add.new.self.ends.links c.add.new.self.player (g.N.Net.seen c.args.net.now) (g.N.Net.seen c.add.new.net) (g.Pa.Pace.seen c.args.pace.now) (g.S.Sink.seen c.args.out.now) (ap (λ q. q.single.seen) a.same ∙ (ap (λ (v : SingleView). v.seen) i.single ∙ c.requires.fresh)) (inr (in_use_twice c.args.ends.now c.loop-end.end-index c.end-item.result c.loop-end.self.inproc c.loop-end-test.true c.end-item.is i.names_are (r.in_use c.in-Err-InUse.field-0-is))) (r.opened ∙ i.opened)

pub returns-in-Err-NoMemory-clause-stands : goal.returns-in-Err-NoMemory-clause-stands
returns-in-Err-NoMemory-clause-stands g c = λ start of run.
    let i = c.loop-end.invariant in
    let a = c.in-Err-NoMemory.ensures in
    refuses_on g.L.Link.seen start (g.N.Net.seen c.loop-end.net) (g.N.Net.seen c.add.new.net) c.loop-end.self.inproc c.add.new.self.inproc c.loop-end.self.single c.add.new.self.single c.loop-end.self.ends c.add.new.self.ends c.loop-end.self.player c.add.new.self.player c.end-item.result c.args.max c.in-Err-NoMemory.field-0 (ap (λ q. q.single) a.same) (ap (λ q. q.player) a.same) a.added (i.stands start of run)

pub returns-in-Err-NoMemory-clause-followed : goal.returns-in-Err-NoMemory-clause-followed
returns-in-Err-NoMemory-clause-followed g c =
    let i = c.loop-end.invariant in
    let a = c.in-Err-NoMemory.ensures in
    unfollowed c.args.ends.now c.add.new.self.single c.add.new.self.ends.links c.add.new.self.player (g.N.Net.seen c.args.net.now) (g.N.Net.seen c.add.new.net) (g.Pa.Pace.seen c.args.pace.now) (g.S.Sink.seen c.args.out.now) (ap (λ q. q.single.seen) a.same ∙ (ap (λ (v : SingleView). v.seen) i.single ∙ c.requires.fresh))
