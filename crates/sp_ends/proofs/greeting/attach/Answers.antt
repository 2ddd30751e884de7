-- The link is in hand; it comes up, or is missed.
use Rattle.std.proofs.Common.{◌≡◌, refl, sym, ap, ◌∙◌, subst, ◌||◌, ℕ, Some}
use Rattle.std.specs.Prelude.{◌==◌}
use Rattle.sp_ends.specs.LinkRecords.{lane_place}
use Rattle.sp_base.specs.Views.{LinkView}
use Rattle.sp_history.specs.declared.entry.Miss.TheVariants as misses
use Rattle.sp_links.specs.declared.wire.EndWire.{EndWire}
use Rattle.sp_links.specs.EndWires.{link_of}
use Rattle.sp_ends.specs.RunLinks.{HandStands, IsCauseOf}
use Rattle.sp_ends.specs.NewcomerSteps.{is_dry_for, GivesOneBack}
use Rattle.sp_ends.proofs.greeting.attach.Goals as goal
use Rattle.sp_ends.proofs.Turns.{quiet_one, quiet_both, first_play, settles_play, lanes_one, lanes_both, lane_first, lane_settles, hand_linked, dry_first, dry_settles}
use Rattle.sp_ends.proofs.AttachedLinks.{new_unused, new_link, up_stands, hand_again, refused_cause}

pub over-requires-clause-scheme : goal.over-requires-clause-scheme
over-requires-clause-scheme g c = let s = c.requires.stands in s.4.scheme

pub miss-requires-clause-stands : goal.miss-requires-clause-stands
miss-requires-clause-stands g c =
    let s = c.requires.stands in
    (s.0, s.1, s.2, subst (λ (x : g.row.N-L.Denot). HandStands g.N.L.Link.seen c.args.single.now.setting s.0 c.args.single.now.seen (g.N.Net.seen c.args.net.now) s.1 s.2 (g.N.L.Link.seen x)) (sym c.in-Err.ensures) s.3)

pub attach-requires : goal.attach-requires
attach-requires g c =
    let s = c.requires.stands in
    new_unused g.N.L.Link.seen s.0.origins c.args.single.now.setting c.args.opening c.args.max c.requires.opened s.4 c.in-Ok.wire c.in-Ok.ensures

pub returns-in-Err-clause-stands : goal.returns-in-Err-clause-stands
returns-in-Err-clause-stands g c =
    λ start ns k s run limit.
    let same : HandStands g.N.L.Link.seen c.args.single.now.setting start c.args.single.now.seen (g.N.Net.seen c.args.net.now) ns k (g.N.L.Link.seen c.in-Err.link) = subst (λ (x : g.row.N-L.Denot). HandStands g.N.L.Link.seen c.args.single.now.setting start c.args.single.now.seen (g.N.Net.seen c.args.net.now) ns k (g.N.L.Link.seen x)) (sym c.in-Err.ensures) s in
    let cause : IsCauseOf start.origins c.args.single.now.setting c.args.single.now.seen misses.NoMemory (g.N.L.Link.seen c.in-Err.link) = subst (λ (x : g.row.N-L.Denot). IsCauseOf start.origins c.args.single.now.setting c.args.single.now.seen misses.NoMemory (g.N.L.Link.seen x)) (sym c.in-Err.ensures) (c.args.opening.way, (run.scheme, run.known), tt) in
    c.miss.ensures.stands start ns k same cause

-- the link that comes back is the same
link_back : {L : Type 0} (v w : EndWire L) (a l : LinkView) → link_of v ≡ Some l → v ≡ w → link_of w ≡ Some a → a ≡ l
link_back v w a l e f i = some_same a l (sym i ∙ (ap link_of (sym f) ∙ e))
  where
    some_same : (x y : LinkView) → Some x ≡ Some y → x ≡ y
    some_same x y h = cc

pub returns-in-Ok-attach-clause-stands : goal.returns-in-Ok-attach-clause-stands
returns-in-Ok-attach-clause-stands g c =
    λ start ns k s run limit. let took = c.in-Ok-attach.ensures.turn in
    up_stands g.N.L.Link.seen start (g.N.Net.seen c.args.net.now) ns k _ c.args.single.now c.attach.new.self took c.args.opening c.args.max c.in-Ok-attach.field-0 c.place-place.result c.in-Ok.wire c.requires.opened run limit c.in-Ok.ensures c.place-place.ensures took.said.0.0 took.said.0.1 s

pub returns-in-Ok-attach-clause-quietly : goal.returns-in-Ok-attach-clause-quietly
returns-in-Ok-attach-clause-quietly g c =
    let took = c.in-Ok-attach.ensures.turn in quiet_one _ c.args.single.now c.attach.new.self took (first_play _ took.turn took.said.0.1 refl)

-- its place is that of a link
pub returns-in-Ok-attach-clause-no_lane : goal.returns-in-Ok-attach-clause-no_lane
returns-in-Ok-attach-clause-no_lane g c =
    let s = c.requires.stands in
    let took = c.in-Ok-attach.ensures.turn in
    let linked = hand_linked g.N.L.Link.seen c.args.single.now.setting c.args.single.now.seen (g.N.Net.seen c.args.net.now) (g.N.L.Link.seen c.args.opening.link) (s.0, s.1, s.2, s.3) in
    lanes_one _ c.args.single.now c.attach.new.self took (lane_first _ took.turn took.said.0.1 (ap (λ (place : ℕ). place == lane_place) c.place-place.ensures ∙ linked))

pub returns-in-Ok-attach-clause-dry : goal.returns-in-Ok-attach-clause-dry
returns-in-Ok-attach-clause-dry g c =
    let took = c.in-Ok-attach.ensures.turn in dry_first _ _ c.args.single.now c.attach.new.self took took.said.0.1

pub returns-in-Err-clause-back : goal.returns-in-Err-clause-back
returns-in-Err-clause-back g c =
    subst (λ (x : g.row.N-L.Denot). GivesOneBack (g.N.L.Link.seen x).place (g.N.Net.seen c.args.net.now) (g.N.Net.seen c.miss.new.net)) c.in-Err.ensures c.miss.ensures.back

pub miss-requires-in-Err-attach-clause-stands : goal.miss-requires-in-Err-attach-clause-stands
miss-requires-in-Err-attach-clause-stands g c =
    let s = c.requires.stands in
    let took = c.in-Err-attach.ensures.turn in
    let same = link_back c.in-Err-attach.wire c.in-Ok.wire (g.N.L.Link.seen c.args.opening.link) (g.N.L.Link.seen c.in-Some.link) c.in-Some.ensures.link took.said.1 (new_link g.N.L.Link.seen s.0.origins c.args.single.now.setting c.args.opening c.args.max c.requires.opened s.4 c.in-Ok.wire c.in-Ok.ensures) in
    let again = hand_again g.N.L.Link.seen s.0 (g.N.Net.seen c.args.net.now) s.1 s.2 _ c.args.single.now c.attach.new.self took c.args.opening took.said.0.0 s.3 in
    (s.0, s.1, s.2, subst (λ (x : LinkView). HandStands g.N.L.Link.seen c.attach.new.self.setting s.0 c.attach.new.self.seen (g.N.Net.seen c.args.net.now) s.1 s.2 x) same again)

pub returns-in-Some-clause-stands : goal.returns-in-Some-clause-stands
returns-in-Some-clause-stands g c =
    λ start ns k s run limit.
    let took = c.in-Err-attach.ensures.turn in
    let same = link_back c.in-Err-attach.wire c.in-Ok.wire (g.N.L.Link.seen c.args.opening.link) (g.N.L.Link.seen c.in-Some.link) c.in-Some.ensures.link took.said.1 (new_link g.N.L.Link.seen start.origins c.args.single.now.setting c.args.opening c.args.max c.requires.opened run c.in-Ok.wire c.in-Ok.ensures) in
    let again = hand_again g.N.L.Link.seen start (g.N.Net.seen c.args.net.now) ns k _ c.args.single.now c.attach.new.self took c.args.opening took.said.0.0 s in
    let cause = refused_cause g.N.L.Link.seen start (g.N.Net.seen c.args.net.now) ns k _ c.args.single.now c.attach.new.self took c.args.opening c.in-Err-attach.why c.miss_for-why.result c.miss_for-why.ensures took.said.0.1 run s in
    c.miss-in-Err-attach.ensures.stands start ns k
    (subst (λ (x : LinkView). HandStands g.N.L.Link.seen c.attach.new.self.setting start c.attach.new.self.seen (g.N.Net.seen c.args.net.now) ns k x) same again)
    (subst (λ (x : LinkView). IsCauseOf start.origins c.attach.new.self.setting c.attach.new.self.seen c.miss_for-why.result x) same cause)

pub returns-in-Some-clause-quietly : goal.returns-in-Some-clause-quietly
returns-in-Some-clause-quietly g c =
    let took = c.in-Err-attach.ensures.turn in
    quiet_both c.args.single.now c.attach.new.self c.miss-in-Err-attach.new.single (quiet_one _ c.args.single.now c.attach.new.self took (settles_play took.turn.entries took.said.0.0)) c.miss-in-Err-attach.ensures.quietly

pub returns-in-Some-clause-no_lane : goal.returns-in-Some-clause-no_lane
returns-in-Some-clause-no_lane g c =
    let took = c.in-Err-attach.ensures.turn in
    lanes_both c.args.single.now c.attach.new.self c.miss-in-Err-attach.new.single (lanes_one _ c.args.single.now c.attach.new.self took (lane_settles took.turn.entries took.said.0.0)) c.miss-in-Err-attach.ensures.no_lane

pub returns-in-Some-clause-dry : goal.returns-in-Some-clause-dry
returns-in-Some-clause-dry g c =
    let took = c.in-Err-attach.ensures.turn in
    c.miss-in-Err-attach.ensures.dry ∙ ap (λ b. is_dry_for c.miss_for-why.result || b) (dry_settles _ c.args.single.now c.attach.new.self took took.said.0.0)
