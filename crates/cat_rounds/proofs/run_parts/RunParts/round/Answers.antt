use Rattle.std.proofs.Common.{◌≡◌, sym, ◌∙◌, ap, subst, refl, inl, inr, false}
use Rattle.sp_ends.specs.SocketSteps.{IsDry}
use Rattle.cat_rounds.specs.Lasting.{HasPrinted}
use Rattle.sp_ends.specs.EndViews.{Beginning}
use Rattle.cat_rounds.specs.Parts.{RunPartsView}
use Rattle.cat_rounds.proofs.Opened.{running_of, at_of, run_of, running_in}
use Rattle.cat_rounds.proofs.WholeRounds.{HasTicked, MayRound, opens, quiet_stands, quiet_texts, prints_on, quiet_ticks, on_ticks, run_on, names_then, same_played, round_stands, round_prints, cut_nowhere}
use Rattle.cat_rounds.specs.declared.player.Player.{Player}
use Rattle.cat_rounds.specs.declared.rounds.Going.TheVariants as goings
use Rattle.cat_rounds.proofs.Faultless.{round_faultless}
use Rattle.cat_rounds.proofs.Late.{late_tick, late_quiet, late_on, late_then, ends_late, goes_early, drains_late, open_or}
use Rattle.cat_rounds.specs.RunRounds.{GoesTo, LinksStand}
use Rattle.cat_rounds.specs.Resting.{MovesStill}
use Rattle.cat_rounds.proofs.Resting.{before_play, round_moves, drained_moves}
use Rattle.cat_rounds.proofs.run_parts.RunParts.round.Given.{Over}
use Rattle.cat_rounds.proofs.run_parts.RunParts.round.Goals.{After-tick}
use Rattle.cat_rounds.proofs.run_parts.RunParts.round.Goals as goal

-- ---- The tick, and the turn of the ends

-- what the round requires of the parts in use
asks : (g : Over) (c : After-tick g) → MayRound g.L.Link.seen (g.N.Net.seen c.args.net.now) (record { single = c.self.inside.single; ends = c.self.inside.ends; player = c.self.inside.player; inproc = c.self.inside.inproc; still = c.self.inside.still }) c.args.now
asks g c =
    subst (λ (v : RunPartsView _). MayRound g.L.Link.seen (g.N.Net.seen c.args.net.now) v c.args.now) (sym c.self.view_is) (record { stands = c.requires.stands; may_tick = c.requires.may_tick; later = c.requires.later; late = c.requires.late })

-- the run after its tick
behind : (g : Over) (c : After-tick g) (start : Beginning) → LinksStand g.L.Link.seen start c.self.inside.single c.self.inside.ends.links (g.N.Net.seen c.args.net.now) false
    → HasTicked g.L.Link.seen start (g.N.Net.seen c.args.net.now) c.self.inside.single c.tick.new.self c.self.inside.ends.links c.self.inside.player c.args.now
behind g c start links =
    let old = c.self.inside in
    let net = g.N.Net.seen c.args.net.now in
    opens g.L.Link.seen start net old.single c.tick.new.self old.ends.links old.player c.args.now c.tick.ensures.turn c.tick.ensures.open_ (run_of g.L.Link.seen start old.single old.ends.links old.player net false c.self.invariant links) (asks g c).may_tick (asks g c).later

first : (g : Over) (c : After-tick g) → HasTicked g.L.Link.seen (asks g c).stands.0 (g.N.Net.seen c.args.net.now) c.self.inside.single c.tick.new.self c.self.inside.ends.links c.self.inside.player c.args.now
first g c = behind g c (asks g c).stands.0 (asks g c).stands.1

pub turn-turn-requires-clause-ticked : goal.turn-turn-requires-clause-ticked
turn-turn-requires-clause-ticked g c =
    let at = (goal.at.turn-turn-requires-clause-ticked g c).After-tick in
    ((asks g at).stands.0, (first g at).links)

pub turn-turn-requires-clause-now : goal.turn-turn-requires-clause-now
turn-turn-requires-clause-now g c = (first g (goal.at.turn-turn-requires-clause-now g c).After-tick).stands.now_is

pub turn-turn-requires-clause-dry : goal.turn-turn-requires-clause-dry
turn-turn-requires-clause-dry g c = (first g (goal.at.turn-turn-requires-clause-dry g c).After-tick).dry

pub invariant_of-self : goal.invariant_of-self
invariant_of-self g c =
    let o = first g (goal.at.invariant_of-self g c).After-tick in
    let t = c.turn-turn.ensures in
    let st = quiet_stands c.tick.new.self c.turn-turn.new.single c.self.inside.player c.args.now t.quietly t.sound o.stands in
    running_of c.turn-turn.new.single c.self.inside.player c.args.now st

pub invariant_of-self-2 : goal.invariant_of-self-2
invariant_of-self-2 g c =
    let o = first g (goal.at.invariant_of-self-2 g c).After-tick in
    let t = c.turn-turn.ensures in
    let st = quiet_stands c.tick.new.self c.turn-turn.new.single c.self.inside.player c.args.now t.quietly t.sound o.stands in
    running_of c.turn-turn.new.single c.self.inside.player c.args.now st

pub play-going-requires : goal.play-going-requires
play-going-requires g c =
    let o = first g (goal.at.play-going-requires g c).After-tick in
    let t = c.turn-turn.ensures in
    let st = quiet_stands c.tick.new.self c.turn-turn.new.single c.self.inside.player c.args.now t.quietly t.sound o.stands in
    record { at = at_of c.turn-turn.new.single c.self.inside.player c.args.now st }

-- ---- What it returns

pub returns-then-turn-clause-stands : goal.returns-then-turn-clause-stands
returns-then-turn-clause-stands g c = rw (← c.self.view_is) (λ start links.
    let o = behind g (goal.at.returns-then-turn-clause-stands g c).After-tick start links in
    let s1 = c.tick.new.self in
    let s2 = c.turn-turn.new.single in
    let p = c.self.inside.player in
    let t = c.turn-turn.ensures in
    let st = quiet_stands s1 s2 p c.args.now t.quietly t.sound o.stands in
    (c.turn-turn.result.is_dry, record { sound = st.sound; play = st.play; ends_stand = t.stands start o.links; dry = t.dry }))

pub returns-then-turn-clause-ticked : goal.returns-then-turn-clause-ticked
returns-then-turn-clause-ticked g c = rw (← c.self.view_is) (
    let o = first g (goal.at.returns-then-turn-clause-ticked g c).After-tick in
    let s1 = c.tick.new.self in
    let s2 = c.turn-turn.new.single in
    let p = c.self.inside.player in
    let t = c.turn-turn.ensures in
    let st = quiet_stands s1 s2 p c.args.now t.quietly t.sound o.stands in
    record { now_is = sym st.now_is; ticks_are = quiet_ticks s1 s2 t.quietly ∙ o.ticks_are })

pub returns-then-turn-clause-printed : goal.returns-then-turn-clause-printed
returns-then-turn-clause-printed g c = rw (← c.self.view_is) (λ before h.
    let o = first g (goal.at.returns-then-turn-clause-printed g c).After-tick in
    let s1 = c.tick.new.self in
    let s2 = c.turn-turn.new.single in
    let p = c.self.inside.player in
    let t = c.turn-turn.ensures in
    cut_nowhere before (g.S.Sink.seen c.args.out.now).text s2.seen p (prints_on before (g.S.Sink.seen c.args.out.now).text c.self.inside.single s2 p (quiet_texts s1 s2 p c.args.now t.quietly o.stands ∙ o.texts_are) h))

pub returns-in-Rests-clause-stands : goal.returns-in-Rests-clause-stands
returns-in-Rests-clause-stands g c = rw (← c.self.view_is) (λ start links.
    let o = behind g (goal.at.returns-in-Rests-clause-stands g c).After-tick start links in
    let s2 = c.turn-turn.new.single in
    let t = c.turn-turn.ensures in
    let y = c.play-going.ensures in
    let dry : IsDry false s2 = t.dry ∙ c.if-turn.false in
    run_on g.L.Link.seen start (g.N.Net.seen c.turn-turn.new.net) s2 c.play-going.new.self.single c.turn-turn.new.self c.play-going.new.self.ends c.play-going.new.self.player y.goes_on y.same.1 (running_in _ _ c.self-2.view_is c.self-2.invariant) dry (t.stands start o.links))

pub returns-in-Rests-clause-ticked : goal.returns-in-Rests-clause-ticked
returns-in-Rests-clause-ticked g c = rw (← c.self.view_is) (
    let o = first g (goal.at.returns-in-Rests-clause-ticked g c).After-tick in
    let s1 = c.tick.new.self in
    let s2 = c.turn-turn.new.single in
    let t = c.turn-turn.ensures in
    let y = c.play-going.ensures in
    record { now_is = sym y.at.now_is; ticks_are = on_ticks s2 c.play-going.new.self.single y.goes_on ∙ (quiet_ticks s1 s2 t.quietly ∙ o.ticks_are) })

pub returns-in-Rests-clause-printed : goal.returns-in-Rests-clause-printed
returns-in-Rests-clause-printed g c = rw (← c.self.view_is) (λ before h.
    let o = first g (goal.at.returns-in-Rests-clause-printed g c).After-tick in
    let s1 = c.tick.new.self in
    let s2 = c.turn-turn.new.single in
    let p = c.self.inside.player in
    let t = c.turn-turn.ensures in
    c.in-Rests.ensures.printed before (prints_on before (g.S.Sink.seen c.args.out.now).text c.self.inside.single s2 p (quiet_texts s1 s2 p c.args.now t.quietly o.stands ∙ o.texts_are) h))

pub returns-in-OutFault-clause-stands : goal.returns-in-OutFault-clause-stands
returns-in-OutFault-clause-stands g c = rw (← c.self.view_is) (λ start links.
    let o = behind g (goal.at.returns-in-OutFault-clause-stands g c).After-tick start links in
    let s2 = c.turn-turn.new.single in
    let t = c.turn-turn.ensures in
    let y = c.play-going.ensures in
    let dry : IsDry false s2 = t.dry ∙ c.if-turn.false in
    run_on g.L.Link.seen start (g.N.Net.seen c.turn-turn.new.net) s2 c.play-going.new.self.single c.turn-turn.new.self c.play-going.new.self.ends c.play-going.new.self.player y.goes_on y.same.1 (running_in _ _ c.self-2.view_is c.self-2.invariant) dry (t.stands start o.links))

pub returns-in-OutFault-clause-ticked : goal.returns-in-OutFault-clause-ticked
returns-in-OutFault-clause-ticked g c = rw (← c.self.view_is) (
    let o = first g (goal.at.returns-in-OutFault-clause-ticked g c).After-tick in
    let s1 = c.tick.new.self in
    let s2 = c.turn-turn.new.single in
    let t = c.turn-turn.ensures in
    let y = c.play-going.ensures in
    record { now_is = sym y.at.now_is; ticks_are = on_ticks s2 c.play-going.new.self.single y.goes_on ∙ (quiet_ticks s1 s2 t.quietly ∙ o.ticks_are) })

pub returns-in-OutFault-clause-printed : goal.returns-in-OutFault-clause-printed
returns-in-OutFault-clause-printed g c = rw (← c.self.view_is) (λ before h.
    let o = first g (goal.at.returns-in-OutFault-clause-printed g c).After-tick in
    let s1 = c.tick.new.self in
    let s2 = c.turn-turn.new.single in
    let p = c.self.inside.player in
    let t = c.turn-turn.ensures in
    c.in-OutFault.ensures.printed before (prints_on before (g.S.Sink.seen c.args.out.now).text c.self.inside.single s2 p (quiet_texts s1 s2 p c.args.now t.quietly o.stands ∙ o.texts_are) h))

pub returns-in-NoMemory-clause-stands : goal.returns-in-NoMemory-clause-stands
returns-in-NoMemory-clause-stands g c = rw (← c.self.view_is) (λ start links.
    let o = behind g (goal.at.returns-in-NoMemory-clause-stands g c).After-tick start links in
    let s2 = c.turn-turn.new.single in
    let t = c.turn-turn.ensures in
    let y = c.play-going.ensures in
    let dry : IsDry false s2 = t.dry ∙ c.if-turn.false in
    (false, run_on g.L.Link.seen start (g.N.Net.seen c.turn-turn.new.net) s2 c.play-going.new.self.single c.turn-turn.new.self c.play-going.new.self.ends c.play-going.new.self.player y.goes_on y.same.1 (running_in _ _ c.self-2.view_is c.self-2.invariant) dry (t.stands start o.links)))

pub returns-in-NoMemory-clause-ticked : goal.returns-in-NoMemory-clause-ticked
returns-in-NoMemory-clause-ticked g c = rw (← c.self.view_is) (
    let o = first g (goal.at.returns-in-NoMemory-clause-ticked g c).After-tick in
    let s1 = c.tick.new.self in
    let s2 = c.turn-turn.new.single in
    let t = c.turn-turn.ensures in
    let y = c.play-going.ensures in
    record { now_is = sym y.at.now_is; ticks_are = on_ticks s2 c.play-going.new.self.single y.goes_on ∙ (quiet_ticks s1 s2 t.quietly ∙ o.ticks_are) })

pub returns-in-NoMemory-clause-printed : goal.returns-in-NoMemory-clause-printed
returns-in-NoMemory-clause-printed g c = rw (← c.self.view_is) (λ before h.
    let o = first g (goal.at.returns-in-NoMemory-clause-printed g c).After-tick in
    let s1 = c.tick.new.self in
    let s2 = c.turn-turn.new.single in
    let p = c.self.inside.player in
    let t = c.turn-turn.ensures in
    c.in-NoMemory.ensures.printed before (prints_on before (g.S.Sink.seen c.args.out.now).text c.self.inside.single s2 p (quiet_texts s1 s2 p c.args.now t.quietly o.stands ∙ o.texts_are) h))

pub returns-in-Over-clause-stands : goal.returns-in-Over-clause-stands
returns-in-Over-clause-stands g c = rw (← c.self.view_is) (λ start links.
    let o = behind g (goal.at.returns-in-Over-clause-stands g c).After-tick start links in
    let s2 = c.turn-turn.new.single in
    let t = c.turn-turn.ensures in
    let y = c.play-going.ensures in
    let dry : IsDry false s2 = t.dry ∙ c.if-turn.false in
    let s3 = c.play-going.new.self.single in
    let d = c.drain-drained.ensures in
    let mid = run_on g.L.Link.seen start (g.N.Net.seen c.turn-turn.new.net) s2 s3 c.turn-turn.new.self c.play-going.new.self.ends c.play-going.new.self.player y.goes_on y.same.1 (running_in _ _ c.self-2.view_is c.self-2.invariant) dry (t.stands start o.links) in
    round_stands g.L.Link.seen start (g.N.Net.seen c.turn-turn.new.net) c.drain-drained.result c.drain-drained.new.self.single c.drain-drained.new.self.ends.links c.drain-drained.new.self.player d.fault.1 (run_on g.L.Link.seen start (g.N.Net.seen c.turn-turn.new.net) s3 c.drain-drained.new.self.single c.play-going.new.self.ends c.drain-drained.new.self.ends c.drain-drained.new.self.player d.goes_on d.same.1 (running_in _ _ c.self-in-Over.view_is c.self-in-Over.invariant) mid.dry mid.ends_stand))

pub returns-in-Over-clause-ticked : goal.returns-in-Over-clause-ticked
returns-in-Over-clause-ticked g c = rw (← c.self.view_is) (
    let o = first g (goal.at.returns-in-Over-clause-ticked g c).After-tick in
    let s1 = c.tick.new.self in
    let s2 = c.turn-turn.new.single in
    let t = c.turn-turn.ensures in
    let y = c.play-going.ensures in
    let s3 = c.play-going.new.self.single in
    let d = c.drain-drained.ensures in
    record { now_is = sym (d.at c.args.now y.at).now_is; ticks_are = on_ticks s3 c.drain-drained.new.self.single d.goes_on ∙ (on_ticks s2 s3 y.goes_on ∙ (quiet_ticks s1 s2 t.quietly ∙ o.ticks_are)) })

pub returns-in-Over-clause-printed : goal.returns-in-Over-clause-printed
returns-in-Over-clause-printed g c = rw (← c.self.view_is) (λ before h.
    let o = first g (goal.at.returns-in-Over-clause-printed g c).After-tick in
    let s1 = c.tick.new.self in
    let s2 = c.turn-turn.new.single in
    let p = c.self.inside.player in
    let t = c.turn-turn.ensures in
    let d = c.drain-drained.ensures in
    let f = c.in-Over.ensures.printed before (prints_on before (g.S.Sink.seen c.args.out.now).text c.self.inside.single s2 p (quiet_texts s1 s2 p c.args.now t.quietly o.stands ∙ o.texts_are) h) in
    round_prints c.drain-drained.result before (g.S.Sink.seen c.play-going.new.out).text c.drain-drained.new.self.single.seen c.drain-drained.new.self.player d.fault.0 d.fault.1 (subst (λ q. HasPrinted before (g.S.Sink.seen c.play-going.new.out).text c.drain-drained.new.self.single.seen q) (sym d.same.0) (prints_on before (g.S.Sink.seen c.play-going.new.out).text c.play-going.new.self.single c.drain-drained.new.self.single c.play-going.new.self.player d.texts f)))

pub returns-then-turn-clause-late : goal.returns-then-turn-clause-late
returns-then-turn-clause-late g c =
    let s0 = c.self.inside.single in
    let s1 = c.tick.new.self in
    let s2 = c.turn-turn.new.single in
    let p = c.self.inside.player in
    let tick = late_tick s0 s1 p c.args.now c.tick.ensures.turn c.self.invariant.play in
    let quiet = late_quiet s1 s2 p c.turn-turn.ensures.quietly in
    ends_late s0 s1 s2 p p refl (asks g (goal.at.returns-then-turn-clause-late g c).After-tick).late tick quiet

pub returns-in-Rests-clause-late : goal.returns-in-Rests-clause-late
returns-in-Rests-clause-late g c =
    let s0 = c.self.inside.single in
    let s1 = c.tick.new.self in
    let s2 = c.turn-turn.new.single in
    let p = c.self.inside.player in
    let tick = late_tick s0 s1 p c.args.now c.tick.ensures.turn c.self.invariant.play in
    let quiet = late_quiet s1 s2 p c.turn-turn.ensures.quietly in
    let s3 = c.play-going.new.self.single in
    let q = c.play-going.new.self.player in
    let y = c.play-going.ensures in
    let on = late_then s1 s2 s3 p quiet (late_on s2 s3 p y.goes_on) in
    elim (open_or p.over) [
      | inl open_ ↦ goes_early s0 s1 s3 p q y.same.0 (asks g (goal.at.returns-in-Rests-clause-late g c).After-tick).late tick on open_
      | inr over ↦ absurd (let no : goings.Rests c.in-Rests.moved ≡ goings.Over = sym c.in-Rests.is ∙ y.over over in cc)
    ]

pub returns-in-OutFault-clause-late : goal.returns-in-OutFault-clause-late
returns-in-OutFault-clause-late g c =
    let s0 = c.self.inside.single in
    let s1 = c.tick.new.self in
    let s2 = c.turn-turn.new.single in
    let p = c.self.inside.player in
    let tick = late_tick s0 s1 p c.args.now c.tick.ensures.turn c.self.invariant.play in
    let quiet = late_quiet s1 s2 p c.turn-turn.ensures.quietly in
    let s3 = c.play-going.new.self.single in
    let on = late_then s1 s2 s3 p quiet (late_on s2 s3 p c.play-going.ensures.goes_on) in
    ends_late s0 s1 s3 p c.play-going.new.self.player c.play-going.ensures.same.0 (asks g (goal.at.returns-in-OutFault-clause-late g c).After-tick).late tick on

pub returns-in-NoMemory-clause-late : goal.returns-in-NoMemory-clause-late
returns-in-NoMemory-clause-late g c =
    let s0 = c.self.inside.single in
    let s1 = c.tick.new.self in
    let s2 = c.turn-turn.new.single in
    let p = c.self.inside.player in
    let tick = late_tick s0 s1 p c.args.now c.tick.ensures.turn c.self.invariant.play in
    let quiet = late_quiet s1 s2 p c.turn-turn.ensures.quietly in
    let s3 = c.play-going.new.self.single in
    let on = late_then s1 s2 s3 p quiet (late_on s2 s3 p c.play-going.ensures.goes_on) in
    ends_late s0 s1 s3 p c.play-going.new.self.player c.play-going.ensures.same.0 (asks g (goal.at.returns-in-NoMemory-clause-late g c).After-tick).late tick on

pub returns-in-Over-clause-late : goal.returns-in-Over-clause-late
returns-in-Over-clause-late g c =
    let s0 = c.self.inside.single in
    let s1 = c.tick.new.self in
    let s2 = c.turn-turn.new.single in
    let p = c.self.inside.player in
    let tick = late_tick s0 s1 p c.args.now c.tick.ensures.turn c.self.invariant.play in
    let quiet = late_quiet s1 s2 p c.turn-turn.ensures.quietly in
    let s3 = c.play-going.new.self.single in
    let s4 = c.drain-drained.new.self.single in
    let y = c.play-going.ensures in
    let d = c.drain-drained.ensures in
    let on = late_then s1 s2 s3 p quiet (late_on s2 s3 p y.goes_on) in
    let script = ap (λ (x : Player). x.script) d.same.0 ∙ y.same.0 in
    drains_late s0 s1 s3 p c.drain-drained.new.self.player script (asks g (goal.at.returns-in-Over-clause-late g c).After-tick).late tick on c.drain-drained.result s4 (late_on s3 s4 p d.goes_on) d.stalls

pub returns-in-Rests-clause-moved : goal.returns-in-Rests-clause-moved
returns-in-Rests-clause-moved g c = rw (← c.self.view_is) (
    let s0 = c.self.inside.single in
    let s2 = c.turn-turn.new.single in
    let s3 = c.play-going.new.self.single in
    round_moves c.in-Rests.moved c.play-going.new.self.player s0 s2 s3 (before_play c.args.now s0 c.tick.new.self s2 c.tick.ensures.turn c.turn-turn.ensures.quietly) (subst (λ r. MovesStill r s2 s3) c.in-Rests.is c.play-going.ensures.moved))

pub returns-in-Over-clause-moved : goal.returns-in-Over-clause-moved
returns-in-Over-clause-moved g c = rw (← c.self.view_is) (
    let over = (subst (λ r. GoesTo r c.play-going.new.self.single c.play-going.new.self.player) c.in-Over.is c.play-going.ensures.went).1 in
    let d = c.drain-drained.ensures in
    drained_moves c.drain-drained.result c.drain-drained.new.self.player c.self.inside.single c.drain-drained.new.self.single d.rests (λ open_. over (ap (λ (x : Player). x.over) (sym d.same.0) ∙ open_)))

pub returns-then-turn-clause-names : goal.returns-then-turn-clause-names
returns-then-turn-clause-names g c = rw (← c.self.view_is) ((c.tick.new.self, c.turn-turn.new.single, c.turn-turn.ensures.lanes))

pub returns-in-Rests-clause-names : goal.returns-in-Rests-clause-names
returns-in-Rests-clause-names g c = rw (← c.self.view_is) (
    let y = c.play-going.ensures in
    names_then c.args.now c.self.inside.ends c.turn-turn.new.self c.play-going.new.self.ends c.self.inside.inproc c.turn-turn.new.inproc c.play-going.new.self.inproc y.same.1 y.names (c.tick.new.self, c.turn-turn.new.single, c.turn-turn.ensures.lanes))

pub returns-in-OutFault-clause-names : goal.returns-in-OutFault-clause-names
returns-in-OutFault-clause-names g c = rw (← c.self.view_is) (
    let y = c.play-going.ensures in
    names_then c.args.now c.self.inside.ends c.turn-turn.new.self c.play-going.new.self.ends c.self.inside.inproc c.turn-turn.new.inproc c.play-going.new.self.inproc y.same.1 y.names (c.tick.new.self, c.turn-turn.new.single, c.turn-turn.ensures.lanes))

pub returns-in-NoMemory-clause-names : goal.returns-in-NoMemory-clause-names
returns-in-NoMemory-clause-names g c = rw (← c.self.view_is) (
    let y = c.play-going.ensures in
    names_then c.args.now c.self.inside.ends c.turn-turn.new.self c.play-going.new.self.ends c.self.inside.inproc c.turn-turn.new.inproc c.play-going.new.self.inproc y.same.1 y.names (c.tick.new.self, c.turn-turn.new.single, c.turn-turn.ensures.lanes))

pub returns-in-Over-clause-names : goal.returns-in-Over-clause-names
returns-in-Over-clause-names g c = rw (← c.self.view_is) (
    let y = c.play-going.ensures in
    let d = c.drain-drained.ensures in
    names_then c.args.now c.self.inside.ends c.turn-turn.new.self c.drain-drained.new.self.ends c.self.inside.inproc c.turn-turn.new.inproc c.drain-drained.new.self.inproc (d.same.1 ∙ y.same.1) (d.names ∙ y.names) (c.tick.new.self, c.turn-turn.new.single, c.turn-turn.ensures.lanes))

pub returns-then-turn-clause-same : goal.returns-then-turn-clause-same
returns-then-turn-clause-same g c = rw (← c.self.view_is) (c.turn-turn.ensures.same, refl, c.turn-turn.ensures.quietly.setting ∙ c.tick.ensures.turn.setting)

pub returns-in-Rests-clause-same : goal.returns-in-Rests-clause-same
returns-in-Rests-clause-same g c = rw (← c.self.view_is) (
    let t = c.turn-turn.ensures in
    let y = c.play-going.ensures in
    same_played (record { single = c.self.inside.single; ends = c.self.inside.ends; player = c.self.inside.player; inproc = c.self.inside.inproc; still = c.self.inside.still }) c.play-going.new.self c.turn-turn.new.single c.turn-turn.new.self t.same (t.quietly.setting ∙ c.tick.ensures.turn.setting) y.same.1 y.same.0 y.goes_on.setting)

pub returns-in-OutFault-clause-same : goal.returns-in-OutFault-clause-same
returns-in-OutFault-clause-same g c = rw (← c.self.view_is) (
    let t = c.turn-turn.ensures in
    let y = c.play-going.ensures in
    same_played (record { single = c.self.inside.single; ends = c.self.inside.ends; player = c.self.inside.player; inproc = c.self.inside.inproc; still = c.self.inside.still }) c.play-going.new.self c.turn-turn.new.single c.turn-turn.new.self t.same (t.quietly.setting ∙ c.tick.ensures.turn.setting) y.same.1 y.same.0 y.goes_on.setting)

pub returns-in-NoMemory-clause-same : goal.returns-in-NoMemory-clause-same
returns-in-NoMemory-clause-same g c = rw (← c.self.view_is) (
    let t = c.turn-turn.ensures in
    let y = c.play-going.ensures in
    same_played (record { single = c.self.inside.single; ends = c.self.inside.ends; player = c.self.inside.player; inproc = c.self.inside.inproc; still = c.self.inside.still }) c.play-going.new.self c.turn-turn.new.single c.turn-turn.new.self t.same (t.quietly.setting ∙ c.tick.ensures.turn.setting) y.same.1 y.same.0 y.goes_on.setting)

pub returns-in-Over-clause-same : goal.returns-in-Over-clause-same
returns-in-Over-clause-same g c = rw (← c.self.view_is) (
    let t = c.turn-turn.ensures in
    let y = c.play-going.ensures in
    let d = c.drain-drained.ensures in
    same_played (record { single = c.self.inside.single; ends = c.self.inside.ends; player = c.self.inside.player; inproc = c.self.inside.inproc; still = c.self.inside.still }) c.drain-drained.new.self c.turn-turn.new.single c.turn-turn.new.self t.same (t.quietly.setting ∙ c.tick.ensures.turn.setting) (d.same.1 ∙ y.same.1) (ap (λ (x : Player). x.script) d.same.0 ∙ y.same.0) (d.goes_on.setting ∙ y.goes_on.setting))

pub returns-in-Over-clause-sinks : goal.returns-in-Over-clause-sinks
returns-in-Over-clause-sinks g c =
    round_faultless c.drain-drained.result (g.S.Sink.seen c.args.out.now) (g.S.Sink.seen c.play-going.new.out) c.drain-drained.ensures.fault.0 c.in-Over.ensures.sinks
