use Rattle.std.proofs.Common.{refl, sym, subst, List}
use Rattle.turn_lock.specs.declared.turn.Turn.{Turn}
use Rattle.sp_history.specs.declared.entry.Entry.{Entry}
use Rattle.sp_core.specs.Collecting.{IsOpen}
use Rattle.sp_links.specs.EndWires.{shown}
use Rattle.cat_rounds.specs.Lasting.{IsUnderWay}
use Rattle.cat_rounds.specs.Parts.{RunPartsView}
use Rattle.cat_rounds.specs.RunRounds.{LinksStand, is_dry_at}
use Rattle.cat_rounds.proofs.RunEnd.{IsEnding, hand_closed, legal_record, play_closes, ends_stand, wires_are, finishes}
use Rattle.cat_rounds.proofs.run_parts.RunParts.finish.Goals as goal

pub finish-requires-clause-op : goal.finish-requires-clause-op
finish-requires-clause-op g c =
    let run = c.self.invariant in
    let s = c.self.inside.single in
    let p = c.self.inside.player in
    let took = c.close.ensures.turn in
    subst (λ (h : List (Turn Entry)). IsUnderWay p.op h) (sym took.seen) (hand_closed p.op s.setting.callers s.seen took.turn (took.said.first run.play.is_open) (λ o open_. subst (λ (h : List (Turn Entry)). IsOpen 1 o h) took.seen (c.close.ensures.open_ o open_)) run.play.hand)

pub finish-wires-requires : goal.finish-wires-requires
finish-wires-requires g c =
    let run = c.self.invariant in
    let s = c.self.inside.single in
    let p = c.self.inside.player in
    let last = c.finish.new.single in
    let e : IsEnding c.close.result s c.close.new.self last p last.seen = record { sound = run.sound; play = run.play; closing = c.close.ensures.turn; last = c.finish.ensures.finished; nothing = c.finish.ensures.none; whole = refl } in
    record { closed = (play_closes c.close.result s c.close.new.self last p last.seen e).closed }

pub give_all_back-requires : goal.give_all_back-requires
give_all_back-requires g c =
    let start = c.requires.stands.0 in
    let run = c.self.invariant in
    let s = c.self.inside.single in
    let p = c.self.inside.player in
    let net = g.N.Net.seen c.args.net.now in
    let links = subst (λ (v : RunPartsView _). LinksStand g.L.Link.seen start v.single v.ends.links net (is_dry_at v.single)) (sym c.self.view_is) c.requires.stands.1 in
    let last = c.finish.new.single in
    let end = c.finish-wires.result in
    let e : IsEnding c.close.result s c.close.new.self last p end.record_.turns = record { sound = run.sound; play = run.play; closing = c.close.ensures.turn; last = c.finish.ensures.finished; nothing = c.finish.ensures.none; whole = c.finish-wires.ensures.whole } in
    record {
      stands = (
        s.setting,
        start,
        end.record_.turns,
        ends_stand c.close.result s c.close.new.self last p end.record_.turns e g.L.Link.seen start net c.self.inside.ends.links links.ends_stand,
        wires_are c.close.result s c.close.new.self last p end.record_.turns e shown end.wires c.finish-wires.ensures,
      );
    }

pub returns-clause-finished : goal.returns-clause-finished
returns-clause-finished g c = rw (← c.self.view_is) (λ start run.
    let s = c.self.inside.single in
    let p = c.self.inside.player in
    let last = c.finish.new.single in
    let end = c.finish-wires.result in
    let seen = g.L.Link.seen in
    let net = g.N.Net.seen c.args.net.now in
    let net' = g.N.Net.seen c.give_all_back.new.net in
    let e : IsEnding c.close.result s c.close.new.self last p end.record_.turns = record { sound = run.sound; play = run.play; closing = c.close.ensures.turn; last = c.finish.ensures.finished; nothing = c.finish.ensures.none; whole = c.finish-wires.ensures.whole } in
    let legal = legal_record c.close.result s c.close.new.self last p end.record_.turns e in
    let closed = (play_closes c.close.result s c.close.new.self last p end.record_.turns e).closed in
    let stands = ends_stand c.close.result s c.close.new.self last p end.record_.turns e seen start net c.self.inside.ends.links run.ends_stand in
    let wires = wires_are c.close.result s c.close.new.self last p end.record_.turns e shown end.wires c.finish-wires.ensures in
    finishes c.close.result s c.close.new.self last p end.record_.turns e seen shown end.wires start net net' c.self.inside.ends.links c.finish-wires.ensures (c.give_all_back.ensures.left s.setting start end.record_.turns legal closed stands wires) c.give_all_back.ensures.counts)
