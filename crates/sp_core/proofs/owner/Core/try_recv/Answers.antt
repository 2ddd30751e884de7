use Rattle.std.proofs.Common.{◌∙◌, []}
use Rattle.sp_core.specs.Looking.{reads_of}
use Rattle.sp_core.specs.Standing.{core_setting}
use Rattle.sp_core.proofs.TurnEnds.{setting_at}
use Rattle.sp_core.proofs.ReceivedAtOnce.{received_so, now_z}
use Rattle.sp_core.proofs.Labels.{same_label}
use Rattle.sp_core.proofs.owner.Core.try_recv.Goals as goal

pub receive_now-requires : goal.receive_now-requires
receive_now-requires g c =
    let s = c.requires.turn.0 in
    let o = c.open_turn.ensures.does s.0 s.1 in
    (o.0, o.4.owns, o.2)

pub returns : goal.returns
returns g c = record {
  turn =
      λ h s.
      let o = c.open_turn.ensures.does h s in
      let r = c.receive_now.ensures.does o.0 o.4.owns o.2 in
      let w = received_so g.P.Proto.ties g.P.Proto.room g.W.Wire.shown c.open_turn.new.self c.receive_now.new.self (core_setting g.P.Proto.kind c.args.self.now) h c.args.k c.args.c o.0 r.0 c.receive_now.result (reads_of c.args.self.now) (reads_of c.open_turn.new.self) (reads_of c.receive_now.new.self) o.4 o.1 o.3 o.5 c.receive_now.ensures.reads r.1 r.2 r.3 in
      (w.0, w.1, w.2, (w.3, w.4));
  label =
      let s = c.requires.turn.0 in
      let o = c.open_turn.ensures.does s.0 s.1 in
      let r = c.receive_now.ensures.does o.0 o.4.owns o.2 in
      same_label g.P.Proto.kind c.args.self.now c.receive_now.new.self (setting_at g.P.Proto.ties g.P.Proto.room g.W.Wire.shown g.P.Proto.kind g.met.P.Proto.kinds [] c.receive_now.new.self r.0 r.1 ∙ now_z c.receive_now.result c.args.c o.0 r.0 r.3 ∙ o.3) (c.receive_now.ensures.words ∙ c.open_turn.ensures.words);
}
