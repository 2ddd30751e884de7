use Rattle.std.proofs.Common.{◌-◌, arith, refl, ◌∙◌}
use Rattle.sp_history.specs.Moments.{next}
use Rattle.sp_core.proofs.ServeEnds.{of_busy, served_busy_so, serves_setting, more_down}
use Rattle.sp_core.proofs.Labels.{same_label}
use Rattle.sp_core.proofs.owner.Core.serve_busy.Goals as goal

pub serve_listed-round-requires : goal.serve_listed-round-requires
serve_listed-round-requires g c = let s = c.requires.turn.0 in (next s.1.at c.args.k, c.begin_turn.ensures.does s.0 c.args.k s.1, refl)

pub settle-requires : goal.settle-requires
settle-requires g c =
    let s = c.requires.turn.0 in
    let w = c.serve_listed-round.ensures.does (next s.1.at c.args.k) (c.begin_turn.ensures.does s.0 c.args.k s.1) refl in
    (w.0, w.2)

pub overflow_sub-ended : goal.overflow_sub-ended
overflow_sub-ended g c =
    let s = c.requires.turn.0 in
    let w = c.serve_listed-round.ensures.does (next s.1.at c.args.k) (c.begin_turn.ensures.does s.0 c.args.k s.1) refl in
    let u = c.settle.ensures.later w.0 w.2 in
    let n = more_down g.P.Proto.ties g.P.Proto.room g.W.Wire.shown g.P.Proto.kind g.met.P.Proto.kinds c.args.self.now c.settle.new.self s.0 c.args.k c.args.most c.serve_listed-round.result.waiting w.0 u.0 s.1 (of_busy c.args.most c.serve_listed-round.result.waiting (next s.1.at c.args.k) w.0 w.1) u.1 u.2 in
    omega (arith, n.0, c.len-before.ensures, c.len.ensures)

pub overflow_cast-result : goal.overflow_cast-result
overflow_cast-result g c =
    let s = c.requires.turn.0 in
    let w = c.serve_listed-round.ensures.does (next s.1.at c.args.k) (c.begin_turn.ensures.does s.0 c.args.k s.1) refl in
    let u = c.settle.ensures.later w.0 w.2 in
    let n = more_down g.P.Proto.ties g.P.Proto.room g.W.Wire.shown g.P.Proto.kind g.met.P.Proto.kinds c.args.self.now c.settle.new.self s.0 c.args.k c.args.most c.serve_listed-round.result.waiting w.0 u.0 s.1 (of_busy c.args.most c.serve_listed-round.result.waiting (next s.1.at c.args.k) w.0 w.1) u.1 u.2 in
    omega (arith, n.1, c.len-before.ensures, c.len.ensures)

pub overflow_cast-result-2 : goal.overflow_cast-result-2
overflow_cast-result-2 g c =
    let s = c.requires.turn.0 in
    let w = c.serve_listed-round.ensures.does (next s.1.at c.args.k) (c.begin_turn.ensures.does s.0 c.args.k s.1) refl in
    let u = c.settle.ensures.later w.0 w.2 in
    omega (arith, u.2.pipes.few, u.2.pipes.count_is)

pub returns : goal.returns
returns g c = record {
  turn =
      λ h s.
      let w = c.serve_listed-round.ensures.does (next s.at c.args.k) (c.begin_turn.ensures.does h c.args.k s) refl in
      let u = c.settle.ensures.later w.0 w.2 in
      let n = more_down g.P.Proto.ties g.P.Proto.room g.W.Wire.shown g.P.Proto.kind g.met.P.Proto.kinds c.args.self.now c.settle.new.self h c.args.k c.args.most c.serve_listed-round.result.waiting w.0 u.0 s (of_busy c.args.most c.serve_listed-round.result.waiting (next s.at c.args.k) w.0 w.1) u.1 u.2 in
      let r = served_busy_so g.P.Proto.ties g.P.Proto.room g.W.Wire.shown g.P.Proto.kind g.met.P.Proto.kinds c.args.self.now c.settle.new.self h c.args.k c.args.most c.serve_listed-round.result.waiting w.0 u.0 (record { moved = c.settle.new.self.tally.moved; ended = c.len.result - c.len-before.result; waiting = c.serve_listed-round.result.waiting; up = c.settle.new.self.pipes.count; taken = c.serve_listed-round.result.taken }) s c.requires.turn.1 w.1 u.1 u.2 u.3 refl (omega (arith, n.0, c.len-before.ensures, c.len.ensures)) refl refl in
      (r.0, r.1, r.2, (r.3, r.4, r.5, r.6, r.7, r.8));
  label =
      let s = c.requires.turn.0 in
      let w = c.serve_listed-round.ensures.does (next s.1.at c.args.k) (c.begin_turn.ensures.does s.0 c.args.k s.1) refl in
      let u = c.settle.ensures.later w.0 w.2 in
      same_label g.P.Proto.kind c.args.self.now c.settle.new.self (serves_setting g.P.Proto.ties g.P.Proto.room g.W.Wire.shown g.P.Proto.kind g.met.P.Proto.kinds c.args.self.now c.settle.new.self s.0 c.args.k c.args.most c.serve_listed-round.result.waiting w.0 u.0 s.1 (of_busy c.args.most c.serve_listed-round.result.waiting (next s.1.at c.args.k) w.0 w.1) u.1 u.2) (c.settle.ensures.words ∙ c.serve_listed-round.ensures.words ∙ c.begin_turn.ensures.words);
}
