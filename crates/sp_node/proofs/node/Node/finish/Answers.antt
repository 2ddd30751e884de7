use Rattle.std.proofs.Common.{◌∙◌, ap, subst, ◌++◌, List, append_assoc}
use Rattle.turn_lock.specs.declared.turn.Turn.{Turn}
use Rattle.sp_history.specs.declared.entry.Entry.{Entry}
use Rattle.sp_base.specs.declared.OpName.{OpName}
use Rattle.sp_history.specs.declared.setting.Setting.{Setting}
use Rattle.sp_history.specs.Past.{past_of}
use Rattle.sp_socket.specs.Singles.{AreCancelled}
use Rattle.sp_ends.specs.LeftLinks.{LinksLeft}
use Rattle.sp_node.proofs.Steps.{later_then}
use Rattle.sp_node.proofs.node.Node.finish.Goals as goal

pub returns-clause-left : goal.returns-clause-left
returns-clause-left g c =
    let old = c.args.self.single in
    let flushed = c.flush.new.self.single in
    let closed = c.close-totals.new.self.single in
    let later = later_then old flushed closed c.flush.ensures.goes_on.later c.close-totals.ensures.goes_on.later in
    let end = c.into_end.ensures.left in
    record {
      turns = later.turns ++ end.turns;
      whole = end.whole ∙ (ap (λ (h : List (Turn Entry)). h ++ end.turns) later.seen ∙ append_assoc old.seen later.turns end.turns);
      start = end.start;
      left_ = subst (λ (z : Setting). LinksLeft z end.start c.into_end.result.record_.turns (g.N.Net.seen c.into_end.result.net)) later.setting end.left_;
      cancelled = subst (λ (ops : List OpName). AreCancelled ops (past_of c.into_end.result.record_.turns)) later.cancelled end.cancelled;
    }

pub returns-clause-flushed : goal.returns-clause-flushed
returns-clause-flushed g c = record {
  is_flushed = c.flush.result;
  flushed = c.flush.new.self.single;
  flushes = c.flush.ensures.flushes;
  closed = c.close-totals.new.self.single;
  closes = rw c.into_end.ensures.totals c.close-totals.ensures.turn;
  whole = c.into_end.ensures.whole;
}
