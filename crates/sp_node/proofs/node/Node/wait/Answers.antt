use Rattle.std.proofs.Common.{◌∙◌, refl, sym, subst}
use Rattle.sp_base.specs.declared.OpName.{OpName}
use Rattle.sp_core.specs.Collecting.{IsOpen}
use Rattle.sp_node.proofs.Steps.{later_none, later_one, later_then}
use Rattle.sp_node.proofs.node.Node.wait.Goals as goal

pub loop-init : goal.loop-init
loop-init g c = record { later = later_none c.args.self.now.single; op = refl; open_ = c.requires.open_; others = λ other apart o. o }

pub loop-preserved : goal.loop-preserved
loop-preserved g c =
    let i = c.loop.invariant in
    let s = c.loop.self.single in
    let s1 = c.collect.new.self.single in
    let s2 = c.go.new.self.single in
    let got = c.in-NotYet.ensures in
    let same = got.turn.said.0 in
    let went = c.go.ensures.goes_on in
    record {
      later = later_then c.args.self.now.single s1 s2 (later_then c.args.self.now.single s s1 i.later (later_one s s1 got.turn)) went.later;
      op = same ∙ i.op;
      open_ = subst (λ (o : OpName). IsOpen 1 o s2.seen) (sym same) (went.open_ c.loop.op (got.others c.loop.op i.open_));
      others = λ other apart o. went.open_ other (got.others other (i.others other apart o));
    }
