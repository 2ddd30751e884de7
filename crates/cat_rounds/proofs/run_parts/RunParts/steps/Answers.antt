use Rattle.std.proofs.Common.{◌≡◌, refl, arith, sym, ap, subst, inr, true, false, Option, Some, None}
use Rattle.std.specs.Prelude.{is_some}
use Rattle.sp_base.specs.declared.OpName.{OpName}
use Rattle.sp_history.specs.Past.{past_of}
use Rattle.cat_play.specs.Scripts.{under_way}
use Rattle.cat_rounds.specs.Lasting.{HasServed, HasPlayed}
use Rattle.cat_rounds.specs.PlayerSteps.{KnowsPipes}
use Rattle.cat_rounds.specs.Parts.{RunPartsView}
use Rattle.cat_rounds.proofs.Opened.{running_of, stands_in}
use Rattle.cat_rounds.proofs.Rounding.{along_none, along_then, served_on}
use Rattle.cat_rounds.proofs.Resting.{kept_on, rests_is}
use Rattle.cat_rounds.proofs.run_parts.RunParts.steps.Goals as goal

none_held : (o : Option OpName) → is_some o ≡ true → o ≡ None → ⊥
none_held None some none = cc
none_held (Some op) some none = cc

pub steps-init : goal.steps-init
steps-init g c =
    let is = c.self.view_is in
    record {
      stands = stands_in _ _ c.args.now is c.self.invariant c.requires.at;
      along = along_none _ _ (g.S.Sink.seen c.args.out.now) is;
      served = subst (λ (v : RunPartsView _). HasServed v.single.setting v.single.seen) (sym is) c.requires.served;
      played = λ less. absurd {A = HasPlayed c.self.inside.single.setting c.self.inside.single.seen c.self.inside.player} (omega (arith, less));
      pipes = subst (λ (v : RunPartsView _). KnowsPipes c.args.has_pipe v.single v.player) (sym is) c.requires.pipes;
      ends = ap (λ (v : RunPartsView _). v.ends) is;
      inproc = ap (λ (v : RunPartsView _). v.inproc) is;
      still = λ e. ap (λ (v : RunPartsView _). under_way (past_of v.single.seen)) is;
    }

pub returns-in-Rests-clause-went : goal.returns-in-Rests-clause-went
returns-in-Rests-clause-went g c =
    let e = c.in-Rests.ensures in
    (served_on c.steps.self-inside.single c.step.new.single e.goes_on c.steps.invariant.served, e.rested)

pub steps-preserved : goal.steps-preserved
steps-preserved g c =
    let e = c.in-Begun.ensures in
    let i = c.steps.invariant in
    record {
      stands = e.stands;
      along = along_then c.args.self.now.single c.steps.self-inside.single c.step.new.single c.args.self.now.player c.steps.self-inside.player c.step.new.self (g.S.Sink.seen c.args.out.now) (g.S.Sink.seen c.steps.out) (g.S.Sink.seen c.step.new.out) i.along (record { goes_on = e.goes_on; script = e.script; printed = e.printed; faultless = e.sinks });
      served = served_on c.steps.self-inside.single c.step.new.single e.goes_on i.served;
      played = λ _. e.rested;
      pipes = λ flood body free none. elim (none_held c.step.new.self.op (e.begun refl) free) [ ];
      ends = i.ends;
      inproc = i.inproc;
      still = λ e. cc;
    }

pub returns-in-Rests-clause-kept : goal.returns-in-Rests-clause-kept
returns-in-Rests-clause-kept g c e =
    let i = c.steps.invariant in
    let r = c.in-Rests.ensures in
    kept_on (under_way (past_of c.args.self.now.single.seen)) c.steps.self-inside.single c.step.new.single c.steps.self-inside.player c.step.new.self c.args.now i.stands r.stands (i.still (rests_is c.steps.moved false e)) (r.kept refl)

pub returns-clause-kept : goal.returns-clause-kept
returns-clause-kept g c e = inr (c.steps.invariant.still (rests_is c.steps.moved false e))

pub invariant_of-self : goal.invariant_of-self
invariant_of-self g c = running_of c.steps.self-inside.single c.steps.self-inside.player c.args.now c.steps.invariant.stands

pub invariant_of-self-in-Rests : goal.invariant_of-self-in-Rests
invariant_of-self-in-Rests g c = running_of c.step.new.single c.step.new.self c.args.now c.in-Rests.ensures.stands

pub invariant_of-self-in-OutFault : goal.invariant_of-self-in-OutFault
invariant_of-self-in-OutFault g c = running_of c.step.new.single c.step.new.self c.args.now c.in-OutFault.ensures.stands

pub invariant_of-self-in-NoMemory : goal.invariant_of-self-in-NoMemory
invariant_of-self-in-NoMemory g c = running_of c.step.new.single c.step.new.self c.args.now c.in-NoMemory.ensures.stands
