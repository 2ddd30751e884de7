-- Each name that is due is dialed.
use Rattle.std.proofs.Common.{◌≡◌, ◌<◌, ◌∙◌, ℕ, refl, sym, ap, subst, arith, add-one, length, true, false, Some, slice_get}
use Rattle.std.specs.Prelude.{IsTrue}
use Rattle.sp_ends.specs.NameSteps.{IsDueNameDialer}
use Rattle.sp_ends.specs.EndViews.{NamesView}
use Rattle.sp_ends.specs.declared.name_dialer.NameDialer.{NameDialer}
use Rattle.sp_ends.proofs.DialedNames.{goes_none, goes_both, CallsTo, calls_next, calls_kept, calls_whole, calls_long, DialsTo, dials_next, dials_kept, dials_whole}
use Rattle.sp_ends.proofs.Lanes.{keeps_none, keeps_both}
use Rattle.sp_ends.proofs.ListReads.{at_index}
use Rattle.sp_ends.proofs.names.NameEnds.call_all.Goals as goal

some_caller : {a b : NameDialer} → Some a ≡ Some b → a ≡ b
some_caller e = cc

pub calls-init : goal.calls-init
calls-init g c =
    record {
      on = goes_none c.args.single.now;
      links = keeps_none g.L.Link.seen c.args.single.now;
      names = refl;
      callers = refl;
      dials = (refl, refl, refl);
      lengths = refl;
    }

pub calls-preserved-then-not-is_due : goal.calls-preserved-then-not-is_due
calls-preserved-then-not-is_due g c =
    let there = ap (λ (e : NamesView). e.callers) c.self-in-calls.view_is in
    let old = ap (λ (e : NamesView). length e.callers) c.self.view_is in
    let below : c.calls.i < length c.calls.self.callers = omega (arith, old, c.calls-test.true, c.len-i-end.ensures, c.self.inside.callers.ok.0, c.calls.invariant.lengths) in
    let at = at_index c.self-in-calls.inside.callers.items c.calls.self.callers c.calls.i c.index.result.now there below c.index.ensures in
    let never : (y : NameDialer) → slice_get c.calls.self.callers c.calls.i ≡ Some y → IsDueNameDialer c.args.now y → ⊥ = λ y e due. let no : false ≡ true = sym c.if-not-is_due.true ∙ c.is_due.ensures.1 (subst (IsDueNameDialer c.args.now) (sym (some_caller (sym at ∙ e))) due) in cc in
    record {
      on = c.calls.invariant.on;
      links = c.calls.invariant.links;
      names = c.calls.invariant.names;
      callers = subst (λ (k : ℕ). CallsTo k c.args.now c.args.single.now c.calls.single c.args.self.now.callers c.calls.self.callers) (sym (add-one c.calls.i)) (calls_kept c.calls.i c.args.now c.args.single.now c.calls.single c.args.self.now.callers c.calls.self.callers c.calls.invariant.callers never);
      dials = subst (λ (k : ℕ). DialsTo c.args.now c.args.role k c.args.single.now c.calls.single c.args.inproc.now c.calls.inproc c.args.self.now.callers c.calls.self.callers) (sym (add-one c.calls.i)) (dials_kept c.args.now c.args.role c.calls.i c.args.single.now c.calls.single c.args.inproc.now c.calls.inproc c.args.self.now.callers c.calls.self.callers c.calls.invariant.dials never);
      lengths = c.calls.invariant.lengths;
    }

pub call_one-requires : goal.call_one-requires
call_one-requires g c =
    let old = ap (λ (e : NamesView). length e.callers) c.self.view_is in
    record { inside = omega (arith, old, c.calls-test.true, c.len-i-end.ensures, c.self.inside.callers.ok.0, c.calls.invariant.lengths) }

pub calls-preserved : goal.calls-preserved
calls-preserved g c =
    let there = ap (λ (e : NamesView). e.callers) c.self-in-calls.view_is in
    let old = ap (λ (e : NamesView). length e.callers) c.self.view_is in
    let below : c.calls.i < length c.calls.self.callers = omega (arith, old, c.calls-test.true, c.len-i-end.ensures, c.self.inside.callers.ok.0, c.calls.invariant.lengths) in
    let at = at_index c.self-in-calls.inside.callers.items c.calls.self.callers c.calls.i c.index.result.now there below c.index.ensures in
    let due = c.is_due.ensures.0 (subst IsTrue (sym c.if-not-is_due.false) refl) in
    let e = c.call_one.ensures in
    let a = c.args.single.now in
    let b = c.calls.single in
    let d = c.call_one.new.single in
    record {
      on = goes_both a b d c.calls.invariant.on e.on;
      links = keeps_both g.L.Link.seen a b d c.calls.invariant.links e.links;
      names = e.names ∙ c.calls.invariant.names;
      callers = subst (λ (k : ℕ). CallsTo k c.args.now a d c.args.self.now.callers c.call_one.new.self.callers) (sym (add-one c.calls.i)) (calls_next c.calls.i c.args.now c.args.role a b d c.calls.inproc c.call_one.new.inproc c.args.self.now.callers c.calls.self.callers c.call_one.new.self.callers c.index.result.now c.calls.invariant.on e.on c.calls.invariant.callers at due e.called);
      dials = subst (λ (k : ℕ). DialsTo c.args.now c.args.role k a d c.args.inproc.now c.call_one.new.inproc c.args.self.now.callers c.call_one.new.self.callers) (sym (add-one c.calls.i)) (dials_next c.args.now c.args.role c.calls.i a b d c.args.inproc.now c.calls.inproc c.call_one.new.inproc c.args.self.now.callers c.calls.self.callers c.call_one.new.self.callers c.index.result.now c.calls.invariant.dials at due e.called);
      lengths = calls_long c.calls.i c.args.now c.args.role b d c.calls.inproc c.call_one.new.inproc c.calls.self.callers c.call_one.new.self.callers e.called ∙ c.calls.invariant.lengths;
    }

pub returns-clause-callers : goal.returns-clause-callers
returns-clause-callers g c =
    let old = ap (λ (e : NamesView). length e.callers) c.self.view_is in
    calls_whole c.calls.i c.args.now c.args.single.now c.calls.single c.args.self.now.callers c.calls.self.callers c.calls.invariant.callers (omega (arith, old, c.calls-test.false, c.calls.auto.i-end, c.len-i-end.ensures, c.self.inside.callers.ok.0, c.calls.invariant.lengths))

pub returns-clause-dials : goal.returns-clause-dials
returns-clause-dials g c =
    let old = ap (λ (e : NamesView). length e.callers) c.self.view_is in
    dials_whole c.args.now c.args.role c.calls.i c.args.single.now c.calls.single c.args.inproc.now c.calls.inproc c.args.self.now.callers c.calls.self.callers c.calls.invariant.dials (omega (arith, old, c.calls-test.false, c.calls.auto.i-end, c.len-i-end.ensures, c.self.inside.callers.ok.0, c.calls.invariant.lengths))
