-- The names are asked one after another.
use Rattle.std.proofs.Common.{◌<◌, ◌+◌, ◌*◌, ℕ, List, refl, sym, subst, ap, arith, length, add-one}
use Rattle.sp_ends.proofs.Bringing.{BringTo, to_later, to_next, to_all, brings_before, fewer_none, fewer_both}
use Rattle.sp_ends.proofs.ListReads.{at_index}
use Rattle.sp_ends.specs.NameSteps.{Brings}
use Rattle.sp_ends.specs.EndViews.{NamesView}
use Rattle.sp_ends.proofs.DialedNames.{goes_none, goes_both, accepts_none, accepts_as, accepts_both}
use Rattle.sp_ends.proofs.Lanes.{keeps_none, keeps_both}
use Rattle.sp_ends.proofs.names.NameEnds.accept_all.Goals as goal

pub names-init : goal.names-init
names-init g c = record { on = goes_none c.args.single.now; links = keeps_none g.L.Link.seen c.args.single.now; accepted = accepts_none 0 c.args.single.now c.args.inproc.now c.args.inproc.now refl; brings = tt; fewer = fewer_none c.args.inproc.now }

pub names-preserved : goal.names-preserved
names-preserved g c =
    let a = c.args.single.now in
    let b = c.names.single in
    let d = c.accept_from.new.single in
    let e = c.accept_from.ensures in
    let old = ap (λ (v : NamesView). length v.names) c.self.view_is in
    let there = ap (λ (v : NamesView). v.names) c.self.view_is in
    let below : c.names.i < length c.args.self.now.names = omega (arith, old, c.names-test.true, c.len-i-end.ensures, c.self.inside.names.ok.0) in
    let at = at_index c.self.inside.names.items c.args.self.now.names c.names.i c.index.result.now there below c.index.ensures in
    let asked = subst (λ (n : List ℕ). Brings n c.names.inproc c.accept_from.new.inproc) c.as_slice.ensures e.brings in
    record {
      on = goes_both a b d c.names.invariant.on c.accept_from.ensures.on;
      links = keeps_both g.L.Link.seen a b d c.names.invariant.links c.accept_from.ensures.links;
      accepted = accepts_as (16 * c.names.i + 16) (16 * (c.names.i + 1)) a d c.args.inproc.now c.accept_from.new.inproc (omega arith) (accepts_both (16 * c.names.i) 16 a b d c.args.inproc.now c.names.inproc c.accept_from.new.inproc c.names.invariant.on c.accept_from.ensures.on c.names.invariant.accepted c.accept_from.ensures.accepted);
      brings = subst (λ (k : ℕ). BringTo k c.args.self.now.names c.args.inproc.now c.accept_from.new.inproc) (sym (add-one c.names.i)) (to_next c.names.i c.args.self.now.names c.index.result.now c.args.inproc.now c.accept_from.new.inproc (to_later c.names.i c.args.self.now.names c.args.inproc.now c.names.inproc c.accept_from.new.inproc e.fewer c.names.invariant.brings) at (brings_before c.index.result.now c.args.inproc.now c.names.inproc c.accept_from.new.inproc c.names.invariant.fewer asked));
      fewer = fewer_both c.args.inproc.now c.names.inproc c.accept_from.new.inproc c.names.invariant.fewer e.fewer;
    }

pub returns-clause-accepted : goal.returns-clause-accepted
returns-clause-accepted g c =
    let old = ap (λ (e : NamesView). length e.names) c.self.view_is in
    accepts_as (16 * c.names.i) (16 * length c.args.self.now.names) c.args.single.now c.names.single c.args.inproc.now c.names.inproc (omega (arith, old, c.names-test.false, c.names.auto.i-end, c.len-i-end.ensures, c.self.inside.names.ok.0)) c.names.invariant.accepted

pub returns-clause-brings : goal.returns-clause-brings
returns-clause-brings g c =
    let old = ap (λ (e : NamesView). length e.names) c.self.view_is in
    to_all c.names.i c.args.self.now.names c.args.inproc.now c.names.inproc (omega (arith, old, c.names-test.false, c.names.auto.i-end, c.len-i-end.ensures, c.self.inside.names.ok.0)) c.names.invariant.brings
