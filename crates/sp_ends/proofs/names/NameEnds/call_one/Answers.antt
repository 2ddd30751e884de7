-- The caller has what the call brought.
use Rattle.std.proofs.Common.{◌≡◌, ◌∙◌, sym, ap, set, List}
use Rattle.sp_ends.specs.EndViews.{NamesView}
use Rattle.sp_ends.specs.declared.name_dialer.NameDialer.{NameDialer}
use Rattle.sp_ends.proofs.DialedNames.{called_as, tries_as, one_caller}
use Rattle.sp_ends.proofs.ListReads.{at_index}
use Rattle.sp_ends.proofs.names.NameEnds.call_one.Goals as goal

pub returns-clause-names : goal.returns-clause-names
returns-clause-names g c = ap (λ (e : NamesView). e.names) c.self.view_is

pub returns-clause-called : goal.returns-clause-called
returns-clause-called g c =
    let e = ap (λ (v : NamesView). v.callers) c.self.view_is in
    let at = at_index c.self.inside.callers.items c.args.self.now.callers c.args.i c.index_mut.result.now e c.requires.inside c.index_mut.ensures.value in
    let there = at_index c.self.inside.callers.items c.args.self.now.callers c.args.i c.index.result.now e c.requires.inside c.index.ensures in
    let same : c.index.result.now ≡ c.index_mut.result.now = one_caller (sym there ∙ at) in
    let came = c.call-pipe.ensures in (
      c.index_mut.result.now,
      c.called.new.self,
      at,
      called_as c.args.now c.args.single.now c.call-pipe.new.single c.call-pipe.result c.index_mut.result.now c.called.new.self came.came c.called.ensures,
      tries_as c.args.now c.args.role _ c.call-pipe.result c.index.result.now c.index_mut.result.now c.called.new.self c.args.single.now c.call-pipe.new.single c.args.inproc.now c.call-pipe.new.inproc c.as_slice.ensures same c.called.ensures came.tries,
      ap (λ (xs : List NameDialer). set xs c.args.i c.called.new.self) e,
    )
