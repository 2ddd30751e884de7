use Rattle.std.proofs.Common.{◌≡◌, Some, sym, ap, ◌∙◌, slice_get}
use Rattle.sp_ends.specs.declared.dialer.Dialer.{Dialer}
use Rattle.sp_ends.specs.EndViews.{LinkEndsView}
use Rattle.sp_ends.proofs.ListReads.{at_index}
use Rattle.sp_ends.proofs.links.LinkEnds.dial_limit.Goals as goal

some_dialer : {a b : Dialer} → Some a ≡ Some b → a ≡ b
some_dialer e = cc

pub returns : goal.returns
returns g c d at =
    let there : slice_get c.args.self.now.dialers c.args.i ≡ Some c.index.result.now = at_index c.self.inside.dialers.items c.args.self.now.dialers c.args.i c.index.result.now (ap (λ (e : LinkEndsView g.row.L.Denot). e.dialers) c.self.view_is) c.requires.inside c.index.ensures in
    ap (λ (x : Dialer). x.max) (some_dialer (sym there ∙ at))
