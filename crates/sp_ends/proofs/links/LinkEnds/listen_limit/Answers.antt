use Rattle.std.proofs.Common.{◌≡◌, Some, sym, ap, ◌∙◌, slice_get}
use Rattle.sp_ends.specs.declared.listener.Listener.{Listener}
use Rattle.sp_ends.specs.EndViews.{LinkEndsView}
use Rattle.sp_ends.proofs.ListReads.{at_index}
use Rattle.sp_ends.proofs.links.LinkEnds.listen_limit.Goals as goal

some_listener : {a b : Listener} → Some a ≡ Some b → a ≡ b
some_listener e = cc

pub returns : goal.returns
returns g c l at =
    let there : slice_get c.args.self.now.listeners c.args.i ≡ Some c.index.result.now = at_index c.self.inside.listeners.items c.args.self.now.listeners c.args.i c.index.result.now (ap (λ (e : LinkEndsView g.row.L.Denot). e.listeners) c.self.view_is) c.requires.inside c.index.ensures in
    ap (λ (x : Listener). x.max) (some_listener (sym there ∙ at))
