use Rattle.std.proofs.Common.{◌≡◌, ◌-◌, ◌≤◌, ℕ, List, length, take, drop, sym, ap, subst, ◌∙◌, arith}
use Rattle.std.proofs.lemmas.List.{take_all, length-drop}
use Rattle.sp_base.specs.Views.{LinkView}
use Rattle.sp_tcp.specs.TcpWires.{Met}
use Rattle.sp_base.specs.SpStream.{framing_for}
use Rattle.sp_links.proofs.OverLink.{begun, met, framed_as}
use Rattle.sp_links.proofs.wire.EndWire.over.Goals as goal

met_behind : (link : LinkView) (u : ℕ) (s came : List ℕ) → s ≡ came → Met (drop u came) link → Met (take (length s - u) (drop u s)) link
met_behind link u s came e m = subst (λ (rest : List ℕ). Met rest link) (sym (take_all (length s - u) (drop u s) (omega (arith, length-drop u s)) ∙ ap (drop u) e)) m

pub over_tcp-requires-clause-met : goal.over_tcp-requires-clause-met
over_tcp-requires-clause-met g c = met_behind (g.L.Link.seen c.args.opening.link) c.in-Some.used c.as_slice.result.now c.args.opening.came c.as_slice.ensures (met g.L.Link.seen c.args.opening c.requires.opened c.in-Some.used c.in-Some.is (sym c.side_of.ensures ∙ c.in-None.is))

pub over_ws-requires-clause-begun : goal.over_ws-requires-clause-begun
over_ws-requires-clause-begun g c = begun g.L.Link.seen c.args.opening c.requires.opened

pub over_tcp-requires-clause-framed : goal.over_tcp-requires-clause-framed
over_tcp-requires-clause-framed g c = c.framed_by.ensures ∙ framed_as c.args.opening.way ∙ ap framing_for (sym c.requires.scheme)
