use Rattle.std.proofs.Common.{◌≡◌, ℕ, sym, subst, ◌∙◌}
use Rattle.sp_base.specs.declared.outside.LinkWrite.TheVariants as writes
use Rattle.sp_tcp.specs.Views.{OutletView}
use Rattle.sp_tcp.specs.Outlets.{WrotePrefix, WrotePiece}
use Rattle.sp_tcp.proofs.Writes.{outlet_of, write_fits, took}
use Rattle.sp_tcp.proofs.outlet.Outlet.write_once.Goals as goal

pub pass_frames-self-inside-requires-clause-fits : goal.pass_frames-self-inside-requires-clause-fits
pass_frames-self-inside-requires-clause-fits g c =
    let seen = g.L.Link.seen in
    let o : OutletView = outlet_of c.self.inside.waiting.items c.self.inside.sent in
    let same : o ≡ c.args.self.now = c.self.view_is ∙ c.in-Took.ensures.same in
    let w : WrotePrefix c.args.mark.now (writes.Took c.in-Took.n) o (seen c.args.link.now) (seen c.write_prefix.new.link) = subst (λ (x : OutletView). WrotePrefix c.args.mark.now (writes.Took c.in-Took.n) x (seen c.args.link.now) (seen c.write_prefix.new.link)) (sym same) c.in-Took.ensures.wrote in
    (write_fits c.args.mark.now o (seen c.args.link.now) (seen c.write_prefix.new.link) c.in-Took.n w).0

pub returns-in-Took : goal.returns-in-Took
returns-in-Took g c =
    let seen = g.L.Link.seen in
    let n : ℕ = c.in-Took.n in
    let l = seen c.args.link.now in
    let l2 = seen c.write_prefix.new.link in
    let o : OutletView = outlet_of c.self.inside.waiting.items c.self.inside.sent in
    let new : OutletView = outlet_of c.pass_frames-self-inside.new.waiting.items c.pass_frames-self-inside.result in
    let same : o ≡ c.args.self.now = c.self.view_is ∙ c.in-Took.ensures.same in
    let w : WrotePrefix c.args.mark.now (writes.Took n) o l l2 = subst (λ (x : OutletView). WrotePrefix c.args.mark.now (writes.Took n) x l l2) (sym same) c.in-Took.ensures.wrote in
    subst (λ (x : OutletView). WrotePiece c.args.mark.now (writes.Took n) x new l l2) same (took c.args.mark.now o l l2 n new.waiting new.sent w c.pass_frames-self-inside.ensures.passed c.pass_frames-self-inside.ensures.within)
