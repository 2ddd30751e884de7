use Rattle.std.proofs.Common.{◌≡◌, ◌∙◌, sym, ap, subst, Some}
use Rattle.sp_history.specs.Hops.{hops_of}
use Rattle.proto_pair.specs.declared.PairVersion.{PairVersion}
use Rattle.proto_pair.specs.declared.Arrival.TheVariants as arrivals
use Rattle.proto_pair.specs.Pairs.{Arrives}
use Rattle.proto_pair.proofs.Arriving.{of_zero, of_kept}
use Rattle.proto_pair.proofs.read_frame.Goals as goal

pub returns-in-Zero : goal.returns-in-Zero
returns-in-Zero c = subst (λ (v : PairVersion). Arrives v c.args.raw c.args.ttl c.args.m (arrivals.Kept c.args.m)) (sym c.in-Zero.is) (of_zero c.args.raw c.args.ttl c.args.m c.requires)

pub returns-else-ttl-hops : goal.returns-else-ttl-hops
returns-else-ttl-hops c =
    let has : hops_of c.args.m.body ≡ Some c.in-Some.hops = ap hops_of (sym c.body.ensures) ∙ sym c.in-Some.ensures in
    subst (λ (v : PairVersion). Arrives v c.args.raw c.args.ttl c.args.m (arrivals.Kept c.counted.result)) (sym c.in-One.is) (of_kept c.args.raw c.args.ttl c.in-Some.hops c.args.m c.counted.result has c.if-ttl-hops.false c.counted.ensures.body c.counted.ensures.header)
