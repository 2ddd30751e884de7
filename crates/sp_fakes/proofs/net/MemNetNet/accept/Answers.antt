use Rattle.std.proofs.Common.{subst}
use Rattle.std.specs.FinMap as map
use Rattle.sp_base.specs.Views.{NetView}
use Rattle.sp_fakes.specs.Nets.{net_view, IsLinked}
use Rattle.sp_fakes.proofs.net.MemNetNet.accept.Goals as goal

pub returns-then-refuses-clause-after : goal.returns-then-refuses-clause-after
returns-then-refuses-clause-after c =
    let P : NetView → Type 0 = λ v. IsLinked c.fault.result (map.get v.listens c.args.at) v (net_view c.fault.new.self) in
    record {
      linking = subst P c.refuses.ensures.view (c.fault.ensures.none (map.get (net_view c.refuses.new.self).listens c.args.at));
      not_begun = λ e. cc (c.fault.ensures.returned, e);
    }
