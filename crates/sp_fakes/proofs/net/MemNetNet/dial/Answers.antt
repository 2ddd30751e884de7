use Rattle.std.proofs.Common.{Some, subst}
use Rattle.sp_base.specs.Addresses.{scheme_of}
use Rattle.sp_base.specs.Views.{NetView}
use Rattle.sp_fakes.specs.Nets.{net_view, IsLinked}
use Rattle.sp_fakes.proofs.net.MemNetNet.dial.Goals as goal

pub returns-then-refuses-clause-after : goal.returns-then-refuses-clause-after
returns-then-refuses-clause-after c =
    let P : NetView → Type 0 = λ v. IsLinked c.fault.result (Some (scheme_of c.args.addr.now)) v (net_view c.fault.new.self) in
    subst P c.refuses.ensures.view (c.fault.ensures.none (Some (scheme_of c.args.addr.now)))
