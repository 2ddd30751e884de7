use Rattle.std.proofs.Common.{refl, subst}
use Rattle.sp_links.specs.Opened.{OpenedView, IsOpenedOver}
use Rattle.sp_links.proofs.opened.OpenedWire.into_link.Goals as goal

pub returns-clause-stands : goal.returns-clause-stands
returns-clause-stands g c = subst (λ (v : OpenedView). IsOpenedOver v) c.self.view_is (record { tied = c.into_link.ensures.tied; begun = c.self.invariant; wire = refl })
