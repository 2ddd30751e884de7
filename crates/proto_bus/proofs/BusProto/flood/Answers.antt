use Rattle.std.proofs.Common.{◌∙◌, ◌++◌, refl, ap, Option}
use Rattle.std.specs.Prelude.{option_to_list}
use Rattle.sp_msg.specs.Views.{MessageView}
use Rattle.sp_history.specs.declared.entry.Entry.TheVariants.{Out}
use Rattle.proto_shared.proofs.Copying.{lawful_before}
use Rattle.proto_shared.proofs.Sending.{of_some}
use Rattle.proto_bus.proofs.Bussed.{flood_ties}
use Rattle.proto_bus.proofs.BusProto.flood.Goals as goal

pub returns-clause-flooded : goal.returns-clause-flooded
returns-clause-flooded c =
    of_some c.pop.result _ (λ m e t s b l h k to.
    let was = c.args.self.now in
    flood_ties was (record was { copies = c.pop.new.self }) t c.args.op c.args.p s b m (lawful_before t (Out c.args.p b) l) h k (c.pop.ensures.items ∙ ap (λ (o : Option MessageView). c.pop.new.self.items ++ option_to_list o) e) refl)
