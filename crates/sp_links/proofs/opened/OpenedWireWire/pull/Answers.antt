use Rattle.std.proofs.Common.{refl}
use Rattle.sp_links.proofs.Beginning.{begun_moved}
use Rattle.sp_links.proofs.opened.OpenedWireWire.pull.Goals as goal

pub invariant_of-self : goal.invariant_of-self
invariant_of-self g c = begun_moved c.self.inside.role c.self.inside.way c.pull.ensures.ws.piece c.pull.ensures.ws.took c.self.inside.wire.link c.pull.new.self.link c.pull.ensures.ws.moved c.self.invariant

pub returns-clause-stands : goal.returns-clause-stands
returns-clause-stands g c = record {
  tied = c.pull.ensures.tied;
  begun = begun_moved c.self.inside.role c.self.inside.way c.pull.ensures.ws.piece c.pull.ensures.ws.took c.self.inside.wire.link c.pull.new.self.link c.pull.ensures.ws.moved c.self.invariant;
  wire = refl;
}
