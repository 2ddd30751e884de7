use Rattle.std.proofs.Common.{refl}
use Rattle.sp_links.proofs.Beginning.{begun_went}
use Rattle.sp_links.proofs.opened.OpenedWireWire.room.Goals as goal

pub invariant_of-self : goal.invariant_of-self
invariant_of-self g c = begun_went c.self.inside.role c.self.inside.way c.room.ensures.ws.piece c.self.inside.wire.link c.room.new.self.link c.room.ensures.ws.went c.self.invariant

pub returns-clause-stands : goal.returns-clause-stands
returns-clause-stands g c = record {
  tied = c.room.ensures.tied;
  begun = begun_went c.self.inside.role c.self.inside.way c.room.ensures.ws.piece c.self.inside.wire.link c.room.new.self.link c.room.ensures.ws.went c.self.invariant;
  wire = refl;
}
