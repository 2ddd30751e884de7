use Rattle.std.proofs.Common.{rules, refl}
use Rattle.sp_ws.proofs.Bytes.{handed_more}
use Rattle.sp_ws.proofs.stream.Stream.load.Goals as goal

pub returns-clause-loaded : goal.returns-clause-loaded
returns-clause-loaded c = (c.clear.ensures.items, search rules, refl, refl, handed_more _ _ _ _ c.and-self.ensures c.deref-2.ensures.value)
