use Rattle.std.specs.Prelude.{not}
use Rattle.std.proofs.Common.{◌∙◌, sym}
use Rattle.proto_live_requests.proofs.KeyedOuts.{entry_added, ok_in}
use Rattle.proto_live_requests.proofs.outs.Outs.add.Goals as goal

pub returns-else-is_err-clause-more : goal.returns-else-is_err-clause-more
returns-else-is_err-clause-more c = entry_added c.args.e _ _ (not c.self.inside.is_whole) (ok_in c.put.result (sym c.is_err.ensures.value ∙ c.if-is_err.false) c.put.ensures.time)
