use Rattle.std.proofs.Common.{arith}
use Rattle.proto_shared.proofs.Copying.{went_out, found_full, went_down, others, calm}
use Rattle.proto_shared.proofs.flood_copies.copies.Goals as goal

pub returns : goal.returns
returns c = record { begun = λ z before op k d act deadline u. omega arith; went_out = went_out; found_full = found_full; went_down = went_down; others = others; calm = calm }
