use Rattle.std.proofs.Common.{length}
use Rattle.history_rows.proofs.text.+add_hex.Given as goal

abbrev pub decreases-add_hex : goal.decreases-add_hex
decreases-add_hex l = length l.hex.now
