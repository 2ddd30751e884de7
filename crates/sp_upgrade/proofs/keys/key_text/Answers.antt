use Rattle.std.proofs.Common.{refl}
use Rattle.sp_upgrade.specs.Keys.{base64}
use Rattle.sp_upgrade.proofs.Engines.{output_is_encoded}
use Rattle.sp_upgrade.proofs.keys.key_text.Goals as goal

pub returns : goal.returns
unfolding base64
returns c = output_is_encoded _ _ _ _ _ (rw c.requires refl) c.encode_slice.ensures.fits c.encode_slice.ensures.written
