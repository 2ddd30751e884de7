-- The numbers of an opening over WebSocket that was dialed.
use Rattle.std.specs.Prelude.{ℕ, List, ◌++◌}
use Rattle.std.specs.Int.{w64, to_be_bytes}
use Rattle.sp_base.specs.Generator.{next_value}

-- the bytes of its key: the generator's next two values
unfoldable pub key_of : ℕ → List ℕ
key_of start = to_be_bytes w64 (next_value start) ++ to_be_bytes w64 (next_value (next_value start))

-- the seed of its masks: the value after those
unfoldable pub seed_of : ℕ → ℕ
seed_of start = next_value (next_value (next_value start))
