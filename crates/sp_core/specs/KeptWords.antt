-- What a step within a turn keeps of the words: which they are, and what was read of them.
use Rattle.std.specs.Prelude.{◌≡◌}
use Rattle.sp_core.specs.Cores.{words_of}
use Rattle.sp_core.specs.Looking.{reads_of}
use Rattle.core_state.specs.Reads.{Grows}
use Rattle.sp_core.specs.declared.owner.Core.{Core}

-- it does this, and has the same words
pub record KeepsWords {P W : Type 0} (old new : Core P W) (fact : Type 0) : Type 0 where
  pub does : fact
  pub words : words_of new ≡ words_of old

-- it has read nothing more of them either
pub record KeepsReads {P W : Type 0} (old new : Core P W) (fact : Type 0) : Type 0 where
  pub does : fact
  pub words : words_of new ≡ words_of old
  pub reads : reads_of new ≡ reads_of old

-- it may have read more of them
pub record AddsReads {P W : Type 0} (old new : Core P W) (fact : Type 0) : Type 0 where
  pub does : fact
  pub words : words_of new ≡ words_of old
  pub reads : Grows (reads_of old) (reads_of new)
