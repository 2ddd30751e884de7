-- An address that is a word and a name, from the reading of its name.
use Rattle.std.proofs.Common.{◌≡◌, List, ℕ, ◌++◌}
use Rattle.std.specs.Prelude.{Result, Ok, Err}
use denote.Ref.{Bor}
use Rattle.sp_base.specs.Prefixes.{IsCutAtOne}
use Rattle.sp_base.specs.Addresses.{IsVisibleText}
use Rattle.sp_base.specs.Readers.{ReadsOne, IsNamed}
use Rattle.sp_base.proofs.Forms.{named_short, named_one}

pub name_read : (word : List ℕ) (limit : ℕ) (s rest : List ℕ) → IsCutAtOne (λ t. t ≡ word) s word rest → (r : Result (Bor (List ℕ)) (Bor (List ℕ))) → ReadsOne (IsVisibleText limit) rest r → ReadsOne (IsNamed word limit) s r
name_read word limit s rest h (Ok rest') h' = (word ++ h'.0, named_one word limit s rest h'.0 rest'.now h h'.1)
name_read word limit s rest h (Err rest') h' = named_short word limit s rest rest'.now h h'
