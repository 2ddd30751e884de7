use Rattle.std.proofs.Common.{◌≡◌, ℕ, ◌<◌, map, get_or, refl, ap, ◌∙◌, arith}
use Rattle.std.proofs.lemmas.List.FromFn.{get_or-map-range_with_len}
use Rattle.std.specs.List.{range_with_len}
use Rattle.cat_text.specs.Placing.{letter}
use Rattle.cat_text.specs.declared.printing.TheConstants.{LETTERS}
use Rattle.cat_text.proofs.printing.letter_of.Goals as goal

table_is : LETTERS ≡ map letter (range_with_len 0 256)
table_is = refl

read : (b : ℕ) → b < 256 → get_or LETTERS b 0 ≡ letter b
read b h = ap (λ t. get_or t b 0) table_is ∙ get_or-map-range_with_len letter 0 256 b b 0 h (omega arith)

pub returns : goal.returns
returns c = rw c.from.ensures (read c.args.byte (omega arith))
