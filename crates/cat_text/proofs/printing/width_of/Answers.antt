use Rattle.std.proofs.Common.{◌≡◌, ℕ, ◌<◌, map, get_or, refl, ap, ◌∙◌, arith}
use Rattle.std.proofs.lemmas.List.FromFn.{get_or-map-range_with_len}
use Rattle.std.specs.List.{range_with_len}
use Rattle.cat_text.specs.Placing.{letter, width}
use Rattle.cat_text.specs.declared.printing.TheConstants.{WIDTHS}
use Rattle.cat_text.proofs.printing.width_of.Goals as goal

width_at : ℕ → ℕ
width_at b = width (letter b)

table_is : WIDTHS ≡ map width_at (range_with_len 0 256)
unfolding width_at
table_is = refl

read : (b : ℕ) → b < 256 → get_or WIDTHS b 0 ≡ width (letter b)
unfolding width_at
read b h = ap (λ t. get_or t b 0) table_is ∙ get_or-map-range_with_len width_at 0 256 b b 0 h (omega arith)

pub returns : goal.returns
returns c = rw (c.from-2.ensures, c.from.ensures) (read c.args.byte (omega arith))
