use Rattle.std.proofs.Common.{◌≡◌, ℕ, ◌++◌, ap, ◌∙◌}
use Rattle.std.specs.Int.{w64, to_be_bytes}
use Rattle.sp_base.specs.Generator.{next_value}
use Rattle.sp_links.specs.Keys.{key_of}
use Rattle.sp_links.proofs.Cells.{sixteen}
use Rattle.sp_links.proofs.way.key_of.Goals as goal

key_is : (start first next : ℕ) → first ≡ next_value start → next ≡ next_value first → to_be_bytes w64 first ++ to_be_bytes w64 next ≡ key_of start
unfolding key_of
key_is start first next e f = ap (λ (v : ℕ). to_be_bytes w64 first ++ to_be_bytes w64 v) f ∙ ap (λ (v : ℕ). to_be_bytes w64 v ++ to_be_bytes w64 (next_value v)) e

pub returns : goal.returns
returns c = sixteen c.next_value-first.result c.next_value.result c.to_be_bytes.result c.to_be_bytes-2.result c.to_be_bytes.ensures c.to_be_bytes-2.ensures ∙ key_is c.args.start c.next_value-first.result c.next_value.result c.next_value-first.ensures c.next_value.ensures
