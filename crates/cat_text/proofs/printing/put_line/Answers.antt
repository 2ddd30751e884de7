use Rattle.std.proofs.Common.{◌≡◌, ℕ, List, [], ◌∷◌, ◌++◌, map, refl}
use Rattle.sp_base.specs.Print.{ascii, visible}
use Rattle.cat_text.proofs.Placing.{more_as}
use Rattle.cat_text.proofs.printing.put_line.Goals as goal

ascii_is : (body : List ℕ) → ascii body ≡ map visible body ++ 10 ∷ []
unfolding ascii
ascii_is body = refl

pub returns : goal.returns
returns c = more_as _ _ _ _ _ _ _ _ _ (ascii_is c.args.body.now) c.put_visible-end.ensures.puts c.put.ensures.puts
