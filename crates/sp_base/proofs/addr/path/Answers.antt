use Rattle.std.proofs.Common.{ℕ, List, take, sym, subst}
use Rattle.std.proofs.lemmas.List.{take_rest}
use Rattle.sp_base.specs.Addresses.{SpellsPath}
use Rattle.sp_base.specs.Readers.{Gives}
use Rattle.sp_base.proofs.Forms.{path_gives, no_path_gives}
use Rattle.sp_base.proofs.addr.path.Goals as goal

pub returns-then-not-begins : goal.returns-then-not-begins
returns-then-not-begins c = no_path_gives c.args.text.now (λ h. let no_slash = c.begins.ensures.1 h in cc)

pub returns : goal.returns
returns c =
    let text : List ℕ = c.args.text.now in
    let n : ℕ = c.path_bytes-n.result in
    subst (λ rest. Gives SpellsPath text (take n text) rest) (sym (take_rest text n)) (path_gives text n (c.begins.ensures.0 c.if-not-begins.false) c.path_bytes-n.ensures)
