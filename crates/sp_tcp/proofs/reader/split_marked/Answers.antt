use Rattle.std.proofs.Common.{◌≡◌, ℕ, List, refl, sym, subst, ◌∙◌, true, false}
use Rattle.std.specs.Bool.{IsTrue}
use Rattle.std.proofs.lemmas.List.{take_rest}
use Rattle.sp_tcp.specs.Readings.{PrefixIs}
use Rattle.sp_tcp.proofs.MarkSplits.{split_short, split_wrong, split_behind}
use Rattle.sp_tcp.proofs.reader.split_marked.Goals as goal

pub returns-then-count-mark : goal.returns-then-count-mark
returns-then-count-mark c =
    split_short c.args.mark.now c.args.s.now c.min-count.result c.args.max c.min-count.ensures (c.is_same.ensures.0 (subst IsTrue (sym c.if-not-is_same.false) refl)) c.if-count-mark.true

pub returns-then-not-is_same : goal.returns-then-not-is_same
returns-then-not-is_same c =
    split_wrong c.args.mark.now c.args.s.now c.min-count.result c.args.max c.min-count.ensures (λ e. let no : false ≡ true = sym c.if-not-is_same.true ∙ c.is_same.ensures.1 e in cc)

pub returns : goal.returns
returns c =
    split_behind c.args.mark.now c.args.s.now c.min-count.result c.args.max c.min-count.ensures c.split_prefix.result (c.is_same.ensures.0 (subst IsTrue (sym c.if-not-is_same.false) refl)) c.if-count-mark.false (subst (λ (x : List ℕ). PrefixIs c.args.max x c.split_prefix.result) (take_rest c.args.s.now c.min-count.result) c.split_prefix.ensures)
