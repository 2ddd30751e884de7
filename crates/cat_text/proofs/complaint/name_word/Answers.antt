use Rattle.std.proofs.Common.{◌≡◌, ◌++◌, ℕ, List, ap, ◌∙◌}
use Rattle.std.specs.Prelude.{Result, Ok, Err, OnOk, codes}
use Rattle.std.proofs.lemmas.List.{append_assoc}
use Rattle.cat_text.specs.Printing.{quoted, in_quotes}
use Rattle.cat_text.proofs.complaint.name_word.Goals as goal

on_ok : {X E : Type 0} (r : Result X E) (P Q : Type 0) → (P → Q) → OnOk r P → OnOk r Q
on_ok (Ok x) P Q f p = f p
on_ok (Err e) P Q f p = p

joins : (new half old lead bytes word : List ℕ) → half ≡ old ++ lead → bytes ≡ word → new ≡ half ++ in_quotes quoted bytes → new ≡ old ++ (lead ++ in_quotes quoted word)
joins new half old lead bytes word e f h = h ∙ ap (λ (t : List ℕ). t ++ in_quotes quoted bytes) e ∙ append_assoc old lead (in_quotes quoted bytes) ∙ ap (λ (t : List ℕ). old ++ (lead ++ in_quotes quoted t)) f

pub returns : goal.returns
returns c = on_ok c.print.result _ _ (joins c.print.new.out c.append.new.self c.args.out.now (codes "nngcat: see nngcat --help; can't go on with ") c.as_bytes.result.now c.args.word.now c.in_ok-append.ensures.ok c.as_bytes.ensures.value) c.print.ensures.ok
