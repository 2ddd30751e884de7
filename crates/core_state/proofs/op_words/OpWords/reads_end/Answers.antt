use Rattle.std.proofs.Common.{◌≡◌, ◌∙◌, sym, true, false, Bool}
use Rattle.core_state.proofs.op_words.OpWords.reads_end.Goals as goal

not_known : (known result : Bool) → (known ≡ true → result ≡ true) → result ≡ false → known ≡ false
not_known true result h e = let q : true ≡ false = sym (h cc) ∙ e in absurd cc
not_known false result h e = cc

pub returns-clause-once : goal.returns-clause-once
returns-clause-once g c = λ t h e. c.read_end.ensures.once (sym (c.has_ended-known.ensures t h) ∙ e)

pub returns-clause-pending : goal.returns-clause-pending
returns-clause-pending g c = λ e t h. c.has_ended-known.ensures t h ∙ not_known c.has_ended-known.result c.read_end.result c.read_end.ensures.known e
