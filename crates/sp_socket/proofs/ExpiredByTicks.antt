-- Ticks cancel nothing.
use Rattle.std.proofs.Common.{◌≡◌, refl, ap, sym, ◌∙◌, subst, List, [], ◌∷◌, ◌++◌, ℕ}
use Rattle.sp_base.specs.declared.OpName.{OpName}
use Rattle.aio_word.specs.declared.results.Raced.{Raced}
use Rattle.aio_word.specs.declared.results.Raced.TheVariants as races
use Rattle.aio_word.specs.declared.phase.Phase.{Phase}
use Rattle.aio_word.specs.declared.phase.Phase.TheVariants as phase
use Rattle.aio_word.specs.declared.rule.ShownOperation as word
use Rattle.aio_word.specs.Results.{of_op}
use Rattle.sp_socket.specs.Due.{op_of}
use Rattle.sp_socket.specs.Expiring.{WinsAndReads, RacedAs, Tried, TriedAll}
use Rattle.sp_socket.specs.Singles.{with_cancelled, cancelled_in}
use Rattle.sp_socket.specs.declared.config.Ticked.{Ticked}

-- nothing more was cancelled
abbrev SameCancelled : WinsAndReads → WinsAndReads → Type 0
SameCancelled a b = cancelled_in b.0 ≡ cancelled_in a.0

one_more : (ws : List word.ShownOperation) (e : word.ShownOperation) → e.phase ≡ phase.Expired → cancelled_in (ws ++ e ∷ []) ≡ cancelled_in ws
one_more [] e x = ap (λ (p : Phase). with_cancelled p (op_of e) []) x
one_more (w ∷ ws) e x = ap (with_cancelled w.phase (op_of w)) (one_more ws e x)

after_one : (r : Raced) (k slots : ℕ) (op : OpName) (a b : WinsAndReads) → RacedAs phase.Expired r k slots op a b → SameCancelled a b
after_one races.Won k slots op a b t = ap cancelled_in t.0 ∙ one_more a.0 (of_op op phase.Expired k) refl
after_one (races.Ended p by) k slots op a b t = ap cancelled_in t.1
after_one races.Stale k slots op a b t = ap cancelled_in t.0

tried : (k slots : ℕ) (ops : List OpName) (rs : List Raced) (a c : WinsAndReads) → Tried k slots ops rs a c → SameCancelled a c
tried k slots [] (r ∷ rs) a c t = elim t [ ]
tried k slots (op ∷ ops) [] a c t = elim t [ ]
tried k slots [] [] a c t = ap (λ (h : WinsAndReads). cancelled_in h.0) t
tried k slots (op ∷ ops) (r ∷ rs) a c t = tried k slots ops rs t.0 c t.2 ∙ after_one r k slots op a t.0 t.1

pub none_cancelled : (k slots : ℕ) (names : List OpName) (result : Ticked) (a b : WinsAndReads) → TriedAll k slots names result a b → SameCancelled a b
none_cancelled k slots names result a b t = tried k slots names t.results a b t.tried
