-- A core with a single caller, after one more turn.
use Rattle.std.proofs.Common.{◌≡◌, sym, subst, List, [], ◌∷◌, ◌++◌, ℕ, ◌≤◌}
use Rattle.turn_lock.specs.declared.turn.Turn.{Turn}
use Rattle.aio_word.specs.Sight.{Named}
use Rattle.sp_msg.specs.Views.{WireView}
use Rattle.sp_history.specs.declared.entry.Entry.{Entry}
use Rattle.sp_history.specs.Moments.{Moment}
use Rattle.sp_core.specs.declared.owner.Core.{Core}
use Rattle.sp_core.specs.Standing.{StandsFor}
use Rattle.bench_socket.specs.Alone.{IsAlone}

pub stays : {P W : Type 0} (ties : P → Moment → Type 0) (room : P → ℕ) (shown : W → WireView) (c d : Core P W) (p : IsAlone ties room shown c) (t : Turn Entry) → StandsFor ties room shown d (p.history ++ t ∷ []) → d.op_words.words ≡ c.op_words.words → IsAlone ties room shown d
stays ties room shown c d p t st same = record { history = p.history ++ t ∷ []; stands = st; has_caller = subst (λ (w : Named). 1 ≤ w.callers) (sym same) p.has_caller }
