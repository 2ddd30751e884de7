-- When a round reports that something still moves.
use Rattle.std.proofs.Common.{◌≡◌, ◌≤◌, ◌+◌, ◌∷◌, inl, inr, ℕ, Bool, true, false, List, [], length, Option, Some, None, refl, sym, ap, subst, ◌∙◌, arith}
use Rattle.std.proofs.lemmas.List.{length-append}
use Rattle.turn_lock.specs.declared.turn.Turn.{Turn}
use Rattle.sp_base.specs.declared.OpName.{OpName}
use Rattle.sp_history.specs.declared.entry.Entry.{Entry}
use Rattle.sp_history.specs.declared.setting.Setting.{Setting}
use Rattle.sp_history.specs.Past.{past_of}
use Rattle.sp_history.specs.Swept.{IsSwept}
use Rattle.sp_history.proofs.Appending.{past_of-append}
use Rattle.core_state.specs.declared.served.Served.{Served}
use Rattle.sp_socket.specs.Singles.{SingleView, TookOne, Ticks}
use Rattle.sp_ends.specs.SocketSteps.{Quietly}
use Rattle.cat_play.specs.Scripts.{under_way}
use Rattle.sp_ends.specs.Entries.{AddsNone, moves_ends, moves_calls}
use Rattle.cat_play.proofs.Stepping.{under_way_stays}
use Rattle.cat_rounds.specs.declared.player.PlayEnd.TheVariants as overs
use Rattle.cat_rounds.specs.declared.player.Player.{Player}
use Rattle.cat_rounds.specs.declared.rounds.Going.TheVariants as goings
use Rattle.cat_rounds.specs.declared.rounds.Round.{Round}
use Rattle.cat_rounds.specs.declared.rounds.Round.TheVariants as rounds
use Rattle.cat_rounds.specs.Lasting.{IsUnderWay}
use Rattle.cat_rounds.specs.PlayerSteps.{Stands, GoesOnBy, IsKept}
use Rattle.cat_rounds.specs.Resting.{BeginsNothing, IsAtRest, MovesStill, RoundMoves}
use Rattle.sp_core.specs.CallSays.{ServesPipes}
use Rattle.cat_rounds.proofs.Rounding.{serving_silent}

-- ---- At rest

hand_is : (o : Option OpName) (h : List (Turn Entry)) → IsUnderWay o h → under_way (past_of h) ≡ o
hand_is None h u = u
hand_is (Some op) h u = u.0

kept_is : (a b c d : Option OpName) → c ≡ a → d ≡ b → IsKept a b → IsKept c d
kept_is a b c d e f (inl none) = inl (f ∙ none)
kept_is a b c d e f (inr same) = inr (f ∙ same ∙ sym e)

-- what is under way in the hand is under way in the history
pub kept_on : (o : Option OpName) (s s' : SingleView) (p p' : Player) (t : ℕ) → Stands s p t → Stands s' p' t → under_way (past_of s.seen) ≡ o → IsKept p.op p'.op → IsKept o (under_way (past_of s'.seen))
kept_on o s s' p p' t was now_ same kept = kept_is p.op p'.op o (under_way (past_of s'.seen)) (sym same ∙ hand_is p.op s.seen was.play.hand) (hand_is p'.op s'.seen now_.play.hand) kept

pub rests_is : (a b : Bool) → goings.Rests a ≡ goings.Rests b → a ≡ b
rests_is a b e = cc

-- a turn that serves the pipes leaves what is under way
under_way_served : (r : Served) (s s' : SingleView) → TookOne (ServesPipes r) s s' → under_way (past_of s'.seen) ≡ under_way (past_of s.seen)
under_way_served r s s' took = ap (λ (h : List (Turn Entry)). under_way (past_of h)) took.seen ∙ (ap under_way (past_of-append s.seen took.turn) ∙ under_way_stays took.turn.entries (past_of s.seen) (serving_silent took.turn.entries took.said.2.kinds))

-- after a serve in which nothing moved, and steps that began nothing
pub at_rest : (r : Served) (s s' s'' : SingleView) → TookOne (ServesPipes r) s s' → r.moved ≡ false → GoesOnBy s' s'' → BeginsNothing s' s'' → IsAtRest s''
at_rest r s s' s'' took still on kept =
    record {
      before = s.seen;
      turn = took.turn;
      since = subst (λ (h : List (Turn Entry)). AddsNone moves_ends h s''.seen) took.seen on.links;
      swept = subst (λ (z : Setting). IsSwept z (past_of s.seen) took.turn) (sym (on.setting ∙ took.setting)) took.said.0;
      still = sym took.said.3.2 ∙ still;
      none_begun = subst (λ (o : Option OpName). IsKept o (under_way (past_of s''.seen))) (under_way_served r s s' took) kept;
    }

-- ---- Further turns

pub longer : (moves : Entry → Bool) (h h' : List (Turn Entry)) → AddsNone moves h h' → length h ≤ length h'
longer moves h h' (turns, is, none) = let n = ap length is ∙ length-append h turns in omega (arith, n)

took_more : (says : Setting → List (Turn Entry) → Turn Entry → Type 0) (s s' : SingleView) → TookOne says s s' → length s'.seen ≡ length s.seen + 1
took_more says s s' took = ap length took.seen ∙ length-append s.seen (took.turn ∷ [])

pub swept_more : (r : Served) (s s' s'' : SingleView) → TookOne (ServesPipes r) s s' → GoesOnBy s' s'' → length s.seen + 1 ≤ length s''.seen
swept_more r s s' s'' took on =
    let one = took_more (ServesPipes r) s s' took in
    let more = longer moves_ends s'.seen s''.seen on.links in
    omega (arith, one, more)

pub before_play : (t : ℕ) (s s' s'' : SingleView) → TookOne (λ z h u. Ticks h u t) s s' → Quietly s' s'' → length s.seen ≤ length s''.seen
before_play t s s' s'' took quietly =
    let one = took_more (λ z h u. Ticks h u t) s s' took in
    let more = longer moves_calls s'.seen s''.seen quietly.silent in
    omega (arith, one, more)

-- ---- Rounds

pub round_moves : (m : Bool) (p : Player) (s s' s'' : SingleView) → length s.seen ≤ length s'.seen → MovesStill (goings.Rests m) s' s'' → RoundMoves (rounds.Goes m) p s s''
round_moves false p s s' s'' more w = λ open_. w
round_moves true p s s' s'' more w = omega (arith, more, w)

pub drained_moves : (r : Round) (p : Player) (s s' : SingleView) → (r ≡ rounds.Goes true → ⊥) → (p.over ≡ overs.Open → ⊥) → RoundMoves r p s s'
drained_moves (rounds.Goes false) p s s' rests over = λ open_. absurd (over open_)
drained_moves (rounds.Goes true) p s s' rests over = absurd (rests refl)
drained_moves (rounds.Ends why) p s s' rests over = tt
