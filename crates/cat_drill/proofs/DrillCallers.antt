-- What a call leaves of a caller.
use Rattle.std.proofs.Common.{◌≡◌, ◌≢◌, refl, ap, sym, ◌∙◌, subst, List, [], ◌∷◌, ◌++◌}
use Rattle.std.proofs.lemmas.List.{append_assoc, append-nil}
use Rattle.turn_lock.specs.declared.turn.Turn.{Turn}
use Rattle.sp_base.specs.declared.OpName.{OpName}
use Rattle.sp_history.specs.declared.entry.Entry.{Entry}
use Rattle.sp_history.specs.declared.setting.Setting.{Setting}
use Rattle.core_state.specs.declared.outcome.Outcome.{Outcome}
use Rattle.sp_socket.specs.Passes.{SocketName, PassView, IsOf, IsSamePass}
use Rattle.sp_socket.specs.Open.{IsOpenFor, OpensFor, AreOpenFor, KeepsOpen, KeepsPass}
use Rattle.sp_socket.specs.Turns.{TookTurn}
use Rattle.sp_socket.specs.Waiting.{WaitedFor}
use Rattle.sp_socket.proofs.Held.{all_keep, all_more, last_open, others_keep}
use Rattle.sp_socket.proofs.Waits.{same_twice}
use Rattle.cat_play.specs.Drilling.{drill_setting}
use Rattle.cat_drill.specs.Calling.{IsDrillPass, Calls, Later, Worked, Collects}

pub still_own : (s : SocketName) (p q : PassView) → IsSamePass p q → IsDrillPass s p → IsDrillPass s q
still_own s p q same own = (same.1 ∙ own.0, same.2 ∙ own.1, own.2, own.3)

pub is_of : (s : SocketName) (p : PassView) → IsDrillPass s p → IsOf s p
is_of s p own = (own.0, (drill_setting, own.1, sym own.2, sym own.3))

pub stays : (s : SocketName) (p q : PassView) (ops : List OpName) → KeepsPass p q → Calls s p ops → Calls s q ops
stays s p q ops k c = record { own = still_own s p q k.same c.own; open_ = all_keep p q ops k.open_ c.open_ }

pub begins : (s : SocketName) (p q : PassView) (ops : List OpName) (op : OpName) → KeepsPass p q → OpensFor p q op → Calls s p ops → Calls s q (ops ++ op ∷ [])
begins s p q ops op k new c = record { own = still_own s p q k.same c.own; open_ = all_more p q ops op k.open_ new c.open_ }

pub works : (s : SocketName) (p q : PassView) (ops : List OpName) → Worked p q → Calls s p ops → Calls s q ops
works s p q ops w c = record { own = still_own s p q w.same c.own; open_ = all_keep p q ops w.open_ c.open_ }

pub last : (s : SocketName) (p : PassView) (ops less : List OpName) (op : OpName) → ops ≡ less ++ op ∷ [] → Calls s p ops → IsOpenFor p op
last s p ops less op is c = last_open p less op (subst (AreOpenFor p) is c.open_)

pub collects : (s : SocketName) (p q : PassView) (ops less : List OpName) (op : OpName) → ops ≡ less ++ op ∷ [] → Collects op p q → Calls s p ops → Calls s q less
collects s p q ops less op is k c = record { own = still_own s p q k.same c.own; open_ = others_keep p q less op k.others (subst (AreOpenFor p) is c.open_) }

pub later_twice : (p q r : PassView) → Later p q → Later q r → Later p r
later_twice p q r a b = (a.0 ++ b.0, b.1 ∙ ap (λ (h : List (Turn Entry)). h ++ b.0) a.1 ∙ append_assoc p.seen a.0 b.0)

pub no_later : (p : PassView) → Later p p
no_later p = ([], sym (append-nil p.seen))

pub turn_later : (says : Setting → List (Turn Entry) → Turn Entry → Type 0) (p q : PassView) → TookTurn says p q → Later p q
turn_later says p q t = (t.others.0 ++ t.turn ∷ [], t.seen ∙ ap (λ (h : List (Turn Entry)). h ++ t.turn ∷ []) t.others.1 ∙ append_assoc p.seen t.others.0 (t.turn ∷ []))

pub wait_later : (outcome : Outcome) (op : OpName) (p q : PassView) → WaitedFor outcome op p q → Later p q
wait_later outcome op p q w = later_twice p w.last q (w.waits.between, w.waits.seen) (turn_later _ w.last q w.turn)

pub worked_twice : (p q r : PassView) → Worked p q → Worked q r → Worked p r
worked_twice p q r a b = record { same = same_twice p q r a.same b.same; open_ = λ op o. b.open_ op (a.open_ op o); later = later_twice p q r a.later b.later }

pub not_worked : (p : PassView) → Worked p p
not_worked p = record { same = (refl, refl, refl); open_ = λ op o. o; later = no_later p }

-- one that had not ended was cancelled and waited for
pub collects_late : (op o : OpName) (p q r t : PassView) → o ≡ op → IsSamePass p q → KeepsOpen p q → Later p q → Worked q r → IsSamePass r t → ((other : OpName) → o ≢ other → IsOpenFor r other → IsOpenFor t other) → Later r t → Collects op p t
collects_late op o p q r t is same keep later w same2 others later2 =
    record {
      same = same_twice p r t (same_twice p q r same w.same) same2;
      others = λ other apart x. others other (λ e. apart (sym is ∙ e)) (w.open_ other (keep other x));
      later = later_twice p r t (later_twice p q r later w.later) later2;
    }
