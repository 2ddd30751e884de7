use Rattle.std.proofs.Common.{sym, subst, arith, List, [], ◌∷◌, ℕ, suc, zero, ◌-◌, length, take, set, swap_remove}
use Rattle.aio_word.specs.Views.{Each}
use Rattle.test_socket.specs.declared.callers.Caller.{Caller}
use Rattle.test_socket.specs.Calls.{Calls}
use Rattle.test_socket.proofs.ByPlace.{at_place}
use Rattle.test_socket.proofs.plays.Play.gives_back.Goals as goal

each_take : {A : Type 0} (P : A → Type 0) (n : ℕ) (xs : List A) → Each P xs → Each P (take n xs)
each_take P zero xs e = tt
each_take P (suc n) [] e = tt
each_take P (suc n) (x ∷ xs) e = (e.0, each_take P n xs e.1)

each_set : {A : Type 0} (P : A → Type 0) (xs : List A) (i : ℕ) (y : A) → Each P xs → P y → Each P (set xs i y)
each_set P [] i y e p = tt
each_set P (x ∷ xs) zero y e p = (p, e.1)
each_set P (x ∷ xs) (suc i) y e p = (e.0, each_set P xs i y e.1 p)

each_left : {A : Type 0} (P : A → Type 0) (xs : List A) (i : ℕ) (d : A) → Each P xs → Each P (swap_remove xs i d)
each_left P [] i d e = tt
each_left P (x ∷ xs) i d e = each_take P (length (x ∷ xs) - 1) _ (each_set P (x ∷ xs) i _ e (at_place P (x ∷ xs) e (length (x ∷ xs) - 1) d (omega arith)))

pub invariant_of-self : goal.invariant_of-self
invariant_of-self g c =
    let P = (λ (x : Caller g.row.P.Denot g.row.W.Denot). Calls c.self.inside.socket x.pass x.ops.items) in
    (c.gives_back.ensures, subst (Each P) (sym c.swap_remove-caller.ensures.items) (each_left P c.self.inside.callers.items c.args.at c.swap_remove-caller.result c.self.invariant.1))
