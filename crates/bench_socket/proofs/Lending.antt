-- What lending passes, and taking them back, changes in what is lent.
use Rattle.std.proofs.Common.{◌≡◌, ap, sym, ◌∙◌, subst, arith, refl, List, [], ◌∷◌, ◌++◌, suc, ◌+◌, length}
use Rattle.aio_word.specs.Views.{Each}
use Rattle.sp_history.specs.declared.setting.Setting.{Setting}
use Rattle.sp_socket.specs.Passes.{SocketName, PassView, ListView, IsOf, new_list}
use Rattle.test_socket.proofs.SocketCallers.{each_prefix, each_more, list_less, list_more, list_made, list_whole}
use Rattle.bench_socket.specs.Lent.{AreLent}

one_more : (xs : List PassView) (x : PassView) → length (xs ++ x ∷ []) ≡ suc (length xs)
one_more [] x = refl
one_more (y ∷ xs) x = ap suc (one_more xs x)

longer : (xs ys : List PassView) (x : PassView) → ys ≡ xs ++ x ∷ [] → length ys ≡ suc (length xs)
longer xs ys x is = ap length is ∙ one_more xs x

-- no pass of a new list is lent
pub none_out : (s : SocketName) (l : ListView) (z : Setting) → l ≡ new_list s z → z.slots ≡ s.words.slots → z.callers ≡ s.words.callers → AreLent s l []
none_out s l z is slots callers =
    let made = list_made s l z is slots callers in
    record { list = made; own = tt; all = omega (arith, list_whole s l z is, made.callers) }

-- so the list holds all passes
pub all_in : (s : SocketName) (l : ListView) → AreLent s l [] → length l.items ≡ l.callers
all_in s l h = omega (arith, h.all, h.list.callers)

-- there was no pass in the list
pub still_none : (s : SocketName) (l m : ListView) (out : List PassView) → l.items ≡ [] → m.items ≡ [] → m.callers ≡ l.callers → m.lock ≡ l.lock → AreLent s l out → AreLent s m out
still_none s l m out old new callers lock h = record {
  list = record { lock = lock ∙ h.list.lock; callers = callers ∙ h.list.callers; own = subst (Each (IsOf s)) (old ∙ sym new) h.list.own };
  own = h.own;
  all = subst (λ (x : List PassView). length x + length out ≡ s.words.callers) (old ∙ sym new) h.all;
}

-- one more pass is lent
pub one_out : (s : SocketName) (l m : ListView) (out more : List PassView) (p : PassView) → l.items ≡ m.items ++ p ∷ [] → m.callers ≡ l.callers → m.lock ≡ l.lock → more ≡ out ++ p ∷ [] → AreLent s l out → AreLent s m more
one_out s l m out more p is callers lock is_more h =
    let r = list_less s l m p is callers lock h.list in
    let a : length l.items ≡ suc (length m.items) = longer m.items l.items p is in
    let b : length more ≡ suc (length out) = longer out more p is_more in
    record { list = r.0; own = subst (Each (IsOf s)) (sym is_more) (each_more (IsOf s) out p h.own r.1); all = omega (arith, a, b, h.all) }

-- the pass that is taken is a pass of the socket
pub own_out : (s : SocketName) (l m : ListView) (out : List PassView) (p : PassView) → l.items ≡ m.items ++ p ∷ [] → m.callers ≡ l.callers → m.lock ≡ l.lock → AreLent s l out → IsOf s p
own_out s l m out p is callers lock h = (list_less s l m p is callers lock h.list).1

-- one pass goes back
pub one_back : (s : SocketName) (l m : ListView) (out less : List PassView) (p : PassView) → out ≡ less ++ p ∷ [] → m.items ≡ l.items ++ p ∷ [] → m.callers ≡ l.callers → m.lock ≡ l.lock → AreLent s l out → AreLent s m less
one_back s l m out less p is_out is callers lock h =
    let r = each_prefix (IsOf s) less p (subst (Each (IsOf s)) is_out h.own) in
    let a : length m.items ≡ suc (length l.items) = longer l.items m.items p is in
    let b : length out ≡ suc (length less) = longer less out p is_out in
    record { list = list_more s l m p is callers lock r.1 h.list; own = r.0; all = omega (arith, a, b, h.all) }

-- the last lent pass is a pass of the socket
pub own_back : (s : SocketName) (l : ListView) (out less : List PassView) (p : PassView) → out ≡ less ++ p ∷ [] → AreLent s l out → IsOf s p
own_back s l out less p is h = (each_prefix (IsOf s) less p (subst (Each (IsOf s)) is h.own)).1

-- a pass that was taken goes back, whatever it has seen since
pub back_again : (s : SocketName) (l m n : ListView) (out : List PassView) (p q : PassView) → l.items ≡ m.items ++ p ∷ [] → m.callers ≡ l.callers → m.lock ≡ l.lock → n.items ≡ m.items ++ q ∷ [] → n.callers ≡ m.callers → n.lock ≡ m.lock → IsOf s q → AreLent s l out → AreLent s n out
back_again s l m n out p q taken callers lock given callers2 lock2 own h =
    let r = list_less s l m p taken callers lock h.list in
    let a : length l.items ≡ suc (length m.items) = longer m.items l.items p taken in
    let b : length n.items ≡ suc (length m.items) = longer m.items n.items q given in
    record { list = list_more s m n q given callers2 lock2 own r.0; own = h.own; all = omega (arith, a, b, h.all) }

-- as many passes are lent as before, each of the socket
pub still_out : (s : SocketName) (l : ListView) (out more : List PassView) → length more ≡ length out → Each (IsOf s) more → AreLent s l out → AreLent s l more
still_out s l out more count own h = record { list = h.list; own = own; all = omega (arith, count, h.all) }
