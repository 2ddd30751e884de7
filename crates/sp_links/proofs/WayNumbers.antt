-- Different ways have different numbers.
use Rattle.std.proofs.Common.{◌≡◌, ◌<◌, ◌++◌, ℕ, zero, suc, List, [], ◌∷◌, refl, sym, ap, ◌∙◌, arith}
use Rattle.sp_base.specs.declared.addr.Host.{Host}
use Rattle.sp_base.specs.declared.addr.Host.TheVariants as hosts
use Rattle.sp_base.specs.declared.addr.Addr.{Addr}
use Rattle.sp_base.specs.declared.addr.Addr.TheVariants as addrs
use Rattle.sp_base.specs.declared.framing.Framing.{Framing}
use Rattle.sp_base.specs.declared.framing.Framing.TheVariants as framings
use Rattle.sp_links.specs.declared.way.Way.{Way}
use Rattle.sp_links.specs.declared.way.Way.TheVariants as ways
use Rattle.sp_links.specs.Numbers.{pair_number, list_number, host_numbers, addr_numbers, framing_number, way_numbers, way_number}

-- ---- Pairs and lists

pair_one : (a b c d : ℕ) → pair_number a b ≡ pair_number c d → (a ≡ c) × (b ≡ d)
unfolding pair_number
pair_one zero b zero d e = (refl, omega (arith, e))
pair_one zero b (suc c) d e = absurd (omega (arith, e))
pair_one (suc a) b zero d e = absurd (omega (arith, e))
pair_one (suc a) b (suc c) d e =
    let r = pair_one a b c d (omega (arith, e)) in
    (ap suc r.0, r.1)

pair_above : (a b : ℕ) → 0 < pair_number a b
unfolding pair_number
pair_above zero b = omega arith
pair_above (suc a) b = let r = pair_above a b in omega (arith, r)

list_one : (xs ys : List ℕ) → list_number xs ≡ list_number ys → xs ≡ ys
unfolding list_number
list_one [] [] e = refl
list_one [] (y ∷ ys) e = absurd (omega (arith, e, pair_above y (list_number ys)))
list_one (x ∷ xs) [] e = absurd (omega (arith, e, pair_above x (list_number xs)))
list_one (x ∷ xs) (y ∷ ys) e =
    let r = pair_one x (list_number xs) y (list_number ys) e in
    ap (λ (v : ℕ). v ∷ xs) r.0 ∙ ap (λ (vs : List ℕ). y ∷ vs) (list_one xs ys r.1)

-- ---- Ways

heads_are : (a b : ℕ) (xs ys : List ℕ) → a ∷ xs ≡ b ∷ ys → a ≡ b
heads_are a b xs ys e = cc e

tails_are : (a b : ℕ) (xs ys : List ℕ) → a ∷ xs ≡ b ∷ ys → xs ≡ ys
tails_are a b xs ys e = cc e

host_one : (h k : Host) (p q : List ℕ) → host_numbers h ++ p ≡ host_numbers k ++ q → (h ≡ k) × (p ≡ q)
host_one (hosts.V4 a b c d) (hosts.V4 i j k l) p q e =
    let e1 = tails_are 1 1 _ _ e in
    let e2 = tails_are a i _ _ e1 in
    let e3 = tails_are b j _ _ e2 in
    let e4 = tails_are c k _ _ e3 in
    let ha : a ≡ i = heads_are a i _ _ e1 in
    let hb : b ≡ j = heads_are b j _ _ e2 in
    let hc : c ≡ k = heads_are c k _ _ e3 in
    let hd : d ≡ l = heads_are d l _ _ e4 in
    ((λ x. hosts.V4 (ha x) (hb x) (hc x) (hd x)), tails_are d l _ _ e4)
host_one (hosts.V4 a b c d) hosts.Any p q e = let h : 1 ≡ 0 = heads_are 1 0 _ _ e in absurd (omega (arith, h))
host_one hosts.Any (hosts.V4 i j k l) p q e = let h : 0 ≡ 1 = heads_are 0 1 _ _ e in absurd (omega (arith, h))
host_one hosts.Any hosts.Any p q e = (refl, tails_are 0 0 _ _ e)

append_none : (xs : List ℕ) → xs ++ [] ≡ xs
append_none [] = refl
append_none (x ∷ xs) = ap (λ (v : List ℕ). x ∷ v) (append_none xs)

addr_one : (a b : Addr) → addr_numbers a ≡ addr_numbers b → a ≡ b
addr_one (addrs.Tcp h n) (addrs.Tcp k m) e =
    let f = tails_are 0 0 _ _ e in
    let p : n ≡ m = heads_are n m _ _ f in
    let hk : h ≡ k = (host_one h k [] [] (append_none (host_numbers h) ∙ (tails_are n m _ _ f ∙ sym (append_none (host_numbers k))))).0 in
    λ x. addrs.Tcp (hk x) (p x)
addr_one (addrs.Tcp h n) (addrs.Inproc name) e = let z : 0 ≡ 1 = heads_are 0 1 _ _ e in absurd (omega (arith, z))
addr_one (addrs.Tcp h n) (addrs.Ws k m path) e = let z : 0 ≡ 2 = heads_are 0 2 _ _ e in absurd (omega (arith, z))
addr_one (addrs.Tcp h n) (addrs.Ipc path) e = let z : 0 ≡ 3 = heads_are 0 3 _ _ e in absurd (omega (arith, z))
addr_one (addrs.Inproc name) (addrs.Tcp k m) e = let z : 1 ≡ 0 = heads_are 1 0 _ _ e in absurd (omega (arith, z))
addr_one (addrs.Inproc name) (addrs.Inproc other) e = ap addrs.Inproc (tails_are 1 1 _ _ e)
addr_one (addrs.Inproc name) (addrs.Ws k m path) e = let z : 1 ≡ 2 = heads_are 1 2 _ _ e in absurd (omega (arith, z))
addr_one (addrs.Inproc name) (addrs.Ipc path) e = let z : 1 ≡ 3 = heads_are 1 3 _ _ e in absurd (omega (arith, z))
addr_one (addrs.Ws h n p) (addrs.Tcp k m) e = let z : 2 ≡ 0 = heads_are 2 0 _ _ e in absurd (omega (arith, z))
addr_one (addrs.Ws h n p) (addrs.Inproc name) e = let z : 2 ≡ 1 = heads_are 2 1 _ _ e in absurd (omega (arith, z))
addr_one (addrs.Ws h n p) (addrs.Ipc path) e = let z : 2 ≡ 3 = heads_are 2 3 _ _ e in absurd (omega (arith, z))
addr_one (addrs.Ipc path) (addrs.Tcp k m) e = let z : 3 ≡ 0 = heads_are 3 0 _ _ e in absurd (omega (arith, z))
addr_one (addrs.Ipc path) (addrs.Inproc name) e = let z : 3 ≡ 1 = heads_are 3 1 _ _ e in absurd (omega (arith, z))
addr_one (addrs.Ipc path) (addrs.Ws k m p) e = let z : 3 ≡ 2 = heads_are 3 2 _ _ e in absurd (omega (arith, z))
addr_one (addrs.Ipc path) (addrs.Ipc other) e = ap addrs.Ipc (tails_are 3 3 _ _ e)
addr_one (addrs.Ws h n p) (addrs.Ws k m q) e =
    let f = tails_are 2 2 _ _ e in
    let nm : n ≡ m = heads_are n m _ _ f in
    let r = host_one h k p q (tails_are n m _ _ f) in
    let hk : h ≡ k = r.0 in
    let pq : p ≡ q = r.1 in
    λ x. addrs.Ws (hk x) (nm x) (pq x)

framing_one : (f g : Framing) → framing_number f ≡ framing_number g → f ≡ g
framing_one framings.Tcp framings.Tcp e = refl
framing_one framings.Tcp framings.Ipc e = absurd (omega (arith, e))
framing_one framings.Ipc framings.Tcp e = absurd (omega (arith, e))
framing_one framings.Ipc framings.Ipc e = refl

ways_one : (v w : Way) → way_numbers v ≡ way_numbers w → v ≡ w
ways_one (ways.Greeting f) (ways.Greeting g) e = ap ways.Greeting (framing_one f g (heads_are (framing_number f) (framing_number g) [] [] (tails_are 0 0 _ _ e)))
ways_one (ways.Greeting f) (ways.Serves q) e = let z : 0 ≡ 1 = heads_are 0 1 _ _ e in absurd (omega (arith, z))
ways_one (ways.Greeting f) (ways.Asks b t) e = let z : 0 ≡ 2 = heads_are 0 2 _ _ e in absurd (omega (arith, z))
ways_one (ways.Serves p) (ways.Greeting f) e = let z : 1 ≡ 0 = heads_are 1 0 _ _ e in absurd (omega (arith, z))
ways_one (ways.Serves p) (ways.Serves q) e = ap ways.Serves (tails_are 1 1 _ _ e)
ways_one (ways.Serves p) (ways.Asks b t) e = let z : 1 ≡ 2 = heads_are 1 2 _ _ e in absurd (omega (arith, z))
ways_one (ways.Asks a s) (ways.Greeting f) e = let z : 2 ≡ 0 = heads_are 2 0 _ _ e in absurd (omega (arith, z))
ways_one (ways.Asks a s) (ways.Serves q) e = let z : 2 ≡ 1 = heads_are 2 1 _ _ e in absurd (omega (arith, z))
ways_one (ways.Asks a s) (ways.Asks b t) e =
    let f = tails_are 2 2 _ _ e in
    let st : s ≡ t = heads_are s t _ _ f in
    let ab : a ≡ b = addr_one a b (tails_are s t _ _ f) in
    λ x. ways.Asks (ab x) (st x)

pub one_way : (v w : Way) → way_number v ≡ way_number w → v ≡ w
unfolding way_number
one_way v w e = ways_one v w (list_one (way_numbers v) (way_numbers w) e)
