-- Words move from the head of a body.
use Rattle.std.proofs.Common.{◌≡◌, refl, ap, sym, ◌∙◌, List, [], ◌∷◌, ◌++◌, ℕ, zero, suc, true, false, cond, arith, length, take, drop, get_or, ◌<◌, ◌≤◌, ◌-◌}
use Rattle.std.specs.Prelude.{nat_le}
use Rattle.std.proofs.lemmas.Bool.Decides.{nat_tests}
use Rattle.sp_msg.specs.Views.{MessageView}
use Rattle.std.specs.Prelude.{Result, Ok, Err, OnOk}
use Rattle.proto_requests.specs.Trails.{Moves, bytes_of}
use Rattle.sp_history.specs.Lists.{word}
use Rattle.sp_history.specs.Backtrace.{back, behind}
use Rattle.sp_history.specs.declared.parts.Back.{Back}
use Rattle.sp_history.specs.declared.parts.Back.TheVariants.{Found, TooFar, Short}

nil_right : (xs : List ℕ) → xs ++ [] ≡ xs
nil_right [] = refl
nil_right (x ∷ xs) = ap (λ rest. x ∷ rest) (nil_right xs)

assoc : (xs ys zs : List ℕ) → xs ++ ys ++ zs ≡ xs ++ (ys ++ zs)
assoc [] ys zs = refl
assoc (x ∷ xs) ys zs = ap (λ rest. x ∷ rest) (assoc xs ys zs)

pub bytes_more : (ws : List ℕ) (w : ℕ) → bytes_of (ws ++ w ∷ []) ≡ bytes_of ws ++ word w
bytes_more [] w = nil_right (word w)
bytes_more (v ∷ ws) w = ap (λ rest. word v ++ rest) (bytes_more ws w) ∙ sym (assoc (word v) (bytes_of ws) (word w))

high : (a : ℕ) → 128 ≤ a → nat_le 128 a ≡ true
high a h = grind (arith, nat_tests)

low : (a : ℕ) → a < 128 → nat_le 128 a ≡ false
low a h = grind (arith, nat_tests)

pub last : (hops : ℕ) (b x words rest : List ℕ) → 0 < hops → 4 ≤ length b → 128 ≤ get_or b 0 0 → take 4 b ≡ x → back hops b ≡ Found words rest → (drop 4 b ≡ rest) × (words ≡ x)
last zero b x words rest h k t e f = absurd (omega arith)
last (suc hops) [] x words rest h k t e f = absurd cc
last (suc hops) (b1 ∷ []) x words rest h k t e f = absurd cc
last (suc hops) (b1 ∷ b2 ∷ []) x words rest h k t e f = absurd cc
last (suc hops) (b1 ∷ b2 ∷ b3 ∷ []) x words rest h k t e f = absurd cc
last (suc hops) (b1 ∷ b2 ∷ b3 ∷ b4 ∷ r) x words rest h k t e f =
    let g : Found (b1 ∷ b2 ∷ b3 ∷ b4 ∷ []) r ≡ Found words rest = sym (ap (λ a. cond a (Found (b1 ∷ b2 ∷ b3 ∷ b4 ∷ []) r) (behind (b1 ∷ b2 ∷ b3 ∷ b4 ∷ []) (back hops r))) (high b1 t)) ∙ f in
    (rest_is g, sym (words_is g) ∙ e)
  where
    rest_is : Found (b1 ∷ b2 ∷ b3 ∷ b4 ∷ []) r ≡ Found words rest → r ≡ rest
    rest_is q = cc

    words_is : Found (b1 ∷ b2 ∷ b3 ∷ b4 ∷ []) r ≡ Found words rest → b1 ∷ b2 ∷ b3 ∷ b4 ∷ [] ≡ words
    words_is q = cc

unbehind : (w words rest : List ℕ) (b : Back) → behind w b ≡ Found words rest → (ws : List ℕ) × (b ≡ Found ws rest) × (words ≡ w ++ ws)
unbehind w words rest (Found ws r) h = (ws, ap (λ (q : List ℕ). Found ws q) (rest_is h), sym (words_is h))
  where
    rest_is : Found (w ++ ws) r ≡ Found words rest → r ≡ rest
    rest_is q = cc

    words_is : Found (w ++ ws) r ≡ Found words rest → w ++ ws ≡ words
    words_is q = cc
unbehind w words rest TooFar h = absurd cc
unbehind w words rest Short h = absurd cc

pub more : (hops : ℕ) (b x words rest : List ℕ) → 0 < hops → 4 ≤ length b → get_or b 0 0 < 128 → take 4 b ≡ x → back hops b ≡ Found words rest → (ws : List ℕ) × (back (hops - 1) (drop 4 b) ≡ Found ws rest) × (words ≡ x ++ ws)
more zero b x words rest h k t e f = absurd (omega arith)
more (suc hops) [] x words rest h k t e f = absurd cc
more (suc hops) (b1 ∷ []) x words rest h k t e f = absurd cc
more (suc hops) (b1 ∷ b2 ∷ []) x words rest h k t e f = absurd cc
more (suc hops) (b1 ∷ b2 ∷ b3 ∷ []) x words rest h k t e f = absurd cc
more (suc hops) (b1 ∷ b2 ∷ b3 ∷ b4 ∷ r) x words rest h k t e f =
    let g : behind (b1 ∷ b2 ∷ b3 ∷ b4 ∷ []) (back hops r) ≡ Found words rest = sym (ap (λ a. cond a (Found (b1 ∷ b2 ∷ b3 ∷ b4 ∷ []) r) (behind (b1 ∷ b2 ∷ b3 ∷ b4 ∷ []) (back hops r))) (low b1 t)) ∙ f in
    let u = unbehind (b1 ∷ b2 ∷ b3 ∷ b4 ∷ []) words rest (back hops r) g in
    (u.0, ap (λ n. back n r) (one_less hops) ∙ u.1, u.2 ∙ ap (λ (q : List ℕ). q ++ u.0) e)
  where
    one_less : (n : ℕ) → suc n - 1 ≡ n
    one_less n = omega arith

pub not_short : (b : List ℕ) (hops : ℕ) (words rest : List ℕ) → length b < 4 → back hops b ≡ Found words rest → ⊥
not_short b zero words rest h e = absurd cc
not_short [] (suc hops) words rest h e = absurd cc
not_short (b1 ∷ []) (suc hops) words rest h e = absurd cc
not_short (b1 ∷ b2 ∷ []) (suc hops) words rest h e = absurd cc
not_short (b1 ∷ b2 ∷ b3 ∷ []) (suc hops) words rest h e = absurd cc
not_short (b1 ∷ b2 ∷ b3 ∷ b4 ∷ r) (suc hops) words rest h e = absurd (omega (arith, h))

-- one word moved, the last one
pub moved_last : (hops w : ℕ) (old new : MessageView) (x : List ℕ) (ws vs : List ℕ) → 0 < hops → x ≡ old.body → 128 ≤ get_or x 0 0 → (take 4 old.body ≡ word w) × (4 ≤ length old.body) × (new ≡ record old { body = drop 4 old.body }) → vs ≡ ws ++ w ∷ [] → Moves hops old new ws vs
moved_last hops w old new x ws vs h e t k v words rest f =
    let l = last hops old.body (word w) words rest h k.1 (rw (← e) t) k.0 f in
    (k.2 ∙ ap (λ (b : List ℕ). record old { body = b }) l.0, ap bytes_of v ∙ bytes_more ws w ∙ ap (λ (q : List ℕ). bytes_of ws ++ q) (sym l.1))

-- one word moved, and then the others
pub moved_more : (hops w : ℕ) (old mid new : MessageView) (x : List ℕ) (ws us vs : List ℕ) → 0 < hops → x ≡ old.body → get_or x 0 0 < 128 → (take 4 old.body ≡ word w) × (4 ≤ length old.body) × (mid ≡ record old { body = drop 4 old.body }) → us ≡ ws ++ w ∷ []
    → Moves (hops - 1) mid new us vs → Moves hops old new ws vs
moved_more hops w old mid new x ws us vs h e t k v n words rest f =
    let l = more hops old.body (word w) words rest h k.1 (rw (← e) t) k.0 f in
    let b : back (hops - 1) mid.body ≡ Found l.0 rest = ap (λ (q : MessageView). back (hops - 1) q.body) k.2 ∙ l.1 in
    let m = n l.0 rest b in (
      m.0 ∙ ap (λ (q : MessageView). record q { body = rest }) k.2,
      m.1 ∙ ap (λ (q : List ℕ). bytes_of q ++ l.0) v ∙ ap (λ (q : List ℕ). q ++ l.0) (bytes_more ws w) ∙ assoc (bytes_of ws) (word w) l.0 ∙ ap (λ (q : List ℕ). bytes_of ws ++ q) (sym l.2),
    )

pub on_ok : {A E : Type 0} {P Q : Type 0} (r : Result A E) → (P → Q) → OnOk r P → OnOk r Q
on_ok (Ok x) f h = f h
on_ok (Err e) f h = tt
