-- What a text shows, read from its front.
use Rattle.std.proofs.Common.{◌≡◌, ◌≤◌, ◌<◌, ◌+◌, ◌^◌, ◌++◌, ℕ, zero, suc, true, false, cond, List, [], ◌∷◌, length, take, drop, refl, sym, ap, subst, ◌∙◌, append-nil, append_assoc, arith, inl, inr}
use Rattle.std.specs.Int.{w64, to_be_bytes}
use Rattle.std.proofs.lemmas.Bool.{le-leb, leb-true, eq-eqb, eqb-true, and_from, and_parts, cond-true, cond-false, cases_lt, cases_Bool}
use Rattle.std.proofs.lemmas.List.{take_at, drop_at, length-append, take-append-drop, length-take, length-drop, get_or-drop, get_or-take, get_or_past, drop-drop}
use Rattle.std.proofs.lemmas.Nat.{be_bytes_8, from_be_bytes-to_be_bytes_8}
use Rattle.sp_base.specs.Outside.{IsPrefix}
use Rattle.sp_base.specs.SpTcp.{hello, frame, frames, text, Fit, IsBytes, size_of, begins, bodies_in, starts, greets, shows, IsLongest}

pub frames-append : (xs ys : List (List ℕ)) → frames (xs ++ ys) ≡ frames xs ++ frames ys
unfolding frames
frames-append [] ys = refl
frames-append (x ∷ xs) ys = ap (λ t. frame x ++ t) (frames-append xs ys) ∙ sym (append_assoc (frame x) (frames xs) (frames ys))

pub frames-cons : (x : List ℕ) (xs : List (List ℕ)) → frames (x ∷ xs) ≡ frame x ++ frames xs
unfolding frames
frames-cons x xs = refl

pub length-frame : (b : List ℕ) → length (frame b) ≡ 8 + length b
unfolding frame
length-frame b = omega arith

-- the size at the front of a frame
pub size-frame : (b rest : List ℕ) → length b < 2 ^ 64 → size_of (frame b ++ rest) ≡ length b
unfolding frame
size-frame b rest lt = from_be_bytes-to_be_bytes_8 (length b) lt

pub drop-frame : (b rest : List ℕ) → drop 8 (frame b ++ rest) ≡ b ++ rest
unfolding frame
drop-frame b rest = refl

pub begins-frame : (max : ℕ) (b rest : List ℕ) → max < 2 ^ 64 → length b ≤ max → begins max (frame b ++ rest) ≡ true
begins-frame max b rest lt fit =
    let size : size_of (frame b ++ rest) ≡ length b = size-frame b rest (omega arith) in
    let long : length (frame b ++ rest) ≡ 8 + length b + length rest = omega (arith, length-append (frame b) rest, length-frame b) in
    let a : 8 ≤ length (frame b ++ rest) = omega arith in
    let m : size_of (frame b ++ rest) ≤ max = omega (arith, size) in
    let w : 8 + size_of (frame b ++ rest) ≤ length (frame b ++ rest) = omega (arith, size) in
    and_from _ _ (le-leb _ _ a) (and_from _ _ (le-leb _ _ m) (le-leb _ _ w))

bodies_in-step : (max k : ℕ) (s : List ℕ) → begins max s ≡ true → bodies_in max (suc k) s ≡ take (size_of s) (drop 8 s) ∷ bodies_in max k (drop (8 + size_of s) s)
unfolding bodies_in
bodies_in-step max k s e = cond-true (begins max s) _ _ e

bodies_in-stop : (max k : ℕ) (s : List ℕ) → begins max s ≡ false → bodies_in max k s ≡ []
unfolding bodies_in
bodies_in-stop max zero s e = refl
bodies_in-stop max (suc k) s e = ap (λ t. cond t (take (size_of s) (drop 8 s) ∷ bodies_in max k (drop (8 + size_of s) s)) []) e

bodies_in-frame : (max k : ℕ) (b rest : List ℕ) → max < 2 ^ 64 → length b ≤ max → bodies_in max (suc k) (frame b ++ rest) ≡ b ∷ bodies_in max k rest
bodies_in-frame max k b rest lt fit =
    let size : size_of (frame b ++ rest) ≡ length b = size-frame b rest (omega arith) in
    let whole : take (size_of (frame b ++ rest)) (drop 8 (frame b ++ rest)) ≡ b = ap (λ n. take n (drop 8 (frame b ++ rest))) size ∙ ap (take (length b)) (drop-frame b rest) ∙ take_at b rest (length b) refl in
    let after : drop (8 + size_of (frame b ++ rest)) (frame b ++ rest) ≡ rest = ap (λ n. drop (8 + n) (frame b ++ rest)) size ∙ drop_at (frame b) rest (8 + length b) (length-frame b) in
    bodies_in-step max k (frame b ++ rest) (begins-frame max b rest lt fit)
    ∙ ap (λ t. t ∷ bodies_in max k (drop (8 + size_of (frame b ++ rest)) (frame b ++ rest))) whole
    ∙ ap (λ t. b ∷ bodies_in max k t) after

-- whole messages at the front are the first that are found, given a large enough bound
bodies_in-frames : (max k : ℕ) (bs : List (List ℕ)) (rest : List ℕ) → max < 2 ^ 64 → Fit max bs → length (frames bs) ≤ k → (left : ℕ) × (bodies_in max k (frames bs ++ rest) ≡ bs ++ bodies_in max left rest) × (length bs ≤ k)
unfolding frames
bodies_in-frames max k [] rest lt fit long = (k, refl, omega arith)
bodies_in-frames max zero (b ∷ bs) rest lt fit long = absurd (omega (arith, length-append (frame b) (frames bs), length-frame b))
bodies_in-frames max (suc k) (b ∷ bs) rest lt fit long =
    let more = bodies_in-frames max k bs rest lt fit.1 (omega (arith, length-append (frame b) (frames bs), length-frame b)) in
    let regroup : (frame b ++ frames bs) ++ rest ≡ frame b ++ (frames bs ++ rest) = append_assoc (frame b) (frames bs) rest in
    (more.0, ap (bodies_in max (suc k)) regroup ∙ bodies_in-frame max k b (frames bs ++ rest) lt fit.0 ∙ ap (λ t. b ∷ t) more.1, omega (arith, more.2))

pub starts-append : (prefix rest : List ℕ) → starts prefix (prefix ++ rest) ≡ true
starts-append [] rest = refl
starts-append (b ∷ prefix) rest = and_from _ _ (eq-eqb b b refl) (starts-append prefix rest)

pub starts-true : (prefix s : List ℕ) → starts prefix s ≡ true → IsPrefix prefix s
starts-true [] s e = (s, refl)
starts-true (b ∷ prefix) [] e = absurd cc
starts-true (b ∷ prefix) (x ∷ s) e =
    let parts = and_parts _ _ e in
    let more = starts-true prefix s parts.1 in
    let same : b ≡ x = eqb-true b x parts.0 in
    (more.0, ap (λ t. t ∷ s) (sym same) ∙ ap (λ t. b ∷ t) more.1)

-- **what is shown begins with the messages that were read from the front**
pub shows-prefix : (role max : ℕ) (bs : List (List ℕ)) (rest : List ℕ) → max < 2 ^ 64 → Fit max bs → IsPrefix bs (shows role max (text role bs ++ rest))
unfolding shows
shows-prefix role max bs rest lt fit =
    let s : List ℕ = text role bs ++ rest in
    let regroup : s ≡ hello role ++ (frames bs ++ rest) = append_assoc (hello role) (frames bs) rest in
    let is_so : greets role s ≡ true = subst (λ t. greets role t ≡ true) (sym regroup) (starts-append (hello role) (frames bs ++ rest)) in
    let found = bodies_in-frames max (length s) bs rest lt fit (omega (arith, length-append (text role bs) rest, length-append (hello role) (frames bs))) in
    (bodies_in max found.0 rest, cond-true (greets role s) _ [] is_so ∙ ap (λ t. bodies_in max (length s) t) (ap (drop 8) regroup) ∙ found.1)

-- ---- what is found is there

pub begins-parts : (max : ℕ) (s : List ℕ) → begins max s ≡ true → (8 ≤ length s) × (size_of s ≤ max) × (8 + size_of s ≤ length s)
begins-parts max s e =
    let p = and_parts _ _ e in
    let q = and_parts _ _ p.1 in
    (leb-true _ _ p.0, leb-true _ _ q.0, leb-true _ _ q.1)

-- a prefix that is not a whole message of an allowed size
pub begins-false : (max : ℕ) (s : List ℕ) → ((8 ≤ length s) × (size_of s ≤ max) × (8 + size_of s ≤ length s) → ⊥) → begins max s ≡ false
begins-false max s h = elim (cases_Bool (begins max s)) [
  | inl is_so ↦ absurd (h (begins-parts max s is_so))
  | inr not_so ↦ not_so
]

-- **messages that were read from the front, followed by none that is whole, are all that is shown**
pub shows-rest : (role max : ℕ) (bs : List (List ℕ)) (rest : List ℕ) → max < 2 ^ 64 → Fit max bs → begins max rest ≡ false → shows role max (text role bs ++ rest) ≡ bs
unfolding shows
shows-rest role max bs rest lt fit part =
    let s : List ℕ = text role bs ++ rest in
    let regroup : s ≡ hello role ++ (frames bs ++ rest) = append_assoc (hello role) (frames bs) rest in
    let is_so : greets role s ≡ true = subst (λ t. greets role t ≡ true) (sym regroup) (starts-append (hello role) (frames bs ++ rest)) in
    let found = bodies_in-frames max (length s) bs rest lt fit (omega (arith, length-append (text role bs) rest, length-append (hello role) (frames bs))) in
    cond-true (greets role s) _ [] is_so
    ∙ ap (λ t. bodies_in max (length s) t) (ap (drop 8) regroup)
    ∙ found.1
    ∙ ap (λ t. bs ++ t) (bodies_in-stop max found.0 rest part)
    ∙ append-nil bs

pub shows-text : (role max : ℕ) (bs : List (List ℕ)) → max < 2 ^ 64 → Fit max bs → shows role max (text role bs) ≡ bs
shows-text role max bs lt fit = ap (shows role max) (sym (append-nil (text role bs))) ∙ shows-rest role max bs [] lt fit refl

pub Fit-append : (max : ℕ) (xs ys : List (List ℕ)) → Fit max xs → Fit max ys → Fit max (xs ++ ys)
Fit-append max [] ys a b = b
Fit-append max (x ∷ xs) ys a b = (a.0, Fit-append max xs ys a.1 b)

pub IsBytes-drop : (n : ℕ) (s : List ℕ) → IsBytes s → IsBytes (drop n s)
IsBytes-drop n s h i = rw get_or-drop (h (n + i))

pub IsBytes-take : (n : ℕ) (s : List ℕ) → IsBytes s → IsBytes (take n s)
IsBytes-take n s h i =
    elim (cases_lt i n) [
      | inl lt ↦ rw (get_or-take n s i 0 lt) (h i)
      | inr le ↦ rw (get_or_past (take n s) i 0 (omega (arith, length-take n s))) (omega arith)
    ]

-- a whole message at the front is the frame of its body
pub frame-prefix : (s : List ℕ) → IsBytes s → 8 + size_of s ≤ length s → s ≡ frame (take (size_of s) (drop 8 s)) ++ drop (8 + size_of s) s
unfolding frame
frame-prefix s bytes long =
    let n : ℕ = size_of s in
    let body : List ℕ = take n (drop 8 s) in
    let size : length body ≡ n = omega (arith, length-take n (drop 8 s), length-drop 8 s) in
    let head : to_be_bytes w64 (length body) ≡ take 8 s = ap (to_be_bytes w64) size ∙ be_bytes_8 (take 8 s) n (omega (arith, length-take 8 s)) (IsBytes-take 8 s bytes) refl in
    let tail : drop 8 s ≡ body ++ drop (8 + n) s = sym (take-append-drop n (drop 8 s)) ∙ ap (λ t. body ++ t) (drop-drop n 8 s) in
    sym (take-append-drop 8 s) ∙ ap (λ t. take 8 s ++ t) tail ∙ ap (λ t. t ++ (body ++ drop (8 + n) s)) (sym head) ∙ sym (append_assoc (to_be_bytes w64 (length body)) body (drop (8 + n) s))

bodies_in-shown : (max k : ℕ) (s : List ℕ) → IsBytes s → Fit max (bodies_in max k s) × IsPrefix (frames (bodies_in max k s)) s
unfolding bodies_in frames
bodies_in-shown max zero s bytes = (tt, (s, refl))
bodies_in-shown max (suc k) s bytes = elim (cases_Bool (begins max s)) [
  | inl is_so ↦
      let p = begins-parts max s is_so in
      let body : List ℕ = take (size_of s) (drop 8 s) in
      let after : List ℕ = drop (8 + size_of s) s in
      let more = bodies_in-shown max k after (IsBytes-drop (8 + size_of s) s bytes) in
      let is : bodies_in max (suc k) s ≡ body ∷ bodies_in max k after = bodies_in-step max k s is_so in
      let size : length body ≤ max = omega (arith, length-take (size_of s) (drop 8 s), p.1) in
      let prefix : s ≡ frames (body ∷ bodies_in max k after) ++ more.1.0 = frame-prefix s bytes p.2 ∙ ap (λ t. frame body ++ t) more.1.1 ∙ sym (append_assoc (frame body) (frames (bodies_in max k after)) more.1.0) in
      let Both : List (List ℕ) → Type 0 = λ bs. Fit max bs × IsPrefix (frames bs) s in
      subst Both (sym is) ((size, more.0), (more.1.0, prefix))
  | inr not_so ↦
      let Both : List (List ℕ) → Type 0 = λ bs. Fit max bs × IsPrefix (frames bs) s in
      subst Both (sym (bodies_in-stop max (suc k) s not_so)) (tt, (s, refl))
]

shows-yes : (role max : ℕ) (s : List ℕ) → greets role s ≡ true → shows role max s ≡ bodies_in max (length s) (drop 8 s)
unfolding shows
shows-yes role max s e = cond-true (greets role s) _ [] e

shows-no : (role max : ℕ) (s : List ℕ) → greets role s ≡ false → shows role max s ≡ []
unfolding shows
shows-no role max s e = cond-false (greets role s) _ [] e

pub shows-longest : (role max : ℕ) (s : List ℕ) → max < 2 ^ 64 → IsBytes s → IsLongest role max s (shows role max s)
shows-longest role max s lt bytes =
    let longest : (others : List (List ℕ)) → Fit max others → IsPrefix (text role others) s → IsPrefix others (shows role max s) =
    (λ others fit prefix. subst (λ t. IsPrefix others (shows role max t)) (sym prefix.1) (shows-prefix role max others prefix.0 lt fit)) in
    elim (cases_Bool (greets role s)) [
      | inl is_so ↦
          let is = shows-yes role max s is_so in
          let prefix = starts-true (hello role) s is_so in
          let rest : drop 8 s ≡ prefix.0 = ap (drop 8) prefix.1 in
          let found = bodies_in-shown max (length s) (drop 8 s) (IsBytes-drop 8 s bytes) in
          let whole : s ≡ text role (bodies_in max (length s) (drop 8 s)) ++ found.1.0 =
          prefix.1 ∙ ap (λ t. hello role ++ t) (sym rest ∙ found.1.1) ∙ sym (append_assoc (hello role) (frames (bodies_in max (length s) (drop 8 s))) found.1.0) in
          record {
            fit = subst (Fit max) (sym is) found.0;
            shown = inl (subst (λ bs. IsPrefix (text role bs) s) (sym is) (found.1.0, whole));
            longest = longest;
          }
      | inr not_so ↦ record {
        fit = subst (Fit max) (sym (shows-no role max s not_so)) tt;
        shown = inr (shows-no role max s not_so);
        longest = longest;
      }
    ]

pub texts-apart : (role max : ℕ) (xs ys : List (List ℕ)) → max < 2 ^ 64 → Fit max xs → Fit max ys → text role xs ≡ text role ys → xs ≡ ys
texts-apart role max xs ys lt fit fit' e = sym (shows-text role max xs lt fit) ∙ ap (shows role max) e ∙ shows-text role max ys lt fit'

pub shows-grows : (role max : ℕ) (s more : List ℕ) → max < 2 ^ 64 → IsBytes s → IsPrefix (shows role max s) (shows role max (s ++ more))
shows-grows role max s more lt bytes =
    let longest = shows-longest role max s lt bytes in
    let bodies : List (List ℕ) = shows role max s in
    elim longest.shown [
      | inl prefix ↦
          let whole : s ++ more ≡ text role bodies ++ (prefix.0 ++ more) = ap (λ t. t ++ more) prefix.1 ∙ append_assoc (text role bodies) prefix.0 more in
          subst (λ t. IsPrefix bodies (shows role max t)) (sym whole) (shows-prefix role max bodies (prefix.0 ++ more) lt longest.fit)
      | inr none ↦ (shows role max (s ++ more), ap (λ bs. bs ++ shows role max (s ++ more)) (sym none))
    ]
