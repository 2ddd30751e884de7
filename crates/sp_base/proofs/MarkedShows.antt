-- What a text with marks shows, read from its front.
use Rattle.std.proofs.Common.{◌≡◌, ◌≤◌, ◌<◌, ◌+◌, ◌^◌, ◌++◌, ℕ, zero, suc, Bool, true, false, cond, List, [], ◌∷◌, length, take, drop, refl, sym, ap, subst, ◌∙◌, append-nil, append_assoc, arith, inl, inr}
use Rattle.std.specs.Prelude.{◌&&◌, ◌⊎◌}
use Rattle.std.proofs.lemmas.Bool.{and_parts, cond-true, cond-false, cases_Bool, eq-eqb, eqb-true}
use Rattle.std.proofs.lemmas.List.{take_at, drop_at, length-append, length-take, length-drop, drop-drop}
use Rattle.sp_base.specs.Outside.{IsPrefix}
use Rattle.sp_base.specs.SpTcp.{hello, frame, frames, text, shows, bodies_in, Fit, IsBytes, size_of, begins, starts, greets}
use Rattle.sp_base.specs.SpIpc.{marked, marked_all, marked_text, marked_begins, marked_bodies_in, marked_shows, IsLongestMarked, ipc_mark, ipc_text, ipc_shows, IsBadNext, IsIpcBad, IsPart, IsTooLong, IsMarkedPart, IsMarkedBad}
use Rattle.sp_base.proofs.Shows.{length-frame, size-frame, drop-frame, begins-frame, begins-parts, begins-false, starts-append, starts-true, frame-prefix, IsBytes-drop}

cut_mark : (mark t : List ℕ) → drop (length mark) (mark ++ t) ≡ t
cut_mark mark t = drop_at mark t (length mark) refl

pub marked_begins-is : (mark : List ℕ) (max : ℕ) (t : List ℕ) → marked_begins mark max (mark ++ t) ≡ begins max t
marked_begins-is mark max t = ap (λ b. b && begins max (drop (length mark) (mark ++ t))) (starts-append mark t) ∙ ap (begins max) (cut_mark mark t)

-- the step at s, by what follows the mark
abbrev step_at : List ℕ → ℕ → ℕ → List ℕ → List (List ℕ)
step_at mark max k t = take (size_of t) (drop 8 t) ∷ marked_bodies_in mark max k (drop (8 + size_of t) t)

marked-step : (mark : List ℕ) (max k : ℕ) (s : List ℕ) → marked_begins mark max s ≡ true → marked_bodies_in mark max (suc k) s ≡ step_at mark max k (drop (length mark) s)
unfolding marked_bodies_in
marked-step mark max k s e = cond-true (marked_begins mark max s) _ _ e

marked-stop : (mark : List ℕ) (max k : ℕ) (s : List ℕ) → marked_begins mark max s ≡ false → marked_bodies_in mark max k s ≡ []
unfolding marked_bodies_in
marked-stop mark max zero s e = refl
marked-stop mark max (suc k) s e = ap (λ t. cond t (step_at mark max k (drop (length mark) s)) []) e

marked-frame : (mark : List ℕ) (max k : ℕ) (b rest : List ℕ) → max < 2 ^ 64 → length b ≤ max → marked_bodies_in mark max (suc k) (marked mark b ++ rest) ≡ b ∷ marked_bodies_in mark max k rest
unfolding marked
marked-frame mark max k b rest lt fit =
    let t : List ℕ = frame b ++ rest in
    let size : size_of t ≡ length b = size-frame b rest (omega arith) in
    let whole : take (size_of t) (drop 8 t) ≡ b = ap (λ n. take n (drop 8 t)) size ∙ ap (take (length b)) (drop-frame b rest) ∙ take_at b rest (length b) refl in
    let behind : drop (8 + size_of t) t ≡ rest = ap (λ n. drop (8 + n) t) size ∙ drop_at (frame b) rest (8 + length b) (length-frame b) in
    let is_so : marked_begins mark max (mark ++ t) ≡ true = marked_begins-is mark max t ∙ begins-frame max b rest lt fit in
    ap (marked_bodies_in mark max (suc k)) (append_assoc mark (frame b) rest)
    ∙ marked-step mark max k (mark ++ t) is_so
    ∙ ap (step_at mark max k) (cut_mark mark t)
    ∙ ap (λ u. u ∷ marked_bodies_in mark max k (drop (8 + size_of t) t)) whole
    ∙ ap (λ u. b ∷ marked_bodies_in mark max k u) behind

pub length-marked : (mark b : List ℕ) → length (marked mark b) ≡ length mark + (8 + length b)
unfolding marked
length-marked mark b = length-append mark (frame b) ∙ ap (λ n. length mark + n) (length-frame b)

-- whole messages at the front are the first that are found, with a budget that is long enough
marked-found : (mark : List ℕ) (max k : ℕ) (bs : List (List ℕ)) (rest : List ℕ) → max < 2 ^ 64 → Fit max bs → length (marked_all mark bs) ≤ k → (left : ℕ) × (marked_bodies_in mark max k (marked_all mark bs ++ rest) ≡ bs ++ marked_bodies_in mark max left rest)
unfolding marked_all
marked-found mark max k [] rest lt fit long = (k, refl)
marked-found mark max zero (b ∷ bs) rest lt fit long = absurd (omega (arith, length-append (marked mark b) (marked_all mark bs), length-marked mark b))
marked-found mark max (suc k) (b ∷ bs) rest lt fit long =
    let more = marked-found mark max k bs rest lt fit.1 (omega (arith, length-append (marked mark b) (marked_all mark bs), length-marked mark b)) in
    let regroup : (marked mark b ++ marked_all mark bs) ++ rest ≡ marked mark b ++ (marked_all mark bs ++ rest) = append_assoc (marked mark b) (marked_all mark bs) rest in
    (more.0, ap (marked_bodies_in mark max (suc k)) regroup ∙ marked-frame mark max k b (marked_all mark bs ++ rest) lt fit.0 ∙ ap (λ t. b ∷ t) more.1)

-- what is shown of a text with these bodies in front
shows-found : (mark : List ℕ) (role max : ℕ) (bs : List (List ℕ)) (rest : List ℕ) → max < 2 ^ 64 → Fit max bs → (left : ℕ) × (marked_shows mark role max (marked_text mark role bs ++ rest) ≡ bs ++ marked_bodies_in mark max left rest)
unfolding marked_shows
shows-found mark role max bs rest lt fit =
    let s : List ℕ = marked_text mark role bs ++ rest in
    let regroup : s ≡ hello role ++ (marked_all mark bs ++ rest) = append_assoc (hello role) (marked_all mark bs) rest in
    let is_so : greets role s ≡ true = subst (λ t. greets role t ≡ true) (sym regroup) (starts-append (hello role) (marked_all mark bs ++ rest)) in
    let found = marked-found mark max (length s) bs rest lt fit (omega (arith, length-append (marked_text mark role bs) rest, length-append (hello role) (marked_all mark bs))) in
    (found.0, cond-true (greets role s) _ [] is_so ∙ ap (λ t. marked_bodies_in mark max (length s) t) (ap (drop 8) regroup) ∙ found.1)

-- **what is shown begins with the messages that were read from the front**
pub marked_shows-prefix : (mark : List ℕ) (role max : ℕ) (bs : List (List ℕ)) (rest : List ℕ) → max < 2 ^ 64 → Fit max bs → IsPrefix bs (marked_shows mark role max (marked_text mark role bs ++ rest))
marked_shows-prefix mark role max bs rest lt fit = let f = shows-found mark role max bs rest lt fit in (marked_bodies_in mark max f.0 rest, f.1)

-- **messages that were read from the front, and then none that is whole, are all that is shown**
pub marked_shows-rest : (mark : List ℕ) (role max : ℕ) (bs : List (List ℕ)) (rest : List ℕ) → max < 2 ^ 64 → Fit max bs → marked_begins mark max rest ≡ false → marked_shows mark role max (marked_text mark role bs ++ rest) ≡ bs
marked_shows-rest mark role max bs rest lt fit part = let f = shows-found mark role max bs rest lt fit in f.1 ∙ ap (λ t. bs ++ t) (marked-stop mark max f.0 rest part) ∙ append-nil bs

starts-nil : (mark : List ℕ) (max : ℕ) → marked_begins mark max [] ≡ false
starts-nil [] max = begins-false max [] (λ h. absurd (omega (arith, h.0)))
starts-nil (b ∷ mark) max = refl

pub marked_shows-text : (mark : List ℕ) (role max : ℕ) (bs : List (List ℕ)) → max < 2 ^ 64 → Fit max bs → marked_shows mark role max (marked_text mark role bs) ≡ bs
marked_shows-text mark role max bs lt fit = ap (marked_shows mark role max) (sym (append-nil (marked_text mark role bs))) ∙ marked_shows-rest mark role max bs [] lt fit (starts-nil mark max)

-- ---- what is found is there

marked-shown : (mark : List ℕ) (max k : ℕ) (s : List ℕ) → IsBytes s → Fit max (marked_bodies_in mark max k s) × IsPrefix (marked_all mark (marked_bodies_in mark max k s)) s
unfolding marked_bodies_in marked_all marked
marked-shown mark max zero s bytes = (tt, (s, refl))
marked-shown mark max (suc k) s bytes = elim (cases_Bool (marked_begins mark max s)) [
  | inl is_so ↦
      let parts = and_parts _ _ is_so in
      let t : List ℕ = drop (length mark) s in
      let p = begins-parts max t parts.1 in
      let body : List ℕ = take (size_of t) (drop 8 t) in
      let behind : List ℕ = drop (8 + size_of t) t in
      let bytes_t = IsBytes-drop (length mark) s bytes in
      let more = marked-shown mark max k behind (IsBytes-drop (8 + size_of t) t bytes_t) in
      let is : marked_bodies_in mark max (suc k) s ≡ body ∷ marked_bodies_in mark max k behind = marked-step mark max k s is_so in
      let size : length body ≤ max = omega (arith, length-take (size_of t) (drop 8 t), p.1) in
      let front = starts-true mark s parts.0 in
      let rest : t ≡ front.0 = ap (drop (length mark)) front.1 ∙ cut_mark mark front.0 in
      let cut : s ≡ mark ++ t = front.1 ∙ ap (λ u. mark ++ u) (sym rest) in
      let frames_k : List ℕ = marked_all mark (marked_bodies_in mark max k behind) in
      let inner : t ≡ frame body ++ (frames_k ++ more.1.0) = frame-prefix t bytes_t p.2 ∙ ap (λ u. frame body ++ u) more.1.1 in
      let prefix : s ≡ ((mark ++ frame body) ++ frames_k) ++ more.1.0 = cut ∙ ap (λ u. mark ++ u) inner ∙ sym (append_assoc mark (frame body) (frames_k ++ more.1.0)) ∙ sym (append_assoc (mark ++ frame body) frames_k more.1.0) in
      let Both : List (List ℕ) → Type 0 = λ bs. Fit max bs × IsPrefix (marked_all mark bs) s in
      subst Both (sym is) ((size, more.0), (more.1.0, prefix))
  | inr not_so ↦
      let Both : List (List ℕ) → Type 0 = λ bs. Fit max bs × IsPrefix (marked_all mark bs) s in
      subst Both (sym (marked-stop mark max (suc k) s not_so)) (tt, (s, refl))
]

shows-yes : (mark : List ℕ) (role max : ℕ) (s : List ℕ) → greets role s ≡ true → marked_shows mark role max s ≡ marked_bodies_in mark max (length s) (drop 8 s)
unfolding marked_shows
shows-yes mark role max s e = cond-true (greets role s) _ [] e

shows-no : (mark : List ℕ) (role max : ℕ) (s : List ℕ) → greets role s ≡ false → marked_shows mark role max s ≡ []
unfolding marked_shows
shows-no mark role max s e = cond-false (greets role s) _ [] e

pub marked_shows-longest : (mark : List ℕ) (role max : ℕ) (s : List ℕ) → max < 2 ^ 64 → IsBytes s → IsLongestMarked mark role max s (marked_shows mark role max s)
marked_shows-longest mark role max s lt bytes =
    let longest : (others : List (List ℕ)) → Fit max others → IsPrefix (marked_text mark role others) s → IsPrefix others (marked_shows mark role max s) =
    (λ others fit prefix. subst (λ t. IsPrefix others (marked_shows mark role max t)) (sym prefix.1) (marked_shows-prefix mark role max others prefix.0 lt fit)) in
    elim (cases_Bool (greets role s)) [
      | inl is_so ↦
          let is = shows-yes mark role max s is_so in
          let prefix = starts-true (hello role) s is_so in
          let rest : drop 8 s ≡ prefix.0 = ap (drop 8) prefix.1 in
          let found = marked-shown mark max (length s) (drop 8 s) (IsBytes-drop 8 s bytes) in
          let bodies : List (List ℕ) = marked_bodies_in mark max (length s) (drop 8 s) in
          let whole : s ≡ marked_text mark role bodies ++ found.1.0 =
          prefix.1 ∙ ap (λ t. hello role ++ t) (sym rest ∙ found.1.1) ∙ sym (append_assoc (hello role) (marked_all mark bodies) found.1.0) in
          record {
            fit = subst (Fit max) (sym is) found.0;
            shown = inl (subst (λ bs. IsPrefix (marked_text mark role bs) s) (sym is) (found.1.0, whole));
            longest = longest;
          }
      | inr not_so ↦ record {
        fit = subst (Fit max) (sym (shows-no mark role max s not_so)) tt;
        shown = inr (shows-no mark role max s not_so);
        longest = longest;
      }
    ]

pub marked_texts-apart : (mark : List ℕ) (role max : ℕ) (xs ys : List (List ℕ)) → max < 2 ^ 64 → Fit max xs → Fit max ys → marked_text mark role xs ≡ marked_text mark role ys → xs ≡ ys
marked_texts-apart mark role max xs ys lt fit fit' e = sym (marked_shows-text mark role max xs lt fit) ∙ ap (marked_shows mark role max) e ∙ marked_shows-text mark role max ys lt fit'

pub marked_shows-grows : (mark : List ℕ) (role max : ℕ) (s more : List ℕ) → max < 2 ^ 64 → IsBytes s → IsPrefix (marked_shows mark role max s) (marked_shows mark role max (s ++ more))
marked_shows-grows mark role max s more lt bytes =
    let longest = marked_shows-longest mark role max s lt bytes in
    let bodies : List (List ℕ) = marked_shows mark role max s in
    elim longest.shown [
      | inl prefix ↦
          let whole : s ++ more ≡ marked_text mark role bodies ++ (prefix.0 ++ more) = ap (λ t. t ++ more) prefix.1 ∙ append_assoc (marked_text mark role bodies) prefix.0 more in
          subst (λ t. IsPrefix bodies (marked_shows mark role max t)) (sym whole) (marked_shows-prefix mark role max bodies (prefix.0 ++ more) lt longest.fit)
      | inr none ↦ (marked_shows mark role max (s ++ more), ap (λ bs. bs ++ marked_shows mark role max (s ++ more)) (sym none))
    ]

-- ---- SP over IPC

-- what is bad is no message
pub bad-begins : (max : ℕ) (rest : List ℕ) → IsBadNext max rest → marked_begins ipc_mark max rest ≡ false
bad-begins max rest (inl h) = subst (λ r. marked_begins ipc_mark max r ≡ false) (sym h.2) (other h.0 h.1 h.3)
  where
    no_more : (a b : Bool) → a ≡ false → (a && b) ≡ false
    no_more true b e = absurd cc
    no_more false b e = refl

    other : (b : ℕ) (tail : List ℕ) → (b ≡ 1 → ⊥) → marked_begins ipc_mark max (b ∷ tail) ≡ false
    other b tail ne = no_more (starts ipc_mark (b ∷ tail)) (begins max tail) (elim (cases_Bool (starts ipc_mark (b ∷ tail))) [ inl e ↦ absurd (let p = and_parts _ _ e in ne (sym (eqb-true 1 b p.0))) | inr e ↦ e ])
bad-begins max rest (inr h) = subst (λ r. marked_begins ipc_mark max r ≡ false) (sym h.1) (marked_begins-is ipc_mark max h.0 ∙ begins-false max h.0 (λ p. absurd (let l = p.1 in let m = h.3 in omega (arith, l, m))))

-- **messages that were read from the front, and then what is bad: that is all that is shown, and it is bad**
pub ipc_bad-is : (role max : ℕ) (bs : List (List ℕ)) (rest : List ℕ) → max < 2 ^ 64 → Fit max bs → IsBadNext max rest → (ipc_shows role max (ipc_text role bs ++ rest) ≡ bs) × IsIpcBad role max (ipc_text role bs ++ rest)
ipc_bad-is role max bs rest lt fit bad =
    let is = marked_shows-rest ipc_mark role max bs rest lt fit (bad-begins max rest bad) in
    (is, (rest, ap (λ b. ipc_text role b ++ rest) (sym is), bad))

-- ---- what the reader finds

part-begins : (max : ℕ) (t : List ℕ) → IsPart max t → begins max t ≡ false
part-begins max t h = begins-false max t (λ p. elim h [ inl a ↦ absurd (let l = p.0 in omega (arith, l, a)) | inr b ↦ absurd (let l = p.2 in let m = b.2 in omega (arith, l, m)) ])

one_only : (s rest : List ℕ) → s ++ rest ≡ ipc_mark → 0 < length rest → s ≡ []
one_only [] rest e l = refl
one_only (x ∷ s) rest e l = absurd (let n = ap length e in let a = length-append s rest in omega (arith, n, a, l))

-- **after whole messages, a part of one: they are all that is shown**
pub ipc_part-is : (role max : ℕ) (bs : List (List ℕ)) (rest : List ℕ) → max < 2 ^ 64 → Fit max bs → IsMarkedPart ipc_mark max rest → ipc_shows role max (ipc_text role bs ++ rest) ≡ bs
ipc_part-is role max bs rest lt fit (inl h) = marked_shows-rest ipc_mark role max bs rest lt fit (subst (λ r. marked_begins ipc_mark max r ≡ false) (sym (one_only rest h.0 h.1 h.2)) refl)
ipc_part-is role max bs rest lt fit (inr h) = marked_shows-rest ipc_mark role max bs rest lt fit (subst (λ r. marked_begins ipc_mark max r ≡ false) (sym h.1) (marked_begins-is ipc_mark max h.0 ∙ part-begins max h.0 h.2))

-- what the reader calls bad is what is bad
pub bad-next : (max : ℕ) (rest : List ℕ) → IsMarkedBad ipc_mark max rest → IsBadNext max rest
bad-next max [] (inl h) = absurd (h.0 (ipc_mark, refl))
bad-next max (b ∷ tail) (inl h) = inl (b, tail, refl, λ e. h.1 (tail, ap (λ x. x ∷ tail) e))
bad-next max rest (inr h) = inr (h.0, h.1, h.2.0, h.2.1)

-- a part isn't bad
pub part-not_bad : (max : ℕ) (rest : List ℕ) → IsMarkedPart ipc_mark max rest → IsBadNext max rest → ⊥
part-not_bad max rest (inl h) (inl b) = absurd (let e : [] ≡ b.0 ∷ b.1 = sym (one_only rest h.0 h.1 h.2) ∙ b.2 in cc)
part-not_bad max rest (inl h) (inr b) = absurd (let e : [] ≡ 1 ∷ b.0 = sym (one_only rest h.0 h.1 h.2) ∙ b.1 in cc)
part-not_bad max rest (inr h) (inl b) = let e : 1 ∷ h.0 ≡ b.0 ∷ b.1 = sym h.1 ∙ b.2 in b.3 (sym (first_of_two 1 b.0 h.0 b.1 e))
  where
    first_of_two : (x y : ℕ) (xs ys : List ℕ) → x ∷ xs ≡ y ∷ ys → x ≡ y
    first_of_two x y xs ys e = cc
part-not_bad max rest (inr h) (inr b) =
    let e : 1 ∷ h.0 ≡ 1 ∷ b.0 = sym h.1 ∙ b.1 in
    let t : h.0 ≡ b.0 = rests 1 1 h.0 b.0 e in
    elim h.2 [
      | inl a ↦ absurd (let n = ap length t in let l = b.2 in omega (arith, n, l, a))
      | inr a ↦ absurd (let n = ap size_of t in let l = b.3 in let m = a.1 in omega (arith, n, l, m))
    ]
  where
    rests : (x y : ℕ) (xs ys : List ℕ) → x ∷ xs ≡ y ∷ ys → xs ≡ ys
    rests x y xs ys e = cc

-- **and the bytes aren't bad**
pub ipc_part-not_bad : (role max : ℕ) (bs : List (List ℕ)) (rest : List ℕ) → max < 2 ^ 64 → Fit max bs → IsMarkedPart ipc_mark max rest → IsIpcBad role max (ipc_text role bs ++ rest) → ⊥
ipc_part-not_bad role max bs rest lt fit part bad =
    let front : List ℕ = ipc_text role bs in
    let shown = ipc_part-is role max bs rest lt fit part in
    let whole : front ++ rest ≡ front ++ bad.0 = bad.1 ∙ ap (λ b. ipc_text role b ++ bad.0) shown in
    let same : rest ≡ bad.0 = sym (drop_at front rest (length front) refl) ∙ ap (drop (length front)) whole ∙ drop_at front bad.0 (length front) refl in
    part-not_bad max rest part (subst (IsBadNext max) (sym same) bad.2)

-- ---- texts that grow

pub marked_all-append : (mark : List ℕ) (xs ys : List (List ℕ)) → marked_all mark (xs ++ ys) ≡ marked_all mark xs ++ marked_all mark ys
unfolding marked_all
marked_all-append mark [] ys = refl
marked_all-append mark (x ∷ xs) ys = ap (λ t. marked mark x ++ t) (marked_all-append mark xs ys) ∙ sym (append_assoc (marked mark x) (marked_all mark xs) (marked_all mark ys))

pub marked_all-cons : (mark x : List ℕ) (xs : List (List ℕ)) → marked_all mark (x ∷ xs) ≡ marked mark x ++ marked_all mark xs
unfolding marked_all
marked_all-cons mark x xs = refl

-- one message more
pub marked_one_more : (mark : List ℕ) (role : ℕ) (bodies : List (List ℕ)) (body rest : List ℕ) → marked_text mark role bodies ++ (marked mark body ++ rest) ≡ marked_text mark role (bodies ++ body ∷ []) ++ rest
unfolding marked_all
marked_one_more mark role bodies body rest =
    let one : marked_all mark (body ∷ []) ≡ marked mark body = append-nil (marked mark body) in
    sym (append_assoc (marked_text mark role bodies) (marked mark body) rest)
    ∙ ap (λ t. t ++ rest) (append_assoc (hello role) (marked_all mark bodies) (marked mark body) ∙ ap (λ t. hello role ++ (marked_all mark bodies ++ t)) (sym one) ∙ ap (λ t. hello role ++ t) (sym (marked_all-append mark bodies (body ∷ []))))

-- ---- with no bytes before a size it is SP over TCP

bodies-unmarked : (max k : ℕ) (s : List ℕ) → marked_bodies_in [] max k s ≡ bodies_in max k s
unfolding marked_bodies_in bodies_in
bodies-unmarked max zero s = refl
bodies-unmarked max (suc k) s = ap (λ t. cond (begins max s) (take (size_of s) (drop 8 s) ∷ t) []) (bodies-unmarked max k (drop (8 + size_of s) s))

pub shows-unmarked : (role max : ℕ) (s : List ℕ) → marked_shows [] role max s ≡ shows role max s
unfolding marked_shows shows
shows-unmarked role max s = ap (λ t. cond (greets role s) t []) (bodies-unmarked max (length s) (drop 8 s))

frames-unmarked : (bodies : List (List ℕ)) → marked_all [] bodies ≡ frames bodies
unfolding marked_all frames marked
frames-unmarked [] = refl
frames-unmarked (b ∷ bodies) = ap (λ t. frame b ++ t) (frames-unmarked bodies)

pub text-unmarked : (role : ℕ) (bodies : List (List ℕ)) → marked_text [] role bodies ≡ text role bodies
text-unmarked role bodies = ap (λ t. hello role ++ t) (frames-unmarked bodies)
