-- What stands at the front of a stream, in terms of all that the stream shows.
use Rattle.std.proofs.Common.{◌≡◌, ◌≤◌, ◌<◌, ◌+◌, ◌^◌, ◌++◌, ℕ, List, [], ◌∷◌, length, drop, refl, sym, ap, subst, ◌∙◌, append-nil, append_assoc, arith, inl, inr}
use Rattle.std.proofs.lemmas.List.{drop_at}
use Rattle.sp_base.specs.Outside.{IsPrefix}
use Rattle.sp_base.specs.SpTcp.{hello, frame, frames, text, shows, Fit, size_of, IsOversize}
use Rattle.sp_base.proofs.Shows.{shows-prefix, shows-rest, begins-false, Fit-append, frames-append, frames-cons}
use Rattle.sp_tcp.specs.declared.reader.Prefix.{Prefix}
use Rattle.sp_tcp.specs.declared.reader.Prefix.TheVariants as f
use Rattle.sp_tcp.specs.Readings.{PrefixIs, ShownAs}

no_frames : frames [] ≡ []
unfolding frames
no_frames = refl

one_more : (role : ℕ) (bodies : List (List ℕ)) (body rest : List ℕ) → text role bodies ++ (frame body ++ rest) ≡ text role (bodies ++ body ∷ []) ++ rest
one_more role bodies body rest =
    let one : frames (body ∷ []) ≡ frame body = frames-cons body [] ∙ ap (λ t. frame body ++ t) no_frames ∙ append-nil (frame body) in
    sym (append_assoc (text role bodies) (frame body) rest)
    ∙ ap (λ t. t ++ rest) (append_assoc (hello role) (frames bodies) (frame body) ∙ ap (λ t. hello role ++ (frames bodies ++ t)) (sym one) ∙ ap (λ t. hello role ++ t) (sym (frames-append bodies (body ∷ []))))

-- nothing whole stands at the front
module _ (role max : ℕ) (bodies : List (List ℕ)) (s : List ℕ) (lt : max < 2 ^ 64) (fit : Fit max bodies) (none : (8 ≤ length s) × (size_of s ≤ max) × (8 + size_of s ≤ length s) → ⊥) where
  all_shown : shows role max (text role bodies ++ s) ≡ bodies
  all_shown = shows-rest role max bodies s lt fit (begins-false max s none)

  not_oversize : ((8 ≤ length s) × (max < size_of s) → ⊥) → ¬ IsOversize role max (text role bodies ++ s)
  not_oversize small over =
      let whole : text role bodies ++ s ≡ text role bodies ++ over.0 = over.1 ∙ ap (λ bs. text role bs ++ over.0) all_shown in
      let rest : s ≡ over.0 = sym (drop_at (text role bodies) s (length (text role bodies)) refl) ∙ ap (drop (length (text role bodies))) whole ∙ drop_at (text role bodies) over.0 (length (text role bodies)) refl in
      small (subst (λ t. (8 ≤ length t) × (max < size_of t)) (sym rest) (over.2, over.3))

  is_oversize : 8 ≤ length s → max < size_of s → IsOversize role max (text role bodies ++ s)
  is_oversize long big = (s, ap (λ bs. text role bs ++ s) (sym all_shown), long, big)

pub shown_as : (max : ℕ) (s : List ℕ) (front : Prefix) → max < 2 ^ 64 → PrefixIs max s front → ShownAs max s front
shown_as max s (f.Message body) lt is = λ role bodies fit.
    let whole : text role bodies ++ s ≡ text role (bodies ++ body.now ∷ []) ++ is.1.0 = ap (λ t. text role bodies ++ t) is.1.1 ∙ one_more role bodies body.now is.1.0 in
    subst (λ t. IsPrefix (bodies ++ body.now ∷ []) (shows role max t)) (sym whole) (shows-prefix role max (bodies ++ body.now ∷ []) is.1.0 lt (Fit-append max bodies (body.now ∷ []) fit (is.0, tt)))
shown_as max s f.Part lt is = λ role bodies fit.
    let none : (8 ≤ length s) × (size_of s ≤ max) × (8 + size_of s ≤ length s) → ⊥ = (λ p. elim is [ inl short ↦ omega (arith, short, p.0) | inr part ↦ omega (arith, part.2, p.2) ]) in
    let small : (8 ≤ length s) × (max < size_of s) → ⊥ = (λ p. elim is [ inl short ↦ omega (arith, short, p.0) | inr part ↦ omega (arith, part.1, p.1) ]) in
    (all_shown role max bodies s lt fit none, not_oversize role max bodies s lt fit none small)
shown_as max s f.Oversize lt is = λ role bodies fit.
    let none : (8 ≤ length s) × (size_of s ≤ max) × (8 + size_of s ≤ length s) → ⊥ = (λ p. omega (arith, p.1, is.1)) in
    (all_shown role max bodies s lt fit none, is_oversize role max bodies s lt fit none is.0 is.1)
