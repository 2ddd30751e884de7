-- Frames with bytes before their sizes.
use Rattle.std.proofs.Common.{◌≡◌, ◌<◌, ◌+◌, ◌++◌, ℕ, List, [], ◌∷◌, length, refl, sym, ap, ◌∙◌, append_assoc, arith}
use Rattle.std.proofs.lemmas.List.{length-append}
use Rattle.sp_base.specs.SpTcp.{frame}
use Rattle.sp_base.proofs.Shows.{length-frame}
use Rattle.sp_base.specs.SpIpc.{marked, marked_all}
use Rattle.sp_tcp.specs.Marked.{head_of, IsMark}
use Rattle.sp_base.specs.SpStream.{mark_of}
use Rattle.sp_base.specs.declared.framing.Framing.{Framing}
use Rattle.sp_base.specs.declared.framing.Framing.TheVariants as framings
use Rattle.sp_tcp.specs.Outlets.{SentWithin}

pub marked-nil : (mark : List ℕ) → [] ≡ marked_all mark []
unfolding marked_all
marked-nil mark = refl

pub marked-cons : (mark x : List ℕ) (xs : List (List ℕ)) → marked_all mark (x ∷ xs) ≡ marked mark x ++ marked_all mark xs
unfolding marked_all
marked-cons mark x xs = refl

pub marked-append : (mark : List ℕ) (xs ys : List (List ℕ)) → marked_all mark (xs ++ ys) ≡ marked_all mark xs ++ marked_all mark ys
unfolding marked_all
marked-append mark [] ys = refl
marked-append mark (x ∷ xs) ys = ap (λ t. marked mark x ++ t) (marked-append mark xs ys) ∙ sym (append_assoc (marked mark x) (marked_all mark xs) (marked_all mark ys))

pub marked-is : (mark body : List ℕ) → mark ++ frame body ≡ marked mark body
unfolding marked
marked-is mark body = refl

pub length-marked : (mark b : List ℕ) → length (marked mark b) ≡ head_of mark + length b
length-marked mark b = omega (arith, ap length (marked-is mark b), length-append mark (frame b), length-frame b)

-- one more message after those that wait
pub within_more : (mark m : List ℕ) (sent : ℕ) (w : List (List ℕ)) → SentWithin mark sent w → SentWithin mark sent (w ++ m ∷ [])
within_more mark m sent [] e = omega (arith, e)
within_more mark m sent (t ∷ rest) lt = lt

-- that of a framing is short
pub mark_small : (f : Framing) → IsMark (mark_of f)
mark_small framings.Tcp = omega arith
mark_small framings.Ipc = omega arith
