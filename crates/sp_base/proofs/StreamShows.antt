-- The laws of a stream, however its messages are framed.
use Rattle.std.proofs.Common.{◌≡◌, ◌≤◌, ◌<◌, ◌+◌, ◌^◌, ◌++◌, ℕ, false, List, [], ◌∷◌, length, drop, refl, sym, ap, subst, ◌∙◌, append_assoc, arith, inl, inr}
use Rattle.std.proofs.lemmas.List.{drop_at, length-append}
use Rattle.sp_base.specs.Outside.{IsPrefix}
use Rattle.sp_base.specs.SpTcp.{hello, frame, frames, text, shows, Fit, begins, size_of, IsOversize}
use Rattle.sp_base.specs.SpIpc.{marked, marked_all, ipc_mark, IsPart, IsTooLong, IsMarkedPart, IsMarkedBad}
use Rattle.sp_base.specs.SpStream.{mark_of, framing_for, scheme_under, stream_frame, stream_frames, stream_text, stream_shows, IsStreamBad}
use Rattle.sp_base.specs.declared.framing.Framing.{Framing}
use Rattle.sp_base.specs.declared.framing.Framing.TheVariants as framings
use Rattle.sp_base.proofs.Shows.{frames-append, frames-cons, length-frame, shows-prefix, shows-rest, shows-text, begins-false}
use Rattle.sp_base.proofs.MarkedShows.{marked_shows-prefix, marked_shows-text, marked_all-append, marked_all-cons, length-marked, ipc_bad-is, ipc_part-is, bad-next, ipc_part-not_bad}

-- ---- frames

pub stream-nil : (f : Framing) → [] ≡ stream_frames f []
unfolding frames marked_all
stream-nil framings.Tcp = refl
stream-nil framings.Ipc = refl

pub stream-cons : (f : Framing) (x : List ℕ) (xs : List (List ℕ)) → stream_frames f (x ∷ xs) ≡ stream_frame f x ++ stream_frames f xs
stream-cons framings.Tcp x xs = frames-cons x xs
stream-cons framings.Ipc x xs = marked_all-cons ipc_mark x xs

pub stream-append : (f : Framing) (xs ys : List (List ℕ)) → stream_frames f (xs ++ ys) ≡ stream_frames f xs ++ stream_frames f ys
stream-append framings.Tcp xs ys = frames-append xs ys
stream-append framings.Ipc xs ys = marked_all-append ipc_mark xs ys

unmarked-frame : (b : List ℕ) → marked [] b ≡ frame b
unfolding marked
unmarked-frame b = refl

unmarked-frames : (bs : List (List ℕ)) → marked_all [] bs ≡ frames bs
unfolding marked_all frames marked
unmarked-frames [] = refl
unmarked-frames (b ∷ bs) = ap (λ t. frame b ++ t) (unmarked-frames bs)

-- they are those with the mark
pub marked-frame : (f : Framing) (b : List ℕ) → marked (mark_of f) b ≡ stream_frame f b
marked-frame framings.Tcp b = unmarked-frame b
marked-frame framings.Ipc b = refl

pub marked-frames : (f : Framing) (bs : List (List ℕ)) → marked_all (mark_of f) bs ≡ stream_frames f bs
marked-frames framings.Tcp bs = unmarked-frames bs
marked-frames framings.Ipc bs = refl

pub length-stream_frame : (f : Framing) (b : List ℕ) → length (stream_frame f b) ≡ length (mark_of f) + 8 + length b
length-stream_frame framings.Tcp b = omega (arith, length-frame b)
length-stream_frame framings.Ipc b = omega (arith, length-marked ipc_mark b)

-- ---- what is shown

pub stream-prefix : (f : Framing) (role max : ℕ) (bs : List (List ℕ)) (rest : List ℕ) → max < 2 ^ 64 → Fit max bs → IsPrefix bs (stream_shows f role max (stream_text f role bs ++ rest))
stream-prefix framings.Tcp role max bs rest lt fit = shows-prefix role max bs rest lt fit
stream-prefix framings.Ipc role max bs rest lt fit = marked_shows-prefix ipc_mark role max bs rest lt fit

pub stream-text : (f : Framing) (role max : ℕ) (bs : List (List ℕ)) → max < 2 ^ 64 → Fit max bs → stream_shows f role max (stream_text f role bs) ≡ bs
stream-text framings.Tcp role max bs lt fit = shows-text role max bs lt fit
stream-text framings.Ipc role max bs lt fit = marked_shows-text ipc_mark role max bs lt fit

-- with no mark
none_less : (s rest : List ℕ) → s ++ rest ≡ [] → 0 < length rest → ⊥
none_less s rest e some = omega (arith, ap length e, length-append s rest, some)

plain_part : (max : ℕ) (s : List ℕ) → IsMarkedPart [] max s → IsPart max s
plain_part max s (inl x) = absurd (none_less s x.0 x.1 x.2)
plain_part max s (inr x) = subst (IsPart max) (sym x.1) x.2

plain_bad : (max : ℕ) (s : List ℕ) → IsMarkedBad [] max s → IsTooLong max s
plain_bad max s (inl x) = absurd (x.1 (s, refl))
plain_bad max s (inr x) = subst (IsTooLong max) (sym x.1) x.2

part_begins : (max : ℕ) (u : List ℕ) → IsPart max u → begins max u ≡ false
part_begins max u part = begins-false max u (λ h. elim part [ inl a ↦ omega (arith, a, h) | inr b ↦ omega (arith, b, h) ])

long_begins : (max : ℕ) (u : List ℕ) → IsTooLong max u → begins max u ≡ false
long_begins max u long = begins-false max u (λ h. omega (arith, long, h))

apart : (max : ℕ) (u : List ℕ) → IsPart max u → IsTooLong max u → ⊥
apart max u part long = elim part [ inl a ↦ omega (arith, a, long) | inr b ↦ omega (arith, b, long) ]

tcp_not : (role max : ℕ) (bs : List (List ℕ)) (rest : List ℕ) → max < 2 ^ 64 → Fit max bs → IsPart max rest → IsOversize role max (text role bs ++ rest) → ⊥
tcp_not role max bs rest lt fit part over =
    let front : List ℕ = text role bs in
    let shown = shows-rest role max bs rest lt fit (part_begins max rest part) in
    let whole : front ++ rest ≡ front ++ over.0 = over.1 ∙ ap (λ b. text role b ++ over.0) shown in
    let same : rest ≡ over.0 = sym (drop_at front rest (length front) refl) ∙ ap (drop (length front)) whole ∙ drop_at front over.0 (length front) refl in
    apart max rest part (subst (IsTooLong max) (sym same) (over.2, over.3))

tcp_over : (role max : ℕ) (bs : List (List ℕ)) (rest : List ℕ) → max < 2 ^ 64 → Fit max bs → IsTooLong max rest → IsOversize role max (text role bs ++ rest)
tcp_over role max bs rest lt fit long =
    let shown = shows-rest role max bs rest lt fit (long_begins max rest long) in
    (rest, ap (λ b. text role b ++ rest) (sym shown), long.0, long.1)

-- **after whole messages, a part of one, or what is not allowed: they are all that is shown**
pub stream-part : (f : Framing) (role max : ℕ) (bs : List (List ℕ)) (rest : List ℕ) → max < 2 ^ 64 → Fit max bs → IsMarkedPart (mark_of f) max rest → stream_shows f role max (stream_text f role bs ++ rest) ≡ bs
stream-part framings.Tcp role max bs rest lt fit part = shows-rest role max bs rest lt fit (part_begins max rest (plain_part max rest part))
stream-part framings.Ipc role max bs rest lt fit part = ipc_part-is role max bs rest lt fit part

pub stream-bad : (f : Framing) (role max : ℕ) (bs : List (List ℕ)) (rest : List ℕ) → max < 2 ^ 64 → Fit max bs → IsMarkedBad (mark_of f) max rest → stream_shows f role max (stream_text f role bs ++ rest) ≡ bs
stream-bad framings.Tcp role max bs rest lt fit bad = shows-rest role max bs rest lt fit (long_begins max rest (plain_bad max rest bad))
stream-bad framings.Ipc role max bs rest lt fit bad = (ipc_bad-is role max bs rest lt fit (bad-next max rest bad)).0

-- **what is not allowed is bad, and a part isn't**
pub stream-is_bad : (f : Framing) (role max : ℕ) (bs : List (List ℕ)) (rest : List ℕ) → max < 2 ^ 64 → Fit max bs → IsMarkedBad (mark_of f) max rest → IsStreamBad f role max (stream_text f role bs ++ rest)
stream-is_bad framings.Tcp role max bs rest lt fit bad = tcp_over role max bs rest lt fit (plain_bad max rest bad)
stream-is_bad framings.Ipc role max bs rest lt fit bad = (ipc_bad-is role max bs rest lt fit (bad-next max rest bad)).1

pub stream-not_bad : (f : Framing) (role max : ℕ) (bs : List (List ℕ)) (rest : List ℕ) → max < 2 ^ 64 → Fit max bs → IsMarkedPart (mark_of f) max rest → IsStreamBad f role max (stream_text f role bs ++ rest) → ⊥
stream-not_bad framings.Tcp role max bs rest lt fit part bad = tcp_not role max bs rest lt fit (plain_part max rest part) bad
stream-not_bad framings.Ipc role max bs rest lt fit part bad = ipc_part-not_bad role max bs rest lt fit part bad

-- ---- schemes

pub framing-under : (f : Framing) → framing_for (scheme_under f) ≡ f
framing-under framings.Tcp = refl
framing-under framings.Ipc = refl
