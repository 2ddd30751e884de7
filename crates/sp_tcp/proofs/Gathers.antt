-- What is gathered for one write, piece by piece and frame by frame.
use Rattle.std.specs.Prelude.{◌==◌}
use Rattle.std.proofs.Common.{◌≡◌, ◌≤◌, ◌<◌, ◌+◌, ◌-◌, ◌++◌, ℕ, zero, suc, Bool, true, false, List, [], ◌∷◌, length, take, drop, refl, sym, ap, subst, ◌∙◌, inl, inr, append-nil, append_assoc, arith, map, get_or}
use Rattle.std.proofs.lemmas.Bool.{cases_lt}
use Rattle.std.proofs.lemmas.List.{length-append, length-take, length-drop, take_at, drop_at, drop-append-le, take-append-le, drop-drop, take_all, drop_all, take_more, take_rest, map-append}
use Rattle.std.specs.Int.{w64, to_be_bytes}
use Rattle.sp_base.specs.SpTcp.{frame, frames}
use Rattle.sp_msg.specs.Views.{MessageView, wire_text}
use Rattle.sp_tcp.specs.Views.{WriteStageView}
use Rattle.sp_tcp.specs.Stages.{added, gathered}
use Rattle.sp_base.specs.SpIpc.{marked, marked_all}
use Rattle.sp_tcp.specs.Marked.{head_of}
use Rattle.sp_tcp.specs.Outlets.{SentWithin, Passed, IsLongRest}
use Rattle.sp_tcp.proofs.Buffers.{take_apart}
use Rattle.sp_tcp.proofs.MarkedFrames.{marked-nil, marked-cons, marked-append, marked-is, length-marked}

pub frames-nil : [] ≡ frames []
unfolding frames
frames-nil = refl

-- ---- prefixes and rests of two lists

pub take_append : (k : ℕ) (x y : List ℕ) → take k (x ++ y) ≡ take k x ++ take (k - length x) y
take_append k x y = elim (cases_lt k (length x)) [
  | inl lt ↦ (
      let none : k - length x ≡ 0 = omega arith in
      take-append-le k x y (omega arith) ∙ sym (ap (λ (j : ℕ). take k x ++ take j y) none ∙ append-nil (take k x)))
  | inr le ↦ (
      let is : k ≡ length x + (k - length x) = omega arith in
      ap (λ (j : ℕ). take j (x ++ y)) is
      ∙ take_apart (length x) (k - length x) (x ++ y)
      ∙ ap (λ t. t ++ take (k - length x) (drop (length x) (x ++ y))) (take_at x y (length x) refl ∙ sym (take_all k x le))
      ∙ ap (λ t. take k x ++ take (k - length x) t) (drop_at x y (length x) refl))
]

-- from a place after the first part on
pub in_behind : (a b : List ℕ) (k n : ℕ) → length a ≡ n → n ≤ k → drop k (a ++ b) ≡ drop (k - n) b
in_behind a b k n e le =
    let is : k ≡ n + (k - n) = omega arith in
    ap (λ (j : ℕ). drop j (a ++ b)) is ∙ sym (drop-drop (k - n) n (a ++ b)) ∙ ap (drop (k - n)) (drop_at a b n e)

drop_append : (k : ℕ) (x y : List ℕ) → drop k (x ++ y) ≡ drop k x ++ drop (k - length x) y
drop_append k x y = elim (cases_lt k (length x)) [
  | inl lt ↦ (
      let none : k - length x ≡ 0 = omega arith in
      drop-append-le k x y (omega arith) ∙ sym (ap (λ (j : ℕ). drop k x ++ drop j y) none))
  | inr le ↦ in_behind x y k (length x) refl le ∙ sym (ap (λ t. t ++ drop (k - length x) y) (drop_all k x le))
]

-- ---- one piece after the other

over_two : (most skip : ℕ) (base a b : List ℕ) → (base ++ take (most - length base) (drop skip a)) ++ take (most - length (base ++ take (most - length base) (drop skip a))) (drop (skip - length a) b) ≡ base ++ take (most - length base) (drop skip (a ++ b))
over_two most skip base a b =
    let k : ℕ = most - length base in
    let x : List ℕ = drop skip a in
    let y : List ℕ = drop (skip - length a) b in
    let left : most - length (base ++ take k x) ≡ k - length x = omega (arith, length-append base (take k x), length-take k x) in
    ap (λ (j : ℕ). (base ++ take k x) ++ take j y) left
    ∙ append_assoc base (take k x) (take (k - length x) y)
    ∙ ap (λ t. base ++ t) (sym (take_append k x y) ∙ ap (take k) (sym (drop_append skip a b)))

added_two : (s : WriteStageView) (skip : ℕ) (a b : List ℕ) → added (added s skip a) (skip - length a) b ≡ added s skip (a ++ b)
added_two s skip a b = λ i. record s { bytes = over_two s.most skip s.bytes a b i }

pub added_three : (s s1 s2 s3 : WriteStageView) (skip k1 k2 k3 : ℕ) (a b c : List ℕ) → s1 ≡ added s skip a → k1 ≡ skip - length a → s2 ≡ added s1 k1 b → k2 ≡ k1 - length b → s3 ≡ added s2 k2 c → k3 ≡ k2 - length c → (s3 ≡ added s skip (a ++ (b ++ c))) × (k3 ≡ skip - length (a ++ (b ++ c)))
added_three s s1 s2 s3 skip k1 k2 k3 a b c e1 f1 e2 f2 e3 f3 =
    let two : s2 ≡ added s skip (a ++ b) = e2 ∙ ap (λ (x : WriteStageView). added x k1 b) e1 ∙ ap (λ (k : ℕ). added (added s skip a) k b) f1 ∙ added_two s skip a b in
    let k : k2 ≡ skip - length (a ++ b) = omega (arith, f1, f2, length-append a b) in (
      e3 ∙ ap (λ (x : WriteStageView). added x k2 c) two ∙ ap (λ (j : ℕ). added (added s skip (a ++ b)) j c) k ∙ added_two s skip (a ++ b) c ∙ ap (added s skip) (append_assoc a b c),
      omega (arith, f3, k, length-append a b, length-append b c, length-append a (b ++ c)),
    )

pub frame_is : (m : MessageView) (head : List ℕ) (size : ℕ) → head ≡ to_be_bytes w64 size → size ≡ length m.header + length m.body → head ++ (m.header ++ m.body) ≡ frame (wire_text m)
unfolding frame
frame_is m head size e f = ap (λ (t : List ℕ). t ++ (m.header ++ m.body)) (e ∙ ap (to_be_bytes w64) (f ∙ sym (length-append m.header m.body)))

-- ---- one frame after the other

-- the bytes before its size, and the frame
pub added_marked : (mark : List ℕ) (s s1 s2 : WriteStageView) (skip k1 k2 : ℕ) (t : List ℕ) → s1 ≡ added s skip mark → k1 ≡ skip - length mark → s2 ≡ added s1 k1 (frame t) → k2 ≡ k1 - length (frame t) → (s2 ≡ added s skip (marked mark t)) × (k2 ≡ skip - length (marked mark t))
added_marked mark s s1 s2 skip k1 k2 t e1 f1 e2 f2 = (
  e2 ∙ ap (λ (x : WriteStageView). added x k1 (frame t)) e1 ∙ ap (λ (k : ℕ). added (added s skip mark) k (frame t)) f1 ∙ added_two s skip mark (frame t) ∙ ap (added s skip) (marked-is mark t),
  omega (arith, f2, f1, length-append mark (frame t), ap length (marked-is mark t)),
)

abbrev pub frames_to : (mark : List ℕ) → List MessageView → ℕ → List ℕ
frames_to mark items i = marked_all mark (map wire_text (take i items))

frames_one_more : (mark : List ℕ) (items : List MessageView) (m : MessageView) (i : ℕ) → i < length items → m ≡ get_or items i m → frames_to mark items (i + 1) ≡ frames_to mark items i ++ marked mark (wire_text m)
frames_one_more mark items m i lt e =
    ap (λ (x : List MessageView). marked_all mark (map wire_text x)) (take_more items i m lt)
    ∙ ap (marked_all mark) (map-append wire_text (take i items) (get_or items i m ∷ []))
    ∙ marked-append mark (map wire_text (take i items)) (wire_text (get_or items i m) ∷ [])
    ∙ ap (λ t. frames_to mark items i ++ t) (marked-cons mark (wire_text (get_or items i m)) [] ∙ ap (λ t. marked mark (wire_text (get_or items i m)) ++ t) (sym (marked-nil mark)) ∙ append-nil (marked mark (wire_text (get_or items i m))))
    ∙ ap (λ (x : MessageView). frames_to mark items i ++ marked mark (wire_text x)) (sym e)

abbrev emptied : WriteStageView → WriteStageView
emptied s = record s { bytes = [] }

gathered_is : (s : WriteStageView) (skip : ℕ) (text : List ℕ) → gathered s skip text ≡ added (emptied s) skip text
gathered_is s skip text = let k : s.most ≡ s.most - 0 = omega arith in λ i. record s { bytes = take (k i) (drop skip text) }

pub gather_first : (mark : List ℕ) (s s1 : WriteStageView) (items : List MessageView) (sent : ℕ) → s1 ≡ emptied s → (s1 ≡ gathered s1 sent (frames_to mark items 0)) × (sent ≡ sent - length (frames_to mark items 0))
gather_first mark s s1 items sent e =
    let none : drop sent (marked_all mark []) ≡ [] = ap (drop sent) (sym (marked-nil mark)) ∙ drop_all sent [] (omega arith) in
    let nothing : take s1.most (drop sent (marked_all mark [])) ≡ s1.bytes = ap (take s1.most) none ∙ take_all s1.most [] (omega arith) ∙ sym (ap (λ (x : WriteStageView). x.bytes) e) in
    (λ i. record s1 { bytes = sym nothing i }, omega (arith, ap length (marked-nil mark)))

pub gather_more : (mark : List ℕ) (s now next : WriteStageView) (items : List MessageView) (m : MessageView) (i sent skip after : ℕ) → i < length items → m ≡ get_or items i m → now ≡ gathered s sent (frames_to mark items i) → skip ≡ sent - length (frames_to mark items i) → next ≡ added now skip (marked mark (wire_text m)) → after ≡ skip - length (marked mark (wire_text m)) → (next ≡ gathered s sent (frames_to mark items (i + 1))) × (after ≡ sent - length (frames_to mark items (i + 1)))
gather_more mark s now next items m i sent skip after lt e is k n a =
    let done : List ℕ = frames_to mark items i in
    let t : List ℕ = marked mark (wire_text m) in
    let more = frames_one_more mark items m i lt e in (
      n
          ∙ ap (λ (x : WriteStageView). added x skip t) (is ∙ gathered_is s sent done)
          ∙ ap (λ (j : ℕ). added (added (emptied s) sent done) j t) k
          ∙ added_two (emptied s) sent done t
          ∙ sym (gathered_is s sent (done ++ t))
          ∙ ap (gathered s sent) (sym more),
      omega (arith, a, k, ap length more, length-append done t),
    )

pub gather_all : (mark : List ℕ) (s s1 now : WriteStageView) (items : List MessageView) (n sent : ℕ) → s1 ≡ emptied s → length items ≤ n → now ≡ gathered s1 sent (frames_to mark items n) → now ≡ gathered s sent (marked_all mark (map wire_text items))
gather_all mark s s1 now items n sent e all is = is ∙ ap (λ (x : List MessageView). gathered s1 sent (marked_all mark (map wire_text x))) (take_all n items all) ∙ ap (λ (x : WriteStageView). gathered x sent (marked_all mark (map wire_text items))) e

-- ---- frames that are wholly written

pub record Passing (mark : List ℕ) (written : ℕ) (old new : List (List ℕ)) (left : ℕ) : Type 0 where
  pub passed : Passed mark written old new left
  pub fits : left ≤ length (marked_all mark new)

pub passing_none : (mark : List ℕ) (written : ℕ) (old : List (List ℕ)) → written ≤ length (marked_all mark old) → Passing mark written old old written
passing_none mark written old le = record { passed = record { gone = []; is = refl; text = ap (λ t. t ++ take written (marked_all mark old)) (marked-nil mark) }; fits = le }

-- a first element
pub first_of : {A : Type 0} (s : List A) (d : A) → 0 < length s → d ≡ get_or s 0 d → s ≡ d ∷ drop 1 s
first_of [] d lt e = absurd (omega (arith, lt))
first_of (x ∷ s) d lt e = ap (λ t. t ∷ s) (sym e)

passing_over : (mark : List ℕ) (written : ℕ) (old rest : List (List ℕ)) (t : List ℕ) (left : ℕ) → Passing mark written old (t ∷ rest) left → head_of mark + length t ≤ left → Passing mark written old rest (left - (head_of mark + length t))
passing_over mark written old rest t left p le =
    let all : take left (marked_all mark (t ∷ rest)) ≡ marked mark t ++ take (left - (head_of mark + length t)) (marked_all mark rest) = (
    ap (take left) (marked-cons mark t rest)
    ∙ take_append left (marked mark t) (marked_all mark rest)
    ∙ ap (λ x. x ++ take (left - length (marked mark t)) (marked_all mark rest)) (take_all left (marked mark t) (omega (arith, length-marked mark t, le)))
    ∙ ap (λ (j : ℕ). marked mark t ++ take (left - j) (marked_all mark rest)) (length-marked mark t)) in
    record {
      passed = record {
        gone = p.passed.gone ++ t ∷ [];
        is = p.passed.is ∙ sym (append_assoc p.passed.gone (t ∷ []) rest);
        text = p.passed.text
            ∙ ap (λ x. marked_all mark p.passed.gone ++ x) all
            ∙ sym (append_assoc (marked_all mark p.passed.gone) (marked mark t) (take (left - (head_of mark + length t)) (marked_all mark rest)))
            ∙ ap (λ x. (marked_all mark p.passed.gone ++ x) ++ take (left - (head_of mark + length t)) (marked_all mark rest)) (sym (marked-cons mark t [] ∙ ap (λ x. marked mark t ++ x) (sym (marked-nil mark)) ∙ append-nil (marked mark t)))
            ∙ ap (λ x. x ++ take (left - (head_of mark + length t)) (marked_all mark rest)) (sym (marked-append mark p.passed.gone (t ∷ [])));
      };
      fits = omega (arith, p.fits, ap length (marked-cons mark t rest), length-append (marked mark t) (marked_all mark rest), length-marked mark t, le);
    }

length_text : (m : MessageView) (size : ℕ) → size ≡ length m.header + length m.body → length (wire_text m) ≡ size
length_text m size e = omega (arith, e, length-append m.header m.body)

pub passing_more : (mark : List ℕ) (written : ℕ) (old : List (List ℕ)) (items next : List MessageView) (m : MessageView) (left size : ℕ) → items ≡ m ∷ drop 1 items → next ≡ drop 1 items → size ≡ length m.header + length m.body → head_of mark + size ≤ left → Passing mark written old (map wire_text items) left → Passing mark written old (map wire_text next) (left - (head_of mark + size))
passing_more mark written old items next m left size first rest size_is le p =
    let long = length_text m size size_is in
    let is : map wire_text items ≡ wire_text m ∷ map wire_text (drop 1 items) = ap (map wire_text) first in
    let over = passing_over mark written old (map wire_text (drop 1 items)) (wire_text m) left (subst (λ (x : List (List ℕ)). Passing mark written old x left) is p) (omega (arith, long, le)) in
    let at : Passing mark written old (map wire_text (drop 1 items)) (left - (head_of mark + size)) = subst (λ (k : ℕ). Passing mark written old (map wire_text (drop 1 items)) (left - (head_of mark + k))) long over in
    subst (λ (x : List MessageView). Passing mark written old (map wire_text x) (left - (head_of mark + size))) (sym rest) at

-- a part of the first frame is left
pub within_first : (mark : List ℕ) (items : List MessageView) (m : MessageView) (left size : ℕ) → items ≡ m ∷ drop 1 items → size ≡ length m.header + length m.body → left < head_of mark + size → SentWithin mark left (map wire_text items)
within_first mark items m left size first size_is lt =
    let lt2 : left < head_of mark + length (wire_text m) = omega (arith, lt, length_text m size size_is) in
    subst (λ (x : List MessageView). SentWithin mark left (map wire_text x)) (sym first) lt2

-- nothing is left
pub within_none : (mark : List ℕ) (written : ℕ) (old : List (List ℕ)) (items : List MessageView) (left : ℕ) → length items ≡ 0 → Passing mark written old (map wire_text items) left → SentWithin mark left (map wire_text items)
within_none mark written old [] left e p = omega (arith, p.fits, ap length (marked-nil mark))
within_none mark written old (m ∷ items) left e p = absurd (omega (arith, e))

-- ---- a prefix of what is not written

pub long_prefix : (mark : List ℕ) (items : List MessageView) (m : MessageView) (sent : ℕ) (rest : List ℕ) → items ≡ m ∷ drop 1 items → sent < head_of mark + length (wire_text m) → drop sent (marked mark (wire_text m)) ≡ rest → drop sent (marked_all mark (map wire_text items)) ≡ rest ++ marked_all mark (map wire_text (drop 1 items))
long_prefix mark items m sent rest first lt e =
    ap (λ (x : List MessageView). drop sent (marked_all mark (map wire_text x))) first
    ∙ ap (drop sent) (marked-cons mark (wire_text m) (map wire_text (drop 1 items)))
    ∙ drop-append-le sent (marked mark (wire_text m)) (marked_all mark (map wire_text (drop 1 items))) (omega (arith, lt, length-marked mark (wire_text m)))
    ∙ ap (λ t. t ++ marked_all mark (map wire_text (drop 1 items))) e

pub first_within : (mark : List ℕ) (items : List MessageView) (m : MessageView) (sent : ℕ) → items ≡ m ∷ drop 1 items → SentWithin mark sent (map wire_text items) → sent < head_of mark + length (wire_text m)
first_within mark items m sent first within = subst (λ (x : List MessageView). SentWithin mark sent (map wire_text x)) first within

long_drop : (s : List ℕ) (k : ℕ) → k < length s → 0 < length (drop k s)
long_drop s k lt = omega (arith, lt, length-drop k s)

-- something is gathered
pub gathers_some : (mark : List ℕ) (items : List MessageView) (m : MessageView) (sent most : ℕ) → items ≡ m ∷ drop 1 items → sent < head_of mark + length (wire_text m) → 0 < most → 0 < length (take most (drop sent (marked_all mark (map wire_text items))))
gathers_some mark items m sent most first lt some =
    let prefix = long_prefix mark items m sent (drop sent (marked mark (wire_text m))) first lt refl in
    omega (arith, length-take most (drop sent (marked_all mark (map wire_text items))), ap length prefix, length-append (drop sent (marked mark (wire_text m))) (marked_all mark (map wire_text (drop 1 items))), long_drop (marked mark (wire_text m)) sent (omega (arith, lt, length-marked mark (wire_text m))), some)

-- what is left of a frame after its header
long_frame : (m : MessageView) (sent : ℕ) → 8 + length m.header ≤ sent → drop sent (frame (wire_text m)) ≡ drop (sent - (8 + length m.header)) m.body
unfolding frame
long_frame m sent le =
    let k : sent - 8 - length m.header ≡ sent - (8 + length m.header) = omega arith in
    in_behind (to_be_bytes w64 (length (wire_text m))) (wire_text m) sent 8 refl (omega arith) ∙ in_behind m.header m.body (sent - 8) (length m.header) refl (omega arith) ∙ ap (λ (j : ℕ). drop j m.body) k

long_is : (mark : List ℕ) (m : MessageView) (sent : ℕ) → head_of mark + length m.header ≤ sent → drop sent (marked mark (wire_text m)) ≡ drop (sent - (head_of mark + length m.header)) m.body
long_is mark m sent le =
    let k : sent - length mark - (8 + length m.header) ≡ sent - (head_of mark + length m.header) = omega arith in
    ap (drop sent) (sym (marked-is mark (wire_text m)))
    ∙ in_behind mark (frame (wire_text m)) sent (length mark) refl (omega (arith, le))
    ∙ long_frame m (sent - length mark) (omega (arith, le))
    ∙ ap (λ (j : ℕ). drop j m.body) k

pub long_rest_is : (mark : List ℕ) (m : MessageView) (h b : List ℕ) (sent : ℕ) → h ≡ m.header → b ≡ m.body → head_of mark + length h ≤ sent → sent < head_of mark + length (wire_text m) → IsLongRest mark m sent (take (length b - (sent - (head_of mark + length h))) (drop (sent - (head_of mark + length h)) b))
long_rest_is mark m h b sent e f le lt =
    let k : ℕ = sent - (head_of mark + length m.header) in
    let same : sent - (head_of mark + length h) ≡ k = omega (arith, ap length e) in
    let is : take (length b - (sent - (head_of mark + length h))) (drop (sent - (head_of mark + length h)) b) ≡ drop k m.body = take_rest b (sent - (head_of mark + length h)) ∙ ap (λ (j : ℕ). drop j b) same ∙ ap (drop k) f in
    let whole : drop sent (marked mark (wire_text m)) ≡ drop k m.body = long_is mark m sent (omega (arith, le, ap length e)) in
    λ some. (whole ∙ sym is, omega (arith, ap length is, length-drop k m.body, length-append m.header m.body, le, lt, ap length e))

pub not_empty : (n : ℕ) (b : Bool) → b ≡ (n == 0) → b ≡ false → 0 < n
not_empty zero b e f = absurd cc
not_empty (suc n) b e f = omega arith

-- a list with no first element is empty
pub none_left : (n : ℕ) → (0 < n → false ≡ true) → n ≡ 0
none_left zero h = refl
none_left (suc n) h = let e : false ≡ true = h (omega arith) in absurd cc
