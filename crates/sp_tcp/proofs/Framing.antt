-- What ties the texts of a wire to those of its link.
use Rattle.std.proofs.Common.{◌≡◌, ◌≤◌, ◌<◌, ◌-◌, ◌^◌, ◌++◌, ℕ, false, List, [], ◌∷◌, length, take, Option, Some, None, refl, sym, ap, subst, ◌∙◌, inl, inr, append-nil, append_assoc, arith, lit<}
use Rattle.std.proofs.lemmas.List.{length-append, length-take, take_at, take-append-le, append_cancel_left}
use Rattle.std.proofs.lemmas.Nat.{from_be_bytes-to_be_bytes_2}
use Rattle.sp_base.specs.SpTcp.{hello, Fit}
use Rattle.sp_base.specs.Outside.{grown, Told}
use Rattle.sp_base.proofs.Shows.{Fit-append}
use Rattle.sp_base.proofs.StreamShows.{stream-append, marked-frames, stream-text, stream-part, stream-bad, stream-is_bad, stream-not_bad}
use Rattle.sp_base.specs.SpStream.{mark_of, stream_frames, stream_text, stream_shows, IsStreamBad}
use Rattle.sp_base.specs.declared.framing.Framing.{Framing}
use Rattle.sp_msg.specs.Wires.{with_text}
use Rattle.sp_base.specs.SpIpc.{marked_all, IsMarkedPart, IsMarkedBad}
use Rattle.sp_tcp.specs.Outlets.{SentWithin}
use Rattle.sp_tcp.specs.TcpWires.{number_in, told_number, greatest, taken_in, put_in, ReadsAs, WritesAs}
use Rattle.sp_tcp.proofs.Writes.{sent_le}

pub number_text : (f : Framing) (role : ℕ) (bodies : List (List ℕ)) (rest : List ℕ) → role < 2 ^ 16 → number_in (stream_text f role bodies ++ rest) ≡ role
number_text f role bodies rest lt = from_be_bytes-to_be_bytes_2 role lt

-- the prefix before the last bytes
pub take_before : (a b s : List ℕ) (n : ℕ) → s ≡ a ++ b → length b ≡ n → take (length s - n) s ≡ a
take_before a b s n e long =
    let k : length s - n ≡ length a = omega (arith, ap length e, length-append a b, long) in
    ap (λ (j : ℕ). take j s) k ∙ ap (take (length a)) e ∙ take_at a b (length a) refl

text_more : (f : Framing) (role : ℕ) (a b : List (List ℕ)) → stream_text f role a ++ stream_frames f b ≡ stream_text f role (a ++ b)
text_more f role a b = append_assoc (hello role) (stream_frames f a) (stream_frames f b) ∙ ap (λ t. hello role ++ t) (sym (stream-append f a b))

-- what is written of frames, with the bytes before their sizes
pub framed_text : (f : Framing) (sent sent2 : ℕ) (w w2 gone : List (List ℕ)) (piece : List ℕ) → take sent (marked_all (mark_of f) w) ++ piece ≡ marked_all (mark_of f) gone ++ take sent2 (marked_all (mark_of f) w2) → take sent (stream_frames f w) ++ piece ≡ stream_frames f gone ++ take sent2 (stream_frames f w2)
framed_text f sent sent2 w w2 gone piece e = ap (λ t. take sent t ++ piece) (sym (marked-frames f w)) ∙ e ∙ (λ i. marked-frames f gone i ++ take sent2 (marked-frames f w2 i))

-- ---- reading

pub reads_number : (f : Framing) (max : ℕ) (u s : List ℕ) → (r : ReadsAs f max u s) → number_in s ≡ r.role
reads_number f max u s r = ap number_in r.is ∙ number_text f r.role r.bodies u r.small

pub reads_taken : (f : Framing) (max : ℕ) (u s : List ℕ) → max < 2 ^ 64 → (r : ReadsAs f max u s) → stream_shows f (number_in s) max (take (length s - length u) s) ≡ r.bodies
reads_taken f max u s lt r =
    ap (λ (n : ℕ). stream_shows f n max (take (length s - length u) s)) (reads_number f max u s r)
    ∙ ap (stream_shows f r.role max) (take_before (stream_text f r.role r.bodies) u s (length u) r.is refl)
    ∙ stream-text f r.role max r.bodies lt r.fit

pub reads_on : (f : Framing) (max : ℕ) (u u2 piece : List ℕ) (new : List (List ℕ)) (s : List ℕ) → Fit max new → u ++ piece ≡ stream_frames f new ++ u2 → ReadsAs f max u s → ReadsAs f max u2 (s ++ piece)
reads_on f max u u2 piece new s fit e r = record {
  role = r.role;
  bodies = r.bodies ++ new;
  small = r.small;
  fit = Fit-append max r.bodies new r.fit fit;
  is = ap (λ t. t ++ piece) r.is
      ∙ append_assoc (stream_text f r.role r.bodies) u piece
      ∙ ap (λ t. stream_text f r.role r.bodies ++ t) e
      ∙ sym (append_assoc (stream_text f r.role r.bodies) (stream_frames f new) u2)
      ∙ ap (λ t. t ++ u2) (text_more f r.role r.bodies new);
}

-- all that is unread follows whole messages, and isn't one
abbrev pub NoneWhole : Framing → ℕ → List ℕ → Type 0
NoneWhole f max u = (role : ℕ) (bodies : List (List ℕ)) → Fit max bodies → stream_shows f role max (stream_text f role bodies ++ u) ≡ bodies

pub part_none : (f : Framing) (max : ℕ) (u : List ℕ) → max < 2 ^ 64 → IsMarkedPart (mark_of f) max u → NoneWhole f max u
part_none f max u lt part role bodies fit = stream-part f role max bodies u lt fit part

pub bad_none : (f : Framing) (max : ℕ) (u : List ℕ) → max < 2 ^ 64 → IsMarkedBad (mark_of f) max u → NoneWhole f max u
bad_none f max u lt bad role bodies fit = stream-bad f role max bodies u lt fit bad

pub shown_all : (f : Framing) (max : ℕ) (u s : List ℕ) → NoneWhole f max u → (r : ReadsAs f max u s) → stream_shows f (number_in s) max s ≡ r.bodies
shown_all f max u s none r = ap (λ (n : ℕ). stream_shows f n max s) (reads_number f max u s r) ∙ ap (stream_shows f r.role max) r.is ∙ none r.role r.bodies r.fit

pub is_bad : (f : Framing) (max : ℕ) (u s : List ℕ) → max < 2 ^ 64 → IsMarkedBad (mark_of f) max u → ReadsAs f max u s → IsStreamBad f (number_in s) max s
is_bad f max u s lt bad r =
    subst (λ (n : ℕ). IsStreamBad f n max s) (sym (reads_number f max u s r))
    (subst (λ t. IsStreamBad f r.role max t) (sym r.is) (stream-is_bad f r.role max r.bodies u lt r.fit bad))

pub not_bad : (f : Framing) (max : ℕ) (u s : List ℕ) → max < 2 ^ 64 → IsMarkedPart (mark_of f) max u → ReadsAs f max u s → IsStreamBad f (number_in s) max s → ⊥
not_bad f max u s lt part r bad =
    stream-not_bad f r.role max r.bodies u lt r.fit part
    (subst (λ t. IsStreamBad f r.role max t) r.is (subst (λ (n : ℕ). IsStreamBad f n max s) (reads_number f max u s r) bad))

-- ---- where it is told

abbrev pub with_texts : Option (List (List ℕ)) → List (List ℕ) → Option (List (List ℕ))
with_texts None new = None
with_texts (Some x) new = Some (x ++ new)

pub with_none : (o : Option (List (List ℕ))) → with_texts o [] ≡ o
with_none None = refl
with_none (Some x) = ap (λ (t : List (List ℕ)). Some t) (append-nil x)

pub with_one : (o : Option (List (List ℕ))) (t : List ℕ) → with_texts o (t ∷ []) ≡ with_text o t
with_one None t = refl
with_one (Some x) t = refl

pub told_reads : (f : Framing) (max : ℕ) (u u2 piece : List ℕ) (new : List (List ℕ)) (o o2 : Option (List ℕ)) → Fit max new → u ++ piece ≡ stream_frames f new ++ u2 → o2 ≡ grown o piece → Told o (ReadsAs f max u) → Told o2 (ReadsAs f max u2)
told_reads f max u u2 piece new None o2 fit e grew r = subst (λ x. Told x (ReadsAs f max u2)) (sym grew) tt
told_reads f max u u2 piece new (Some s) o2 fit e grew r = subst (λ x. Told x (ReadsAs f max u2)) (sym grew) (reads_on f max u u2 piece new s fit e r)

pub taken_on : (f : Framing) (max : ℕ) (u u2 piece : List ℕ) (new : List (List ℕ)) (o o2 : Option (List ℕ)) → max < 2 ^ 64 → Fit max new → u ++ piece ≡ stream_frames f new ++ u2 → o2 ≡ grown o piece → Told o (ReadsAs f max u) → taken_in f max u2 o2 ≡ with_texts (taken_in f max u o) new
unfolding reads_on
taken_on f max u u2 piece new None o2 lt fit e grew r = ap (taken_in f max u2) grew
taken_on f max u u2 piece new (Some s) o2 lt fit e grew r =
    ap (taken_in f max u2) grew
    ∙ ap (λ (b : List (List ℕ)). Some b) (reads_taken f max u2 (s ++ piece) lt (reads_on f max u u2 piece new s fit e r))
    ∙ ap (λ (b : List (List ℕ)). Some (b ++ new)) (sym (reads_taken f max u s lt r))

pub number_on : (f : Framing) (max : ℕ) (u piece : List ℕ) (o o2 : Option (List ℕ)) → o2 ≡ grown o piece → Told o (ReadsAs f max u) → told_number o2 ≡ told_number o
number_on f max u piece None o2 grew r = ap told_number grew
number_on f max u piece (Some s) o2 grew r =
    let more : s ++ piece ≡ stream_text f r.role r.bodies ++ (u ++ piece) = ap (λ t. t ++ piece) r.is ∙ append_assoc (stream_text f r.role r.bodies) u piece in
    ap told_number grew ∙ ap (λ (n : ℕ). Some n) (ap number_in more ∙ number_text f r.role r.bodies (u ++ piece) r.small ∙ sym (reads_number f max u s r))

-- ---- writing

sent_fits : (f : Framing) (sent : ℕ) (w : List (List ℕ)) → SentWithin (mark_of f) sent w → sent ≤ length (stream_frames f w)
sent_fits f sent w within = omega (arith, sent_le (mark_of f) sent w within, ap length (marked-frames f w))

pub writes_number : (f : Framing) (w : List (List ℕ)) (sent : ℕ) (s : List ℕ) → (r : WritesAs f w sent s) → number_in s ≡ r.role
writes_number f w sent s r = ap number_in r.is ∙ number_text f r.role r.bodies (take sent (stream_frames f w)) r.small

pub length_sent : (f : Framing) (w : List (List ℕ)) (sent : ℕ) → SentWithin (mark_of f) sent w → length (take sent (stream_frames f w)) ≡ sent
length_sent f w sent within = omega (arith, length-take sent (stream_frames f w), sent_fits f sent w within)

pub writes_taken : (f : Framing) (w : List (List ℕ)) (sent : ℕ) (s : List ℕ) → SentWithin (mark_of f) sent w → (r : WritesAs f w sent s) → stream_shows f (number_in s) greatest (take (length s - sent) s) ≡ r.bodies
writes_taken f w sent s within r =
    ap (λ (n : ℕ). stream_shows f n greatest (take (length s - sent) s)) (writes_number f w sent s r)
    ∙ ap (stream_shows f r.role greatest) (take_before (stream_text f r.role r.bodies) (take sent (stream_frames f w)) s sent r.is (length_sent f w sent within))
    ∙ stream-text f r.role greatest r.bodies (lit< tt) r.fit

pub writes_on : (f : Framing) (w w2 gone : List (List ℕ)) (sent sent2 : ℕ) (piece s : List ℕ) → Fit greatest gone → take sent (stream_frames f w) ++ piece ≡ stream_frames f gone ++ take sent2 (stream_frames f w2) → WritesAs f w sent s → WritesAs f w2 sent2 (s ++ piece)
writes_on f w w2 gone sent sent2 piece s fit e r = record {
  role = r.role;
  bodies = r.bodies ++ gone;
  small = r.small;
  fit = Fit-append greatest r.bodies gone r.fit fit;
  is = ap (λ t. t ++ piece) r.is
      ∙ append_assoc (stream_text f r.role r.bodies) (take sent (stream_frames f w)) piece
      ∙ ap (λ t. stream_text f r.role r.bodies ++ t) e
      ∙ sym (append_assoc (stream_text f r.role r.bodies) (stream_frames f gone) (take sent2 (stream_frames f w2)))
      ∙ ap (λ t. t ++ take sent2 (stream_frames f w2)) (text_more f r.role r.bodies gone);
}

pub told_writes : (f : Framing) (w w2 gone : List (List ℕ)) (sent sent2 : ℕ) (piece : List ℕ) (o o2 : Option (List ℕ)) → Fit greatest gone → take sent (stream_frames f w) ++ piece ≡ stream_frames f gone ++ take sent2 (stream_frames f w2) → o2 ≡ grown o piece → Told o (WritesAs f w sent) → Told o2 (WritesAs f w2 sent2)
told_writes f w w2 gone sent sent2 piece None o2 fit e grew r = subst (λ x. Told x (WritesAs f w2 sent2)) (sym grew) tt
told_writes f w w2 gone sent sent2 piece (Some s) o2 fit e grew r = subst (λ x. Told x (WritesAs f w2 sent2)) (sym grew) (writes_on f w w2 gone sent sent2 piece s fit e r)

pub put_on : (f : Framing) (w w2 gone : List (List ℕ)) (sent sent2 : ℕ) (piece : List ℕ) (o o2 : Option (List ℕ)) → SentWithin (mark_of f) sent w → SentWithin (mark_of f) sent2 w2 → Fit greatest gone → w ≡ gone ++ w2 → take sent (stream_frames f w) ++ piece ≡ stream_frames f gone ++ take sent2 (stream_frames f w2) → o2 ≡ grown o piece → Told o (WritesAs f w sent) → put_in f w2 sent2 o2 ≡ put_in f w sent o
unfolding writes_on
put_on f w w2 gone sent sent2 piece None o2 x y fit left e grew r = ap (put_in f w2 sent2) grew
put_on f w w2 gone sent sent2 piece (Some s) o2 x y fit left e grew r =
    ap (put_in f w2 sent2) grew
    ∙ ap (λ (b : List (List ℕ)). Some (b ++ w2)) (writes_taken f w2 sent2 (s ++ piece) y (writes_on f w w2 gone sent sent2 piece s fit e r))
    ∙ ap (λ (b : List (List ℕ)). Some b) (append_assoc r.bodies gone w2)
    ∙ ap (λ (b : List (List ℕ)). Some (r.bodies ++ b)) (sym left)
    ∙ ap (λ (b : List (List ℕ)). Some (b ++ w)) (sym (writes_taken f w sent s x r))

pub own_on : (f : Framing) (w : List (List ℕ)) (sent : ℕ) (piece : List ℕ) (o o2 : Option (List ℕ)) → o2 ≡ grown o piece → Told o (WritesAs f w sent) → told_number o2 ≡ told_number o
own_on f w sent piece None o2 grew r = ap told_number grew
own_on f w sent piece (Some s) o2 grew r =
    let more : s ++ piece ≡ stream_text f r.role r.bodies ++ (take sent (stream_frames f w) ++ piece) = ap (λ t. t ++ piece) r.is ∙ append_assoc (stream_text f r.role r.bodies) (take sent (stream_frames f w)) piece in
    ap told_number grew ∙ ap (λ (n : ℕ). Some n) (ap number_in more ∙ number_text f r.role r.bodies (take sent (stream_frames f w) ++ piece) r.small ∙ sym (writes_number f w sent s r))

pub Fit-apart : (max : ℕ) (xs ys : List (List ℕ)) → Fit max (xs ++ ys) → Fit max xs × Fit max ys
Fit-apart max [] ys f = (tt, f)
Fit-apart max (x ∷ xs) ys f = let more = Fit-apart max xs ys f.1 in ((f.0, more.0), more.1)

-- ---- one more text

pub writes_more : (f : Framing) (w : List (List ℕ)) (t : List ℕ) (sent : ℕ) (s : List ℕ) → SentWithin (mark_of f) sent w → WritesAs f w sent s → WritesAs f (w ++ t ∷ []) sent s
writes_more f w t sent s within r = record {
  role = r.role;
  bodies = r.bodies;
  small = r.small;
  fit = r.fit;
  is = r.is ∙ ap (λ x. stream_text f r.role r.bodies ++ x) (sym (ap (take sent) (stream-append f w (t ∷ [])) ∙ take-append-le sent (stream_frames f w) (stream_frames f (t ∷ [])) (sent_fits f sent w within)));
}

pub told_more : (f : Framing) (w : List (List ℕ)) (t : List ℕ) (sent : ℕ) (o : Option (List ℕ)) → SentWithin (mark_of f) sent w → Told o (WritesAs f w sent) → Told o (WritesAs f (w ++ t ∷ []) sent)
told_more f w t sent None within r = tt
told_more f w t sent (Some s) within r = writes_more f w t sent s within r

pub put_more : (f : Framing) (w : List (List ℕ)) (t : List ℕ) (sent : ℕ) (o : Option (List ℕ)) → put_in f (w ++ t ∷ []) sent o ≡ with_text (put_in f w sent o) t
put_more f w t sent None = refl
put_more f w t sent (Some s) = ap (λ (b : List (List ℕ)). Some b) (sym (append_assoc (stream_shows f (number_in s) greatest (take (length s - sent) s)) w (t ∷ [])))
