-- What a wire over a link shows at every moment.
use Rattle.std.proofs.Common.{◌≡◌, ◌<◌, ◌^◌, ◌++◌, ℕ, List, [], ◌∷◌, length, take, drop, Option, Some, None, refl, sym, ap, subst, ◌∙◌, arith}
use Rattle.std.proofs.lemmas.List.{length-take, take-append-le, take-append-drop}
use Rattle.sp_base.specs.SpStream.{framing_for, mark_of, stream_frame, stream_frames, stream_text, stream_shows, IsStreamBad}
use Rattle.sp_base.specs.declared.framing.Framing.{Framing}
use Rattle.sp_base.specs.Outside.{Told, IsPrefix}
use Rattle.sp_base.proofs.StreamShows.{stream-nil, stream-cons, stream-prefix, length-stream_frame}
use Rattle.sp_base.specs.SpIpc.{IsMarkedPart, IsMarkedBad}
use Rattle.sp_tcp.specs.Outlets.{SentWithin}
use Rattle.sp_tcp.specs.TcpWires.{number_in, taken_in, put_in, ReadsAs, WritesAs, TcpState, tcp_view, Holds, ShowsIn, WrittenIn, CutShort, Framed, AllShown, NextFits, NextIsBad}
use Rattle.sp_tcp.proofs.Framing as streams

shows_in : (t : TcpState) (s : List ℕ) → t.max < 2 ^ 64 → (r : ReadsAs t.framing t.max t.unread s) → t.link.came ≡ Some s → ShowsIn (tcp_view t) s
shows_in t s lt r e =
    let role : ℕ = number_in s in
    let is : s ≡ stream_text t.framing role r.bodies ++ t.unread = r.is ∙ ap (λ (n : ℕ). stream_text t.framing n r.bodies ++ t.unread) (sym (streams.reads_number t.framing t.max t.unread s r)) in
    record {
      bodies = r.bodies;
      came = ap (taken_in t.framing t.max t.unread) e ∙ ap (λ (b : List (List ℕ)). Some b) (streams.reads_taken t.framing t.max t.unread s lt r);
      text_prefix = (t.unread, is);
      prefix = subst (λ x. IsPrefix r.bodies (stream_shows t.framing role t.max x)) (sym is) (stream-prefix t.framing role t.max r.bodies t.unread lt r.fit);
    }

cut_short : (f : Framing) (sent : ℕ) (w : List (List ℕ)) → SentWithin (mark_of f) sent w → CutShort f (take sent (stream_frames f w)) w
cut_short f sent [] e = ap (take sent) (sym (stream-nil f)) ∙ ap (λ (n : ℕ). take n []) e
cut_short f sent (x ∷ rest) lt =
    let is : take sent (stream_frames f (x ∷ rest)) ≡ take sent (stream_frame f x) = ap (take sent) (stream-cons f x rest) ∙ take-append-le sent (stream_frame f x) (stream_frames f rest) (omega (arith, lt, length-stream_frame f x)) in (
      (drop sent (stream_frame f x), sym (ap (λ p. p ++ drop sent (stream_frame f x)) is ∙ take-append-drop sent (stream_frame f x))),
      omega (arith, ap length is, length-take sent (stream_frame f x), length-stream_frame f x, lt),
    )

written_in : (t : TcpState) (s : List ℕ) → SentWithin (mark_of t.framing) t.sent t.waiting → (r : WritesAs t.framing t.waiting t.sent s) → t.link.written ≡ Some s → WrittenIn (tcp_view t) s
written_in t s within r e = record {
  whole = r.bodies;
  waiting = t.waiting;
  part = take t.sent (stream_frames t.framing t.waiting);
  outs = ap (put_in t.framing t.waiting t.sent) e ∙ ap (λ (b : List (List ℕ)). Some (b ++ t.waiting)) (streams.writes_taken t.framing t.waiting t.sent s within r);
  waits = refl;
  is = r.is ∙ ap (λ (n : ℕ). stream_text t.framing n r.bodies ++ take t.sent (stream_frames t.framing t.waiting)) (sym (streams.writes_number t.framing t.waiting t.sent s r));
  cut = cut_short t.framing t.sent t.waiting within;
}

told_at : (o : Option (List ℕ)) (P Q : List ℕ → Type 0) → ((s : List ℕ) → o ≡ Some s → P s → Q s) → Told o P → Told o Q
told_at None P Q h p = tt
told_at (Some s) P Q h p = h s refl p

pub all_shown : (t : TcpState) → Holds t → streams.NoneWhole t.framing t.max t.unread → AllShown (tcp_view t)
all_shown t h none =
    told_at t.link.came (ReadsAs t.framing t.max t.unread) (λ s. taken_in t.framing t.max t.unread t.link.came ≡ Some (stream_shows t.framing (number_in s) t.max s))
    (λ s e r. ap (taken_in t.framing t.max t.unread) e ∙ ap (λ (b : List (List ℕ)). Some b) (streams.reads_taken t.framing t.max t.unread s h.small r ∙ sym (streams.shown_all t.framing t.max t.unread s none r)))
    h.reads

-- a part of a message is left, or what is bad
pub part_shown : (t : TcpState) → Holds t → IsMarkedPart (mark_of t.framing) t.max t.unread → AllShown (tcp_view t)
part_shown t h part = all_shown t h (streams.part_none t.framing t.max t.unread h.small part)

pub bad_shown : (t : TcpState) → Holds t → IsMarkedBad (mark_of t.framing) t.max t.unread → AllShown (tcp_view t)
bad_shown t h bad = all_shown t h (streams.bad_none t.framing t.max t.unread h.small bad)

pub next_fits : (t : TcpState) → Holds t → IsMarkedPart (mark_of t.framing) t.max t.unread → NextFits (tcp_view t)
next_fits t h part = told_at t.link.came (ReadsAs t.framing t.max t.unread) (λ s. IsStreamBad t.framing (number_in s) t.max s → ⊥) (λ s e r. streams.not_bad t.framing t.max t.unread s h.small part r) h.reads

pub next_bad : (t : TcpState) → Holds t → IsMarkedBad (mark_of t.framing) t.max t.unread → NextIsBad (tcp_view t)
next_bad t h bad = told_at t.link.came (ReadsAs t.framing t.max t.unread) (λ s. IsStreamBad t.framing (number_in s) t.max s) (λ s e r. streams.is_bad t.framing t.max t.unread s h.small bad r) h.reads

pub framed : (t : TcpState) → Holds t → Framed (tcp_view t)
framed t h = record {
  framed_by = h.framed_by;
  spent = t.spent;
  name = refl;
  waited = h.waited;
  came = told_at t.link.came (ReadsAs t.framing t.max t.unread) (ShowsIn (tcp_view t)) (λ s e r. shows_in t s h.small r e) h.reads;
  written = told_at t.link.written (WritesAs t.framing t.waiting t.sent) (WrittenIn (tcp_view t)) (λ s e r. written_in t s h.within r e) h.writes;
  faults = h.marks.faults;
  idles = h.marks.idles;
  stalls = h.marks.stalls;
  refusals = h.marks.refusals;
  most = h.most;
  link_open = h.marks.link_open;
  ended = (λ e. ((h.marks.at_end e).0, part_shown t h (h.marks.at_end e).1, next_fits t h (h.marks.at_end e).1));
  malformed = (λ e. (bad_shown t h (h.marks.bad e), next_bad t h (h.marks.bad e)));
}
