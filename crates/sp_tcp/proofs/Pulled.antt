-- What a pull of a wire over a link gives.
use Rattle.std.proofs.Common.{◌≡◌, ◌≤◌, ◌++◌, ℕ, true, false, List, [], ◌∷◌, length, Option, Some, refl, sym, ap, subst, ◌∙◌, append-nil, arith}
use Rattle.sp_base.specs.SpTcp.{Fit}
use Rattle.sp_base.specs.SpStream.{framing_for, mark_of, stream_frame, stream_frames, stream_shows, IsStreamBad}
use Rattle.sp_base.specs.declared.framing.Framing.{Framing}
use Rattle.sp_base.specs.Outside.{Told}
use Rattle.sp_base.proofs.StreamShows.{stream-nil, stream-cons, marked-frame}
use Rattle.sp_base.specs.Views.{LinkView}
use Rattle.sp_base.specs.Wires.{OverLink, scheme_number}
use Rattle.sp_msg.specs.Views.{MessageView}
use Rattle.sp_msg.specs.Marks.{marks_pulled}
use Rattle.sp_msg.specs.Wires.{AfterPull, came_after, IsBare}
use Rattle.sp_msg.specs.declared.wire.WireIn.{WireIn}
use Rattle.sp_msg.specs.declared.wire.WireIn.TheVariants as ins
use Rattle.sp_msg.proofs.Shown.{after_pull}
use Rattle.sp_tcp.specs.Inlets.{PullResult, PulledFrom}
use Rattle.sp_tcp.specs.TcpWires.{number_in, told_number, taken_in, put_in, WritesAs, TcpState, wire_name, wire_of, tcp_view, Holds, Framed, PullCause, TcpPulled}
use Rattle.sp_tcp.proofs.MarksKept.{pulled_marks, ready_pulled}
use Rattle.sp_tcp.proofs.Framing.{with_texts, with_none, with_one, told_reads, taken_on, number_on}
use Rattle.sp_tcp.proofs.Framed.{framed, part_shown, bad_shown, next_fits, next_bad}

-- the state after a pull with this result
abbrev pub pulled_state : WireIn → TcpState → LinkView → List ℕ → TcpState
pulled_state result t l u = record { framing = t.framing; link = l; unread = u; waiting = t.waiting; sent = t.sent; max = t.max; spent = t.spent; marks = marks_pulled result t.marks }

-- bytes came, and the frames of these bodies were taken
record Step (f : Framing) (max : ℕ) (old u piece : List ℕ) (new : List (List ℕ)) : Type 0 where
  fit : Fit max new
  is : old ++ piece ≡ stream_frames f new ++ u

-- the bodies that were taken
abbrev taken : WireIn → List (List ℕ)
taken (ins.Message m) = m.body ∷ []
taken ins.NotYet = []
taken ins.Ended = []
taken ins.Malformed = []
taken ins.Failed = []
taken ins.Refused = []
taken ins.NoMemory = []

none_taken : (f : Framing) (max : ℕ) (old u piece : List ℕ) → u ≡ old ++ piece → Step f max old u piece []
none_taken f max old u piece e = record { fit = tt; is = sym e ∙ ap (λ x. x ++ u) (stream-nil f) }

one_taken : (f : Framing) (max : ℕ) (old u piece : List ℕ) (m : MessageView) → length m.body ≤ max → old ++ piece ≡ stream_frame f m.body ++ u → Step f max old u piece (m.body ∷ [])
one_taken f max old u piece m le e = record {
  fit = (le, tt);
  is = e ∙ ap (λ x. x ++ u) (sym (stream-cons f m.body [] ∙ ap (λ x. stream_frame f m.body ++ x) (sym (stream-nil f)) ∙ append-nil (stream_frame f m.body)));
}

step_of : (f : Framing) (result : WireIn) (max : ℕ) (old u piece : List ℕ) (l l2 : LinkView) → PullResult (mark_of f) max result (old ++ piece) u l l2 → Step f max old u piece (taken result)
step_of f (ins.Message m) max old u piece l l2 a = one_taken f max old u piece m a.1 (a.2 ∙ ap (λ x. x ++ u) (marked-frame f m.body))
step_of f ins.NotYet max old u piece l l2 a = none_taken f max old u piece a.0
step_of f ins.Ended max old u piece l l2 a = none_taken f max old u piece a.0
step_of f ins.Malformed max old u piece l l2 a = none_taken f max old u piece a.0
step_of f ins.Failed max old u piece l l2 a = none_taken f max old u piece a.0
step_of f ins.Refused max old u piece l l2 a = absurd a
step_of f ins.NoMemory max old u piece l l2 a = none_taken f max old u piece a

bare_of : (f : Framing) (result : WireIn) (max : ℕ) (all u : List ℕ) (l l2 : LinkView) → PullResult (mark_of f) max result all u l l2 → IsBare result
bare_of f (ins.Message m) max all u l l2 a = a.0
bare_of f ins.NotYet max all u l l2 a = tt
bare_of f ins.Ended max all u l l2 a = tt
bare_of f ins.Malformed max all u l l2 a = tt
bare_of f ins.Failed max all u l l2 a = tt
bare_of f ins.Refused max all u l l2 a = tt
bare_of f ins.NoMemory max all u l l2 a = tt

came_is : (result : WireIn) (o : Option (List (List ℕ))) → with_texts o (taken result) ≡ came_after result o
came_is (ins.Message m) o = with_one o m.body
came_is ins.NotYet o = with_none o
came_is ins.Ended o = with_none o
came_is ins.Malformed o = with_none o
came_is ins.Failed o = with_none o
came_is ins.Refused o = with_none o
came_is ins.NoMemory o = with_none o

cause_of : (result : WireIn) (t : TcpState) (u all : List ℕ) (l : LinkView) → Holds (pulled_state result t l u) → PullResult (mark_of t.framing) t.max result all u t.link l → PullCause result (tcp_view t) (tcp_view (pulled_state result t l u))
cause_of (ins.Message m) t u all l h a = a.1
cause_of ins.NotYet t u all l h a = (part_shown (pulled_state ins.NotYet t l u) h a.1, next_fits (pulled_state ins.NotYet t l u) h a.1, a.2, a.3)
cause_of ins.Ended t u all l h a = (part_shown (pulled_state ins.Ended t l u) h a.1, next_fits (pulled_state ins.Ended t l u) h a.1, a.2)
cause_of ins.Malformed t u all l h a = (bad_shown (pulled_state ins.Malformed t l u) h a.1, next_bad (pulled_state ins.Malformed t l u) h a.1)
cause_of ins.Failed t u all l h a = (part_shown (pulled_state ins.Failed t l u) h a.1, next_fits (pulled_state ins.Failed t l u) h a.1, a.2, a.3)
cause_of ins.Refused t u all l h a = a
cause_of ins.NoMemory t u all l h a = tt

pulled_holds : (result : WireIn) (t : TcpState) (u : List ℕ) (l : LinkView) → Holds t → t.marks.is_open ≡ true → PulledFrom (mark_of t.framing) t.max result t.unread u t.link l → Holds (pulled_state result t l u)
pulled_holds result t u l h o p =
    let s = step_of t.framing result t.max t.unread u p.piece t.link l p.returned in
    record {
      framed_by = h.framed_by ∙ ap framing_for (sym p.came.scheme);
      reads = told_reads t.framing t.max t.unread u p.piece (taken result) t.link.came l.came s.fit s.is p.came.came h.reads;
      writes = subst (λ w. Told w (WritesAs t.framing t.waiting t.sent)) (sym p.came.written) h.writes;
      within = h.within;
      fit = h.fit;
      small = h.small;
      most = h.most;
      room = (λ e. h.room (sym (ready_pulled result t.marks) ∙ e));
      waited = omega (arith, h.waited, p.counts.idles, p.counts.stalls);
      marks = pulled_marks t.framing result t.max t.link l t.unread u (t.unread ++ p.piece) t.marks o h.marks p.counts p.came.is_open p.returned;
    }

pulled_shows : (result : WireIn) (t : TcpState) (u : List ℕ) (l : LinkView) → Holds t → PulledFrom (mark_of t.framing) t.max result t.unread u t.link l → AfterPull result (wire_of t) (wire_of (pulled_state result t l u))
pulled_shows result t u l h p =
    let s = step_of t.framing result t.max t.unread u p.piece t.link l p.returned in
    let place : l.place ≡ t.link.place = p.came.place in
    let written : l.written ≡ t.link.written = p.came.written in
    let peer : told_number l.came ≡ told_number t.link.came = number_on t.framing t.max t.unread p.piece t.link.came l.came p.came.came h.reads in
    let scheme : l.scheme ≡ t.link.scheme = p.came.scheme in
    let name : wire_name l t.max t.spent ≡ wire_name t.link t.max t.spent = (λ i. OverLink (place i) t.max (scheme_number (scheme i)) t.spent (told_number (written i)) (peer i)) in
    let came : taken_in t.framing t.max u l.came ≡ came_after result (taken_in t.framing t.max t.unread t.link.came) = taken_on t.framing t.max t.unread u p.piece (taken result) t.link.came l.came h.small s.fit s.is p.came.came h.reads ∙ came_is result (taken_in t.framing t.max t.unread t.link.came) in
    let outs : put_in t.framing t.waiting t.sent l.written ≡ put_in t.framing t.waiting t.sent t.link.written = ap (put_in t.framing t.waiting t.sent) written in
    after_pull result (wire_name t.link t.max t.spent) (wire_name l t.max t.spent) (taken_in t.framing t.max t.unread t.link.came) (taken_in t.framing t.max u l.came) (put_in t.framing t.waiting t.sent t.link.written) (put_in t.framing t.waiting t.sent l.written) (length t.waiting) (length t.waiting) false t.marks (bare_of t.framing result t.max (t.unread ++ p.piece) u t.link l p.returned) name came outs refl

tcp_pulled : (result : WireIn) (t : TcpState) (u : List ℕ) (l : LinkView) → Holds t → Holds (pulled_state result t l u) → PulledFrom (mark_of t.framing) t.max result t.unread u t.link l → TcpPulled result (tcp_view t) (tcp_view (pulled_state result t l u))
tcp_pulled result t u l h h2 p = record {
  cause = cause_of result t u (t.unread ++ p.piece) l h2 p.returned;
  piece = p.piece;
  came = p.came;
  counts = p.counts;
  max = refl;
  framing = refl;
  whole = (λ s e no_more. p.asked (λ part.
      no_more (subst (λ o. Told o (λ x. taken_in t.framing t.max t.unread t.link.came ≡ Some (stream_shows t.framing (number_in x) t.max x))) e (part_shown t h part))));
  bad = (λ s e over. p.asked (λ part. (subst (λ o. Told o (λ x. IsStreamBad t.framing (number_in x) t.max x → ⊥)) e (next_fits t h part)) over));
}

pub record Pulled (result : WireIn) (t t2 : TcpState) : Type 0 where
  pub holds : Holds t2
  pub after : AfterPull result (wire_of t) (wire_of t2)
  pub tcp : TcpPulled result (tcp_view t) (tcp_view t2)
  pub is_framed : Framed (tcp_view t2)

pub pulled : (result : WireIn) (t : TcpState) (u : List ℕ) (l : LinkView) → Holds t → t.marks.is_open ≡ true → PulledFrom (mark_of t.framing) t.max result t.unread u t.link l → Pulled result t (pulled_state result t l u)
pulled result t u l h o p =
    let h2 = pulled_holds result t u l h o p in
    record {
      holds = h2;
      after = pulled_shows result t u l h p;
      tcp = tcp_pulled result t u l h h2 p;
      is_framed = framed (pulled_state result t l u) h2;
    }
