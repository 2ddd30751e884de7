-- A pull that goes on.
use Rattle.std.proofs.Common.{◌≡◌, ◌≤◌, ◌<◌, ◌+◌, ◌-◌, ◌++◌, ◌⊎◌, ℕ, List, [], length, Option, Some, None, refl, sym, ap, subst, ◌∙◌, false, inl, inr, append-nil, append_assoc, arith}
use Rattle.std.proofs.lemmas.List.{length-append}
use Rattle.sp_base.specs.Outside.{Rose, grown}
use Rattle.sp_base.specs.Views.{LinkView}
use Rattle.sp_base.specs.Steps.{Came, Quiet}
use Rattle.sp_msg.specs.declared.wire.WireIn.{WireIn}
use Rattle.sp_msg.specs.Links.{ReadCounts}
use Rattle.sp_tcp.specs.Inlets.{PullResult, PulledFrom}
use Rattle.sp_base.specs.SpIpc.{IsMarkedPart}
use Rattle.sp_tcp.specs.Marked.{head_of}

pub record PullGoing (mark : List ℕ) (max : ℕ) (old now : List ℕ) (link link' : LinkView) : Type 0 where
  pub piece : List ℕ
  pub unread : now ≡ old ++ piece
  pub came : Came piece link link'
  pub counts : ReadCounts link link'
  pub start : ((now ≡ old) × (link' ≡ link)) ⊎ (IsMarkedPart mark max old × (link.ended ≡ false))

pub grown-nil : (o : Option (List ℕ)) → o ≡ grown o []
grown-nil None = refl
grown-nil (Some s) = ap (λ (t : List ℕ). Some t) (sym (append-nil s))

pub grown-grown : (o : Option (List ℕ)) (p q : List ℕ) → grown (grown o p) q ≡ grown o (p ++ q)
grown-grown None p q = refl
grown-grown (Some s) p q = ap (λ (t : List ℕ). Some t) (append_assoc s p q)

pub rose_later : (a b c : ℕ) → a ≤ b → Rose b c → Rose a c
rose_later a b c le r = omega (arith, r)

pub counts_refl : (l : LinkView) → ReadCounts l l
counts_refl l = record { faults = omega arith; idles = omega arith; stalls = refl }

pub counts_more : (l m n : LinkView) → ReadCounts l m → ReadCounts m n → ReadCounts l n
counts_more l m n a b = record {
  faults = omega (arith, a.faults, b.faults);
  idles = omega (arith, a.idles, b.idles);
  stalls = b.stalls ∙ a.stalls;
}

pub came_none : (l : LinkView) → Came [] l l
came_none l = record { place = refl; scheme = refl; came = grown-nil l.came; written = refl; is_open = refl }

pub came_more : (p q : List ℕ) (l m n : LinkView) → Came p l m → Came q m n → Came (p ++ q) l n
came_more p q l m n a b = record {
  place = b.place ∙ a.place;
  scheme = b.scheme ∙ a.scheme;
  came = b.came ∙ ap (λ o. grown o q) a.came ∙ grown-grown l.came p q;
  written = b.written ∙ a.written;
  is_open = b.is_open ∙ a.is_open;
}

pub came_quiet : (p : List ℕ) (l m n : LinkView) → Came p l m → Quiet m n → Came p l n
came_quiet p l m n a b = record { place = b.place ∙ a.place; scheme = b.scheme ∙ a.scheme; came = b.came ∙ a.came; written = b.written ∙ a.written; is_open = b.is_open ∙ a.is_open }

pub going_start : (mark : List ℕ) (max : ℕ) (old : List ℕ) (l : LinkView) → PullGoing mark max old old l l
going_start mark max old l = record { piece = []; unread = sym (append-nil old); came = came_none l; counts = counts_refl l; start = inl (refl, refl) }

-- the start was a part too
pub began_part : (mark : List ℕ) (max : ℕ) (old now : List ℕ) (l m : LinkView) → PullGoing mark max old now l m → IsMarkedPart mark max now → IsMarkedPart mark max old
began_part mark max old now l m going part = elim going.start [ inl e ↦ subst (IsMarkedPart mark max) e.0 part | inr p ↦ p.0 ]

-- the link had not ended at the start either
pub began_open : (mark : List ℕ) (max : ℕ) (old now : List ℕ) (l m : LinkView) → PullGoing mark max old now l m → m.ended ≡ false → l.ended ≡ false
began_open mark max old now l m going e = elim going.start [ inl s ↦ sym (ap (λ (v : LinkView). v.ended) s.1) ∙ e | inr p ↦ p.1 ]

pub going_more : (mark : List ℕ) (max : ℕ) (old now next piece : List ℕ) (l m n : LinkView) → PullGoing mark max old now l m → IsMarkedPart mark max now → next ≡ now ++ piece → Came piece m n → ReadCounts m n → m.ended ≡ false → PullGoing mark max old next l n
going_more mark max old now next piece l m n going part e came counts unended = record {
  piece = going.piece ++ piece;
  unread = e ∙ ap (λ t. t ++ piece) going.unread ∙ append_assoc old going.piece piece;
  came = came_more going.piece piece l m n going.came came;
  counts = counts_more l m n going.counts counts;
  start = inr (began_part mark max old now l m going part, began_open mark max old now l m going unended);
}

pub falls : (mark : List ℕ) (max : ℕ) (now next piece : List ℕ) → IsMarkedPart mark max now → next ≡ now ++ piece → 0 < length piece → head_of mark + max - length next < head_of mark + max - length now
falls mark max now next piece part e some =
    let long : length next ≡ length now + length piece = omega (arith, ap length e, length-append now piece) in
    elim part [
      | inl a ↦ omega (arith, ap length a.1, length-append now a.0, long, a.2, some)
      | inr b ↦ (
          let whole : length now ≡ length mark + length b.0 = omega (arith, ap length b.1, length-append mark b.0) in
          elim b.2 [ inl x ↦ omega (arith, whole, long, some, x) | inr x ↦ omega (arith, whole, long, some, x) ])
    ]

-- a result without a further byte
pub pulled_here : (mark : List ℕ) (max : ℕ) (result : WireIn) (old now next : List ℕ) (l m : LinkView) → PullGoing mark max old now l m → PullResult mark max result now next l m → PulledFrom mark max result old next l m
pulled_here mark max result old now next l m going returned = record {
  piece = going.piece;
  came = going.came;
  counts = going.counts;
  returned = subst (λ t. PullResult mark max result t next l m) going.unread returned;
  asked = (λ no. elim going.start [ inl e ↦ e.1 | inr p ↦ absurd (no p.0) ]);
}

-- a result that a read gave
pub pulled_read : (mark : List ℕ) (max : ℕ) (result : WireIn) (old now next : List ℕ) (l m n : LinkView) → PullGoing mark max old now l m → IsMarkedPart mark max now → Quiet m n → ReadCounts m n → PullResult mark max result now next l n → PulledFrom mark max result old next l n
pulled_read mark max result old now next l m n going part quiet counts returned = record {
  piece = going.piece;
  came = came_quiet going.piece l m n going.came quiet;
  counts = counts_more l m n going.counts counts;
  returned = subst (λ t. PullResult mark max result t next l n) going.unread returned;
  asked = (λ no. absurd (no (began_part mark max old now l m going part)));
}
