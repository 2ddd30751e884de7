-- Writing, piece by piece.
use Rattle.std.proofs.Common.{◌≡◌, ◌≤◌, ◌<◌, ◌+◌, ◌-◌, ◌^◌, ◌++◌, ℕ, List, [], ◌∷◌, length, take, drop, refl, sym, ap, ◌∙◌, append-nil, append_assoc, arith, map}
use Rattle.std.proofs.lemmas.List.{length-append, length-take, length-drop, take-append-drop, take-append-le}
use Rattle.sp_base.specs.Outside.{grown}
use Rattle.sp_base.specs.Views.{LinkView}
use Rattle.sp_base.specs.Steps.{Went, AfterWrite}
use Rattle.sp_base.specs.declared.outside.LinkWrite.{LinkWrite}
use Rattle.sp_base.specs.declared.outside.LinkWrite.TheVariants as writes
use Rattle.sp_msg.specs.Views.{MessageView, wire_text}
use Rattle.sp_tcp.specs.Views.{OutletView}
use Rattle.sp_msg.specs.Links.{WriteCounts}
use Rattle.sp_base.specs.SpIpc.{marked, marked_all}
use Rattle.sp_tcp.specs.Marked.{IsMark}
use Rattle.sp_tcp.specs.Outlets.{SentWithin, IsLongRest, Passed, WrotePrefix, Wrote, WrotePiece}
use Rattle.sp_tcp.proofs.Buffers.{take_apart}
use Rattle.sp_tcp.proofs.Pulls.{grown-nil, grown-grown}
use Rattle.sp_tcp.proofs.Gathers.{first_within, long_prefix}
use Rattle.sp_tcp.proofs.MarkedFrames.{marked-nil, marked-cons, marked-append, length-marked}

pub went_none : (l : LinkView) → Went [] l l
went_none l = record { place = refl; scheme = refl; came = refl; written = grown-nil l.written; is_open = refl }

pub went_more : (p q : List ℕ) (l m n : LinkView) → Went p l m → Went q m n → Went (p ++ q) l n
went_more p q l m n a b = record {
  place = b.place ∙ a.place;
  scheme = b.scheme ∙ a.scheme;
  came = b.came ∙ a.came;
  written = b.written ∙ ap (λ o. grown o q) a.written ∙ grown-grown l.written p q;
  is_open = b.is_open ∙ a.is_open;
}

pub wrote_counts_refl : (l : LinkView) → WriteCounts l l
wrote_counts_refl l = record { faults = omega arith; idles = refl; stalls = omega arith; ended = refl }

wrote_counts_more : (l m n : LinkView) → WriteCounts l m → WriteCounts m n → WriteCounts l n
wrote_counts_more l m n a b = record {
  faults = omega (arith, a.faults, b.faults);
  idles = b.idles ∙ a.idles;
  stalls = omega (arith, a.stalls, b.stalls);
  ended = b.ended ∙ a.ended;
}

pub wrote_none : (mark : List ℕ) (o : OutletView) (l : LinkView) → Wrote mark o o l l
wrote_none mark o l = record {
  gone = [];
  piece = [];
  left = refl;
  text = append-nil (take o.sent (marked_all mark o.waiting)) ∙ ap (λ t. t ++ take o.sent (marked_all mark o.waiting)) (marked-nil mark);
  went = went_none l;
  counts = wrote_counts_refl l;
}

pub wrote_more : (mark : List ℕ) (o p q : OutletView) (l m n : LinkView) → Wrote mark o p l m → Wrote mark p q m n → Wrote mark o q l n
wrote_more mark o p q l m n a b = record {
  gone = a.gone ++ b.gone;
  piece = a.piece ++ b.piece;
  left = a.left ∙ ap (λ t. a.gone ++ t) b.left ∙ sym (append_assoc a.gone b.gone q.waiting);
  text = sym (append_assoc (take o.sent (marked_all mark o.waiting)) a.piece b.piece)
      ∙ ap (λ t. t ++ b.piece) a.text
      ∙ append_assoc (marked_all mark a.gone) (take p.sent (marked_all mark p.waiting)) b.piece
      ∙ ap (λ t. marked_all mark a.gone ++ t) b.text
      ∙ sym (append_assoc (marked_all mark a.gone) (marked_all mark b.gone) (take q.sent (marked_all mark q.waiting)))
      ∙ ap (λ t. t ++ take q.sent (marked_all mark q.waiting)) (sym (marked-append mark a.gone b.gone));
  went = went_more a.piece b.piece l m n a.went b.went;
  counts = wrote_counts_more l m n a.counts b.counts;
}

pub sent_le : (mark : List ℕ) (sent : ℕ) (w : List (List ℕ)) → SentWithin mark sent w → sent ≤ length (marked_all mark w)
sent_le mark sent [] e = omega (arith, e)
sent_le mark sent (t ∷ rest) lt = omega (arith, lt, ap length (marked-cons mark t rest), length-append (marked mark t) (marked_all mark rest), length-marked mark t)

-- what is left to be written falls
pub writes_fall : (mark : List ℕ) (o p : OutletView) (l m : LinkView) → SentWithin mark o.sent o.waiting → SentWithin mark p.sent p.waiting → (a : Wrote mark o p l m) → 0 < length a.piece → length (marked_all mark p.waiting) - p.sent < length (marked_all mark o.waiting) - o.sent
writes_fall mark o p l m within within_p a some =
    let all : length (marked_all mark o.waiting) ≡ length (marked_all mark a.gone) + length (marked_all mark p.waiting) = omega (arith, ap (λ t. length (marked_all mark t)) a.left, ap length (marked-append mark a.gone p.waiting), length-append (marked_all mark a.gone) (marked_all mark p.waiting)) in
    let x = sent_le mark o.sent o.waiting within in
    let y = sent_le mark p.sent p.waiting within_p in
    let both : o.sent + length a.piece ≡ length (marked_all mark a.gone) + p.sent = omega (
      arith,
      ap length a.text,
      length-append (take o.sent (marked_all mark o.waiting)) a.piece,
      length-append (marked_all mark a.gone) (take p.sent (marked_all mark p.waiting)),
      length-take o.sent (marked_all mark o.waiting),
      length-take p.sent (marked_all mark p.waiting),
      x,
      y,
    ) in
    omega (arith, all, both, x, y, some)

-- ---- one write

-- the counts of one write
wrote_counts : (mark : List ℕ) (o : OutletView) (l m : LinkView) (result : LinkWrite) → (w : WrotePrefix mark result o l m) → WriteCounts l m
wrote_counts mark o l m result w = record { faults = w.wrote.faults; idles = w.wrote.idles; stalls = w.wrote.stalls; ended = w.wrote.ended }

-- no more is written than there is
pub write_fits : (mark : List ℕ) (o : OutletView) (l m : LinkView) (n : ℕ) → (w : WrotePrefix mark (writes.Took n) o l m) → (o.sent + n ≤ length (marked_all mark o.waiting)) × (o.sent + n < 2 ^ 64)
write_fits mark o l m n w =
    let le = sent_le mark o.sent o.waiting w.within in
    let long : length (marked_all mark o.waiting) - o.sent ≡ length w.piece + length w.prefix.0 = omega (arith, ap length w.prefix.1, length-drop o.sent (marked_all mark o.waiting), length-append w.piece w.prefix.0) in
    (omega (arith, long, le, w.wrote.shows.1), omega (arith, w.few, w.wrote.shows.1))

pub took : (mark : List ℕ) (o : OutletView) (l m : LinkView) (n : ℕ) (new : List (List ℕ)) (left : ℕ) → WrotePrefix mark (writes.Took n) o l m → Passed mark (o.sent + n) o.waiting new left → SentWithin mark left new → WrotePiece mark (writes.Took n) o (record { waiting = new; sent = left }) l m
took mark o l m n new left w p within =
    let prefix : take n w.piece ≡ take n (drop o.sent (marked_all mark o.waiting)) = sym (ap (take n) w.prefix.1 ∙ take-append-le n w.piece w.prefix.0 w.wrote.shows.1) in
    let wrote : Wrote mark o (record { waiting = new; sent = left }) l m = record {
      gone = p.gone;
      piece = take n w.piece;
      left = p.is;
      text = ap (λ t. take o.sent (marked_all mark o.waiting) ++ t) prefix ∙ sym (take_apart o.sent n (marked_all mark o.waiting)) ∙ p.text;
      went = w.wrote.shows.2;
      counts = wrote_counts mark o l m (writes.Took n) w;
    } in
    (within, (wrote, omega (arith, length-take n w.piece, w.wrote.shows.0, w.wrote.shows.1)))

pub took_nothing : (mark : List ℕ) (o p : OutletView) (l m : LinkView) → p ≡ o → WrotePrefix mark writes.NotYet o l m → WrotePiece mark writes.NotYet o p l m
took_nothing mark o p l m e w = (e, w.wrote.shows.0, wrote_counts mark o l m writes.NotYet w, w.wrote.shows.1)

pub took_failed : (mark : List ℕ) (o p : OutletView) (l m : LinkView) → p ≡ o → WrotePrefix mark writes.Failed o l m → WrotePiece mark writes.Failed o p l m
took_failed mark o p l m e w = (e, w.wrote.shows.0, wrote_counts mark o l m writes.Failed w, w.wrote.shows.1)

-- ---- what one write starts from

abbrev pub outlet_of : List MessageView → ℕ → OutletView
outlet_of items sent = record { waiting = map wire_text items; sent = sent }

pub wrote_long : (mark : List ℕ) (items : List MessageView) (m : MessageView) (sent size : ℕ) (rest : List ℕ) (result : LinkWrite) (l l2 : LinkView) → items ≡ m ∷ drop 1 items → SentWithin mark sent (map wire_text items) → size ≡ length m.header + length m.body → size < 2 ^ 63 → IsMark mark → IsLongRest mark m sent rest → 0 < length rest → AfterWrite result rest l l2 → WrotePrefix mark result (outlet_of items sent) l l2
wrote_long mark items m sent size rest result l l2 first within e lt is_mark long some wrote = record {
  piece = rest;
  prefix = (marked_all mark (map wire_text (drop 1 items)), long_prefix mark items m sent rest first (first_within mark items m sent first within) (long some).0);
  few = omega (arith, is_mark, (long some).1, e, lt, length-append m.header m.body);
  within = within;
  wrote = wrote;
}

pub wrote_gathered : (mark : List ℕ) (items : List MessageView) (m : MessageView) (sent size most : ℕ) (buf : List ℕ) (result : LinkWrite) (l l2 : LinkView) → items ≡ m ∷ drop 1 items → SentWithin mark sent (map wire_text items) → size ≡ length m.header + length m.body → size < 2 ^ 63 → IsMark mark → most ≤ 65536 → buf ≡ take most (drop sent (marked_all mark (map wire_text items))) → AfterWrite result buf l l2 → WrotePrefix mark result (outlet_of items sent) l l2
wrote_gathered mark items m sent size most buf result l l2 first within e lt is_mark few is wrote =
    let rest : List ℕ = drop sent (marked_all mark (map wire_text items)) in
    let whole : buf ++ drop most rest ≡ rest = ap (λ t. t ++ drop most rest) is ∙ take-append-drop most rest in
    let short : length buf ≤ most = omega (arith, ap length is, length-take most rest) in
    record {
      piece = buf;
      prefix = (drop most rest, sym whole);
      few = omega (arith, is_mark, short, few, first_within mark items m sent first within, e, lt, length-append m.header m.body);
      within = within;
      wrote = wrote;
    }
