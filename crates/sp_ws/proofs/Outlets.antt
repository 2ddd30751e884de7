-- What sending and writing give, step by step.
use Rattle.std.proofs.Common.{◌≡◌, ◌≤◌, ◌<◌, ◌+◌, ◌-◌, ◌++◌, ◌⊎◌, ℕ, true, false, nat_lt, List, [], ◌∷◌, length, take, drop, get_or, Option, Some, None, refl, sym, ap, subst, ◌∙◌, inl, inr, append-nil, append_assoc, arith}
use Rattle.std.proofs.lemmas.Bool.{cond-true, cond-false}
use Rattle.std.proofs.lemmas.Bool.Decides.{nat_tests, leb_tells}
use Rattle.std.proofs.lemmas.List.{length-append, drop_more, take_more, take-append-drop, length-take}
use Rattle.sp_base.specs.Outside.{grown}
use Rattle.sp_base.specs.Views.{LinkView}
use Rattle.sp_base.specs.Steps.{Went, Quiet}
use Rattle.sp_ws.specs.Views.{FramesView, FrameOutletView, count_of}
use Rattle.sp_msg.specs.Links.{WriteCounts}
use Rattle.websocket.specs.declared.protocol.config.Role.{Role}
use Rattle.sp_ws.specs.Frames.{IsFrame}
use Rattle.websocket.specs.declared.protocol.frame.coding.OpCode.TheVariants as codes
use Rattle.websocket.specs.declared.protocol.frame.coding.Data.TheVariants as datas
use Rattle.websocket.specs.Frame.{encode_frame}
use Rattle.websocket.specs.FrameHeader.{encode_header}
use Rattle.websocket.specs.Connection.{whole_header}
use Rattle.sp_ws.specs.Outlets.{passed, AreWithin, AreFrames, GaveOldest, Gave, Wrote, WroteAll, Written, FlushResult, FlushedFrom, Answered}
use Rattle.sp_msg.specs.declared.wire.WireFlush.{WireFlush}
use Rattle.sp_msg.specs.declared.wire.WireFlush.TheVariants as flushes
use Rattle.sp_ws.specs.declared.frames.FrameOut.TheVariants as outs

lt_true : (a b : ℕ) → a < b → nat_lt a b ≡ true
lt_true a b h = grind (arith, nat_tests)

lt_false : (a b : ℕ) → b ≤ a → nat_lt a b ≡ false
lt_false a b h = grind (arith, nat_tests)

passed_gone : (n e : ℕ) (es : List ℕ) → e ≤ n → passed n (e ∷ es) ≡ passed n es
passed_gone n e es h = cond-false _ _ _ (lt_false n e h)

passed_left : (n e : ℕ) (es : List ℕ) → n < e → passed n (e ∷ es) ≡ (e - n) ∷ passed n es
passed_left n e es h = cond-true _ _ _ (lt_true n e h)

pub passed_more : (a b : ℕ) (es : List ℕ) → passed b (passed a es) ≡ passed (a + b) es
passed_more a b [] = refl
passed_more a b (e ∷ es) = elim (leb_tells e a) [
  | inl p ↦ ap (passed b) (passed_gone a e es p.1) ∙ passed_more a b es ∙ sym (passed_gone (a + b) e es (omega (arith, p.1)))
  | inr p ↦ ap (passed b) (passed_left a e es p.1) ∙ elim (leb_tells (e - a) b) [
    | inl q ↦ passed_gone b (e - a) (passed a es) q.1 ∙ passed_more a b es ∙ sym (passed_gone (a + b) e es (omega (arith, q.1)))
    | inr q ↦
        let k : e - a - b ≡ e - (a + b) = omega arith in
        passed_left b (e - a) (passed a es) q.1
        ∙ ap (λ (j : ℕ). j ∷ passed b (passed a es)) k
        ∙ ap (λ (x : List ℕ). (e - (a + b)) ∷ x) (passed_more a b es)
        ∙ sym (passed_left (a + b) e es (omega (arith, p.1, q.1)))
  ]
]

pub passed_append : (n : ℕ) (a b : List ℕ) → passed n (a ++ b) ≡ passed n a ++ passed n b
passed_append n [] b = refl
passed_append n (e ∷ es) b = elim (leb_tells e n) [
  | inl p ↦ passed_gone n e (es ++ b) p.1 ∙ passed_append n es b ∙ ap (λ (x : List ℕ). x ++ passed n b) (sym (passed_gone n e es p.1))
  | inr p ↦
      passed_left n e (es ++ b) p.1
      ∙ ap (λ (x : List ℕ). (e - n) ∷ x) (passed_append n es b)
      ∙ ap (λ (x : List ℕ). x ++ passed n b) (sym (passed_left n e es p.1))
]

-- the first of the places that are not passed yet
pub pass_step : (n k : ℕ) (xs now new : List ℕ) → k < length xs → now ≡ drop k xs ++ passed n (take k xs) → new ≡ drop 1 now ++ passed n (take 1 now) → new ≡ drop (k + 1) xs ++ passed n (take (k + 1) xs)
pass_step n k xs now new inside is next =
    let e : ℕ = get_or xs k 0 in
    let rest : List ℕ = drop (k + 1) xs ++ passed n (take k xs) in
    let now_is : now ≡ e ∷ rest = is ∙ ap (λ (x : List ℕ). x ++ passed n (take k xs)) (drop_more xs k 0 inside) in
    next
    ∙ ap (λ (x : List ℕ). drop 1 x ++ passed n (take 1 x)) now_is
    ∙ append_assoc (drop (k + 1) xs) (passed n (take k xs)) (passed n (e ∷ []))
    ∙ ap (λ (x : List ℕ). drop (k + 1) xs ++ x) (sym (passed_append n (take k xs) (e ∷ [])))
    ∙ ap (λ (x : List ℕ). drop (k + 1) xs ++ passed n x) (sym (take_more xs k 0 inside))

pub passed_zero : (es : List ℕ) (n : ℕ) → AreWithin n es → passed 0 es ≡ es
passed_zero [] n w = refl
passed_zero (e ∷ es) n w =
    let k : e - 0 ≡ e = omega arith in
    passed_left 0 e es w.0.0 ∙ ap (λ (j : ℕ). j ∷ passed 0 es) k ∙ ap (λ (x : List ℕ). e ∷ x) (passed_zero es n w.1)

pub passed_all : (n : ℕ) (es : List ℕ) → AreWithin n es → passed n es ≡ []
passed_all n [] w = refl
passed_all n (e ∷ es) w = passed_gone n e es w.0.1 ∙ passed_all n es w.1

pub passed_shorter : (n : ℕ) (es : List ℕ) → length (passed n es) ≤ length es
passed_shorter n [] = omega arith
passed_shorter n (e ∷ es) = elim (leb_tells e n) [
  | inl p ↦ omega (arith, ap length (passed_gone n e es p.1), passed_shorter n es)
  | inr p ↦ omega (arith, ap length (passed_left n e es p.1), passed_shorter n es)
]

pub passed_within : (n k : ℕ) (es : List ℕ) → AreWithin (n + k) es → AreWithin k (passed n es)
passed_within n k [] w = tt
passed_within n k (e ∷ es) w = elim (leb_tells e n) [
  | inl p ↦ subst (AreWithin k) (sym (passed_gone n e es p.1)) (passed_within n k es w.1)
  | inr p ↦ subst (AreWithin k) (sym (passed_left n e es p.1)) ((omega (arith, p.1), omega (arith, w.0.1)), passed_within n k es w.1)
]

pub within_more : (a b : ℕ) (es : List ℕ) → a ≤ b → AreWithin a es → AreWithin b es
within_more a b [] le w = tt
within_more a b (e ∷ es) le w = ((w.0.0, omega (arith, le, w.0.1)), within_more a b es le w.1)

pub within_add : (n e : ℕ) (es : List ℕ) → AreWithin n es → 0 < e → e ≤ n → AreWithin n (es ++ e ∷ [])
within_add n e [] w some le = ((some, le), tt)
within_add n e (f ∷ es) w some le = (w.0, within_add n e es w.1 some le)

-- ---- frames, one more

frames_add : (role : Role) (at : ℕ) (bodies : List (List ℕ)) (places : List ℕ) (s piece body : List ℕ) (p : ℕ) → AreFrames role at bodies places s → IsFrame role piece body → p ≡ at + length s + length piece → AreFrames role at (bodies ++ body ∷ []) (places ++ p ∷ []) (s ++ piece)
frames_add role at [] [] s piece body p a e is =
    let none : length s ≡ 0 = ap length a in
    (piece, [], ap (λ (x : List ℕ). x ++ piece) a ∙ sym (append-nil piece), e, omega (arith, is, none), refl)
frames_add role at [] (q ∷ qs) s piece body p a e is = absurd a
frames_add role at (b ∷ bs) [] s piece body p a e is = absurd a
frames_add role at (b ∷ bs) (q ∷ qs) s piece body p a e is =
    let k : p ≡ q + length a.1 + length piece = omega (arith, is, a.4, ap length a.2, length-append a.0 a.1) in
    (a.0, a.1 ++ piece, ap (λ (x : List ℕ). x ++ piece) a.2 ∙ append_assoc a.0 a.1 piece, a.3, a.4, frames_add role q bs qs a.1 piece body p a.5 e k)

-- as many places as frames
frames_count : (role : Role) (at : ℕ) (bodies : List (List ℕ)) (places s : List ℕ) → AreFrames role at bodies places s → length places ≡ length bodies
frames_count role at [] [] s a = refl
frames_count role at [] (q ∷ qs) s a = absurd a
frames_count role at (b ∷ bs) [] s a = absurd a
frames_count role at (b ∷ bs) (q ∷ qs) s a = omega (arith, frames_count role q bs qs a.1 a.5)

-- a frame is not empty
frame_some : (mask : Option (List ℕ)) (body : List ℕ) → 0 < length (encode_frame (whole_header (codes.Data datas.Binary) mask) body)
unfolding encode_header
frame_some mask body = omega arith

-- ---- giving

pub gave_none : (o : FrameOutletView) (f : FramesView) → Gave o o f f
gave_none o f = record {
  gone = [];
  places = [];
  bytes = [];
  held = refl;
  ends = sym (append-nil o.ends);
  waiting = sym (append-nil f.waiting);
  frames = refl;
  within = (λ w. w);
  sent = sym (append-nil f.sent);
  kept = refl;
}

-- what stays, step by step
kept_more : (f f2 f3 : FramesView) (waiting : List ℕ) (sent : List (List ℕ)) → f2 ≡ record f { waiting = f2.waiting; sent = f2.sent } → f3 ≡ record f2 { waiting = waiting; sent = sent } → f3 ≡ record f { waiting = f3.waiting; sent = f3.sent }
kept_more f f2 f3 waiting sent before after =
    let w : f3.waiting ≡ waiting = ap (λ (v : FramesView). v.waiting) after in
    let s : f3.sent ≡ sent = ap (λ (v : FramesView). v.sent) after in
    after ∙ ap (λ (v : FramesView). record v { waiting = waiting; sent = sent }) before ∙ (λ i. record f { waiting = sym w i; sent = sym s i })

role_of : (f f2 : FramesView) → f2 ≡ record f { waiting = f2.waiting; sent = f2.sent } → f2.role ≡ f.role
role_of f f2 kept = ap (λ (v : FramesView). v.role) kept

piece_some : (role : Role) (piece body : List ℕ) → IsFrame role piece body → 0 < length piece
piece_some role piece body e = omega (arith, ap length e.is, frame_some e.mask body)

-- one more was sent
pub gave_more : (o o2 o3 : FrameOutletView) (f f2 f3 : FramesView) → Gave o o2 f f2 → GaveOldest outs.Done o2 o3 f2 f3 → Gave o o3 f f3
gave_more o o2 o3 f f2 f3 g one =
    let s = one.3 in
    let body : List ℕ = one.0 in
    let here : f3.waiting ≡ f2.waiting ++ s.piece = ap (λ (v : FramesView). v.waiting) s.rest in
    let frame : IsFrame f.role s.piece body = subst (λ (r : Role). IsFrame r s.piece body) (role_of f f2 g.kept) s.frame in
    let waits : f3.waiting ≡ f.waiting ++ (g.bytes ++ s.piece) = here ∙ ap (λ (x : List ℕ). x ++ s.piece) g.waiting ∙ append_assoc f.waiting g.bytes s.piece in
    let long : length f3.waiting ≡ length f2.waiting + length s.piece = omega (arith, ap length here, length-append f2.waiting s.piece) in
    let place : length f3.waiting ≡ length f.waiting + length g.bytes + length s.piece = omega (arith, long, ap length g.waiting, length-append f.waiting g.bytes) in
    let some : 0 < length f3.waiting = omega (arith, long, piece_some f.role s.piece body frame) in
    record {
      gone = g.gone ++ body ∷ [];
      places = g.places ++ length f3.waiting ∷ [];
      bytes = g.bytes ++ s.piece;
      held = g.held ∙ ap (λ (x : List (List ℕ)). g.gone ++ x) one.1 ∙ sym (append_assoc g.gone (body ∷ []) o3.held);
      ends = one.2 ∙ ap (λ (x : List ℕ). x ++ length f3.waiting ∷ []) g.ends ∙ append_assoc o.ends g.places (length f3.waiting ∷ []);
      waiting = waits;
      frames = frames_add f.role (length f.waiting) g.gone g.places g.bytes s.piece body (length f3.waiting) g.frames frame place;
      within = (λ w. subst (AreWithin (length f3.waiting)) (sym one.2) (within_add (length f3.waiting) (length f3.waiting) o2.ends (within_more (length f2.waiting) (length f3.waiting) o2.ends (omega (arith, long)) (g.within w)) some (omega arith)));
      sent = ap (λ (v : FramesView). v.sent) s.rest ∙ ap (λ (x : List (List ℕ)). x ++ body ∷ []) g.sent ∙ append_assoc f.sent g.gone (body ∷ []);
      kept = kept_more f f2 f3 (f2.waiting ++ s.piece) (f2.sent ++ body ∷ []) g.kept s.rest;
    }

-- nothing was sent
pub gave_same : (o o2 o3 : FrameOutletView) (f f2 f3 : FramesView) → Gave o o2 f f2 → o3 ≡ o2 → f3 ≡ f2 → Gave o o3 f f3
gave_same o o2 o3 f f2 f3 g e s = record {
  gone = g.gone;
  places = g.places;
  bytes = g.bytes;
  held = g.held ∙ ap (λ (v : FrameOutletView). g.gone ++ v.held) (sym e);
  ends = ap (λ (v : FrameOutletView). v.ends) e ∙ g.ends;
  waiting = ap (λ (v : FramesView). v.waiting) s ∙ g.waiting;
  frames = g.frames;
  within = (λ h. subst (λ (v : FrameOutletView). AreWithin (length f3.waiting) v.ends) (sym e) (subst (λ (x : List ℕ). AreWithin (length x) o2.ends) (sym (ap (λ (v : FramesView). v.waiting) s)) (g.within h)));
  sent = ap (λ (v : FramesView). v.sent) s ∙ g.sent;
  kept = subst (λ (v : FramesView). v ≡ record f { waiting = v.waiting; sent = v.sent }) (sym s) g.kept;
}

-- ---- writing

pub grown-grown : (o : Option (List ℕ)) (p q : List ℕ) → grown (grown o p) q ≡ grown o (p ++ q)
grown-grown None p q = refl
grown-grown (Some s) p q = ap (λ (t : List ℕ). Some t) (append_assoc s p q)

pub grown-nil : (o : Option (List ℕ)) → o ≡ grown o []
grown-nil None = refl
grown-nil (Some s) = ap (λ (t : List ℕ). Some t) (sym (append-nil s))

pub counts_refl : (l : LinkView) → WriteCounts l l
counts_refl l = record { faults = omega arith; idles = refl; stalls = omega arith; ended = refl }

pub counts_more : (l m n : LinkView) → WriteCounts l m → WriteCounts m n → WriteCounts l n
counts_more l m n a b = record { faults = omega (arith, a.faults, b.faults); idles = b.idles ∙ a.idles; stalls = omega (arith, a.stalls, b.stalls); ended = b.ended ∙ a.ended }

pub went_more : (p q : List ℕ) (l m n : LinkView) → Went p l m → Went q m n → Went (p ++ q) l n
went_more p q l m n a b = record {
  place = b.place ∙ a.place;
  scheme = b.scheme ∙ a.scheme;
  came = b.came ∙ a.came;
  written = b.written ∙ ap (λ (o : Option (List ℕ)). grown o q) a.written ∙ grown-grown l.written p q;
  is_open = b.is_open ∙ a.is_open;
}

pub went_none : (l m : LinkView) → Quiet l m → Went [] l m
went_none l m a = record { place = a.place; scheme = a.scheme; came = a.came; written = a.written ∙ grown-nil l.written; is_open = a.is_open }

-- nothing was written
pub wrote_none : (o : FrameOutletView) (f : FramesView) (l m : LinkView) → passed 0 o.ends ≡ o.ends → Quiet l m → WriteCounts l m → Wrote o o f f l m
wrote_none o f l m same quiet counts = record { piece = []; waiting = refl; frames = refl; held = refl; ends = sym same; went = went_none l m quiet; counts = counts }

pub wrote_more : (a b c : FrameOutletView) (f g h : FramesView) (l m n : LinkView) → Wrote a b f g l m → Wrote b c g h m n → Wrote a c f h l n
wrote_more a b c f g h l m n x y = record {
  piece = x.piece ++ y.piece;
  waiting = x.waiting ∙ ap (λ (s : List ℕ). x.piece ++ s) y.waiting ∙ sym (append_assoc x.piece y.piece h.waiting);
  frames = y.frames ∙ ap (λ (v : FramesView). record v { waiting = h.waiting }) x.frames;
  held = y.held ∙ x.held;
  ends = y.ends ∙ ap (passed (length y.piece)) x.ends ∙ passed_more (length x.piece) (length y.piece) a.ends ∙ ap (λ (j : ℕ). passed j a.ends) (sym (length-append x.piece y.piece));
  went = went_more x.piece y.piece l m n x.went y.went;
  counts = counts_more l m n x.counts y.counts;
}

-- the places stay within what waits
pub wrote_within : (a b : FrameOutletView) (f g : FramesView) (l m : LinkView) → Wrote a b f g l m → AreWithin (length f.waiting) a.ends → AreWithin (length g.waiting) b.ends
wrote_within a b f g l m w inside =
    let long : length f.waiting ≡ length w.piece + length g.waiting = omega (arith, ap length w.waiting, length-append w.piece g.waiting) in
    subst (AreWithin (length g.waiting)) (sym w.ends) (passed_within (length w.piece) (length g.waiting) a.ends (subst (λ (n : ℕ). AreWithin n a.ends) long inside))

none_below : (e : ℕ) → 0 < e → e ≤ 0 → ⊥
none_below e p q = omega (arith, p, q)

within_none : (es : List ℕ) → AreWithin 0 es → es ≡ []
within_none [] w = refl
within_none (e ∷ es) w = absurd (none_below e w.0.0 w.0.1)

-- where nothing waits for the link, all frames are written
pub none_left : (a : FrameOutletView) (f : FramesView) → AreWithin (length f.waiting) a.ends → f.waiting ≡ [] → a.ends ≡ []
none_left a f inside e = within_none a.ends (subst (λ (x : List ℕ). AreWithin (length x) a.ends) e inside)

-- no more wait than before
pub fewer : (o mid new : FrameOutletView) (f g h : FramesView) (l m : LinkView) → Gave o mid f g → Wrote mid new g h l m → count_of new ≤ count_of o
fewer o mid new f g h l m a w =
    omega (
      arith,
      ap length a.held,
      length-append {A = List ℕ} a.gone mid.held,
      ap length a.ends,
      length-append {A = ℕ} o.ends a.places,
      frames_count f.role (length f.waiting) a.gone a.places a.bytes a.frames,
      ap length w.held,
      ap length w.ends,
      passed_shorter (length w.piece) mid.ends,
    )

pub quiet_refl : (l : LinkView) → Quiet l l
quiet_refl l = record { place = refl; scheme = refl; came = refl; written = refl; is_open = refl }

-- one write
pub took : (o o2 : FrameOutletView) (f f2 : FramesView) (l m : LinkView) (n : ℕ) → 0 < n → n ≤ length f.waiting → f2 ≡ record f { waiting = drop n f.waiting } → o2 ≡ record o { ends = passed n o.ends } → Went (take n f.waiting) l m → WriteCounts l m → (w : Wrote o o2 f f2 l m) × (0 < length w.piece)
took o o2 f f2 l m n some fits fe oe went counts =
    let long : length (take n f.waiting) ≡ n = omega (arith, length-take n f.waiting, fits) in
    let left : f2.waiting ≡ drop n f.waiting = ap (λ (v : FramesView). v.waiting) fe in (
      record {
        piece = take n f.waiting;
        waiting = sym (take-append-drop n f.waiting) ∙ ap (λ (x : List ℕ). take n f.waiting ++ x) (sym left);
        frames = fe ∙ ap (λ (x : List ℕ). record f { waiting = x }) (sym left);
        held = ap (λ (v : FrameOutletView). v.held) oe;
        ends = ap (λ (v : FrameOutletView). v.ends) oe ∙ ap (λ (j : ℕ). passed j o.ends) (sym long);
        went = went;
        counts = counts;
      },
      omega (arith, long, some),
    )

-- ---- a whole flush

pub flush_gave : (result : WireFlush) (o o2 : FrameOutletView) (f f2 : FramesView) (l : LinkView) → AreWithin (length f.waiting) o.ends → Gave o o2 f f2 → FlushResult result (count_of o2) f f2 l l → FlushedFrom result o o2 f f2 l l
flush_gave result o o2 f f2 l inside g a = record {
  mid = o2;
  framed = f2;
  gave = g;
  wrote = wrote_none o2 f2 l l (passed_zero o2.ends (length f2.waiting) (g.within inside)) (quiet_refl l) (counts_refl l);
  returned = a;
}

all_gone : (mid o3 : FrameOutletView) (f f2 : FramesView) (l m : LinkView) → AreWithin (length f.waiting) mid.ends → mid.held ≡ [] → Wrote mid o3 f f2 l m → f2.waiting ≡ [] → count_of o3 ≡ 0
all_gone mid o3 f f2 l m inside none w dry =
    let ends : o3.ends ≡ [] = none_left o3 f2 (wrote_within mid o3 f f2 l m w inside) dry in
    omega (arith, ap length (w.held ∙ none), ap length ends)

flush_result : (result : WireFlush) (mid o3 : FrameOutletView) (f0 f f2 : FramesView) (l m : LinkView) → AreWithin (length f.waiting) mid.ends → mid.held ≡ [] → f.refusals ≡ f0.refusals → Wrote mid o3 f f2 l m → WroteAll result f2 l m → 0 < count_of o3 → FlushResult result (count_of o3) f0 f2 l m
flush_result flushes.Empty mid o3 f0 f f2 l m inside none r w a some = (all_gone mid o3 f f2 l m inside none w a, ap (λ (v : FramesView). v.refusals) w.frames ∙ r, inl a)
flush_result flushes.NotYet mid o3 f0 f f2 l m inside none r w a some = (some, a, ap (λ (v : FramesView). v.refusals) w.frames ∙ r)
flush_result flushes.Failed mid o3 f0 f f2 l m inside none r w a some = (some, a, ap (λ (v : FramesView). v.refusals) w.frames ∙ r)
flush_result flushes.Refused mid o3 f0 f f2 l m inside none r w a some = absurd a
flush_result flushes.NoMemory mid o3 f0 f f2 l m inside none r w a some = absurd a

pub flush_wrote : (result : WireFlush) (o mid o3 : FrameOutletView) (f0 f f2 : FramesView) (l m : LinkView) → AreWithin (length f0.waiting) o.ends → Gave o mid f0 f → mid.held ≡ [] → f.refusals ≡ f0.refusals → Wrote mid o3 f f2 l m → WroteAll result f2 l m → 0 < count_of o3 → FlushedFrom result o o3 f0 f2 l m
flush_wrote result o mid o3 f0 f f2 l m inside g none r w a some = record { mid = mid; framed = f; gave = g; wrote = w; returned = flush_result result mid o3 f0 f f2 l m (g.within inside) none r w a some }

-- how it ended, where nothing is left to send
pub written : (result : WireFlush) (f : FramesView) (l m : LinkView) → WroteAll result f l m → Written f l m
written flushes.Empty f l m a = inl a
written flushes.NotYet f l m a = inr (inl a)
written flushes.Failed f l m a = inr (inr a)
written flushes.Refused f l m a = absurd a
written flushes.NoMemory f l m a = absurd a

pub flush_empty : (result : WireFlush) (o mid o3 : FrameOutletView) (f0 f f2 : FramesView) (l m : LinkView) → Gave o mid f0 f → f.refusals ≡ f0.refusals → Wrote mid o3 f f2 l m → WroteAll result f2 l m → count_of o3 ≡ 0 → FlushedFrom flushes.Empty o o3 f0 f2 l m
flush_empty result o mid o3 f0 f f2 l m g r w a none = record { mid = mid; framed = f; gave = g; wrote = w; returned = (none, ap (λ (v : FramesView). v.refusals) w.frames ∙ r, written result f2 l m a) }

-- ---- replies

not_some : (ends : List ℕ) → 0 < length ends → ends ≡ [] → ⊥
not_some ends some none = omega (arith, some, ap length none)

not_new : (had n : ℕ) → n ≤ had → had < n → ⊥
not_new had n le lt = omega (arith, le, lt)

-- no write is tried
pub answered_none : (had : ℕ) (o : FrameOutletView) (f : FramesView) (l : LinkView) → (0 < length o.ends) ⊎ (length f.waiting ≤ had) → Answered had o o f f l l
answered_none had o f l why = record {
  took = [];
  outlet = refl;
  waiting = refl;
  frames = refl;
  went = went_none l l (quiet_refl l);
  counts = counts_refl l;
  at_once = record {
    tried = (λ is_new none. elim why [ inl some ↦ absurd (not_some o.ends some none) | inr le ↦ absurd (not_new had (length f.waiting) le is_new) ]);
    none_new = (λ _. (refl, refl));
    none_first = (λ _. (refl, refl));
  };
}
