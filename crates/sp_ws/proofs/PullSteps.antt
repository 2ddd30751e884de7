-- A pull that goes on.
use Rattle.std.proofs.Common.{◌≡◌, ◌≤◌, ◌++◌, ℕ, Bool, true, false, List, [], ◌∷◌, length, Option, refl, sym, ap, subst, ◌∙◌, inl, inr, append-nil, append_assoc, arith}
use Rattle.std.specs.List.{All}
use Rattle.std.specs.Prelude.{Result, Ok, Err, ◌==◌}
use Rattle.std.proofs.lemmas.List.Elements.{All-nil, All-cons, All-append, All-weaker}
use Rattle.tungstenite.specs.declared.error.Error.{Error}
use Rattle.tungstenite.specs.declared.message.Message.{Message}
use Rattle.tungstenite.specs.declared.message.Message.TheVariants as messages
use Rattle.sp_base.specs.Outside.{Rose, grown}
use Rattle.sp_base.specs.Views.{LinkView}
use Rattle.sp_base.specs.Steps.{Came, Quiet}
use Rattle.sp_msg.specs.declared.wire.WireIn.{WireIn}
use Rattle.sp_msg.specs.declared.wire.WireIn.TheVariants as ins
use Rattle.sp_ws.specs.Views.{FramesView, all_fed, IsFed}
use Rattle.sp_msg.specs.Links.{ReadCounts}
use Rattle.sp_ws.specs.Frames.{IsPassed, Names, came_with, AfterNext}
use Rattle.sp_ws.specs.Pulls.{IsIdle, PullResult, PullGoing, GoesOn, ReadOn, ReadLast, PullReads, WasFed, PulledFrom, IsTaken}
use Rattle.sp_ws.specs.declared.frames.FrameIn.{FrameIn}
use Rattle.sp_ws.specs.declared.frames.FrameIn.TheVariants as frames
use Rattle.sp_ws.proofs.Outlets.{grown-grown, grown-nil}

pub rose_later : (a b c : ℕ) → a ≤ b → Rose b c → Rose a c
rose_later a b c le r = omega (arith, le, r)

pub counts_refl : (l : LinkView) → ReadCounts l l
counts_refl l = record { faults = omega arith; idles = omega arith; stalls = refl }

pub counts_more : (l m n : LinkView) → ReadCounts l m → ReadCounts m n → ReadCounts l n
counts_more l m n a b = record { faults = omega (arith, a.faults, b.faults); idles = omega (arith, a.idles, b.idles); stalls = b.stalls ∙ a.stalls }

pub came_none : (l : LinkView) → Came [] l l
came_none l = record { place = refl; scheme = refl; came = grown-nil l.came; written = refl; is_open = refl }

pub came_more : (p q : List ℕ) (l m n : LinkView) → Came p l m → Came q m n → Came (p ++ q) l n
came_more p q l m n a b = record {
  place = b.place ∙ a.place;
  scheme = b.scheme ∙ a.scheme;
  came = b.came ∙ ap (λ (o : Option (List ℕ)). grown o q) a.came ∙ grown-grown l.came p q;
  written = b.written ∙ a.written;
  is_open = b.is_open ∙ a.is_open;
}

pub came_quiet : (p : List ℕ) (l m n : LinkView) → Came p l m → Quiet m n → Came p l n
came_quiet p l m n a b = record { place = b.place ∙ a.place; scheme = b.scheme ∙ a.scheme; came = b.came ∙ a.came; written = b.written ∙ a.written; is_open = b.is_open ∙ a.is_open }

abbrev pub going_start : (f : FramesView) (l : LinkView) → PullGoing f f l l
going_start f l = record { piece = []; came = came_none l; counts = counts_refl l; replies = []; waiting = sym (append-nil f.waiting); sent = refl; refusals = refl; role = refl }

abbrev pub going_next : (returned : FrameIn) (f f2 f3 : FramesView) (l m : LinkView) → PullGoing f f2 l m → AfterNext returned f2 f3 → PullGoing f f3 l m
going_next returned f f2 f3 l m g a = record {
  piece = g.piece;
  came = g.came;
  counts = g.counts;
  replies = g.replies ++ a.replies;
  waiting = a.waiting ∙ ap (λ (x : List ℕ). x ++ a.replies) g.waiting ∙ append_assoc f.waiting g.replies a.replies;
  sent = a.sent ∙ g.sent;
  refusals = a.refusals ∙ g.refusals;
  role = a.role ∙ g.role;
}

abbrev pub going_read : (piece : List ℕ) (f f2 f3 : FramesView) (l m n : LinkView) → PullGoing f f2 l m → Came piece m n → f3 ≡ record f2 { fed = f2.fed ++ piece } → ReadCounts m n → PullGoing f f3 l n
going_read piece f f2 f3 l m n g c e counts = record {
  piece = g.piece ++ piece;
  came = came_more g.piece piece l m n g.came c;
  counts = counts_more l m n g.counts counts;
  replies = g.replies;
  waiting = ap (λ (v : FramesView). v.waiting) e ∙ g.waiting;
  sent = ap (λ (v : FramesView). v.sent) e ∙ g.sent;
  refusals = ap (λ (v : FramesView). v.refusals) e ∙ g.refusals;
  role = ap (λ (v : FramesView). v.role) e ∙ g.role;
}

-- bytes came that could not be fed
abbrev pub going_lost : (piece : List ℕ) (f f2 f3 : FramesView) (l m n : LinkView) → PullGoing f f2 l m → Came piece m n → f3 ≡ f2 → ReadCounts m n → PullGoing f f3 l n
going_lost piece f f2 f3 l m n g c e counts = record {
  piece = g.piece ++ piece;
  came = came_more g.piece piece l m n g.came c;
  counts = counts_more l m n g.counts counts;
  replies = g.replies;
  waiting = ap (λ (v : FramesView). v.waiting) e ∙ g.waiting;
  sent = ap (λ (v : FramesView). v.sent) e ∙ g.sent;
  refusals = ap (λ (v : FramesView). v.refusals) e ∙ g.refusals;
  role = ap (λ (v : FramesView). v.role) e ∙ g.role;
}

abbrev pub going_quiet : (f f2 f3 : FramesView) (l m n : LinkView) → PullGoing f f2 l m → f3 ≡ f2 → Quiet m n → ReadCounts m n → PullGoing f f3 l n
going_quiet f f2 f3 l m n g e q counts = record {
  piece = g.piece;
  came = came_quiet g.piece l m n g.came q;
  counts = counts_more l m n g.counts counts;
  replies = g.replies;
  waiting = ap (λ (v : FramesView). v.waiting) e ∙ g.waiting;
  sent = ap (λ (v : FramesView). v.sent) e ∙ g.sent;
  refusals = ap (λ (v : FramesView). v.refusals) e ∙ g.refusals;
  role = ap (λ (v : FramesView). v.role) e ∙ g.role;
}

-- ---- what was fed

pub fed_start : (f : FramesView) → IsFed [] f f
fed_start f = sym (append-nil (all_fed f))

pub fed_next : (returned : FrameIn) (piece : List ℕ) (f f2 f3 : FramesView) → IsFed piece f f2 → AfterNext returned f2 f3 → IsFed piece f f3
fed_next returned piece f f2 f3 h a = a.fed ∙ h

pub fed_same : (piece : List ℕ) (f f2 f3 : FramesView) → IsFed piece f f2 → f3 ≡ f2 → IsFed piece f f3
fed_same piece f f2 f3 h e = ap all_fed e ∙ h

pub fed_more : (piece more : List ℕ) (f f2 f3 : FramesView) → IsFed piece f f2 → f3 ≡ record f2 { fed = f2.fed ++ more } → IsFed (piece ++ more) f f3
fed_more piece more f f2 f3 h e =
    ap all_fed e
    ∙ sym (append_assoc f2.handed f2.fed more)
    ∙ ap (λ (x : List ℕ). x ++ more) h
    ∙ append_assoc (all_fed f) piece more

-- where nothing is lost it is so too
all_of_it : (piece : List ℕ) (f f2 : FramesView) → IsFed piece f f2 → WasFed ins.NoMemory piece f f2
all_of_it piece f f2 h = (piece, [], sym (append-nil piece), h)

-- ---- what was read

pass_goes : (r : Result Message Error) → IsPassed r → GoesOn r
pass_goes (Ok m) h = h
pass_goes (Err e) h = absurd h

all_go : (rs : List (Result Message Error)) → All IsPassed rs → All GoesOn rs
all_go rs h = All-weaker IsPassed GoesOn pass_goes rs h

one_goes : (r : Result Message Error) → GoesOn r → All GoesOn (r ∷ [])
one_goes r h = All-cons GoesOn r [] h (All-nil GoesOn)

-- a read that gave nothing
idle_goes : (r : Result Message Error) (is_empty : Bool) → Names frames.Idle r is_empty → GoesOn r
idle_goes (Ok (messages.Text s)) is_empty n = absurd (cc n)
idle_goes (Ok (messages.Binary s)) is_empty n = absurd n
idle_goes (Ok (messages.Ping s)) is_empty n = absurd n
idle_goes (Ok (messages.Pong s)) is_empty n = absurd n
idle_goes (Ok (messages.Close frame)) is_empty n = absurd (cc n)
idle_goes (Err e) is_empty n = n.0

-- reads after reads
behind : (a b : List (Result Message Error)) (x y z : List (Result Message Error)) → y ≡ x ++ a → z ≡ y ++ b → z ≡ x ++ (a ++ b)
behind a b x y z e f = f ∙ ap (λ (l : List (Result Message Error)). l ++ b) e ∙ append_assoc x a b

pub read_on_start : (f : FramesView) → ReadOn f f
read_on_start f = record { before = []; are = All-nil GoesOn; reads = sym (append-nil f.reads) }

no_memory_of : frames.Idle ≡ frames.NoMemory → ⊥
no_memory_of e = cc e

pub read_on_idle : (f f2 f3 : FramesView) → ReadOn f f2 → AfterNext frames.Idle f2 f3 → ReadOn f f3
read_on_idle f f2 f3 g a = elim a.reads.last [
  | inl x ↦ record {
    before = g.before ++ (a.reads.passed ++ x.0 ∷ []);
    are = All-append GoesOn g.before (a.reads.passed ++ x.0 ∷ []) g.are (All-append GoesOn a.reads.passed (x.0 ∷ []) (all_go a.reads.passed a.reads.are) (one_goes x.0 (idle_goes x.0 (f3.left == 0) x.2)));
    reads = behind g.before (a.reads.passed ++ x.0 ∷ []) f.reads f2.reads f3.reads g.reads x.1;
  }
  | inr y ↦ absurd (no_memory_of y.0)
]

pub read_on_same : (f f2 f3 : FramesView) → ReadOn f f2 → f3.reads ≡ f2.reads → ReadOn f f3
read_on_same f f2 f3 g e = record { before = g.before; are = g.are; reads = e ∙ g.reads }

-- the last read of a pull
pub read_last : (returned : FrameIn) (f f2 f3 : FramesView) → ReadOn f f2 → f2.came ≡ f.came → AfterNext returned f2 f3 → (returned ≡ frames.NoMemory → ⊥) → ReadLast f f3
read_last returned f f2 f3 g c a other = elim a.reads.last [
  | inl x ↦ record {
    before = g.before ++ a.reads.passed;
    are = All-append GoesOn g.before a.reads.passed g.are (all_go a.reads.passed a.reads.are);
    r = x.0;
    reads = behind g.before (a.reads.passed ++ x.0 ∷ []) f.reads f2.reads f3.reads g.reads x.1 ∙ ap (λ (l : List (Result Message Error)). f.reads ++ l) (sym (append_assoc g.before a.reads.passed (x.0 ∷ [])));
    returned = returned;
    named = x.2;
    last = a.last;
    came = a.came ∙ ap (came_with returned) c;
  }
  | inr y ↦ absurd (other y.0)
]

-- whatever was read comes after what was read before
pub read_more : (returned : FrameIn) (f f2 f3 : FramesView) → ReadOn f f2 → AfterNext returned f2 f3 → (more : List (Result Message Error)) × (f3.reads ≡ f.reads ++ more)
read_more returned f f2 f3 g a = elim a.reads.last [
  | inl x ↦ (g.before ++ (a.reads.passed ++ x.0 ∷ []), behind g.before (a.reads.passed ++ x.0 ∷ []) f.reads f2.reads f3.reads g.reads x.1)
  | inr y ↦ (g.before ++ y.1.0, behind g.before y.1.0 f.reads f2.reads f3.reads g.reads y.1.1)
]

pub more_same : (f f2 f3 : FramesView) → ((more : List (Result Message Error)) × (f2.reads ≡ f.reads ++ more)) → f3 ≡ f2 → (more : List (Result Message Error)) × (f3.reads ≡ f.reads ++ more)
more_same f f2 f3 m e = (m.0, ap (λ (v : FramesView). v.reads) e ∙ m.1)

not_binary : (b : List ℕ) → frames.Binary b ≡ frames.NoMemory → ⊥
not_binary b e = cc e

-- the reads of a pull that gave a body
body_reads : (max : ℕ) (result : WireIn) (lost : Bool) (body : List ℕ) (f f2 f3 : FramesView) → ReadOn f f2 → f2.came ≡ f.came → AfterNext (frames.Binary body) f2 f3 → IsTaken max result lost body → PullReads result f f3
body_reads max (ins.Message m) lost body f f2 f3 g c a t = read_last (frames.Binary body) f f2 f3 g c a (not_binary body)
body_reads max ins.NotYet lost body f f2 f3 g c a t = absurd t
body_reads max ins.Ended lost body f f2 f3 g c a t = absurd t
body_reads max ins.Malformed lost body f f2 f3 g c a t = read_last (frames.Binary body) f f2 f3 g c a (not_binary body)
body_reads max ins.Failed lost body f f2 f3 g c a t = absurd t
body_reads max ins.Refused lost body f f2 f3 g c a t = absurd t
body_reads max ins.NoMemory lost body f f2 f3 g c a t = read_more (frames.Binary body) f f2 f3 g a

-- what was fed in a pull that gave a body
body_fed : (max : ℕ) (result : WireIn) (lost : Bool) (body piece : List ℕ) (f f2 : FramesView) → IsFed piece f f2 → IsTaken max result lost body → WasFed result piece f f2
body_fed max (ins.Message m) lost body piece f f2 h t = h
body_fed max ins.NotYet lost body piece f f2 h t = absurd t
body_fed max ins.Ended lost body piece f f2 h t = absurd t
body_fed max ins.Malformed lost body piece f f2 h t = h
body_fed max ins.Failed lost body piece f f2 h t = absurd t
body_fed max ins.Refused lost body piece f f2 h t = absurd t
body_fed max ins.NoMemory lost body piece f f2 h t = all_of_it piece f f2 h

-- ---- a body that came

taken_result : (max : ℕ) (result : WireIn) (lost : Bool) (came : List (List ℕ)) (f : FramesView) (l m : LinkView) (body : List ℕ) → f.came ≡ came ++ body ∷ [] → IsTaken max result lost body → PullResult max result lost came f l m
taken_result max (ins.Message msg) lost came f l m body e t = (t.0, subst (λ (b : List ℕ). length b ≤ max) (sym t.1) t.2, e ∙ ap (λ (b : List ℕ). came ++ b ∷ []) (sym t.1), t.3)
taken_result max ins.NotYet lost came f l m body e t = absurd t
taken_result max ins.Ended lost came f l m body e t = absurd t
taken_result max ins.Malformed lost came f l m body e t = inr (body, (e, t.1), t.0)
taken_result max ins.Failed lost came f l m body e t = absurd t
taken_result max ins.Refused lost came f l m body e t = absurd t
taken_result max ins.NoMemory lost came f l m body e t = inr (body, (e, t))

pub pulled_body : (max : ℕ) (result : WireIn) (lost : Bool) (body : List ℕ) (f f2 f3 : FramesView) (l m : LinkView) (g : PullGoing f f2 l m) → ReadOn f f2 → f2.came ≡ f.came → IsFed g.piece f f2 → AfterNext (frames.Binary body) f2 f3 → IsTaken max result lost body → PulledFrom max result lost f f3 l m
pulled_body max result lost body f f2 f3 l m g on c h a t = record {
  going = going_next (frames.Binary body) f f2 f3 l m g a;
  returned = taken_result max result lost f.came f3 l m body (a.came ∙ ap (λ (x : List (List ℕ)). x ++ body ∷ []) c) t;
  reads = body_reads max result lost body f f2 f3 on c a t;
  fed = body_fed max result lost body g.piece f f3 (fed_next (frames.Binary body) g.piece f f2 f3 h a) t;
}

-- the frames are still idle
pub idle_still : (f f2 : FramesView) → AfterNext frames.Idle f f2 → (f3 : FramesView) → f3 ≡ f2 → IsIdle f3
idle_still f f2 a f3 e = subst IsIdle (sym e) (a.last, a.read.0, a.read.1)

-- ---- pulls that end the wire, or find nothing

came_none_of : (returned : FrameIn) (f f2 f3 : FramesView) → came_with returned f2.came ≡ f2.came → f2.came ≡ f.came → AfterNext returned f2 f3 → f3.came ≡ f.came
came_none_of returned f f2 f3 same c a = a.came ∙ same ∙ c

not_text : frames.Text ≡ frames.NoMemory → ⊥
not_text e = cc e

not_broken : frames.Broken ≡ frames.NoMemory → ⊥
not_broken e = cc e

not_closed : frames.Closed ≡ frames.NoMemory → ⊥
not_closed e = cc e

pub pulled_text : (max : ℕ) (f f2 f3 : FramesView) (l m : LinkView) (g : PullGoing f f2 l m) → ReadOn f f2 → f2.came ≡ f.came → IsFed g.piece f f2 → AfterNext frames.Text f2 f3 → PulledFrom max ins.Malformed false f f3 l m
pulled_text max f f2 f3 l m g on c h a = record {
  going = going_next frames.Text f f2 f3 l m g a;
  returned = inl ((came_none_of frames.Text f f2 f3 refl c a, refl), inl a.last);
  reads = read_last frames.Text f f2 f3 on c a not_text;
  fed = fed_next frames.Text g.piece f f2 f3 h a;
}

pub pulled_broken : (max : ℕ) (f f2 f3 : FramesView) (l m : LinkView) (g : PullGoing f f2 l m) → ReadOn f f2 → f2.came ≡ f.came → IsFed g.piece f f2 → AfterNext frames.Broken f2 f3 → PulledFrom max ins.Malformed false f f3 l m
pulled_broken max f f2 f3 l m g on c h a = record {
  going = going_next frames.Broken f f2 f3 l m g a;
  returned = inl ((came_none_of frames.Broken f f2 f3 refl c a, refl), inr a.last);
  reads = read_last frames.Broken f f2 f3 on c a not_broken;
  fed = fed_next frames.Broken g.piece f f2 f3 h a;
}

pub pulled_closed : (max : ℕ) (f f2 f3 : FramesView) (l m : LinkView) (g : PullGoing f f2 l m) → ReadOn f f2 → f2.came ≡ f.came → IsFed g.piece f f2 → AfterNext frames.Closed f2 f3 → PulledFrom max ins.Ended false f f3 l m
pulled_closed max f f2 f3 l m g on c h a = record {
  going = going_next frames.Closed f f2 f3 l m g a;
  returned = ((came_none_of frames.Closed f f2 f3 refl c a, refl), inl a.last);
  reads = read_last frames.Closed f f2 f3 on c a not_closed;
  fed = fed_next frames.Closed g.piece f f2 f3 h a;
}

idle_last : (f f2 f3 f4 : FramesView) → ReadOn f f2 → f2.came ≡ f.came → AfterNext frames.Idle f2 f3 → f4 ≡ f3 → ReadLast f f4
idle_last f f2 f3 f4 on c a e = subst (λ (v : FramesView). ReadLast f v) (sym e) (read_last frames.Idle f f2 f3 on c a no_memory_of)

idle_came : (f f2 f3 f4 : FramesView) → f2.came ≡ f.came → AfterNext frames.Idle f2 f3 → f4 ≡ f3 → f4.came ≡ f.came
idle_came f f2 f3 f4 c a e = ap (λ (v : FramesView). v.came) e ∙ came_none_of frames.Idle f f2 f3 refl c a

pub pulled_not_yet : (max : ℕ) (f f2 f3 f4 : FramesView) (l m n : LinkView) (g : PullGoing f f2 l m) → ReadOn f f2 → f2.came ≡ f.came → IsFed g.piece f f2 → AfterNext frames.Idle f2 f3 → f4 ≡ f3 → Quiet m n → ReadCounts m n → Rose m.idles n.idles → PulledFrom max ins.NotYet false f f4 l n
pulled_not_yet max f f2 f3 f4 l m n g on c h a e q counts rose = record {
  going = going_quiet f f3 f4 l m n (going_next frames.Idle f f2 f3 l m g a) e q counts;
  returned = ((idle_came f f2 f3 f4 c a e, refl), idle_still f2 f3 a f4 e, rose_later l.idles m.idles n.idles g.counts.idles rose);
  reads = idle_last f f2 f3 f4 on c a e;
  fed = fed_same g.piece f f3 f4 (fed_next frames.Idle g.piece f f2 f3 h a) e;
}

pub pulled_ended : (max : ℕ) (f f2 f3 f4 : FramesView) (l m n : LinkView) (g : PullGoing f f2 l m) → ReadOn f f2 → f2.came ≡ f.came → IsFed g.piece f f2 → AfterNext frames.Idle f2 f3 → f4 ≡ f3 → Quiet m n → ReadCounts m n → n.ended ≡ true → PulledFrom max ins.Ended false f f4 l n
pulled_ended max f f2 f3 f4 l m n g on c h a e q counts ended = record {
  going = going_quiet f f3 f4 l m n (going_next frames.Idle f f2 f3 l m g a) e q counts;
  returned = ((idle_came f f2 f3 f4 c a e, refl), inr (ended, idle_still f2 f3 a f4 e));
  reads = idle_last f f2 f3 f4 on c a e;
  fed = fed_same g.piece f f3 f4 (fed_next frames.Idle g.piece f f2 f3 h a) e;
}

pub pulled_failed : (max : ℕ) (f f2 f3 f4 : FramesView) (l m n : LinkView) (g : PullGoing f f2 l m) → ReadOn f f2 → f2.came ≡ f.came → IsFed g.piece f f2 → AfterNext frames.Idle f2 f3 → f4 ≡ f3 → Quiet m n → ReadCounts m n → Rose m.faults n.faults → PulledFrom max ins.Failed false f f4 l n
pulled_failed max f f2 f3 f4 l m n g on c h a e q counts rose = record {
  going = going_quiet f f3 f4 l m n (going_next frames.Idle f f2 f3 l m g a) e q counts;
  returned = ((idle_came f f2 f3 f4 c a e, refl), idle_still f2 f3 a f4 e, rose_later l.faults m.faults n.faults g.counts.faults rose);
  reads = idle_last f f2 f3 f4 on c a e;
  fed = fed_same g.piece f f3 f4 (fed_next frames.Idle g.piece f f2 f3 h a) e;
}

-- ---- pulls that are out of memory

-- the last bytes from the link could not be fed
pub pulled_unfed : (max : ℕ) (piece : List ℕ) (f f2 f3 f4 : FramesView) (l m n : LinkView) (g : PullGoing f f2 l m) → ReadOn f f2 → f2.came ≡ f.came → IsFed g.piece f f2 → AfterNext frames.Idle f2 f3 → f4 ≡ f3 → Came piece m n → ReadCounts m n → PulledFrom max ins.NoMemory false f f4 l n
pulled_unfed max piece f f2 f3 f4 l m n g on c h a e came counts = record {
  going = going_lost piece f f3 f4 l m n (going_next frames.Idle f f2 f3 l m g a) came e counts;
  returned = inl (idle_came f f2 f3 f4 c a e, refl);
  reads = more_same f f3 f4 (read_more frames.Idle f f2 f3 on a) e;
  fed = (g.piece, piece, refl, fed_same g.piece f f3 f4 (fed_next frames.Idle g.piece f f2 f3 h a) e);
}

pub pulled_short : (max : ℕ) (f f2 f3 : FramesView) (l m : LinkView) (g : PullGoing f f2 l m) → ReadOn f f2 → f2.came ≡ f.came → IsFed g.piece f f2 → AfterNext frames.NoMemory f2 f3 → PulledFrom max ins.NoMemory false f f3 l m
pulled_short max f f2 f3 l m g on c h a = record {
  going = going_next frames.NoMemory f f2 f3 l m g a;
  returned = inl (came_none_of frames.NoMemory f f2 f3 refl c a, refl);
  reads = read_more frames.NoMemory f f2 f3 on a;
  fed = all_of_it g.piece f f3 (fed_next frames.NoMemory g.piece f f2 f3 h a);
}

-- it went on for too long
pub pulled_long : (max : ℕ) (f f2 : FramesView) (l m : LinkView) (g : PullGoing f f2 l m) → ReadOn f f2 → f2.came ≡ f.came → IsFed g.piece f f2 → PulledFrom max ins.NoMemory false f f2 l m
pulled_long max f f2 l m g on c h = record { going = g; returned = inl (c, refl); reads = (on.before, on.reads); fed = all_of_it g.piece f f2 h }
