-- Names that are dialed and asked, one after another.
use Rattle.std.proofs.Common.{◌≡◌, refl, ap, sym, ◌∙◌, subst, List, [], ◌∷◌, ◌++◌, ℕ, zero, suc, ◌+◌, ◌≤◌, ◌<◌, Bool, true, false, cond, arith, length, Option, Some, None, Result, Ok, Err, inl, inr, append_assoc, append-nil, length-append, set, get_or, slice_get, eq-eqb, eqb-true}
use Rattle.std.specs.Prelude.{◌==◌, ⊤, slice_index_or, slice_set}
use Rattle.turn_lock.specs.declared.turn.Turn.{Turn}
use Rattle.sp_base.specs.declared.role.Role.{Role}
use Rattle.sp_history.specs.declared.entry.Entry.{Entry}
use Rattle.sp_history.specs.declared.entry.Entry.TheVariants.{Up}
use Rattle.sp_history.specs.declared.entry.WireNumbers.{WireNumbers}
use Rattle.sp_history.specs.declared.setting.Setting.{Setting}
use Rattle.sp_history.specs.Changes.{none_of}
use Rattle.sp_history.specs.Legal.{AreAllowed}
use Rattle.sp_history.specs.Past.{onto, past_of, ups}
use Rattle.sp_history.proofs.Appending.{past_of-append}
use Rattle.sp_history.proofs.Backing.{legal_allowed}
use Rattle.sp_core.specs.Standing.{HasFirst}
use Rattle.sp_core.specs.Moving.{AreSettling}
use Rattle.core_state.specs.declared.causes.AttachError.{AttachError}
use Rattle.sp_core.specs.Attaching.{RefusedAttach}
use Rattle.sp_socket.specs.Singles.{SingleView, TookOne}
use Rattle.sp_lane.specs.LaneWires.{LaneWireView}
use Rattle.sp_lane.specs.Registry.{ListenerView, Registry, names, Dials, Accepts}
use Rattle.sp_ends.specs.LinkRecords.{lane_place, place_of}
use Rattle.sp_ends.specs.Entries.{moves_ends}
use Rattle.sp_ends.specs.DialMoments.{moment}
use Rattle.sp_ends.specs.NameSteps.{IsDueNameDialer, IsLostNameDialer, AreLost, IsNewLane, HasCalled, HasNewLane, TriesName, DialsIfDue, DialsDue, CallsOne, CallsAll, CallsAt, Begins, AreAttached, pipes_of, halves_of, Accepting, GoesOn, CameUp}
use Rattle.sp_ends.specs.declared.name_dialer.NameDialer.{NameDialer}
use Rattle.std.proofs.lemmas.List.{length-set}
use Rattle.sp_ends.proofs.LaterEntries.{entries_leave, numbered, moves_links}
use Rattle.sp_ends.proofs.LinksStay.{same_place, legal_rest}
use Rattle.sp_ends.proofs.EndsStay.{settles, none_sub, links_of}
use Rattle.sp_ends.proofs.Turns.{quiet_both, quiet_none, quiet_one, settles_play, first_play, dry_first, dry_settles, sound_one, after_one}

-- ---- The history goes on

begins_both : (a b c : List (Turn Entry)) → Begins a b → Begins b c → Begins a c
begins_both a b c (x, e) (y, f) = (x ++ y, f ∙ (ap (λ (h : List (Turn Entry)). h ++ y) e ∙ append_assoc a x y))

pub goes_none : (a : SingleView) → GoesOn a a
goes_none a = record { quietly = quiet_none a; sound = λ s. s; dry = refl; begins = ([], sym (append-nil a.seen)); ups = omega arith; places = λ p place e. e }

pub goes_both : (a b c : SingleView) → GoesOn a b → GoesOn b c → GoesOn a c
goes_both a b c x y = record {
  quietly = quiet_both a b c x.quietly y.quietly;
  sound = λ s. y.sound (x.sound s);
  dry = y.dry ∙ x.dry;
  begins = begins_both a.seen b.seen c.seen x.begins y.begins;
  ups = omega (arith, x.ups, y.ups);
  places = λ p place e. y.places p place (x.places p place e);
}

same_ups : (e : Entry) (past : List Entry) → moves_links e ≡ false → ups (e ∷ past) ≡ ups past
same_ups (Up p place limit name) past h = cc
same_ups _ past h = refl

module _ (says : Setting → List (Turn Entry) → Turn Entry → Type 0) (a b : SingleView) (took : TookOne says a b) where
  pub past_now : past_of b.seen ≡ onto took.turn.entries (past_of a.seen)
  past_now = ap past_of took.seen ∙ past_of-append a.seen took.turn

  module _ (q : AreSettling took.turn.entries) where
    none : none_of moves_links took.turn.entries ≡ true
    none = none_sub moves_ends moves_links links_of took.turn.entries (settles took.turn.entries q)

    pub none_up : ups (past_of b.seen) ≡ ups (past_of a.seen)
    none_up = ap ups past_now ∙ entries_leave moves_links ups same_ups took.turn.entries (past_of a.seen) none

    pub goes_settled : GoesOn a b
    goes_settled = record {
      quietly = quiet_one says a b took (settles_play took.turn.entries q);
      sound = λ s. sound_one says a b took;
      dry = dry_settles says a b took q;
      begins = (took.turn ∷ [], took.seen);
      ups = omega (arith, none_up);
      places = λ p place e. ap (λ (x : List Entry). place_of x p) past_now ∙ (entries_leave moves_links (λ (x : List Entry). place_of x p) (same_place p) took.turn.entries (past_of a.seen) none ∙ e);
    }

  module _ (p limit : ℕ) (name : WireNumbers) (next : p ≡ ups (past_of a.seen) + 1) (first : HasFirst (Up p lane_place limit name) took.turn) where
    late : none_of moves_links first.late ≡ true
    late = none_sub moves_ends moves_links links_of first.late (settles first.late first.late_settles)

    past_up : past_of b.seen ≡ onto first.late (Up p lane_place limit name ∷ past_of a.seen)
    past_up = past_now ∙ ap (λ (es : List Entry). onto es (past_of a.seen)) first.entries

    ups_now : ups (past_of b.seen) ≡ ups (past_of a.seen) + 1
    ups_now = ap ups past_up ∙ entries_leave moves_links ups same_ups first.late (Up p lane_place limit name ∷ past_of a.seen) late

    place_now : (q : ℕ) → place_of (past_of b.seen) q ≡ place_of (Up p lane_place limit name ∷ past_of a.seen) q
    place_now q = ap (λ (x : List Entry). place_of x q) past_up ∙ entries_leave moves_links (λ (x : List Entry). place_of x q) (same_place q) first.late (Up p lane_place limit name ∷ past_of a.seen) late

    still : (q place : ℕ) → place_of (past_of a.seen) q ≡ Some place → place_of (past_of b.seen) q ≡ Some place
    still q place is = place_now q ∙ go (p == q) refl
      where
        allowed : AreAllowed a.setting (past_of a.seen)
        allowed = after_one says a b took (λ z h. AreAllowed a.setting (past_of a.seen)) (λ l. legal_allowed a.setting a.seen (legal_rest a.setting a.seen (took.turn ∷ []) l).0)

        go : (u : Bool) → (p == q) ≡ u → cond u (Some lane_place) (place_of (past_of a.seen) q) ≡ Some place
        go true e = let n = numbered a.setting (past_of a.seen) q place allowed is in let same : p ≡ q = eqb-true p q e in absurd (omega (arith, n, same, next))
        go false e = is

    pub goes_up : GoesOn a b
    goes_up = record {
      quietly = quiet_one says a b took (first_play (Up p lane_place limit name) took.turn first refl);
      sound = λ s. sound_one says a b took;
      dry = dry_first (Up p lane_place limit name) says a b took first;
      begins = (took.turn ∷ [], took.seen);
      ups = omega (arith, ups_now);
      places = still;
    }

    pub came_up : CameUp (Some p) a b
    came_up = ((omega (arith, next), place_now p ∙ here), omega (arith, next, ups_now), ups_now)
      where
        here : place_of (Up p lane_place limit name ∷ past_of a.seen) p ≡ Some lane_place
        here = rw (eq-eqb p p refl) refl

-- ---- Name dialers that dial

-- the first i had their turn
abbrev pub CallsTo : ℕ → ℕ → SingleView → SingleView → List NameDialer → List NameDialer → Type 0
CallsTo zero now a b cs ds = ds ≡ cs
CallsTo (suc i) now a b [] [] = ⊤
CallsTo (suc i) now a b (c ∷ cs) (d ∷ ds) = CallsOne now a b c d × CallsTo i now a b cs ds
CallsTo (suc i) now a b _ _ = ⊥

lane_later : (a b c : SingleView) (p : ℕ) → GoesOn b c → IsNewLane a b p → IsNewLane a c p
lane_later a b c p g x = (x.0, g.places p lane_place x.1)

calls_later : (now : ℕ) (a b c : SingleView) (x y : NameDialer) → GoesOn b c → CallsOne now a b x y → CallsOne now a c x y
calls_later now a b c x y g (inr t) = inr t
calls_later now a b c x y g (inl (due, inl free)) = inl (due, inl free)
calls_later now a b c x y g (inl (due, inr (p, lane, is))) = inl (due, inr (p, lane_later a b c p g lane, is))

pub calls_on : (i now : ℕ) (a b c : SingleView) (xs ys : List NameDialer) → GoesOn b c → CallsTo i now a b xs ys → CallsTo i now a c xs ys
calls_on zero now a b c xs ys g t = t
calls_on (suc i) now a b c [] [] g t = tt
calls_on (suc i) now a b c [] (y ∷ ys) g t = absurd t
calls_on (suc i) now a b c (x ∷ xs) [] g t = absurd t
calls_on (suc i) now a b c (x ∷ xs) (y ∷ ys) g t = (calls_later now a b c x y g t.0, calls_on i now a b c xs ys g t.1)

-- the next one had its turn
calls_set : (i now : ℕ) (a b : SingleView) (xs ys : List NameDialer) (y w : NameDialer) → CallsTo i now a b xs ys → slice_get ys i ≡ Some y → CallsOne now a b y w → CallsTo (suc i) now a b xs (set ys i w)
calls_set i now a b xs [] y w t at one = cc
calls_set zero now a b [] (v ∷ ys) y w t at one = cc
calls_set zero now a b (x ∷ xs) (v ∷ ys) y w t at one =
    let head : v ≡ x = cc in let rest : ys ≡ xs = cc in let is : v ≡ y = cc in (subst (λ (k : NameDialer). CallsOne now a b k w) (sym is ∙ head) one, rest)
calls_set (suc i) now a b [] (v ∷ ys) y w t at one = absurd t
calls_set (suc i) now a b (x ∷ xs) (v ∷ ys) y w t at one = (t.0, calls_set i now a b xs ys y w t.1 at one)

pub calls_kept : (i now : ℕ) (a b : SingleView) (xs ys : List NameDialer) → CallsTo i now a b xs ys → ((y : NameDialer) → slice_get ys i ≡ Some y → IsDueNameDialer now y → ⊥) → CallsTo (suc i) now a b xs ys
calls_kept zero now a b [] [] t never = tt
calls_kept zero now a b [] (y ∷ ys) t never = cc
calls_kept zero now a b (x ∷ xs) [] t never = cc
calls_kept zero now a b (x ∷ xs) (y ∷ ys) t never =
    let head : y ≡ x = cc in let rest : ys ≡ xs = cc in (inr (λ due. never y refl (subst (IsDueNameDialer now) (sym head) due), head), rest)
calls_kept (suc i) now a b [] [] t never = tt
calls_kept (suc i) now a b [] (y ∷ ys) t never = absurd t
calls_kept (suc i) now a b (x ∷ xs) [] t never = absurd t
calls_kept (suc i) now a b (x ∷ xs) (y ∷ ys) t never = (t.0, calls_kept i now a b xs ys t.1 never)

pub calls_whole : (i now : ℕ) (a b : SingleView) (xs ys : List NameDialer) → CallsTo i now a b xs ys → length ys ≤ i → CallsAll now a b xs ys
calls_whole zero now a b [] [] t l = tt
calls_whole zero now a b (x ∷ xs) [] t l = cc
calls_whole zero now a b xs (y ∷ ys) t l = absurd (omega (arith, l))
calls_whole (suc i) now a b [] [] t l = tt
calls_whole (suc i) now a b [] (y ∷ ys) t l = absurd t
calls_whole (suc i) now a b (x ∷ xs) [] t l = absurd t
calls_whole (suc i) now a b (x ∷ xs) (y ∷ ys) t l = (t.0, calls_whole i now a b xs ys t.1 (omega (arith, l)))

-- it has the pipe that the call brought
pub called_as : (now : ℕ) (a b : SingleView) (o : Option ℕ) (x y : NameDialer) → HasNewLane o a b → y ≡ record x { next = moment (now + 100); pipe = o } → HasCalled now a b x y
called_as now a b None x y lane is = inl is
called_as now a b (Some p) x y lane is = inr (p, lane, is)

pub one_caller : {a b : NameDialer} → Some a ≡ Some b → a ≡ b
one_caller e = cc

from_before : (now : ℕ) (a b c : SingleView) (x y : NameDialer) → GoesOn a b → HasCalled now b c x y → HasCalled now a c x y
from_before now a b c x y g (inl free) = inl free
from_before now a b c x y g (inr (p, lane, is)) = inr (p, (let l = lane.0 in let u = g.ups in omega (arith, l, u), lane.1), is)

-- one that is due dialed
pub calls_next : (i now : ℕ) (role : Role) (a b c : SingleView) (r s : Registry) (xs ys ws : List NameDialer) (y : NameDialer) → GoesOn a b → GoesOn b c → CallsTo i now a b xs ys → slice_get ys i ≡ Some y → IsDueNameDialer now y → CallsAt i now role b c r s ys ws → CallsTo (suc i) now a c xs ws
calls_next i now role a b c r s xs ys ws y f g t at due (x, w, at', called, tries, is) =
    let same : x ≡ y = one_caller (sym at' ∙ at) in
    subst (λ (vs : List NameDialer). CallsTo (suc i) now a c xs vs) (sym is) (calls_set i now a c xs ys y w (calls_on i now a b c xs ys g t) at (inl (due, from_before now a b c y w f (subst (λ (k : NameDialer). HasCalled now b c k w) same called))))

pub calls_long : (i now : ℕ) (role : Role) (b c : SingleView) (r s : Registry) (ys ws : List NameDialer) → CallsAt i now role b c r s ys ws → length ws ≡ length ys
calls_long i now role b c r s ys ws (x, w, at, called, tries, is) = ap length is ∙ length-set ys i w

-- ---- One after another

pub tries_up : (name : List ℕ) (role : Role) (o : Option ℕ) (wire : LaneWireView) (a b : SingleView) (r s : Registry) → Dials name role (Ok wire) r s → GoesOn a b → CameUp o a b → TriesName name role o a b r s
tries_up name role None wire a b r s d g c = inl (record { wire = wire; dials = d; on = g; came = c })
tries_up name role (Some p) wire a b r s d g c = record { wire = wire; dials = d; on = g; came = c }

-- it is the result of the caller
pub tries_as : (now : ℕ) (role : Role) (name : List ℕ) (o : Option ℕ) (x y w : NameDialer) (a b : SingleView) (r s : Registry) → name ≡ x.name → x ≡ y → w ≡ record y { next = moment (now + 100); pipe = o } → TriesName name role o a b r s → TriesName y.name role w.pipe a b r s
tries_as now role name o x y w a b r s n e is t =
    subst (λ (q : Option ℕ). TriesName y.name role q a b r s) (sym (ap (λ (k : NameDialer). k.pipe) is)) (subst (λ (m : List ℕ). TriesName m role o a b r s) (n ∙ ap (λ (k : NameDialer). k.name) e) t)

module _ (now : ℕ) (role : Role) where
  -- the first i had their turn
  abbrev pub DialsTo : ℕ → SingleView → SingleView → Registry → Registry → List NameDialer → List NameDialer → Type 0
  DialsTo zero a b r s cs ds = (ds ≡ cs) × (b ≡ a) × (s ≡ r)
  DialsTo (suc i) a b r s [] [] = (b ≡ a) × (s ≡ r)
  DialsTo (suc i) a b r s (c ∷ cs) (d ∷ ds) = (mid : SingleView) × (q : Registry) × DialsIfDue now role a mid r q c d × DialsTo i mid b q s cs ds
  DialsTo (suc i) a b r s _ _ = ⊥

  -- the next one had its turn
  dials_set : (i : ℕ) (a b c : SingleView) (q r s : Registry) (xs ys : List NameDialer) (y w : NameDialer) → DialsTo i a b q r xs ys → slice_get ys i ≡ Some y → DialsIfDue now role b c r s y w → DialsTo (suc i) a c q s xs (set ys i w)
  dials_set i a b c q r s xs [] y w t at one = cc
  dials_set zero a b c q r s [] (v ∷ ys) y w t at one = let no : v ∷ ys ≡ [] = t.0 in cc
  dials_set zero a b c q r s (x ∷ xs) (v ∷ ys) y w (same, e, f) at one =
      let head : v ≡ x = cc in
      let rest : ys ≡ xs = cc in
      let is : v ≡ y = cc in
      let first = subst (λ (m : SingleView). DialsIfDue now role m c r s x w) e (subst (λ (k : NameDialer). DialsIfDue now role b c r s k w) (sym is ∙ head) one) in (c, s, subst (λ (m : Registry). DialsIfDue now role a c m s x w) f first, (rest, refl, refl))
  dials_set (suc i) a b c q r s [] (v ∷ ys) y w t at one = absurd t
  dials_set (suc i) a b c q r s (x ∷ xs) (v ∷ ys) y w (mid, m, first, t) at one = (mid, m, first, dials_set i mid b c m r s xs ys y w t at one)

  -- one that is due dialed
  pub dials_next : (i : ℕ) (a b c : SingleView) (q r s : Registry) (xs ys ws : List NameDialer) (y : NameDialer) → DialsTo i a b q r xs ys → slice_get ys i ≡ Some y → IsDueNameDialer now y → CallsAt i now role b c r s ys ws → DialsTo (suc i) a c q s xs ws
  dials_next i a b c q r s xs ys ws y t at due (x, w, at', called, tries, is) =
      let same : x ≡ y = one_caller (sym at' ∙ at) in
      let mine = subst (λ (k : NameDialer). TriesName k.name role w.pipe b c r s) same tries in subst (λ (vs : List NameDialer). DialsTo (suc i) a c q s xs vs) (sym is) (dials_set i a b c q r s xs ys y w t at (inl (due, mine)))

  -- one that isn't due did not dial
  pub dials_kept : (i : ℕ) (a b : SingleView) (q r : Registry) (xs ys : List NameDialer) → DialsTo i a b q r xs ys → ((y : NameDialer) → slice_get ys i ≡ Some y → IsDueNameDialer now y → ⊥) → DialsTo (suc i) a b q r xs ys
  dials_kept zero a b q r [] [] (same, e, f) never = (e, f)
  dials_kept zero a b q r [] (y ∷ ys) t never = let no : y ∷ ys ≡ [] = t.0 in cc
  dials_kept zero a b q r (x ∷ xs) [] t never = let no : [] ≡ x ∷ xs = t.0 in cc
  dials_kept zero a b q r (x ∷ xs) (y ∷ ys) (same, e, f) never =
      let head : y ≡ x = cc in
      let rest : ys ≡ xs = cc in (b, r, inr (λ due. never y refl (subst (IsDueNameDialer now) (sym head) due), e, f), (rest, refl, refl))
  dials_kept (suc i) a b q r [] [] t never = t
  dials_kept (suc i) a b q r [] (y ∷ ys) t never = absurd t
  dials_kept (suc i) a b q r (x ∷ xs) [] t never = absurd t
  dials_kept (suc i) a b q r (x ∷ xs) (y ∷ ys) (mid, m, first, t) never = (mid, m, first, dials_kept i mid b m r xs ys t never)

  pub dials_whole : (i : ℕ) (a b : SingleView) (q r : Registry) (xs ys : List NameDialer) → DialsTo i a b q r xs ys → length ys ≤ i → DialsDue now role a b q r xs ys
  dials_whole zero a b q r [] [] (same, e, f) l = (e, f)
  dials_whole zero a b q r (x ∷ xs) [] t l = let no : [] ≡ x ∷ xs = t.0 in cc
  dials_whole zero a b q r xs (y ∷ ys) t l = absurd (omega (arith, l))
  dials_whole (suc i) a b q r [] [] t l = t
  dials_whole (suc i) a b q r [] (y ∷ ys) t l = absurd t
  dials_whole (suc i) a b q r (x ∷ xs) [] t l = absurd t
  dials_whole (suc i) a b q r (x ∷ xs) (y ∷ ys) (mid, m, first, t) l = (mid, m, first, dials_whole i mid b m r xs ys t (omega (arith, l)))

-- ---- Lanes

pub halves_less : (i : ℕ) (reg : Registry) (l : ListenerView) (w : LaneWireView) (rest : List LaneWireView) → i < length reg → ((d : ListenerView) → slice_index_or reg i d ≡ l) → l.halves ≡ w ∷ rest → halves_of reg ≡ halves_of (slice_set reg i (record l { halves = rest })) + 1
halves_less i [] l w rest lt is e = absurd (omega (arith, lt))
halves_less zero (x ∷ reg) l w rest lt is e = let f : length x.halves ≡ length (w ∷ rest) = ap (λ (v : ListenerView). length v.halves) (is x) ∙ ap length e in omega (arith, f)
halves_less (suc i) (x ∷ reg) l w rest lt is e = let f = halves_less i reg l w rest (omega (arith, lt)) is e in omega (arith, f)

names_stay : (i : ℕ) (reg : Registry) (l : ListenerView) (xs : List LaneWireView) → i < length reg → ((d : ListenerView) → slice_index_or reg i d ≡ l) → names (slice_set reg i (record l { halves = xs })) ≡ names reg
names_stay i [] l xs lt is = refl
names_stay zero (x ∷ reg) l xs lt is = ap (λ (v : ListenerView). v.name ∷ names reg) (sym (is x))
names_stay (suc i) (x ∷ reg) l xs lt is = ap (λ (ns : List (List ℕ)). x.name ∷ ns) (names_stay i reg l xs (omega (arith, lt)) is)

-- ---- Lanes that are accepted

attached_later : (a b c : SingleView) (m n : ℕ) (xs : List (Result ℕ AttachError)) → GoesOn b c → m ≤ n → AreAttached a b m xs → AreAttached a c n xs
attached_later a b c m n [] g l x = tt
attached_later a b c m n (Ok p ∷ xs) g l x = (let k = x.0 in omega (arith, k, l), lane_later a b c p g x.1, attached_later a b c p p xs g (omega arith) x.2)
attached_later a b c m n (Err why ∷ xs) g l x = let r = x.0 in ((r.0, r.1, begins_both r.0 b.seen c.seen r.2 g.begins, r.3), attached_later a b c m n xs g l x.1)

-- those of the later part, before those of the first part
attached_both : (a b c : SingleView) (n : ℕ) (xs ys : List (Result ℕ AttachError)) → GoesOn a b → GoesOn b c → ups (past_of b.seen) < n → AreAttached a b (ups (past_of b.seen) + 1) xs → AreAttached b c n ys → AreAttached a c n (ys ++ xs)
attached_both a b c n xs [] f g l x y = attached_later a b c (ups (past_of b.seen) + 1) n xs g (omega (arith, l)) x
attached_both a b c n xs (Ok p ∷ ys) f g l x y = let u = f.ups in let k = y.1.0 in (y.0, (omega (arith, u, k), y.1.1), attached_both a b c p xs ys f g (omega (arith, k)) x y.2)
attached_both a b c n xs (Err why ∷ ys) f g l x y =
    let r = y.0 in ((r.0, begins_both a.seen b.seen r.0 f.begins r.1, r.2, subst (λ (z : Setting). RefusedAttach why z (past_of r.0)) f.quietly.setting r.3), attached_both a b c n xs ys f g l x y.1)

pipes_both : (xs ys : List (Result ℕ AttachError)) → pipes_of (xs ++ ys) ≡ pipes_of xs + pipes_of ys
pipes_both [] ys = omega arith
pipes_both (Ok p ∷ xs) ys = omega (arith, pipes_both xs ys)
pipes_both (Err why ∷ xs) ys = pipes_both xs ys

pub accepts_none : (n : ℕ) (a : SingleView) (reg reg' : Registry) → reg' ≡ reg → Accepting n a a reg reg'
accepts_none n a reg reg' e = record { accepted = []; attached = tt; all = omega arith; few = omega arith; halves = let h = ap halves_of e in omega (arith, h); names_are = ap names e }

pub accepts_as : (m n : ℕ) (a b : SingleView) (reg reg' : Registry) → m ≤ n → Accepting m a b reg reg' → Accepting n a b reg reg'
accepts_as m n a b reg reg' l x = record { accepted = x.accepted; attached = x.attached; all = x.all; few = let f = x.few in omega (arith, f, l); halves = x.halves; names_are = x.names_are }

pub accepts_both : (m n : ℕ) (a b c : SingleView) (r s t : Registry) → GoesOn a b → GoesOn b c → Accepting m a b r s → Accepting n b c s t → Accepting (m + n) a c r t
accepts_both m n a b c r s t f g x y = record {
  accepted = y.accepted ++ x.accepted;
  attached = attached_both a b c (ups (past_of c.seen) + 1) x.accepted y.accepted f g (let u = g.ups in omega (arith, u)) x.attached y.attached;
  all = let k = x.all in let l = y.all in omega (arith, k, l, pipes_both y.accepted x.accepted);
  few = let k = x.few in let l = y.few in omega (arith, k, l, length-append y.accepted x.accepted);
  halves = let k = x.halves in let l = y.halves in omega (arith, k, l, length-append y.accepted x.accepted);
  names_are = y.names_are ∙ x.names_are;
}

-- one was accepted, and attached or refused
pub accepts_one : (name : List ℕ) (wire : LaneWireView) (o : Option ℕ) (a b : SingleView) (reg reg' : Registry) → Accepts name (Some wire) reg reg' → CameUp o a b → GoesOn a b → Accepting 1 a b reg reg'
accepts_one name wire o a b reg reg' (i, l, rest, at, halves, is) came g = record {
  accepted = fate o came;
  attached = attached o came;
  all = all o came;
  few = few o came;
  halves = let h = ap halves_of is in let k = halves_less i reg l wire rest at.within at.is halves in let n = long o came in omega (arith, h, k, n);
  names_are = ap names is ∙ names_stay i reg l rest at.within at.is;
}
  where
    fate : (o : Option ℕ) → CameUp o a b → List (Result ℕ AttachError)
    fate None (same, (why, refused)) = Err why ∷ []
    fate (Some p) c = Ok p ∷ []

    long : (o : Option ℕ) (c : CameUp o a b) → length (fate o c) ≡ 1
    long None (same, (why, refused)) = refl
    long (Some p) c = refl

    all : (o : Option ℕ) (c : CameUp o a b) → ups (past_of b.seen) ≡ ups (past_of a.seen) + pipes_of (fate o c)
    all None (same, (why, refused)) = omega (arith, same)
    all (Some p) c = let e = c.2 in omega (arith, e)

    few : (o : Option ℕ) (c : CameUp o a b) → length (fate o c) ≤ 1
    few o c = let n = long o c in omega (arith, n)

    attached : (o : Option ℕ) (c : CameUp o a b) → AreAttached a b (ups (past_of b.seen) + 1) (fate o c)
    attached None (same, (why, refused)) = ((a.seen, ([], sym (append-nil a.seen)), g.begins, refused), tt)
    attached (Some p) c = (let e = c.1 in omega (arith, e), c.0, tt)

-- ---- The wire of a pipe was taken

-- the first i callers know
abbrev pub LostTo : ℕ → ℕ → ℕ → List NameDialer → List NameDialer → Type 0
LostTo zero now pipe cs ds = ds ≡ cs
LostTo (suc i) now pipe [] [] = ⊤
LostTo (suc i) now pipe (c ∷ cs) (d ∷ ds) = IsLostNameDialer now pipe c d × LostTo i now pipe cs ds
LostTo (suc i) now pipe _ _ = ⊥

module _ (now pipe : ℕ) where
  pub lost_next : (i : ℕ) (cs ds : List NameDialer) (y z : NameDialer) → LostTo i now pipe cs ds → i < length ds → IsLostNameDialer now pipe (get_or ds i y) z → LostTo (suc i) now pipe cs (set ds i z)
  lost_next zero cs [] y z x l f = absurd (omega (arith, l))
  lost_next zero [] (d ∷ ds) y z x l f = cc
  lost_next zero (c ∷ cs) (d ∷ ds) y z x l f = let same : d ≡ c = cc in let rest : ds ≡ cs = cc in (subst (λ (k : NameDialer). IsLostNameDialer now pipe k z) same f, rest)
  lost_next (suc i) [] [] y z x l f = absurd (omega (arith, l))
  lost_next (suc i) [] (d ∷ ds) y z x l f = absurd x
  lost_next (suc i) (c ∷ cs) [] y z x l f = absurd x
  lost_next (suc i) (c ∷ cs) (d ∷ ds) y z x l f = (x.0, lost_next i cs ds y z x.1 (omega (arith, l)) f)

  pub lost_whole : (i : ℕ) (cs ds : List NameDialer) → LostTo i now pipe cs ds → length ds ≤ i → AreLost now pipe cs ds
  lost_whole zero [] [] x l = tt
  lost_whole zero (c ∷ cs) [] x l = cc
  lost_whole zero cs (d ∷ ds) x l = absurd (omega (arith, l))
  lost_whole (suc i) [] [] x l = tt
  lost_whole (suc i) [] (d ∷ ds) x l = absurd x
  lost_whole (suc i) (c ∷ cs) [] x l = absurd x
  lost_whole (suc i) (c ∷ cs) (d ∷ ds) x l = (x.0, lost_whole i cs ds x.1 (omega (arith, l)))

pub accepts_then : (m n : ℕ) (a b : SingleView) (r s t : Registry) → m ≤ n → t ≡ s → Accepting m a b r s → Accepting n a b r t
accepts_then m n a b r s t l e x = subst (λ (q : Registry). Accepting n a b r q) (sym e) (accepts_as m n a b r s l x)
