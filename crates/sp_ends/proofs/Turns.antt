-- What a socket's turns show of the links.
use Rattle.std.proofs.Common.{◌≡◌, refl, ap, sym, ◌∙◌, subst, List, [], ◌∷◌, ◌++◌, ℕ, ◌<◌, Bool, true, false, append_assoc, append-nil, arith}
use Rattle.std.specs.Prelude.{◌||◌, ◌==◌}
use Rattle.std.proofs.lemmas.Bool.{ne_eqb}
use Rattle.std.specs.List.{list_all}
use Rattle.turn_lock.specs.declared.turn.Turn.{Turn}
use Rattle.sp_base.specs.Views.{LinkView, NetView}
use Rattle.sp_base.specs.Steps.{AfterGiveBack}
use Rattle.sp_history.specs.declared.entry.Entry.{Entry}
use Rattle.sp_history.specs.declared.entry.Entry.TheVariants.{Up, NoUp, Tick, Down, Out, Full, End, Dry}
use Rattle.sp_history.specs.declared.entry.Miss.{Miss}
use Rattle.sp_history.specs.declared.entry.Miss.TheVariants as misses
use Rattle.sp_history.specs.declared.setting.Setting.{Setting}
use Rattle.sp_history.specs.Changes.{none_of}
use Rattle.sp_history.specs.Found.{ticks, before_last_tick}
use Rattle.sp_history.specs.Legal.{Legal}
use Rattle.sp_history.specs.Past.{onto, past_of, now}
use Rattle.sp_history.proofs.Appending.{past_of-append}
use Rattle.sp_core.specs.Moving.{AreSettling, IsSettling}
use Rattle.sp_core.specs.Standing.{HasFirst}
use Rattle.sp_socket.specs.Singles.{SingleView, TookOne, IsSound, IsNow}
use Rattle.sp_ends.specs.LinkRecords.{lane_place}
use Rattle.sp_ends.specs.LinkRecords.{has_dry_miss}
use Rattle.sp_ends.specs.LinkCounts.{ticks_where}
use Rattle.sp_ends.specs.Entries.{AddsNone, moves_calls, moves_ends}
use Rattle.sp_ends.specs.declared.newcomer.Newcomer.{Newcomer}
use Rattle.sp_ends.specs.EndViews.{Beginning}
use Rattle.sp_ends.specs.RunLinks.{LinksStand, HandStands, IsCauseOf}
use Rattle.sp_ends.specs.SocketSteps.{Quietly, NoLane, is_lane}
use Rattle.sp_ends.specs.NewcomerSteps.{is_dry_for}
use Rattle.sp_ends.proofs.LinkPlaces.{left_of, right_of, inside}
use Rattle.sp_ends.proofs.LaterEntries.{past_of_more, turns_leave, entries_leave}
use Rattle.sp_ends.proofs.EndsStay.{same_dry, settles, none_sub}
use Rattle.sp_ends.proofs.Hands.{hand_waits, hand_missed}

-- ---- Quiet turns

-- settling entries are no calls
pub settles_play : (entries : List Entry) → AreSettling entries → none_of moves_calls entries ≡ true
settles_play [] h = refl
settles_play (e ∷ entries) h = rw (one e h.0, settles_play entries h.1) refl
  where
    one : (e : Entry) → IsSettling e → moves_calls e ≡ false
    one (Down p why) h = refl
    one (Out p b) h = refl
    one (Full p) h = refl
    one (End op ending) h = refl
    one (Dry c) h = refl
    one _ h = elim h [ ]

pub first_play : (e : Entry) (t : Turn Entry) → HasFirst e t → moves_calls e ≡ false → none_of moves_calls t.entries ≡ true
first_play e t first n = rw first.entries (rw (n, settles_play first.late first.late_settles) refl)

all_both : (f : Turn Entry → Bool) (a b : List (Turn Entry)) → list_all f a ≡ true → list_all f b ≡ true → list_all f (a ++ b) ≡ true
all_both f [] b h k = k
all_both f (t ∷ a) b h k = rw (left_of (f t) (list_all f a) h, all_both f a b (right_of (f t) (list_all f a) h) k) refl

pub adds_both : (moves : Entry → Bool) (a b c : List (Turn Entry)) → AddsNone moves a b → AddsNone moves b c → AddsNone moves a c
adds_both moves a b c (xs, is, n) (ys, is', n') =
    (xs ++ ys, is' ∙ (ap (λ (h : List (Turn Entry)). h ++ ys) is ∙ append_assoc a xs ys), all_both (λ (t : Turn Entry). none_of moves t.entries) xs ys n n')

pub quiet_both : (a b c : SingleView) → Quietly a b → Quietly b c → Quietly a c
quiet_both a b c q r = record { setting = r.setting ∙ q.setting; silent = adds_both moves_calls a.seen b.seen c.seen q.silent r.silent; cancelled = r.cancelled ∙ q.cancelled }

pub quiet_none : (a : SingleView) → Quietly a a
quiet_none a = record { setting = refl; silent = ([], sym (append-nil a.seen), refl); cancelled = refl }

pub quiet_one : (says : Setting → List (Turn Entry) → Turn Entry → Type 0) (a b : SingleView) (k : TookOne says a b) → none_of moves_calls k.turn.entries ≡ true → Quietly a b
quiet_one says a b k n = record { setting = k.setting; silent = (k.turn ∷ [], k.seen, rw n refl); cancelled = k.cancelled }

pub sound_one : (says : Setting → List (Turn Entry) → Turn Entry → Type 0) (a b : SingleView) → TookOne says a b → IsSound b
sound_one says a b k = record { legal = k.legal; settled = k.settled }

-- ---- Turns in which no lane comes up

lanes_of : (e : Entry) → moves_ends e ≡ false → is_lane e ≡ false
lanes_of (Up p place limit name) h = cc
lanes_of _ h = refl

pub lane_settles : (entries : List Entry) → AreSettling entries → none_of is_lane entries ≡ true
lane_settles entries h = none_sub moves_ends is_lane lanes_of entries (settles entries h)

pub lane_first : (e : Entry) (t : Turn Entry) → HasFirst e t → is_lane e ≡ false → none_of is_lane t.entries ≡ true
lane_first e t first n = rw first.entries (rw (n, lane_settles first.late first.late_settles) refl)

pub lanes_both : (a b c : SingleView) → NoLane a b → NoLane b c → NoLane a c
lanes_both a b c x y = adds_both is_lane a.seen b.seen c.seen x y

pub lanes_none : (a : SingleView) → NoLane a a
lanes_none a = ([], sym (append-nil a.seen), refl)

pub lanes_one : (says : Setting → List (Turn Entry) → Turn Entry → Type 0) (a b : SingleView) (k : TookOne says a b) → none_of is_lane k.turn.entries ≡ true → NoLane a b
lanes_one says a b k n = (k.turn ∷ [], k.seen, rw n refl)

-- quiet turns leave what only ticks change
quiet_leaves : {A : Type 0} (f : List Entry → A) → ((e : Entry) (past : List Entry) → moves_calls e ≡ false → f (e ∷ past) ≡ f past) → (a b : SingleView) → Quietly a b → f (past_of b.seen) ≡ f (past_of a.seen)
quiet_leaves f step a b q =
    ap (λ (h : List (Turn Entry)). f (past_of h)) q.silent.1 ∙ (ap f (past_of_more [] a.seen q.silent.0) ∙ turns_leave moves_calls f step q.silent.0 (past_of a.seen) q.silent.2)

now_step : (e : Entry) (past : List Entry) → moves_calls e ≡ false → now (e ∷ past) ≡ now past
now_step (Tick t due) past h = cc
now_step _ past h = refl

ticks_step : (e : Entry) (past : List Entry) → moves_calls e ≡ false → ticks (e ∷ past) ≡ ticks past
ticks_step (Tick t due) past h = cc
ticks_step _ past h = refl

before_step : (e : Entry) (past : List Entry) → moves_calls e ≡ false → before_last_tick (e ∷ past) ≡ before_last_tick past
before_step (Tick t due) past h = cc
before_step _ past h = refl

where_step : (test : List Entry → Bool) (e : Entry) (past : List Entry) → moves_calls e ≡ false → ticks_where test (e ∷ past) ≡ ticks_where test past
where_step test (Tick t due) past h = cc
where_step test _ past h = refl

pub quiet_now : (t : ℕ) (a b : SingleView) → Quietly a b → IsNow t a → IsNow t b
quiet_now t a b q n = n ∙ sym (quiet_leaves now now_step a b q)

pub quiet_ticks : (a b : SingleView) → Quietly a b → ticks (past_of b.seen) ≡ ticks (past_of a.seen)
quiet_ticks a b q = quiet_leaves ticks ticks_step a b q

pub quiet_before : (a b : SingleView) → Quietly a b → before_last_tick (past_of b.seen) ≡ before_last_tick (past_of a.seen)
quiet_before a b q = quiet_leaves before_last_tick before_step a b q

pub quiet_where : (test : List Entry → Bool) (a b : SingleView) → Quietly a b → ticks_where test (past_of b.seen) ≡ ticks_where test (past_of a.seen)
quiet_where test a b q = quiet_leaves (ticks_where test) (where_step test) a b q

-- ---- Out of memory

pub dry_first : (e : Entry) (says : Setting → List (Turn Entry) → Turn Entry → Type 0) (a b : SingleView) (k : TookOne says a b) → HasFirst e k.turn → has_dry_miss (past_of b.seen) ≡ has_dry_miss (e ∷ past_of a.seen)
dry_first e says a b k first =
    ap (λ (h : List (Turn Entry)). has_dry_miss (past_of h)) k.seen
    ∙ (ap has_dry_miss (past_of-append a.seen k.turn ∙ ap (λ (es : List Entry). onto es (past_of a.seen)) first.entries) ∙ entries_leave moves_ends has_dry_miss same_dry first.late (e ∷ past_of a.seen) (settles first.late first.late_settles))

pub dry_settles : (says : Setting → List (Turn Entry) → Turn Entry → Type 0) (a b : SingleView) (k : TookOne says a b) → AreSettling k.turn.entries → has_dry_miss (past_of b.seen) ≡ has_dry_miss (past_of a.seen)
dry_settles says a b k s =
    ap (λ (h : List (Turn Entry)). has_dry_miss (past_of h)) k.seen ∙ (ap has_dry_miss (past_of-append a.seen k.turn) ∙ entries_leave moves_ends has_dry_miss same_dry k.turn.entries (past_of a.seen) (settles k.turn.entries s))

pub dry_miss : (place : ℕ) (miss : Miss) (past : List Entry) → has_dry_miss (NoUp place miss ∷ past) ≡ (is_dry_for miss || has_dry_miss past)
dry_miss place misses.NoMemory past = refl
dry_miss place _ past = refl

-- ---- One link

abbrev pub MissesAt : ℕ → Miss → Setting → List (Turn Entry) → Turn Entry → Type 0
MissesAt place miss z h t = HasFirst (NoUp place miss) t

pub missed_dry : (place : ℕ) (miss : Miss) (a b : SingleView) → TookOne (MissesAt place miss) a b → has_dry_miss (past_of b.seen) ≡ (is_dry_for miss || has_dry_miss (past_of a.seen))
missed_dry place miss a b k = dry_first (NoUp place miss) (MissesAt place miss) a b k k.said ∙ dry_miss place miss (past_of a.seen)

pub missed_quiet : (place : ℕ) (miss : Miss) (a b : SingleView) → TookOne (MissesAt place miss) a b → Quietly a b
missed_quiet place miss a b k = quiet_one (MissesAt place miss) a b k (first_play (NoUp place miss) k.turn k.said refl)

-- a history after one turn
pub after_one : (says : Setting → List (Turn Entry) → Turn Entry → Type 0) (a b : SingleView) (k : TookOne says a b) (Fact : Setting → List (Turn Entry) → Type 0) → (Legal a.setting (a.seen ++ k.turn ∷ []) → Fact a.setting (a.seen ++ k.turn ∷ [])) → Fact b.setting b.seen
after_one says a b k Fact f =
    let legal : Legal a.setting (a.seen ++ k.turn ∷ []) = subst (λ (z : Setting). Legal z (a.seen ++ k.turn ∷ [])) k.setting (subst (λ (h : List (Turn Entry)). Legal b.setting h) k.seen k.legal) in
    subst (λ (h : List (Turn Entry)). Fact b.setting h) (sym k.seen) (subst (λ (z : Setting). Fact z (a.seen ++ k.turn ∷ [])) (sym k.setting) (f legal))

pub missed_lanes : (place : ℕ) (miss : Miss) (a b : SingleView) → TookOne (MissesAt place miss) a b → NoLane a b
missed_lanes place miss a b k = lanes_one (MissesAt place miss) a b k (lane_first (NoUp place miss) k.turn k.said refl)

module _ {L : Type 0} (seen : L → LinkView) (start : Beginning) (ns : List (Newcomer L)) (k : ℕ) where
  -- a link that was missed
  pub missed_stands : (a b : SingleView) (net net' : NetView) (link : LinkView) (place : ℕ) (miss : Miss) → place ≡ link.place → TookOne (MissesAt place miss) a b → AfterGiveBack (record link { is_open = false }) net net' → IsCauseOf start.origins a.setting a.seen miss link → HandStands seen a.setting start a.seen net ns k link → LinksStand seen b.setting start b.seen net' ns k
  missed_stands a b net net' link place miss is took back cause hand =
      after_one (MissesAt place miss) a b took (λ z h. LinksStand seen z start h net' ns k) (λ l. hand_missed seen a.setting start a.seen ns k net net' took.turn link miss hand cause back (subst (λ (p : ℕ). HasFirst (NoUp p miss) took.turn) is took.said) l)

-- a link in hand is one that the net handed out
pub hand_opened : {L : Type 0} (seen : L → LinkView) (z : Setting) (h : List (Turn Entry)) (net : NetView) (link : LinkView) → (start : Beginning) × (ns : List (Newcomer L)) × (k : ℕ) × HandStands seen z start h net ns k link → link.place < net.opened
hand_opened seen z h net link (start, ns, k, s) = (inside start.net.opened net.opened (past_of h) link.place s.kept.in_place (hand_waits seen z start h ns k link s.hand)).1

-- so its place isn't that of lanes
pub hand_linked : {L : Type 0} (seen : L → LinkView) (z : Setting) (h : List (Turn Entry)) (net : NetView) (link : LinkView) → (start : Beginning) × (ns : List (Newcomer L)) × (k : ℕ) × HandStands seen z start h net ns k link → (link.place == lane_place) ≡ false
hand_linked seen z h net link (start, ns, k, s) =
    let b = inside start.net.opened net.opened (past_of h) link.place s.kept.in_place (hand_waits seen z start h ns k link s.hand) in
    let few = s.kept.few (omega (arith, b.0, b.1)) in ne_eqb link.place lane_place (λ same. absurd (omega (arith, b.1, few, same)))
