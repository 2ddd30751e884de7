-- What holds of the ends of a run still holds after turns that leave them, and a tick begins the next round.
use Rattle.std.proofs.Common.{◌≡◌, refl, ap, sym, ◌∙◌, subst, List, [], ◌∷◌, ◌++◌, ℕ, ◌+◌, ◌≤◌, ◌<◌, Bool, true, false, arith, length, take, drop}
use Rattle.std.specs.Prelude.{◌^◌, not}
use Rattle.std.specs.List.{list_all, AllByRecursion}
use Rattle.turn_lock.specs.declared.turn.Turn.{Turn}
use Rattle.sp_base.specs.Views.{LinkView, NetView}
use Rattle.sp_history.specs.declared.entry.Entry.{Entry}
use Rattle.sp_history.specs.declared.entry.Entry.TheVariants.{Up, Met, NoUp, Down, Out, Full, End, Dry, Taken, Tick}
use Rattle.sp_history.specs.declared.setting.Setting.{Setting}
use Rattle.sp_history.specs.Changes.{none_of}
use Rattle.sp_history.specs.Lists.{has}
use Rattle.sp_history.specs.Legal.{Legal}
use Rattle.sp_history.specs.Past.{past_from, past_of, now}
use Rattle.sp_history.specs.Found.{ticks, before_last_tick}
use Rattle.sp_core.specs.Moving.{AreSettling, IsSettling}
use Rattle.sp_ends.specs.LinkRecords.{met_at, greeting}
use Rattle.sp_ends.specs.LinkRecords.{has_dry_miss}
use Rattle.sp_ends.specs.LinkCounts.{greeting_ticks, ticks_where, has_room}
use Rattle.sp_ends.specs.Entries.{AddsNone, moves_ends}
use Rattle.sp_ends.specs.declared.newcomer.Newcomer.{Newcomer}
use Rattle.sp_ends.specs.declared.listener.Listener.{Listener}
use Rattle.sp_ends.specs.declared.dialer.Dialer.{Dialer}
use Rattle.sp_links.specs.Origins.{Origins}
use Rattle.sp_ends.specs.Dialing.{IsDialed}
use Rattle.sp_ends.specs.EndViews.{Beginning, LinkEndsView}
use Rattle.sp_ends.specs.RunLinks.{IsProgressing, WasGreeted, AreProgressing, LinksStand, NetStands, EndsStand}
use Rattle.sp_ends.proofs.LaterEntries.{past_of_more, NoneIn, turns_leave, moves_links}
use Rattle.sp_ends.proofs.LinkPlaces.{left_of, right_of}
use Rattle.sp_ends.proofs.LinksStay.{kept, legal_rest, greeting_is, met_is}

-- ---- Lists

module _ {A : Type 0} (P Q : A → Type 0) (f : (x : A) → P x → Q x) where
  pub all_mapped : (xs : List A) → AllByRecursion P xs → AllByRecursion Q xs
  all_mapped [] h = tt
  all_mapped (x ∷ xs) h = (f x h.0, all_mapped xs h.1)

-- ---- Entries

-- what moves no end moves no link
pub links_of : (e : Entry) → moves_ends e ≡ false → moves_links e ≡ false
links_of (Up p place limit name) h = cc
links_of (Met place) h = cc
links_of (NoUp place miss) h = cc
links_of (Taken p) h = cc
links_of (Tick t due) h = refl
links_of _ h = refl

not_true : (b : Bool) → not b ≡ true → b ≡ false
not_true true h = cc
not_true false h = refl

module _ (more less : Entry → Bool) (sub : (e : Entry) → more e ≡ false → less e ≡ false) where
  pub none_sub : (entries : List Entry) → none_of more entries ≡ true → none_of less entries ≡ true
  none_sub [] h = refl
  none_sub (e ∷ entries) h =
      let here : less e ≡ false = sub e (not_true (more e) (left_of (not (more e)) (none_of more entries) h)) in
      let later = none_sub entries (right_of (not (more e)) (none_of more entries) h) in rw (here, later) refl

  pub none_in_sub : (turns : List (Turn Entry)) → NoneIn more turns → NoneIn less turns
  none_in_sub [] h = refl
  none_in_sub (t ∷ turns) h =
      let here = none_sub t.entries (left_of (none_of more t.entries) (list_all (λ (u : Turn Entry). none_of more u.entries) turns) h) in
      let later = none_in_sub turns (right_of (none_of more t.entries) (list_all (λ (u : Turn Entry). none_of more u.entries) turns) h) in rw (here, later) refl

-- what settling records moves no end
pub settles : (entries : List Entry) → AreSettling entries → none_of moves_ends entries ≡ true
settles [] h = refl
settles (e ∷ entries) h = rw (one e h.0, settles entries h.1) refl
  where
    one : (e : Entry) → IsSettling e → moves_ends e ≡ false
    one (Down p why) h = refl
    one (Out p b) h = refl
    one (Full p) h = refl
    one (End op ending) h = refl
    one (Dry c) h = refl
    one (Up p place limit name) h = elim h [ ]
    one (Met place) h = elim h [ ]
    one (NoUp place miss) h = elim h [ ]
    one (Taken p) h = elim h [ ]
    one (Tick t due) h = elim h [ ]
    one _ h = elim h [ ]

-- ---- Links in progress

module _ {L : Type 0} (seen : L → LinkView) (o : Origins) (z : Setting) (old new : List Entry) (met : (place : ℕ) → met_at new place ≡ met_at old place) where
  -- after at most `more` - `less` further ticks
  pub progress_later : (less more : ℕ) → ((place : ℕ) → greeting_ticks new place + less ≤ greeting_ticks old place + more) → (n : Newcomer L) → IsProgressing seen o z old less n → IsProgressing seen o z new more n
  progress_later less more t n p =
      record { under_way = p.under_way; of_run = p.of_run; met = met (seen n.opening.link).place ∙ p.met; limit = p.limit; asked = λ i s. let a = p.asked i s in let b = t (seen n.opening.link).place in omega (arith, a, b) }

  module _ (same : (place : ℕ) → greeting_ticks new place ≡ greeting_ticks old place) where
    pub progress_same : (slack : ℕ) (n : Newcomer L) → IsProgressing seen o z old slack n → IsProgressing seen o z new slack n
    progress_same slack n p = progress_later slack slack (λ place. let e = same place in omega (arith, e)) n p

    pub are_progressing : (k : ℕ) (ns : List (Newcomer L)) → greeting new ≡ greeting old → AreProgressing seen o z old k ns → AreProgressing seen o z new k ns
    are_progressing k ns g a =
        record {
          within = a.within;
          ungreeted = all_mapped (IsProgressing seen o z old 1) (IsProgressing seen o z new 1) (progress_same 1) (take k ns) a.ungreeted;
          rest = all_mapped (WasGreeted seen o z old) (WasGreeted seen o z new) (λ n w. record { progressing = progress_same 0 n w.progressing; undone = w.undone; tried = w.tried }) (drop k ns) a.rest;
          all = a.all ∙ sym g;
        }

-- ---- The net

pub same_ticks : (e : Entry) (past : List Entry) → moves_ends e ≡ false → ticks (e ∷ past) ≡ ticks past
same_ticks (Tick t due) past h = cc
same_ticks _ past h = refl

pub same_before : (e : Entry) (past : List Entry) → moves_ends e ≡ false → before_last_tick (e ∷ past) ≡ before_last_tick past
same_before (Tick t due) past h = cc
same_before _ past h = refl

pub same_where : (test : List Entry → Bool) (e : Entry) (past : List Entry) → moves_ends e ≡ false → ticks_where test (e ∷ past) ≡ ticks_where test past
same_where test (Tick t due) past h = cc
same_where test _ past h = refl

pub same_now : (e : Entry) (past : List Entry) → moves_ends e ≡ false → now (e ∷ past) ≡ now past
same_now (Tick t due) past h = cc
same_now _ past h = refl

pub same_dry : (e : Entry) (past : List Entry) → moves_ends e ≡ false → has_dry_miss (e ∷ past) ≡ has_dry_miss past
same_dry (NoUp place miss) past h = cc
same_dry _ past h = refl

module _ (start : Beginning) (net : NetView) (listeners : List Listener) (dialers : List Dialer) (asked dialed asked' dialed' : List Entry) where
  pub net_same : ticks asked' ≡ ticks asked → ticks_where has_room asked' ≡ ticks_where has_room asked → ticks dialed' ≡ ticks dialed → NetStands start asked dialed net listeners dialers → NetStands start asked' dialed' net listeners dialers
  net_same a w d n =
      record {
        few = n.few;
        listens = n.listens;
        dials = all_mapped (IsDialed (net.opened ≡ start.net.opened) dialed) (IsDialed (net.opened ≡ start.net.opened) dialed') (λ x i. record { dialable = i.dialable; free = i.free; begun = λ e. i.begun (sym d ∙ e); soon = λ s. rw d (i.soon s); next = λ s few. let f : length (ticks dialed) < 2 ^ 64 = rw d at few in rw d (i.next s f); tries = λ s few. let f : length (ticks dialed) < 2 ^ 64 = rw d at few in rw d (i.tries s f); once = λ l. i.once (rw d at l) }) dialers n.dials;
        first = λ e. n.first (sym a ∙ e);
        idles = n.idles;
        faults = n.faults;
        rose = λ i f. rw w (n.rose i f);
      }

-- ---- Turns that leave the ends

module _ {L : Type 0} (seen : L → LinkView) (z : Setting) (h turns : List (Turn Entry)) (none : NoneIn moves_ends turns) where
  is_more : past_of (h ++ turns) ≡ past_from (past_of h) turns
  is_more = past_of_more [] h turns

  pub no_links : NoneIn moves_links turns
  no_links = none_in_sub moves_ends moves_links links_of turns none

  same_of : {A : Type 0} (f : List Entry → A) → ((e : Entry) (past : List Entry) → moves_ends e ≡ false → f (e ∷ past) ≡ f past) → f (past_of (h ++ turns)) ≡ f (past_of h)
  same_of f step = ap f is_more ∙ turns_leave moves_ends f step turns (past_of h) none

  ticks_are : ticks (past_of (h ++ turns)) ≡ ticks (past_of h)
  ticks_are = same_of ticks same_ticks

  pub asked_are : (test : List Entry → Bool) → ticks_where test (past_of (h ++ turns)) ≡ ticks_where test (past_of h)
  asked_are test = same_of (ticks_where test) (same_where test)

  pub before_is : before_last_tick (past_of (h ++ turns)) ≡ before_last_tick (past_of h)
  before_is = same_of before_last_tick same_before

  pub now_is : now (past_of (h ++ turns)) ≡ now (past_of h)
  now_is = same_of now same_now

  module _ (start : Beginning) (net : NetView) (l : Legal z (h ++ turns)) where
    pub links_stay : (ns : List (Newcomer L)) (k : ℕ) → LinksStand seen z start h net ns k → LinksStand seen z start (h ++ turns) net ns k
    links_stay ns k s =
        record {
          kept = kept z h turns no_links start net s.kept (legal_rest z h turns l).0 (legal_rest z h turns l).1;
          progressing = are_progressing seen start.origins z (past_of h) (past_of (h ++ turns)) (met_is z h turns no_links) (λ place. asked_are (λ before. has (greeting before) place)) k ns (greeting_is z h turns no_links) s.progressing;
        }

    pub net_stays : (listeners : List Listener) (dialers : List Dialer) → NetStands start (past_of h) (past_of h) net listeners dialers → NetStands start (past_of (h ++ turns)) (past_of (h ++ turns)) net listeners dialers
    net_stays listeners dialers n = net_same start net listeners dialers (past_of h) (past_of h) (past_of (h ++ turns)) (past_of (h ++ turns)) ticks_are (asked_are has_room) ticks_are n

    -- between two rounds
    pub ends_stay : (ends : LinkEndsView L) → EndsStand seen z start h net ends → EndsStand seen z start (h ++ turns) net ends
    ends_stay ends s =
        record { role = s.role; links = links_stay ends.newcomers 0 s.links; asked = net_stays ends.listeners ends.dialers s.asked; of_run = s.of_run }

-- the same, where the later history is given
pub linkless : {L : Type 0} (seen : L → LinkView) (z : Setting) (start : Beginning) (net : NetView) (h h' : List (Turn Entry)) (ends : LinkEndsView L) → AddsNone moves_ends h h' → Legal z h' → EndsStand seen z start h net ends → EndsStand seen z start h' net ends
linkless seen z start net h h' ends (turns, is, none) l s =
    subst (λ (g : List (Turn Entry)). EndsStand seen z start g net ends) (sym is) (ends_stay seen z h turns none start net (subst (λ (g : List (Turn Entry)). Legal z g) is l) ends s)
