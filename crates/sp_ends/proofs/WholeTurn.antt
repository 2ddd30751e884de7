-- The parts of a turn of the ends, together.
use Rattle.std.proofs.Common.{◌≡◌, ◌≤◌, ◌+◌, ◌-◌, ◌*◌, ℕ, Bool, true, List, length, refl, sym, ap, subst, ◌∙◌, arith}
use Rattle.std.specs.FinMap.{get}
use Rattle.sp_base.specs.Views.{LinkView, NetView}
use Rattle.sp_history.specs.declared.entry.Entry.{Entry}
use Rattle.sp_history.specs.Found.{before_last_tick}
use Rattle.sp_history.specs.Past.{past_of}
use Rattle.sp_socket.specs.Singles.{SingleView, IsNow, IsSound}
use Rattle.sp_ends.specs.LinkRecords.{has_dry_miss}
use Rattle.sp_ends.specs.LinkCounts.{has_room, ticks_where}
use Rattle.sp_ends.specs.declared.listener.Listener.{Listener}
use Rattle.sp_ends.specs.declared.dialer.Dialer.{Dialer}
use Rattle.sp_ends.specs.EndViews.{Beginning, LinkEndsView}
use Rattle.sp_ends.specs.RunLinks.{NetStands, EndsStand, IsListener, SameCounts, sum_of, tries_of}
use Rattle.sp_ends.specs.Freeing.{Frees, AreSameDialers}
use Rattle.sp_ends.specs.Listening.{open_of, asks_to, FewerOwn}
use Rattle.sp_ends.specs.EndsTurns.{EndsTicked, SameEnds, InTurn, Serves, HasAsked, HasAskedTo, AsksDue, AsksAll, AsksEach}
use Rattle.sp_ends.specs.SocketSteps.{Quietly}
use Rattle.sp_ends.proofs.EndsStay.{all_mapped}
use Rattle.sp_ends.proofs.TurnParts.{dialers_long, ends_none, same_dialers, counts_none, serves_both}
use Rattle.sp_ends.proofs.Turns.{quiet_before, quiet_none, lanes_none}
use Rattle.sp_ends.proofs.FreedDialers.{frees_none, frees_both}
use Rattle.sp_ends.proofs.NewcomingAsks.{all_still, same_tries}
use Rattle.sp_ends.proofs.Owned.{open_less, asks_less}
use Rattle.sp_ends.proofs.NewcomingRounds.{dues_same}

-- ---- The net over a part that asks it for no link

module _ (start : Beginning) (net net' : NetView) (asked dialed : List Entry) (ls : List Listener) (ds es : List Dialer) (c : SameCounts net net') (s : AreSameDialers ds es) where
  sum_same : sum_of net' ≡ sum_of net
  sum_same = let a = c.idles in let b = c.faults in let o = c.opened in omega (arith, a, b, o)

  net_served : NetStands start asked dialed net ls ds → NetStands start asked dialed net' ls es
  net_served n =
      record {
        few = let f = n.few in let l = dialers_long ds es s in omega (arith, f, l);
        listens = all_mapped (IsListener net) (IsListener net') (λ at l. record { listens = ap (λ m. get m at.at) c.listens ∙ l.listens; linked = l.linked }) ls n.listens;
        dials = all_still (net.opened ≡ start.net.opened) (net'.opened ≡ start.net.opened) (λ x. sym c.opened ∙ x) dialed ds es s n.dials;
        first = λ e. c.opened ∙ n.first e;
        idles = let a = n.idles in let b = c.idles in omega (arith, a, b);
        faults = let a = n.faults in let b = c.faults in omega (arith, a, b);
        rose = λ i f.
            let a = c.idles in let b = c.faults in
            let r = n.rose (omega (arith, i, a)) (omega (arith, f, b)) in
            subst (λ (m : ℕ). sum_of start.net + length ls * ticks_where has_room asked + tries_of es ≤ m) (sym sum_same) (subst (λ (m : ℕ). sum_of start.net + length ls * ticks_where has_room asked + m ≤ sum_of net) (sym (same_tries ds es s)) r);
      }

pub serves_net : {L : Type 0} (start : Beginning) (ends ends' : LinkEndsView L) (net net' : NetView) (s s' : SingleView) → Serves ends ends' net net' s s'
    → NetStands start (before_last_tick (past_of s.seen)) (before_last_tick (past_of s.seen)) net ends.listeners ends.dialers
    → NetStands start (before_last_tick (past_of s'.seen)) (before_last_tick (past_of s'.seen)) net' ends'.listeners ends'.dialers
serves_net start ends ends' net net' s s' v n =
    let before = before_last_tick (past_of s.seen) in
    subst (λ (past : List Entry). NetStands start past past net' ends'.listeners ends'.dialers) (sym (quiet_before s s' v.quietly))
    (subst (λ (ls : List Listener). NetStands start before before net' ls ends'.dialers) (sym v.ends.listeners) (net_served start net net' before before ends.listeners ends.dialers ends'.dialers v.counts v.dialers n))

-- ---- Wires that are taken one by one

-- what holds so far
pub record StillTakes {L : Type 0} (seen : L → LinkView) (first ends : LinkEndsView L) (net net' : NetView) (s s' : SingleView) (now : ℕ) : Type 0 where
  pub in_turn : (start : Beginning) → InTurn seen start first net s now (length first.newcomers) → InTurn seen start ends net' s' now (length ends.newcomers)
  pub few : length ends.newcomers ≤ length first.newcomers
  pub newcomers : ends.newcomers ≡ first.newcomers
  pub serves : Serves first ends net net' s s'
  pub frees : Frees now net net' first.dialers ends.dialers
  pub dry : has_dry_miss (past_of s'.seen) ≡ has_dry_miss (past_of s.seen)

module _ {L : Type 0} (seen : L → LinkView) (first : LinkEndsView L) (net : NetView) (s : SingleView) (now : ℕ) where
  pub takes_none : StillTakes seen first first net net s s now
  takes_none =
      record {
        in_turn = λ start i. i;
        few = omega arith;
        newcomers = refl;
        serves = record { ends = ends_none first; dialers = same_dialers first.dialers; counts = counts_none net; quietly = quiet_none s; lanes = lanes_none s };
        frees = frees_none now net net first.dialers first.dialers (omega arith) refl refl;
        dry = refl;
      }

  pub takes_more : (ends ends' : LinkEndsView L) (net' net'' : NetView) (s' s'' : SingleView) → StillTakes seen first ends net net' s s' now
      → ((start : Beginning) → InTurn seen start ends net' s' now (length ends.newcomers) → InTurn seen start ends' net'' s'' now (length ends'.newcomers))
      → length ends'.newcomers ≤ length ends.newcomers → ends'.newcomers ≡ ends.newcomers → Serves ends ends' net' net'' s' s'' → Frees now net' net'' ends.dialers ends'.dialers → has_dry_miss (past_of s''.seen) ≡ has_dry_miss (past_of s'.seen) → StillTakes seen first ends' net net'' s s'' now
  takes_more ends ends' net' net'' s' s'' t step few newcomers serves frees dry =
      record {
        in_turn = λ start i. step start (t.in_turn start i);
        few = let f = t.few in omega (arith, few, f);
        newcomers = newcomers ∙ t.newcomers;
        serves = serves_both first ends ends' net net' net'' s s' s'' t.serves serves;
        frees = frees_both now net net' net'' first.dialers ends.dialers ends'.dialers t.frees frees;
        dry = dry ∙ t.dry;
      }

-- ---- The parts

module _ {L : Type 0} (seen : L → LinkView) (start : Beginning) (now : ℕ) where
  pub turn_begins : (ends : LinkEndsView L) (net : NetView) (s : SingleView) → EndsTicked seen s.setting start s.seen net ends → IsNow now s → IsSound s → InTurn seen start ends net s now (length ends.newcomers)
  turn_begins ends net s e n o = record { role = e.role; links = e.links; of_run = e.of_run; now_is = n; ticked = e.ticked; sound = o }

  pub turn_ends : (ends : LinkEndsView L) (net : NetView) (s : SingleView) → InTurn seen start ends net s now 0 → NetStands start (past_of s.seen) (past_of s.seen) net ends.listeners ends.dialers → EndsStand seen s.setting start s.seen net ends
  turn_ends ends net s i n = record { role = i.role; links = i.links; asked = n; of_run = i.of_run }

-- where there was room at the tick, there is room to accept
pub room_on : {L : Type 0} (ends ends' : LinkEndsView L) (s s' : SingleView) → Quietly s s' → length ends'.newcomers ≤ length ends.newcomers → (has_room (before_last_tick (past_of s.seen)) ≡ true → length ends.newcomers ≤ 192) → has_room (before_last_tick (past_of s'.seen)) ≡ true → length ends'.newcomers ≤ 192
room_on ends ends' s s' q few was room = let l = was (ap has_room (sym (quiet_before s s' q)) ∙ room) in omega (arith, l, few)

-- ---- How often the net was asked

pub asks_all : {L : Type 0} (seen : L → LinkView) (now : ℕ) (a b c : LinkEndsView L) (n m o p : NetView) (s t : SingleView) (d : Bool) → SameEnds a b → AreSameDialers a.dialers b.dialers → SameCounts n m → FewerOwn a.newcomers b.newcomers → HasAskedTo seen (length b.listeners) b c m o s t now d → o.idles ≤ p.idles → o.faults ≤ p.faults → AsksDue now c.dialers o p → AsksAll now a n p
asks_all seen now a b c n m o p s t d same dialers counts less asked idles faults due i f =
    let first = asked.rose (omega (arith, i, idles)) (omega (arith, f, faults)) in
    let last = due i f in
    let x = dues_same now a.dialers b.dialers dialers in
    let y = dues_same now b.dialers c.dialers asked.asked.dialers in
    let l = ap (λ ls. open_of (length ls) b.newcomers) same.listeners in
    let w = open_less (length a.listeners) a.newcomers b.newcomers less.own in
    omega (arith, first, last, l, w, x, y, counts.idles, counts.faults, counts.opened)

-- each listener was asked until it had no link, failed or had brought 16, or had 256
pub asks_each : {L : Type 0} (seen : L → LinkView) (now : ℕ) (a b c : LinkEndsView L) (n m o p : NetView) (s t : SingleView) (d : Bool) → SameEnds a b → AreSameDialers a.dialers b.dialers → SameCounts n m → FewerOwn a.newcomers b.newcomers → HasAskedTo seen (length b.listeners) b c m o s t now d → o.idles ≤ p.idles → o.faults ≤ p.faults → o.opened ≤ p.opened → AsksDue now c.dialers o p
    → AsksEach now a n p
asks_each seen now a b c n m o p s t d same dialers counts less asked idles faults opened due i f =
    let q = asked.filled (omega (arith, i, idles)) (omega (arith, f, faults)) in
    let r = due i f in
    let x = dues_same now a.dialers b.dialers dialers in
    let y = dues_same now b.dialers c.dialers asked.asked.dialers in
    let l = ap (λ ls. asks_to (length ls) (o.opened - m.opened) b.newcomers) same.listeners in
    let w = asks_less (length a.listeners) (o.opened - m.opened) (p.opened - n.opened) a.newcomers b.newcomers (omega (arith, opened, counts.opened)) less.own in
    omega (arith, q, r, l, w, x, y, idles, faults, counts.idles, counts.faults, counts.opened)

-- each dialer that is due after the listeners were asked was due before
pub dues_asked : {L : Type 0} (seen : L → LinkView) (now first last most : ℕ) (b c : LinkEndsView L) (m o p : NetView) (s t : SingleView) (d : Bool) → HasAsked seen first last most b c m o s t now d → AsksDue now c.dialers o p → AsksDue now b.dialers m p
dues_asked seen now first last most b c m o p s t d asked due r f =
    let q = due r f in
    let x = dues_same now b.dialers c.dialers asked.dialers in omega (arith, q, x, asked.idles, asked.faults, asked.opened)

pub dues_taken : (now : ℕ) (ds es : List Dialer) (n m p : NetView) → AreSameDialers ds es → SameCounts n m → AsksDue now es m p → AsksDue now ds n p
dues_taken now ds es n m p same counts due i f =
    let q = due i f in
    let x = dues_same now ds es same in omega (arith, q, x, counts.idles, counts.faults, counts.opened)

-- first some wires were taken
pub asks_taken : {L : Type 0} (now : ℕ) (a b : LinkEndsView L) (n m p : NetView) (s t : SingleView) → Serves a b n m s t → b.newcomers ≡ a.newcomers → AsksAll now b m p → AsksAll now a n p
asks_taken now a b n m p s t v same asked i f =
    let r = asked i f in
    let l = ap (λ ls. open_of (length ls) b.newcomers) v.ends.listeners in
    let w = ap (open_of (length a.listeners)) same in
    let x = dues_same now a.dialers b.dialers v.dialers in
    let c = v.counts in omega (arith, r, l, w, x, c.idles, c.faults, c.opened)

pub each_taken : {L : Type 0} (now : ℕ) (a b : LinkEndsView L) (n m p : NetView) (s t : SingleView) → Serves a b n m s t → b.newcomers ≡ a.newcomers → AsksEach now b m p → AsksEach now a n p
each_taken now a b n m p s t v same each i f =
    let q = each i f in
    let c = v.counts in
    let l = ap (λ ls. asks_to (length ls) (p.opened - m.opened) b.newcomers) v.ends.listeners in
    let w = ap (asks_to (length a.listeners) (p.opened - m.opened)) same in
    let h = ap (λ k. asks_to (length a.listeners) (p.opened - k) a.newcomers) c.opened in
    let x = dues_same now a.dialers b.dialers v.dialers in omega (arith, q, l, w, h, x, c.idles, c.faults, c.opened)
