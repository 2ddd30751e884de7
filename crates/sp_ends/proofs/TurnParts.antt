-- Parts of a turn of the ends.
use Rattle.std.proofs.Common.{◌≡◌, refl, ap, sym, ◌∙◌, subst, List, [], ◌∷◌, ◌++◌, ℕ, ◌+◌, ◌≤◌, ◌<◌, Bool, true, false, cond, arith, length, Some, eqb-true}
use Rattle.std.specs.Prelude.{zero, suc, ◌==◌}
use Rattle.std.specs.List.{AllByRecursion}
use Rattle.turn_lock.specs.declared.turn.Turn.{Turn}
use Rattle.sp_base.specs.Views.{LinkView, NetView}
use Rattle.sp_base.specs.Steps.{AfterGiveBack}
use Rattle.sp_history.specs.declared.entry.Entry.{Entry}
use Rattle.sp_history.specs.declared.entry.Entry.TheVariants.{Taken, Down, Up}
use Rattle.sp_history.specs.declared.entry.Why.{Why}
use Rattle.sp_history.specs.declared.setting.Setting.{Setting}
use Rattle.sp_history.specs.Lists.{has, without}
use Rattle.sp_history.specs.Legal.{AreAllowed}
use Rattle.sp_history.specs.Past.{past_of, up, ups, down_for, now}
use Rattle.sp_history.proofs.Wiring.{has_before, has_more}
use Rattle.sp_core.specs.Moving.{AreSettling}
use Rattle.sp_core.specs.Standing.{HasFirst}
use Rattle.sp_socket.specs.Singles.{SingleView, TookOne, IsSound}
use Rattle.sp_ends.specs.LinkRecords.{lane_place, place_of}
use Rattle.sp_ends.specs.declared.newcomer.Newcomer.{Newcomer}
use Rattle.sp_ends.specs.declared.listener.Listener.{Listener}
use Rattle.sp_ends.specs.declared.dialer.Dialer.{Dialer}
use Rattle.sp_base.specs.declared.addr.Addr.{Addr}
use Rattle.sp_links.specs.Origins.{Origins, IsAmong}
use Rattle.sp_ends.specs.EndViews.{Beginning, LinkEndsView}
use Rattle.sp_ends.specs.RunLinks.{AreOfRun, LinksStand, HasCarried, IsAskedIn, SameCounts}
use Rattle.sp_ends.specs.SocketSteps.{Quietly}
use Rattle.sp_ends.specs.EndsTurns.{InTurn, InTurnWith, SameEnds, SameButPlaces, Serves, DialsOne, targets_of}
use Rattle.sp_ends.specs.DialerSteps.{IsSameDialer}
use Rattle.sp_ends.specs.Freeing.{AreSameDialers}
use Rattle.sp_ends.proofs.LinkPlaces.{gone}
use Rattle.sp_ends.proofs.LaterEntries.{has_other}
use Rattle.sp_ends.proofs.EndsStay.{settles, links_stay, are_progressing}
use Rattle.sp_ends.proofs.LinkSteps.{greeting_after, met_after, greeting_ticks_after}
use Rattle.sp_ends.proofs.Moves.{kept_taken, kept_lane_taken}
use Rattle.sp_ends.proofs.Turns.{quiet_both, quiet_none, quiet_now, quiet_ticks, lanes_both, lanes_none, after_one}

-- ---- The same ends

pub same_dialer : (d : Dialer) → IsSameDialer d d
same_dialer d = record { addr = refl; max = refl; tries = refl; free = λ e. refl }

pub same_dialers : (ds : List Dialer) → AreSameDialers ds ds
same_dialers [] = tt
same_dialers (d ∷ ds) = (same_dialer d, same_dialers ds)

pub dialer_both : (a b c : Dialer) → IsSameDialer a b → IsSameDialer b c → IsSameDialer a c
dialer_both a b c x y =
    record { addr = y.addr ∙ x.addr; max = y.max ∙ x.max; tries = y.tries ∙ x.tries; free = λ e. let s = x.free e in y.free (ap (λ (d : Dialer). d.place) s ∙ e) ∙ s }

pub dialers_both : (xs ys zs : List Dialer) → AreSameDialers xs ys → AreSameDialers ys zs → AreSameDialers xs zs
dialers_both [] [] [] x y = tt
dialers_both (a ∷ xs) (b ∷ ys) (c ∷ zs) x y = (dialer_both a b c x.0 y.0, dialers_both xs ys zs x.1 y.1)
dialers_both [] (b ∷ ys) zs x y = absurd x
dialers_both (a ∷ xs) [] zs x y = absurd x
dialers_both [] [] (c ∷ zs) x y = absurd y
dialers_both (a ∷ xs) (b ∷ ys) [] x y = absurd y

-- no dialer is lost
pub dialers_long : (ds es : List Dialer) → AreSameDialers ds es → length es ≡ length ds
dialers_long [] [] x = refl
dialers_long (d ∷ ds) (e ∷ es) x = ap suc (dialers_long ds es x.1)
dialers_long [] (e ∷ es) x = absurd x
dialers_long (d ∷ ds) [] x = absurd x

-- each has its address
one_target : (a b : Addr) (m n : ℕ) → a ≡ b → m ≡ n → ◌≡◌ {A = Addr × ℕ} (a, m) (b, n)
one_target a b m n x y = cc

pub dialers_targets : (ds es : List Dialer) → AreSameDialers ds es → targets_of es ≡ targets_of ds
dialers_targets [] [] x = refl
dialers_targets (d ∷ ds) (e ∷ es) x = ap (λ (t : Addr × ℕ). t ∷ targets_of es) (one_target e.addr d.addr e.max d.max x.0.addr x.0.max) ∙ ap (λ (more : List (Addr × ℕ)). (d.addr, d.max) ∷ more) (dialers_targets ds es x.1)
dialers_targets [] (e ∷ es) x = absurd x
dialers_targets (d ∷ ds) [] x = absurd x

pub dials_targets : (i now : ℕ) (same : Type 0) (ds es : List Dialer) → DialsOne i now same ds es → targets_of es ≡ targets_of ds
dials_targets i now same [] [] x = refl
dials_targets zero now same (d ∷ ds) (e ∷ es) x = ap (λ (t : Addr × ℕ). t ∷ targets_of es) (one_target e.addr d.addr e.max d.max x.0.addr x.0.max) ∙ ap (λ (more : List (Addr × ℕ)). (d.addr, d.max) ∷ more) (dialers_targets ds es x.1)
dials_targets (suc i) now same (d ∷ ds) (e ∷ es) x = ap (λ (t : Addr × ℕ). t ∷ targets_of es) (one_target e.addr d.addr e.max d.max x.0.addr x.0.max) ∙ ap (λ (more : List (Addr × ℕ)). (d.addr, d.max) ∷ more) (dials_targets i now same ds es x.1)
dials_targets zero now same (d ∷ ds) [] x = absurd x
dials_targets (suc i) now same (d ∷ ds) [] x = absurd x
dials_targets zero now same [] (e ∷ es) x = absurd x
dials_targets (suc i) now same [] (e ∷ es) x = absurd x

-- dialers of the same addresses, with the same receive limits
same_targets : (P : Addr × ℕ → Type 0) (ds es : List Dialer) → targets_of es ≡ targets_of ds → AllByRecursion (λ (d : Dialer). P (d.addr, d.max)) ds → AllByRecursion (λ (d : Dialer). P (d.addr, d.max)) es
same_targets P ds [] e all = tt
same_targets P [] (d ∷ es) e all = cc
same_targets P (c ∷ ds) (d ∷ es) e all = (subst P (sym (first_is (d.addr, d.max) (c.addr, c.max) (targets_of es) (targets_of ds) e)) all.0, same_targets P ds es (rest_is (d.addr, d.max) (c.addr, c.max) (targets_of es) (targets_of ds) e) all.1)
  where
    first_is : (a b : Addr × ℕ) (xs ys : List (Addr × ℕ)) → a ∷ xs ≡ b ∷ ys → a ≡ b
    first_is a b xs ys e = cc

    rest_is : (a b : Addr × ℕ) (xs ys : List (Addr × ℕ)) → a ∷ xs ≡ b ∷ ys → xs ≡ ys
    rest_is a b xs ys e = cc

-- the ends are the run's, later too
pub of_run_on : {L : Type 0} (o : Origins) (old new : LinkEndsView L) → SameEnds old new → AreOfRun o old → AreOfRun o new
of_run_on o old new same r =
    record {
      listens = subst (AllByRecursion (λ (l : Listener). IsAmong l.addr o.listens)) (sym same.listeners) r.listens;
      dials = same_targets (λ (t : Addr × ℕ). IsAmong t.0 o.dials) old.dialers new.dialers same.dials r.dials;
      dice = same.dice ∙ r.dice;
      listen_limits = subst (AllByRecursion (λ (l : Listener). IsAmong l.max o.limits)) (sym same.listeners) r.listen_limits;
      dial_limits = same_targets (λ (t : Addr × ℕ). IsAmong t.1 o.limits) old.dialers new.dialers same.dials r.dial_limits;
    }

pub dials_long : (i now : ℕ) (same : Type 0) (ds es : List Dialer) → DialsOne i now same ds es → length es ≡ length ds
dials_long i now same [] [] x = refl
dials_long zero now same (d ∷ ds) (e ∷ es) x = ap suc (dialers_long ds es x.1)
dials_long (suc i) now same (d ∷ ds) (e ∷ es) x = ap suc (dials_long i now same ds es x.1)
dials_long zero now same (d ∷ ds) [] x = absurd x
dials_long (suc i) now same (d ∷ ds) [] x = absurd x
dials_long zero now same [] (e ∷ es) x = absurd x
dials_long (suc i) now same [] (e ∷ es) x = absurd x

pub counts_both : (a b c : NetView) → SameCounts a b → SameCounts b c → SameCounts a c
counts_both a b c x y =
    record { listens = y.listens ∙ x.listens; opened = y.opened ∙ x.opened; faults = y.faults ∙ x.faults; idles = y.idles ∙ x.idles }

pub counts_none : (a : NetView) → SameCounts a a
counts_none a = record { listens = refl; opened = refl; faults = refl; idles = refl }

pub counts_back : (link : LinkView) (a b : NetView) → AfterGiveBack link a b → SameCounts a b
counts_back link a b g = record { listens = g.listens; opened = g.opened; faults = g.faults; idles = g.idles }

-- ---- Pipes that are down

pub up_numbered : (z : Setting) (past : List Entry) (p : ℕ) → AreAllowed z past → has (up past) p ≡ true → p ≤ ups past
up_numbered z [] p a h = cc
up_numbered z (Up q place limit name ∷ past) p a h = go (has (up past) p) refl (up_numbered z past p a.1)
  where
    go : (t : Bool) → has (up past) p ≡ t → (has (up past) p ≡ true → p ≤ ups past) → p ≤ ups past + 1
    go true e f = let l = f e in omega arith
    go false e f0 = let same : q ≡ p = has_more (up past) q p h e in let f = a.0.1.itself.0 in omega (arith, same, f)
up_numbered z (Down q why ∷ past) p a h = up_numbered z past p a.1 (has_before (up past) q p h)
up_numbered z (_ ∷ past) p a h = up_numbered z past p a.1 h

pub down_off : (z : Setting) (past : List Entry) (p : ℕ) (why : Why) → AreAllowed z past → down_for past p ≡ Some why → (p ≤ ups past) × (has (up past) p ≡ false)
down_off z [] p why a h = cc
down_off z (Up q place limit name ∷ past) p why a h = go (has (up past ++ q ∷ []) p) refl (down_off z past p why a.1 h)
  where
    go : (t : Bool) → has (up past ++ q ∷ []) p ≡ t → (p ≤ ups past) × (has (up past) p ≡ false) → (p ≤ ups past + 1) × (has (up past ++ q ∷ []) p ≡ false)
    go false e x = (let l = x.0 in omega arith, e)
    go true e x = let same : q ≡ p = has_more (up past) q p e x.1 in let f = a.0.1.itself.0 in let l = x.0 in absurd (omega (arith, same, f, l))
down_off z (Down q other ∷ past) p why a h = go (q == p) refl h (down_off z past p why a.1)
  where
    was_up : has (up past) q ≡ true
    was_up = a.0.1.itself.0

    go : (t : Bool) → (q == p) ≡ t → cond t (Some other) (down_for past p) ≡ Some why → (down_for past p ≡ Some why → (p ≤ ups past) × (has (up past) p ≡ false)) → (p ≤ ups past) × (has (without (up past) q) p ≡ false)
    go true e n x = let same : q ≡ p = eqb-true q p e in (subst (λ (m : ℕ). m ≤ ups past) same (up_numbered z past q a.1 was_up), subst (λ (m : ℕ). has (without (up past) q) m ≡ false) same (gone (up past) q))
    go false e n x = let b = x n in (b.0, has_other (up past) q p e ∙ b.1)
down_off z (_ ∷ past) p why a h = down_off z past p why a.1 h

module _ {L : Type 0} where
  pub ends_none : (a : LinkEndsView L) → SameEnds a a
  ends_none a = record { role = refl; dice = refl; listeners = refl; dials = refl }

  pub ends_both : (a b c : LinkEndsView L) → SameEnds a b → SameEnds b c → SameEnds a c
  ends_both a b c x y = record { role = y.role ∙ x.role; dice = y.dice ∙ x.dice; listeners = y.listeners ∙ x.listeners; dials = y.dials ∙ x.dials }

  pub ends_lost : (a b : LinkEndsView L) → SameButPlaces a b → SameEnds a b
  ends_lost a b x = record { role = ap (λ (e : LinkEndsView L). e.role) x.ends; dice = ap (λ (e : LinkEndsView L). e.dice) x.ends; listeners = ap (λ (e : LinkEndsView L). e.listeners) x.ends; dials = dialers_targets a.dialers b.dialers x.dialers }

  pub newcomers_lost : (a b : LinkEndsView L) → SameButPlaces a b → b.newcomers ≡ a.newcomers
  newcomers_lost a b x = ap (λ (e : LinkEndsView L). e.newcomers) x.ends

  pub serves_both : (a b c : LinkEndsView L) (n m o : NetView) (s t u : SingleView) → Serves a b n m s t → Serves b c m o t u → Serves a c n o s u
  serves_both a b c n m o s t u x y =
      record { ends = ends_both a b c x.ends y.ends; dialers = dialers_both a.dialers b.dialers c.dialers x.dialers y.dialers; counts = counts_both n m o x.counts y.counts; quietly = quiet_both s t u x.quietly y.quietly; lanes = lanes_both s t u x.lanes y.lanes }

  -- ---- Further in the turn

  pub turn_on : (seen : L → LinkView) (start : Beginning) (old new : LinkEndsView L) (net net' : NetView) (time k k' : ℕ) (a b : SingleView) → SameEnds old new → Quietly a b → IsSound b → InTurn seen start old net a time k → LinksStand seen b.setting start b.seen net' new.newcomers k' → InTurn seen start new net' b time k'
  turn_on seen start old new net net' time k k' a b same quiet sound i links =
      record { role = same.role ∙ (i.role ∙ ap (λ (z : Setting). z.role) (sym quiet.setting)); links = links; of_run = of_run_on start.origins old new same i.of_run; now_is = quiet_now time a b quiet i.now_is; ticked = subst (λ (ts : List ℕ). 0 < length ts) (sym (quiet_ticks a b quiet)) i.ticked; sound = sound }

  -- ---- A wire is taken

  module _ (seen : L → LinkView) (start : Beginning) (ns : List (Newcomer L)) (k : ℕ) (says : Setting → List (Turn Entry) → Turn Entry → Type 0) (a b : SingleView) (took : TookOne says a b) where
    pub taken_stands : (net net' : NetView) (p : ℕ) (link : LinkView) → AfterGiveBack link net net' → place_of (past_of a.seen) p ≡ Some link.place → (link.place ≡ lane_place → ⊥) → has (up (past_of a.seen)) p ≡ false → link.is_open ≡ false → IsAskedIn (past_of a.seen) link.place link → HasCarried start.origins a.setting a.seen p link → HasFirst (Taken p) took.turn → LinksStand seen a.setting start a.seen net ns k → LinksStand seen b.setting start b.seen net' ns k
    taken_stands net net' p link back is no_lane off shut asked carries first s =
        after_one says a b took (λ z h. LinksStand seen z start h net' ns k) (λ l. record {
          kept = kept_taken a.setting start net net' a.seen took.turn p link back is no_lane off shut asked carries first l s.kept;
          progressing = are_progressing seen start.origins a.setting (past_of a.seen) (past_of (a.seen ++ took.turn ∷ [])) (met_after a.setting start net net' a.seen took.turn (Taken p) first refl l s.kept) (greeting_ticks_after a.setting start net net' a.seen took.turn (Taken p) first refl l s.kept) k ns (greeting_after a.setting start net net' a.seen took.turn (Taken p) first refl l s.kept) s.progressing;
        })

    -- the wire of a lane was taken
    pub lane_taken : (net : NetView) (p : ℕ) → place_of (past_of a.seen) p ≡ Some lane_place → HasFirst (Taken p) took.turn → LinksStand seen a.setting start a.seen net ns k → LinksStand seen b.setting start b.seen net ns k
    lane_taken net p is first s =
        after_one says a b took (λ z h. LinksStand seen z start h net ns k) (λ l. record {
          kept = kept_lane_taken a.setting start net a.seen took.turn p is first l s.kept;
          progressing = are_progressing seen start.origins a.setting (past_of a.seen) (past_of (a.seen ++ took.turn ∷ [])) (met_after a.setting start net net a.seen took.turn (Taken p) first refl l s.kept) (greeting_ticks_after a.setting start net net a.seen took.turn (Taken p) first refl l s.kept) k ns (greeting_after a.setting start net net a.seen took.turn (Taken p) first refl l s.kept) s.progressing;
        })

    -- nothing was taken
    pub settled_stands : (net : NetView) → AreSettling took.turn.entries → LinksStand seen a.setting start a.seen net ns k → LinksStand seen b.setting start b.seen net ns k
    settled_stands net q s = after_one says a b took (λ z h. LinksStand seen z start h net ns k) (λ l. links_stay seen a.setting a.seen (took.turn ∷ []) (rw (settles took.turn.entries q) refl) start net l ns k s)

  -- ---- Greetings

  -- the first of the newcomers is taken out
  pub turn_with : (seen : L → LinkView) (start : Beginning) (n : Newcomer L) (rest : List (Newcomer L)) (old new : LinkEndsView L) (net : NetView) (time k k' : ℕ) (a : SingleView) → old.newcomers ≡ n ∷ rest → new ≡ record old { newcomers = rest } → k ≡ suc k' → InTurn seen start old net a time k → InTurnWith seen start n new net a time k'
  turn_with seen start n rest old new net time k k' a first is one i =
      subst (λ (e : LinkEndsView L). InTurnWith seen start n e net a time k') (sym is) (record { role = i.role; links = subst (λ (m : ℕ). LinksStand seen a.setting start a.seen net (n ∷ rest) m) one (subst (λ (ns : List (Newcomer L)). LinksStand seen a.setting start a.seen net ns k) first i.links); of_run = record { listens = i.of_run.listens; dials = i.of_run.dials; dice = i.of_run.dice; listen_limits = i.of_run.listen_limits; dial_limits = i.of_run.dial_limits }; now_is = i.now_is; ticked = i.ticked; sound = i.sound })

  -- its fate
  pub turn_after : (seen : L → LinkView) (start : Beginning) (n : Newcomer L) (old new : LinkEndsView L) (net net' : NetView) (time k k' : ℕ) (a b : SingleView) → SameEnds old new → Quietly a b → IsSound b → InTurnWith seen start n old net a time k → LinksStand seen b.setting start b.seen net' new.newcomers k' → InTurn seen start new net' b time k'
  turn_after seen start n old new net net' time k k' a b same quiet sound i links =
      record { role = same.role ∙ (i.role ∙ ap (λ (z : Setting). z.role) (sym quiet.setting)); links = links; of_run = of_run_on start.origins old new same i.of_run; now_is = quiet_now time a b quiet i.now_is; ticked = subst (λ (ts : List ℕ). 0 < length ts) (sym (quiet_ticks a b quiet)) i.ticked; sound = sound }

  -- others are being opened
  pub ends_others : (a b : LinkEndsView L) (ns : List (Newcomer L)) → b ≡ record a { newcomers = ns } → SameEnds a b
  ends_others a b ns is = subst (SameEnds a) (sym is) (record { role = refl; dice = refl; listeners = refl; dials = refl })

  -- with fewer newcomers
  pub serves_less : (old new : LinkEndsView L) (net : NetView) (s : SingleView) (rest : List (Newcomer L)) → new ≡ record old { newcomers = rest } → Serves old new net net s s
  serves_less old new net s rest is =
      subst (λ (e : LinkEndsView L). Serves old e net net s s) (sym is) (record { ends = record { role = refl; dice = refl; listeners = refl; dials = refl }; dialers = same_dialers old.dialers; counts = counts_none net; quietly = quiet_none s; lanes = lanes_none s })
