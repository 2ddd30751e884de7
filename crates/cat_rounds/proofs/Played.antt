-- The result of a run, by its rounds and its record.
use Rattle.std.proofs.Common.{◌≡◌, refl, ap, sym, ◌∙◌, subst, List, [], ◌∷◌, ◌++◌, ℕ, ◌+◌, ◌<◌, Bool, true, false, length, Option, Some, None, inl, inr}
use Rattle.std.specs.Prelude.{◌⊎◌, ◌^◌, ◌||◌, IsTrue}
use Rattle.turn_lock.specs.declared.turn.Turn.{Turn}
use Rattle.sp_base.specs.Outside.{Rose}
use Rattle.sp_base.specs.Views.{LinkView, NetView, PaceView, SinkView, FilesView}
use Rattle.sp_history.specs.declared.entry.Entry.{Entry}
use Rattle.sp_history.specs.declared.entry.Entry.TheVariants.{Tick, NoUp}
use Rattle.sp_history.specs.declared.setting.Setting.{Setting}
use Rattle.sp_history.specs.Changes.{none_of}
use Rattle.sp_history.specs.Found.{ticks}
use Rattle.sp_history.specs.Legal.{Legal}
use Rattle.sp_history.specs.Past.{onto, past_of}
use Rattle.sp_history.specs.Settled.{Settled}
use Rattle.sp_history.proofs.Appending.{past_of-append}
use Rattle.sp_history.proofs.Backing.{legal_allowed}
use Rattle.sp_socket.specs.Singles.{SingleView}
use Rattle.sp_links.specs.Origins.{run_ways}
use Rattle.sp_ends.specs.EndViews.{Beginning, LinkEndsView}
use Rattle.sp_ends.specs.RunLinks.{NetStands}
use Rattle.sp_ends.specs.LeftLinks.{LinksLeft}
use Rattle.sp_ends.proofs.EndsStay.{linkless}
use Rattle.cat_text.specs.declared.plan.CatPlan.{CatPlan}
use Rattle.cat_play.specs.declared.status.Status.{Status}
use Rattle.cat_play.specs.declared.status.Status.TheVariants as status
use Rattle.cat_play.specs.Plans.{Play, IsPlayOf}
use Rattle.cat_play.specs.Playing.{Plays}
use Rattle.cat_play.specs.Running.{World, world, run_setting, ListensTwice, EndedFor, IsFinished, IsCutShort, Printed, Runs, RunsPlan}
use Rattle.sp_ends.specs.LinkRecords.{Records, has_dry_miss}
use Rattle.cat_play.specs.Scripts.{texts, counted, has_reached, timed_out}
use Rattle.cat_play.specs.Spending.{Spends, listens_of, dials_of}
use Rattle.sp_ends.specs.Entries.{AddsNone, moves_ends}
use Rattle.cat_play.proofs.Stepping.{none_first, none_rest}
use Rattle.cat_rounds.specs.declared.player.PlayEnd.{PlayEnd}
use Rattle.cat_rounds.specs.declared.player.PlayEnd.TheVariants as overs
use Rattle.cat_rounds.specs.declared.player.Player.{Player}
use Rattle.cat_rounds.specs.Lasting.{play_of, IsOver}
use Rattle.cat_rounds.specs.RunRounds.{RunStands, PrintsTo, IsDryAt, is_dry_at}
use Rattle.cat_rounds.specs.Built.{EndsFor, Follows, FinishesTo, FinishesAs}
use Rattle.cat_rounds.proofs.Silent.{keeps_all}
use Rattle.cat_rounds.proofs.PlaysStay.{over_kept}
use Rattle.cat_rounds.proofs.Asked.{AreAsked, were_asked}
use Rattle.cat_rounds.proofs.Faultless.{is_faultless}

-- ---- Turns that move no end

-- what each such entry leaves unchanged, such turns leave unchanged
kept : {A : Type 0} (f : List Entry → A) → ((e : Entry) (past : List Entry) → moves_ends e ≡ false → f (e ∷ past) ≡ f past) → (h h' : List (Turn Entry)) → AddsNone moves_ends h h' → f (past_of h') ≡ f (past_of h)
kept f step h h' more = keeps_all moves_ends (λ g. f (past_of g) ≡ f (past_of h)) one h h' more refl
  where
    all : (es past : List Entry) → none_of moves_ends es ≡ true → f (onto es past) ≡ f past
    all [] past none = refl
    all (e ∷ es) past none = all es (e ∷ past) (none_rest moves_ends e es none) ∙ step e past (none_first moves_ends e es none)

    one : (g : List (Turn Entry)) (t : Turn Entry) → none_of moves_ends t.entries ≡ true → f (past_of g) ≡ f (past_of h) → f (past_of (g ++ t ∷ [])) ≡ f (past_of h)
    one g t none was = ap f (past_of-append g t) ∙ (all t.entries (past_of g) none ∙ was)

ticks_step : (e : Entry) (past : List Entry) → moves_ends e ≡ false → ticks (e ∷ past) ≡ ticks past
ticks_step (Tick t due) past h = cc
ticks_step _ past h = refl

dry_step : (e : Entry) (past : List Entry) → moves_ends e ≡ false → has_dry_miss (e ∷ past) ≡ has_dry_miss past
dry_step (NoUp place miss) past h = cc
dry_step _ past h = refl

-- ---- A run

-- a plan was followed, and then the run was finished
pub record HasRun {L : Type 0} (seen : L → LinkView) (st : Status) (plan : CatPlan) (s : SingleView) (e : LinkEndsView L) (p : Player) (start : Beginning) (between net' : NetView) (pace pace' : PaceView) (out out' : SinkView) (record_ : List (Turn Entry)) : Type 0 where
  pub run : RunStands seen start s e p between (is_dry_at s)
  pub dry : IsDryAt st s
  pub followed : Follows st plan.ends s e p start.net between pace pace' out out'
  pub printed : PrintsTo st out.text out'.text s.seen p
  pub finished : FinishesTo seen start s e p between net' record_

or_of : (a b : Bool) → IsTrue (a || b) → IsTrue a ⊎ IsTrue b
or_of true b h = inl refl
or_of false b h = inr h

finished_is : (o : PlayEnd) (z : Setting) (play : Play) (past : List Entry) → o ≡ overs.Finished → IsOver o z play past → IsFinished z play past
finished_is o z play past e is =
    or_of (has_reached play.count (counted z play past)) (timed_out true past) (subst (λ (o : PlayEnd). IsOver o z play past) e is)

timed_out_is : (o : PlayEnd) (z : Setting) (play : Play) (past : List Entry) → o ≡ overs.SendTimedOut → IsOver o z play past → IsTrue (timed_out false past)
timed_out_is o z play past e is = subst (λ (o : PlayEnd). IsOver o z play past) e is

prints : (st : Status) (before now : Option (List ℕ)) (h : List (Turn Entry)) (p : Player) (ts : List (List ℕ)) (old new : World) → old.sink.text ≡ before → new.sink.text ≡ now → ts ≡ texts (play_of p.script) (past_of h) → PrintsTo st before now h p → Printed st ts old new
prints status.OutFault before now h p ts old new b n e ((piece, cut, is), free, ends) =
    (piece, subst (λ (ts : List (List ℕ)). IsCutShort ts piece) (sym e) cut, rw (b, n) is)
prints status.NoMemory before now h p ts old new b n e (piece, cut, is) =
    (piece, subst (λ (ts : List (List ℕ)). IsCutShort ts piece) (sym e) cut, rw (b, n) is)
prints status.Done before now h p ts old new b n e is = rw (b, n, e) is
prints (status.Usage at) before now h p ts old new b n e is = rw (b, n, e) is
prints status.SendTimedOut before now h p ts old new b n e is = rw (b, n, e) is
prints status.Over before now h p ts old new b n e is = rw (b, n, e) is
prints status.NetFault before now h p ts old new b n e is = rw (b, n, e) is
prints status.FileFault before now h p ts old new b n e is = rw (b, n, e) is

dry_ends : (st : Status) (s : SingleView) → IsDryAt st s → is_dry_at s ≡ true → st ≡ status.NoMemory
dry_ends status.NoMemory s dry is = refl
dry_ends status.Done s dry is = cc
dry_ends (status.Usage at) s dry is = cc
dry_ends status.SendTimedOut s dry is = cc
dry_ends status.Over s dry is = cc
dry_ends status.NetFault s dry is = cc
dry_ends status.OutFault s dry is = cc
dry_ends status.FileFault s dry is = cc

module _ {L : Type 0} (seen : L → LinkView) (st : Status) (plan : CatPlan) (s : SingleView) (e : LinkEndsView L) (p : Player) (start : Beginning) (between net' : NetView) (pace pace' : PaceView) (out out' : SinkView) (record_ : List (Turn Entry)) (r : HasRun seen st plan s e p start between net' pace pace' out out' record_) where
  -- what the record says about the ends is what it said before the close
  ticks_kept : ticks (past_of record_) ≡ ticks (past_of s.seen)
  ticks_kept = kept ticks ticks_step s.seen record_ r.finished.links

  few_ticks : length (ticks (past_of record_)) < 2 ^ 64
  few_ticks = subst (λ (ts : List ℕ). length ts < 2 ^ 64) (sym ticks_kept) r.followed.paced.few

  -- the net was asked, according to the record
  net_stands : NetStands start (past_of record_) (past_of record_) between e.listeners e.dialers
  net_stands =
      (linkless seen s.setting start between s.seen record_ e r.finished.links r.finished.legal r.run.ends_stand).asked

  are_asked : AreAsked plan.ends (past_of record_) e.listeners e.dialers
  are_asked = go r.followed.asked
    where
      go : (s.seen ≡ []) ⊎ ((length e.listeners ≡ listens_of plan.ends) × (length e.dialers ≡ dials_of plan.ends)) → AreAsked plan.ends (past_of record_) e.listeners e.dialers
      go (inl empty) = inr (ticks_kept ∙ ap (λ (h : List (Turn Entry)). ticks (past_of h)) empty)
      go (inr all) = inl all

  spends : Spends plan.ends record_ start.net net' pace pace'
  spends =
      record {
        turns = subst (λ (ts : List ℕ). pace.left ≡ pace'.left + length ts) (sym ticks_kept) r.followed.paced.left;
        greetings = r.finished.left_.asked few_ticks;
        pipes = r.finished.left_.read;
        ends = were_asked plan.ends s.setting start between net' (past_of record_) e.listeners e.dialers net_stands r.finished.counts (legal_allowed s.setting record_ r.finished.legal) few_ticks are_asked r.run.ends_stand.links.kept.opened;
      }

  over_is : IsOver p.over s.setting (play_of p.script) (past_of record_)
  over_is =
      over_kept p.over s.setting (play_of p.script) (past_of s.seen) (past_of record_) r.finished.counts_are r.finished.timed r.run.play.over

  dry_is : has_dry_miss (past_of record_) ≡ true → st ≡ status.NoMemory
  dry_is is = dry_ends st s r.dry (sym (kept has_dry_miss dry_step s.seen record_ r.finished.links) ∙ is)

-- why the run ended like this
ends_for : {L : Type 0} (seen : L → LinkView) (st : Status) (plan : CatPlan) (s : SingleView) (e : LinkEndsView L) (p : Player) (start : Beginning) (between net' : NetView) (pace pace' : PaceView) (out out' : SinkView) (record_ : List (Turn Entry)) (files : FilesView)
    → HasRun seen st plan s e p start between net' pace pace' out out' record_ → EndedFor st s.setting plan (play_of p.script) (past_of record_) (world start.net files pace out) (world net' files pace' out')
ends_for seen status.Done plan s e p start between net' pace pace' out out' record_ files r = (
  finished_is p.over s.setting (play_of p.script) (past_of record_) r.followed.why.1 (over_is seen status.Done plan s e p start between net' pace pace' out out' record_ r),
  r.finished.left_.whole (r.finished.cleared r.followed.why.0.cleared),
)
ends_for seen (status.Usage at) plan s e p start between net' pace pace' out out' record_ files r = r.followed.why
ends_for seen status.SendTimedOut plan s e p start between net' pace pace' out out' record_ files r =
    timed_out_is p.over s.setting (play_of p.script) (past_of record_) r.followed.why.1 (over_is seen status.SendTimedOut plan s e p start between net' pace pace' out out' record_ r)
ends_for seen status.Over plan s e p start between net' pace pace' out out' record_ files r = r.followed.why.0
ends_for seen status.NetFault plan s e p start between net' pace pace' out out' record_ files r = (
  subst (λ n. Rose start.net.faults n ⊎ ListensTwice plan.ends) (sym r.finished.counts.faults) r.followed.why.0,
  r.followed.why.2,
  r.finished.counts.opened ∙ r.followed.why.1,
)
ends_for seen status.OutFault plan s e p start between net' pace pace' out out' record_ files r =
    (r.followed.sinks, r.finished.received r.printed.1 ∙ r.printed.2)
ends_for seen status.FileFault plan s e p start between net' pace pace' out out' record_ files r = r.followed.why
ends_for seen status.NoMemory plan s e p start between net' pace pace' out out' record_ files r = tt

pub runs : {L : Type 0} (seen : L → LinkView) (st : Status) (plan : CatPlan) (s : SingleView) (e : LinkEndsView L) (p : Player) (start : Beginning) (between net' : NetView) (pace pace' : PaceView) (out out' : SinkView) (record_ : List (Turn Entry)) (files : FilesView) (dice : ℕ) → start.origins.limits ≡ plan.recv_max ∷ [] → s.setting ≡ run_setting plan.role dice
    → HasRun seen st plan s e p start between net' pace pace' out out' record_ → Runs (run_ways plan.role start.origins) st plan (play_of p.script) dice record_ (world start.net files pace out) (world net' files pace' out')
runs seen st plan s e p start between net' pace pace' out out' record_ files dice limits is r =
    record {
      legal = subst (λ (z : Setting). Legal z record_) is r.finished.legal;
      settled = subst (λ (z : Setting). Settled z record_) is r.finished.settled;
      closed = r.finished.closed;
      plays = subst (λ (z : Setting). Plays z (play_of p.script) record_) is r.finished.plays;
      printed = prints st out.text out'.text s.seen p (texts (play_of p.script) (past_of record_)) (world start.net files pace out) (world net' files pace' out') refl refl r.finished.texts_are r.printed;
      records = subst (λ (ms : List ℕ). Records (run_ways plan.role start.origins) (run_setting plan.role dice) ms start.net.opened net'.opened net'.back record_) limits ((subst (λ (z : Setting). LinksLeft z start record_ net') is r.finished.left_).records r.finished.due);
      others = r.finished.left_.others;
      spends = spends seen st plan s e p start between net' pace pace' out out' record_ r;
      ended = subst (λ (z : Setting). EndedFor st z plan (play_of p.script) (past_of record_) (world start.net files pace out) (world net' files pace' out')) is (ends_for seen st plan s e p start between net' pace pace' out out' record_ files r);
      paced = record {
        over = λ (o : st ≡ status.Over). subst (λ (st : Status). EndsFor st plan.ends s p start.net between pace pace' out out') o r.followed.why;
        not_over = r.followed.paced.not_over;
      };
      faultless = is_faultless st out out' r.followed.sinks;
      memory = dry_is seen st plan s e p start between net' pace pace' out out' record_ r;
    }

-- the same for what is left of a run
pub runs_plan : {L : Type 0} (seen : L → LinkView) (st : Status) (plan : CatPlan) (s : SingleView) (e : LinkEndsView L) (p : Player) (start : Beginning) (between net' : NetView) (pace pace' : PaceView) (out out' : SinkView) (record_ : Option (List (Turn Entry))) (files : FilesView) (dice : ℕ) → start.origins.limits ≡ plan.recv_max ∷ [] → s.setting ≡ run_setting plan.role dice → IsPlayOf plan files (play_of p.script)
    → RunStands seen start s e p between (is_dry_at s) → IsDryAt st s → Follows st plan.ends s e p start.net between pace pace' out out' → PrintsTo st out.text out'.text s.seen p → FinishesAs seen start s e p between net' record_
    → RunsPlan (run_ways plan.role start.origins) st plan dice record_ (world start.net files pace out) (world net' files pace' out')
runs_plan seen st plan s e p start between net' pace pace' out out' None files dice limits is play run dry followed printed finished =
    elim finished [ ]
runs_plan seen st plan s e p start between net' pace pace' out out' (Some record_) files dice limits is play run dry followed printed finished =
    (play_of p.script, play, runs seen st plan s e p start between net' pace pace' out out' record_ files dice limits is (record { run = run; dry = dry; followed = followed; printed = printed; finished = finished }))
