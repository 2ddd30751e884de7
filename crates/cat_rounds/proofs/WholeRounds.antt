-- A round from its tick to its end.
use Rattle.std.proofs.Common.{◌≡◌, refl, ap, sym, ◌∙◌, subst, List, [], ◌∷◌, ◌++◌, ℕ, ◌+◌, ◌≤◌, Bool, true, false, length, Option, inl}
use Rattle.std.specs.Prelude.{◌&&◌, not}
use Rattle.turn_lock.specs.declared.turn.Turn.{Turn}
use Rattle.sp_base.specs.Outside.{grown}
use Rattle.sp_base.specs.Views.{LinkView, NetView}
use Rattle.sp_history.specs.declared.entry.Entry.{Entry}
use Rattle.sp_history.specs.declared.entry.Entry.TheVariants.{Tick}
use Rattle.sp_history.specs.declared.setting.Setting.{Setting}
use Rattle.sp_history.specs.Changes.{none_of}
use Rattle.sp_history.specs.Past.{onto, past_of, now}
use Rattle.sp_history.specs.Found.{ticks}
use Rattle.sp_history.specs.Legal.{Legal}
use Rattle.sp_core.specs.Collecting.{IsOpen}
use Rattle.sp_history.proofs.Appending.{past_of-append}
use Rattle.sp_socket.specs.Singles.{SingleView, TookOne, Ticks, KeepsOpen, IsSound}
use Rattle.sp_ends.specs.EndViews.{EndsView, LinkEndsView, Beginning}
use Rattle.sp_ends.specs.RunLinks.{EndsStand}
use Rattle.sp_ends.specs.EndsTurns.{EndsTicked, SameEnds}
use Rattle.sp_ends.specs.SocketSteps.{Quietly, IsDry}
use Rattle.sp_ends.proofs.EndsStay.{linkless}
use Rattle.sp_ends.proofs.TickedEnds.{ticked}
use Rattle.cat_play.specs.Scripts.{texts, joined}
use Rattle.sp_ends.specs.LinkRecords.{has_dry_miss}
use Rattle.sp_ends.specs.Entries.{moves_calls, moves_ends}
use Rattle.cat_play.proofs.Stepping.{stays}
use Rattle.cat_rounds.specs.declared.player.Player.{Player}
use Rattle.cat_rounds.specs.Lasting.{play_of, PlayStands, HasPrinted, MayTick, AreOn}
use Rattle.cat_rounds.proofs.TopicsStay.{on_turn}
use Rattle.cat_rounds.specs.PlayerSteps.{Stands, GoesOnBy, SameScript, HasPrintedCut}
use Rattle.sp_lane.specs.Registry.{Registry}
use Rattle.cat_rounds.specs.Late.{IsLateBy}
use Rattle.cat_rounds.specs.Parts.{RunPartsView, IsRunning, IsSoundRun}
use Rattle.cat_rounds.specs.RunRounds.{RunIsOpen, RunStands, RoundStands, SameRun, TurnsNames, PrintsRound, past_now}
use Rattle.cat_rounds.specs.declared.rounds.Round.{Round}
use Rattle.cat_rounds.specs.declared.rounds.Round.TheVariants as rounds
use Rattle.cat_play.specs.declared.status.Status.TheVariants as status
use Rattle.cat_rounds.proofs.Silent.{keeps_all, now_stays}
use Rattle.cat_rounds.proofs.PlaysStay.{play_stays, texts_stay_so}
use Rattle.cat_rounds.proofs.Begins.{at_new, sound_new}
use Rattle.cat_rounds.proofs.PlayTicks.{first_tick, ticked_play, ticked_now, ticked_texts, ticked_ticks, ticked_dry, ticked_topics, dry_stays, ticks_step}

-- ---- The tick

-- what a round requires
pub record MayRound {L : Type 0} (seen : L → LinkView) (net : NetView) (r : RunPartsView L) (n : ℕ) : Type 0 where
  pub stands : RunIsOpen seen r net
  pub may_tick : MayTick r.single.setting r.single.seen r.player
  pub later : past_now r.single ≤ n
  pub late : IsLateBy 0 r.single r.player

-- the run after the tick of a round
pub record HasTicked {L : Type 0} (seen : L → LinkView) (start : Beginning) (net : NetView) (s s' : SingleView) (e : LinkEndsView L) (p : Player) (n : ℕ) : Type 0 where
  pub links : EndsTicked seen s'.setting start s'.seen net e
  pub stands : Stands s' p n
  pub dry : IsDry false s'
  pub setting : s'.setting ≡ s.setting
  pub texts_are : texts (play_of p.script) (past_of s'.seen) ≡ texts (play_of p.script) (past_of s.seen)
  pub ticks_are : length (ticks (past_of s'.seen)) ≡ length (ticks (past_of s.seen)) + 1

pub opens : {L : Type 0} (seen : L → LinkView) (start : Beginning) (net : NetView) (s s' : SingleView) (e : LinkEndsView L) (p : Player) (n : ℕ) → TookOne (λ z h t. Ticks h t n) s s' → KeepsOpen s s' → RunStands seen start s e p net false → MayTick s.setting s.seen p → past_now s ≤ n → HasTicked seen start net s s' e p n
opens seen start net s s' e p n took keep run may less =
    let z = s.setting in
    let h = s.seen in
    let t = took.turn in
    let first = first_tick h t n run.play.is_open took.said in
    let legal = subst (λ (g : List (Turn Entry)). Legal z g) took.seen (subst (λ (y : Setting). Legal y s'.seen) took.setting took.legal) in
    record {
      links = at_new s s' took (λ y g. EndsTicked seen y start g net e) (ticked seen z start net h t _ _ first e legal run.ends_stand);
      stands = record {
        play = at_new s s' took (λ y g. PlayStands y g p) (ticked_play z h t n p first run.play may (λ op o. subst (λ (g : List (Turn Entry)). IsOpen 1 op g) took.seen (keep op o)));
        sound = sound_new s s' took run.sound;
        now_is = at_new s s' took (λ y g. n ≡ now (past_of g)) (ticked_now z h t n p first run.play may less);
        topics_on = at_new s s' took (λ y g. AreOn p.script.topics (past_of g)) (ticked_topics z h t n p first run.play may);
      };
      dry = at_new s s' took (λ y g. has_dry_miss (past_of g) ≡ false) (ticked_dry z h t n p first run.play may ∙ run.dry);
      setting = took.setting;
      texts_are = at_new s s' took (λ y g. texts (play_of p.script) (past_of g) ≡ texts (play_of p.script) (past_of h)) (ticked_texts z h t n p first run.play may);
      ticks_are = at_new s s' took (λ y g. length (ticks (past_of g)) ≡ length (ticks (past_of h)) + 1) (ticked_ticks z h t n p first run.play may);
    }

-- ---- The turn of the ends

now_turn : (n : ℕ) (h : List (Turn Entry)) (t : Turn Entry) → none_of moves_calls t.entries ≡ true → n ≡ now (past_of h) → n ≡ now (past_of (h ++ t ∷ []))
now_turn n h t none was = was ∙ sym (ap now (past_of-append h t) ∙ now_stays t.entries (past_of h) none)

ticks_turn : (n : ℕ) (h : List (Turn Entry)) (t : Turn Entry) → none_of moves_calls t.entries ≡ true → length (ticks (past_of h)) ≡ n → length (ticks (past_of (h ++ t ∷ []))) ≡ n
ticks_turn n h t none was = ap (λ (past : List Entry). length (ticks past)) (past_of-append h t) ∙ (ap length (stays ticks ticks_step t.entries (past_of h) none) ∙ was)

pub quiet_stands : (s s' : SingleView) (p : Player) (n : ℕ) → Quietly s s' → IsSound s' → Stands s p n → Stands s' p n
quiet_stands s s' p n q sound was =
    record {
      play = subst (λ (z : Setting). PlayStands z s'.seen p) (sym q.setting) (play_stays s.setting p s.seen s'.seen q.silent was.play);
      sound = record { legal = sound.legal; settled = sound.settled; uncancelled = q.cancelled ∙ was.sound.uncancelled };
      now_is = keeps_all moves_calls (λ g. n ≡ now (past_of g)) (now_turn n) s.seen s'.seen q.silent was.now_is;
      topics_on = keeps_all moves_calls (λ g. AreOn p.script.topics (past_of g)) (on_turn p.script.topics) s.seen s'.seen q.silent was.topics_on;
    }

pub quiet_texts : (s s' : SingleView) (p : Player) (n : ℕ) → Quietly s s' → Stands s p n → texts (play_of p.script) (past_of s'.seen) ≡ texts (play_of p.script) (past_of s.seen)
quiet_texts s s' p n q was = texts_stay_so (play_of p.script) s.seen s'.seen was.play.is_open q.silent

-- where no text is due, what was printed is all
pub prints_on : (before text : Option (List ℕ)) (s s' : SingleView) (p : Player) → texts (play_of p.script) (past_of s'.seen) ≡ texts (play_of p.script) (past_of s.seen) → HasPrinted before text s.seen p → HasPrinted before text s'.seen p
prints_on before text s s' p same had = had ∙ ap (λ (ts : List (List ℕ)). grown before (joined ts)) (sym same)

pub quiet_ticks : (s s' : SingleView) → Quietly s s' → length (ticks (past_of s'.seen)) ≡ length (ticks (past_of s.seen))
quiet_ticks s s' q = keeps_all moves_calls (λ g. length (ticks (past_of g)) ≡ length (ticks (past_of s.seen))) (ticks_turn (length (ticks (past_of s.seen)))) s.seen s'.seen q.silent refl

-- what goes on leaves the ends and the registry unchanged
pub names_then : {L : Type 0} (n : ℕ) (a b c : EndsView L) (r s t : Registry) → c ≡ b → t ≡ s → TurnsNames n a b r s → TurnsNames n a c r t
names_then n a b c r s t e f x = subst (λ (v : EndsView _). TurnsNames n a v r t) (sym e) (subst (λ (q : Registry). TurnsNames n a b r q) (sym f) x)

-- ---- The play goes on

none_step : (f : Entry → Bool) (e : Entry) (es : List Entry) → none_of f (e ∷ es) ≡ true → (f e ≡ false) × (none_of f es ≡ true)
none_step f e es h = go (f e) (none_of f es) h
  where
    go : (a b : Bool) → (not a && b) ≡ true → (a ≡ false) × (b ≡ true)
    go true b h = cc
    go false b h = (refl, h)

end_ticks : (es past : List Entry) → none_of moves_ends es ≡ true → ticks (onto es past) ≡ ticks past
end_ticks [] past h = refl
end_ticks (e ∷ es) past h =
    let s = none_step moves_ends e es h in
    end_ticks es (e ∷ past) s.1 ∙ same e past s.0
  where
    same : (e : Entry) (past : List Entry) → moves_ends e ≡ false → ticks (e ∷ past) ≡ ticks past
    same (Tick t due) past h = cc
    same _ past h = refl

pub on_ticks : (s s' : SingleView) → GoesOnBy s s' → length (ticks (past_of s'.seen)) ≡ length (ticks (past_of s.seen))
on_ticks s s' g = keeps_all moves_ends (λ h. length (ticks (past_of h)) ≡ length (ticks (past_of s.seen))) step s.seen s'.seen g.links refl
  where
    step : (h : List (Turn Entry)) (t : Turn Entry) → none_of moves_ends t.entries ≡ true → length (ticks (past_of h)) ≡ length (ticks (past_of s.seen)) → length (ticks (past_of (h ++ t ∷ []))) ≡ length (ticks (past_of s.seen))
    step h t none was = ap (λ (past : List Entry). length (ticks past)) (past_of-append h t) ∙ (ap length (end_ticks t.entries (past_of h) none) ∙ was)

pub on_dry : (is_dry : Bool) (s s' : SingleView) → GoesOnBy s s' → IsDry is_dry s → IsDry is_dry s'
on_dry is_dry s s' g was = keeps_all moves_ends (λ h. has_dry_miss (past_of h) ≡ is_dry) step s.seen s'.seen g.links was
  where
    step : (h : List (Turn Entry)) (t : Turn Entry) → none_of moves_ends t.entries ≡ true → has_dry_miss (past_of h) ≡ is_dry → has_dry_miss (past_of (h ++ t ∷ [])) ≡ is_dry
    step h t none was = ap has_dry_miss (past_of-append h t) ∙ (dry_stays t.entries (past_of h) none ∙ was)

-- what holds of the run still holds after turns that move no link
pub run_linkless : {L : Type 0} (seen : L → LinkView) (start : Beginning) (net : NetView) (s s' : SingleView) (e : LinkEndsView L) (p : Player) → GoesOnBy s s' → PlayStands s'.setting s'.seen p → IsSoundRun s' → IsDry false s → EndsStand seen s.setting start s.seen net e → RunStands seen start s' e p net false
run_linkless seen start net s s' e p g play sound dry ends =
    record {
      sound = sound;
      play = play;
      ends_stand = subst (λ (z : Setting). EndsStand seen z start s'.seen net e) (sym g.setting) (linkless seen s.setting start net s.seen s'.seen e g.links (subst (λ (z : Setting). Legal z s'.seen) g.setting sound.legal) ends);
      dry = on_dry false s s' g dry;
    }

-- what holds of the run still holds once the play has gone on
pub run_on : {L : Type 0} (seen : L → LinkView) (start : Beginning) (net : NetView) (s s' : SingleView) (e e' : EndsView L) (p : Player) → GoesOnBy s s' → e' ≡ e → IsRunning s' p → IsDry false s → EndsStand seen s.setting start s.seen net e.links → RunStands seen start s' e'.links p net false
run_on seen start net s s' e e' p g same running dry ends =
    subst (λ (x : EndsView _). RunStands seen start s' x.links p net false) (sym same) (run_linkless seen start net s s' e.links p g running.play running.sound dry ends)

-- ---- The result of a round

-- it is the same run
pub same_played : {L : Type 0} (r r' : RunPartsView L) (s : SingleView) (e : EndsView L) → SameEnds r.ends.links e.links → s.setting ≡ r.single.setting → r'.ends ≡ e → SameScript r.player r'.player → r'.single.setting ≡ s.setting → SameRun r r'
same_played r r' s e ends turned is script played =
    (subst (λ (x : EndsView _). SameEnds r.ends.links x.links) (sym is) ends, script, played ∙ turned)

pub round_stands : {L : Type 0} (seen : L → LinkView) (start : Beginning) (net : NetView) (r : Round) (s : SingleView) (e : LinkEndsView L) (p : Player) → (r ≡ rounds.Ends status.NoMemory → ⊥) → RunStands seen start s e p net false → RoundStands seen start r s e p net
round_stands seen start net (rounds.Goes moved) s e p n run = run
round_stands seen start net (rounds.Ends status.Done) s e p n run = run
round_stands seen start net (rounds.Ends (status.Usage at)) s e p n run = run
round_stands seen start net (rounds.Ends status.SendTimedOut) s e p n run = run
round_stands seen start net (rounds.Ends status.Over) s e p n run = run
round_stands seen start net (rounds.Ends status.NetFault) s e p n run = run
round_stands seen start net (rounds.Ends status.OutFault) s e p n run = run
round_stands seen start net (rounds.Ends status.FileFault) s e p n run = run
round_stands seen start net (rounds.Ends status.NoMemory) s e p n run = absurd (n refl)

pub round_prints : (r : Round) (before now : Option (List ℕ)) (h : List (Turn Entry)) (p : Player) → (r ≡ rounds.Ends status.OutFault → ⊥) → (r ≡ rounds.Ends status.NoMemory → ⊥) → HasPrinted before now h p → PrintsRound r before now h p
round_prints (rounds.Goes moved) before now h p o n f = f
round_prints (rounds.Ends status.Done) before now h p o n f = f
round_prints (rounds.Ends (status.Usage at)) before now h p o n f = f
round_prints (rounds.Ends status.SendTimedOut) before now h p o n f = f
round_prints (rounds.Ends status.Over) before now h p o n f = f
round_prints (rounds.Ends status.NetFault) before now h p o n f = f
round_prints (rounds.Ends status.OutFault) before now h p o n f = absurd (o refl)
round_prints (rounds.Ends status.FileFault) before now h p o n f = f
round_prints (rounds.Ends status.NoMemory) before now h p o n f = absurd (n refl)

-- where all is printed, nothing is cut short
pub cut_nowhere : (before now : Option (List ℕ)) (h : List (Turn Entry)) (p : Player) → HasPrinted before now h p → HasPrintedCut before now h p
cut_nowhere before now h p f = (joined (texts (play_of p.script) (past_of h)), inl refl, f)
