-- The ticks at which the play is over are at most one more than the turns in which a pipe could not write all.
use Rattle.std.proofs.Common.{◌≡◌, ◌≤◌, ◌<◌, ◌+◌, ◌-◌, ◌*◌, ◌/◌, ◌++◌, ◌∷◌, ◌⊎◌, ℕ, Bool, true, false, cond, List, [], length, Option, Some, None, refl, sym, ap, subst, ◌∙◌, arith, inl, inr}
use Rattle.std.specs.Prelude.{not, ◌&&◌, filter}
use Rattle.std.specs.List.{list_any}
use Rattle.std.proofs.lemmas.Bool.Decides.{nat_tests}
use Rattle.std.proofs.lemmas.List.{length-append}
use Rattle.std.proofs.lemmas.List.Elements.{filter-append}
use Rattle.turn_lock.specs.declared.turn.Turn.{Turn}
use Rattle.sp_base.specs.Views.{LinkView, NetView, FilesView, PaceView, SinkView}
use Rattle.sp_history.specs.declared.entry.Entry.{Entry}
use Rattle.sp_history.specs.declared.entry.Entry.TheVariants.{Tick, Stall}
use Rattle.sp_history.specs.declared.setting.Setting.{Setting}
use Rattle.sp_history.specs.Changes.{none_of}
use Rattle.sp_history.specs.Past.{onto, past_of}
use Rattle.sp_history.proofs.Appending.{past_of-append}
use Rattle.core_state.specs.declared.served.Served.{Served}
use Rattle.sp_core.specs.Serving.{stalls_in}
use Rattle.sp_socket.specs.Singles.{SingleView, TookOne, Ticks}
use Rattle.sp_ends.specs.SocketSteps.{Quietly}
use Rattle.cat_text.specs.declared.plan.CatPlan.{CatPlan}
use Rattle.cat_text.specs.declared.plan.Data.{Data}
use Rattle.cat_text.specs.declared.plan.Data.TheVariants as datas
use Rattle.cat_play.specs.declared.status.Status.{Status}
use Rattle.cat_play.specs.Plans.{Play, IsBodyOf, IsPlayOf}
use Rattle.cat_play.specs.Running.{world, run_setting, is_called_off, EndsPlan}
use Rattle.cat_play.specs.Scripts.{over, has_ticked}
use Rattle.sp_ends.specs.LinkCounts.{ticks_where}
use Rattle.cat_play.specs.Spending.{late_ticks, stalled_turns, is_stall, stalls_from, down_total, out_total, IsPrompt, EndsSoon}
use Rattle.sp_ends.specs.Entries.{AddsNone, moves_calls, moves_ends}
use Rattle.cat_play.proofs.Stepping.{stays}
use Rattle.cat_rounds.specs.declared.player.PlayEnd.{PlayEnd}
use Rattle.cat_rounds.specs.declared.player.PlayEnd.TheVariants as overs
use Rattle.cat_rounds.specs.declared.player.Player.{Player}
use Rattle.cat_rounds.specs.declared.player.Script.{Script}
use Rattle.cat_rounds.specs.declared.rounds.Round.{Round}
use Rattle.cat_rounds.specs.declared.rounds.Round.TheVariants as rounds
use Rattle.cat_rounds.specs.Lasting.{play_of, PlayStands, IsOver}
use Rattle.cat_rounds.specs.PlayerSteps.{GoesOnBy}
use Rattle.cat_rounds.specs.Built.{IsBuilt, IsBuiltData, IsBody, FinishesTo, FinishesAs}
use Rattle.cat_rounds.specs.RunRounds.{has_more}
use Rattle.cat_rounds.specs.Late.{late_at, IsLateBy, RoundIsLate, StallsMore}
use Rattle.sp_ends.specs.EndViews.{Beginning, LinkEndsView}
use Rattle.cat_rounds.proofs.BeforeRounds.{script_of}
use Rattle.cat_rounds.proofs.Silent.{keeps_all}
use Rattle.cat_rounds.proofs.Settling.{settling_silent}
use Rattle.cat_rounds.proofs.PlayTicks.{first_tick, tick_of}
use Rattle.cat_rounds.proofs.Through.{turn_past}

-- ---- Turns with a stall

abbrev has_stall : Turn Entry → Bool
has_stall t = list_any is_stall t.entries

stalled_apart : (xs ys : List (Turn Entry)) → stalled_turns (xs ++ ys) ≡ stalled_turns xs + stalled_turns ys
stalled_apart xs ys = ap length (filter-append has_stall xs ys) ∙ length-append (filter has_stall xs) (filter has_stall ys)

pub stalled_more : (moves : Entry → Bool) (h h' : List (Turn Entry)) → AddsNone moves h h' → stalled_turns h ≤ stalled_turns h'
stalled_more moves h h' (turns, is, none) = omega (arith, ap stalled_turns is, stalled_apart h turns)

a_stall : (es : List Entry) → 0 < stalls_in es → list_any is_stall es ≡ true
a_stall [] lt = absurd (omega (arith, lt))
a_stall (Stall p ∷ es) lt = refl
a_stall (_ ∷ es) lt = a_stall es lt

one_stalled : (b : Bool) (t : Turn Entry) → b ≡ true → length (cond b (t ∷ []) []) ≡ 1
one_stalled true t e = refl
one_stalled false t e = cc

pub stalled_one : (h : List (Turn Entry)) (t : Turn Entry) → 0 < stalls_in t.entries → stalled_turns (h ++ t ∷ []) ≡ stalled_turns h + 1
stalled_one h t lt = stalled_apart h (t ∷ []) ∙ ap (λ n. stalled_turns h + n) (one_stalled (has_stall t) t (a_stall t.entries lt))

-- a serve after which something waits
pub serve_stalls : (says : Setting → List (Turn Entry) → Turn Entry → Type 0) (r : Served) (s s' : SingleView) → (took : TookOne says s s') → r.waiting ≡ stalls_in took.turn.entries → 0 < r.waiting → stalled_turns s.seen + 1 ≤ stalled_turns s'.seen
serve_stalls says r s s' took is lt =
    omega (arith, ap stalled_turns took.seen, stalled_one s.seen took.turn (omega (arith, is, lt)))

-- ---- Ticks at which something held

none_step : (f : Entry → Bool) (e : Entry) (es : List Entry) → none_of f (e ∷ es) ≡ true → (f e ≡ false) × (none_of f es ≡ true)
none_step f e es h = go (f e) (none_of f es) h
  where
    go : (a b : Bool) → (not a && b) ≡ true → (a ≡ false) × (b ≡ true)
    go true b h = cc
    go false b h = (refl, h)

where_end : (test : List Entry → Bool) (es past : List Entry) → none_of moves_ends es ≡ true → ticks_where test (onto es past) ≡ ticks_where test past
where_end test [] past h = refl
where_end test (e ∷ es) past h =
    let s = none_step moves_ends e es h in
    where_end test es (e ∷ past) s.1 ∙ same e past s.0
  where
    same : (e : Entry) (past : List Entry) → moves_ends e ≡ false → ticks_where test (e ∷ past) ≡ ticks_where test past
    same (Tick t due) past h = cc
    same _ past h = refl

where_play : (test : List Entry → Bool) (e : Entry) (past : List Entry) → moves_calls e ≡ false → ticks_where test (e ∷ past) ≡ ticks_where test past
where_play test (Tick t due) past h = cc
where_play test _ past h = refl

end_leaves : (test : List Entry → Bool) (h h' : List (Turn Entry)) → AddsNone moves_ends h h' → ticks_where test (past_of h') ≡ ticks_where test (past_of h)
end_leaves test h h' more = keeps_all moves_ends (λ g. ticks_where test (past_of g) ≡ ticks_where test (past_of h)) step h h' more refl
  where
    step : (g : List (Turn Entry)) (t : Turn Entry) → none_of moves_ends t.entries ≡ true → ticks_where test (past_of g) ≡ ticks_where test (past_of h) → ticks_where test (past_of (g ++ t ∷ [])) ≡ ticks_where test (past_of h)
    step g t none was = ap (ticks_where test) (past_of-append g t) ∙ (where_end test t.entries (past_of g) none ∙ was)

play_leaves : (test : List Entry → Bool) (h h' : List (Turn Entry)) → AddsNone moves_calls h h' → ticks_where test (past_of h') ≡ ticks_where test (past_of h)
play_leaves test h h' more = keeps_all moves_calls (λ g. ticks_where test (past_of g) ≡ ticks_where test (past_of h)) step h h' more refl
  where
    step : (g : List (Turn Entry)) (t : Turn Entry) → none_of moves_calls t.entries ≡ true → ticks_where test (past_of g) ≡ ticks_where test (past_of h) → ticks_where test (past_of (g ++ t ∷ [])) ≡ ticks_where test (past_of h)
    step g t none was = ap (ticks_where test) (past_of-append g t) ∙ (stays (ticks_where test) (where_play test) t.entries (past_of g) none ∙ was)

-- ---- Parts of a round

-- no further tick at which the play is over, and no fewer turns with a stall
pub record LateStays (s s' : SingleView) (p : Player) : Type 0 where
  pub late : late_at s' p ≡ late_at s p
  pub stalled : stalled_turns s.seen ≤ stalled_turns s'.seen

pub late_quiet : (s s' : SingleView) (p : Player) → Quietly s s' → LateStays s s' p
late_quiet s s' p q = record {
  late = ap (λ (z : Setting). late_ticks z (play_of p.script) (past_of s'.seen)) q.setting ∙ play_leaves (over s.setting (play_of p.script)) s.seen s'.seen q.silent;
  stalled = stalled_more moves_calls s.seen s'.seen q.silent;
}

pub late_on : (s s' : SingleView) (p : Player) → GoesOnBy s s' → LateStays s s' p
late_on s s' p g = record {
  late = ap (λ (z : Setting). late_ticks z (play_of p.script) (past_of s'.seen)) g.setting ∙ end_leaves (over s.setting (play_of p.script)) s.seen s'.seen g.links;
  stalled = stalled_more moves_ends s.seen s'.seen g.links;
}

pub late_then : (a b c : SingleView) (p : Player) → LateStays a b p → LateStays b c p → LateStays a c p
late_then a b c p x y = record { late = y.late ∙ x.late; stalled = omega (arith, x.stalled, y.stalled) }

-- a tick counts where the play is over
pub record LateTicked (s s' : SingleView) (p : Player) : Type 0 where
  pub late : late_at s' p ≤ late_at s p + 1
  pub early : p.over ≡ overs.Open → late_at s' p ≡ late_at s p
  pub stalled : stalled_turns s.seen ≤ stalled_turns s'.seen

at_most : (b : Bool) (m : ℕ) → cond b (m + 1) m ≤ m + 1
at_most true m = omega arith
at_most false m = omega arith

same_at : (b : Bool) (m : ℕ) → b ≡ false → cond b (m + 1) m ≡ m
same_at true m e = cc
same_at false m e = refl

is_early : (o : PlayEnd) (z : Setting) (play : Play) (past : List Entry) → IsOver o z play past → o ≡ overs.Open → over z play past ≡ false
is_early o z play past is e = subst (λ (x : PlayEnd). IsOver x z play past) e is

late_counted : (s s' : SingleView) (p : Player) (n : ℕ) → TookOne (λ z h t. Ticks h t n) s s' → PlayStands s.setting s.seen p → late_at s' p ≡ cond (over s.setting (play_of p.script) (past_of s.seen)) (late_at s p + 1) (late_at s p)
late_counted s s' p n took was =
    let first = first_tick s.seen took.turn n was.is_open took.said in
    ap (λ (y : Setting). late_ticks y (play_of p.script) (past_of s'.seen)) took.setting
    ∙ ap (λ (h : List (Turn Entry)). late_ticks s.setting (play_of p.script) (past_of h)) took.seen
    ∙ ap (late_ticks s.setting (play_of p.script)) (turn_past s.seen took.turn [] first.late (tick_of s.seen n) first.entries)
    ∙ stays (late_ticks s.setting (play_of p.script)) (where_play (over s.setting (play_of p.script))) first.late (tick_of s.seen n ∷ past_of s.seen) (settling_silent first.late first.late_settles)

pub late_tick : (s s' : SingleView) (p : Player) (n : ℕ) → TookOne (λ z h t. Ticks h t n) s s' → PlayStands s.setting s.seen p → LateTicked s s' p
late_tick s s' p n took was =
    let counted = late_counted s s' p n took was in
    record {
      late = omega (arith, counted, at_most (over s.setting (play_of p.script) (past_of s.seen)) (late_at s p));
      early = λ e. counted ∙ same_at (over s.setting (play_of p.script) (past_of s.seen)) (late_at s p) (is_early p.over s.setting (play_of p.script) (past_of s.seen) was.over e);
      stalled = omega (arith, ap stalled_turns took.seen, stalled_apart s.seen (took.turn ∷ []));
    }

-- ---- A round

late_of : (n : ℕ) (s : SingleView) (p q : Player) → q.script ≡ p.script → late_at s p ≤ stalled_turns s.seen + n → IsLateBy n s q
late_of n s p q same le = subst (λ m. m ≤ stalled_turns s.seen + n) (ap (λ x. late_ticks s.setting (play_of x) (past_of s.seen)) (sym same)) le

module _ (s s1 s2 : SingleView) (p q : Player) (same : q.script ≡ p.script) (was : IsLateBy 0 s p) (tick : LateTicked s s1 p) (rest : LateStays s1 s2 p) where
  -- the round ended the run
  pub ends_late : IsLateBy 1 s2 q
  ends_late = late_of 1 s2 p q same (omega (arith, was, tick.late, tick.stalled, rest.late, rest.stalled))

  -- the play was not over before it
  pub goes_early : p.over ≡ overs.Open → IsLateBy 0 s2 q
  goes_early e = late_of 0 s2 p q same (omega (arith, was, tick.early e, tick.stalled, rest.late, rest.stalled))

  -- a pipe could not write all in one more turn
  pub goes_late : (s3 : SingleView) → LateStays s2 s3 p → stalled_turns s2.seen + 1 ≤ stalled_turns s3.seen → IsLateBy 0 s3 q
  goes_late s3 last more = late_of 0 s3 p q same (omega (arith, was, tick.late, tick.stalled, rest.late, rest.stalled, last.late, more))

  pub drains_late : (r : Round) (s3 : SingleView) → LateStays s2 s3 p → StallsMore r s2 s3 → RoundIsLate r s3 q
  drains_late (rounds.Goes moved) s3 last more = goes_late s3 last more
  drains_late (rounds.Ends why) s3 last more = late_of 1 s3 p q same (omega (arith, was, tick.late, tick.stalled, rest.late, rest.stalled, last.late, last.stalled))

-- the play is open, or not
pub open_or : (o : PlayEnd) → (o ≡ overs.Open) ⊎ (o ≡ overs.Open → ⊥)
open_or overs.Open = inl refl
open_or overs.Finished = inr (λ e. cc)
open_or overs.SendTimedOut = inr (λ e. cc)

-- no tick came
pub never_late : (s : SingleView) (p : Player) → has_ticked (past_of s.seen) ≡ false → IsLateBy 0 s p
never_late s p none = omega (arith, go (past_of s.seen) none)
  where
    go : (past : List Entry) → has_ticked past ≡ false → ticks_where (over s.setting (play_of p.script)) past ≡ 0
    go [] h = refl
    go (Tick t due ∷ past) h = cc
    go (_ ∷ past) h = go past h

-- ---- The whole run

pub empty_late : (n : ℕ) (s : SingleView) (p : Player) → s.seen ≡ [] → IsLateBy n s p
empty_late n s p empty =
    let none : late_at s p ≡ 0 = ap (λ (h : List (Turn Entry)). late_ticks s.setting (play_of p.script) (past_of h)) empty in omega (arith, none)

same_body : (d : Data) (files : FilesView) (a b : Option (List ℕ)) → IsBuiltData d → IsBodyOf d files a → IsBody d b → a ≡ b
same_body datas.None files a b built x y = x ∙ sym y
same_body (datas.Text text) files a b built x y = x ∙ sym y
same_body (datas.File name) files a b built x y = elim built [ ]

-- a plan without a file has one play
play_is : (plan : CatPlan) (files : FilesView) (body : Option (List ℕ)) (s : Script) (play : Play) → IsBuilt plan → IsBody plan.data_ body → s ≡ script_of plan body → IsPlayOf plan files play → play ≡ play_of s
play_is plan files body s play built is script of = whole ∙ ap play_of (sym script)
  where
    bodies : play.body ≡ body
    bodies = same_body plan.data_ files play.body body built.data_built of.body is

    whole : play ≡ play_of (script_of plan body)
    whole i = record { role = of.role i; body = bodies i; topics = of.topics i; count = of.count i; interval = of.interval i; recv_timeout = of.recv_timeout i; send_timeout = of.send_timeout i; format = of.format i }

excused : (a b c d m n : ℕ) → m ≤ n + 1 → n ≤ a → m ≤ a + b + 2 * c + d + 1
excused a b c d m n le more = omega (arith, le, more)

module _ {L : Type 0} (seen : L → LinkView) (st : Status) (plan : CatPlan) (s : SingleView) (e : LinkEndsView L) (p : Player) (start : Beginning) (between net' : NetView) (files : FilesView) (dice : ℕ) (body : Option (List ℕ)) (setting : s.setting ≡ run_setting plan.role dice) (built : IsBuilt plan) (is : IsBody plan.data_ body) (script : p.script ≡ script_of plan body) (late : IsLateBy 1 s p) where
  prompt : (r : List (Turn Entry)) → FinishesTo seen start s e p between net' r → (play : Play) → IsPlayOf plan files play → IsPrompt (run_setting plan.role dice) play net'.back start.net.opened net'.opened r
  prompt r f play of =
      let same : play ≡ play_of p.script = play_is plan files body p.script play built is script of in
      let kept : late_ticks (run_setting plan.role dice) play (past_of r) ≡ late_at s p = ap (λ (x : Play). late_ticks (run_setting plan.role dice) x (past_of r)) same ∙ ap (λ (z : Setting). late_ticks z (play_of p.script) (past_of r)) (sym setting) ∙ end_leaves (over s.setting (play_of p.script)) s.seen r f.links in
      excused (stalled_turns r) (stalls_from net'.back start.net.opened (net'.opened - start.net.opened)) (down_total (past_of r)) (out_total (past_of r) / 64) (late_ticks (run_setting plan.role dice) play (past_of r)) (stalled_turns s.seen)
      (omega (arith, kept, late)) (stalled_more moves_ends s.seen r f.links)

  soon : (b : Bool) (r : List (Turn Entry)) → FinishesTo seen start s e p between net' r → (play : Play) → IsPlayOf plan files play → EndsSoon b (run_setting plan.role dice) play net'.back start.net.opened net'.opened r
  soon false r f play of = prompt r f play of
  soon true r f play of = inl (prompt r f play of)

  -- the rounds after the end of the play have their excuse
  pub in_time : (pace pace' : PaceView) (out out' : SinkView) (record_ : Option (List (Turn Entry))) → FinishesAs seen start s e p between net' record_ → EndsPlan st plan dice record_ (world start.net files pace out) (world net' files pace' out')
  in_time pace pace' out out' None f = tt
  in_time pace pace' out out' (Some r) f = λ play of rises. soon (is_called_off st) r f play of

-- ---- What is left to write

pub something_waits : (r : Served) → has_more r ≡ true → 0 < r.waiting
something_waits r more = grind (arith, nat_tests)
