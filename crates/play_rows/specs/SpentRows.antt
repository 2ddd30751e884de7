-- Worked counts of what rounds were spent on.
use Rattle.std.specs.Prelude.{◌≡◌, [], ◌∷◌, Some, codes}
use Rattle.sp_base.specs.declared.role.Role.TheVariants.{Pull, Push, Surveyor}
use Rattle.sp_history.specs.declared.entry.Entry.TheVariants.{Stall, Clear}
use Rattle.sp_history.specs.Past.{onto, past_of}
use Rattle.sp_history.specs.Found.{ticks, before_last_tick}
use Rattle.sp_ends.specs.LinkCounts.{greeting_ticks, idle_turns, spaced_from}
use Rattle.cat_play.specs.Spending.{roomy_ticks, late_ticks, stalled_turns, down_total, out_total}
use Rattle.play_rows.specs.Rows.{socket, bare, turn}
use Rattle.play_rows.specs.PlaceRows.{two_links}
use Rattle.play_rows.specs.PullRows as pull
use Rattle.play_rows.specs.PushRows as push
use Rattle.play_rows.specs.SurveyorRows as surveyor

pub record SpentRows : Type 0 where
  -- the ticks at which a link was in progress
  pub first_link : greeting_ticks (onto two_links []) 0 ≡ 2
  pub second_link : greeting_ticks (onto two_links []) 1 ≡ 1
  -- the ticks in order, and those except the last
  pub in_order : ticks (onto two_links []) ≡ 5 ∷ 6 ∷ 7 ∷ []
  pub but_last : ticks (before_last_tick (onto two_links [])) ≡ 5 ∷ 6 ∷ []
  pub roomy : roomy_ticks (onto two_links []) ≡ 2
  -- tries: at once, and then 100 apart
  pub tries : spaced_from 0 (0 ∷ 50 ∷ 99 ∷ 100 ∷ 150 ∷ 250 ∷ 250 ∷ 349 ∷ []) ≡ 0 ∷ 100 ∷ 250 ∷ []
  pub one_try : spaced_from 0 (7 ∷ 8 ∷ []) ≡ 7 ∷ []
  -- turns in which the pipe gave nothing
  pub idle : idle_turns pull.one 1 ≡ 2
  -- the rounds after the play's end
  pub pull_late : late_ticks (socket Pull) (record (bare Pull) { count = Some 1 }) (past_of pull.one) ≡ 1
  pub push_late : late_ticks (socket Push) (record (bare Push) { body = Some (codes "hi"); count = Some 2 }) (past_of push.twice) ≡ 1
  pub survey_late : late_ticks (socket Surveyor) (record (bare Surveyor) { body = Some (codes "s"); count = Some 1 }) (past_of surveyor.survey) ≡ 1
  pub unbounded : late_ticks (socket Pull) (bare Pull) (past_of pull.one) ≡ 0
  -- their excuses
  pub stalled : stalled_turns (turn (Stall 1 ∷ Stall 2 ∷ []) ∷ turn (Clear 1 ∷ []) ∷ turn (Stall 1 ∷ []) ∷ []) ≡ 2
  pub downs : down_total (past_of pull.one) ≡ 1
  pub outs : out_total (past_of push.twice) ≡ 2
