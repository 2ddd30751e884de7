-- An example run as a whole: what is written on its link, and what its rounds were spent on. It shows that the facts of
-- a run can be met together.
use Rattle.std.specs.Prelude.{◌++◌, List, [], ◌∷◌, false, Some, None, codes}
use Rattle.std.specs.FinMap.{empty, insert}
use Rattle.turn_lock.specs.declared.turn.Turn.{Turn}
use Rattle.sp_base.specs.SpTcp.{hello, frame}
use Rattle.sp_base.specs.Views.{LinkView, NetView, PaceView}
use Rattle.sp_base.specs.declared.role.Role.TheVariants.{Pull}
use Rattle.sp_base.specs.declared.addr.Addr.TheVariants as addrs
use Rattle.sp_base.specs.declared.addr.Host.TheVariants as hosts
use Rattle.sp_base.specs.declared.addr.Scheme.TheVariants as schemes
use Rattle.sp_history.specs.declared.entry.RecordedAct.TheVariants.{Recv}
use Rattle.sp_history.specs.declared.entry.Completion.TheVariants.{Received}
use Rattle.sp_history.specs.declared.entry.Ending.TheVariants.{Won}
use Rattle.sp_history.specs.declared.entry.Why.TheVariants as whys
use Rattle.sp_history.specs.declared.entry.Entry.{Entry}
use Rattle.sp_history.specs.declared.entry.Entry.TheVariants.{Up, Met, Down, Frame, Quiet, Clear, Begin, End, Took, Tick, Close}
use Rattle.sp_history.specs.Frames.{message}
use Rattle.cat_text.specs.declared.plan.End.{End as EndType}
use Rattle.cat_text.specs.declared.plan.End.TheVariants as ends
use Rattle.cat_play.specs.Plans.{Play}
use Rattle.cat_play.specs.Playing.{Plays}
use Rattle.sp_links.specs.Ways.{greetings}
use Rattle.sp_ends.specs.LinkRecords.{Records}
use Rattle.cat_play.specs.Spending.{Spends, EndsInTime}
use Rattle.play_rows.specs.Rows.{socket, bare, turn, op, unnamed}

-- one link comes, brings one message, and is up until the close
abbrev pub whole_record : List (Turn Entry)
whole_record =
    turn (Tick 0 [] ∷ [])
    ∷ turn (Met 0 ∷ [])
    ∷ turn (Up 1 0 1048576 unnamed ∷ [])
    ∷ turn (Clear 1 ∷ Frame 1 (codes "hello") ∷ [])
    ∷ turn (Begin (op 0 1) 1 0 Recv None ∷ End (op 0 1) (Won (Received (message [] (codes "hello")))) ∷ [])
    ∷ turn (Tick 1 [] ∷ [])
    ∷ turn (Clear 1 ∷ Quiet 1 ∷ [])
    ∷ turn (Took (op 0 1) 1 ∷ [])
    ∷ turn (Tick 2 [] ∷ [])
    ∷ turn (Clear 1 ∷ Quiet 1 ∷ [])
    ∷ turn (Clear 1 ∷ Down 1 whys.Closed ∷ Close (record { begun = 1; won = 1; gone = 0; frames = 1; outs = 0; fulls = 0 }) ∷ [])
    ∷ []

-- its link when it is back
abbrev pub whole_link : LinkView
whole_link =
    record { place = 0; scheme = schemes.Tcp; came = Some (hello 80 ++ frame (codes "hello")); written = Some (hello 81); faults = 0; idles = 2; stalls = 0; is_open = false; ended = false }

-- the net: before, listening, and after it was asked in three rounds
abbrev pub net_before : NetView
net_before = record { listens = empty; opened = 0; back = empty; faults = 0; idles = 0 }

abbrev pub net_after : NetView
net_after =
    record { listens = insert empty 0 schemes.Tcp; opened = 1; back = insert empty 0 whole_link; faults = 0; idles = 3 }

abbrev pub pace_before : PaceView
pace_before = record { left = 200; latest = 0; is_over = false }

abbrev pub pace_after : PaceView
pace_after = record { left = 197; latest = 2; is_over = false }

abbrev pub whole_play : Play
whole_play = record (bare Pull) { count = Some 1 }

abbrev pub whole_ends : List EndType
whole_ends = ends.Listen (addrs.Tcp (hosts.V4 127 0 0 1) 5555) ∷ []

pub record WholeRows : Type 0 where
  pub plays : Plays (socket Pull) whole_play whole_record
  pub stands : Records (greetings Pull) (socket Pull) (1048576 ∷ []) 0 1 net_after.back whole_record
  pub spent : Spends whole_ends whole_record net_before net_after pace_before pace_after
  pub late : EndsInTime false (socket Pull) whole_play whole_record net_before net_after
