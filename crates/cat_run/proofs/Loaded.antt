-- The relation between a run of a plan and that of the plan whose file was loaded.
use Rattle.std.specs.Prelude.{◌≡◌, ◌≤◌, ℕ, List, Option, Some, None}
use Rattle.std.proofs.Common.{subst, sym, ◌∙◌, arith}
use Rattle.turn_lock.specs.declared.turn.Turn.{Turn}
use Rattle.sp_base.specs.Views.{NetView, FilesView, PaceView, SinkView}
use Rattle.sp_history.specs.declared.entry.Entry.{Entry}
use Rattle.sp_history.specs.declared.setting.Setting.{Setting}
use Rattle.cat_text.specs.declared.plan.CatPlan.{CatPlan}
use Rattle.cat_text.specs.declared.plan.Data.{Data}
use Rattle.cat_text.specs.declared.plan.Data.TheVariants as datas
use Rattle.cat_play.specs.declared.status.Status.{Status}
use Rattle.cat_play.specs.declared.status.Status.TheVariants as status
use Rattle.cat_play.specs.Plans.{Play, IsBodyOf}
use Rattle.sp_links.specs.Ways.{Ways}
use Rattle.cat_play.specs.Running.{World, world, run_setting, EndedFor, UnopenedFor, Printed, Runs, RunsPlan, FilesBy, RunsDrill, DrillsTo}
use Rattle.cat_play.specs.Scripts.{texts}
use Rattle.sp_history.specs.Past.{past_of}
use Rattle.sp_links.specs.Origins.{run_ways}
use Rattle.cat_rounds.specs.Built.{origins_of}
use Rattle.cat_run.specs.Loading.{HasContent, AsksFiles}

-- no plan is refused as wrong words
pub no_usage : (ways : Ways) (s : Status) (plan : CatPlan) (dice : ℕ) (r : Option (List (Turn Entry))) (old new : World) → RunsPlan ways s plan dice r old new → (at : ℕ) → s ≡ status.Usage at → ⊥
no_usage ways s plan dice None old new runs at is = subst (λ (x : Status). UnopenedFor x old new) is runs.0
no_usage ways s plan dice (Some h) old new runs at is = subst (λ (x : Status). EndedFor x (run_setting plan.role dice) plan runs.0 (past_of h) old new) is runs.2.ended

-- no drill ends as wrong words
pub drill_no_usage : (s : Status) (n : ℕ) (r : Option (List (Turn Entry))) (old new : World) → RunsDrill s n r old new → (at : ℕ) → s ≡ status.Usage at → ⊥
drill_no_usage s n None old new runs at is = apart (sym runs.0 ∙ is)
  where
    apart : status.NoMemory ≡ status.Usage at → ⊥
    apart e = cc
drill_no_usage s n (Some h) old new runs at is = subst (λ (x : Status). DrillsTo x n h old new) is runs.1

-- what the sends carry
carries : (data_ loaded : Data) (files : FilesView) (body : Option (List ℕ)) → HasContent data_ loaded files → IsBodyOf loaded files body → IsBodyOf data_ files body
carries datas.None loaded files body is c = subst (λ (d : Data). IsBodyOf d files body) is c
carries (datas.Text text) loaded files body is c = subst (λ (d : Data). IsBodyOf d files body) is c
carries (datas.File name) loaded files body is c = (is.0, subst (λ (d : Data). IsBodyOf d files body) is.1 c, is.2)

module _ (net net' : NetView) (pace pace' : PaceView) (sink sink' : SinkView) (files files' : FilesView) where
  abbrev old : World
  old = world net files pace sink

  abbrev new : World
  new = world net' files pace' sink'

  abbrev after : World
  after = world net' files' pace' sink'

  ended : (s : Status) (z : Setting) (plan : CatPlan) (data_ : Data) (play : Play) (past : List Entry) → EndedFor s z (record plan { data_ = data_ }) play past old new → EndedFor s z plan play past old after
  ended status.Done z plan data_ play past e = e
  ended (status.Usage at) z plan data_ play past e = e
  ended status.SendTimedOut z plan data_ play past e = e
  ended status.Over z plan data_ play past e = e
  ended status.NetFault z plan data_ play past e = e
  ended status.OutFault z plan data_ play past e = e
  ended status.FileFault z plan data_ play past e = e
  ended status.NoMemory z plan data_ play past e = e

  printed : (s : Status) (ts : List (List ℕ)) → Printed s ts old new → Printed s ts old after
  printed status.Done ts p = p
  printed (status.Usage at) ts p = p
  printed status.SendTimedOut ts p = p
  printed status.Over ts p = p
  printed status.NetFault ts p = p
  printed status.OutFault ts p = p
  printed status.FileFault ts p = p
  printed status.NoMemory ts p = p

  runs : (ways : Ways) (s : Status) (plan : CatPlan) (data_ : Data) (play : Play) (dice : ℕ) (h : List (Turn Entry)) → Runs ways s (record plan { data_ = data_ }) play dice h old new → Runs ways s plan play dice h old after
  runs ways s plan data_ play dice h r = record {
    legal = r.legal;
    settled = r.settled;
    closed = r.closed;
    plays = r.plays;
    printed = printed s (texts play (past_of h)) r.printed;
    records = r.records;
    others = r.others;
    spends = r.spends;
    ended = ended s (run_setting plan.role dice) plan data_ play (past_of h) r.ended;
    paced = record { over = r.paced.over; not_over = r.paced.not_over };
    faultless = r.faultless;
    memory = r.memory;
  }

  -- no socket was opened, for any files: the cause is not a file
  unopened : (s : Status) → ((f : FilesView) → UnopenedFor s (world net f pace sink) (world net' f pace' sink')) → UnopenedFor s old after
  unopened status.Done u = u files
  unopened (status.Usage at) u = u files
  unopened status.SendTimedOut u = u files
  unopened status.Over u = u files
  unopened status.NetFault u = u files
  unopened status.OutFault u = u files
  unopened status.FileFault u = let n : 1 ≤ 0 = u (record { holds = None; faults = 0 }) in absurd (omega (arith, n))
  unopened status.NoMemory u = tt

  -- the plan was run with the data that were loaded
  loaded_runs : (ways : Ways) (s : Status) (plan : CatPlan) (data_ : Data) (dice : ℕ) (r : Option (List (Turn Entry))) → HasContent plan.data_ data_ files → ((f : FilesView) → RunsPlan ways s (record plan { data_ = data_ }) dice r (world net f pace sink) (world net' f pace' sink')) → RunsPlan ways s plan dice r old after
  loaded_runs ways s plan data_ dice None content u =
      (unopened s (λ f. (u f).0), record { net = (u files).1.net; pace = (u files).1.pace; sink = (u files).1.sink })
  loaded_runs ways s plan data_ dice (Some h) content u =
      let play = (u files).0 in
      let is = (u files).1 in
      (play, record { role = is.role; body = carries plan.data_ data_ files play.body content is.body; topics = is.topics; count = is.count; interval = is.interval; recv_timeout = is.recv_timeout; send_timeout = is.send_timeout; format = is.format }, runs ways s plan data_ play dice h (u files).2)

  -- the same for the plan that was loaded
  pub run_of : (s : Status) (plan loaded : CatPlan) (data_ : Data) (dice : ℕ) (r : Option (List (Turn Entry))) → HasContent plan.data_ data_ files → loaded ≡ record plan { data_ = data_ } → ((f : FilesView) → RunsPlan (run_ways loaded.role (origins_of loaded dice)) s loaded dice r (world net f pace sink) (world net' f pace' sink')) → RunsPlan (run_ways plan.role (origins_of plan dice)) s plan dice r old after
  run_of s plan loaded data_ dice r content is u =
      loaded_runs (run_ways plan.role (origins_of plan dice)) s plan data_ dice r content (subst (λ (l : CatPlan). (f : FilesView) → RunsPlan (run_ways l.role (origins_of l dice)) s l dice r (world net f pace sink) (world net' f pace' sink')) is u)

-- the files were asked for what the plan names
pub files_by : (data_ : Data) (net net' : NetView) (pace pace' : PaceView) (sink sink' : SinkView) (files files' : FilesView) → AsksFiles data_ files files' → FilesBy data_ (world net files pace sink) (world net' files' pace' sink')
files_by data_ net net' pace pace' sink sink' files files' a = record { holds = a.holds; faults = a.faults; unasked = a.unasked }
