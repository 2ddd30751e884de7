-- The plans that can be played, and how a run of one begins and ends.
use Rattle.std.specs.Prelude.{◌≡◌, ◌≤◌, ◌==◌, [], ◌⊎◌, ◌||◌, not, ℕ, ⊤, true, false, Bool, IsTrue, List, length, Result, Option, Some, None, ◌∷◌}
use Rattle.std.specs.List.{AllByRecursion}
use Rattle.turn_lock.specs.declared.turn.Turn.{Turn}
use Rattle.sp_base.specs.Outside.{Rose}
use Rattle.sp_base.specs.Addresses.{is_dialable, is_linked}
use Rattle.sp_base.specs.Views.{LinkView, NetView, PaceView, SinkView}
use Rattle.sp_base.specs.declared.addr.Addr.{Addr}
use Rattle.sp_base.specs.declared.addr.Addr.TheVariants as addrs
use Rattle.sp_base.specs.declared.role.Role.{Role}
use Rattle.sp_history.specs.Setting.{is_sub}
use Rattle.sp_history.specs.declared.entry.Entry.{Entry}
use Rattle.sp_history.specs.Past.{past_of, is_closed}
use Rattle.sp_history.specs.Legal.{Legal}
use Rattle.sp_history.specs.Moments.{Moment}
use Rattle.sp_history.specs.Settled.{Settled}
use Rattle.sp_proto.specs.Kinds.{Kind, Starts, setting_of}
use Rattle.sp_socket.specs.Singles.{SingleView}
use Rattle.sp_links.specs.Origins.{Origins, IsAmong}
use Rattle.sp_lane.specs.Registry.{Registry}
use Rattle.sp_ends.specs.EndViews.{EndsView, LinkEndsView, Beginning}
use Rattle.sp_ends.specs.AddedEnds.{ListensAlso, DialsAlso}
use Rattle.sp_ends.specs.LeftLinks.{LinksLeft, ClosedCleared}
use Rattle.sp_ends.specs.RunLinks.{SameCounts}
use Rattle.cat_text.specs.Drafts.{needs_data}
use Rattle.cat_text.specs.declared.plan.CatPlan.{CatPlan}
use Rattle.cat_text.specs.declared.plan.Data.{Data}
use Rattle.cat_text.specs.declared.plan.Data.TheVariants as datas
use Rattle.cat_text.specs.declared.plan.End.{End}
use Rattle.cat_text.specs.declared.plan.End.TheVariants as ends
use Rattle.cat_play.specs.declared.status.Status.{Status}
use Rattle.cat_play.specs.declared.status.Status.TheVariants as status
use Rattle.sp_ends.specs.Entries.{each}
use Rattle.cat_play.specs.Playing.{Plays}
use Rattle.sp_ends.specs.LinkRecords.{times_out_rightly}
use Rattle.cat_play.specs.Running.{ListensTwice, run_setting}
use Rattle.cat_play.specs.Scripts.{texts, counted, timed_out, ends_received}
use Rattle.cat_play.specs.Spending.{listens_of, dials_of}
use Rattle.sp_ends.specs.Entries.{AddsNone, moves_ends}
use Rattle.sp_ends.specs.declared.error.EndError.{EndError}
use Rattle.cat_rounds.specs.declared.player.Player.{Player}
use Rattle.cat_rounds.specs.Lasting.{play_of}
use Rattle.cat_rounds.specs.PlayerSteps.{Sinks}
use Rattle.cat_rounds.specs.Parts.{RunPartsView}
use Rattle.cat_rounds.specs.RunRounds.{AreCleared, is_failed_run, WentOrOver, PacedTo, LinksStand, RunStands, is_dry_at}

-- ---- Plans

-- what is dialed over links has one host
abbrev pub IsBuiltEnd : End → Type 0
IsBuiltEnd (ends.Listen addr) = ⊤
IsBuiltEnd (ends.Dial addr) = is_linked addr ≡ true → is_dialable addr ≡ true

pub record AreBuilt (es : List End) : Type 0 where
  pub each_one : AllByRecursion IsBuiltEnd es
  pub few : length es ≤ 64

-- there are data
abbrev pub has_data : Data → Bool
has_data datas.None = false
has_data _ = true

-- data that isn't a file's
abbrev pub IsBuiltData : Data → Type 0
IsBuiltData (datas.File name) = ⊥
IsBuiltData _ = ⊤

-- topics of a role that has them, each of at most 1,024 bytes
pub record AreTopics (role : Role) (ts : List (List ℕ)) : Type 0 where
  pub supported : IsTrue (is_sub role || (length ts == 0))
  pub short : AllByRecursion (λ t. length t ≤ 1024) ts

-- a plan that can be played: its addresses can be dialed, its socket takes its topics, and its data are in its words
pub record IsBuilt (plan : CatPlan) : Type 0 where
  pub ends_built : AreBuilt plan.ends
  pub data_built : IsBuiltData plan.data_
  pub topics_built : AreTopics plan.role plan.topics
  -- what is sent has a body
  pub carries : IsTrue (not (needs_data plan.role) || has_data plan.data_)

-- a machine in its initial state, whose socket has the setting of the run
abbrev pub IsMachineOf : {M : Type 0} → (M → Moment → Type 0) → Role → ℕ → M → Type 0
IsMachineOf ties role dice m = (k : Kind) × Starts ties m k × (setting_of k 16 1 ≡ run_setting role dice)

-- the body that sends carry
abbrev pub IsBody : Data → Option (List ℕ) → Type 0
IsBody datas.None body = body ≡ None
IsBody (datas.Text text) body = body ≡ Some text
IsBody (datas.File name) body = body ≡ None

-- ---- Where the links of a plan come from

-- the addresses at which it listens
abbrev pub listen_addrs : List End → List Addr
listen_addrs [] = []
listen_addrs (ends.Listen addr ∷ es) = addr ∷ listen_addrs es
listen_addrs (ends.Dial addr ∷ es) = listen_addrs es

-- the addresses that it dials
abbrev pub dial_addrs : List End → List Addr
dial_addrs [] = []
dial_addrs (ends.Listen addr ∷ es) = dial_addrs es
dial_addrs (ends.Dial addr ∷ es) = addr ∷ dial_addrs es

-- the ends of the plan, with keys that are made from this number
abbrev pub origins_of : CatPlan → ℕ → Origins
origins_of plan dice = record { listens = listen_addrs plan.ends; dials = dial_addrs plan.ends; dice = dice; limits = plan.recv_max ∷ [] }

-- the address of the end is among them, and so is its receive limit
abbrev pub IsEndOf : Origins → ℕ → End → Type 0
IsEndOf o max (ends.Listen addr) = IsAmong addr o.listens × IsAmong max o.limits
IsEndOf o max (ends.Dial addr) = IsAmong addr o.dials × IsAmong max o.limits

-- ---- The beginning

-- the names within the process on which these listen, in order
abbrev pub listen_names : List End → List (List ℕ)
listen_names [] = []
listen_names (ends.Listen (addrs.Tcp host port) ∷ es) = listen_names es
listen_names (ends.Listen (addrs.Ws host port path) ∷ es) = listen_names es
listen_names (ends.Listen (addrs.Ipc path) ∷ es) = listen_names es
listen_names (ends.Listen (addrs.Inproc name) ∷ es) = name ∷ listen_names es
listen_names (ends.Dial addr ∷ es) = listen_names es

-- one more end, with this receive limit
abbrev pub AddsEnd : {L : Type 0} → Result (Unit {0}) EndError → End → ℕ → EndsView L → EndsView L → NetView → NetView → Registry → Registry → Type 0
AddsEnd result (ends.Listen addr) max old new net net' reg reg' = ListensAlso result addr max old new net net' reg reg'
AddsEnd result (ends.Dial addr) max old new net net' reg reg' = DialsAlso result addr max old new × (net' ≡ net) × (reg' ≡ reg)

-- why it ended like this: the net failed to listen before the first round, or a name is listened on twice, or the
-- rounds ended like this
abbrev pub EndsFor : Status → List End → SingleView → Player → NetView → NetView → PaceView → PaceView → SinkView → SinkView → Type 0
EndsFor status.NetFault es s p net net' pace pace' out out' =
    (Rose net.faults net'.faults ⊎ ListensTwice es) × (net'.opened ≡ net.opened) × (pace'.left ≡ pace.left)
EndsFor result es s p net net' pace pace' out out' = WentOrOver result s p out out' pace'

-- a run of a plan that listens twice on one name can end only like this: the net is at fault, there is no memory, or
-- its file can't be read
abbrev pub ListensOnce : Status → List End → Type 0
ListensOnce status.NetFault es = ⊤
ListensOnce status.NoMemory es = ⊤
ListensOnce status.FileFault es = ⊤
ListensOnce _ es = ListensTwice es → ⊥

-- the plan was followed until it ended like this, with all its ends, or before the first turn of the socket
pub record Follows {L : Type 0} (result : Status) (es : List End) (s : SingleView) (e : LinkEndsView L) (p : Player) (net net' : NetView) (pace pace' : PaceView) (out out' : SinkView) : Type 0 where
  pub why : EndsFor result es s p net net' pace pace' out out'
  pub paced : PacedTo result pace pace' (past_of s.seen)
  pub once : ListensOnce result es
  pub asked : (s.seen ≡ []) ⊎ (length e.listeners ≡ listens_of es) × (length e.dialers ≡ dials_of es)
  pub sinks : Sinks (is_failed_run result) out out'

-- an open run that may follow a plan with these ends
abbrev pub MayFollow : {L : Type 0} → (L → LinkView) → List End → ℕ → RunPartsView L → NetView → Type 0
MayFollow seen es max r net =
    (start : Beginning) × AllByRecursion (IsEndOf start.origins max) es × LinksStand seen start r.single r.ends.links net false

-- it has followed it
abbrev pub FollowsOn : {L : Type 0} → (L → LinkView) → List End → ℕ → RunPartsView L → RunPartsView L → NetView → NetView → Type 0
FollowsOn seen es max r r' net net' =
    (start : Beginning) → AllByRecursion (IsEndOf start.origins max) es → RunStands seen start r.single r.ends.links r.player net false → RunStands seen start r'.single r'.ends.links r'.player net' (is_dry_at r'.single)

-- ---- The end

-- a closed, finished run: its record is the history and turns that move no link and no tick; it is a play, in which the
-- same counts, is printed and timed out; its links are left
pub record FinishesTo {L : Type 0} (seen : L → LinkView) (start : Beginning) (s : SingleView) (e : LinkEndsView L) (p : Player) (net net' : NetView) (record_ : List (Turn Entry)) : Type 0 where
  pub links : AddsNone moves_ends s.seen record_
  pub legal : Legal s.setting record_
  pub settled : Settled s.setting record_
  pub texts_are : texts (play_of p.script) (past_of record_) ≡ texts (play_of p.script) (past_of s.seen)
  pub counts_are : counted s.setting (play_of p.script) (past_of record_) ≡ counted s.setting (play_of p.script) (past_of s.seen)
  pub timed : (receives : Bool) → timed_out receives (past_of record_) ≡ timed_out receives (past_of s.seen)
  -- where nothing was under way, nothing is collected after the close
  pub received : p.op ≡ None → ends_received (past_of record_) ≡ ends_received (past_of s.seen)
  pub closed : IsTrue (is_closed (past_of record_))
  pub plays : Plays s.setting (play_of p.script) record_
  pub due : IsTrue (each times_out_rightly (past_of record_))
  pub cleared : AreCleared (past_of s.seen) → ClosedCleared (past_of record_)
  pub left_ : LinksLeft s.setting start record_ net'
  pub counts : SameCounts net net'

abbrev pub FinishesAs : {L : Type 0} → (L → LinkView) → Beginning → SingleView → LinkEndsView L → Player → NetView → NetView → Option (List (Turn Entry)) → Type 0
FinishesAs seen start s e p net net' None = ⊥
FinishesAs seen start s e p net net' (Some record_) = FinishesTo seen start s e p net net' record_

-- a run whose rounds are over
abbrev pub RunIsOver : {L : Type 0} → (L → LinkView) → RunPartsView L → NetView → Type 0
RunIsOver seen r net = (start : Beginning) × LinksStand seen start r.single r.ends.links net (is_dry_at r.single)

-- it is finished, with this record
abbrev pub RunFinishes : {L : Type 0} → (L → LinkView) → RunPartsView L → NetView → NetView → Option (List (Turn Entry)) → Type 0
RunFinishes seen r net net' record_ =
    (start : Beginning) → RunStands seen start r.single r.ends.links r.player net (is_dry_at r.single) → FinishesAs seen start r.single r.ends.links r.player net net' record_
