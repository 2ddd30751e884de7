-- The operations of a surveyor that wait, and those of them that no longer have a survey.
use Rattle.std.specs.Prelude.{◌≡◌, ◌==◌, ◌&&◌, not, ℕ, Bool, if◌then◌else◌, List, find, Option, Some, None, is_some}
use Rattle.std.specs.Option.{option_map}
use Rattle.sp_base.specs.declared.OpName.{OpName}
use Rattle.sp_msg.specs.Views.{MessageView}
use Rattle.sp_history.specs.declared.entry.Cause.{Cause}
use Rattle.sp_history.specs.declared.entry.Cause.TheVariants.{Superseded, SurveyOver}
use Rattle.sp_history.specs.declared.parts.Begun.{Begun}
use Rattle.sp_history.specs.declared.parts.Orphan.{Orphan}
use Rattle.sp_history.specs.declared.parts.How.{How}
use Rattle.sp_history.specs.declared.parts.How.TheVariants as how
use Rattle.sp_history.specs.Lists.{same_op}
use Rattle.sp_proto.specs.Kinds.{act_of}
use Rattle.proto_requests.specs.FirstFound.{without_found}
use Rattle.proto_survey.specs.declared.waiting.SurveyOperation.{SurveyOperation}
use Rattle.proto_survey.specs.declared.waiting.SurveyEnd.{SurveyEnd}
use Rattle.proto_survey.specs.declared.waiting.SurveyEnd.TheVariants as ends

abbrev pub begun_of : SurveyOperation → Begun
begun_of w = record { op = w.op; ctx = w.ctx; act = act_of w.message }

abbrev pub is_asked : OpName → SurveyOperation → Bool
is_asked op w = same_op w.op op

abbrev pub is_sending : SurveyOperation → Bool
is_sending w = is_some w.message

-- a receive of the context
abbrev pub receives_on : ℕ → SurveyOperation → Bool
receives_on c w = not (is_sending w) && (w.ctx == c)

-- without the operation of this name
abbrev pub without_first : OpName → List SurveyOperation → List SurveyOperation
without_first op ws = without_found (is_asked op) ws

-- how its survey ended at first
abbrev pub ended_by : Bool → SurveyEnd → Option SurveyEnd → Option SurveyEnd
ended_by on e (Some first) = Some first
ended_by on e None = if on then Some e else None

-- the surveys of these contexts end
abbrev pub left_by : (ℕ → Bool) → SurveyEnd → SurveyOperation → SurveyOperation
left_by on e w = record { op = w.op; ctx = w.ctx; message = w.message; ended = ended_by (on w.ctx) e w.ended }

abbrev pub how_of : SurveyEnd → How
how_of ends.Replaced = how.Replaced
how_of ends.Over = how.Over

-- the cause for which a receive is finished whose survey ended in this way
abbrev pub cause_is : SurveyEnd → Cause
cause_is ends.Replaced = Superseded
cause_is ends.Over = SurveyOver

-- how the request of the operation ended
abbrev pub how_in : List Orphan → OpName → Option How
how_in os op = option_map (λ (o : Orphan). o.how) (find (λ (o : Orphan). same_op o.op op) os)

-- each operation that waits knows how its request ended
abbrev pub Ends : List Orphan → List SurveyOperation → Type 0
Ends os ws = (op : OpName) (w : SurveyOperation) → find (is_asked op) ws ≡ Some w → option_map how_of w.ended ≡ how_in os op
