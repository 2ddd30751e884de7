-- The history that a surveyor stands for.
use Rattle.std.specs.Prelude.{◌≡◌, ◌≢◌, ◌<◌, ◌-◌, ◌^◌, ◌==◌, ◌&&◌, ℕ, Bool, true, false, not, List, [], ◌∷◌, ◌++◌, length, map, Option, Some, None}
use Rattle.sp_base.specs.declared.role.Role.TheVariants as role
use Rattle.sp_msg.specs.Views.{MessageView, wire_text}
use Rattle.sp_history.specs.declared.parts.Begun.{Begun}
use Rattle.sp_history.specs.declared.parts.Item.{Item}
use Rattle.sp_history.specs.declared.parts.Requests.{Requests}
use Rattle.sp_history.specs.declared.setting.Options.{Options}
use Rattle.sp_history.specs.Lists.{is_nil, word, first_word}
use Rattle.sp_history.specs.Requests.{next_number}
use Rattle.sp_history.specs.Sends.{bytes_of}
use Rattle.sp_history.specs.Once.{AreApart, AreDistinct}
use Rattle.sp_history.specs.Moments.{Moment, past}
use Rattle.sp_proto.specs.Kinds.{Kind, text_of}
use Rattle.sp_proto.specs.Readings.{MomentReading, reading}
use Rattle.std.specs.List.{list_any, position}
use Rattle.std.specs.Vec.{vec_len, vec_capacity}
use Rattle.sp_proto.specs.declared.Verb.{Verb}
use Rattle.sp_proto.specs.declared.Verb.TheVariants as verbs
use Rattle.sp_proto.specs.declared.Verdict.{Verdict}
use Rattle.sp_proto.specs.declared.Verdict.TheVariants as verdict
use Rattle.proto_shared.specs.Copies.{Each, HasFlood}
use Rattle.proto_requests.specs.FirstFound.{without_found, with_found}
use Rattle.proto_requests.specs.Ids.{raw_item}
use Rattle.proto_survey.specs.declared.survey.Survey.{Survey}
use Rattle.proto_survey.specs.declared.survey.KeptResponse.{KeptResponse}
use Rattle.proto_survey.specs.declared.waiting.SurveyOperation.{SurveyOperation}
use Rattle.proto_survey.specs.declared.waiting.SurveyEnd.TheVariants as ends
use Rattle.proto_survey.specs.Lives.{SurveyView, survey_of, survey_ctx, survey_id, fresh_survey, is_live_on, has_number, keeps_at, with_reply, awaits, free_number}
use Rattle.proto_survey.specs.Askings.{begun_of, is_sending, receives_on, left_by, Ends}

abbrev pub survey_kind : Bool → Options → Kind
survey_kind raw options = record { role = role.Surveyor; raw = raw; options = options }

-- how many more operations can begin
abbrev pub places_left : Survey → ℕ
places_left m = vec_capacity m.waiting - vec_len m.waiting

-- the copies of a send that have not gone out
abbrev pub copies_left : Survey → ℕ
copies_left m = length m.copies.items

abbrev pub is_raw : Survey → Bool
is_raw m = m.raw

-- ---- What calls do

-- without the survey of the context
abbrev pub without_live : ℕ → List SurveyView → List SurveyView
without_live c xs = without_found (is_live_on c) xs

-- these are messages like this one
abbrev pub AreSame : MessageView → List MessageView → Type 0
AreSame m xs = Each (λ (x : MessageView). x ≡ m) xs

-- what goes out for a copy: raw as it is, else after the id
abbrev pub out_text : Bool → Option ℕ → MessageView → List ℕ
out_text true id m = wire_text m
out_text false None m = wire_text m
out_text false (Some id) m = word id ++ m.body

-- the id of a new survey
abbrev pub new_id : ℕ → Option ℕ → List SurveyView → ℕ
new_id dice last xs = free_number (length xs) xs (next_number dice last)

-- a new survey of the context takes the place of the live one
abbrev pub Asks : ℕ → Survey → Survey → Type 0
Asks c m n =
    (id : ℕ) × (id ≡ new_id m.options.dice m.last_id (without_live c m.live.items)) × (length (without_live c m.live.items) < 2 ^ 31)
    × (n.live.items ≡ without_live c m.live.items ++ fresh_survey c id m.tick ∷ []) × (n.waiting.items ≡ map (left_by (λ d. d == c) ends.Replaced) m.waiting.items)
    × (n.last_id ≡ Some id) × (n ≡ record m { last_id = n.last_id; live = n.live; waiting = n.waiting })

abbrev pub item_of : KeptResponse → Item
item_of k = record { pipe = k.pipe; words = []; message = text_of k.message }

-- a raw frame is kept
abbrev pub KeepsRaw : Verdict → ℕ → List ℕ → List KeptResponse → List KeptResponse → Type 0
KeepsRaw verdict.Fine p b old new = (first_word b ≢ None) × (map item_of new ≡ map item_of old ++ raw_item p b ∷ [])
KeepsRaw verdict.Malformed p b old new = (first_word b ≡ None) × (new ≡ old)
KeepsRaw verdict.NoMemory p b old new = (first_word b ≢ None) × (new ≡ old)
KeepsRaw (verdict.Dry c) p b old new = ⊥

-- a response is kept for the survey that has this id, unless there was no memory where one is to be kept
abbrev pub KeepsReply : Bool → ℕ → ℕ → MessageView → List SurveyView → List SurveyView → Type 0
KeepsReply true id most m old new = new ≡ with_found (has_number id) (with_reply most m) old
KeepsReply false id most m old new = (new ≡ old) × (list_any (awaits id most) old ≡ true)

-- the frame is a response to a live survey that keeps fewer than `most`
abbrev pub IsAwaited : ℕ → List ℕ → List SurveyView → Type 0
IsAwaited most b xs = (id : ℕ) × (first_word b ≡ Some id) × (list_any (awaits id most) xs ≡ true)

abbrev pub Awaits : Survey → List ℕ → Type 0
Awaits m b = IsAwaited m.options.queue b m.live.items

-- a message can be given to a receive of the context
abbrev pub is_given : Bool → List KeptResponse → List SurveyView → ℕ → Bool
is_given true ks xs c = not (is_nil ks)
is_given false ks xs c = keeps_at xs c

-- it is a receive, and can be given a message
abbrev pub gets : Survey → SurveyOperation → Bool
gets m w = not (is_sending w) && is_given m.raw m.kept.items m.live.items w.ctx

-- a response is kept for a receive that waits
abbrev pub is_fed : List SurveyOperation → SurveyView → Bool
is_fed ws x = not (is_nil x.replies) && list_any (receives_on x.ctx) ws

-- it is the first receive of some contexts, for each of which a message is kept
abbrev pub IsNext : Survey → ℕ → Type 0
IsNext m i =
    (among : ℕ → Bool) × (position (λ (w : SurveyOperation). not (is_sending w) && among w.ctx) m.waiting.items ≡ Some i)
    × (AreDistinct (map survey_ctx m.live.items) → (c : ℕ) → among c ≡ true → is_given m.raw m.kept.items m.live.items c ≡ true)

-- the state doesn't allow it: cooked, a receive needs a live survey
abbrev pub survey_state : Bool → List SurveyView → ℕ → Verb → Bool
survey_state true xs c v = false
survey_state false xs c verbs.Recv = not (list_any (is_live_on c) xs)
survey_state false xs c verbs.Send = false

-- ---- What it stands for

-- its settings, and the time
pub record SetTo (raw : Bool) (options : Options) (tick : ℕ) (k : Kind) (t : ℕ) : Type 0 where
  pub kind : k ≡ survey_kind raw options
  pub moment : tick ≡ t

-- raw, what it keeps
abbrev pub Keeps : Bool → List KeptResponse → List Item → Type 0
Keeps raw ks is = raw ≡ true → map item_of ks ≡ is

-- the live surveys, with different ids and contexts; the pending operations, the oldest first, and those of them that
-- no longer have a survey
pub record Asked (xs : List SurveyView) (id : Option ℕ) (ws : List SurveyOperation) (ss : List Begun) (rs : Requests) : Type 0 where
  pub live : xs ≡ map survey_of rs.live
  pub last_id : id ≡ rs.last_id
  pub ids : AreDistinct (map survey_id xs)
  pub places : AreDistinct (map survey_ctx xs)
  pub pending : map begun_of ws ≡ ss
  pub apart : AreApart ss
  pub ends : Ends rs.orphans ws

-- each of the copies goes out as these bytes
abbrev pub IsFlood : Bool → Option ℕ → List MessageView → Option (List ℕ) → Type 0
IsFlood raw id copies None = ⊥
IsFlood raw id copies (Some b) = Each (λ (x : MessageView). out_text raw id x ≡ b) copies

-- its settings and the time, how many pipes are up, the open contexts, what it keeps, and the surveys with the pending
-- operations
abbrev pub Stands : Survey → MomentReading → Type 0
Stands m r =
    SetTo m.raw m.options m.tick r.kind r.now
    × (m.pipes ≡ length r.up)
    × (m.contexts.items ≡ r.ctxs)
    × Keeps m.raw m.kept.items (r.pool 0)
    × Asked m.live.items m.last_id m.waiting.items r.pend r.requests

-- and the copies of a send
abbrev pub Ties : Survey → Moment → Type 0
Ties m t = Stands m (reading t) × HasFlood t (length m.copies.items) (λ (s : Begun). IsFlood m.raw m.last_id m.copies.items (bytes_of t.z (past t) s))
