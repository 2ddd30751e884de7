-- A live survey, and its changes.
use Rattle.std.specs.Prelude.{ℕ, zero, suc, ◌+◌, ◌==◌, nat_le, nat_lt, Bool, false, not, ◌&&◌, if◌then◌else◌, List, [], ◌∷◌, ◌++◌, length, map, drop, find, filter, Option, Some, None}
use Rattle.std.specs.List.{list_any}
use Rattle.sp_msg.specs.Views.{MessageView}
use Rattle.sp_history.specs.declared.parts.Item.{Item}
use Rattle.sp_history.specs.declared.parts.LiveRequest.{LiveRequest}
use Rattle.sp_history.specs.Lists.{is_nil, head_of}
use Rattle.proto_requests.specs.Ids.{number_after}

-- its context, its id, the moment of its begin, and the responses that are kept, the oldest first
pub record SurveyView : Type 0 where
  pub ctx : ℕ
  pub id : ℕ
  pub birth : ℕ
  pub replies : List MessageView

-- a message that is kept, as it is given
abbrev pub view_of : Item → MessageView
view_of i = record { header = i.message.header; body = i.message.body }

-- the survey that a surveyor has for a request
abbrev pub survey_of : LiveRequest → SurveyView
survey_of r = record { ctx = r.ctx; id = r.id; birth = r.birth; replies = map view_of r.replies }

abbrev pub survey_ctx : SurveyView → ℕ
survey_ctx x = x.ctx

abbrev pub survey_id : SurveyView → ℕ
survey_id x = x.id

abbrev pub fresh_survey : ℕ → ℕ → ℕ → SurveyView
fresh_survey c id birth = record { ctx = c; id = id; birth = birth; replies = [] }

abbrev pub is_live_on : ℕ → SurveyView → Bool
is_live_on c x = x.ctx == c

abbrev pub has_number : ℕ → SurveyView → Bool
has_number id x = x.id == id

-- `time` milliseconds have passed since its begin
abbrev pub is_over : ℕ → ℕ → SurveyView → Bool
is_over time now x = nat_le (x.birth + time) now

-- one more response, where fewer than `most` are kept
abbrev pub with_reply : ℕ → MessageView → SurveyView → SurveyView
with_reply most m x =
    if nat_lt (length x.replies) most then record { ctx = x.ctx; id = x.id; birth = x.birth; replies = x.replies ++ m ∷ [] } else x

-- it has this id, and fewer than `most` responses are kept
abbrev pub awaits : ℕ → ℕ → SurveyView → Bool
awaits id most x = has_number id x && nat_lt (length x.replies) most

-- the oldest response is gone
abbrev pub given_from : SurveyView → SurveyView
given_from x = record { ctx = x.ctx; id = x.id; birth = x.birth; replies = drop 1 x.replies }

-- its oldest response
abbrev pub first_in : Option SurveyView → Option MessageView
first_in None = None
first_in (Some x) = head_of x.replies

-- a response is kept
abbrev pub is_kept : Option SurveyView → Bool
is_kept None = false
is_kept (Some x) = not (is_nil x.replies)

-- a response is kept for the context
abbrev pub keeps_at : List SurveyView → ℕ → Bool
keeps_at xs c = is_kept (find (is_live_on c) xs)

-- the survey of the context is over
abbrev pub over_on : ℕ → ℕ → List SurveyView → ℕ → Bool
over_on time now xs c = list_any (λ (x : SurveyView). (x.ctx == c) && is_over time now x) xs

-- without those that are over
abbrev pub without_over : ℕ → ℕ → List SurveyView → List SurveyView
without_over time now xs = filter (λ (x : SurveyView). not (is_over time now x)) xs

-- the first number from this one on that no live survey has
abbrev pub free_number : ℕ → List SurveyView → ℕ → ℕ
free_number zero xs id = id
free_number (suc tries) xs id = if list_any (has_number id) xs then free_number tries xs (number_after id) else id
