-- What counts, by what was collected last.
use Rattle.std.proofs.Common.{◌≡◌, refl, ◌∙◌, ℕ, Bool, true, false, Some, None, Option, List, []}
use Rattle.std.specs.Prelude.{IsTrue, ◌&&◌, ◌||◌, not, is_some, IfSome, if◌then◌else◌}
use Rattle.sp_base.specs.declared.role.Role.{Role}
use Rattle.sp_base.specs.declared.role.Role.TheVariants as roles
use Rattle.sp_history.specs.declared.entry.RecordedMessage.{RecordedMessage}
use Rattle.sp_history.specs.declared.entry.Ending.{Ending}
use Rattle.sp_history.specs.declared.entry.Ending.TheVariants.{Won, Gone}
use Rattle.sp_history.specs.declared.entry.Cause.{Cause}
use Rattle.sp_history.specs.declared.entry.Cause.TheVariants.{Closed, SurveyOver}
use Rattle.sp_history.specs.declared.entry.Completion.TheVariants.{Received, Sent}
use Rattle.sp_history.specs.Setting.{is_req}
use Rattle.sp_core.proofs.MomentSteps.{same_bytes-refl}
use Rattle.cat_text.specs.Drafts.{needs_data}
use Rattle.cat_play.specs.Scripts.{counts_for, receives_next}
use Rattle.cat_play.specs.Playing.{is_plain, is_surveyor}
use Rattle.cat_rounds.specs.declared.next.LastCollected.{LastCollected}
use Rattle.cat_rounds.specs.declared.next.LastCollected.TheVariants as lasts
use Rattle.cat_rounds.specs.declared.player.Script.{Script}
use Rattle.cat_rounds.specs.Lasting.{IsLast}
use Rattle.cat_rounds.specs.PlayerSteps.{counts_for_last}

pub received_counts : (role : Role) (b over : Bool) (m : RecordedMessage) → counts_for role b over (Some (Won (Received m))) ≡ (if is_surveyor role then over else is_req role || not b)
received_counts roles.Surveyor b over m = refl
received_counts _ b over m = refl

pub sent_counts : (role : Role) (b over : Bool) → counts_for role b over (Some (Won Sent)) ≡ (if is_surveyor role then over else not (is_req role) && b)
sent_counts roles.Surveyor b over = refl
sent_counts _ b over = refl

pub over_counts : (role : Role) (b over : Bool) (by : ℕ) → counts_for role b over (Some (Gone SurveyOver by)) ≡ is_surveyor role
over_counts roles.Surveyor b over by = refl
over_counts _ b over by = refl

pub gone_counts : (role : Role) (b over : Bool) (cause : Cause) (by : ℕ) → (cause ≡ SurveyOver → ⊥) → counts_for role b over (Some (Gone cause by)) ≡ false
gone_counts roles.Surveyor b over SurveyOver by n = absurd (n refl)
gone_counts roles.Surveyor b over _ by n = refl
gone_counts _ b over cause by n = refl

none_counts : (role : Role) (b over : Bool) → counts_for role b over None ≡ false
none_counts roles.Surveyor b over = refl
none_counts _ b over = refl

-- it counts exactly where the table says so
pub counts_is : (s : Script) (is_over : Bool) (last : LastCollected) (result : Bool) → ((r : Option Ending) → IsLast last r → result ≡ counts_for s.role (is_some s.body) is_over r) → result ≡ counts_for_last s is_over last
counts_is s is_over lasts.Nothing result h = h None refl ∙ none_counts s.role (is_some s.body) is_over
counts_is s is_over lasts.Received result h =
    h (Some (Won (Received (record { header = []; body = [] })))) tt ∙ received_counts s.role (is_some s.body) is_over (record { header = []; body = [] })
counts_is s is_over lasts.Sent result h = h (Some (Won Sent)) tt ∙ sent_counts s.role (is_some s.body) is_over
counts_is s is_over lasts.SurveyOver result h = h (Some (Gone SurveyOver 0)) tt ∙ over_counts s.role (is_some s.body) is_over 0
counts_is s is_over lasts.Gone result h =
    h (Some (Gone Closed 0)) tt ∙ gone_counts s.role (is_some s.body) is_over Closed 0 (λ e. cc)

-- ---- What is sent has a body

flip : (x : Bool) → not x ≡ false → x ≡ true
flip true h = refl
flip false h = cc

pub has_body : (role : Role) (b r : Bool) (last : Option Ending) → receives_next role b r last ≡ false → IsTrue (not (needs_data role) || b) → b ≡ true
has_body roles.Push b r last next needs = needs
has_body roles.Pub b r last next needs = needs
has_body roles.Req b r last next needs = needs
has_body roles.Surveyor b r last next needs = needs
has_body roles.Pair0 b r last next needs = flip b next
has_body roles.Pair1 b r last next needs = flip b next
has_body roles.Bus b r last next needs = flip b next
has_body roles.Pull b r last next needs = cc
has_body roles.Sub b r last next needs = cc
has_body roles.Rep b r (Some (Won (Received m))) next needs = flip b next
has_body roles.Rep b r _ next needs = cc
has_body roles.Respondent b r (Some (Won (Received m))) next needs = flip b next
has_body roles.Respondent b r _ next needs = cc

pub is_plain_message : (body : Option (List ℕ)) (m : RecordedMessage) → is_some body ≡ true → m.header ≡ [] → IfSome body (λ b. m.body ≡ b) → is_plain body m ≡ true
is_plain_message None m some header is = cc
is_plain_message (Some b) m some header is = rw (header, is) (same_bytes-refl b)
