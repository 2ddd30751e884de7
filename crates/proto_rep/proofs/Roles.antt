-- What rep and respondent have in common.
use Rattle.std.proofs.Common.{◌≡◌, refl, true, false}
use Rattle.sp_history.specs.declared.setting.Setting.{Setting}
use Rattle.sp_history.specs.Setting.{is_reply, is_pair1, floods, has_topics, has_stored, has_requests, resends}
use Rattle.proto_rep.specs.declared.rep.ReplyRole.{ReplyRole}
use Rattle.proto_rep.specs.declared.rep.ReplyRole.TheVariants as sides
use Rattle.proto_rep.specs.Reps.{role_of}

pub replies : (y : ReplyRole) (z : Setting) → z.role ≡ role_of y → is_reply z.role ≡ true
replies sides.Rep z h = rw h refl
replies sides.Respondent z h = rw h refl

pub no_pair : (y : ReplyRole) (z : Setting) → z.role ≡ role_of y → is_pair1 z.role ≡ false
no_pair sides.Rep z h = rw h refl
no_pair sides.Respondent z h = rw h refl

pub no_floods : (y : ReplyRole) (z : Setting) → z.role ≡ role_of y → floods z.role ≡ false
no_floods sides.Rep z h = rw h refl
no_floods sides.Respondent z h = rw h refl

pub no_topics : (y : ReplyRole) (z : Setting) → z.role ≡ role_of y → has_topics z ≡ false
no_topics sides.Rep z h = rw h refl
no_topics sides.Respondent z h = rw h refl

pub asks_nothing : (y : ReplyRole) (z : Setting) → z.role ≡ role_of y → has_requests z ≡ false
asks_nothing sides.Rep z h = rw h refl
asks_nothing sides.Respondent z h = rw h refl

pub no_resends : (y : ReplyRole) (z : Setting) → z.role ≡ role_of y → resends z ≡ false
no_resends sides.Rep z h = rw h refl
no_resends sides.Respondent z h = rw h refl

pub stores : (y : ReplyRole) (z : Setting) → z.role ≡ role_of y → z.raw ≡ false → has_stored z ≡ true
stores sides.Rep z h r = rw (h, r) refl
stores sides.Respondent z h r = rw (h, r) refl
