use Rattle.std.proofs.Common.{refl}
use Rattle.sp_upgrade.specs.Texts.{answer_text}
use Rattle.sp_upgrade.proofs.texts.answer_text.Goals as goal

pub returns : goal.returns
unfolding answer_text
returns c = rw (c.in_ok-append.ensures.ok, c.in_ok-add_field-4.ensures, c.in_ok-add_field-3.ensures, c.in_ok-add_field-2.ensures, c.in_ok-add_field.ensures, c.in_ok-text.ensures, c.as_bytes.ensures.value, c.subprotocol-protocol.ensures, c.accept_value-accept.ensures) refl
