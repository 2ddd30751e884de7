use Rattle.std.proofs.Common.{refl}
use Rattle.sp_upgrade.specs.Texts.{request_text}
use Rattle.sp_upgrade.proofs.texts.request_text.Goals as goal

pub returns : goal.returns
unfolding request_text
returns c = rw (c.in_ok-append-3.ensures.ok, c.in_ok-add_field-6.ensures, c.in_ok-add_field-5.ensures, c.in_ok-add_field-4.ensures, c.in_ok-add_field-3.ensures, c.in_ok-add_field-2.ensures, c.in_ok-add_field.ensures, c.in_ok-append-2.ensures.ok, c.in_ok-append.ensures.ok, c.in_ok-text.ensures, c.as_bytes.ensures.value, c.subprotocol-protocol.ensures, c.key_text-key.ensures) refl
