-- What a request's end leaves of the operations of a rep: all of it.
use Rattle.std.specs.Prelude.{◌≡◌, true}
use Rattle.std.proofs.Common.{refl, false}
use Rattle.proto_rep.specs.declared.operations.Recipient.{Recipient}
use Rattle.proto_rep.specs.declared.replies.WaitingReply.{WaitingReply}

pub recipient_same : (w : Recipient) → (w.op ≡ w.op) × (w.ctx ≡ w.ctx) × (false ≡ false)
recipient_same w = (refl, refl, refl)

pub recipient_again : (w : Recipient) → false ≡ true → w ≡ w
recipient_again w h = refl

pub recipient_is : (w : Recipient) → false ≡ true → false ≡ true
recipient_is w h = h

pub reply_same : (w : WaitingReply) → (w.op ≡ w.op) × (w.ctx ≡ w.ctx) × (true ≡ true)
reply_same w = (refl, refl, refl)

pub reply_again : (w : WaitingReply) → false ≡ true → w ≡ w
reply_again w h = refl

pub reply_is : (w : WaitingReply) → false ≡ true → false ≡ true
reply_is w h = h
