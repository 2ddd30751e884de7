-- Replies that wait for their pipes.
use Rattle.std.specs.Prelude.{◌≡◌, ◌≤◌, ◌<◌, ◌+◌, ◌==◌, ◌&&◌, nat_lt, ⊤, ℕ, Bool, true, false, List, [], ◌∷◌, ◌++◌, find, length, Option, Some, None}
use Rattle.std.specs.List.{list_any}
use Rattle.std.specs.Option.{option_map}
use Rattle.sp_base.specs.declared.OpName.{OpName}
use Rattle.sp_history.specs.Lists.{first_word, same_op}
use Rattle.sp_proto.specs.declared.Offer.{Offer}
use Rattle.sp_proto.specs.declared.Offer.TheVariants as offers
use Rattle.proto_requests.specs.Backlogs.{IsIndexed}
use Rattle.proto_requests.specs.FirstFound.{without_found}
use Rattle.proto_requests.specs.Numbers.{is_known}
use Rattle.proto_requests.specs.Ports.{PortView, where_is}
use Rattle.proto_requests.specs.declared.ports.Destination.{Destination}
use Rattle.proto_requests.specs.declared.ports.Destination.TheVariants as ways
use Rattle.proto_rep.specs.declared.rep.Source.{Source}
use Rattle.proto_rep.specs.declared.replies.PendingReply.{PendingReply}
use Rattle.proto_rep.specs.declared.replies.WaitingReply.{WaitingReply}

-- ---- Where one goes

-- the pipe to which it may go
abbrev pub target_of : Bool → PendingReply → Option ℕ
target_of true r = first_word r.message.header
target_of false r = option_map (λ (s : Source). s.pipe) r.source

abbrev pub way_of : Bool → List PortView → PendingReply → Destination
way_of raw xs r = where_is xs (target_of raw r)

abbrev pub isnt_full : Destination → Bool
isnt_full ways.Full = false
isnt_full ways.Nowhere = true
isnt_full (ways.To p) = true

-- its pipe isn't up and full
abbrev pub can_leave : Bool → List PortView → WaitingReply → Bool
can_leave raw xs w = isnt_full (way_of raw xs w.answer)

abbrev pub way_offer : OpName → Destination → Offer
way_offer op (ways.To p) = offers.Send op p
way_offer op ways.Full = offers.Idle
way_offer op ways.Nowhere = offers.Drop op

abbrev pub reply_offer : Bool → List PortView → Option WaitingReply → Offer
reply_offer raw xs None = offers.Idle
reply_offer raw xs (Some w) = way_offer w.op (way_of raw xs w.answer)

-- ---- By their pipes

-- the pipe as a key
abbrev pub key_of : Option ℕ → ℕ
key_of None = 0
key_of (Some p) = p + 1

-- the key of the pipe to which it may go
abbrev pub reply_key : Bool → WaitingReply → ℕ
reply_key raw w = key_of (target_of raw w.answer)

-- it may go to the pipe of this key, and that isn't up and full
abbrev pub leaves_to : Bool → List PortView → ℕ → WaitingReply → Bool
leaves_to raw xs k w = (reply_key raw w == k) && can_leave raw xs w

-- no reply can leave, or this is the first of those to its pipe
abbrev pub IsFirst : Bool → List PortView → List WaitingReply → Option WaitingReply → Type 0
IsFirst raw xs ws None = find (can_leave raw xs) ws ≡ None
IsFirst raw xs ws (Some w) = (k : ℕ) × (find (leaves_to raw xs k) ws ≡ Some w)

-- such a reply is offered
abbrev pub OffersFirst : Bool → List PortView → List WaitingReply → Offer → Type 0
OffersFirst raw xs ws x = (o : Option WaitingReply) × IsFirst raw xs ws o × (x ≡ reply_offer raw xs o)

-- ---- As they are seen

-- all that wait, in the order of their begins; those of them that are passed over; and how many more there is room for
pub record RepliesView : Type 0 where
  pub items : List WaitingReply
  pub passed : List WaitingReply
  pub room : ℕ

-- the reply comes after the others, with some number
abbrev pub IsPushed : OpName → ℕ → PendingReply → List WaitingReply → List WaitingReply → Type 0
IsPushed op c answer old new = (n : ℕ) × (new ≡ old ++ record { op = op; ctx = c; answer = answer; number = n } ∷ [])

abbrev pub is_reply_of : OpName → WaitingReply → Bool
is_reply_of op w = same_op w.op op

-- without the one of this name
abbrev pub without_reply : OpName → List WaitingReply → List WaitingReply
without_reply op ws = without_found (is_reply_of op) ws

-- of those that are passed over, no more pass the test
abbrev pub StayPassed : RepliesView → RepliesView → Type 0
StayPassed old new = (P : WaitingReply → Bool) → list_any P old.passed ≡ false → list_any P new.passed ≡ false

-- none of those that are passed over can leave
abbrev pub AreStuck : Bool → List PortView → RepliesView → Type 0
AreStuck raw xs v = list_any (can_leave raw xs) v.passed ≡ false

-- it may go to this pipe
abbrev pub is_to : Bool → ℕ → WaitingReply → Bool
is_to raw p w = reply_key raw w == key_of (Some p)

-- ---- As they are held

abbrev pub reply_slot : WaitingReply → ℕ
reply_slot w = w.op.slot

-- its key is below the mark
abbrev pub is_below : Bool → ℕ → WaitingReply → Bool
is_below raw below w = nat_lt (reply_key raw w) below

-- the numbers rise from one number on, and are below the other
abbrev pub AreRising : ℕ → ℕ → List WaitingReply → Type 0
AreRising from next [] = ⊤
AreRising from next (w ∷ ws) = (from ≤ w.number) × (w.number < next) × AreRising (w.number + 1) next ws

-- the pair is among them
abbrev pub has_key : ℕ → ℕ → List (ℕ × ℕ) → Bool
has_key k n ks = list_any (λ x. (x.0 == k) && (x.1 == n)) ks

-- the key and the number of each are among the pairs
abbrev pub AreKeyed : Bool → List (ℕ × ℕ) → List WaitingReply → Type 0
AreKeyed raw ks [] = ⊤
AreKeyed raw ks (w ∷ ws) = (has_key (reply_key raw w) w.number ks ≡ true) × AreKeyed raw ks ws

-- The numbers rise, if `in_order` says so; the replies are known by their slots, if `known` says so, and by their keys
-- and numbers, if `indexed` says so; and `alive` of them wait.
pub record AreInRow (raw in_order : Bool) (next : ℕ) (known : Bool) (slots : List (ℕ × ℕ)) (indexed : Bool) (ks : List (ℕ × ℕ)) (alive : ℕ) (ws : List WaitingReply) : Type 0 where
  pub order : in_order ≡ true → AreRising 0 next ws
  pub by_slot : known ≡ true → IsIndexed reply_slot (is_known slots) ws
  pub by_key : indexed ≡ true → (in_order ≡ true) × AreKeyed raw ks ws
  pub number : alive ≡ length ws

-- ---- Found by their keys

-- it has this number, may go to the pipe of this key, and the pipe isn't up and full
abbrev pub is_leaving : Bool → List PortView → ℕ → ℕ → WaitingReply → Bool
is_leaving raw xs k n w = (w.number == n) && leaves_to raw xs k w

-- what may go to the pipe of this key finds it full
abbrev pub IsFullKey : List PortView → ℕ → Type 0
IsFullKey xs k = (to : Option ℕ) → key_of to ≡ k → isnt_full (where_is xs to) ≡ false

-- no pair from this key on, or the first
abbrev pub IsLeast : ℕ → List (ℕ × ℕ) → Option (ℕ × ℕ) → Type 0
IsLeast from ks None = (k n : ℕ) → from ≤ k → has_key k n ks ≡ false
IsLeast from ks (Some x) = (from ≤ x.0) × ((k n : ℕ) → from ≤ k → has_key k n ks ≡ true → (x.0 ≤ k) × (x.0 ≡ k → x.1 ≤ n))

-- all pairs from one key on, and below the other, belong to full pipes
abbrev pub AreFull : List PortView → ℕ → ℕ → List (ℕ × ℕ) → Type 0
AreFull xs from to ks = (k n : ℕ) → from ≤ k → k < to → has_key k n ks ≡ true → IsFullKey xs k

-- the one of this number is offered
abbrev pub OffersIts : Bool → List PortView → ℕ → ℕ → List WaitingReply → Offer → Type 0
OffersIts raw xs k n ws x = (w : WaitingReply) × (find (is_leaving raw xs k n) ws ≡ Some w) × (x ≡ reply_offer raw xs (Some w))
