-- What a frame is, and what goes out for a message.
use Rattle.std.proofs.Common.{◌≡◌, refl, ap, sym, ◌∙◌, List, [], ◌∷◌, ◌++◌, ℕ, ◌<◌, ◌≤◌, Bool, true, false, cond, arith, Option, Some, None, length, take, drop}
use Rattle.std.specs.Prelude.{nat_lt, ◌==◌, ◌&&◌, Result, Ok, Err}
use Rattle.std.specs.Int.{w32, to_be_bytes}
use Rattle.std.proofs.lemmas.Bool.Decides.{nat_tests}
use Rattle.sp_base.specs.declared.role.Role.TheVariants as role
use Rattle.sp_msg.specs.Views.{MessageView, wire_text}
use Rattle.sp_msg.specs.Messages.{TrimmedNumber, HeaderAppended}
use Rattle.sp_msg.specs.declared.message.Short.{Short}
use Rattle.sp_msg.specs.declared.message.HeaderFull.{HeaderFull}
use Rattle.sp_history.specs.declared.entry.RecordedMessage.{RecordedMessage}
use Rattle.sp_history.specs.declared.parts.Item.{Item}
use Rattle.sp_history.specs.declared.parts.LiveRequest.{LiveRequest}
use Rattle.sp_history.specs.declared.parts.Origin.{Origin}
use Rattle.sp_history.specs.Hops.{hop_word, hops_of, next_hops}
use Rattle.sp_history.specs.Frames.{message, plain_item, headed_item, item_for, malformed_for}
use Rattle.sp_history.specs.Sends.{bytes_for}
use Rattle.sp_proto.specs.Kinds.{text_of}
use Rattle.proto_pair.specs.declared.PairVersion.TheVariants as versions
use Rattle.proto_pair.specs.declared.Arrival.TheVariants as arrivals
use Rattle.proto_pair.specs.Pairs.{Arrives, GoesOut}
use Rattle.proto_pair.proofs.Versions.{word_is}

-- a frame with a count has its word
pub has_word : (b : List ℕ) (n : ℕ) → hops_of b ≡ Some n → 4 ≤ length b
has_word [] n h = absurd cc
has_word (w ∷ []) n h = absurd cc
has_word (w ∷ x ∷ []) n h = absurd cc
has_word (w ∷ x ∷ y ∷ []) n h = absurd cc
has_word (w ∷ x ∷ y ∷ z ∷ rest) n h = omega arith

text_is : (x y a b : List ℕ) → x ≡ a → y ≡ b → message x y ≡ message a b
text_is x y a b h k = rw (h, k) refl

pub of_zero : (raw : Bool) (ttl : ℕ) (m : MessageView) → m.header ≡ [] → Arrives versions.Zero raw ttl m (arrivals.Kept m)
of_zero raw ttl m bare = (refl, λ p. (plain_item p m.body, refl, text_is m.header m.body [] m.body bare refl))

pub of_none : (raw : Bool) (ttl : ℕ) (m : MessageView) → hops_of m.body ≡ None → Arrives versions.One raw ttl m arrivals.Malformed
of_none raw ttl m h = rw h refl

pub of_far : (raw : Bool) (ttl n : ℕ) (m : MessageView) → hops_of m.body ≡ Some n → ttl < n → Arrives versions.One raw ttl m arrivals.TooFar
of_far raw ttl n m h l = let far : nat_lt ttl n ≡ true = grind (arith, nat_tests) in (rw h refl, λ p. rw (h, far) refl)

pub of_kept : (raw : Bool) (ttl n : ℕ) (m v : MessageView) → hops_of m.body ≡ Some n → n ≤ ttl → v.body ≡ drop 4 m.body → v.header ≡ cond raw (take 4 m.body) [] → Arrives versions.One raw ttl m (arrivals.Kept v)
of_kept raw ttl n m v h l body header =
    let near : nat_lt ttl n ≡ false = grind (arith, nat_tests) in
    (rw h refl, λ p. (headed_item raw p m.body, rw (h, near) refl, text_is v.header v.body (cond raw (take 4 m.body) []) (drop 4 m.body) header body ∙ by_raw raw p))
  where
    by_raw : (raw : Bool) (p : ℕ) → message (cond raw (take 4 m.body) []) (drop 4 m.body) ≡ (headed_item raw p m.body).message
    by_raw true p = refl
    by_raw false p = refl

-- ---- The header

pub with_word : {U : Type 0} (old cleared new : MessageView) (n : ℕ) (r : Result U HeaderFull) → n < 256 → cleared ≡ record old { header = [] } → HeaderAppended n cleared new r → new ≡ record old { header = hop_word n }
with_word old cleared new n (Ok u) l e h =
    h.1 ∙ ap (λ (v : MessageView). record v { header = v.header ++ to_be_bytes w32 n }) e ∙ ap (λ (w : List ℕ). record old { header = w }) (word_is n l)
with_word old cleared new n (Err x) l e h = let none : length cleared.header ≡ 0 = ap (λ (v : MessageView). length v.header) e in absurd (omega (arith, h.0, none))

-- ---- What goes out

some_inj : (a b : List ℕ) → Some a ≡ Some b → a ≡ b
some_inj a b q = cc

pub out_zero : (raw : Bool) (m out : MessageView) → out ≡ record m { header = [] } → GoesOut versions.Zero raw m out
out_zero raw m out e = λ o r b q. ap wire_text e ∙ some_inj m.body b q

pub out_cooked : (m out : MessageView) → out ≡ record m { header = hop_word 1 } → GoesOut versions.One false m out
out_cooked m out e = λ o r b q. ap wire_text e ∙ some_inj (hop_word 1 ++ m.body) b q

pub out_raw : (m out : MessageView) (n : ℕ) → next_hops m.header ≡ Some n → out ≡ record m { header = hop_word n } → GoesOut versions.One true m out
out_raw m out n h e = λ o r b q. ap wire_text e ∙ some_inj (hop_word n ++ m.body) b (rw h at q)

pub out_none : (m out : MessageView) → next_hops m.header ≡ None → GoesOut versions.One true m out
out_none m out h = λ o r b q. let no : None ≡ Some b = rw h at q in absurd cc
