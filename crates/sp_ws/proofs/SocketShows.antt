-- What a socket shows after a call.
use Rattle.std.proofs.Common.{◌≡◌, ◌++◌, ℕ, List, [], ◌∷◌, Option, Some, None, refl}
use Rattle.std.specs.Prelude.{Result}
use Rattle.tungstenite.specs.declared.error.Error.{Error}
use Rattle.tungstenite.specs.declared.message.Message.{Message}
use Rattle.sp_ws.specs.declared.frames.LastResult.{LastResult}
use Rattle.sp_ws.specs.Views.{FramesView}
use Rattle.websocket.specs.declared.protocol.config.Role.{Role}
use Rattle.websocket.specs.declared.protocol.config.WebSocketConfig.{WebSocketConfig}
use Rattle.sp_ws.specs.Frames.{IsFrame, IsSent}

abbrev pub made : Role → List ℕ → List ℕ → ℕ → List ℕ → List (List ℕ) → List (List ℕ) → LastResult → ℕ → ℕ → List (Result Message Error) → WebSocketConfig → FramesView
made role handed fed left waiting came sent last refusals breaks reads config = record { role = role; handed = handed; fed = fed; left = left; waiting = waiting; came = came; sent = sent; last = last; refusals = refusals; breaks = breaks; reads = reads; config = config }

pub is_sent : (role role2 : Role) (handed handed2 fed fed2 : List ℕ) (left left2 : ℕ) (out out2 piece : List ℕ) (came sent sent2 : List (List ℕ)) (last : LastResult) (refusals breaks : ℕ) (reads reads2 : List (Result Message Error)) (config config2 : WebSocketConfig) (b : List ℕ) → role2 ≡ role → handed2 ≡ handed → fed2 ≡ fed → left2 ≡ left → out2 ≡ out ++ piece → IsFrame role piece b → sent2 ≡ sent ++ b ∷ [] → reads2 ≡ reads → config2 ≡ config
    → IsSent b (made role handed fed left out came sent last refusals breaks reads config) (made role2 handed2 fed2 left2 out2 came sent2 last refusals breaks reads2 config2)
is_sent role role2 handed handed2 fed fed2 left left2 out out2 piece came sent sent2 last refusals breaks reads reads2 config config2 b r h f l o e s d k = record {
  piece = piece;
  frame = e;
  rest = (λ i. made (r i) (h i) (f i) (l i) (o i) came (s i) last refusals breaks (d i) (k i));
}

pub is_unsent : (role role2 : Role) (handed handed2 fed fed2 : List ℕ) (left left2 : ℕ) (out out2 : List ℕ) (came sent : List (List ℕ)) (last : LastResult) (refusals breaks : ℕ) (reads reads2 : List (Result Message Error)) (config config2 : WebSocketConfig) → role2 ≡ role → handed2 ≡ handed → fed2 ≡ fed → left2 ≡ left → out2 ≡ out → reads2 ≡ reads → config2 ≡ config
    → made role2 handed2 fed2 left2 out2 came sent last refusals breaks reads2 config2 ≡ made role handed fed left out came sent last refusals breaks reads config
is_unsent role role2 handed handed2 fed fed2 left left2 out out2 came sent last refusals breaks reads reads2 config config2 r h f l o d k = λ i. made (r i) (h i) (f i) (l i) (o i) came sent last refusals breaks (d i) (k i)

pub none_of : {A : Type 0} (o : Option A) → ((x : A) → o ≡ Some x → ⊥) → o ≡ None
none_of None h = refl
none_of (Some x) h = absurd (h x refl)
