-- What opens a WebSocket, on both sides: the faults in their order, and what each call returns.
use Rattle.std.specs.Prelude.{◌≡◌, ◌≤◌, ◌⊎◌, ℕ, Bool, cond, not, ◌==◌, List, [], ◌∷◌, length, take, map, codes, bytes_eq, Option, None, Some}
use Rattle.httparse.specs.Grammar.{RequestHead, ReadsRequest, ResponseHead, ReadsResponse, status_code}
use Rattle.httparse.specs.Spans.{span_bytes, header_bytes}
use Rattle.httparse.specs.declared.spans.HeaderSpan.{HeaderSpan}
use Rattle.httparse.specs.declared.spans.RequestSpans.{RequestSpans}
use Rattle.httparse.specs.declared.spans.ResponseSpans.{ResponseSpans}
use Rattle.sp_base.specs.Roles.{role_peer}
use Rattle.sp_base.specs.declared.role.Role.{Role}
use Rattle.sp_upgrade.specs.declared.head.Head.{Head}
use Rattle.sp_upgrade.specs.declared.head.Head.TheVariants as heads
use Rattle.sp_upgrade.specs.declared.head.HeadFault.{HeadFault}
use Rattle.sp_upgrade.specs.declared.head.HeadFault.TheVariants as faults
use Rattle.sp_upgrade.specs.Blanks.{IsShort, IsTooLong, HasHead}
use Rattle.sp_upgrade.specs.Lines.{Lines, lines_of, values, has_line, sole, is_text, has_word, has_text}
use Rattle.sp_upgrade.specs.Keys.{base64, is_key_line, accept_of}
use Rattle.sp_upgrade.specs.Texts.{subprotocol, answer_text}

-- the maximum number of header lines
abbrev pub most_lines : ℕ
most_lines = 64

-- the first of the faults that holds
abbrev pub first_fault : List (HeadFault × Bool) → Option HeadFault
first_fault [] = None
first_fault (f ∷ fs) = cond f.1 (Some f.0) (first_fault fs)

-- the result for a whole head, by what is good of it with an answer and what is bad; out of memory only where it is
-- good
abbrev pub OfHead : (List ℕ → List ℕ → Type 0) → (List ℕ → HeadFault → Type 0) → Head → List ℕ → Type 0
OfHead IsGood IsBad heads.More head = ⊥
OfHead IsGood IsBad (heads.Good used answer) head = (used ≡ length head) × IsGood head answer
OfHead IsGood IsBad (heads.Bad fault) head = IsBad head fault
OfHead IsGood IsBad heads.NoMemory head = (answer : List ℕ) × IsGood head answer

-- the result for all that came
abbrev pub Answers : (List ℕ → List ℕ → Type 0) → (List ℕ → HeadFault → Type 0) → Head → List ℕ → Type 0
Answers IsGood IsBad heads.More came = IsShort came
Answers IsGood IsBad (heads.Good used answer) came = (head : List ℕ) × HasHead came head × (used ≡ length head) × IsGood head answer
Answers IsGood IsBad (heads.Bad fault) came = ((fault ≡ faults.TooLong) × IsTooLong came) ⊎ ((head : List ℕ) × HasHead came head × IsBad head fault)
Answers IsGood IsBad heads.NoMemory came = (head : List ℕ) × HasHead came head × ((answer : List ℕ) × IsGood head answer)

-- there is only one result, except when out of memory
abbrev pub AreOne : (Head → Type 0) → Type 0
AreOne IsAnswer = (a b : Head) → IsAnswer a → IsAnswer b → (a ≡ heads.NoMemory → ⊥) → (b ≡ heads.NoMemory → ⊥) → a ≡ b

-- ---- the server's side, for a listening socket of this role at this path

abbrev pub server_faults : Role → List ℕ → List ℕ → ℕ → List ℕ → Lines → List (HeadFault × Bool)
server_faults role path method minor target lines =
    (faults.Method, not (bytes_eq method (codes "GET")))
    ∷ (faults.Version, not (minor == 1))
    ∷ (faults.Path, not (bytes_eq target path))
    ∷ (faults.Host, not (has_line (codes "Host") lines))
    ∷ (faults.Upgrade, not (has_word (codes "websocket") (values (codes "Upgrade") lines)))
    ∷ (faults.Connection, not (has_word (codes "upgrade") (values (codes "Connection") lines)))
    ∷ (faults.WsVersion, not (is_text (sole (values (codes "Sec-WebSocket-Version") lines)) (codes "13")))
    ∷ (faults.Key, not (is_key_line (sole (values (codes "Sec-WebSocket-Key") lines))))
    ∷ (faults.Protocol, not (has_text (subprotocol role) (values (codes "Sec-WebSocket-Protocol") lines)))
    ∷ []

-- the head parses to this tree, as a whole, with few enough lines
abbrev pub IsRequest : List ℕ → RequestHead → Type 0
IsRequest head h = ReadsRequest head h [] × (length h.fields ≤ most_lines)

abbrev pub request_fault : Role → List ℕ → RequestHead → Option HeadFault
request_fault role path h = first_fault (server_faults role path h.method h.minor h.target (lines_of h.fields))

-- the same for a head whose parts are at these places
abbrev pub request_fault_at : Role → List ℕ → List ℕ → RequestSpans → List HeaderSpan → Option HeadFault
request_fault_at role path head r spans =
    first_fault (server_faults role path (span_bytes head r.method) r.version (span_bytes head r.path) (map (header_bytes head) (take r.headers spans)))

abbrev pub request_key : RequestHead → Option (List ℕ)
request_key h = sole (values (codes "Sec-WebSocket-Key") (lines_of h.fields))

-- a head without a fault, and its answer
pub record GoodRequest (role : Role) (path head answer : List ℕ) : Type 0 where
  pub h : RequestHead
  pub is : IsRequest head h
  pub none : request_fault role path h ≡ None
  pub key : List ℕ
  pub key_is : request_key h ≡ Some key
  pub answer_is : answer ≡ answer_text role key

-- a head with this fault
abbrev pub BadRequest : Role → List ℕ → List ℕ → HeadFault → Type 0
BadRequest role path head fault =
    ((fault ≡ faults.NotHttp) × ((h : RequestHead) → IsRequest head h → ⊥))
    ⊎ ((h : RequestHead) × IsRequest head h × (request_fault role path h ≡ Some fault))

abbrev pub ServerAnswers : Head → List ℕ → Role → List ℕ → Type 0
ServerAnswers answer came role path = Answers (GoodRequest role path) (BadRequest role path) answer came

-- ---- the client's side, for a dialing socket of this role that wrote these 16 bytes of key

abbrev pub client_faults : Role → List ℕ → ℕ → ℕ → Lines → List (HeadFault × Bool)
client_faults role nonce minor status lines =
    (faults.Version, not (minor == 1))
    ∷ (faults.Status, not (status == 101))
    ∷ (faults.Upgrade, not (has_word (codes "websocket") (values (codes "Upgrade") lines)))
    ∷ (faults.Connection, not (has_word (codes "upgrade") (values (codes "Connection") lines)))
    ∷ (faults.Accept, not (is_text (sole (values (codes "Sec-WebSocket-Accept") lines)) (accept_of (base64 nonce))))
    ∷ (faults.Extension, has_line (codes "Sec-WebSocket-Extensions") lines)
    ∷ (faults.Protocol, not (is_text (sole (values (codes "Sec-WebSocket-Protocol") lines)) (subprotocol (role_peer role))))
    ∷ []

abbrev pub IsResponse : List ℕ → ResponseHead → Type 0
IsResponse head h = ReadsResponse head h [] × (length h.fields ≤ most_lines)

abbrev pub response_fault : Role → List ℕ → ResponseHead → Option HeadFault
response_fault role nonce h = first_fault (client_faults role nonce h.minor (status_code h) (lines_of h.fields))

-- the same for a head whose parts are at these places
abbrev pub response_fault_at : Role → List ℕ → List ℕ → ResponseSpans → List HeaderSpan → Option HeadFault
response_fault_at role nonce head r spans = first_fault (client_faults role nonce r.version r.code (map (header_bytes head) (take r.headers spans)))

pub record GoodResponse (role : Role) (nonce head answer : List ℕ) : Type 0 where
  pub h : ResponseHead
  pub is : IsResponse head h
  pub none : response_fault role nonce h ≡ None
  pub answer_is : answer ≡ []

abbrev pub BadResponse : Role → List ℕ → List ℕ → HeadFault → Type 0
BadResponse role nonce head fault =
    ((fault ≡ faults.NotHttp) × ((h : ResponseHead) → IsResponse head h → ⊥))
    ⊎ ((h : ResponseHead) × IsResponse head h × (response_fault role nonce h ≡ Some fault))

abbrev pub ClientAnswers : Head → List ℕ → List ℕ → Role → Type 0
ClientAnswers answer came nonce role = Answers (GoodResponse role nonce) (BadResponse role nonce) answer came
