-- How links of a run begin, over TCP, IPC and WebSocket.
use Rattle.std.specs.Prelude.{◌≡◌, ◌<◌, ℕ, ⊤, List, [], length}
use Rattle.sp_base.specs.Outside.{IsPrefix}
use Rattle.sp_base.specs.SpTcp.{hello, IsBadGreeting}
use Rattle.sp_base.specs.SpStream.{scheme_under}
use Rattle.sp_base.specs.Roles.{role_number, role_peer}
use Rattle.sp_base.specs.declared.role.Role.{Role}
use Rattle.sp_base.specs.declared.addr.Scheme.{Scheme}
use Rattle.sp_base.specs.declared.addr.Scheme.TheVariants as schemes
use Rattle.sp_upgrade.specs.Blanks.{IsShort}
use Rattle.sp_upgrade.specs.Opening.{ServerAnswers, ClientAnswers}
use Rattle.sp_upgrade.specs.Texts.{Dials, IsDialed, request_text}
use Rattle.sp_upgrade.specs.declared.head.Head.{Head}
use Rattle.sp_upgrade.specs.declared.head.Head.TheVariants as heads
use Rattle.sp_upgrade.specs.declared.head.HeadFault.{HeadFault}
use Rattle.sp_links.specs.Ways.{Ways, peer_number}
use Rattle.sp_links.specs.declared.way.Way.{Way}
use Rattle.sp_links.specs.declared.way.Way.TheVariants as ways
use Rattle.sp_links.specs.declared.judge.PeerPart.{PeerPart}
use Rattle.sp_links.specs.declared.judge.PeerPart.TheVariants as parts
use Rattle.sp_links.specs.Keys.{key_of}

-- the scheme of the links that begin in this way
abbrev pub scheme_for : Way → Scheme
scheme_for (ways.Greeting framing) = scheme_under framing
scheme_for (ways.Serves path) = schemes.Ws
scheme_for (ways.Asks addr start) = schemes.Ws

-- an address that is asked has one host
abbrev pub CanBegin : Way → Type 0
CanBegin (ways.Greeting framing) = ⊤
CanBegin (ways.Serves path) = ⊤
CanBegin (ways.Asks addr start) = IsDialed addr

-- the request for this address
abbrev pub IsRequestFor : Role → Way → List ℕ → Type 0
IsRequestFor role (ways.Greeting framing) text = ⊥
IsRequestFor role (ways.Serves path) text = ⊥
IsRequestFor role (ways.Asks addr start) text = (host : List ℕ) × (path : List ℕ) × Dials addr host path × (text ≡ request_text (role_peer role) host path (key_of start))

-- ---- What has to come, and what has to be written

-- what came is a part of the peer's part
abbrev pub IsMore : Role → Way → List ℕ → Type 0
IsMore role (ways.Greeting framing) came = IsPrefix came (hello (peer_number role)) × (length came < 8)
IsMore role (ways.Serves path) came = IsShort came
IsMore role (ways.Asks addr start) came = IsShort came

-- the first `used` bytes that came are the peer's part, whole and right, and this is to be written for it
abbrev pub OpensWith : Role → Way → ℕ → List ℕ → List ℕ → Type 0
OpensWith role (ways.Greeting framing) used answer came = (used ≡ 8) × (answer ≡ []) × IsPrefix (hello (peer_number role)) came
OpensWith role (ways.Serves path) used answer came = ServerAnswers (heads.Good used answer) came role path
OpensWith role (ways.Asks addr start) used answer came = ClientAnswers (heads.Good used answer) came (key_of start) role

-- what came begins with the peer's part, and that is right
abbrev pub IsGood : Role → Way → List ℕ → Type 0
IsGood role (ways.Greeting framing) came = IsPrefix (hello (peer_number role)) came
IsGood role (ways.Serves path) came = (used : ℕ) × (answer : List ℕ) × ServerAnswers (heads.Good used answer) came role path
IsGood role (ways.Asks addr start) came = (used : ℕ) × (answer : List ℕ) × ClientAnswers (heads.Good used answer) came (key_of start) role

-- what came is wrong, whatever follows
abbrev pub IsBad : Role → Way → List ℕ → Type 0
IsBad role (ways.Greeting framing) came = IsBadGreeting (peer_number role) came
IsBad role (ways.Serves path) came = (fault : HeadFault) × ServerAnswers (heads.Bad fault) came role path
IsBad role (ways.Asks addr start) came = (fault : HeadFault) × ClientAnswers (heads.Bad fault) came (key_of start) role

-- what is to be written before anything came
abbrev pub Begins : Role → Way → List ℕ → Type 0
Begins role (ways.Greeting framing) text = text ≡ hello (role_number role)
Begins role (ways.Serves path) text = text ≡ []
Begins role (ways.Asks addr start) text = IsRequestFor role (ways.Asks addr start) text

-- all that is owed, once this came: the greeting, the response to a right request, the request
abbrev pub Owes : Role → Way → List ℕ → List ℕ → Type 0
Owes role (ways.Greeting framing) came owed = owed ≡ hello (role_number role)
Owes role (ways.Serves path) came owed = (used : ℕ) × ServerAnswers (heads.Good used owed) came role path
Owes role (ways.Asks addr start) came owed = IsRequestFor role (ways.Asks addr start) owed

-- the ways in which links of a run of this role begin: all, or only some, such as those of its addresses
abbrev pub openings : Role → (Way → Type 0) → Ways
openings role IsKnown =
    record { Way = Way; IsOf = λ scheme way. (scheme ≡ scheme_for way) × IsKnown way; IsGood = λ way came. IsGood role way came; IsBad = λ way came. IsBad role way came; Owes = λ way came owed. Owes role way came owed }

-- ---- Judging

abbrev pub Judges : Role → Way → PeerPart → List ℕ → Type 0
Judges role way parts.More came = IsMore role way came
Judges role way (parts.Good used answer) came = OpensWith role way used answer came
Judges role way parts.Bad came = IsBad role way came
Judges role way parts.NoMemory came = ⊤

-- the same answer
abbrev pub PartOf : Head → PeerPart → Type 0
PartOf heads.More part = part ≡ parts.More
PartOf (heads.Good used answer) part = part ≡ parts.Good used answer
PartOf (heads.Bad fault) part = part ≡ parts.Bad
PartOf heads.NoMemory part = part ≡ parts.NoMemory
