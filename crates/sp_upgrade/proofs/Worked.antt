-- Computed rows: the sample opening of RFC 6455 section 1.3 as SP writes it, and what is wrong with similar heads.
use Rattle.std.proofs.Common.{◌≡◌, ℕ, true, List, [], ◌∷◌, ◌++◌, codes, length, Option, Some, None, refl}
use Rattle.httparse.specs.Grammar.{crlf, Field, RequestHead, print_request, ResponseHead}
use Rattle.base64.specs.Rfc4648.{encode_symbols}
use Rattle.base64.specs.Decode.{groups_error, scan_steps, groups_bytes}
use Rattle.std.specs.Fmt.{digits}
use Rattle.sha1.specs.Sha1.{first_words, schedule, rounds, compress, hash_after, digest_bytes, sha1}
use Rattle.sp_base.specs.declared.role.Role.TheVariants as roles
use Rattle.sp_upgrade.specs.declared.head.HeadFault.{HeadFault}
use Rattle.sp_upgrade.specs.declared.head.HeadFault.TheVariants as faults
use Rattle.httparse.specs.Grammar.{trim_ows}
use Rattle.sp_upgrade.specs.Lines.{same_word, tokens}
use Rattle.sp_upgrade.specs.Keys.{base64, is_key, accept_of}
use Rattle.sp_upgrade.specs.Texts.{host_text, request_text, answer_text}
use Rattle.sp_upgrade.specs.Opening.{request_fault, response_fault}

abbrev line : List ℕ → List ℕ → Field
line name value = record { name = name; raw = codes " " ++ value; end = crlf }

abbrev key : List ℕ
key = codes "dGhlIHNhbXBsZSBub25jZQ=="

-- the sample head, except for what is varied
abbrev request : List ℕ → List ℕ → ℕ → List Field → RequestHead
request method target minor fields = record { blank = []; method = method; target = target; minor = minor; line_end = crlf; fields = fields; last = crlf }

abbrev rest : List ℕ → List ℕ → List Field
rest version text = line (codes "Sec-WebSocket-Key") text ∷ line (codes "Sec-WebSocket-Version") version ∷ line (codes "Sec-WebSocket-Protocol") (codes "rep.sp.nanomsg.org") ∷ []

abbrev fields : List ℕ → List ℕ → List Field
fields version text = line (codes "Host") (codes "127.0.0.1:5555") ∷ line (codes "Upgrade") (codes "websocket") ∷ line (codes "Connection") (codes "Upgrade") ∷ rest version text

abbrev sample : RequestHead
sample = request (codes "GET") (codes "/") 1 (fields (codes "13") key)

abbrev fault : RequestHead → Option HeadFault
fault h = request_fault roles.Rep (codes "/") h

pub accept_sample : accept_of key ≡ codes "s3pPLMBiTxaQ9kYGzzhZRbK+xOo="
unfolding accept_of base64 encode_symbols first_words schedule rounds compress hash_after digest_bytes sha1
accept_sample = refl

pub key_sample : base64 (codes "the sample nonce") ≡ key
unfolding base64 encode_symbols
key_sample = refl

-- the client writes this head, of 197 bytes
pub head_sample : request_text roles.Rep (host_text 127 0 0 1 5555) (codes "/") (codes "the sample nonce") ≡ print_request sample
unfolding request_text base64 encode_symbols print_request digits
head_sample = refl

pub head_length : length (print_request sample) ≡ 197
unfolding print_request
head_length = refl

-- the answer has 173 bytes
pub answer_length : length (answer_text roles.Rep key) ≡ 173
unfolding answer_text accept_of base64 encode_symbols first_words schedule rounds compress hash_after digest_bytes sha1
answer_length = refl

-- tokens and words
pub tokens_sample : tokens (codes "h2c , WebSocket") ≡ codes "h2c" ∷ codes "WebSocket" ∷ []
unfolding tokens trim_ows
tokens_sample = refl

pub word_sample : same_word (codes "WebSocket") (codes "websocket") ≡ true
unfolding same_word
word_sample = refl

-- the sample has no fault, and its key is the one that is answered
pub good_sample : fault sample ≡ None
unfolding same_word tokens trim_ows is_key groups_error scan_steps groups_bytes
good_sample = refl

pub post_is_method : fault (request (codes "POST") (codes "/b") 0 (fields (codes "13") key)) ≡ Some faults.Method
post_is_method = refl

pub old_is_version : fault (request (codes "GET") (codes "/b") 0 (fields (codes "13") key)) ≡ Some faults.Version
old_is_version = refl

pub other_path : fault (request (codes "GET") (codes "/b") 1 (fields (codes "13") key)) ≡ Some faults.Path
other_path = refl

pub no_host : fault (request (codes "GET") (codes "/") 1 (rest (codes "13") key)) ≡ Some faults.Host
unfolding same_word
no_host = refl

pub version_before_key : fault (request (codes "GET") (codes "/") 1 (fields (codes "12") (codes "AAAA"))) ≡ Some faults.WsVersion
unfolding same_word tokens trim_ows
version_before_key = refl

pub short_key : fault (request (codes "GET") (codes "/") 1 (fields (codes "13") (codes "AAAA"))) ≡ Some faults.Key
unfolding same_word tokens trim_ows is_key groups_error scan_steps groups_bytes
short_key = refl

pub stray_bits : fault (request (codes "GET") (codes "/") 1 (fields (codes "13") (codes "dGhlIHNhbXBsZSBub25jZR=="))) ≡ Some faults.Key
unfolding same_word tokens trim_ows is_key groups_error scan_steps groups_bytes
stray_bits = refl

pub no_padding : fault (request (codes "GET") (codes "/") 1 (fields (codes "13") (codes "dGhlIHNhbXBsZSBub25jZQ"))) ≡ Some faults.Key
unfolding same_word tokens trim_ows is_key groups_error scan_steps groups_bytes
no_padding = refl

-- the client's side of the sample
abbrev answer : ℕ → List ℕ → List ℕ → ResponseHead
answer minor status accept = record { blank = []; minor = minor; digits = status; reason = Some (codes "Switching Protocols"); line_end = crlf; fields = line (codes "Upgrade") (codes "websocket") ∷ line (codes "Connection") (codes "Upgrade") ∷ line (codes "Sec-WebSocket-Accept") accept ∷ line (codes "Sec-WebSocket-Protocol") (codes "rep.sp.nanomsg.org") ∷ []; last = crlf }

abbrev found : ResponseHead → Option HeadFault
found h = response_fault roles.Req (codes "the sample nonce") h

pub old_answer : found (answer 0 (codes "200") (codes "x")) ≡ Some faults.Version
old_answer = refl

pub other_status : found (answer 1 (codes "200") (codes "x")) ≡ Some faults.Status
other_status = refl

pub other_accept : found (answer 1 (codes "101") (codes "x")) ≡ Some faults.Accept
unfolding same_word tokens trim_ows accept_of base64 encode_symbols first_words schedule rounds compress hash_after digest_bytes sha1
other_accept = refl

-- an extension is refused before another subprotocol is
pub an_extension : response_fault roles.Rep (codes "the sample nonce") (record (answer 1 (codes "101") (codes "s3pPLMBiTxaQ9kYGzzhZRbK+xOo=")) { fields = line (codes "sec-websocket-extensions") (codes "x") ∷ (answer 1 (codes "101") (codes "s3pPLMBiTxaQ9kYGzzhZRbK+xOo=")).fields }) ≡ Some faults.Extension
unfolding same_word tokens trim_ows accept_of base64 encode_symbols first_words schedule rounds compress hash_after digest_bytes sha1
an_extension = refl

pub good_answer : found (answer 1 (codes "101") (codes "s3pPLMBiTxaQ9kYGzzhZRbK+xOo=")) ≡ None
unfolding same_word tokens trim_ows accept_of base64 encode_symbols first_words schedule rounds compress hash_after digest_bytes sha1
good_answer = refl
