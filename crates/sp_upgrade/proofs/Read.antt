-- The result for a head that was read.
use Rattle.std.proofs.Common.{◌≡◌, ◌≤◌, ℕ, zero, suc, Bool, true, false, cond, not, List, [], ◌∷◌, length, take, map, codes, Option, None, Some, refl, sym, ap, subst, ◌∙◌, inr, arith}
use Rattle.std.proofs.lemmas.List.{drop_all}
use Rattle.std.specs.List.{slice_get}
use Rattle.httparse.specs.declared.spans.HeaderSpan.{HeaderSpan}
use Rattle.httparse.specs.declared.spans.RequestSpans.{RequestSpans}
use Rattle.httparse.specs.declared.spans.ResponseSpans.{ResponseSpans}
use Rattle.httparse.specs.Grammar.{RequestHead, ReadsRequest, ResponseHead, ReadsResponse}
use Rattle.httparse.specs.Spans.{span_bytes, header_bytes, name_and_value, IsRequestAt, IsResponseAt}
use Rattle.std.proofs.lemmas.List.{length-map, length-take}
use Rattle.sp_base.specs.declared.role.Role.{Role}
use Rattle.sp_upgrade.specs.declared.head.HeadFault.{HeadFault}
use Rattle.sp_upgrade.specs.declared.head.HeadFault.TheVariants as faults
use Rattle.sp_upgrade.specs.Lines.{lines_of, values, sole}
use Rattle.sp_upgrade.specs.Keys.{is_key_line}
use Rattle.sp_upgrade.specs.Texts.{answer_text}
use Rattle.sp_upgrade.specs.Opening.{first_fault, server_faults, client_faults, IsRequest, IsResponse, request_fault, response_fault, request_key, GoodRequest, BadRequest, GoodResponse, BadResponse}

-- no more lines than the room for them
few : (head : List ℕ) (spans : List HeaderSpan) (count n : ℕ) (fields : List (List ℕ × List ℕ)) → map (header_bytes head) (take count spans) ≡ fields → length spans ≡ n → length fields ≤ n
few head spans count n fields e long = omega (arith, ap length e, length-map (take count spans) (header_bytes head), length-take count spans, long)

-- ---- requests

request_is : (head : List ℕ) (spans : List HeaderSpan) (r : RequestSpans) (h : RequestHead) → IsRequestAt head spans r h → r.len ≡ length head → length spans ≡ 64 → IsRequest head h
request_is head spans r h at whole room = (
  subst (λ rest. ReadsRequest head h rest) (drop_all r.len head (omega (arith, whole))) at.reads,
  omega (arith, few head spans r.headers 64 (map name_and_value h.fields) at.fields room, length-map h.fields name_and_value),
)

-- the faults of the spans are those of the tree
request_faults : (role : Role) (path head : List ℕ) (spans : List HeaderSpan) (r : RequestSpans) (h : RequestHead) → IsRequestAt head spans r h → first_fault (server_faults role path (span_bytes head r.method) r.version (span_bytes head r.path) (map (header_bytes head) (take r.headers spans))) ≡ request_fault role path h
request_faults role path head spans r h at = λ i. first_fault (server_faults role path (at.method i) (at.version i) (at.path i) (at.fields i))

pub bad_request : (role : Role) (path head : List ℕ) (spans : List HeaderSpan) (r : RequestSpans) (h : RequestHead) (fault : HeadFault) (found : Option HeadFault) → IsRequestAt head spans r h → r.len ≡ length head → length spans ≡ 64
    → found ≡ first_fault (server_faults role path (span_bytes head r.method) r.version (span_bytes head r.path) (map (header_bytes head) (take r.headers spans))) → found ≡ Some fault → BadRequest role path head fault
bad_request role path head spans r h fault found at whole room is some =
    inr (h, request_is head spans r h at whole room, sym (request_faults role path head spans r h at) ∙ sym is ∙ some)

-- where no fault holds there is one key
key_there : (o : Option (List ℕ)) → is_key_line o ≡ true → (key : List ℕ) × (o ≡ Some key)
key_there None e = absurd (cc e)
key_there (Some key) e = (key, refl)

no_none : (fault : HeadFault) → Some fault ≡ None → ⊥
no_none fault e = cc e

none_past : (f : HeadFault × Bool) (fs : List (HeadFault × Bool)) → first_fault (f ∷ fs) ≡ None → (f.1 ≡ false) × (first_fault fs ≡ None)
none_past f fs e = by_test f.1 refl
  where
    by_test : (t : Bool) → f.1 ≡ t → (f.1 ≡ false) × (first_fault fs ≡ None)
    by_test true is = absurd (no_none f.0 (sym (ap (λ (b : Bool). cond b (Some f.0) (first_fault fs)) is) ∙ e))
    by_test false is = (is, sym (ap (λ (b : Bool). cond b (Some f.0) (first_fault fs)) is) ∙ e)

not_false : (b : Bool) → not b ≡ false → b ≡ true
not_false true e = refl
not_false false e = absurd (cc e)

none_at : (fs : List (HeadFault × Bool)) (i : ℕ) (f : HeadFault × Bool) → first_fault fs ≡ None → slice_get fs i ≡ Some f → f.1 ≡ false
none_at [] i f none e = absurd (cc e)
none_at (g ∷ gs) zero f none e =
    let same : g ≡ f = cc e in
    subst (λ (x : HeadFault × Bool). x.1 ≡ false) same (none_past g gs none).0
none_at (g ∷ gs) (suc i) f none e = none_at gs i f (none_past g gs none).1 e

pub key_of : (role : Role) (path : List ℕ) (h : RequestHead) → request_fault role path h ≡ None → (key : List ℕ) × (request_key h ≡ Some key)
key_of role path h none = key_there (request_key h) (not_false _ (none_at (server_faults role path h.method h.minor h.target (lines_of h.fields)) 7 (faults.Key, not (is_key_line (request_key h))) none refl))

pub none_of : {A : Type 0} (o : Option A) → ((x : A) → o ≡ Some x → ⊥) → o ≡ None
none_of None h = refl
none_of (Some x) h = absurd (h x refl)

pub good_request : (role : Role) (path head : List ℕ) (spans : List HeaderSpan) (r : RequestSpans) (h : RequestHead) (found : Option HeadFault) (key answer : List ℕ) → IsRequestAt head spans r h → r.len ≡ length head → length spans ≡ 64
    → found ≡ first_fault (server_faults role path (span_bytes head r.method) r.version (span_bytes head r.path) (map (header_bytes head) (take r.headers spans))) → found ≡ None
    → Some key ≡ sole (values (codes "Sec-WebSocket-Key") (map (header_bytes head) (take r.headers spans))) → answer ≡ answer_text role key → GoodRequest role path head answer
good_request role path head spans r h found key answer at whole room is none key_is answer_is = record {
  h = h;
  is = request_is head spans r h at whole room;
  none = sym (request_faults role path head spans r h at) ∙ sym is ∙ none;
  key = key;
  key_is = sym (key_is ∙ ap (λ (ls : List (List ℕ × List ℕ)). sole (values (codes "Sec-WebSocket-Key") ls)) at.fields);
  answer_is = answer_is;
}

pub no_key_left : (role : Role) (path head : List ℕ) (spans : List HeaderSpan) (r : RequestSpans) (h : RequestHead) (found : Option HeadFault) → IsRequestAt head spans r h
    → found ≡ first_fault (server_faults role path (span_bytes head r.method) r.version (span_bytes head r.path) (map (header_bytes head) (take r.headers spans))) → found ≡ None
    → None ≡ sole (values (codes "Sec-WebSocket-Key") (map (header_bytes head) (take r.headers spans))) → ⊥
no_key_left role path head spans r h found at is none lost =
    let k = key_of role path h (sym (request_faults role path head spans r h at) ∙ sym is ∙ none) in
    let clash : None ≡ Some k.0 = lost ∙ ap (λ (ls : List (List ℕ × List ℕ)). sole (values (codes "Sec-WebSocket-Key") ls)) at.fields ∙ k.1 in
    cc clash

-- ---- responses

response_is : (head : List ℕ) (spans : List HeaderSpan) (r : ResponseSpans) (h : ResponseHead) → IsResponseAt head spans r h → r.len ≡ length head → length spans ≡ 64 → IsResponse head h
response_is head spans r h at whole room = (
  subst (λ rest. ReadsResponse head h rest) (drop_all r.len head (omega (arith, whole))) at.reads,
  omega (arith, few head spans r.headers 64 (map name_and_value h.fields) at.fields room, length-map h.fields name_and_value),
)

response_faults : (role : Role) (nonce head : List ℕ) (spans : List HeaderSpan) (r : ResponseSpans) (h : ResponseHead) → IsResponseAt head spans r h → first_fault (client_faults role nonce r.version r.code (map (header_bytes head) (take r.headers spans))) ≡ response_fault role nonce h
response_faults role nonce head spans r h at = λ i. first_fault (client_faults role nonce (at.version i) (at.code i) (at.fields i))

pub bad_response : (role : Role) (nonce head : List ℕ) (spans : List HeaderSpan) (r : ResponseSpans) (h : ResponseHead) (fault : HeadFault) (found : Option HeadFault) → IsResponseAt head spans r h → r.len ≡ length head → length spans ≡ 64
    → found ≡ first_fault (client_faults role nonce r.version r.code (map (header_bytes head) (take r.headers spans))) → found ≡ Some fault → BadResponse role nonce head fault
bad_response role nonce head spans r h fault found at whole room is some =
    inr (h, response_is head spans r h at whole room, sym (response_faults role nonce head spans r h at) ∙ sym is ∙ some)

pub good_response : (role : Role) (nonce head : List ℕ) (spans : List HeaderSpan) (r : ResponseSpans) (h : ResponseHead) (found : Option HeadFault) (answer : List ℕ) → IsResponseAt head spans r h → r.len ≡ length head → length spans ≡ 64
    → found ≡ first_fault (client_faults role nonce r.version r.code (map (header_bytes head) (take r.headers spans))) → found ≡ None → answer ≡ [] → GoodResponse role nonce head answer
good_response role nonce head spans r h found answer at whole room is none answer_is = record {
  h = h;
  is = response_is head spans r h at whole room;
  none = sym (response_faults role nonce head spans r h at) ∙ sym is ∙ none;
  answer_is = answer_is;
}
