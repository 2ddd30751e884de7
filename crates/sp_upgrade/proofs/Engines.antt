-- What the calls of base64 give.
use Rattle.std.proofs.Common.{◌≡◌, ◌≤◌, ℕ, Bool, true, false, List, ◌++◌, length, take, drop, Result, Ok, Err, OnOk, refl, sym, ap, subst, ◌∙◌, append-nil, arith, replicate, ◌==◌}
use Rattle.std.proofs.lemmas.List.{drop_all, length-append, length-take}
use Rattle.std.proofs.lemmas.Bool.Decides.{nat_tests}
use Rattle.base64.specs.declared.decode.DecodeError.{DecodeError}
use Rattle.base64.specs.Rfc4648.{encode_symbols, padding_len}
use Rattle.base64.proofs.RoundTrip.{length-encode_symbols}
use Rattle.base64.specs.Engines.{standard}
use Rattle.base64.specs.GeneralPurpose.{encode_of, decode_of, IsBytes}
use Rattle.base64.proofs.EngineFacts.{decode_of_strict, decode_of-encode_of}
use Rattle.sp_upgrade.specs.Keys.{base64, IsKey, is_nonce, is_key}

-- the encoding fills a buffer of its own size
pub output_is_encoded : {E : Type 0} (encoded old new : List ℕ) (size : ℕ) (r : Result ℕ E) → size ≡ length old → (size ≤ length old → r ≡ Ok size) → OnOk r (new ≡ encoded ++ drop size old) → new ≡ encoded
output_is_encoded encoded old new size r same fits written =
    subst (λ x. OnOk x (new ≡ encoded ++ drop size old)) (fits (omega (arith, same))) written
    ∙ rw (drop_all size old (omega (arith, same)), append-nil)

-- a result that is the bytes of a key
nonce_in : (r : Result (List ℕ) DecodeError) → is_nonce r ≡ true → (b : List ℕ) × (r ≡ Ok b) × (length b ≡ 16)
nonce_in (Ok b) test = (b, refl, grind (arith, nat_tests, test))
nonce_in (Err e) test = cc test

-- the length of a key's text
pub key_size : (b : List ℕ) → length b ≡ 16 → length (encode_of standard b) ≡ 24
key_size b e =
    let pad : length {A = ℕ} (replicate (padding_len (length b)) 61) ≡ 2 = rw e refl in
    let symbols : length (encode_symbols standard.encode_table b) ≡ 22 = length-encode_symbols standard.encode_table b ∙ rw e refl in
    omega (arith, length-append {A = ℕ} (encode_symbols standard.encode_table b) (replicate (padding_len (length b)) 61), pad, symbols)

pub key_long : (text : List ℕ) → IsBytes text → is_key text ≡ true → length text ≡ 24
unfolding is_key
key_long text small e =
    let r = nonce_in (decode_of standard text) e in
    ap length (decode_of_strict standard text r.0 (refl, refl) small r.1) ∙ key_size r.0 r.2

-- a text of another length is not a key
pub no_key : (text : List ℕ) → IsBytes text → (length text ≡ 24 → ⊥) → false ≡ is_key text
no_key text small other = by_test (is_key text) refl
  where
    by_test : (t : Bool) → is_key text ≡ t → false ≡ is_key text
    by_test true is = absurd (other (key_long text small is))
    by_test false is = sym is

pub decoded_count : (text b : List ℕ) (count : ℕ) → count ≤ length b → decode_of standard text ≡ Ok (take count b) → (count == 16) ≡ is_key text
unfolding is_key
decoded_count text b count le e =
    let long : length (take count b) ≡ count = omega (arith, length-take count b, le) in
    sym (ap is_nonce e ∙ ap (λ (n : ℕ). n == 16) long)

pub not_decoded : (text : List ℕ) (why : DecodeError) → decode_of standard text ≡ Err why → false ≡ is_key text
unfolding is_key
not_decoded text why e = sym (ap is_nonce e)

-- what the encoder makes of 16 bytes is a key
pub encoded_is_key : (text : List ℕ) → IsKey text → is_key text ≡ true
unfolding is_key base64
encoded_is_key text k = ap (λ (t : List ℕ). is_nonce (decode_of standard t)) k.is ∙ ap is_nonce (decode_of-encode_of standard k.nonce refl k.small) ∙ ap (λ (n : ℕ). n == 16) k.long
