-- There is one result for the bytes that came, except when out of memory.
use Rattle.std.proofs.Common.{◌≡◌, ℕ, List, [], length, take, Option, Some, None, refl, sym, ap, subst, ◌∙◌, inl, inr, arith}
use Rattle.std.proofs.lemmas.List.{take_all}
use Rattle.std.proofs.lemmas.Bool.Decides.{leb_tells}
use Rattle.httparse.specs.Grammar.{RequestHead, ResponseHead}
use Rattle.httparse.proofs.GrammarLemmas.{request_unique, response_unique}
use Rattle.sp_base.specs.declared.role.Role.{Role}
use Rattle.sp_upgrade.specs.declared.head.Head.{Head}
use Rattle.sp_upgrade.specs.declared.head.Head.TheVariants as heads
use Rattle.sp_upgrade.specs.declared.head.HeadFault.{HeadFault}
use Rattle.sp_upgrade.specs.Blanks.{most, IsBlankAt, EndsAt, HasHead, IsShort, IsTooLong}
use Rattle.sp_upgrade.specs.Texts.{answer_text}
use Rattle.sp_upgrade.specs.Opening.{Answers, ServerAnswers, ClientAnswers, IsRequest, IsResponse, request_fault, request_key, response_fault, GoodRequest, BadRequest, GoodResponse, BadResponse}

-- ---- one head

same_place : (s : List ℕ) (a b : ℕ) (x : EndsAt s a) (y : EndsAt s b) → x.at ≡ y.at
same_place s a b x y = elim (leb_tells x.at y.at) [
  | inl p ↦ elim (leb_tells y.at x.at) [
    | inl q ↦ omega (arith, p.1, q.1)
    | inr q ↦ absurd (y.first x.at q.1 x.blank)
  ]
  | inr p ↦ absurd (x.first y.at p.1 y.blank)
]

same_end : (s : List ℕ) (a b : ℕ) → EndsAt s a → EndsAt s b → a ≡ b
same_end s a b x y = omega (arith, x.used_is, y.used_is, same_place s a b x y)

one_head : (came h k : List ℕ) → HasHead came h → HasHead came k → h ≡ k
one_head came h k x y = x.head_is ∙ ap (λ (n : ℕ). take n came) (same_end (take most came) x.used y.used x.ends y.ends) ∙ sym y.head_is

not_long : (came h : List ℕ) → HasHead came h → IsTooLong came → ⊥
not_long came h x l = l.1 x.ends.at x.ends.blank

not_short : (came h : List ℕ) → HasHead came h → IsShort came → ⊥
not_short came h x s =
    let same : take most came ≡ came = take_all most came (omega (arith, s.0)) in
    s.1 x.ends.at (subst (λ (y : List ℕ). IsBlankAt y x.ends.at) same x.ends.blank)

short_long : (came : List ℕ) → IsShort came → IsTooLong came → ⊥
short_long came s l = omega (arith, s.0, l.0)

-- ---- one result

-- what is good of a head has one result, and is never bad; what is bad of it has one fault
pub record IsOneAnswer (IsGood : List ℕ → List ℕ → Type 0) (IsBad : List ℕ → HeadFault → Type 0) : Type 0 where
  pub good : (head a b : List ℕ) → IsGood head a → IsGood head b → a ≡ b
  pub apart : (head a : List ℕ) (f : HeadFault) → IsGood head a → IsBad head f → ⊥
  bad : (head : List ℕ) (f g : HeadFault) → IsBad head f → IsBad head g → f ≡ g

module _ (IsGood : List ℕ → List ℕ → Type 0) (IsBad : List ℕ → HeadFault → Type 0) where
  good_good : IsOneAnswer IsGood IsBad → (came : List ℕ) (n m : ℕ) (a b h k : List ℕ) → HasHead came h → HasHead came k → n ≡ length h → m ≡ length k → IsGood h a → IsGood k b → heads.Good n a ≡ heads.Good m b
  good_good one came n m a b h k x y nh mk ga gb =
      let same = one_head came h k x y in
      let count : n ≡ m = nh ∙ ap length same ∙ sym mk in
      let text : a ≡ b = one.good k a b (subst (λ (t : List ℕ). IsGood t a) same ga) gb in
      λ i. heads.Good (count i) (text i)

  good_bad : IsOneAnswer IsGood IsBad → (came a h k : List ℕ) (f : HeadFault) → HasHead came h → HasHead came k → IsGood h a → IsBad k f → ⊥
  good_bad one came a h k f x y ga bf = one.apart k a f (subst (λ (t : List ℕ). IsGood t a) (one_head came h k x y) ga) bf

  bad_bad : IsOneAnswer IsGood IsBad → (came h k : List ℕ) (f g : HeadFault) → HasHead came h → HasHead came k → IsBad h f → IsBad k g → f ≡ g
  bad_bad one came h k f g x y bf bg = one.bad k f g (subst (λ (t : List ℕ). IsBad t f) (one_head came h k x y) bf) bg

  pub same_answer : IsOneAnswer IsGood IsBad → (came : List ℕ) (a b : Head) → Answers IsGood IsBad a came → Answers IsGood IsBad b came → (a ≡ heads.NoMemory → ⊥) → (b ≡ heads.NoMemory → ⊥) → a ≡ b
  same_answer one came heads.More heads.More x y p q = refl
  same_answer one came heads.More (heads.Good n a) x y p q = absurd (not_short came y.0 y.1 x)
  same_answer one came heads.More (heads.Bad f) x y p q = elim y [ inl l ↦ absurd (short_long came x l.1) | inr r ↦ absurd (not_short came r.0 r.1 x) ]
  same_answer one came (heads.Good n a) heads.More x y p q = absurd (not_short came x.0 x.1 y)
  same_answer one came (heads.Good n a) (heads.Good m b) x y p q = good_good one came n m a b x.0 y.0 x.1 y.1 x.2 y.2 x.3 y.3
  same_answer one came (heads.Good n a) (heads.Bad f) x y p q = elim y [ inl l ↦ absurd (not_long came x.0 x.1 l.1) | inr r ↦ absurd (good_bad one came a x.0 r.0 f x.1 r.1 x.3 r.2) ]
  same_answer one came (heads.Bad f) heads.More x y p q = elim x [ inl l ↦ absurd (short_long came y l.1) | inr r ↦ absurd (not_short came r.0 r.1 y) ]
  same_answer one came (heads.Bad f) (heads.Good n a) x y p q = elim x [ inl l ↦ absurd (not_long came y.0 y.1 l.1) | inr r ↦ absurd (good_bad one came a y.0 r.0 f y.1 r.1 y.3 r.2) ]
  same_answer one came (heads.Bad f) (heads.Bad g) x y p q = elim x [
    | inl l ↦ elim y [
      | inl m ↦ ap (λ (t : HeadFault). heads.Bad t) (l.0 ∙ sym m.0)
      | inr r ↦ absurd (not_long came r.0 r.1 l.1)
    ]
    | inr r ↦ elim y [
      | inl m ↦ absurd (not_long came r.0 r.1 m.1)
      | inr s ↦ ap (λ (t : HeadFault). heads.Bad t) (bad_bad one came r.0 s.0 f g r.1 s.1 r.2 s.2)
    ]
  ]
  same_answer one came heads.NoMemory b x y p q = absurd (p refl)
  same_answer one came a heads.NoMemory x y p q = absurd (q refl)

-- ---- for both sides

same_some : {A : Type 0} (o : Option A) (a b : A) → o ≡ Some a → o ≡ Some b → a ≡ b
same_some o a b x y =
    let both : Some a ≡ Some b = sym x ∙ y in
    cc both

none_some : {A : Type 0} (o : Option A) (a : A) → o ≡ None → o ≡ Some a → ⊥
none_some o a x y =
    let both : None ≡ Some a = sym x ∙ y in
    cc both

one_request : (head : List ℕ) (h k : RequestHead) → IsRequest head h → IsRequest head k → h ≡ k
one_request head h k x y = (request_unique head h k [] [] x.0 y.0).0

server_one : (role : Role) (path : List ℕ) → IsOneAnswer (GoodRequest role path) (BadRequest role path)
server_one role path = record {
  good = (λ head a b x y.
      let same = one_request head x.h y.h x.is y.is in
      x.answer_is ∙ ap (answer_text role) (same_some (request_key y.h) x.key y.key (ap request_key (sym same) ∙ x.key_is) y.key_is) ∙ sym y.answer_is);
  apart = (λ head a f x y. elim y [
    | inl l ↦ l.1 x.h x.is
    | inr r ↦ none_some (request_fault role path r.0) f (ap (request_fault role path) (one_request head r.0 x.h r.1 x.is) ∙ x.none) r.2
  ]);
  bad = (λ head f g x y. elim x [
    | inl l ↦ elim y [ inl m ↦ l.0 ∙ sym m.0 | inr r ↦ absurd (l.1 r.0 r.1) ]
    | inr r ↦ elim y [
      | inl m ↦ absurd (m.1 r.0 r.1)
      | inr s ↦ same_some (request_fault role path s.0) f g (ap (request_fault role path) (one_request head s.0 r.0 s.1 r.1) ∙ r.2) s.2
    ]
  ]);
}

pub one_server_answer : (role : Role) (path came : List ℕ) (a b : Head) → ServerAnswers a came role path → ServerAnswers b came role path → (a ≡ heads.NoMemory → ⊥) → (b ≡ heads.NoMemory → ⊥) → a ≡ b
one_server_answer role path came a b x y p q = same_answer (GoodRequest role path) (BadRequest role path) (server_one role path) came a b x y p q

one_response : (head : List ℕ) (h k : ResponseHead) → IsResponse head h → IsResponse head k → h ≡ k
one_response head h k x y = (response_unique head h k [] [] x.0 y.0).0

client_one : (role : Role) (nonce : List ℕ) → IsOneAnswer (GoodResponse role nonce) (BadResponse role nonce)
client_one role nonce = record {
  good = (λ head a b x y. x.answer_is ∙ sym y.answer_is);
  apart = (λ head a f x y. elim y [
    | inl l ↦ l.1 x.h x.is
    | inr r ↦ none_some (response_fault role nonce r.0) f (ap (response_fault role nonce) (one_response head r.0 x.h r.1 x.is) ∙ x.none) r.2
  ]);
  bad = (λ head f g x y. elim x [
    | inl l ↦ elim y [ inl m ↦ l.0 ∙ sym m.0 | inr r ↦ absurd (l.1 r.0 r.1) ]
    | inr r ↦ elim y [
      | inl m ↦ absurd (m.1 r.0 r.1)
      | inr s ↦ same_some (response_fault role nonce s.0) f g (ap (response_fault role nonce) (one_response head s.0 r.0 s.1 r.1) ∙ r.2) s.2
    ]
  ]);
}

pub one_client_answer : (role : Role) (nonce came : List ℕ) (a b : Head) → ClientAnswers a came nonce role → ClientAnswers b came nonce role → (a ≡ heads.NoMemory → ⊥) → (b ≡ heads.NoMemory → ⊥) → a ≡ b
one_client_answer role nonce came a b x y p q = same_answer (GoodResponse role nonce) (BadResponse role nonce) (client_one role nonce) came a b x y p q
