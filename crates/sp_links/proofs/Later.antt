-- A head stays a head, whatever follows.
use Rattle.std.proofs.Common.{◌≡◌, ◌≤◌, ◌+◌, ◌-◌, ◌++◌, ℕ, List, length, take, drop, sym, ap, subst, ◌∙◌, inl, inr, arith, append_assoc}
use Rattle.std.proofs.lemmas.List.{take-append-le, drop-take, take-take, length-take, length-append, take_all, take-append-drop}
use Rattle.std.proofs.lemmas.Bool.Decides.{leb_tells}
use Rattle.sp_base.specs.Outside.{IsPrefix}
use Rattle.sp_base.specs.SpTcp.{hello, IsBadGreeting}
use Rattle.sp_base.specs.declared.role.Role.{Role}
use Rattle.sp_upgrade.specs.Blanks.{most, IsBlankAt, HasNoBlank, EndsAt, HasHead, IsTooLong}
use Rattle.sp_upgrade.specs.Opening.{Answers, ServerAnswers, GoodRequest, BadRequest, GoodResponse, BadResponse}
use Rattle.sp_upgrade.specs.declared.head.Head.TheVariants as heads
use Rattle.sp_upgrade.specs.declared.head.HeadFault.{HeadFault}
use Rattle.sp_upgrade.proofs.OneResult.{one_server_answer, one_client_answer}
use Rattle.sp_links.specs.Ways.{peer_number}
use Rattle.sp_links.specs.declared.way.Way.{Way}
use Rattle.sp_links.specs.declared.way.Way.TheVariants as ways
use Rattle.sp_links.specs.Keys.{key_of}
use Rattle.sp_links.specs.Laws.{StaysGood, StaysBad, IsNeverBoth, OwesOne, OwesNoMore}
use Rattle.sp_links.proofs.Requests.{one_request}
use Rattle.sp_links.proofs.Owing.{same_good}

-- ---- Heads

window : (s : List ℕ) (n i : ℕ) → i + 4 ≤ n → take 4 (drop i (take n s)) ≡ take 4 (drop i s)
window s n i fits =
    let whole : i + (n - i) ≡ n = omega (arith, fits) in
    ap (λ (k : ℕ). take 4 (drop i (take k s))) (sym whole) ∙ ap (take 4) (drop-take i (n - i) s) ∙ take-take 4 (n - i) (drop i s) (omega (arith, fits))

blank_in : (s t : List ℕ) (n i : ℕ) → take n s ≡ take n t → i + 4 ≤ n → IsBlankAt s i → IsBlankAt t i
blank_in s t n i same fits b = sym (window t n i fits) ∙ ap (λ (v : List ℕ). take 4 (drop i v)) (sym same) ∙ window s n i fits ∙ b

ends_in : (s t : List ℕ) (used : ℕ) → take used s ≡ take used t → used ≤ length t → EndsAt s used → EndsAt t used
ends_in s t used same fits x = record {
  at = x.at;
  blank = blank_in s t used x.at same (omega (arith, x.used_is)) x.blank;
  first = (λ i less b. x.first i less (blank_in t s used i (sym same) (omega (arith, x.used_is, less)) b));
  used_is = x.used_is;
  fits = fits;
}

module _ (came more : List ℕ) where
  longer : length (take most came) ≤ length (take most (came ++ more))
  longer = omega (arith, length-take most came, length-take most (came ++ more), length-append came more)

  head_later : (head : List ℕ) → HasHead came head → HasHead (came ++ more) head
  head_later head x =
      let fits = x.ends.fits in
      let a : take x.used (take most came) ≡ take x.used came = take-take x.used most came (omega (arith, fits, length-take most came)) in
      let b : take x.used (take most (came ++ more)) ≡ take x.used (came ++ more) = take-take x.used most (came ++ more) (omega (arith, fits, length-take most came)) in
      let c : take x.used (came ++ more) ≡ take x.used came = take-append-le x.used came more (omega (arith, fits, length-take most came)) in
      record {
        used = x.used;
        ends = ends_in (take most came) (take most (came ++ more)) x.used (a ∙ sym c ∙ sym b) (omega (arith, fits, longer)) x.ends;
        head_is = x.head_is ∙ sym c;
      }

  long_later : IsTooLong came → IsTooLong (came ++ more)
  long_later x = (omega (arith, x.0, length-append came more), subst (λ (v : List ℕ). HasNoBlank v) (sym (take-append-le most came more x.0)) x.1)

  module _ (Good : List ℕ → List ℕ → Type 0) (Bad : List ℕ → HeadFault → Type 0) where
    good_later : (u : ℕ) (a : List ℕ) → Answers Good Bad (heads.Good u a) came → Answers Good Bad (heads.Good u a) (came ++ more)
    good_later u a (head, has, long, good) = (head, head_later head has, long, good)

    bad_later : (f : HeadFault) → Answers Good Bad (heads.Bad f) came → Answers Good Bad (heads.Bad f) (came ++ more)
    bad_later f (inl x) = inl (x.0, long_later x.1)
    bad_later f (inr (head, has, bad)) = inr (head, head_later head has, bad)

-- ---- Greetings

prefix_later : (xs came more : List ℕ) → IsPrefix xs came → IsPrefix xs (came ++ more)
prefix_later xs came more f = (f.0 ++ more, ap (λ (v : List ℕ). v ++ more) f.1 ∙ append_assoc xs f.0 more)

-- of two lists that continue to the same list, the shorter is a prefix of the longer
prefix_of : (xs ys more rest : List ℕ) → ys ++ more ≡ xs ++ rest → length xs ≤ length ys → IsPrefix xs ys
prefix_of xs ys more rest e fits =
    let is : take (length xs) ys ≡ xs = sym (take-append-le (length xs) ys more fits) ∙ ap (take (length xs)) e ∙ take-append-le (length xs) xs rest (omega arith) ∙ take_all (length xs) xs (omega arith) in
    (drop (length xs) ys, sym (ap (λ (v : List ℕ). v ++ drop (length xs) ys) (sym is) ∙ take-append-drop (length xs) ys))

bad_greeting : (n : ℕ) (came more : List ℕ) → IsBadGreeting n came → IsBadGreeting n (came ++ more)
bad_greeting n came more (fewer, all) = (
  (λ f. fewer (more ++ f.0, f.1 ∙ append_assoc came more f.0)),
  (λ f. elim (leb_tells (length (hello n)) (length came)) [
    | inl p ↦ all (prefix_of (hello n) came more f.0 f.1 p.1)
    | inr p ↦ fewer (prefix_of came (hello n) f.0 more (sym f.1) (omega (arith, p.1)))
  ]),
)

-- ---- Both

good_or_bad : (u : ℕ) (a : List ℕ) (f : HeadFault) → heads.Good u a ≡ heads.Bad f → ⊥
good_or_bad u a f e = cc e

pub stays_good : (role : Role) (way : Way) → StaysGood role way
stays_good role (ways.Greeting framing) came more x = prefix_later (hello (peer_number role)) came more x
stays_good role (ways.Serves path) came more (u, a, x) = (u, a, good_later came more (GoodRequest role path) (BadRequest role path) u a x)
stays_good role (ways.Asks addr start) came more (u, a, x) = (u, a, good_later came more (GoodResponse role (key_of start)) (BadResponse role (key_of start)) u a x)

pub stays_bad : (role : Role) (way : Way) → StaysBad role way
stays_bad role (ways.Greeting framing) came more x = bad_greeting (peer_number role) came more x
stays_bad role (ways.Serves path) came more (f, x) = (f, bad_later came more (GoodRequest role path) (BadRequest role path) f x)
stays_bad role (ways.Asks addr start) came more (f, x) = (f, bad_later came more (GoodResponse role (key_of start)) (BadResponse role (key_of start)) f x)

pub never_both : (role : Role) (way : Way) → IsNeverBoth role way
never_both role (ways.Greeting framing) came x y = y.1 x
never_both role (ways.Serves path) came (u, a, x) (f, y) = good_or_bad u a f (one_server_answer role path came (heads.Good u a) (heads.Bad f) x y (λ e. cc e) (λ e. cc e))
never_both role (ways.Asks addr start) came (u, a, x) (f, y) = good_or_bad u a f (one_client_answer role (key_of start) came (heads.Good u a) (heads.Bad f) x y (λ e. cc e) (λ e. cc e))

pub owes_one_text : (role : Role) (way : Way) → OwesOne role way
owes_one_text role (ways.Greeting framing) came a b x y = x ∙ sym y
owes_one_text role (ways.Serves path) came a b (u, x) (v, y) = same_good u v a b (one_server_answer role path came (heads.Good u a) (heads.Good v b) x y (λ e. cc e) (λ e. cc e))
owes_one_text role (ways.Asks addr start) came a b x y = one_request role addr start a b x y

pub owes_no_more : (role : Role) (way : Way) → OwesNoMore role way
owes_no_more role (ways.Greeting framing) came more owed g o = o
owes_no_more role (ways.Serves path) came more owed (u, a, x) (v, y) =
    let same : owed ≡ a = same_good v u owed a (one_server_answer role path (came ++ more) (heads.Good v owed) (heads.Good u a) y (good_later came more (GoodRequest role path) (BadRequest role path) u a x) (λ e. cc e) (λ e. cc e)) in
    (u, subst (λ (t : List ℕ). ServerAnswers (heads.Good u t) came role path) (sym same) x)
owes_no_more role (ways.Asks addr start) came more owed g o = o
