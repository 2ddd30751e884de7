-- The receive that is given a message next.
use Rattle.std.proofs.Common.{◌≡◌, refl, ap, sym, ◌∙◌, List, [], ◌∷◌, ℕ, Bool, true, false, cond, arith, Option, Some, None, map, length}
use Rattle.std.specs.Prelude.{find, not, nat_lt, IfSome, IfNone, ◌&&◌, ◌||◌, ◌==◌}
use Rattle.std.specs.List.{list_any, position, position_or_len}
use Rattle.std.proofs.lemmas.Bool.Decides.{nat_tests}
use Rattle.sp_history.specs.Lists.{has, is_nil}
use Rattle.sp_history.specs.Once.{AreDistinct}
use Rattle.proto_requests.proofs.Positions.{not_found}
use Rattle.proto_survey.specs.declared.survey.Survey.{Survey}
use Rattle.proto_survey.specs.declared.waiting.SurveyOperation.{SurveyOperation}
use Rattle.proto_survey.specs.Lives.{SurveyView, survey_ctx, is_live_on, is_kept, keeps_at}
use Rattle.proto_survey.specs.Askings.{is_sending, receives_on}
use Rattle.proto_survey.specs.Surveys.{gets, is_given, is_fed, IsNext}
use Rattle.proto_survey.proofs.SurveyLives.{equal_of, same_number, turned}
use Rattle.proto_survey.proofs.SurveyorEnds.{parts}

passes : {A : Type 0} (P : A → Bool) (xs : List A) (x : A) → find P xs ≡ Some x → P x ≡ true
passes P [] x h = absurd cc
passes P (y ∷ xs) x h = go (P y) refl h (passes P xs x)
  where
    some_inj : Some y ≡ Some x → y ≡ x
    some_inj q = cc

    go : (b : Bool) → P y ≡ b → cond b (Some y) (find P xs) ≡ Some x → (find P xs ≡ Some x → P x ≡ true) → P x ≡ true
    go true e q again = sym (ap P (some_inj q)) ∙ e
    go false e q again = again q

none_passes : {A : Type 0} (P : A → Bool) (xs : List A) → find P xs ≡ None → list_any P xs ≡ false
none_passes P [] h = refl
none_passes P (x ∷ xs) h = go (P x) h (none_passes P xs)
  where
    go : (b : Bool) → cond b (Some x) (find P xs) ≡ None → (find P xs ≡ None → list_any P xs ≡ false) → (b || list_any P xs) ≡ false
    go true q again = absurd cc
    go false q again = again q

-- ---- The survey of a context

apart : (P : SurveyView → Bool) (xs : List SurveyView) (x : SurveyView) (c : ℕ) → find P xs ≡ Some x → has (map survey_ctx xs) c ≡ false → (x.ctx == c) ≡ false
apart P [] x c h n = absurd cc
apart P (y ∷ xs) x c h n = go (P y) (y.ctx == c) refl h n (apart P xs x c)
  where
    some_inj : Some y ≡ Some x → y ≡ x
    some_inj q = cc

    go : (b a : Bool) → (y.ctx == c) ≡ a → cond b (Some y) (find P xs) ≡ Some x → (a || has (map survey_ctx xs) c) ≡ false → (find P xs ≡ Some x → has (map survey_ctx xs) c ≡ false → (x.ctx == c) ≡ false) → (x.ctx == c) ≡ false
    go b true e q k again = absurd cc
    go true false e q k again = sym (ap (λ (z : SurveyView). z.ctx == c) (some_inj q)) ∙ e
    go false false e q k again = again q k

-- where no context has two, the one that is found is the one of its context
its_own : (P : SurveyView → Bool) (xs : List SurveyView) (x : SurveyView) → AreDistinct (map survey_ctx xs) → find P xs ≡ Some x → find (is_live_on x.ctx) xs ≡ Some x
its_own P [] x d h = absurd cc
its_own P (y ∷ xs) x d h = go (P y) h (its_own P xs x d.1)
  where
    some_inj : Some y ≡ Some x → y ≡ x
    some_inj q = cc

    go : (b : Bool) → cond b (Some y) (find P xs) ≡ Some x → (find P xs ≡ Some x → find (is_live_on x.ctx) xs ≡ Some x) → cond (y.ctx == x.ctx) (Some y) (find (is_live_on x.ctx) xs) ≡ Some x
    go true q again = ap (λ b. cond b (Some y) (find (is_live_on x.ctx) xs)) (ap (λ (z : SurveyView). y.ctx == z.ctx) (sym (some_inj q)) ∙ same_number y.ctx) ∙ q
    go false q again = ap (λ b. cond b (Some y) (find (is_live_on x.ctx) xs)) (turned x.ctx y.ctx false (apart P xs x y.ctx q d.0)) ∙ again q

fed_keeps : (ws : List SurveyOperation) (xs : List SurveyView) (x : SurveyView) → AreDistinct (map survey_ctx xs) → find (is_fed ws) xs ≡ Some x → keeps_at xs x.ctx ≡ true
fed_keeps ws xs x d h = ap is_kept (its_own (is_fed ws) xs x d h) ∙ (parts (not (is_nil x.replies)) (list_any (receives_on x.ctx) ws) (passes (is_fed ws) xs x h)).0

fed_waits : (ws : List SurveyOperation) (xs : List SurveyView) (x : SurveyView) → find (is_fed ws) xs ≡ Some x → list_any (receives_on x.ctx) ws ≡ true
fed_waits ws xs x h = (parts (not (is_nil x.replies)) (list_any (receives_on x.ctx) ws) (passes (is_fed ws) xs x h)).1

-- ---- There is none

unfed : (ws : List SurveyOperation) (xs : List SurveyView) (c : ℕ) → keeps_at xs c ≡ true → list_any (receives_on c) ws ≡ true → find (is_fed ws) xs ≡ None → ⊥
unfed ws [] c k a f = absurd cc
unfed ws (x ∷ xs) c k a f = go (x.ctx == c) refl (is_fed ws x) refl k f (unfed ws xs c)
  where
    go : (b : Bool) → (x.ctx == c) ≡ b → (q : Bool) → is_fed ws x ≡ q → is_kept (cond b (Some x) (find (is_live_on c) xs)) ≡ true → cond q (Some x) (find (is_fed ws) xs) ≡ None
        → (keeps_at xs c ≡ true → list_any (receives_on c) ws ≡ true → find (is_fed ws) xs ≡ None → ⊥) → ⊥
    go b e true i k f again = absurd cc
    go false e false i k f again = again k a f
    go true e false i k f again =
        let fed : is_fed ws x ≡ true = ap (λ b. b && list_any (receives_on x.ctx) ws) k ∙ ap (λ d. list_any (receives_on d) ws) (equal_of x.ctx c e) ∙ a in
        let bad : true ≡ false = sym fed ∙ i in absurd cc

module _ (m : Survey) (r : m.raw ≡ false) (f : find (is_fed m.waiting.items) m.live.items ≡ None) where
  or_right : (a b : Bool) → b ≡ true → (a || b) ≡ true
  or_right true b h = refl
  or_right false b h = h

  nothing : (ws : List SurveyOperation) → ((c : ℕ) → list_any (receives_on c) ws ≡ true → list_any (receives_on c) m.waiting.items ≡ true) → find (gets m) ws ≡ None
  nothing [] sub = refl
  nothing (w ∷ ws) sub = go (is_sending w) refl (is_given m.raw m.kept.items m.live.items w.ctx) refl (nothing ws (λ c k. sub c (or_right (receives_on c w) (list_any (receives_on c) ws) k)))
    where
      here : is_sending w ≡ false → (receives_on w.ctx w || list_any (receives_on w.ctx) ws) ≡ true
      here e = ap (λ s. (not s && (w.ctx == w.ctx)) || list_any (receives_on w.ctx) ws) e ∙ ap (λ b. b || list_any (receives_on w.ctx) ws) (same_number w.ctx)

      go : (s : Bool) → is_sending w ≡ s → (g : Bool) → is_given m.raw m.kept.items m.live.items w.ctx ≡ g → find (gets m) ws ≡ None → cond (not s && g) (Some w) (find (gets m) ws) ≡ None
      go true e g i k = k
      go false e false i k = k
      go false e true i k = absurd (unfed m.waiting.items m.live.items w.ctx (sym (ap (λ b. is_given b m.kept.items m.live.items w.ctx) r) ∙ i) (sub w.ctx (here e)) f)

  -- cooked, no survey keeps a response for a receive
  pub none_fed : find (gets m) m.waiting.items ≡ None
  none_fed = nothing m.waiting.items (λ c k. k)

-- ---- Cooked

module _ (m : Survey) (x : SurveyView) (r : m.raw ≡ false) (f : find (is_fed m.waiting.items) m.live.items ≡ Some x) where
  pub cooked_next : (o : Option ℕ) → o ≡ position (receives_on x.ctx) m.waiting.items → IfSome o (λ i. IsNext m i)
  cooked_next None e = tt
  cooked_next (Some i) e = (
    λ d. d == x.ctx,
    sym e,
    λ d c k. ap (λ b. is_given b m.kept.items m.live.items c) r ∙ ap (keeps_at m.live.items) (equal_of c x.ctx k) ∙ fed_keeps m.waiting.items m.live.items x d f,
  )

  pub cooked_none : (o : Option ℕ) → o ≡ position (receives_on x.ctx) m.waiting.items → IfNone o (find (gets m) m.waiting.items ≡ None)
  cooked_none (Some i) e = tt
  cooked_none None e =
      let bad : true ≡ false = sym (fed_waits m.waiting.items m.live.items x f) ∙ none_passes (receives_on x.ctx) m.waiting.items (not_found (receives_on x.ctx) m.waiting.items (sym e)) in absurd cc

-- ---- Raw

pub raw_next : (m : Survey) (o : Option ℕ) → o ≡ position (gets m) m.waiting.items → IfSome o (λ i. IsNext m i)
raw_next m None e = tt
raw_next m (Some i) e = (λ c. is_given m.raw m.kept.items m.live.items c, sym e, λ d c k. k)

pub raw_none : (m : Survey) (o : Option ℕ) → o ≡ position (gets m) m.waiting.items → IfNone o (find (gets m) m.waiting.items ≡ None)
raw_none m (Some i) e = tt
raw_none m None e = not_found (gets m) m.waiting.items (sym e)

nowhere : {A : Type 0} (P : A → Bool) (xs : List A) → list_any P xs ≡ false → position_or_len P xs ≡ length xs
nowhere P [] h = refl
nowhere P (x ∷ xs) h = go (P x) refl h (nowhere P xs)
  where
    go : (b : Bool) → P x ≡ b → (b || list_any P xs) ≡ false → (list_any P xs ≡ false → position_or_len P xs ≡ length xs) → position_or_len P (x ∷ xs) ≡ length (x ∷ xs)
    go true e h again = absurd cc
    go false e h again = let k = again h in rw e (omega (arith, k))

-- raw, nothing is kept
pub none_gets : (m : Survey) (c : ℕ) → m.raw ≡ true → is_given m.raw m.kept.items m.live.items c ≡ false → None ≡ position (gets m) m.waiting.items
none_gets m c r h = sym (go (position_or_len (gets m) m.waiting.items) (length m.waiting.items) (nowhere (gets m) m.waiting.items (none m.waiting.items)))
  where
    go : (n l : ℕ) → n ≡ l → cond (nat_lt n l) (Some n) None ≡ None
    go n l e = grind (arith, nat_tests)

    any_ctx : (d : ℕ) → is_given m.raw m.kept.items m.live.items d ≡ false
    any_ctx d = ap (λ b. is_given b m.kept.items m.live.items d) r ∙ sym (ap (λ b. is_given b m.kept.items m.live.items c) r) ∙ h

    none : (ws : List SurveyOperation) → list_any (gets m) ws ≡ false
    none [] = refl
    none (w ∷ ws) = rw (any_ctx w.ctx, none ws) (never_and (not (is_sending w)))
      where
        never_and : (b : Bool) → (b && false || false) ≡ false
        never_and true = refl
        never_and false = refl
