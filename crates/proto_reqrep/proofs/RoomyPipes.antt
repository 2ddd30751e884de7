-- The numbers of a set, after one was put in or taken out.
use Rattle.std.proofs.Common.{◌≡◌, refl, ap, sym, ◌∙◌, List, [], ◌∷◌, ℕ, Bool, true, false, cond}
use Rattle.std.specs.Prelude.{not, Result, Ok, Err, OnOk, OnErr, ◌&&◌, ◌||◌, ◌==◌}
use Rattle.std.specs.Ordering.{nat_cmp}
use Rattle.std.specs.BTreeMap.{is_at}
use Rattle.std.specs.List.{list_any}
use Rattle.sp_history.specs.Lists.{has}
use Rattle.proto_requests.proofs.NumberedEntries.{at_is}
use Rattle.proto_reqrep.specs.Roomy.{KeepsAll, DropsOnly}

-- a query for a number finds it
abbrev pub finds : List ℕ → ℕ → Bool
finds us q = list_any (is_at (nat_cmp q)) us

finds_is : (us : List ℕ) (q : ℕ) → finds us q ≡ has us q
finds_is [] q = refl
finds_is (u ∷ us) q = ap (λ b. b || finds us q) (at_is q u) ∙ ap (λ b. (u == q) || b) (finds_is us q)

pub kept : {A E : Type 0} (r : Result A E) (p : ℕ) (us vs : List ℕ) → OnOk r ((q : ℕ) → finds vs q ≡ cond (is_at (nat_cmp p) q) true (finds us q)) → OnErr r (vs ≡ us) → KeepsAll us vs
kept (Ok x) p us vs h k = λ q e. sym (finds_is vs q) ∙ h q ∙ go q (is_at (nat_cmp p) q) (finds_is us q ∙ e)
  where
    go : (q : ℕ) (b : Bool) → finds us q ≡ true → cond b true (finds us q) ≡ true
    go q true e = refl
    go q false e = e
kept (Err y) p us vs h k = λ q e. ap (λ ws. has ws q) k ∙ e

pub dropped : (p : ℕ) (us vs : List ℕ) → ((q : ℕ) → finds vs q ≡ cond (is_at (nat_cmp p) q) false (finds us q)) → DropsOnly p us vs
dropped p us vs h = λ q. sym (finds_is vs q) ∙ h q ∙ ap (λ b. cond b false (finds us q)) (at_is p q) ∙ go q (q == p)
  where
    go : (q : ℕ) (b : Bool) → cond b false (finds us q) ≡ (not b && has us q)
    go q true = refl
    go q false = finds_is us q
