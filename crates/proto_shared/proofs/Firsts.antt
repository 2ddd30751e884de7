-- What the first receive and the first send are in the history.
use Rattle.std.proofs.Common.{◌≡◌, refl, ap, sym, ◌∙◌, subst, List, [], ◌∷◌, ℕ, ◌+◌, ◌≤◌, Bool, true, false, cond, arith, Some, None}
use Rattle.std.specs.Prelude.{find, filter, not, ◌&&◌, ◌||◌, ◌==◌}
use Rattle.std.specs.List.{list_all, list_any}
use Rattle.std.specs.Option.{option_map}
use Rattle.std.proofs.lemmas.Bool.Decides.{nat_tests}
use Rattle.sp_base.specs.declared.OpName.{OpName}
use Rattle.sp_history.specs.declared.setting.Setting.{Setting}
use Rattle.sp_history.specs.declared.entry.RecordedAct.{RecordedAct}
use Rattle.sp_history.specs.declared.entry.RecordedAct.TheVariants.{Recv, Send}
use Rattle.sp_history.specs.declared.entry.Entry.{Entry}
use Rattle.sp_history.specs.declared.parts.Begun.{Begun}
use Rattle.sp_history.specs.Lists.{has, head_of, is_nil, same_op}
use Rattle.sp_history.specs.Past.{is_of}
use Rattle.sp_history.specs.Kept.{kept}
use Rattle.sp_history.specs.Legal.{is_recv, is_recv_on}
use Rattle.sp_history.specs.Sends.{targets, begun_before}
use Rattle.sp_history.specs.Settled.{receive_settled, send_settled}
use Rattle.sp_history.specs.Once.{AreApart, occurs}
use Rattle.sp_history.proofs.OnceHolds.{same_op-refl, occurs-find}
use Rattle.proto_shared.specs.Waits.{is_receive, is_send, first_name}

or_true : (a : Bool) → (a || true) ≡ true
or_true true = refl
or_true false = refl

module _ (f : Begun → Bool) where
  -- the first that passes is pending
  pub first_found : (ss : List Begun) (r : Begun) → AreApart ss → head_of (filter f ss) ≡ Some r → find (is_of r.op) ss ≡ Some r
  first_found ss r apart h = go ss (apart r.op) h
    where
      some_inj : (x : Begun) → Some x ≡ Some r → x ≡ r
      some_inj x q = cc

      go : (ss : List Begun) → occurs ss r.op ≤ 1 → head_of (filter f ss) ≡ Some r → find (is_of r.op) ss ≡ Some r
      go [] a q = absurd cc
      go (x ∷ ss) a q = step (f x) q (is_of r.op x) refl a (go ss)
        where
          step : (b : Bool) → head_of (cond b (x ∷ filter f ss) (filter f ss)) ≡ Some r → (c : Bool) → is_of r.op x ≡ c → cond c (occurs ss r.op + 1) (occurs ss r.op) ≤ 1 → (occurs ss r.op ≤ 1 → head_of (filter f ss) ≡ Some r → find (is_of r.op) ss ≡ Some r)
              → cond c (Some x) (find (is_of r.op) ss) ≡ Some r
          step true q true e a again = q
          step true q false e a again =
              let same : x ≡ r = some_inj x q in
              let is : same_op r.op r.op ≡ false = subst (λ (y : Begun). same_op y.op r.op ≡ false) same e in
              let no : true ≡ false = sym (same_op-refl r.op) ∙ is in
              absurd cc
          step false q true e a again =
              let k = again (omega (arith, a)) q in
              absurd (omega (arith, a, occurs-find ss r.op r k))
          step false q false e a again = again a q

  pub passes_first : (ss : List Begun) (r : Begun) → head_of (filter f ss) ≡ Some r → f r ≡ true
  passes_first [] r h = absurd cc
  passes_first (x ∷ ss) r h = go (f x) refl h (passes_first ss r)
    where
      some_inj : Some x ≡ Some r → x ≡ r
      some_inj q = cc

      go : (b : Bool) → f x ≡ b → head_of (cond b (x ∷ filter f ss) (filter f ss)) ≡ Some r → (head_of (filter f ss) ≡ Some r → f r ≡ true) → f r ≡ true
      go true e q again = sym (ap f (some_inj q)) ∙ e
      go false e q again = again q

-- the first receive is the first on its context
pub first_on : (ss : List Begun) (r : Begun) → head_of (filter is_receive ss) ≡ Some r → option_map (λ (s : Begun). s.op) (find (is_recv_on r.ctx) ss) ≡ Some r.op
first_on [] r h = absurd cc
first_on (x ∷ ss) r h = go (is_recv x.act) h (first_on ss r)
  where
    some_inj : Some x ≡ Some r → x ≡ r
    some_inj q = cc

    same : (n : ℕ) → (n == n) ≡ true
    same n = grind (arith, nat_tests)

    go : (b : Bool) → head_of (cond b (x ∷ filter is_receive ss) (filter is_receive ss)) ≡ Some r → (head_of (filter is_receive ss) ≡ Some r → option_map (λ (s : Begun). s.op) (find (is_recv_on r.ctx) ss) ≡ Some r.op)
        → option_map (λ (s : Begun). s.op) (cond (b && (x.ctx == r.ctx)) (Some x) (find (is_recv_on r.ctx) ss)) ≡ Some r.op
    go true q again =
        let is : x ≡ r = some_inj q in
        let here : (x.ctx == r.ctx) ≡ true = ap (λ (y : Begun). y.ctx == r.ctx) is ∙ same r.ctx in
        rw here (ap (λ (y : Begun). Some y.op) is)
    go false q again = again q

module _ (z : Setting) (before : List Entry) where
  -- where no receive is pending, none finds a message
  pub no_receives : (ss : List Begun) → head_of (filter is_receive ss) ≡ None → list_all (receive_settled z before) ss ≡ true
  no_receives [] h = refl
  no_receives (x ∷ ss) h = go (is_recv x.act) h (no_receives ss)
    where
      go : (b : Bool) → head_of (cond b (x ∷ filter is_receive ss) (filter is_receive ss)) ≡ None → (head_of (filter is_receive ss) ≡ None → list_all (receive_settled z before) ss ≡ true) → ((not b || is_nil (kept z before x.ctx)) && list_all (receive_settled z before) ss) ≡ true
      go true q again = absurd cc
      go false q again = again q

  -- nor where none is kept
  pub none_kept : ((c : ℕ) → kept z before c ≡ []) → (ss : List Begun) → list_all (receive_settled z before) ss ≡ true
  none_kept n [] = refl
  none_kept n (x ∷ ss) = rw (n x.ctx, or_true (not (is_recv x.act))) (none_kept n ss)

  pub no_sends : (full : ℕ → Bool) (ss : List Begun) → head_of (filter is_send ss) ≡ None → list_all (send_settled z before full) ss ≡ true
  no_sends full [] h = refl
  no_sends full (x ∷ ss) h = go (is_recv x.act) refl h (no_sends full ss)
    where
      settled : is_recv x.act ≡ true → send_settled z before full x ≡ true
      settled e = rw e refl

      go : (b : Bool) → is_recv x.act ≡ b → head_of (cond (not b) (x ∷ filter is_send ss) (filter is_send ss)) ≡ None → (head_of (filter is_send ss) ≡ None → list_all (send_settled z before full) ss ≡ true) → (send_settled z before full x && list_all (send_settled z before full) ss) ≡ true
      go true e q again = rw (settled e) (again q)
      go false e q again = absurd cc

  -- no send that was begun earlier is pending
  pub first_of_all : (ss : List Begun) (r : Begun) (p : ℕ) → head_of (filter is_send ss) ≡ Some r → list_any (λ (other : Begun). has (targets z before other) p) (begun_before r.op ss) ≡ false
  first_of_all [] r p h = refl
  first_of_all (x ∷ ss) r p h = go (same_op x.op r.op) refl x.act refl h (first_of_all ss r p)
    where
      some_inj : Some x ≡ Some r → x ≡ r
      some_inj q = cc

      nowhere : x.act ≡ Recv → has (targets z before x) p ≡ false
      nowhere e = rw e refl

      go : (b : Bool) → same_op x.op r.op ≡ b → (a : RecordedAct) → x.act ≡ a → head_of (cond (not (is_recv a)) (x ∷ filter is_send ss) (filter is_send ss)) ≡ Some r
          → (head_of (filter is_send ss) ≡ Some r → list_any (λ (other : Begun). has (targets z before other) p) (begun_before r.op ss) ≡ false)
          → list_any (λ (other : Begun). has (targets z before other) p) (cond b [] (x ∷ begun_before r.op ss)) ≡ false
      go true e a f q again = refl
      go false e Recv f q again = rw (nowhere f) (again q)
      go false e (Send m) f q again =
          let is : same_op r.op r.op ≡ false = subst (λ (y : Begun). same_op y.op r.op ≡ false) (some_inj q) e in
          let no : true ≡ false = sym (same_op-refl r.op) ∙ is in
          absurd cc

-- ---- By its name

pub first_is : (ss : List Begun) (op : OpName) → Some op ≡ first_name ss → (s : Begun) × (head_of ss ≡ Some s) × (s.op ≡ op)
first_is [] op h = absurd cc
first_is (s ∷ ss) op h = (s, refl, cc)

pub none_first : (ss : List Begun) → None ≡ first_name ss → head_of ss ≡ None
none_first [] h = refl
none_first (s ∷ ss) h = absurd cc
