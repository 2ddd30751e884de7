-- What a turn begins was not begun before.
use Rattle.std.proofs.Common.{◌≡◌, refl, ap, sym, ◌∙◌, subst, List, [], ◌∷◌, ◌++◌, ℕ, ◌+◌, ◌≤◌, Bool, true, false, cond, arith, Some}
use Rattle.std.specs.Prelude.{Option, None}
use Rattle.turn_lock.specs.declared.turn.Turn.{Turn}
use Rattle.sp_base.specs.declared.OpName.{OpName}
use Rattle.sp_history.specs.declared.entry.RecordedAct.{RecordedAct}
use Rattle.sp_history.specs.declared.entry.Entry.{Entry}
use Rattle.sp_history.specs.declared.entry.Entry.TheVariants.{Begin}
use Rattle.sp_history.specs.declared.setting.Setting.{Setting}
use Rattle.sp_history.specs.Lists.{same_op}
use Rattle.sp_history.specs.Past.{caller_of, onto, past_of}
use Rattle.sp_history.specs.Once.{begin_count}
use Rattle.sp_history.specs.Legal.{Legal}
use Rattle.sp_history.specs.Found.{IsOpenOf}
use Rattle.sp_history.proofs.Appending.{onto-append, past_of-append}
use Rattle.sp_history.proofs.OnceHolds.{ends_once, same_op-refl}
use Rattle.sp_core.specs.Standing.{HasBegin}

begin_grows : (op : OpName) (e : Entry) (p : List Entry) → begin_count p op ≤ begin_count (e ∷ p) op
begin_grows op (Begin other k c act d) p = go (same_op other op)
  where
    go : (b : Bool) → begin_count p op ≤ cond b (begin_count p op + 1) (begin_count p op)
    go true = omega arith
    go false = omega arith
begin_grows op _ p = omega arith

pub more_begun : (op : OpName) (es p : List Entry) → begin_count p op ≤ begin_count (onto es p) op
more_begun op [] p = omega arith
more_begun op (e ∷ es) p = omega (arith, begin_grows op e p, more_begun op es (e ∷ p))

-- what was never begun has no caller
pub no_caller : (p : List Entry) (op : OpName) → begin_count p op ≡ 0 → caller_of p op ≡ None
no_caller [] op h = refl
no_caller (Begin other k c act d ∷ p) op h = go (same_op other op) h (no_caller p op)
  where
    go : (b : Bool) → cond b (begin_count p op + 1) (begin_count p op) ≡ 0 → (begin_count p op ≡ 0 → caller_of p op ≡ None) → cond b (Some k) (caller_of p op) ≡ None
    go true h again = absurd (omega arith)
    go false h again = again h
no_caller (_ ∷ p) op h = no_caller p op h

no_one : (k : ℕ) → None ≡ Some k → ⊥
no_one k h = cc

module _ (z : Setting) (past : List (Turn Entry)) (t : Turn Entry) (op : OpName) (k c : ℕ) (act : RecordedAct) (d : Option ℕ) (l : Legal z (past ++ t ∷ [])) (b : HasBegin op k c act d t) where
  begun_never : begin_count (past_of past) op ≡ 0
  begun_never =
      let p = past_of past in
      let once = ends_once z (past ++ t ∷ []) op l in
      let whole : past_of (past ++ t ∷ []) ≡ onto b.late (Begin op k c act d ∷ onto b.early p) = past_of-append past t ∙ ap (λ (es : List Entry). onto es p) b.entries ∙ onto-append b.early (Begin op k c act d ∷ b.late) p in
      let same : begin_count (Begin op k c act d ∷ onto b.early p) op ≡ begin_count (onto b.early p) op + 1 = ap (λ (x : Bool). cond x (begin_count (onto b.early p) op + 1) (begin_count (onto b.early p) op)) (same_op-refl op) in
      let most : begin_count (onto b.late (Begin op k c act d ∷ onto b.early p)) op ≤ 1 = subst (λ (es : List Entry). begin_count es op ≤ 1) whole once.begun in
      omega (arith, more_begun op b.early p, same, more_begun op b.late (Begin op k c act d ∷ onto b.early p), most)

  -- so it wasn't open
  pub closed_before : (n : ℕ) → IsOpenOf n op (past_of past) → ⊥
  closed_before n o = no_one n (sym (no_caller (past_of past) op begun_never) ∙ o.0)
