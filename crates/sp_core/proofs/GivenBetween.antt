-- What is given between two frames leaves each pipe served, or fresh, as it was.
use Rattle.std.proofs.Common.{◌≡◌, refl, ap, sym, ◌∙◌, subst, List, [], ◌∷◌, ℕ, Bool, true, false, cond}
use Rattle.std.specs.Prelude.{not, ◌||◌, drop}
use Rattle.std.specs.List.{list_any}
use Rattle.sp_base.specs.declared.OpName.{OpName}
use Rattle.sp_base.specs.declared.role.Role.{Role}
use Rattle.sp_base.specs.declared.role.Role.TheVariants.{Pair0, Pair1, Req, Rep, Pull, Surveyor, Respondent}
use Rattle.sp_history.specs.declared.entry.Entry.{Entry}
use Rattle.sp_history.specs.declared.entry.Entry.TheVariants.{End}
use Rattle.sp_history.specs.declared.entry.Ending.{Ending}
use Rattle.sp_history.specs.declared.entry.Ending.TheVariants.{Won, Gone}
use Rattle.sp_history.specs.declared.entry.Completion.TheVariants.{Received, Sent}
use Rattle.sp_history.specs.declared.parts.Item.{Item}
use Rattle.sp_history.specs.declared.setting.Setting.{Setting}
use Rattle.sp_history.specs.Kept.{has_none_of, is_from, is_on_pool, wanted, pool}
use Rattle.sp_history.specs.Lists.{has, is_nil}
use Rattle.sp_history.specs.Past.{up, onto, pending}
use Rattle.sp_history.specs.Moments.{Moment, past, also}
use Rattle.sp_history.proofs.LegalTurns.{onto-acc}
use Rattle.core_state.specs.declared.pipes.Pipes.{Pipes}
use Rattle.core_state.specs.Pipes.{IsPipeAt, KeepsListed}
use Rattle.sp_msg.specs.Views.{WireView}
use Rattle.sp_core.specs.declared.owner.Core.{Core}
use Rattle.sp_core.specs.Moving.{with_entries}
use Rattle.sp_core.specs.ServeSteps.{GivesNext, GivesOne}
use Rattle.sp_core.specs.Serving.{AreEnds, HasOnlyEnded, Passes, IsServedBy}
use Rattle.sp_core.proofs.OtherPipes.{HasOneMore, one_passes, passes_trans, served_more}

-- ---- What is wanted

less_of : (q : ℕ) (yes : Bool) (items : List Item) → has_none_of q (cond yes (drop 1 items) items) ≡ false → has_none_of q items ≡ false
less_of q false items h = h
less_of q true [] h = h
less_of q true (x ∷ items) h = go (is_from q x) (list_any (is_from q) items) h
  where
    go : (a b : Bool) → not b ≡ false → not (a || b) ≡ false
    go true b h = refl
    go false b h = h

less_at_all : (yes : Bool) (items : List Item) → is_nil (cond yes (drop 1 items) items) ≡ false → is_nil items ≡ false
less_at_all false items h = h
less_at_all true [] h = h
less_at_all true (x ∷ items) h = refl

pool_of_pipe : (z : Setting) (before : List Entry) (q : ℕ) (op : OpName) (e : Ending) → has_none_of q (pool z (End op e ∷ before) 0) ≡ false → has_none_of q (pool z before 0) ≡ false
pool_of_pipe z before q op (Won (Received m)) h = less_of q (is_on_pool z 0 (pending before op)) (pool z before 0) h
pool_of_pipe z before q op (Won Sent) h = h
pool_of_pipe z before q op (Gone cause by) h = h

pool_at_all : (z : Setting) (before : List Entry) (op : OpName) (e : Ending) → is_nil (pool z (End op e ∷ before) 0) ≡ false → is_nil (pool z before 0) ≡ false
pool_at_all z before op (Won (Received m)) h = less_at_all (is_on_pool z 0 (pending before op)) (pool z before 0) h
pool_at_all z before op (Won Sent) h = h
pool_at_all z before op (Gone cause by) h = h

end_for : (z : Setting) (r : Role) (raw : Bool) (before : List Entry) (q : ℕ) (op : OpName) (e : Ending) → wanted (record z { role = r; raw = raw }) (End op e ∷ before) q ≡ false → wanted (record z { role = r; raw = raw }) before q ≡ false
end_for z Pair0 raw before q op e h = pool_at_all (record z { role = Pair0; raw = raw }) before op e h
end_for z Pair1 raw before q op e h = pool_at_all (record z { role = Pair1; raw = raw }) before op e h
end_for z Pull raw before q op e h = pool_of_pipe (record z { role = Pull; raw = raw }) before q op e h
end_for z Rep raw before q op e h = pool_of_pipe (record z { role = Rep; raw = raw }) before q op e h
end_for z Respondent raw before q op e h = pool_of_pipe (record z { role = Respondent; raw = raw }) before q op e h
end_for z Req true before q op e h = pool_of_pipe (record z { role = Req; raw = true }) before q op e h
end_for z Req false before q op e h = h
end_for z Surveyor true before q op e h = pool_of_pipe (record z { role = Surveyor; raw = true }) before q op e h
end_for z Surveyor false before q op e h = h
end_for z _ raw before q op e h = h

-- an operation that ends leaves a wanted pipe wanted
pub end_wants : (z : Setting) (before : List Entry) (q : ℕ) (op : OpName) (e : Ending) → wanted z (End op e ∷ before) q ≡ false → wanted z before q ≡ false
end_wants z before q op e h = end_for z z.role z.raw before q op e h

-- ---- What a pull leaves, with the ends after it

end_passes : (most : ℕ) (t : Moment) (p : ℕ) (op : OpName) (e : Ending) → Passes most p (up (past t)) t (also t (End op e))
end_passes most t p op e =
    one_passes most p (up (past t)) t (End op e) (record { ups = refl; counts = λ q n. (refl, refl, refl); wants = λ q n k w. end_wants t.z (past t) q op e w; downs = refl; serves = tt; busy = λ q n. refl })

one_ended : (most : ℕ) (t u : Moment) (p : ℕ) (op : OpName) (e : Ending) → HasOneMore most p t u → HasOneMore most p t (also u (End op e))
one_ended most t u p op e m = record {
  passes = passes_trans most p (up (past t)) t u (also u (End op e)) m.passes (subst (λ (xs : List ℕ). Passes most p xs u (also u (End op e))) m.passes.ups (end_passes most u p op e));
  stalls = m.stalls;
  frames = m.frames;
  flushes = m.flushes;
  quiets = m.quiets;
  ready = λ w. subst (λ (es : List Entry). IsServedBy most u.z u.before es p) (sym (onto-acc u.turn (End op e ∷ []))) (served_more most u.z u.before (onto u.turn []) (End op e ∷ []) p refl (m.ready (end_wants u.z (past u) p op e w)));
}

all_ended : (most : ℕ) (t u : Moment) (p : ℕ) (es : List Entry) → AreEnds es → HasOneMore most p t u → HasOneMore most p t (with_entries u es)
all_ended most t u p [] h m = m
all_ended most t u p (End op e ∷ es) h m = one_ended most t (with_entries u es) p op e (all_ended most t u p es h m)
all_ended most t u p (_ ∷ es) h m = absurd h

pub more_given : (most : ℕ) (t u v : Moment) (p : ℕ) → HasOneMore most p t u → HasOnlyEnded u v → HasOneMore most p t v
more_given most t u v p m l = subst (λ (x : Moment). HasOneMore most p t x) (sym l.2) (all_ended most t u p l.0 l.1 m)

-- ---- One end after another

pub ended_none : (t : Moment) → HasOnlyEnded t t
ended_none t = ([], tt, refl)

pub ended_one : (t u : Moment) (op : OpName) (e : Ending) → HasOnlyEnded t u → HasOnlyEnded t (also u (End op e))
ended_one t u op e l = (End op e ∷ l.0, l.1, ap (λ (x : Moment). also x (End op e)) l.2)

-- the pipe has its place still
pub same_place : {W : Type 0} → (l m : Pipes W) (i p : ℕ) → m ≡ l → IsPipeAt l i p → IsPipeAt m i p
same_place l m i p e h = subst (λ (x : Pipes _). IsPipeAt x i p) (sym e) h

-- the list of busy pipes is as it was after both
pub keeps_on : {W : Type 0} → (p : ℕ) (l m n : Pipes W) → KeepsListed p l m → KeepsListed p m n → KeepsListed p l n
keeps_on p l m n a b on = b (subst (λ (xs : List ℕ). has xs p ≡ true) (sym (a on)) on) ∙ a on

-- ---- What one give returned

module _ {P W : Type 0} (ties : P → Moment → Type 0) (room measure : P → ℕ) (shown : W → WireView) (old new : Core P W) where
  pub gives_one : (result : Bool) → result ≡ true → GivesNext ties room measure shown result old new → GivesOne ties room measure shown old new
  gives_one result e h = subst (λ (b : Bool). GivesNext ties room measure shown b old new) e h

  pub gives_none : (result : Bool) → result ≡ false → GivesNext ties room measure shown result old new → GivesNext ties room measure shown false old new
  gives_none result e h = subst (λ (b : Bool). GivesNext ties room measure shown b old new) e h
