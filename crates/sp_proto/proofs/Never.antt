-- Entries that never come to a machine whose role, or whose contexts, don't have it.
use Rattle.std.proofs.Common.{◌≡◌, subst, [], ◌∷◌, ℕ, Bool, true, false, arith}
use Rattle.std.specs.Prelude.{◌==◌, ◌||◌, ◌&&◌, ◌≢◌}
use Rattle.std.proofs.lemmas.Bool.Decides.{nat_tests}
use Rattle.sp_base.specs.declared.OpName.{OpName}
use Rattle.sp_history.specs.declared.entry.Entry.TheVariants.{Ctx}
use Rattle.sp_history.specs.declared.entry.ContextChange.TheVariants.{Shut}
use Rattle.sp_history.specs.declared.parts.Begun.{Begun}
use Rattle.sp_history.specs.declared.parts.LiveRequest.{LiveRequest}
use Rattle.sp_history.specs.declared.setting.Setting.{Setting}
use Rattle.sp_history.specs.Lists.{has}
use Rattle.sp_history.specs.Setting.{is_sub, is_req, is_reply, is_pair1, has_topics}
use Rattle.sp_history.specs.Past.{ctxs}
use Rattle.sp_history.specs.Moments.{Moment, Lawful, past, also}
use Rattle.sp_proto.specs.Machines.{CanDrop, CanAgain}

-- context 0 is never shut, so none is where it is the only one
pub no_shut : {A : Type 0} (t : Moment) (c : ℕ) → Lawful (also t (Ctx c Shut)) → ctxs (past t) ≡ 0 ∷ [] → A
no_shut t c l h =
    let k = l.turn.0.itself in
    let there : ((0 == c) || false) ≡ true = subst (λ cs. has cs c ≡ true) h k.1 in
    absurd (zero_there there k.0)
  where
    zero_there : ((0 == c) || false) ≡ true → c ≢ 0 → ⊥
    zero_there e n = n (grind (arith, nat_tests))

pub no_topics : {A : Type 0} (z : Setting) → is_sub z.role ≡ false → has_topics z ≡ true → A
no_topics z n f = let k : false ≡ true = rw n at f in absurd cc

pub no_again : {A : Type 0} (t : Moment) (c p : ℕ) (r : LiveRequest) → is_req t.z.role ≡ false → CanAgain t c p r → A
no_again t c p r n k = let q : false ≡ true = rw n at k.sends_again in absurd cc

pub no_drop : {A : Type 0} (t : Moment) (op : OpName) (s : Begun) → is_reply t.z.role ≡ false → is_pair1 t.z.role ≡ false → CanDrop t op s → A
no_drop t op s n m k = no_way _ _ _ _ _ _ n m k.nowhere
  where
    no_way : {A : Type 0} (reply none pair raw lacks calm : Bool) → reply ≡ false → pair ≡ false → ((reply && none || (pair && raw) && lacks) && calm) ≡ true → A
    no_way reply none pair raw lacks calm h e k = let q : false ≡ true = rw (h, e) at k in absurd cc
