-- The net's one link, given back.
use Rattle.std.proofs.Common.{◌≡◌, ◌∙◌, refl, ap, sym, ℕ, Bool, true, false, cond, Option, Some, None}
use Rattle.std.specs.Cmp.{nat_cmp_total}
use Rattle.std.specs.FinMap.{FinMap, get, insert, empty, get-insert, same_map, nat_cmp-IsAntisymmetric}
use Rattle.std.specs.Ordering.{nat_cmp, eq_by_cmp}
use Rattle.sp_base.specs.Views.{LinkView}
use Rattle.test_node.specs.declared.slow.SlowLink.{SlowLink}
use Rattle.test_node.specs.SlowNets.{link_view, back_of}

hides : (b : Bool) (x y o : Option LinkView) → cond b x (cond b y o) ≡ cond b x o
hides true x y o = refl
hides false x y o = refl

-- the newest at a place stands
newest_at : (m : FinMap nat_cmp LinkView) (k : ℕ) (v w : LinkView) → insert (insert m k v) k w ≡ insert m k w
newest_at m k v w =
    same_map nat_cmp_total nat_cmp-IsAntisymmetric (insert (insert m k v) k w) (insert m k w) (λ q.
    get-insert nat_cmp_total (insert m k v) k w q
    ∙ ap (λ o. cond (eq_by_cmp nat_cmp q k) (Some w) o) (get-insert nat_cmp_total m k v q)
    ∙ hides (eq_by_cmp nat_cmp q k) (Some w) (Some v) (get m q)
    ∙ sym (get-insert nat_cmp_total m k w q))

pub newest : (old : Option SlowLink) (l : SlowLink) → back_of (Some l) ≡ insert (back_of old) 0 (link_view l)
newest None l = refl
newest (Some x) l = sym (newest_at empty 0 (link_view x) (link_view l))
