-- A link that began right stays so, whatever follows.
use Rattle.std.proofs.Common.{◌≡◌, ◌++◌, ℕ, false, List, Option, Some, None, sym, ap, subst, ◌∙◌, append_assoc}
use Rattle.sp_base.specs.Outside.{Told, grown, IsPrefix}
use Rattle.sp_base.specs.Views.{LinkView}
use Rattle.sp_base.specs.Steps.{Moved, Went}
use Rattle.sp_base.specs.declared.role.Role.{Role}
use Rattle.sp_links.specs.declared.way.Way.{Way}
use Rattle.sp_links.specs.Openings.{IsGood, Owes}
use Rattle.sp_links.proofs.Later.{stays_good, owes_no_more}
use Rattle.sp_links.specs.Opened.{IsBegun}

-- what is told shows it
abbrev Tells : Role → Way → Option (List ℕ) → Option (List ℕ) → Type 0
Tells role way c w = Told c (λ came. Told w (λ written. IsGood role way came × ((owed : List ℕ) → Owes role way came owed → IsPrefix owed written)))

prefix_on : (xs ys more : List ℕ) → IsPrefix xs ys → IsPrefix xs (ys ++ more)
prefix_on xs ys more f = (f.0 ++ more, ap (λ (v : List ℕ). v ++ more) f.1 ∙ append_assoc xs f.0 more)

came_on : (role : Role) (way : Way) (piece : List ℕ) (c w : Option (List ℕ)) → Tells role way c w → Tells role way (grown c piece) w
came_on role way piece None w t = tt
came_on role way piece (Some c) None t = tt
came_on role way piece (Some c) (Some w) t = (stays_good role way c piece t.0, λ owed o. t.1 owed (owes_no_more role way c piece owed t.0 o))

went_on : (role : Role) (way : Way) (piece : List ℕ) (c w : Option (List ℕ)) → Tells role way c w → Tells role way c (grown w piece)
went_on role way piece None w t = tt
went_on role way piece (Some c) None t = tt
went_on role way piece (Some c) (Some w) t = (t.0, λ owed o. prefix_on owed w piece (t.1 owed o))

moved : (role : Role) (way : Way) (a b : LinkView) (c w : Option (List ℕ)) → b.came ≡ c → b.written ≡ w → Tells role way c w → IsBegun role way b
moved role way a b c w e f t = subst (λ (x : Option (List ℕ)). Tells role way x b.written) (sym e) (subst (λ (y : Option (List ℕ)). Tells role way c y) (sym f) t)

pub begun_moved : (role : Role) (way : Way) (piece took : List ℕ) (a b : LinkView) → Moved (grown a.came piece) (grown a.written took) a b → IsBegun role way a → IsBegun role way b
begun_moved role way piece took a b x t =
    moved role way a b (grown a.came piece) (grown a.written took) x.came x.written (went_on role way took (grown a.came piece) a.written (came_on role way piece a.came a.written t))

pub begun_went : (role : Role) (way : Way) (piece : List ℕ) (a b : LinkView) → Went piece a b → IsBegun role way a → IsBegun role way b
begun_went role way piece a b x t = moved role way a b a.came (grown a.written piece) x.came x.written (went_on role way piece a.came a.written t)

pub begun_same : (role : Role) (way : Way) (a b : LinkView) → b ≡ a → IsBegun role way a → IsBegun role way b
begun_same role way a b e t = subst (λ (l : LinkView). IsBegun role way l) (sym e) t

pub begun_shut : (role : Role) (way : Way) (a b : LinkView) → b ≡ record a { is_open = false } → IsBegun role way a → IsBegun role way b
begun_shut role way a b e t = subst (λ (l : LinkView). IsBegun role way l) (sym e) t
