-- What a net has back when the links of wires are given back one after another.
use Rattle.std.proofs.Common.{◌≡◌, ◌<◌, ◌++◌, ℕ, false, List, [], ◌∷◌, length, refl, sym, ap, subst, ◌∙◌, arith, Option, Some, None, get_or}
use Rattle.std.specs.List.{AllByRecursion}
use Rattle.std.specs.FinMap.{FinMap}
use Rattle.std.specs.Ordering.{nat_cmp}
use Rattle.sp_base.specs.Views.{LinkView, NetView}
use Rattle.sp_base.specs.Steps.{AfterGiveBack}
use Rattle.sp_links.specs.declared.wire.EndWire.{EndWire}
use Rattle.sp_links.specs.EndWires.{link_of}
use Rattle.core_state.specs.declared.pipes.DownPipe.{DownPipe}
use Rattle.sp_ends.specs.RunLinks.{SameCounts}
use Rattle.sp_ends.specs.ShutWires.{shut_link, shut_under, with_links, with_link, with_wires, CanShut, IsBelow, AreHandedOut, WiresBack}
use Rattle.sp_ends.specs.declared.newcomer.Newcomer.{Newcomer}

with_last : {L : Type 0} (back : FinMap nat_cmp LinkView) (ws : List (DownPipe (EndWire L))) (x : DownPipe (EndWire L)) → with_wires back (ws ++ x ∷ []) ≡ with_wires (with_link back (link_of x.wire)) ws
with_last back [] x = refl
with_last back (w ∷ ws) x = ap (λ (b : FinMap nat_cmp LinkView). with_link b (link_of w.wire)) (with_last back ws x)

pub all_but_last : {X : Type 0} (P : X → Type 0) (xs : List X) (x : X) → AllByRecursion P (xs ++ x ∷ []) → AllByRecursion P xs × P x
all_but_last P [] x h = (tt, h.0)
all_but_last P (y ∷ ys) x h = let r = all_but_last P ys x h.1 in ((h.0, r.0), r.1)

pub all_and_last : {X : Type 0} (P : X → Type 0) (xs : List X) (x : X) → AllByRecursion P xs → P x → AllByRecursion P (xs ++ x ∷ [])
all_and_last P [] x h p = (p, tt)
all_and_last P (y ∷ ys) x h p = (h.0, all_and_last P ys x h.1 p)

-- the link of a wire is given back, if it has one
abbrev pub IsGiven : Option LinkView → NetView → NetView → Type 0
IsGiven None net next = next ≡ net
IsGiven (Some link) net next = AfterGiveBack (shut_link link) net next

given_back : (o : Option LinkView) (net next : NetView) → IsGiven o net next → next.back ≡ with_link net.back o
given_back None net next g = ap (λ (n : NetView). n.back) g
given_back (Some link) net next g = g.back

given_counts : (o : Option LinkView) (net next : NetView) → IsGiven o net next → SameCounts net next
given_counts None net next g = record { listens = ap (λ (n : NetView). n.listens) g; opened = ap (λ (n : NetView). n.opened) g; faults = ap (λ (n : NetView). n.faults) g; idles = ap (λ (n : NetView). n.idles) g }
given_counts (Some link) net next g = record { listens = g.listens; opened = g.opened; faults = g.faults; idles = g.idles }

-- the link that was left of a wire
seen_link : (o : Option LinkView) (l : LinkView) → shut_under o ≡ Some l → (link : LinkView) × (o ≡ Some link) × (shut_link link ≡ l)
seen_link None l e = cc
seen_link (Some link) l e = (link, refl, same (shut_link link) l e)
  where
    same : (a b : LinkView) → Some a ≡ Some b → a ≡ b
    same a b h = cc

pub seen_below : (o : Option LinkView) (l : LinkView) (opened : ℕ) → shut_under o ≡ Some l → IsBelow opened o → l.place < opened
seen_below o l opened e below =
    let s = seen_link o l e in
    subst (λ (v : LinkView). v.place < opened) s.2 (subst (IsBelow opened) s.1 below)

pub seen_given : (o : Option LinkView) (l : LinkView) (net next : NetView) → shut_under o ≡ Some l → AfterGiveBack l net next → IsGiven o net next
seen_given o l net next e g =
    let s = seen_link o l e in
    subst (λ (p : Option LinkView). IsGiven p net next) (sym s.1) (subst (λ (v : LinkView). AfterGiveBack v net next) (sym s.2) g)

pub none_given : (o : Option LinkView) (net : NetView) → shut_under o ≡ None → IsGiven o net net
none_given None net e = refl
none_given (Some link) net e = cc

-- these wires are still to be given back
pub record GivingWires {L : Type 0} (all ws : List (DownPipe (EndWire L))) (first net : NetView) : Type 0 where
  pub below : AreHandedOut net.opened ws
  pub back : with_wires net.back ws ≡ with_wires first.back all
  pub counts : SameCounts first net
  pub shut : AllByRecursion (λ x. CanShut x.wire) ws → AllByRecursion (λ x. CanShut x.wire) all

module _ {L : Type 0} where
  -- the last of them, x, is given back
  pub giving_one : (all ws left : List (DownPipe (EndWire L))) (x : DownPipe (EndWire L)) (first net next : NetView) → GivingWires all ws first net → ws ≡ left ++ x ∷ [] → CanShut x.wire → IsGiven (link_of x.wire) net next → GivingWires all left first next
  giving_one all ws left x first net next giving ws_is shut given =
      let after = given_counts (link_of x.wire) net next given in
      let below = all_but_last (λ (y : DownPipe (EndWire L)). CanShut y.wire → IsBelow net.opened (link_of y.wire)) left x (subst (AreHandedOut net.opened) ws_is giving.below) in
      record {
        below = subst (λ (n : ℕ). AreHandedOut n left) (sym after.opened) below.0;
        back = ap (λ (b : FinMap nat_cmp LinkView). with_wires b left) (given_back (link_of x.wire) net next given) ∙ sym (with_last net.back left x) ∙ ap (with_wires net.back) (sym ws_is) ∙ giving.back;
        counts = record { listens = after.listens ∙ giving.counts.listens; opened = after.opened ∙ giving.counts.opened; faults = after.faults ∙ giving.counts.faults; idles = after.idles ∙ giving.counts.idles };
        shut = λ h. giving.shut (subst (AllByRecursion (λ x. CanShut x.wire)) (sym ws_is) (all_and_last (λ (y : DownPipe (EndWire L)). CanShut y.wire) left x h shut));
      }

  -- all are given back
  pub wires_all : (all ws : List (DownPipe (EndWire L))) (first net : NetView) → GivingWires all ws first net → ws ≡ [] → WiresBack all first net
  wires_all all ws first net giving none =
      record { back = sym (ap (with_wires net.back) none) ∙ giving.back; counts = giving.counts; shut = giving.shut (subst (AllByRecursion (λ x. CanShut x.wire)) (sym none) tt) }

  pub below_last : (ws left : List (DownPipe (EndWire L))) (x : DownPipe (EndWire L)) (opened : ℕ) → AreHandedOut opened ws → ws ≡ left ++ x ∷ [] → CanShut x.wire → IsBelow opened (link_of x.wire)
  below_last ws left x opened below ws_is = (all_but_last (λ (y : DownPipe (EndWire L)). CanShut y.wire → IsBelow opened (link_of y.wire)) left x (subst (AreHandedOut opened) ws_is below)).1

-- these newcomers are still to be given back
pub record GivingLinks {L : Type 0} (seen : L → LinkView) (all ns : List (Newcomer L)) (first net : NetView) : Type 0 where
  pub below : AllByRecursion (λ n. (seen n.opening.link).place < net.opened) ns
  pub back : with_links seen net.back ns ≡ with_links seen first.back all
  pub counts : SameCounts first net

module _ {L : Type 0} (seen : L → LinkView) where
  pub links_first : (all : List (Newcomer L)) (net : NetView) → AllByRecursion (λ n. (seen n.opening.link).place < net.opened) all → GivingLinks seen all all net net
  links_first all net below = record { below = below; back = refl; counts = record { listens = refl; opened = refl; faults = refl; idles = refl } }

  -- the first of them is given back
  pub links_one : (all ns left : List (Newcomer L)) (n : Newcomer L) (first net next : NetView) → GivingLinks seen all ns first net → ns ≡ n ∷ left → AfterGiveBack (record (seen n.opening.link) { is_open = false }) net next → GivingLinks seen all left first next
  links_one all ns left n first net next giving ns_is after =
      let below = subst (AllByRecursion (λ m. (seen m.opening.link).place < net.opened)) ns_is giving.below in
      record {
        below = subst (λ (o : ℕ). AllByRecursion (λ m. (seen m.opening.link).place < o) left) (sym after.opened) below.1;
        back = ap (λ (b : FinMap nat_cmp LinkView). with_links seen b left) after.back ∙ ap (with_links seen net.back) (sym ns_is) ∙ giving.back;
        counts = record { listens = after.listens ∙ giving.counts.listens; opened = after.opened ∙ giving.counts.opened; faults = after.faults ∙ giving.counts.faults; idles = after.idles ∙ giving.counts.idles };
      }

  pub links_all : (all ns : List (Newcomer L)) (first net : NetView) → GivingLinks seen all ns first net → ns ≡ [] → net.back ≡ with_links seen first.back all
  links_all all ns first net giving ns_is = sym (ap (with_links seen net.back) ns_is) ∙ giving.back

pub counts_through : (a b c : NetView) → SameCounts a b → SameCounts b c → SameCounts a c
counts_through a b c f g = record { listens = g.listens ∙ f.listens; opened = g.opened ∙ f.opened; faults = g.faults ∙ f.faults; idles = g.idles ∙ f.idles }

-- nothing is still to be greeted
pub none_left : {X : Type 0} (xs : List X) (len : ℕ) → len ≡ length xs → ((x : X) → 0 < len → None ≡ Some (get_or xs 0 x)) → xs ≡ []
none_left [] len is h = refl
none_left (x ∷ xs) len is h = let e = h x (omega (arith, is)) in cc
