-- Addresses are dialed one after another.
use Rattle.std.proofs.Common.{◌≡◌, ◌≤◌, ◌<◌, ◌+◌, ◌∷◌, ℕ, zero, suc, List, [], length, Option, Some, None, refl, sym, ap, subst, ◌∙◌, arith, min, set, slice_get, get_or, inl, inr}
use Rattle.std.specs.Prelude.{◌^◌, ◌-◌, ◌⊎◌}
use Rattle.sp_base.specs.Views.{LinkView, NetView}
use Rattle.sp_base.specs.Steps.{IsHandedOut, Untouched, LinkedAs, AfterLinking}
use Rattle.sp_base.specs.declared.addr.Scheme.{Scheme}
use Rattle.sp_socket.specs.Singles.{SingleView}
use Rattle.sp_ends.specs.declared.dialer.Dialer.{Dialer}
use Rattle.sp_ends.specs.EndViews.{Beginning, LinkEndsView}
use Rattle.sp_ends.specs.RunLinks.{LinksStand, SameCounts, sum_of, tries_of}
use Rattle.sp_ends.specs.LinkCounts.{CanRise}
use Rattle.sp_ends.specs.EndsTurns.{InTurn, SameEnds, AsksNet, HasDialed, DialsOne, targets_of}
use Rattle.sp_ends.specs.DialerSteps.{IsSameDialer, HasTried, next_after, place_after, IsFree, IsUnderWay}
use Rattle.sp_base.specs.declared.outside.Linked.{Linked}
use Rattle.sp_base.specs.declared.outside.Linked.TheVariants as linked
use Rattle.sp_ends.specs.Freeing.{AreSameDialers}
use Rattle.sp_ends.proofs.TurnParts.{same_dialers, dialers_both, dialer_both, ends_both, of_run_on}
use Rattle.sp_ends.proofs.ListReads.{at_index}
use Rattle.sp_ends.proofs.NewcomingAsks.{same_tries}

-- ---- One dial

-- the same, except for its dialers
pub turned_as : {L : Type 0} (seen : L → LinkView) (start : Beginning) (ends ends' : LinkEndsView L) (net : NetView) (s : SingleView) (t k : ℕ) → SameEnds ends ends' → ends'.newcomers ≡ ends.newcomers → InTurn seen start ends net s t k → InTurn seen start ends' net s t k
turned_as seen start ends ends' net s t k same n i = record {
  role = same.role ∙ i.role;
  of_run = of_run_on start.origins ends ends' same i.of_run;
  links = subst (λ ns. LinksStand seen s.setting start s.seen net ns k) (sym n) i.links;
  now_is = i.now_is;
  ticked = i.ticked;
  sound = i.sound;
}

-- the same, except for what dialers know of their links
pub tried : {L : Type 0} (ends old : LinkEndsView L) (ds : List Dialer) → ends ≡ old → targets_of ds ≡ targets_of old.dialers → SameEnds old (record ends { dialers = ds })
tried ends old ds is addrs = record { role = ap (λ (e : LinkEndsView _). e.role) is; dice = ap (λ (e : LinkEndsView _). e.dice) is; listeners = ap (λ (e : LinkEndsView _). e.listeners) is; dials = addrs }

-- the same, except for how many links were asked for
pub asked_on : {L : Type 0} (old mid new : LinkEndsView L) → SameEnds old mid → new ≡ record mid { asked = new.asked } → SameEnds old new
asked_on old mid new same is =
    ends_both old mid new same (record { role = ap (λ (e : LinkEndsView _). e.role) is; dice = ap (λ (e : LinkEndsView _). e.dice) is; listeners = ap (λ (e : LinkEndsView _). e.listeners) is; dials = ap (λ (e : LinkEndsView _). targets_of e.dialers) is })

-- a link was handed out, and no result was then counted
pub asked_got : (link : LinkView) (wanted : Option Scheme) (a b c : NetView) → IsHandedOut link wanted a b → SameCounts b c → AsksNet a c
asked_got link wanted a b c handed same =
    let opened = same.opened ∙ handed.opened in
    let idles = same.idles ∙ handed.idles in
    let faults = same.faults ∙ handed.faults in
    record { listens = same.listens ∙ handed.listens; opened = omega (arith, opened); idles = omega (arith, idles); faults = omega (arith, faults); rose = λ i f. omega (arith, opened, idles, faults) }

dials_set : (t : ℕ) (same : Type 0) (i : ℕ) (ds : List Dialer) (d x : Dialer) → slice_get ds i ≡ Some d → HasDialed t same d x → DialsOne i t same ds (set ds i x)
dials_set t same i [] d x e h = cc
dials_set t same zero (y ∷ ds) d x e h = let is : y ≡ d = cc in (subst (λ (q : Dialer). HasDialed t same q x) (sym is) h, same_dialers ds)
dials_set t same (suc i) (y ∷ ds) d x e h = (record { addr = refl; max = refl; tries = refl; free = λ _. refl }, dials_set t same i ds d x e h)

-- no link was handed out
pub tried_free : {L : Type 0} (seen : L → LinkView) (said : Linked L) (t : ℕ) (old new : Dialer) → HasTried (next_after said t) (place_after seen said) old new → place_after seen said ≡ None → IsFree t new ⊎ IsUnderWay t new
tried_free seen linked.NotYet t old new h none = inl (h.place, h.next)
tried_free seen linked.Failed t old new h none = inl (h.place, h.next)
tried_free seen linked.Begun t old new h none = inr (h.place, h.next)
tried_free seen (linked.Got link) t old new h none = cc

-- then the net is the same, except for its counts
pub said_none : {L : Type 0} (seen : L → LinkView) (said : Linked L) (scheme : Option Scheme) (a b : NetView) → LinkedAs seen said scheme a b → place_after seen said ≡ None → Untouched a b
said_none seen linked.NotYet scheme a b shows none = shows.0
said_none seen linked.Begun scheme a b shows none = shows.0
said_none seen linked.Failed scheme a b shows none = shows.0
said_none seen (linked.Got link) scheme a b shows none = cc

-- it was asked once
pub asked_none : {L : Type 0} (seen : L → LinkView) (said : Linked L) (scheme : Option Scheme) (a b : NetView) → AfterLinking seen said scheme a b → place_after seen said ≡ None → AsksNet a b
asked_none seen said scheme a b h none =
    let u = said_none seen said scheme a b h.shows none in
    record { listens = u.listens; opened = (let o = u.opened in omega (arith, o)); idles = h.idles; faults = h.faults; rose = λ i f. go said h.shows none u.opened i f }
  where
    go : (r : Linked _) → LinkedAs seen r scheme a b → place_after seen r ≡ None → b.opened ≡ a.opened → CanRise b.idles → CanRise b.faults → sum_of a + 1 ≤ sum_of b
    go linked.NotYet (u, rose, same) none o i f = omega (arith, o, rose, same, i)
    go linked.Begun (u, rose, same) none o i f = omega (arith, o, rose, same, i)
    go linked.Failed (u, rose, same) none o i f = omega (arith, o, rose, same, f)
    go (linked.Got link) shows none o i f = cc

-- the dialer at this place of the list has tried
pub dialed_at : {L : Type 0} (seen : L → LinkView) (said : Linked L) (t : ℕ) (same : Type 0) (i : ℕ) (xs ds : List Dialer) (old new : Dialer) → xs ≡ ds → i < length ds → old ≡ get_or xs i old → HasTried (next_after said t) (place_after seen said) old new → (same → place_after seen said ≡ None) → DialsOne i t same ds (set xs i new)
dialed_at seen said t same i xs ds old new e lt at d none =
    subst (λ ys. DialsOne i t same ds (set ys i new)) (sym e) (dials_set t same i ds old new (at_index xs ds i old e lt at) (record { addr = d.addr; max = d.max; tries = d.tries; next = λ m. tried_free seen said t old new d (none m) }))

dial_then : (t : ℕ) (same same' : Type 0) (d e f : Dialer) → (same' → same) → HasDialed t same d e → IsSameDialer e f → HasDialed t same' d f
dial_then t same same' d e f m h s = record {
  addr = s.addr ∙ h.addr;
  max = s.max ∙ h.max;
  tries = s.tries ∙ h.tries;
  next = λ x. go (h.next (m x));
}
  where
    go : IsFree t e ⊎ IsUnderWay t e → IsFree t f ⊎ IsUnderWay t f
    go (inl n) = inl (subst (IsFree t) (sym (s.free n.0)) n)
    go (inr n) = inr (subst (IsUnderWay t) (sym (s.free n.0)) n)

-- and then others have lost their links
pub dials_then : (i t : ℕ) (same same' : Type 0) (ds es fs : List Dialer) → (same' → same) → DialsOne i t same ds es → AreSameDialers es fs → DialsOne i t same' ds fs
dials_then i t same same' [] [] [] m d s = tt
dials_then i t same same' [] [] (f ∷ fs) m d s = absurd s
dials_then i t same same' [] (e ∷ es) fs m d s = absurd d
dials_then zero t same same' (x ∷ ds) [] fs m d s = absurd d
dials_then (suc i) t same same' (x ∷ ds) [] fs m d s = absurd d
dials_then i t same same' (x ∷ ds) (e ∷ es) [] m d s = absurd s
dials_then zero t same same' (x ∷ ds) (e ∷ es) (f ∷ fs) m d s = (dial_then t same same' x e f m d.0 s.0, dialers_both ds es fs d.1 s.1)
dials_then (suc i) t same same' (x ∷ ds) (e ∷ es) (f ∷ fs) m d s = (dialer_both x e f d.0 s.0, dials_then i t same same' ds es fs m d.1 s.1)

one_more : (a b x e m : ℕ) → b ≡ a → e ≡ min (x + 1) m → b + e ≤ (a + x) + 1
one_more a b x e m p q = omega arith

same_sum : (a b x e : ℕ) → b ≤ a + 1 → e ≡ x → b + e ≤ (a + x) + 1
same_sum a b x e p q = omega arith

pub dials_tries : (i t : ℕ) (same : Type 0) (ds es : List Dialer) → DialsOne i t same ds es → tries_of es ≤ tries_of ds + 1
dials_tries i t same [] [] d = omega arith
dials_tries i t same [] (e ∷ es) d = absurd d
dials_tries zero t same (x ∷ ds) [] d = absurd d
dials_tries (suc i) t same (x ∷ ds) [] d = absurd d
dials_tries zero t same (x ∷ ds) (e ∷ es) d = one_more (tries_of ds) (tries_of es) x.tries e.tries (2 ^ 64 - 1) (same_tries ds es d.1) d.0.tries
dials_tries (suc i) t same (x ∷ ds) (e ∷ es) d = same_sum (tries_of ds) (tries_of es) x.tries e.tries (dials_tries i t same ds es d.1) (ap (λ (k : ℕ). k) d.0.tries)
