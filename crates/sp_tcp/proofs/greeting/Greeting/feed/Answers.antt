use Rattle.std.proofs.Common.{◌≡◌, ◌≤◌, ◌<◌, ◌+◌, ◌-◌, ◌++◌, ℕ, Bool, true, false, List, take, drop, length, min, refl, sym, subst, ap, ◌∙◌, arith}
use Rattle.std.proofs.lemmas.List.{take-append-drop, take_all, length-append, length-take, length-drop, take-take}
use Rattle.sp_base.specs.declared.role.Role.{Role}
use Rattle.sp_tcp.specs.Views.{GreetingView}
use Rattle.sp_tcp.specs.Greetings.{FedAs, peer_hello}
use Rattle.sp_tcp.specs.declared.greeting.Greeted.{Greeted}
use Rattle.sp_tcp.specs.declared.greeting.Greeted.TheVariants as g
use Rattle.sp_tcp.proofs.PrefixPieces.{part_more, part_other}
use Rattle.sp_tcp.proofs.greeting.Greeting.feed.Goals as goal

-- a result of the greeting that shows this, from its fields: the bytes of the peer's greeting so far are what was fed
shown : (view : GreetingView) (result : Greeted) (piece peer : List ℕ) (seen : ℕ) (role : Role) (waits is_open : Bool) (fed : List ℕ)
    → record { role = role; fed = fed; is_open = waits } ≡ view → view.is_open ≡ true → peer ≡ peer_hello role → (waits ≡ true → fed ≡ take seen peer)
    → FedAs result piece peer (take seen peer) is_open → FedAs result piece (peer_hello view.role) view.fed is_open
shown view result piece peer seen role waits is_open fed view_is open_is peer_is begun returned =
    let fed_is : take seen peer ≡ view.fed = sym (begun (ap (λ (v : GreetingView). v.is_open) view_is ∙ open_is)) ∙ ap (λ (v : GreetingView). v.fed) view_is in
    let at_peer : peer ≡ peer_hello view.role = peer_is ∙ ap (λ (v : GreetingView). peer_hello v.role) view_is in
    subst (λ p. FedAs result piece p view.fed is_open) at_peer (subst (λ f. FedAs result piece peer f is_open) fed_is returned)

-- how many bytes are compared
compared : (peer piece : List ℕ) (seen n : ℕ) → length peer ≡ 8 → seen ≤ 8 → n ≡ min (length (take (8 - seen) (drop seen peer))) (length piece) → n ≡ min (8 - seen) (length piece)
compared peer piece seen n long within is = omega (arith, is, length-take (8 - seen) (drop seen peer), length-drop seen peer, long, within)

-- the bytes that are compared follow those that came
same_prefix : (peer piece : List ℕ) (seen n : ℕ) → length peer ≡ 8 → seen ≤ 8 → n ≡ min (8 - seen) (length piece) → take n piece ≡ take n (take (8 - seen) (drop seen peer)) → take seen peer ++ take n piece ≡ take (seen + n) peer
same_prefix peer piece seen n long within is same =
    part_more peer piece seen n (omega (arith, long, within)) (omega (arith, is)) (same ∙ take-take n (8 - seen) (drop seen peer) (omega (arith, is)))

part : (peer piece : List ℕ) (seen n : ℕ) → length peer ≡ 8 → seen ≤ 8 → n ≡ min (8 - seen) (length piece) → seen + n < 8 → take n piece ≡ take n (take (8 - seen) (drop seen peer)) → take seen peer ++ piece ≡ take (seen + n) peer
part peer piece seen n long within is few same =
    ap (λ t. take seen peer ++ t) (sym (take_all n piece (omega (arith, is, few)))) ∙ same_prefix peer piece seen n long within is same

more : (peer piece : List ℕ) (seen n : ℕ) → length peer ≡ 8 → seen ≤ 8 → n ≡ min (8 - seen) (length piece) → seen + n < 8 → take n piece ≡ take n (take (8 - seen) (drop seen peer)) → FedAs g.More piece peer (take seen peer) true
more peer piece seen n long within is few same =
    let whole = part peer piece seen n long within is few same in (
      (drop (seen + n) peer, sym (ap (λ t. t ++ drop (seen + n) peer) whole ∙ take-append-drop (seen + n) peer)),
      omega (arith, long, length-append (take seen peer) piece, length-take seen peer, few, is),
      refl,
    )

whole : (peer piece : List ℕ) (seen n : ℕ) → length peer ≡ 8 → seen ≤ 8 → n ≡ min (8 - seen) (length piece) → 8 ≤ seen + n → take n piece ≡ take n (take (8 - seen) (drop seen peer)) → FedAs (g.Peer (length piece - n)) piece peer (take seen peer) false
whole peer piece seen n long within is all same = (
  (take n piece, drop n piece, sym (take-append-drop n piece), same_prefix peer piece seen n long within is same ∙ take_all (seen + n) peer (omega (arith, long, all)), length-drop n piece),
  refl,
)

bad : (peer piece : List ℕ) (seen n : ℕ) → length peer ≡ 8 → seen ≤ 8 → n ≡ min (8 - seen) (length piece) → ¬ (take n piece ≡ take n (take (8 - seen) (drop seen peer))) → FedAs g.Bad piece peer (take seen peer) false
bad peer piece seen n long within is other =
    let wanted : take n (take (8 - seen) (drop seen peer)) ≡ take n (drop seen peer) = take-take n (8 - seen) (drop seen peer) (omega (arith, is)) in
    let apart = part_other peer piece seen n (omega (arith, long, within)) (omega (arith, is)) (omega (arith, is, length-drop seen peer, long, within)) (λ e. other (e ∙ sym wanted)) in
    (apart.0, apart.1, refl)

pub returns-then-self-lt8-clause-exact : goal.returns-then-self-lt8-clause-exact
returns-then-self-lt8-clause-exact c =
    let s = c.self.inside in
    let is = compared s.peer c.args.piece.now s.seen c.min-count.result c.self.told.1 c.self.invariant.within c.min-count.ensures in
    let returned = more s.peer c.args.piece.now s.seen c.min-count.result c.self.told.1 c.self.invariant.within is c.if-self-lt8.true (c.is_same.ensures.0 c.if-not-is_same.false) in
    let waits : s.waits ≡ true = ap (λ (v : GreetingView). v.is_open) c.self.view_is ∙ c.requires in
    shown c.args.self.now g.More c.args.piece.now s.peer s.seen s.role s.waits s.waits s.fed.bytes c.self.view_is c.requires c.self.invariant.peer_is c.self.invariant.begun (returned.0, returned.1, waits)

pub invariant_of-self-then-self-lt8 : goal.invariant_of-self-then-self-lt8
invariant_of-self-then-self-lt8 c =
    let s = c.self.inside in
    let is = compared s.peer c.args.piece.now s.seen c.min-count.result c.self.told.1 c.self.invariant.within c.min-count.ensures in
    let fed_more = part s.peer c.args.piece.now s.seen c.min-count.result c.self.told.1 c.self.invariant.within is c.if-self-lt8.true (c.is_same.ensures.0 c.if-not-is_same.false) in
    record {
      own_is = c.self.invariant.own_is;
      peer_is = c.self.invariant.peer_is;
      within = omega (arith, c.if-self-lt8.true);
      begun = λ waits. c.and-self-inside.ensures ∙ ap (λ t. t ++ c.args.piece.now) (c.self.invariant.begun waits) ∙ fed_more;
    }

pub returns-clause-exact : goal.returns-clause-exact
returns-clause-exact c =
    let s = c.self.inside in
    let is = compared s.peer c.args.piece.now s.seen c.min-count.result c.self.told.1 c.self.invariant.within c.min-count.ensures in
    let returned = whole s.peer c.args.piece.now s.seen c.min-count.result c.self.told.1 c.self.invariant.within is c.if-self-lt8.false (c.is_same.ensures.0 c.if-not-is_same.false) in
    shown c.args.self.now (g.Peer (length c.args.piece.now - c.min-count.result)) c.args.piece.now s.peer s.seen s.role s.waits false s.fed.bytes c.self.view_is c.requires c.self.invariant.peer_is c.self.invariant.begun returned

pub returns-then-not-is_same-clause-exact : goal.returns-then-not-is_same-clause-exact
returns-then-not-is_same-clause-exact c =
    let s = c.self.inside in
    let is = compared s.peer c.args.piece.now s.seen c.min-count.result c.self.told.1 c.self.invariant.within c.min-count.ensures in
    let other : ¬ (take c.min-count.result c.args.piece.now ≡ take c.min-count.result (take (8 - s.seen) (drop s.seen s.peer))) = λ e. let yes = c.is_same.ensures.1 e in cc (yes, c.if-not-is_same.true) in
    let returned = bad s.peer c.args.piece.now s.seen c.min-count.result c.self.told.1 c.self.invariant.within is other in
    shown c.args.self.now g.Bad c.args.piece.now s.peer s.seen s.role s.waits false s.fed.bytes c.self.view_is c.requires c.self.invariant.peer_is c.self.invariant.begun returned
