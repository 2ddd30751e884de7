-- A wire over a link whose opening is done.
use Rattle.std.proofs.Common.{◌≡◌, ◌≤◌, ◌<◌, ◌+◌, ◌++◌, ℕ, List, [], length, take, drop, Option, Some, None, refl, sym, ap, subst, ◌∙◌, arith}
use Rattle.std.proofs.lemmas.List.{append-nil, length-take, length-append, take_all}
use Rattle.std.proofs.Math.Seq.{drop-append_seam}
use Rattle.sp_base.specs.Outside.{Told, IsPrefix}
use Rattle.sp_base.specs.SpTcp.{hello}
use Rattle.sp_base.specs.Views.{LinkView}
use Rattle.sp_base.specs.Roles.{role_number}
use Rattle.sp_base.specs.declared.framing.Framing.{Framing}
use Rattle.sp_base.specs.SpStream.{framing_for}
use Rattle.sp_base.proofs.StreamShows.{framing-under}
use Rattle.sp_base.specs.declared.role.Role.{Role}
use Rattle.sp_tcp.specs.TcpWires.{Met}
use Rattle.sp_upgrade.specs.Opening.{Answers, GoodRequest, BadRequest, GoodResponse, BadResponse}
use Rattle.sp_upgrade.specs.declared.head.Head.TheVariants as heads
use Rattle.sp_upgrade.specs.declared.head.HeadFault.{HeadFault}
use Rattle.sp_links.specs.Ways.{peer_number}
use Rattle.sp_links.specs.declared.way.Way.{Way}
use Rattle.sp_links.specs.declared.way.Way.TheVariants as ways
use Rattle.sp_links.specs.declared.opening.Opening.{Opening}
use Rattle.sp_links.specs.Keys.{key_of}
use Rattle.sp_links.specs.Openings.{scheme_for, Begins, OpensWith, IsGood, Owes}
use Rattle.sp_links.specs.Going.{IsOwn, IsOpened}
use Rattle.sp_links.proofs.Greetings.{hello_long}
use Rattle.sp_links.proofs.Owing.{opens_good, owes_one}
use Rattle.sp_links.specs.Opened.{IsBegun, side_of, framed_by}

head_within : (Good : List ℕ → List ℕ → Type 0) (Bad : List ℕ → HeadFault → Type 0) (u : ℕ) (a came : List ℕ) → Answers Good Bad (heads.Good u a) came → u ≤ length came
head_within Good Bad u a came (head, has, long, good) = omega (arith, long, ap length has.head_is, length-take has.used came)

-- the peer's part is among what came
within : (role : Role) (way : Way) (u : ℕ) (a came : List ℕ) → OpensWith role way u a came → u ≤ length came
within role (ways.Greeting framing) u a came x = omega (arith, x.0, ap length x.2.1, length-append (hello (peer_number role)) x.2.0, hello_long (peer_number role))
within role (ways.Serves path) u a came x = head_within (GoodRequest role path) (BadRequest role path) u a came x
within role (ways.Asks addr start) u a came x = head_within (GoodResponse role (key_of start)) (BadResponse role (key_of start)) u a came x

told_so : (P Q : List ℕ → Type 0) (o : Option (List ℕ)) → ((s : List ℕ) → P s → Q s) → Told o P → Told o Q
told_so P Q None f t = tt
told_so P Q (Some s) f t = f s t

module _ {L : Type 0} (seen : L → LinkView) (n : Opening L) (o : IsOpened seen n) where
  own_as : (u : ℕ) → n.used ≡ Some u → IsOwn n.role n.way n.own n.came (Some u)
  own_as u e = subst (λ (v : Option ℕ). IsOwn n.role n.way n.own n.came v) e o.stands.own

  pub used_within : (u : ℕ) → n.used ≡ Some u → u ≤ length n.came
  used_within u e = let own = own_as u e in within n.role n.way u own.1 n.came own.3

  whole_is : (w : List ℕ) → w ≡ take n.said n.own → w ≡ n.own
  whole_is w e = e ∙ take_all n.said n.own (omega (arith, o.said))

  pub begun : IsBegun n.role n.way (seen n.link)
  begun = go (seen n.link).came (seen n.link).written o.stands.came o.stands.written
    where
      own : IsOwn n.role n.way n.own n.came (Some o.used)
      own = own_as o.used o.used_is

      good : (c : List ℕ) → c ≡ n.came → IsGood n.role n.way c
      good c e = subst (λ (s : List ℕ). IsGood n.role n.way s) (sym e) (opens_good n.role n.way o.used own.1 n.came own.3)

      prefix : (c w owed : List ℕ) → c ≡ n.came → w ≡ take n.said n.own → Owes n.role n.way c owed → IsPrefix owed w
      prefix c w owed e f d =
          let is : owed ≡ own.0 ++ own.1 = owes_one n.role n.way o.used own.0 own.1 n.came owed own.2 own.3 (subst (λ (s : List ℕ). Owes n.role n.way s owed) e d) in
          ([], whole_is w f ∙ (own.4 ∙ (sym is ∙ sym (append-nil owed))))

      go : (c w : Option (List ℕ)) → Told c (λ s. s ≡ n.came) → Told w (λ t. t ≡ take n.said n.own) → Told c (λ came. Told w (λ written. IsGood n.role n.way came × ((owed : List ℕ) → Owes n.role n.way came owed → IsPrefix owed written)))
      go None w x y = tt
      go (Some c) None x y = tt
      go (Some c) (Some w) x y = (good c x, λ owed d. prefix c w owed x y d)

  -- over TCP and IPC both greetings are whole
  pub hellos : (framing : Framing) (u : ℕ) → n.used ≡ Some u → n.way ≡ ways.Greeting framing → Told (seen n.link).written (λ t. t ≡ hello (role_number n.role)) × Told (seen n.link).came (λ s. s ≡ hello (peer_number n.role) ++ drop u n.came)
  hellos framing u e by =
      let own = own_as u e in
      let first = subst (λ (v : Way). Begins n.role v own.0) by own.2 in
      let opens = subst (λ (v : Way). OpensWith n.role v u own.1 n.came) by own.3 in
      let own_is : n.own ≡ hello (role_number n.role) = own.4 ∙ (ap (λ (v : List ℕ). own.0 ++ v) opens.1 ∙ (append-nil own.0 ∙ first)) in
      let rest : drop u n.came ≡ opens.2.0 = ap (λ (k : ℕ). drop k n.came) opens.0 ∙ (ap (drop 8) opens.2.1 ∙ drop-append_seam (hello (peer_number n.role)) opens.2.0) in
      let came_is : n.came ≡ hello (peer_number n.role) ++ drop u n.came = opens.2.1 ∙ ap (λ (v : List ℕ). hello (peer_number n.role) ++ v) (sym rest) in
      (told_so (λ t. t ≡ take n.said n.own) (λ t. t ≡ hello (role_number n.role)) (seen n.link).written (λ w x. whole_is w x ∙ own_is) o.stands.written, told_so (λ s. s ≡ n.came) (λ s. s ≡ hello (peer_number n.role) ++ drop u n.came) (seen n.link).came (λ s x. x ∙ came_is) o.stands.came)

  pub met : (u : ℕ) → n.used ≡ Some u → side_of n.way ≡ None → Met (drop u n.came) (seen n.link)
  met u e none = go n.way refl none
    where
      go : (way : Way) → n.way ≡ way → side_of n.way ≡ None → Met (drop u n.came) (seen n.link)
      go (ways.Greeting framing) is x = let h = hellos framing u e is in (n.role, h.0, h.1)
      go (ways.Serves path) is x = absurd (cc (sym (ap side_of is) ∙ x))
      go (ways.Asks addr start) is x = absurd (cc (sym (ap side_of is) ∙ x))

-- the framing of a way is that of its scheme
pub framed_as : (way : Way) → framed_by way ≡ framing_for (scheme_for way)
framed_as (ways.Greeting framing) = sym (framing-under framing)
framed_as (ways.Serves path) = refl
framed_as (ways.Asks addr start) = refl
