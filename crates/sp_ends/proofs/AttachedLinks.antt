-- A link whose opening is done becomes a pipe, or is refused.
use Rattle.std.proofs.Common.{◌≡◌, refl, ap, sym, ◌∙◌, subst, List, [], ◌∷◌, ◌++◌, ℕ, ◌+◌, ◌≤◌, ◌<◌, true, false, arith, drop, inl, Option, Some, None, IfSome}
use Rattle.std.specs.Prelude.{◌^◌}
use Rattle.turn_lock.specs.declared.turn.Turn.{Turn}
use Rattle.sp_base.specs.Outside.{Told}
use Rattle.sp_base.specs.SpTcp.{hello}
use Rattle.sp_base.specs.Views.{LinkView, NetView}
use Rattle.sp_base.specs.Roles.{role_number, role_peer}
use Rattle.sp_base.specs.Wires.{WireView, OverLink, numbers_of, scheme_number}
use Rattle.sp_base.specs.SpStream.{scheme_under}
use Rattle.sp_base.specs.declared.framing.Framing.{Framing}
use Rattle.sp_base.specs.declared.framing.Framing.TheVariants as framings
use Rattle.sp_base.specs.declared.role.Role.{Role}
use Rattle.sp_base.specs.declared.role.Role.TheVariants.{Pair0, Pair1, Pub, Sub, Req, Rep, Push, Pull, Surveyor, Respondent, Bus}
use Rattle.sp_base.specs.declared.addr.Scheme.{Scheme}
use Rattle.sp_base.specs.declared.addr.Scheme.TheVariants as schemes
use Rattle.sp_msg.specs.Marks.{wire_view, fresh_marks}
use Rattle.sp_tcp.specs.TcpWires.{told_number, number_in, none_of}
use Rattle.std.proofs.lemmas.Nat.{from_be_bytes-to_be_bytes_2}
use Rattle.sp_history.specs.declared.entry.Entry.{Entry}
use Rattle.sp_history.specs.declared.entry.Entry.TheVariants.{Up}
use Rattle.sp_history.specs.declared.entry.Miss.{Miss}
use Rattle.sp_history.specs.declared.setting.Setting.{Setting}
use Rattle.sp_history.specs.Past.{past_of, ups}
use Rattle.sp_core.specs.Moving.{AreSettling}
use Rattle.sp_core.specs.Standing.{HasFirst}
use Rattle.sp_core.specs.Attaching.{RefusedAttach}
use Rattle.core_state.specs.Wires.{IsUnused}
use Rattle.core_state.specs.declared.causes.AttachError.{AttachError}
use Rattle.core_state.specs.declared.causes.AttachError.TheVariants as refused
use Rattle.sp_socket.specs.Singles.{SingleView, TookOne}
use Rattle.sp_links.specs.Ways.{peer_number}
use Rattle.sp_ends.specs.LinkRecords.{lane_place, greeting, WasRefused}
use Rattle.sp_ends.specs.LinkCounts.{greeting_ticks, CanRise}
use Rattle.sp_links.specs.declared.way.Way.{Way}
use Rattle.sp_links.specs.declared.way.Way.TheVariants as ways
use Rattle.sp_links.specs.declared.opening.Opening.{Opening}
use Rattle.sp_links.specs.Openings.{scheme_for}
use Rattle.sp_links.specs.Origins.{Origins, IsAmong, IsKnown}
use Rattle.sp_links.specs.Going.{IsOpened}
use Rattle.sp_links.specs.Numbers.{way_number}
use Rattle.sp_links.specs.Opened.{side_of, renamed, opened_number}
use Rattle.sp_links.specs.EndWires.{IsNewBy, IsNewWsOver, IsNewOver, behind, shown, link_of}
use Rattle.sp_links.specs.declared.wire.EndWire.{EndWire}
use Rattle.sp_links.specs.declared.wire.EndWire.TheVariants as wires
use Rattle.sp_ws.specs.declared.side.Side.{Side}
use Rattle.sp_links.proofs.OverLink.{hellos}
use Rattle.sp_ends.specs.declared.newcomer.Newcomer.{Newcomer}
use Rattle.sp_ends.specs.EndViews.{Beginning}
use Rattle.sp_ends.specs.RunLinks.{LinksStand, HandStands, IsOfRun, IsNameOver, AreNumbers, name_number, IsNoneOr, IsCauseOf}
use Rattle.sp_ends.specs.NewcomerSteps.{MissesFor}
use Rattle.sp_history.specs.Lists.{has}
use Rattle.sp_ends.proofs.LinkPlaces.{no_lane}
use Rattle.sp_ends.proofs.Hands.{hand_waits, hand_up, hand_stays, is_refused}
use Rattle.sp_ends.proofs.Turns.{after_one}

-- ---- Its name

pub small_role : (r : Role) → role_number r < 2 ^ 16
small_role Pair0 = omega arith
small_role Pair1 = omega arith
small_role Pub = omega arith
small_role Sub = omega arith
small_role Req = omega arith
small_role Rep = omega arith
small_role Push = omega arith
small_role Pull = omega arith
small_role Surveyor = omega arith
small_role Respondent = omega arith
small_role Bus = omega arith

pub number_hello : (n : ℕ) (rest : List ℕ) → n < 2 ^ 16 → number_in (hello n ++ rest) ≡ n
number_hello n rest l = from_be_bytes-to_be_bytes_2 n l

number_alone : (n : ℕ) → n < 2 ^ 16 → number_in (hello n) ≡ n
number_alone n l = from_be_bytes-to_be_bytes_2 n l

told_is : (n : ℕ) (rest : List ℕ) (told : Option (List ℕ)) → n < 2 ^ 16 → Told told (λ s. s ≡ hello n ++ rest) → IsNoneOr n (told_number told)
told_is n rest None l t = tt
told_is n rest (Some s) l t = ap number_in t ∙ number_hello n rest l

told_alone : (n : ℕ) (told : Option (List ℕ)) → n < 2 ^ 16 → Told told (λ s. s ≡ hello n) → IsNoneOr n (told_number told)
told_alone n None l t = tt
told_alone n (Some s) l t = ap number_in t ∙ number_alone n l

none_is : (o : Option (List ℕ)) → IfSome (none_of o) (λ texts. texts ≡ [])
none_is None = tt
none_is (Some s) = refl

-- the numbers of a wire over TCP or IPC
pub name_under : (f : Framing) → scheme_number (scheme_under f) ≡ name_number (scheme_under f)
name_under framings.Tcp = refl
name_under framings.Ipc = refl

numbers_under : (o : Origins) (z : Setting) (f : Framing) (own peer : Option ℕ) → IsNoneOr (role_number z.role) own → IsNoneOr (peer_number z.role) peer → AreNumbers o z (scheme_under f) own peer
numbers_under o z framings.Tcp own peer a b = (a, b)
numbers_under o z framings.Ipc own peer a b = (a, b)

-- what a new wire over a link of the run shows
pub record IsNewShown (o : Origins) (z : Setting) (max : ℕ) (link : LinkView) (w : WireView) : Type 0 where
  pub own : Option ℕ
  pub peer : Option ℕ
  pub came : Option (List (List ℕ))
  pub outs : Option (List (List ℕ))
  pub is : w ≡ wire_view (OverLink link.place max (name_number link.scheme) (link.idles + link.stalls) own peer) came outs 0 false fresh_marks
  pub none_came : IfSome came (λ texts. texts ≡ [])
  pub none_outs : IfSome outs (λ texts. texts ≡ [])
  pub are : AreNumbers o z link.scheme own peer

module _ {L : Type 0} (seen : L → LinkView) (o : Origins) (z : Setting) (n : Opening L) (max : ℕ) (opened : IsOpened seen n) (run : IsOfRun seen o z n) where
  abbrev link : LinkView
  link = seen n.link

  over_web : (way : Way) → n.way ≡ way → scheme_for way ≡ schemes.Ws → (side : Side) (w : EndWire L) → IsNewWsOver side max (behind n.used n.came) n.role way link w → IsNewShown o z max link (shown w)
  over_web way is web side (wires.Tcp v) x = absurd x
  over_web way is web side (wires.Lane v) x = absurd x
  over_web way is web side (wires.Ws v) (new, role, by, stands) =
      let at_web : link.scheme ≡ schemes.Ws = run.scheme ∙ (ap scheme_for is ∙ web) in
      record {
        own = Some (role_number n.role);
        peer = Some (way_number way);
        came = Some [];
        outs = Some [];
        is = stands.wire ∙ (ap (λ (r : Role). renamed r v.way v.ws.wire) role ∙ (ap (λ (b : Way). renamed n.role b v.ws.wire) by ∙ (ap (renamed n.role way) new.wire
            ∙ ap (λ (k : ℕ). wire_view (OverLink link.place max k (link.idles + link.stalls) (Some (role_number n.role)) (Some (way_number way))) (Some []) (Some []) 0 false fresh_marks) (ap (λ (s : Scheme). opened_number (scheme_number s)) at_web ∙ ap name_number (sym at_web)))));
        none_came = refl;
        none_outs = refl;
        are = subst (λ (s : Scheme). AreNumbers o z s (Some (role_number n.role)) (Some (way_number way))) (sym at_web)
            (ap (λ (r : Role). Some (role_number r)) run.role, (way, refl, web, subst (λ (b : Way). IsKnown o b) is run.known));
      }

  pub new_shows : (w : EndWire L) → IsNewOver seen max n w → IsNewShown o z max link (shown w)
  new_shows w new = go n.way refl w new
    where
      go : (way : Way) → n.way ≡ way → (w : EndWire L) → IsNewBy (side_of way) max (behind n.used n.came) n.role way link w → IsNewShown o z max link (shown w)
      go (ways.Greeting f) is (wires.Ws v) x = absurd x
      go (ways.Greeting f) is (wires.Lane v) x = absurd x
      go (ways.Greeting f) is (wires.Tcp v) x =
          let told = hellos seen n opened f opened.used opened.used_is is in
          let at : link.scheme ≡ scheme_under f = run.scheme ∙ ap scheme_for is in
          record {
            own = told_number link.written;
            peer = told_number link.came;
            came = none_of link.came;
            outs = none_of link.written;
            is = x.wire ∙ ap (λ (k : ℕ). wire_view (OverLink link.place max k (link.idles + link.stalls) (told_number link.written) (told_number link.came)) (none_of link.came) (none_of link.written) 0 false fresh_marks) (ap scheme_number at ∙ name_under f ∙ ap name_number (sym at));
            none_came = none_is link.came;
            none_outs = none_is link.written;
            are = subst (λ (s : Scheme). AreNumbers o z s (told_number link.written) (told_number link.came)) (sym at)
                (numbers_under o z f (told_number link.written) (told_number link.came)
                (subst (λ (r : Role). IsNoneOr (role_number r) (told_number link.written)) run.role (told_alone (role_number n.role) link.written (small_role n.role) told.0))
                (subst (λ (r : Role). IsNoneOr (peer_number r) (told_number link.came)) run.role (told_is (peer_number n.role) (drop opened.used n.came) link.came (small_role (role_peer n.role)) told.1)));
          }
      go (ways.Serves path) is w x = over_web (ways.Serves path) is refl _ w x
      go (ways.Asks addr start) is w x = over_web (ways.Asks addr start) is refl _ w x

  -- it runs over this link
  pub new_link : (w : EndWire L) → IsNewOver seen max n w → link_of w ≡ Some link
  new_link w new = go n.way w new
    where
      web : (way : Way) (side : Side) (w : EndWire L) → IsNewWsOver side max (behind n.used n.came) n.role way link w → link_of w ≡ Some link
      web way side (wires.Tcp v) x = absurd x
      web way side (wires.Lane v) x = absurd x
      web way side (wires.Ws v) x = ap Some x.0.link_is

      go : (way : Way) (w : EndWire L) → IsNewBy (side_of way) max (behind n.used n.came) n.role way link w → link_of w ≡ Some link
      go (ways.Greeting f) (wires.Ws v) x = absurd x
      go (ways.Greeting f) (wires.Lane v) x = absurd x
      go (ways.Greeting f) (wires.Tcp v) x = ap Some x.link_is
      go (ways.Serves path) w x = web (ways.Serves path) _ w x
      go (ways.Asks addr start) w x = web (ways.Asks addr start) _ w x

  -- it was not used
  pub new_unused : (w : EndWire L) → IsNewOver seen max n w → IsUnused (shown w)
  new_unused w new =
      let s = new_shows w new in
      subst IsUnused (sym s.is) (record { came = s.none_came; outs = s.none_outs; waits = refl; fulls = refl; idles = refl; stalls = refl; faults = refl; refusals = refl; ended = refl; malformed = refl; is_open = refl })

  -- it has a name
  pub is_named : (past : List Entry) (place : ℕ) (w : EndWire L) → place ≡ link.place → IsNewOver seen max n w → (CanRise link.idles → CanRise link.stalls → greeting_ticks past link.place ≤ link.idles + link.stalls + 1) → IsNameOver o z past place max (numbers_of (shown w).name)
  is_named past place w is new asked =
      let s = new_shows w new in
      record {
        scheme = link.scheme;
        spent = link.idles + link.stalls;
        own = s.own;
        peer = s.peer;
        is = ap (λ (v : WireView). numbers_of v.name) s.is ∙ ap (λ (q : ℕ). numbers_of (OverLink q max (name_number link.scheme) (link.idles + link.stalls) s.own s.peer)) (sym is);
        are = s.are;
        rounds = rises;
      }
    where
      rises : CanRise (link.idles + link.stalls) → greeting_ticks past place ≤ link.idles + link.stalls + 1
      rises r = let a = asked (omega (arith, r)) (omega (arith, r)) in let same : greeting_ticks past place ≡ greeting_ticks past link.place = ap (λ (q : ℕ). greeting_ticks past q) is in omega (arith, a, same)

-- ---- The result

module _ {L : Type 0} (seen : L → LinkView) (start : Beginning) (net : NetView) (ns : List (Newcomer L)) (k : ℕ) (says : Setting → List (Turn Entry) → Turn Entry → Type 0) (a b : SingleView) (took : TookOne says a b) (n : Opening L) where
  abbrev over : LinkView
  over = seen n.link

  -- it isn't at the place of lanes
  apart : HandStands seen a.setting start a.seen net ns k over → over.place ≡ lane_place → ⊥
  apart s lane =
      let on : has (greeting (past_of a.seen)) lane_place ≡ true = subst (λ (m : ℕ). has (greeting (past_of a.seen)) m ≡ true) lane (hand_waits seen a.setting start a.seen ns k over s.hand) in
      let off = no_lane start.net.opened net.opened s.kept.few (past_of a.seen) s.kept.in_place in
      let no : true ≡ false = sym on ∙ off in cc

  -- it came up
  pub up_stands : (max p place : ℕ) (w : EndWire L) → IsOpened seen n → IsOfRun seen start.origins a.setting n → IsAmong max start.origins.limits → IsNewOver seen max n w → place ≡ over.place → p ≡ ups (past_of a.seen) + 1 → HasFirst (Up p place max (record { numbers = numbers_of (shown w).name })) took.turn → HandStands seen a.setting start a.seen net ns k over → LinksStand seen b.setting start b.seen net ns k
  up_stands max p place w opened run limit new is next first s =
      after_one says a b took (λ z h. LinksStand seen z start h net ns k) (λ l. hand_up seen a.setting start a.seen ns k net took.turn over p max (record { numbers = numbers_of (shown w).name }) s next (inl (apart s, limit, is_named seen start.origins a.setting n max opened run (past_of a.seen) over.place w refl new s.hand.asked)) (subst (λ (q : ℕ). HasFirst (Up p q max (record { numbers = numbers_of (shown w).name })) took.turn) is first) l)

  -- it is still in hand
  pub hand_again : AreSettling took.turn.entries → HandStands seen a.setting start a.seen net ns k over → HandStands seen b.setting start b.seen net ns k over
  hand_again q s = after_one says a b took (λ z h. HandStands seen z start h net ns k over) (λ l. hand_stays seen a.setting start a.seen ns k net took.turn over s q l)

  was_refused : (why : AttachError) → (why ≡ refused.NoMemory → ⊥) → RefusedAttach why a.setting (past_of a.seen) → HandStands seen a.setting start a.seen net ns k over → WasRefused b.setting b.seen over.place
  was_refused why n r s =
      after_one says a b took (λ z h. WasRefused z h over.place) (λ l. (a.seen, took.turn ∷ [], refl, hand_waits seen a.setting start a.seen ns k over s.hand, is_refused a.setting (past_of a.seen) why r n))

  -- why it was refused
  pub refused_cause : (why : AttachError) (miss : Miss) → MissesFor why miss → RefusedAttach why a.setting (past_of a.seen) → IsOfRun seen start.origins a.setting n → HandStands seen a.setting start a.seen net ns k over → IsCauseOf start.origins b.setting b.seen miss over
  refused_cause refused.NoMemory miss m r run s = subst (λ (x : Miss). IsCauseOf start.origins b.setting b.seen x over) (sym m) (n.way, (run.scheme, run.known), tt)
  refused_cause refused.Closed miss m r run s = subst (λ (x : Miss). IsCauseOf start.origins b.setting b.seen x over) (sym m) (n.way, (run.scheme, run.known), was_refused refused.Closed (λ e. cc) r s)
  refused_cause refused.Refused miss m r run s = subst (λ (x : Miss). IsCauseOf start.origins b.setting b.seen x over) (sym m) (n.way, (run.scheme, run.known), was_refused refused.Refused (λ e. cc) r s)
  refused_cause refused.Many miss m r run s = subst (λ (x : Miss). IsCauseOf start.origins b.setting b.seen x over) (sym m) (n.way, (run.scheme, run.known), was_refused refused.Many (λ e. cc) r s)
