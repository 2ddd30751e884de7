-- What parts of a round do, one after another.
use Rattle.std.proofs.Common.{◌≡◌, refl, ap, sym, ◌∙◌, subst, inl, inr, List, [], ◌∷◌, ◌++◌, ℕ, ◌≤◌, Bool, true, false, arith, length, Option, Some, None}
use Rattle.std.specs.Prelude.{IsTrue, ◌&&◌, ◌||◌, not, is_some, nat_lt}
use Rattle.std.specs.List.{list_any}
use Rattle.turn_lock.specs.declared.turn.Turn.{Turn}
use Rattle.sp_base.specs.Views.{SinkView}
use Rattle.sp_base.specs.declared.OpName.{OpName}
use Rattle.sp_history.specs.declared.entry.Entry.{Entry}
use Rattle.sp_history.specs.declared.entry.Entry.TheVariants.{Up, Met, NoUp, Taken, Tick, Begin, Took, Topic, Ctx, Close, Stall}
use Rattle.sp_history.specs.declared.setting.Setting.{Setting}
use Rattle.sp_history.specs.Changes.{none_of}
use Rattle.sp_history.specs.Past.{onto, past_of, up, pend}
use Rattle.sp_history.proofs.Appending.{past_of-append, LegalFrom-prefix}
use Rattle.sp_socket.specs.Singles.{SingleView, TookOne}
use Rattle.cat_play.specs.Scripts.{has_ticked, under_way, over, texts, joined}
use Rattle.sp_ends.specs.Entries.{each, is_tick}
use Rattle.cat_play.specs.Playing.{alternates, may_rest}
use Rattle.core_state.specs.declared.served.Served.{Served}
use Rattle.sp_core.specs.CallSays.{ServesPipes}
use Rattle.sp_core.specs.Serving.{IsServing, AreServing, stalls_in}
use Rattle.sp_base.specs.Outside.{grown}
use Rattle.sp_ends.specs.Entries.{moves_ends, moves_calls}
use Rattle.cat_rounds.specs.declared.player.PlayEnd.TheVariants as overs
use Rattle.cat_rounds.specs.declared.player.Player.{Player}
use Rattle.cat_rounds.specs.Lasting.{play_of, PlayStands, IsUnderWay, HasPrinted, HasServed, MayTick, AreOn}
use Rattle.cat_rounds.specs.Parts.{RunPartsView}
use Rattle.cat_rounds.specs.RunRounds.{AreCleared, has_more}
use Rattle.cat_rounds.specs.PlayerSteps.{Stands, GoesOnBy, SameScript, KnowsPipes}
use Rattle.cat_rounds.proofs.Silent.{keeps_all, adds_nothing, adds_then, swept_stays}
use Rattle.cat_rounds.proofs.BeginOrder.{goes_on_while_busy, free_pends_none}
use Rattle.cat_rounds.proofs.Cleared.{is_stall, all_cleared}
use Rattle.cat_play.proofs.Stepping.{open_is}
use Rattle.sp_history.specs.Legal.{Legal, sending}
use Rattle.sp_history.specs.Found.{is_begin, is_out}
use Rattle.sp_history.specs.Setting.{is_req}
use Rattle.cat_rounds.proofs.Unsent.{IsSilent, nothing_sent, sends_once}
use Rattle.cat_rounds.proofs.Answered.{is_over_so, none_live}
use Rattle.std.proofs.lemmas.Bool.Decides.{nat_tests}
use Rattle.cat_rounds.proofs.PlaysStay.{a_serve_serves}
use Rattle.cat_rounds.proofs.Begins.{at_new, goes_on_by, silent_stands, silent_texts}
use Rattle.sp_history.specs.Lists.{is_nil}

-- ---- Turns without a tick leave the pipes served

ends_tick : (e : Entry) → moves_ends e ≡ false → is_tick e ≡ false
ends_tick (Tick t due) h = cc
ends_tick _ h = refl

ticked_step : (e : Entry) (past : List Entry) → moves_ends e ≡ false → has_ticked (e ∷ past) ≡ has_ticked past
ticked_step (Tick t due) past h = cc
ticked_step _ past h = refl

none_step : (f : Entry → Bool) (e : Entry) (es : List Entry) → none_of f (e ∷ es) ≡ true → (f e ≡ false) × (none_of f es ≡ true)
none_step f e es h = go (f e) (none_of f es) h
  where
    go : (a b : Bool) → (not a && b) ≡ true → (a ≡ false) × (b ≡ true)
    go true b h = cc
    go false b h = (refl, h)

ticked_stays : (entries past : List Entry) → none_of moves_ends entries ≡ true → has_ticked (onto entries past) ≡ has_ticked past
ticked_stays [] past h = refl
ticked_stays (e ∷ es) past h =
    let s = none_step moves_ends e es h in
    ticked_stays es (e ∷ past) s.1 ∙ ticked_step e past s.0

no_tick : (es : List Entry) → none_of moves_ends es ≡ true → list_any is_tick es ≡ false
no_tick [] h = refl
no_tick (e ∷ es) h =
    let s = none_step moves_ends e es h in
    rw (ends_tick e s.0) (no_tick es s.1)

served_turn : (z : Setting) (h : List (Turn Entry)) (t : Turn Entry) → none_of moves_ends t.entries ≡ true → HasServed z h → HasServed z (h ++ t ∷ [])
served_turn z h t none was ticked =
    swept_stays z h t (no_tick t.entries none) (was (sym (ap has_ticked (past_of-append h t) ∙ ticked_stays t.entries (past_of h) none) ∙ ticked))

pub served_on : (s s' : SingleView) → GoesOnBy s s' → HasServed s.setting s.seen → HasServed s'.setting s'.seen
served_on s s' g was =
    subst (λ (z : Setting). HasServed z s'.seen) (sym g.setting) (keeps_all moves_ends (λ h. HasServed s.setting h) (served_turn s.setting) s.seen s'.seen g.links was)

-- ---- One part after another

pub goes_nowhere : (a : SingleView) → GoesOnBy a a
goes_nowhere a = record { setting = refl; links = adds_nothing moves_ends a.seen }

pub goes_then : (a b c : SingleView) → GoesOnBy a b → GoesOnBy b c → GoesOnBy a c
goes_then a b c g h = record { setting = h.setting ∙ g.setting; links = adds_then moves_ends a.seen b.seen c.seen g.links h.links }

-- a part of a round that succeeded
pub record Along (s s' : SingleView) (p p' : Player) (out out' : SinkView) : Type 0 where
  pub goes_on : GoesOnBy s s'
  pub script : SameScript p p'
  pub printed : (before : Option (List ℕ)) → HasPrinted before out.text s.seen p → HasPrinted before out'.text s'.seen p'
  pub faultless : out'.faults ≡ out.faults

-- nothing was done, on the parts in use
pub along_none : {L : Type 0} (a b : RunPartsView L) (out : SinkView) → a ≡ b → Along b.single a.single b.player a.player out out
along_none a b out is =
    subst (λ (v : RunPartsView _). Along v.single a.single v.player a.player out out) is (record { goes_on = goes_nowhere a.single; script = refl; printed = λ before h. h; faultless = refl })

pub along_then : (a b c : SingleView) (p q r : Player) (x y w : SinkView) → Along a b p q x y → Along b c q r y w → Along a c p r x w
along_then a b c p q r x y w f g =
    record {
      goes_on = goes_then a b c f.goes_on g.goes_on;
      script = g.script ∙ f.script;
      printed = λ before h. g.printed before (f.printed before h);
      faultless = g.faultless ∙ f.faultless;
    }

-- ---- An ended play has nothing under way

pub free_at_end : (z : Setting) (h : List (Turn Entry)) (p : Player) → PlayStands z h p → (p.over ≡ overs.Open → ⊥) → p.op ≡ None
free_at_end z h p s n = go p.op refl
  where
    go : (o : Option OpName) → p.op ≡ o → o ≡ None
    go None e = refl
    go (Some op) e =
        let hand = subst (λ (o : Option OpName). IsUnderWay o h) e s.hand in
        let off = goes_on_while_busy z (play_of p.script) op (past_of h) s.is_open s.so_far.verbs hand.0 in
        let on = is_over_so p.over z p (past_of h) n s.over in
        cc

-- ---- A turn that serves the pipes

serving_play : (e : Entry) → IsServing e → moves_calls e ≡ false
serving_play (Begin op k c act d) s = absurd s
serving_play (Took op k) s = absurd s
serving_play (Tick t due) s = absurd s
serving_play (Topic c t switch) s = absurd s
serving_play (Ctx c gate) s = absurd s
serving_play (Close totals) s = absurd s
serving_play _ s = refl

serving_ends : (e : Entry) → IsServing e → moves_ends e ≡ false
serving_ends (Up p place limit name) s = absurd s
serving_ends (Met place) s = absurd s
serving_ends (NoUp place miss) s = absurd s
serving_ends (Taken p) s = absurd s
serving_ends (Tick t due) s = absurd s
serving_ends _ s = refl

pub serving_silent : (es : List Entry) → AreServing es → none_of moves_calls es ≡ true
serving_silent [] s = refl
serving_silent (e ∷ es) s = rw (serving_play e s.0) (serving_silent es s.1)

pub serving_linkless : (es : List Entry) → AreServing es → none_of moves_ends es ≡ true
serving_linkless [] s = refl
serving_linkless (e ∷ es) s = rw (serving_ends e s.0) (serving_linkless es s.1)

-- what it leaves
pub record ServedOnce (s s' : SingleView) (p : Player) (out : SinkView) (t : ℕ) : Type 0 where
  pub stands : Stands s' p t
  pub along : Along s s' p p out out
  pub served : HasServed s'.setting s'.seen

pub serve_along : (r : Served) (s s' : SingleView) (p : Player) (out : SinkView) (t : ℕ) → TookOne (ServesPipes r) s s' → Stands s p t → ServedOnce s s' p out t
serve_along r s s' p out t took stands =
    let kinds = took.said.2.kinds in
    let silent = serving_silent took.turn.entries kinds in
    let linkless = serving_linkless took.turn.entries kinds in
    record {
      stands = silent_stands s s' took p t silent stands;
      along = record {
        goes_on = goes_on_by s s' took linkless;
        script = refl;
        printed = λ before h. h ∙ ap (λ (ts : List (List ℕ)). grown before (joined ts)) (sym (silent_texts s s' took (play_of p.script) silent stands.play.is_open));
        faultless = refl;
      };
      served = at_new s s' took (λ z h. HasServed z h) (a_serve_serves s.setting s.seen took.turn (no_tick took.turn.entries linkless) took.said.0);
    }

-- ---- What a serve returns

nil_is : (xs : List ℕ) (n : ℕ) → n ≡ length xs → is_nil xs ≡ not (nat_lt 0 n)
nil_is [] n e = grind (arith, nat_tests)
nil_is (x ∷ xs) n e = grind (arith, nat_tests)

pub serve_knows : (r : Served) (s s' : SingleView) (p : Player) → TookOne (ServesPipes r) s s' → KnowsPipes (nat_lt 0 r.up) s' p
serve_knows r s s' p took flood body free none =
    at_new s s' took (λ z h. is_nil (up (past_of h)) ≡ not (nat_lt 0 r.up)) (nil_is (up (past_of (s.seen ++ took.turn ∷ []))) r.up took.said.4)

-- ---- The play is over

or_last : (a b c : Bool) → c ≡ true → (a || b || c) ≡ true
or_last true b c h = refl
or_last false true c h = refl
or_last false false c h = h

-- nothing is under way, so the next tick may come
pub may_tick_at_end : (z : Setting) (h : List (Turn Entry)) (p : Player) → PlayStands z h p → AreOn p.script.topics (past_of h) → HasServed z h → p.op ≡ None → (p.over ≡ overs.Open → ⊥) → MayTick z h p
may_tick_at_end z h p s on served free n =
    let o = is_over_so p.over z p (past_of h) n s.over in
    record {
      served = served;
      collected = s.idle free;
      topics_on = on;
      busy = or_last (not (has_ticked (past_of h))) (is_some (under_way (past_of h))) (may_rest z (play_of p.script) (past_of h)) (rests o);
    }
  where
    rests : over z (play_of p.script) (past_of h) ≡ true → may_rest z (play_of p.script) (past_of h) ≡ true
    rests o = rw o refl

no_stalls : (es : List Entry) → stalls_in es ≡ 0 → none_of is_stall es ≡ true
no_stalls [] h = refl
no_stalls (Stall p ∷ es) h = absurd (omega (arith, h))
no_stalls (e ∷ es) h = no_stalls es h

serving_begin : (e : Entry) → IsServing e → is_begin e ≡ false
serving_begin (Begin op k c act d) s = absurd s
serving_begin _ s = refl

no_begins : (es : List Entry) → AreServing es → none_of is_begin es ≡ true
no_begins [] s = refl
no_begins (e ∷ es) s = rw (serving_begin e s.0) (no_begins es s.1)

-- after a serve that left nothing to be written, where the play is over, all is written
pub through : (r : Served) (s s' : SingleView) (p : Player) (t : ℕ) → TookOne (ServesPipes r) s s' → Stands s p t → p.op ≡ None → (p.over ≡ overs.Open → ⊥) → has_more r ≡ false → AreCleared (past_of s'.seen)
through r s s' p t took stands free n none =
    subst (λ (h : List (Turn Entry)). AreCleared (past_of h)) (sym took.seen) (all_cleared s.seen took.turn took.said.1 (no_stalls took.turn.entries (sym took.said.3.1 ∙ no_wait)) no_outs)
  where
    z : Setting
    z = s.setting

    no_wait : r.waiting ≡ 0
    no_wait = grind (arith, nat_tests)

    all : Legal z (s.seen ++ took.turn ∷ [])
    all = subst (λ (h : List (Turn Entry)). Legal z h) took.seen (subst (λ (y : Setting). Legal y s'.seen) took.setting took.legal)

    under : IsUnderWay None s.seen
    under = subst (λ (o : Option OpName). IsUnderWay o s.seen) free stands.play.hand

    orders : IsTrue (each alternates (past_of s.seen))
    orders =
        subst (λ (past : List Entry). IsTrue (each alternates past)) (open_is (past_of s.seen) stands.play.is_open) stands.play.so_far.alternate

    pends : sending (pend (past_of s.seen)) ≡ []
    pends = ap sending (free_pends_none z s.seen stands.sound.legal orders under)

    -- a req has no live request, and no other role sends again
    silent : (b : Bool) → is_req z.role ≡ b → IsSilent z (past_of s.seen)
    silent true req = inr (none_live z s.seen p stands.sound.legal stands.play req n free)
    silent false other = inl (sends_once z other)

    no_outs : none_of is_out took.turn.entries ≡ true
    no_outs =
        nothing_sent z (past_of s.seen) took.turn (LegalFrom-prefix z [] s.seen took.turn all).1 pends (silent (is_req z.role) refl) (no_begins took.turn.entries took.said.2.kinds)

pub serve_texts : (r : Served) (s s' : SingleView) (p : Player) (t : ℕ) → TookOne (ServesPipes r) s s' → Stands s p t → texts (play_of p.script) (past_of s'.seen) ≡ texts (play_of p.script) (past_of s.seen)
serve_texts r s s' p t took stands = silent_texts s s' took (play_of p.script) (serving_silent took.turn.entries took.said.2.kinds) stands.play.is_open
