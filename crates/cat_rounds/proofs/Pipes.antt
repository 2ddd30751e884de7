-- Whether a pipe is up, as the player knows it.
use Rattle.std.proofs.Common.{◌≡◌, refl, ap, sym, ◌∙◌, subst, List, [], ◌∷◌, ℕ, Bool, true, false, Option, Some, None}
use Rattle.std.specs.Prelude.{IsTrue, ◌&&◌, ◌||◌, not, is_some, is_none}
use Rattle.turn_lock.specs.declared.turn.Turn.{Turn}
use Rattle.sp_base.specs.declared.OpName.{OpName}
use Rattle.sp_base.specs.declared.role.Role.{Role}
use Rattle.sp_base.specs.declared.role.Role.TheVariants as roles
use Rattle.sp_history.specs.declared.entry.RecordedAct.TheVariants.{Recv, Send}
use Rattle.sp_history.specs.declared.entry.Cause.TheVariants as causes
use Rattle.sp_history.specs.declared.entry.Ending.{Ending}
use Rattle.sp_history.specs.declared.entry.Entry.{Entry}
use Rattle.sp_history.specs.declared.entry.Entry.TheVariants.{Begin, Took}
use Rattle.sp_history.specs.declared.setting.Setting.{Setting}
use Rattle.sp_history.specs.Lists.{is_nil}
use Rattle.sp_history.specs.Past.{past_of, up, now}
use Rattle.sp_history.specs.Legal.{Legal}
use Rattle.sp_history.specs.Setting.{floods}
use Rattle.core_state.specs.declared.outcome.Outcome.{Outcome}
use Rattle.core_state.specs.declared.outcome.Outcome.TheVariants as outcomes
use Rattle.sp_socket.specs.Singles.{SingleView}
use Rattle.cat_play.specs.Plans.{Play}
use Rattle.sp_ends.specs.Entries.{each}
use Rattle.cat_play.specs.Playing.{is_in_turn, is_left, is_surveyor, is_within, waits_for_pipe, waits_for_interval}
use Rattle.cat_play.specs.Scripts.{asks_anew, is_receive_next, last_result, last_send, over, receives_next, under_way}
use Rattle.cat_play.proofs.Stepping.{open_is}
use Rattle.cat_rounds.specs.declared.player.Player.{Player}
use Rattle.cat_rounds.specs.Lasting.{play_of, HasSurveys, HasPlayed, PlayStands, IsUnderWay}
use Rattle.cat_rounds.proofs.Surveying.{Plain, before, plain_past, first_asks}
use Rattle.cat_rounds.specs.PlayerSteps.{KnowsPipes, NotedAs, Stands}
use Rattle.cat_rounds.proofs.WhatCounts.{has_body}

-- ---- A play that only sends

-- a role that sends to all sends its data, and receives nothing, or it is a surveyor
floods_sends : (role : Role) (b r : Bool) (last : Option Ending) → is_surveyor role ≡ false → floods role ≡ true → b ≡ true → receives_next role b r last ≡ false
floods_sends roles.Pub b r last other flood body = refl
floods_sends roles.Bus b r last other flood body = rw body refl
floods_sends roles.Surveyor b r last other flood body = cc
floods_sends _ b r last other flood body = cc

right_true : (a b : Bool) → (a && b) ≡ true → b ≡ true
right_true true b h = h
right_true false b h = cc

no_receive : (a b c : Bool) → b ≡ false → ((not a && b) && c) ≡ true → ⊥
no_receive true b c e h = cc
no_receive false true c e h = cc
no_receive false false c e h = cc

-- what is under way before the first send is that send
under_sent : (z : Setting) (play : Play) (past : List Entry) → z.role ≡ play.role → HasSurveys z → floods play.role ≡ true → is_some play.body ≡ true → Plain z play past → IsTrue (each (is_in_turn z play) past) → is_some (under_way past) ≡ true → is_some (last_send past) ≡ true
under_sent z play [] role has_ flood body plain verbs under = cc
under_sent z play (Begin op k c (Send m) d ∷ past) role has_ flood body plain verbs under = refl
under_sent z play (Begin op k c Recv d ∷ past) role has_ flood body plain verbs under = go (last_send past) refl
  where
    sends : last_send past ≡ None → is_receive_next z play past ≡ false
    sends none = by_role (is_surveyor play.role) refl
      where
        by_role : (x : Bool) → is_surveyor play.role ≡ x → is_receive_next z play past ≡ false
        by_role true e = first_asks z play past role has_ e (before z play (Begin op k c Recv d) past plain) none
        by_role false e = floods_sends play.role (is_some play.body) (asks_anew z past) (last_result past) e flood body

    go : (o : Option ℕ) → last_send past ≡ o → is_some o ≡ true
    go (Some n) e = refl
    go None e = elim (no_receive (over z play past) (is_receive_next z play past) (each (is_in_turn z play) past) (sends e) verbs) [ ]
under_sent z play (Took op k ∷ past) role has_ flood body plain verbs under = cc
under_sent z play (e ∷ past) role has_ flood body plain verbs under =
    under_sent z play past role has_ flood body (before z play e past plain) (right_true (is_in_turn z play past e) (each (is_in_turn z play) past) verbs) under

none_sent : (o : Option ℕ) → is_some o ≡ true → o ≡ None → ⊥
none_sent None some none = cc
none_sent (Some n) some none = cc

-- so something was sent where an operation is under way
was_sent : (z : Setting) (h : List (Turn Entry)) (p : Player) (op : OpName) → Legal z h → PlayStands z h p → p.op ≡ Some op → floods p.script.role ≡ true → is_some p.script.body ≡ true → p.last_send ≡ None → ⊥
was_sent z h p op legal stands held flood body none =
    none_sent (last_send (past_of h)) (under_sent z (play_of p.script) (past_of h) stands.role stands.surveys flood body (plain_past z h p legal stands) verbs under) (stands.sent ∙ none)
  where
    verbs : IsTrue (each (is_in_turn z (play_of p.script)) (past_of h))
    verbs =
        subst (λ (past : List Entry). IsTrue (each (is_in_turn z (play_of p.script)) past)) (open_is (past_of h) stands.is_open) stands.so_far.verbs

    hand : IsUnderWay (Some op) h
    hand = subst (λ (o : Option OpName). IsUnderWay o h) held stands.hand

    under : is_some (under_way (past_of h)) ≡ true
    under = ap is_some hand.0

-- a player that holds an operation no longer waits for a pipe, also after the operation was collected
pub knows_after : (has_pipe : Bool) (z : Setting) (h : List (Turn Entry)) (p : Player) (op : OpName) (s' : SingleView) (p' : Player) → Legal z h → PlayStands z h p → p.op ≡ Some op → p'.script ≡ p.script → p'.last_send ≡ p.last_send → KnowsPipes has_pipe s' p'
knows_after has_pipe z h p op s' p' legal stands held script sent flood body free none =
    elim (was_sent z h p op legal stands held (sym (ap (λ s. floods s.role) script) ∙ flood) (sym (ap (λ s. is_some s.body) script) ∙ body) (sym sent ∙ none)) [ ]

-- what was collected leaves the last send
pub noted_sent : (is_over : Bool) (o : Outcome) (old new : Player) → NotedAs is_over o old new → new.last_send ≡ old.last_send
noted_sent is_over (outcomes.Received m) old new n = ap (λ (p : Player). p.last_send) n
noted_sent is_over outcomes.Sent old new n = ap (λ (p : Player). p.last_send) n
noted_sent is_over (outcomes.Gone causes.TimedOut by back) old new n = ap (λ (p : Player). p.last_send) n
noted_sent is_over (outcomes.Gone causes.Cancelled by back) old new n = ap (λ (p : Player). p.last_send) n
noted_sent is_over (outcomes.Gone causes.Closed by back) old new n = ap (λ (p : Player). p.last_send) n
noted_sent is_over (outcomes.Gone causes.Superseded by back) old new n = ap (λ (p : Player). p.last_send) n
noted_sent is_over (outcomes.Gone causes.SurveyOver by back) old new n = ap (λ (p : Player). p.last_send) n

-- ---- Whether the first send waits

pub waits_is : (has_pipe : Bool) (s : SingleView) (p : Player) → PlayStands s.setting s.seen p → p.op ≡ None → is_receive_next s.setting (play_of p.script) (past_of s.seen) ≡ false → KnowsPipes has_pipe s p → waits_for_pipe (play_of p.script) (past_of s.seen) ≡ (floods p.script.role && is_none p.last_send && not has_pipe)
waits_is has_pipe s p stands free next knows =
    ap (λ l. floods p.script.role && is_none l && is_nil (up (past_of s.seen))) stands.sent ∙ go (floods p.script.role) refl p.last_send refl
  where
    body : is_some p.script.body ≡ true
    body = has_body p.script.role (is_some p.script.body) (asks_anew s.setting (past_of s.seen)) (last_result (past_of s.seen)) next stands.carries

    go : (f : Bool) → floods p.script.role ≡ f → (l : Option ℕ) → p.last_send ≡ l → (f && is_none l && is_nil (up (past_of s.seen))) ≡ (f && is_none l && not has_pipe)
    go false flood l last = refl
    go true flood (Some n) last = refl
    go true flood None last = knows flood body free last

-- where the send waits for a pipe or for its interval, nothing can begin
pub rests_before : (has_pipe : Bool) (s : SingleView) (p : Player) (t : ℕ) → Stands s p t → p.op ≡ None → is_receive_next s.setting (play_of p.script) (past_of s.seen) ≡ false → KnowsPipes has_pipe s p → is_left (past_of s.seen) ≡ false
    → (floods p.script.role && is_none p.last_send && not has_pipe || is_within p.script.interval p.last_send t) ≡ true → HasPlayed s.setting s.seen p
rests_before has_pipe s p t was free next knows left waits =
    record { collected = left; busy = rests (is_some (under_way (past_of s.seen))) (over s.setting (play_of p.script) (past_of s.seen)) _ _ _ _ next held }
  where
    interval : waits_for_interval (play_of p.script) (past_of s.seen) ≡ is_within p.script.interval p.last_send t
    interval = ap (λ o. is_within p.script.interval o (now (past_of s.seen))) was.play.sent ∙ ap (is_within p.script.interval p.last_send) (sym was.now_is)

    held : (waits_for_pipe (play_of p.script) (past_of s.seen) || waits_for_interval (play_of p.script) (past_of s.seen)) ≡ true
    held =
        ap (λ b. b || waits_for_interval (play_of p.script) (past_of s.seen)) (waits_is has_pipe s p was.play free next knows)
        ∙ (ap (λ b. floods p.script.role && is_none p.last_send && not has_pipe || b) interval ∙ waits)

    rests : (a b c d e f : Bool) → c ≡ false → d ≡ true → (a || (b || not c && d || e || f)) ≡ true
    rests true b c d e f next held = refl
    rests false true c d e f next held = refl
    rests false false true d e f next held = cc
    rests false false false true e f next held = refl
    rests false false false false e f next held = cc
