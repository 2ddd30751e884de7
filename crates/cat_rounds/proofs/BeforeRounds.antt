-- A run before its first round.
use Rattle.std.proofs.Common.{◌≡◌, refl, ap, sym, ◌∙◌, subst, List, [], ℕ, zero, suc, Bool, true, false, arith, length, Option, Some, None, ◌∷◌, inl, inr}
use Rattle.std.specs.List.{AllByRecursion}
use Rattle.std.specs.Prelude.{IsTrue, ◌||◌, ◌&&◌, ◌==◌, not, is_some, nat_le, Result, Ok, IfOk}
use Rattle.std.proofs.lemmas.Bool.Decides.{nat_tests}
use Rattle.std.proofs.lemmas.Result.{IfOk-at_ok}
use Rattle.turn_lock.specs.declared.turn.Turn.{Turn}
use Rattle.sp_base.specs.Outside.{grown}
use Rattle.sp_base.specs.Views.{LinkView, NetView, FilesView}
use Rattle.sp_base.specs.declared.role.Role.{Role}
use Rattle.sp_base.specs.declared.addr.Addr.{Addr}
use Rattle.sp_links.specs.Origins.{Origins, IsAmong}
use Rattle.sp_history.specs.declared.entry.Entry.{Entry}
use Rattle.sp_history.specs.declared.setting.Setting.{Setting}
use Rattle.sp_history.specs.Moments.{Moment}
use Rattle.sp_proto.specs.Kinds.{Kind, kind_of, setting_of, start}
use Rattle.sp_socket.specs.Singles.{SingleView, cancelled_of}
use Rattle.sp_ends.specs.EndViews.{LinkEndsView, Beginning}
use Rattle.sp_ends.specs.RunLinks.{EndsStand}
use Rattle.cat_text.specs.Drafts.{needs_data}
use Rattle.cat_text.specs.declared.plan.CatPlan.{CatPlan}
use Rattle.cat_text.specs.declared.plan.Data.{Data}
use Rattle.cat_text.specs.declared.plan.Data.TheVariants as datas
use Rattle.cat_text.specs.declared.plan.End.{End}
use Rattle.cat_text.specs.declared.plan.End.TheVariants as ends
use Rattle.cat_play.specs.Plans.{IsBodyOf, IsPlayOf}
use Rattle.cat_play.specs.Running.{run_setting}
use Rattle.cat_rounds.specs.declared.player.PlayEnd.{PlayEnd}
use Rattle.cat_rounds.specs.declared.player.Script.{Script}
use Rattle.cat_rounds.specs.declared.player.Player.{Player}
use Rattle.cat_rounds.specs.Lasting.{play_of, HasSurveys, PlayStands, IsNewPlayer, IsUnderWay, IsLast, IsDue, IsOver, over_at, HasPrinted}
use Rattle.cat_rounds.specs.RunRounds.{RunStands}
use Rattle.cat_rounds.specs.SubscribedTopics.{CanSubscribe}
use Rattle.sp_history.specs.Setting.{is_sub}
use Rattle.cat_rounds.specs.Built.{IsBuilt, IsBuiltData, IsMachineOf, IsBody, IsEndOf, has_data, listen_addrs, dial_addrs, origins_of}
use Rattle.cat_rounds.proofs.Silent.{append_nil}

-- no end
abbrev pub no_ends : {L : Type 0} → Role → ℕ → LinkEndsView L
no_ends role dice = record { role = role; dice = dice; asked = 0; listeners = []; dialers = []; newcomers = [] }

-- a run of this plan begins
abbrev pub start_of : NetView → CatPlan → ℕ → Beginning
start_of net plan dice = record { net = net; origins = origins_of plan dice }

ends_begin : {L : Type 0} (seen : L → LinkView) (z : Setting) (start : Beginning) → EndsStand seen z start [] start.net (no_ends z.role start.origins.dice)
ends_begin seen z start =
    record {
      role = refl;
      links = record {
        kept = record {
          opened = omega arith;
          few = λ l. absurd (omega (arith, l));
          in_place = refl;
          over_links = refl;
          named = tt;
          met = λ place a b. absurd (omega (arith, a, b));
          somewhere = λ place a b. absurd (omega (arith, a, b));
          missed = tt;
          carried = λ p place e. elim (none_some place e) [ ];
          others = λ place o. refl;
        };
        progressing = record { within = omega arith; ungreeted = tt; rest = tt; all = refl };
      };
      asked = record {
        few = omega arith;
        listens = tt;
        dials = tt;
        first = λ e. refl;
        idles = omega arith;
        faults = omega arith;
        rose = λ i f. omega arith;
      };
      of_run = record { listens = tt; dials = tt; dice = refl; listen_limits = tt; dial_limits = tt };
    }
  where
    none_some : (n : ℕ) → None ≡ Some n → ⊥
    none_some n e = cc

-- ---- The play

all_due : (count : Option ℕ) → IsDue count count 0
all_due None = refl
all_due (Some n) = omega arith

over_begins : (z : Setting) (s : Script) (count : Option ℕ) → count ≡ s.count → IsOver (over_at count) z (play_of (record s { count = count })) []
over_begins z s None e = refl
over_begins z s (Some zero) e = refl
over_begins z s (Some (suc n)) e = let more : nat_le (suc n) 0 ≡ false = grind (arith, nat_tests) in rw more refl

play_begins : (z : Setting) (s : Script) (p : Player) → IsNewPlayer s p → z.role ≡ s.role → HasSurveys z → IsTrue (not (needs_data s.role) || is_some s.body) → PlayStands z [] p
play_begins z s p n role surveys carries =
    record {
      role = role ∙ sym (ap (λ (x : Script). x.role) n.script_is);
      surveys = surveys;
      carries = subst (λ (x : Script). IsTrue (not (needs_data x.role) || is_some x.body)) (sym n.script_is) carries;
      is_open = refl;
      so_far = record { topics = refl; alternate = refl; verbs = refl; data_ = refl; deadlines = refl; spaced = refl; starts = refl; rounds = refl; collected = refl; swept = refl };
      hand = subst (λ o. IsUnderWay o []) (sym n.op) refl;
      last = subst (λ l. IsLast l None) (sym n.last) refl;
      sent = sym n.sent;
      due = subst (λ (x : Script). IsDue x.count p.due 0) (sym n.script_is) (subst (λ d. IsDue s.count d 0) (sym n.due) (all_due s.count));
      over = subst (λ (x : Script). IsOver p.over z (play_of x) []) (sym n.script_is) (subst (λ (o : PlayEnd). IsOver o z (play_of s) []) (sym n.over) (over_begins z s s.count refl));
      idle = λ e. refl;
    }

begins : {L : Type 0} (seen : L → LinkView) (start : Beginning) (s : SingleView) (e : LinkEndsView L) (script : Script) (p : Player) → s.seen ≡ [] → cancelled_of s ≡ [] → e ≡ no_ends s.setting.role start.origins.dice → IsNewPlayer script p → s.setting.role ≡ script.role → HasSurveys s.setting
    → IsTrue (not (needs_data script.role) || is_some script.body) → RunStands seen start s e p start.net false
begins seen start s e script p empty uncancelled none new role surveys carries =
    subst (λ (v : SingleView). RunStands seen start v e p start.net false) (sym single) (subst (λ (x : LinkEndsView _). RunStands seen start (record s { seen = [] }) x p start.net false) (sym none) (record {
      sound = record { legal = tt; settled = tt; uncancelled = uncancelled };
      play = play_begins s.setting script p new role surveys carries;
      ends_stand = ends_begin seen s.setting start;
      dry = refl;
    }))
  where
    single : s ≡ record s { seen = [] }
    single = ap (λ (h : List (Turn Entry)). let v : SingleView = record s { seen = h } in v) empty

-- ---- The plan

-- the play of a plan whose sends carry this body
abbrev pub script_of : CatPlan → Option (List ℕ) → Script
script_of plan body =
    record { role = plan.role; body = body; topics = plan.topics; count = plan.count; interval = plan.interval; recv_timeout = plan.recv_timeout; send_timeout = plan.send_timeout; format = plan.format }

carries_body : (data_ : Data) (files : FilesView) (body : Option (List ℕ)) → IsBuiltData data_ → IsBody data_ body → IsBodyOf data_ files body
carries_body datas.None files body built is = is
carries_body (datas.Text text) files body built is = is
carries_body (datas.File name) files body built is = elim built [ ]

has_body : (needs : Bool) (data_ : Data) (body : Option (List ℕ)) → IsBuiltData data_ → IsBody data_ body → IsTrue (needs || has_data data_) → IsTrue (needs || is_some body)
has_body needs datas.None body built is h = rw is h
has_body needs (datas.Text text) body built is h = rw is h
has_body needs (datas.File name) body built is h = elim built [ ]

pub is_play_of : (plan : CatPlan) (files : FilesView) (body : Option (List ℕ)) (p : Player) → IsBuilt plan → IsBody plan.data_ body → p.script ≡ script_of plan body → IsPlayOf plan files (play_of p.script)
is_play_of plan files body p built is script =
    subst (λ (s : Script). IsPlayOf plan files (play_of s)) (sym script) (record {
      role = refl;
      body = carries_body plan.data_ files body built.data_built is;
      topics = refl;
      count = refl;
      interval = refl;
      recv_timeout = refl;
      send_timeout = refl;
      format = refl;
    })

-- nothing is printed yet
pub prints_nothing : (text : Option (List ℕ)) (h : List (Turn Entry)) (p : Player) → h ≡ [] → HasPrinted text text h p
prints_nothing text h p empty = subst (λ (g : List (Turn Entry)). HasPrinted text text g p) (sym empty) (nothing text)
  where
    nothing : (text : Option (List ℕ)) → text ≡ grown text []
    nothing None = refl
    nothing (Some s) = ap (λ (s : List ℕ). Some s) (sym (append_nil s))

-- what holds before the first round of the run of a plan
pub plan_begins : {L : Type 0} (seen : L → LinkView) (net : NetView) (s : SingleView) (e : LinkEndsView L) (plan : CatPlan) (body : Option (List ℕ)) (p : Player) (dice : ℕ) → s.seen ≡ [] → cancelled_of s ≡ [] → s.setting ≡ run_setting plan.role dice → e ≡ no_ends plan.role dice → IsNewPlayer (script_of plan body) p → IsBuilt plan
    → IsBody plan.data_ body → RunStands seen (start_of net plan dice) s e p net false
plan_begins seen net s e plan body p dice empty uncancelled setting none new built is =
    begins seen (start_of net plan dice) s e (script_of plan body) p empty uncancelled (none ∙ ap (λ (r : Role). no_ends r dice) (sym role)) new role (subst HasSurveys (sym setting) (record { cooked = refl; time = refl })) (has_body (not (needs_data plan.role)) plan.data_ body built.data_built is built.carries)
  where
    role : s.setting.role ≡ plan.role
    role = ap (λ (z : Setting). z.role) setting

-- each end of the plan is one of the run's
pub all_ends_of : (plan : CatPlan) (dice : ℕ) → AllByRecursion (IsEndOf (origins_of plan dice) plan.recv_max) plan.ends
all_ends_of plan dice = among_all (origins_of plan dice) plan.recv_max plan.ends (inl refl) (λ a x. x) (λ a x. x)
  where
    among_all : (o : Origins) (max : ℕ) (es : List End) → IsAmong max o.limits → ((a : Addr) → IsAmong a (listen_addrs es) → IsAmong a o.listens) → ((a : Addr) → IsAmong a (dial_addrs es) → IsAmong a o.dials) → AllByRecursion (IsEndOf o max) es
    among_all o max [] limit listens dials = tt
    among_all o max (ends.Listen addr ∷ es) limit listens dials = ((listens addr (inl refl), limit), among_all o max es limit (λ a x. listens a (inr x)) dials)
    among_all o max (ends.Dial addr ∷ es) limit listens dials = ((dials addr (inl refl), limit), among_all o max es limit listens (λ a x. dials a (inr x)))

-- its socket takes its topics
pub can_subscribe : (s : SingleView) (plan : CatPlan) (body : Option (List ℕ)) (p : Player) (dice : ℕ) → s.setting ≡ run_setting plan.role dice → IsNewPlayer (script_of plan body) p → IsBuilt plan → CanSubscribe s.setting p.script.topics
can_subscribe s plan body p dice setting new built =
    subst (λ (z : Setting). CanSubscribe z p.script.topics) (sym setting) (subst (λ (x : Script). CanSubscribe (run_setting plan.role dice) x.topics) (sym new.script_is) (record {
      supported = cooked (is_sub plan.role) (length plan.topics == 0) built.topics_built.supported;
      short = built.topics_built.short;
    }))
  where
    cooked : (a b : Bool) → (a || b) ≡ true → (a && not false || b) ≡ true
    cooked true b h = refl
    cooked false b h = h

-- the socket of the machine that was made has the setting of the run
pub made_setting : {M E : Type 0} (ties : M → Moment → Type 0) (kind : M → Kind) → ((m : M) (t : Moment) → ties m t → kind_of t.z ≡ kind m) → (made : Result M E) (m : M) (role : Role) (dice : ℕ) → made ≡ Ok m → IfOk made (IsMachineOf ties role dice) → setting_of (kind m) 16 1 ≡ run_setting role dice
made_setting ties kind kinds made m role dice is starts =
    let new = IfOk-at_ok (IsMachineOf ties role dice) is starts in
    ap (λ (x : Kind). setting_of x 16 1) (sym (kinds m (start (setting_of new.0 16 1) 0) (new.1 16 1 0))) ∙ new.2
