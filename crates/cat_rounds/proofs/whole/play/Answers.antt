use Rattle.std.proofs.Common.{◌≡◌, refl, false, sym, ap, ◌∙◌, subst, List}
use Rattle.std.specs.Option.{option_map}
use Rattle.sp_socket.specs.Singles.{cancelled_in}
use Rattle.sp_ends.specs.EndViews.{EndsView}
use Rattle.cat_text.specs.declared.plan.End.{End}
use Rattle.cat_play.specs.declared.status.Status.{Status}
use Rattle.sp_links.specs.Origins.{run_ways}
use Rattle.cat_play.specs.Running.{world, run_setting, RunsPlan, EndsPlan}
use Rattle.std.specs.List.{AllByRecursion}
use Rattle.cat_rounds.specs.RunRounds.{RunStands, is_dry_at}
use Rattle.cat_rounds.proofs.Opened.{links_of}
use Rattle.cat_rounds.specs.Built.{Follows, ListensOnce, IsEndOf, origins_of}
use Rattle.cat_rounds.proofs.BeforeRounds.{start_of, plan_begins, all_ends_of, is_play_of, prints_nothing, can_subscribe, made_setting}
use Rattle.cat_rounds.proofs.Played.{runs_plan}
use Rattle.cat_rounds.proofs.Late.{in_time}
use Rattle.cat_rounds.proofs.whole.play.Given.{Over}
use Rattle.cat_rounds.proofs.whole.play.Goals.{After-new-2, After-as_slice}
use Rattle.cat_rounds.proofs.whole.play.Goals as goal

-- ---- Before the first round

-- the socket has the setting of the run
setting_is : (g : Over) (c : After-new-2 g) → c.in-Ok-open.single.setting ≡ run_setting c.args.planned.plan.role c.args.planned.dice
setting_is g c =
    c.in-Ok-open.ensures.1 ∙ made_setting g.P.Proto.ties g.P.Proto.kind g.met.P.Proto.kinds c.args.machine c.in-Ok.machine c.args.planned.plan.role c.args.planned.dice c.in-Ok.is c.requires.starts

-- what holds of the run holds here
begun : (g : Over) (c : After-new-2 g) → let net = g.N.Net.seen c.args.net.now in RunStands g.N.L.Link.seen (start_of net c.args.planned.plan c.args.planned.dice) c.in-Ok-open.single c.in-Ok-new.links.links c.new-2.result net false
begun g c =
    plan_begins g.N.L.Link.seen (g.N.Net.seen c.args.net.now) c.in-Ok-open.single c.in-Ok-new.links.links c.args.planned.plan c.body_of.result c.new-2.result c.args.planned.dice c.in-Ok-open.ensures.0 (ap cancelled_in c.in-Ok-open.ensures.2) (setting_is g c) (ap (λ (w : EndsView _). w.links) c.in-Ok-new.ensures) c.new-2.ensures c.requires.built c.body_of.ensures

-- its ends are those of the plan
of_plan : (g : Over) (c : After-as_slice g) → AllByRecursion (IsEndOf (origins_of c.args.planned.plan c.args.planned.dice) c.args.planned.plan.recv_max) c.as_slice.result.now
of_plan g c =
    subst (λ (es : List End). AllByRecursion (IsEndOf (origins_of c.args.planned.plan c.args.planned.dice) c.args.planned.plan.recv_max) es) (sym c.as_slice.ensures) (all_ends_of c.args.planned.plan c.args.planned.dice)

pub invariant_of-parts : goal.invariant_of-parts
invariant_of-parts g c =
    let run = begun g (goal.at.invariant_of-parts g c).After-new-2 in
    record { sound = run.sound; play = run.play }

-- ---- The run

pub follow-status-requires-clause-stands : goal.follow-status-requires-clause-stands
follow-status-requires-clause-stands g c =
    let at = (goal.at.follow-status-requires-clause-stands g c).After-as_slice in
    let made = (goal.at.follow-status-requires-clause-stands g c).After-new-2 in
    let net = g.N.Net.seen c.args.net.now in
    let start = start_of net c.args.planned.plan c.args.planned.dice in
    (start, of_plan g at, links_of g.N.L.Link.seen start c.in-Ok-open.single c.in-Ok-new.links.links c.new-2.result net false (begun g made))

pub follow-status-requires-clause-topics : goal.follow-status-requires-clause-topics
follow-status-requires-clause-topics g c =
    can_subscribe c.in-Ok-open.single c.args.planned.plan c.body_of.result c.new-2.result c.args.planned.dice (setting_is g (goal.at.follow-status-requires-clause-topics g c).After-new-2) c.new-2.ensures c.requires.built

pub finish-requires : goal.finish-requires
finish-requires g c =
    let at = (goal.at.finish-requires g c).After-as_slice in
    let made = (goal.at.finish-requires g c).After-new-2 in
    let start = start_of (g.N.Net.seen c.args.net.now) c.args.planned.plan c.args.planned.dice in
    let new = c.follow-status.new.self in
    let run = c.follow-status.ensures.stands start (of_plan g at) (begun g made) in
    record { stands = (start, links_of g.N.L.Link.seen start new.single new.ends.links new.player (g.N.Net.seen c.follow-status.new.net) (is_dry_at new.single) run) }

pub returns-clause-runs : goal.returns-clause-runs
returns-clause-runs g c files =
    let dice = c.args.planned.dice in
    let at = (goal.at.returns-clause-runs g c).After-as_slice in
    let made = (goal.at.returns-clause-runs g c).After-new-2 in
    let net = g.N.Net.seen c.args.net.now in
    let between = g.N.Net.seen c.follow-status.new.net in
    let after = g.N.Net.seen c.finish.new.net in
    let pace = g.Pa.Pace.seen c.args.pace.now in
    let pace' = g.Pa.Pace.seen c.follow-status.new.pace in
    let out = g.S.Sink.seen c.args.out.now in
    let out' = g.S.Sink.seen c.follow-status.new.out in
    let first = c.in-Ok-open.single in
    let single = c.follow-status.new.self.single in
    let ends = c.follow-status.new.self.ends.links in
    let player = c.follow-status.new.self.player in
    let plan = c.args.planned.plan in
    let st = c.follow-status.result in
    let f = c.follow-status.ensures in
    let start = start_of net plan dice in
    let run = f.stands start (of_plan g at) (begun g made) in
    let followed = subst (λ (es : List End). Follows st es single ends player net between pace pace' out out') c.as_slice.ensures f.followed in
    subst (λ (s : Status). RunsPlan (run_ways plan.role (origins_of plan dice)) s plan dice (option_map (λ r. r.turns) c.finish.result.record_) (world net files pace out) (world after files pace' out')) (sym c.finish.ensures.status) (runs_plan g.N.L.Link.seen st plan single ends player start between after pace pace' out out' (option_map (λ r. r.turns) c.finish.result.record_) files dice refl (f.same.1 ∙ setting_is g made) (is_play_of plan files c.body_of.result player c.requires.built c.body_of.ensures (f.same.0 ∙ c.new-2.ensures.script_is)) run f.dry followed (f.printed out.text (prints_nothing out.text first.seen c.new-2.result c.in-Ok-open.ensures.0)) (c.finish.ensures.finished start run))

pub returns-clause-once : goal.returns-clause-once
returns-clause-once g c =
    subst (λ (s : Status). ListensOnce s c.args.planned.plan.ends) (sym c.finish.ensures.status) (subst (λ (es : List End). ListensOnce c.follow-status.result es) c.as_slice.ensures c.follow-status.ensures.followed.once)

pub returns-clause-in_time : goal.returns-clause-in_time
returns-clause-in_time g c files =
    let dice = c.args.planned.dice in
    let at = (goal.at.returns-clause-in_time g c).After-as_slice in
    let made = (goal.at.returns-clause-in_time g c).After-new-2 in
    let net = g.N.Net.seen c.args.net.now in
    let between = g.N.Net.seen c.follow-status.new.net in
    let after = g.N.Net.seen c.finish.new.net in
    let pace = g.Pa.Pace.seen c.args.pace.now in
    let pace' = g.Pa.Pace.seen c.follow-status.new.pace in
    let out = g.S.Sink.seen c.args.out.now in
    let out' = g.S.Sink.seen c.follow-status.new.out in
    let single = c.follow-status.new.self.single in
    let ends = c.follow-status.new.self.ends.links in
    let player = c.follow-status.new.self.player in
    let plan = c.args.planned.plan in
    let st = c.follow-status.result in
    let f = c.follow-status.ensures in
    let start = start_of net plan dice in
    subst (λ (s : Status). EndsPlan s plan dice (option_map (λ r. r.turns) c.finish.result.record_) (world net files pace out) (world after files pace' out')) (sym c.finish.ensures.status)
    (in_time g.N.L.Link.seen st plan single ends player start between after files dice c.body_of.result (f.same.1 ∙ setting_is g made) c.requires.built c.body_of.ensures (f.same.0 ∙ c.new-2.ensures.script_is) f.late pace pace' out out' (option_map (λ r. r.turns) c.finish.result.record_) (c.finish.ensures.finished start (f.stands start (of_plan g at) (begun g made))))
