use Rattle.std.specs.Prelude.{false}
use Rattle.std.proofs.Common.{refl}
use Rattle.sp_base.specs.declared.role.Role.TheVariants as roles
use Rattle.proto_pipeline.specs.Pulls.{Ties as PullTies, pull_kind}
use Rattle.proto_pipeline.specs.Pushes.{Ties as PushTies, push_kind}
use Rattle.proto_pair.specs.Pairs.{Ties as PairTies, pair_kind, pair1_kind}
use Rattle.proto_rep.specs.Reps.{Ties as ReplyTies, reply_kind}
use Rattle.proto_reqrep.specs.Reqs.{Ties as RequestTies, req_kind}
use Rattle.proto_bus.specs.Buses.{Ties as BusTies, bus_kind}
use Rattle.proto_pubsub.specs.Pubs.{Ties as PublishTies, pub_kind}
use Rattle.proto_pubsub.specs.Subs.{Ties as SubscribeTies, sub_kind}
use Rattle.proto_survey.specs.Surveys.{Ties as SurveyTies, survey_kind}
use Rattle.cat_run.proofs.Machines.{as_usual}
use Rattle.cat_run.proofs.command.play_plan.Goals as goal

pub play-requires-clause-starts : goal.play-requires-clause-starts
play-requires-clause-starts g c = as_usual PullTies c.new.result (pull_kind false) c.usual-options.result c.args.planned.plan.role roles.Pull c.args.planned.dice c.usual-options.ensures c.in-Pull.is refl c.new.ensures

pub play-requires-in-Push-clause-starts : goal.play-requires-in-Push-clause-starts
play-requires-in-Push-clause-starts g c = as_usual PushTies c.new-in-Push.result (push_kind false) c.usual-options.result c.args.planned.plan.role roles.Push c.args.planned.dice c.usual-options.ensures c.in-Push.is refl c.new-in-Push.ensures

pub play-requires-in-Pair0-clause-starts : goal.play-requires-in-Pair0-clause-starts
play-requires-in-Pair0-clause-starts g c = as_usual PairTies c.new-in-Pair0.result (pair_kind false) c.usual-options.result c.args.planned.plan.role roles.Pair0 c.args.planned.dice c.usual-options.ensures c.in-Pair0.is refl c.new-in-Pair0.ensures

pub play-requires-in-Pair1-clause-starts : goal.play-requires-in-Pair1-clause-starts
play-requires-in-Pair1-clause-starts g c = as_usual PairTies c.new-in-Pair1.result (pair1_kind false) c.usual-options.result c.args.planned.plan.role roles.Pair1 c.args.planned.dice c.usual-options.ensures c.in-Pair1.is refl c.new-in-Pair1.ensures

pub play-requires-in-Rep-clause-starts : goal.play-requires-in-Rep-clause-starts
play-requires-in-Rep-clause-starts g c = as_usual ReplyTies c.new-in-Rep.result (reply_kind roles.Rep false) c.usual-options.result c.args.planned.plan.role roles.Rep c.args.planned.dice c.usual-options.ensures c.in-Rep.is refl c.new-in-Rep.ensures

pub play-requires-in-Respondent-clause-starts : goal.play-requires-in-Respondent-clause-starts
play-requires-in-Respondent-clause-starts g c = as_usual ReplyTies c.new-in-Respondent.result (reply_kind roles.Respondent false) c.usual-options.result c.args.planned.plan.role roles.Respondent c.args.planned.dice c.usual-options.ensures c.in-Respondent.is refl c.new-in-Respondent.ensures

pub play-requires-in-Req-clause-starts : goal.play-requires-in-Req-clause-starts
play-requires-in-Req-clause-starts g c = as_usual RequestTies c.new-in-Req.result (req_kind false) c.usual-options.result c.args.planned.plan.role roles.Req c.args.planned.dice c.usual-options.ensures c.in-Req.is refl c.new-in-Req.ensures

pub play-requires-in-Pub-clause-starts : goal.play-requires-in-Pub-clause-starts
play-requires-in-Pub-clause-starts g c = as_usual PublishTies c.new-in-Pub.result (pub_kind false) c.usual-options.result c.args.planned.plan.role roles.Pub c.args.planned.dice c.usual-options.ensures c.in-Pub.is refl c.new-in-Pub.ensures

pub play-requires-in-Sub-clause-starts : goal.play-requires-in-Sub-clause-starts
play-requires-in-Sub-clause-starts g c = as_usual SubscribeTies c.new-in-Sub.result (sub_kind false) c.usual-options.result c.args.planned.plan.role roles.Sub c.args.planned.dice c.usual-options.ensures c.in-Sub.is refl c.new-in-Sub.ensures

pub play-requires-in-Bus-clause-starts : goal.play-requires-in-Bus-clause-starts
play-requires-in-Bus-clause-starts g c = as_usual BusTies c.new-in-Bus.result (bus_kind false) c.usual-options.result c.args.planned.plan.role roles.Bus c.args.planned.dice c.usual-options.ensures c.in-Bus.is refl c.new-in-Bus.ensures

pub play-requires-in-Surveyor-clause-starts : goal.play-requires-in-Surveyor-clause-starts
play-requires-in-Surveyor-clause-starts g c = as_usual SurveyTies c.new-in-Surveyor.result (survey_kind false) c.usual-options.result c.args.planned.plan.role roles.Surveyor c.args.planned.dice c.usual-options.ensures c.in-Surveyor.is refl c.new-in-Surveyor.ensures
