use Rattle.std.proofs.Common.{sym}
use Rattle.proto_requests.proofs.Positions.{not_found, with_none}
use Rattle.proto_survey.specs.Lives.{has_number, with_reply}
use Rattle.proto_survey.proofs.Writing.{keeps_there}
use Rattle.proto_survey.proofs.survey.keep.Goals as goal

pub returns-in-None : goal.returns-in-None
returns-in-None c = with_none (has_number c.args.id) (with_reply c.args.most c.args.m) c.args.live.now (not_found (has_number c.args.id) c.args.live.now (sym c.in-None.ensures))

pub returns-in-Some : goal.returns-in-Some
returns-in-Some c = keeps_there c.keep.result c.args.id c.args.most c.args.m c.args.live.now c.in-Some.i c.index-live-i.result c.keep.new.self (sym c.in-Some.ensures) c.keep.ensures.kept c.keep.ensures.same c.keep.ensures.few
