use Rattle.std.proofs.Common.{◌∙◌, sym, ap, slice_set}
use Rattle.proto_live_requests.specs.LiveRequests.{waits_for, with_kept}
use Rattle.proto_requests.specs.Spots.{held}
use Rattle.proto_requests.specs.declared.spots.Spot.{Spot}
use Rattle.proto_requests.proofs.Positions.{with_none}
use Rattle.proto_requests.proofs.Spotted.{not_there, changed_there}
use Rattle.proto_live_requests.proofs.lives.set_reply.Goals as goal

pub returns-in-None-clause-held : goal.returns-in-None-clause-held
returns-in-None-clause-held c = with_none (waits_for c.args.id) (with_kept c.args.kept) (held c.args.list.now) (not_there (waits_for c.args.id) c.args.list.now (sym c.requires ∙ c.in-None.is))

pub returns-in-Some-clause-held : goal.returns-in-Some-clause-held
returns-in-Some-clause-held c = ap (λ (s : Spot _). held (slice_set c.args.list.now c.in-Some.i s)) c.answer_spot.ensures ∙ changed_there (waits_for c.args.id) (with_kept c.args.kept) c.args.list.now c.in-Some.i c.index-list-i.result (sym c.requires ∙ c.in-Some.is)
