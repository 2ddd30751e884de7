use Rattle.std.proofs.Common.{◌∙◌, sym, ap, slice_set}
use Rattle.proto_live_requests.specs.LiveRequests.{is_live_on, sent_at}
use Rattle.proto_requests.specs.Spots.{held}
use Rattle.proto_requests.specs.declared.spots.Spot.{Spot}
use Rattle.proto_requests.proofs.Positions.{with_none}
use Rattle.proto_requests.proofs.Spotted.{not_there, changed_there}
use Rattle.proto_live_requests.proofs.lives.set_out.Goals as goal

pub returns-in-None-clause-held : goal.returns-in-None-clause-held
returns-in-None-clause-held c = with_none (is_live_on c.args.c) (sent_at c.args.out) (held c.args.list.now) (not_there (is_live_on c.args.c) c.args.list.now (sym c.requires ∙ c.in-None.is))

pub returns-in-Some-clause-held : goal.returns-in-Some-clause-held
returns-in-Some-clause-held c = ap (λ (s : Spot _). held (slice_set c.args.list.now c.in-Some.i s)) c.send_spot.ensures ∙ changed_there (is_live_on c.args.c) (sent_at c.args.out) c.args.list.now c.in-Some.i c.index-list-i.result (sym c.requires ∙ c.in-Some.is)
