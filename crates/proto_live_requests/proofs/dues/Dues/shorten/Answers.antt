use Rattle.std.proofs.Common.{◌∙◌, ap}
use Rattle.proto_requests.specs.Hints.{covers, covers_by}
use Rattle.proto_live_requests.specs.Dues.{DuesView}
use Rattle.proto_live_requests.specs.Outs.{is_sent}
use Rattle.proto_live_requests.proofs.DueRequests.{seen_reserved}
use Rattle.proto_live_requests.proofs.dues.Dues.shorten.Goals as goal

pub returns : goal.returns
returns c = λ a late dry last h.
    seen_reserved c.args.self.now c.self.inside.due c.self.inside.dry c.shorten.new.outs c.args.live.now.items late dry last a
    (λ q l k. ap (λ (v : DuesView). covers v.due q) c.self.view_is ∙ k) (λ q k. ap (λ (v : DuesView). covers v.dry q) c.self.view_is ∙ k)
    (λ x o z k. c.shorten.ensures x o z (ap (λ (v : DuesView). covers_by v.outs (is_sent x o)) c.self.view_is ∙ k)) h
