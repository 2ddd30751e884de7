use Rattle.std.proofs.Common.{refl, ap, ◌≡◌, ◌∙◌, ◌++◌, ◌∷◌, []}
use Rattle.std.specs.Prelude.{◌==◌}
use Rattle.std.specs.List.{list_any}
use Rattle.proto_requests.specs.Backlogs.{BacklogView}
use Rattle.proto_rep.specs.declared.rep.KeptRequest.{KeptRequest}
use Rattle.proto_rep.specs.declared.rep.Reply.{Reply}
use Rattle.proto_rep.proofs.RepFrames.{none_kept, frame_kept, frame_unkept, frame_short, frame_far}
use Rattle.proto_rep.proofs.rep.ReplyProto.frame.Goals as goal

pub returns-in-Short-clause-kept : goal.returns-in-Short-clause-kept
returns-in-Short-clause-kept c = λ t short l h. frame_short c.args.self.now t c.args.p c.args.m.body c.body.result.now short h c.body.ensures c.in-Short.ensures

pub returns-in-TooFar-clause-kept : goal.returns-in-TooFar-clause-kept
returns-in-TooFar-clause-kept c = λ t short l h. frame_far c.args.self.now t c.args.p c.args.m.body c.body.result.now short h c.body.ensures c.in-TooFar.ensures

pub returns-in-Ok-push-clause-kept : goal.returns-in-Ok-push-clause-kept
returns-in-Ok-push-clause-kept c =
    λ t short l h.
    let was = c.args.self.now in
    let is : Reply = record { alloc = was.alloc; role = was.role; raw = was.raw; options = was.options; ports = was.ports; kept = c.push.new.self; waiting = was.waiting; places = was.places } in
    let none = ap (λ q. list_any (λ (x : KeptRequest). x.pipe == q) was.kept.items) c.in-Ok.ensures.pipe ∙ none_kept was t c.args.p c.args.m.body l h in
    let items : c.push.new.self.items ≡ was.kept.items ++ c.in-Ok.k ∷ [] = c.in-Ok-push.ensures.more none in
    frame_kept was is t c.args.p c.args.m.body c.body.result.now c.in-Ok.k short h c.body.ensures c.in-Whole.ensures c.in-Ok.ensures.kept items refl refl refl (refl, refl, refl)

pub returns-in-Err-push-clause-kept : goal.returns-in-Err-push-clause-kept
returns-in-Err-push-clause-kept c =
    λ t short l h.
    let was = c.args.self.now in
    let is : Reply = record { alloc = was.alloc; role = was.role; raw = was.raw; options = was.options; ports = was.ports; kept = c.push.new.self; waiting = was.waiting; places = was.places } in
    let items : c.push.new.self.items ≡ was.kept.items = ap (λ (v : BacklogView KeptRequest). v.items) c.in-Err-push.ensures.same in
    frame_unkept was is t c.args.p c.args.m.body c.body.result.now c.in-Ok.k h c.body.ensures c.in-Whole.ensures items refl refl refl (refl, refl, refl)
