use Rattle.std.proofs.Common.{◌∙◌, ap, List, ℕ, ◌++◌}
use Rattle.sp_msg.specs.Views.{MessageView}
use Rattle.sp_history.specs.Lists.{word}
use Rattle.proto_reqrep.proofs.ReqWins.{again_dry, again_out, dry_less, out_less}
use Rattle.sp_history.specs.Past.{ups}
use Rattle.sp_history.specs.Moments.{past}
use Rattle.proto_live_requests.specs.LiveRequests.{dry_at}
use Rattle.proto_reqrep.specs.Reqs.{late_in, dry_in}
use Rattle.proto_reqrep.proofs.RequestsDue.{dry_others, dry_itself}
use Rattle.proto_reqrep.proofs.req.RequestProto.again.Goals as goal

pub returns-in-None-clause-again : goal.returns-in-None-clause-again
returns-in-None-clause-again c =
    λ t r l h k.
    let m = c.args.self.now in
    let contexts = c.dry.ensures in
    again_dry m t c.args.c c.args.p r h k _ c.note_dry.new.self contexts
    (c.note_dry.ensures (late_in m) (dry_in m) (λ q. dry_at q c.dry.new.self.items) (ups (past t)) m.live.items (λ q n. dry_others c.args.c q m.contexts.items c.dry.new.self.items contexts n) (dry_itself c.args.c m.contexts.items c.dry.new.self.items contexts) h.5.0)

pub returns-in-None-clause-left : goal.returns-in-None-clause-left
returns-in-None-clause-left c =
    λ t r l h k.
    let contexts = c.dry.ensures in
    dry_less c.args.self.now t c.args.c c.args.p r h k _ contexts

pub returns-in-Some-clause-again : goal.returns-in-Some-clause-again
returns-in-Some-clause-again c =
    λ t r l h k.
    again_out c.args.self.now t c.args.c c.args.p r h k _ c.note_out.new.self c.asked.result c.asked.ensures.live (c.note_out.ensures c.args.self.now.live.items)
    (λ y g. c.asked.ensures.message y g ∙ ap (λ (l : List ℕ). word y.id ++ l) (ap (λ (v : MessageView). v.body) (c.in-Some.ensures y g)))

pub returns-in-Some-clause-left : goal.returns-in-Some-clause-left
returns-in-Some-clause-left c = λ t r l h k. out_less c.args.self.now t c.args.c c.args.p r h k _ c.asked.ensures.live
