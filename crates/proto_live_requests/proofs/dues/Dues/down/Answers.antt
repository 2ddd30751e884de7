use Rattle.std.proofs.Common.{◌≡◌, ◌∙◌, sym, subst, true, inl}
use Rattle.std.specs.Prelude.{◌==◌}
use Rattle.sp_history.specs.declared.parts.LastOut.{LastOut}
use Rattle.proto_requests.specs.Hints.{covers}
use Rattle.proto_requests.proofs.TestValues.{equal_of}
use Rattle.proto_live_requests.specs.Outs.{is_sent}
use Rattle.proto_live_requests.specs.Dues.{DuesView, AreSeen}
use Rattle.proto_live_requests.specs.LiveRequests.{is_live_on}
use Rattle.proto_live_requests.proofs.DueRequests.{live_at, seen_moved, looked_or, on_pipe}
use Rattle.proto_live_requests.proofs.dues.Dues.down.Goals as goal

pub returns : goal.returns
returns c = λ a late later dry last j h.
    let xs = c.args.live.now.items in
    let v : DuesView = record { due = c.self.inside.due; dry = c.self.inside.dry; outs = c.self.inside.outs } in
    let w : DuesView = record { due = c.look_at_down.new.due; dry = c.self.inside.dry; outs = c.look_at_down.new.outs } in
    let k = subst (λ (v : DuesView). AreSeen v late dry last xs) (sym c.self.view_is) h in
    seen_moved v w late later (λ (o : LastOut). o.pipe == c.args.p) dry dry last xs a j.0 (λ o e. on_pipe o c.args.p late (j.1 o e)) (λ o e. j.2 o (equal_of o.pipe c.args.p e)) (λ q e. k.1 q e) (λ q l e. inl e) (λ q l e. c.look_at_down.ensures.more q (c.look_at_all.ensures.more q l e))
    c.look_at_down.ensures.kept
    (λ x o m z e. looked_or c.self.inside.outs (is_sent x o) (covers c.look_at_down.new.due x ≡ true) (λ n. c.look_at_down.ensures.more x (c.look_at_all.ensures.all (c.is_whole.ensures ∙ n) x (live_at (is_live_on x) xs o z))) (λ n. c.look_at_down.ensures.down x o m n) e)
    k
