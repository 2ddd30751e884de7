use Rattle.std.proofs.Common.{◌≡◌, ◌∙◌, sym, subst, true, false, inr, ℕ, ◌+◌}
use Rattle.std.specs.Prelude.{nat_le, ◌==◌}
use Rattle.std.specs.List.{list_any}
use Rattle.sp_history.specs.declared.parts.LastOut.{LastOut}
use Rattle.proto_requests.specs.Hints.{covers}
use Rattle.proto_live_requests.specs.Dues.{DuesView, AreSeen}
use Rattle.proto_live_requests.specs.LiveRequests.{is_live_on}
use Rattle.proto_live_requests.proofs.DueRequests.{live_at, seen_moved, whole_or}
use Rattle.proto_live_requests.proofs.dues.Dues.tick.Goals as goal

pub returns : goal.returns
returns c = λ a late later dry last j h.
    let xs = c.args.live.now.items in
    let v : DuesView = record { due = c.self.inside.due; dry = c.self.inside.dry; outs = c.self.inside.outs } in
    let w : DuesView = record { due = c.look_at_all.new.due; dry = c.take_over.new.other; outs = c.look_at_late.new.outs } in
    let k = subst (λ (v : DuesView). AreSeen v late dry last xs) (sym c.self.view_is) h in
    let T = λ (o : LastOut). nat_le (o.when + c.args.resend) c.args.now in
    let up = λ (q : ℕ) (l : list_any (is_live_on q) xs ≡ true) (e : covers c.take_over.new.self q ≡ true). c.look_at_all.ensures.more q l (c.look_at_late.ensures.more q e) in
    seen_moved v w late later T dry (λ q. false) last xs a j.0 j.1 j.2 (λ q e. absurd cc) (λ q l e. inr (up q l (c.take_over.ensures.it (λ n. n == q) (k.1 q e)))) (λ q l e. up q l (c.take_over.ensures.same (λ n. n == q) e)) c.look_at_late.ensures.kept
    (λ x o m z e.
    let l = live_at (is_live_on x) xs o z in
    whole_or c.self.inside.outs.whole (λ n. c.look_at_all.ensures.all (c.is_whole.ensures ∙ c.look_at_late.ensures.whole ∙ n) x l) (λ n. c.look_at_all.ensures.more x l (c.look_at_late.ensures.late x o n m z e)))
    k
