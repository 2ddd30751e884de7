use Rattle.std.proofs.Common.{◌≡◌, ◌∙◌, ap, sym, subst, refl, Some}
use Rattle.std.specs.Prelude.{find}
use Rattle.sp_history.specs.Lists.{head_of}
use Rattle.proto_requests.proofs.EndedOperations.{shorter, no_head}
use Rattle.proto_reqrep.specs.declared.req.Request.{Request as Machine}
use Rattle.proto_live_requests.specs.Dues.{DuesView, AreSeen, awaited}
use Rattle.proto_live_requests.specs.LiveRequests.{is_live_on}
use Rattle.proto_reqrep.specs.Reqs.{is_due_out, late_in, dry_in}
use Rattle.proto_reqrep.proofs.RequestsDue.{looked_past, none_looked}
use Rattle.proto_reqrep.proofs.req.Request.next_looked.Goals as goal

pub loop-c-init : goal.loop-c-init
loop-c-init c = record { same = refl; seen = λ last a h. h; whole = refl }

pub loop-c-preserved : goal.loop-c-preserved
loop-c-preserved c =
    let m = c.args.self.now in
    let at = c.loop-c.invariant in
    let x = c.in-Some.c in
    let first : Some x ≡ head_of c.loop-c.self.dues.due.items = sym c.in-Some.is ∙ c.first.ensures in
    let not_due = sym (ap (λ (y : Machine). is_due_out y (awaited (find (is_live_on x) y.live.items)) x) at.same) ∙ sym c.is_due_on.ensures ∙ c.if-is_due_on.false in
    record {
      same = ap (λ (y : Machine). record y { dues = c.drop_first.new.self }) at.same;
      seen = λ last a h. subst (λ (v : DuesView). AreSeen v (late_in m) (dry_in m) last m.live.items) (sym c.drop_first.ensures) (looked_past m c.loop-c.self.dues last x a first not_due (at.seen last a h));
      whole = ap (λ (v : DuesView). v.due.whole) c.drop_first.ensures ∙ at.whole;
    }

pub loop-c-smaller : goal.loop-c-smaller
loop-c-smaller c = rw c.drop_first.ensures (shorter c.in-Some.c c.loop-c.self.dues.due.items (sym c.in-Some.is ∙ c.first.ensures))

pub returns-clause-none : goal.returns-clause-none
returns-clause-none c = λ last a h w.
    let at = c.loop-c.invariant in
    none_looked c.args.self.now c.loop-c.self.dues last (at.whole ∙ w) (no_head c.loop-c.self.dues.due.items (sym c.in_default.is ∙ c.first.ensures)) (at.seen last a h)
