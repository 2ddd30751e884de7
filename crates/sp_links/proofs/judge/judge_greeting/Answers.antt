use Rattle.std.proofs.Common.{◌≡◌, ℕ, List, take, refl, ap, ◌∙◌}
use Rattle.sp_base.specs.SpTcp.{hello}
use Rattle.sp_base.specs.Roles.{role_number, role_peer}
use Rattle.sp_base.specs.declared.role.Role.{Role}
use Rattle.sp_tcp.specs.Views.{GreetingView}
use Rattle.sp_links.specs.Ways.{peer_number}
use Rattle.sp_links.proofs.Greetings.{more_by, few_by, good_by}
use Rattle.sp_links.proofs.judge.judge_greeting.Goals as goal

same_as : (role peer : Role) (g : GreetingView) (h came : List ℕ) (n : ℕ) → peer ≡ role_peer role → g.role ≡ peer → h ≡ hello (role_number g.role) → take n came ≡ take n h → take n came ≡ take n (hello (peer_number role))
same_as role peer g h came n p q e s = s ∙ ap (take n) (e ∙ ap (λ (r : Role). hello (role_number r)) (q ∙ p))

pub returns-then-count-lt8 : goal.returns-then-count-lt8
returns-then-count-lt8 c = (
  more_by (peer_number c.args.role) c.args.came.now c.min-count.result c.min-count.ensures (same_as c.args.role c.peer.result c.new-greeting.result c.hello-wanted.result.now c.args.came.now c.min-count.result c.peer.ensures (ap (λ (g : GreetingView). g.role) c.new-greeting.ensures) c.hello-wanted.ensures (c.if-not-is_same.ensures.0 refl)) c.if-count-lt8.true,
  few_by (peer_number c.args.role) c.args.came.now c.min-count.result c.min-count.ensures c.if-count-lt8.true,
)

pub returns : goal.returns
returns c = (
  refl,
  c.nothing.ensures,
  good_by (peer_number c.args.role) c.args.came.now c.min-count.result c.min-count.ensures (same_as c.args.role c.peer.result c.new-greeting.result c.hello-wanted.result.now c.args.came.now c.min-count.result c.peer.ensures (ap (λ (g : GreetingView). g.role) c.new-greeting.ensures) c.hello-wanted.ensures (c.if-not-is_same.ensures.0 refl)) c.if-count-lt8.false,
)
