-- What contracts see of a node before its first turn, and what is true of it.
use Rattle.std.specs.Prelude.{◌≡◌, ◌≤◌, ◌+◌, ◌++◌, ℕ, false, List, [], length, map, Some, None}
use Rattle.std.specs.List.{AllByRecursion}
use Rattle.sp_base.specs.Views.{NetView}
use Rattle.sp_base.specs.declared.addr.Addr.{Addr}
use Rattle.sp_proto.specs.Kinds.{Kind, setting_of}
use Rattle.sp_history.specs.declared.setting.Setting.{Setting}
use Rattle.sp_socket.specs.Singles.{SingleView}
use Rattle.sp_lane.specs.Registry.{Registry, names}
use Rattle.sp_links.specs.Origins.{Origins}
use Rattle.sp_ends.specs.declared.listener.Listener.{Listener}
use Rattle.sp_ends.specs.declared.dialer.Dialer.{Dialer}
use Rattle.sp_ends.specs.Dialing.{IsDialable}
use Rattle.sp_ends.specs.EndViews.{EndsView, LinkEndsView, no_ends}
use Rattle.sp_ends.specs.RunLinks.{IsListener}
use Rattle.sp_ends.specs.EndsTurns.{addrs_of}
use Rattle.sp_node.specs.Nodes.{NodeView}

-- its socket, its ends, and how often its net failed
pub record NewNodeView (L : Type 0) : Type 0 where
  pub single : SingleView
  pub ends : EndsView L
  pub faults : ℕ

-- how many ends there are
abbrev pub count_of : {L : Type 0} → EndsView L → ℕ
count_of e = length e.links.listeners + length e.links.dialers + length e.names.names + length e.names.callers

abbrev pub listens_of : List Listener → List Addr
listens_of ls = map (λ (l : Listener). l.addr) ls

-- their receive limits
abbrev pub limits_of : {L : Type 0} → LinkEndsView L → List ℕ
limits_of e = map (λ (l : Listener). l.max) e.listeners ++ map (λ (d : Dialer). d.max) e.dialers

-- where the links of these ends come from
abbrev pub origins_of : {L : Type 0} → LinkEndsView L → Origins
origins_of e = record { listens = listens_of e.listeners; dials = addrs_of e.dialers; dice = e.dice; limits = limits_of e }

-- an address that can be dialed, and was not
pub record IsFreshDialer (d : Dialer) : Type 0 where
  pub dialable : IsDialable d.addr
  pub next : d.next ≡ Some 0
  pub place : d.place ≡ None
  pub tries : d.tries ≡ 0

-- nothing has happened since this net was found, but that ends were added
pub record IsNewOn {L : Type 0} (first : NetView) (z : Setting) (e : LinkEndsView L) (net : NetView) : Type 0 where
  pub role : e.role ≡ z.role
  pub none : e.newcomers ≡ []
  pub opened : net.opened ≡ first.opened
  pub back : net.back ≡ first.back
  pub listens : AllByRecursion (IsListener net) e.listeners
  pub dials : AllByRecursion IsFreshDialer e.dialers
  pub idles : first.idles ≤ net.idles
  pub faults : first.faults ≤ net.faults

-- the same since some net was found, without a turn of the socket; the names that are listened on are its own
pub record IsNewNode {L : Type 0} (s : SingleView) (e : EndsView L) (net : NetView) (reg : Registry) (count : ℕ) : Type 0 where
  pub fresh : s.seen ≡ []
  pub first : NetView
  pub new : IsNewOn first s.setting e.links net
  pub names_are : names reg ≡ e.names.names
  pub counted : count ≡ count_of e
  pub most : count ≤ 64

-- no end yet
pub record Begins {L : Type 0} (dice : ℕ) (kind : Kind) (v : NewNodeView L) : Type 0 where
  pub fresh : v.single.seen ≡ []
  pub setting : v.single.setting ≡ setting_of kind 16 1
  pub wins : v.single.wins ≡ []
  pub ends : v.ends ≡ no_ends kind.role dice

-- the node is as it was before its first turn
pub record StartsAs {L : Type 0} (v : NewNodeView L) (n : NodeView L) : Type 0 where
  pub single : n.single ≡ v.single
  pub ends : n.ends ≡ v.ends
  pub now_is : n.latest ≡ 0
  pub dry : n.dry ≡ false
  pub closed : n.closed ≡ false
