-- What a wire over WebSocket shows that keeps how its link began.
use Rattle.std.specs.Prelude.{◌≡◌, ◌+◌, ℕ, ⊤, Option, Some, None}
use Rattle.sp_base.specs.Views.{LinkView}
use Rattle.sp_base.specs.Roles.{role_number}
use Rattle.sp_base.specs.declared.framing.Framing.{Framing}
use Rattle.sp_base.specs.declared.framing.Framing.TheVariants as framings
use Rattle.sp_base.specs.declared.role.Role.{Role}
use Rattle.sp_msg.specs.Views.{WireView, WireName, OverLink, OverLanes, Nameless}
use Rattle.sp_ws.specs.Wires.{WsView, Tied}
use Rattle.sp_ws.specs.declared.side.Side.{Side}
use Rattle.sp_ws.specs.declared.side.Side.TheVariants as sides
use Rattle.sp_links.specs.Ways.{HasOpened}
use Rattle.sp_links.specs.Keys.{seed_of}
use Rattle.sp_links.specs.declared.way.Way.{Way}
use Rattle.sp_links.specs.declared.way.Way.TheVariants as ways
use Rattle.sp_links.specs.Openings.{openings}
use Rattle.sp_links.specs.Numbers.{way_number}

-- the link began in this way: the peer's part came, and all that was owed for it was written first
abbrev pub IsBegun : Role → Way → LinkView → Type 0
IsBegun role way link = HasOpened (openings role (λ w. ⊤)) way link

-- the number in place of that of the scheme: no scheme has it, so no wire of another kind has such a name
abbrev pub opened_number : ℕ → ℕ
opened_number scheme = scheme + 4

-- the name with the own role and the way
abbrev pub named : Role → Way → WireName → WireName
named role way (OverLink place max scheme spent own peer) = OverLink place max (opened_number scheme) spent (Some (role_number role)) (Some (way_number way))
named role way (OverLanes out inward) = OverLanes out inward
named role way Nameless = Nameless

abbrev pub renamed : Role → Way → WireView → WireView
renamed role way v = record v { name = named role way v.name }

-- what it shows as a wire; the wire inside; the own role, and the way
pub record OpenedView : Type 0 where
  pub wire : WireView
  pub ws : WsView
  pub role : Role
  pub way : Way

abbrev pub opened_view : WsView → Role → Way → OpenedView
opened_view ws role way = record { wire = renamed role way ws.wire; ws = ws; role = role; way = way }

-- at every moment
pub record IsOpenedOver (v : OpenedView) : Type 0 where
  pub tied : Tied v.ws
  pub begun : IsBegun v.role v.way v.ws.link
  pub wire : v.wire ≡ renamed v.role v.way v.ws.wire

pub record IsSameWay (old new : OpenedView) : Type 0 where
  pub role : new.role ≡ old.role
  pub way : new.way ≡ old.way

-- the side of a WebSocket that was opened in this way
abbrev pub side_of : Way → Option Side
side_of (ways.Greeting framing) = None
side_of (ways.Serves path) = Some sides.Server
side_of (ways.Asks addr start) = Some (sides.Client (seed_of start))

-- how messages are framed on a link that was opened in this way
abbrev pub framed_by : Way → Framing
framed_by (ways.Greeting framing) = framing
framed_by (ways.Serves path) = framings.Tcp
framed_by (ways.Asks addr start) = framings.Tcp
