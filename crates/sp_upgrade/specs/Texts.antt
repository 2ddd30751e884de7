-- The texts of an opening.
use Rattle.std.specs.Prelude.{◌≡◌, ℕ, List, ◌++◌, codes}
use Rattle.std.specs.Fmt.{decimal}
use Rattle.sp_base.specs.Roles.{role_name}
use Rattle.sp_base.specs.declared.role.Role.{Role}
use Rattle.sp_base.specs.declared.addr.Host.TheVariants as hosts
use Rattle.sp_base.specs.declared.addr.Addr.{Addr}
use Rattle.sp_base.specs.declared.addr.Addr.TheVariants as addrs
use Rattle.sp_upgrade.specs.Keys.{base64, accept_of}

abbrev pub crlf : List ℕ
crlf = codes "\r\n"

-- the subprotocol of a listening socket of this role
abbrev pub subprotocol : Role → List ℕ
subprotocol listening = role_name listening ++ codes ".sp.nanomsg.org"

abbrev pub field_line : List ℕ → List ℕ → List ℕ
field_line name value = name ++ codes ": " ++ value ++ crlf

-- the server's answer to a good head
unfoldable pub answer_text : Role → List ℕ → List ℕ
answer_text listening key =
    codes "HTTP/1.1 101 Switching Protocols" ++ crlf
    ++ field_line (codes "Upgrade") (codes "websocket")
    ++ field_line (codes "Connection") (codes "Upgrade")
    ++ field_line (codes "Sec-WebSocket-Accept") (accept_of key)
    ++ field_line (codes "Sec-WebSocket-Protocol") (subprotocol listening)
    ++ crlf

-- four numbers separated by dots, a colon and the port
abbrev pub host_text : ℕ → ℕ → ℕ → ℕ → ℕ → List ℕ
host_text a b c d port =
    decimal a ++ codes "." ++ decimal b ++ codes "." ++ decimal c ++ codes "." ++ decimal d ++ codes ":" ++ decimal port

-- the client's request to a listening socket of this role: the host, the path and 16 bytes of key
unfoldable pub request_text : Role → List ℕ → List ℕ → List ℕ → List ℕ
request_text listening host path nonce =
    codes "GET " ++ path ++ (codes " HTTP/1.1" ++ crlf)
    ++ field_line (codes "Host") host
    ++ field_line (codes "Upgrade") (codes "websocket")
    ++ field_line (codes "Connection") (codes "Upgrade")
    ++ field_line (codes "Sec-WebSocket-Key") (base64 nonce)
    ++ field_line (codes "Sec-WebSocket-Version") (codes "13")
    ++ field_line (codes "Sec-WebSocket-Protocol") (subprotocol listening)
    ++ crlf

-- a WebSocket address with one host: its text in the Host line, and its path
pub record Dials (addr : Addr) (host path : List ℕ) : Type 0 where
  pub a : ℕ
  pub b : ℕ
  pub c : ℕ
  pub d : ℕ
  pub port : ℕ
  pub addr_is : addr ≡ addrs.Ws (hosts.V4 a b c d) port path
  pub host_is : host ≡ host_text a b c d port

-- an address that can be dialed
abbrev pub IsDialed : Addr → Type 0
IsDialed (addrs.Ws (hosts.V4 a b c d) port path) = Unit {0}
IsDialed (addrs.Ws hosts.Any port path) = ⊥
IsDialed (addrs.Tcp host port) = ⊥
IsDialed (addrs.Inproc name) = ⊥
IsDialed (addrs.Ipc path) = ⊥
