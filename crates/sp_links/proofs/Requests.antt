-- The request for an address.
use Rattle.std.proofs.Common.{◌≡◌, ℕ, List, refl, sym, ap, ◌∙◌}
use Rattle.sp_base.specs.declared.role.Role.{Role}
use Rattle.sp_base.specs.Roles.{role_peer}
use Rattle.sp_base.specs.declared.addr.Host.TheVariants as hosts
use Rattle.sp_base.specs.declared.addr.Addr.{Addr}
use Rattle.sp_base.specs.declared.addr.Addr.TheVariants as addrs
use Rattle.sp_upgrade.specs.Texts.{Dials, IsDialed, host_text, request_text}
use Rattle.sp_links.specs.declared.way.Way.TheVariants as ways
use Rattle.sp_links.specs.Keys.{key_of}
use Rattle.sp_links.specs.Openings.{IsRequestFor}

-- an address that can be dialed has one
pub request_for : (role : Role) (addr : Addr) (start : ℕ) (text : List ℕ) → IsDialed addr → ((host path : List ℕ) → Dials addr host path → text ≡ request_text (role_peer role) host path (key_of start)) → IsRequestFor role (ways.Asks addr start) text
request_for role (addrs.Ws (hosts.V4 a b c d) port path) start text x all = (host_text a b c d port, path, dials, all (host_text a b c d port) path dials)
  where
    dials : Dials (addrs.Ws (hosts.V4 a b c d) port path) (host_text a b c d port) path
    dials = record { a = a; b = b; c = c; d = d; port = port; addr_is = refl; host_is = refl }
request_for role (addrs.Ws hosts.Any port path) start text x all = absurd x
request_for role (addrs.Tcp host port) start text x all = absurd x
request_for role (addrs.Inproc name) start text x all = absurd x
request_for role (addrs.Ipc socket) start text x all = absurd x

same_path : (addr : Addr) (h k p q : List ℕ) → Dials addr h p → Dials addr k q → p ≡ q
same_path addr h k p q x y =
    let both : addrs.Ws (hosts.V4 x.a x.b x.c x.d) x.port p ≡ addrs.Ws (hosts.V4 y.a y.b y.c y.d) y.port q = sym x.addr_is ∙ y.addr_is in
    cc both

same_host : (addr : Addr) (h k p q : List ℕ) → Dials addr h p → Dials addr k q → h ≡ k
same_host addr h k p q x y =
    let both : addrs.Ws (hosts.V4 x.a x.b x.c x.d) x.port p ≡ addrs.Ws (hosts.V4 y.a y.b y.c y.d) y.port q = sym x.addr_is ∙ y.addr_is in
    let texts : host_text x.a x.b x.c x.d x.port ≡ host_text y.a y.b y.c y.d y.port = cc both in
    x.host_is ∙ texts ∙ sym y.host_is

-- and only one
pub one_request : (role : Role) (addr : Addr) (start : ℕ) (s t : List ℕ) → IsRequestFor role (ways.Asks addr start) s → IsRequestFor role (ways.Asks addr start) t → s ≡ t
one_request role addr start s t (h, p, x, is) (k, q, y, js) =
    is ∙ ap (λ (v : List ℕ). request_text (role_peer role) v p (key_of start)) (same_host addr h k p q x y) ∙ ap (λ (v : List ℕ). request_text (role_peer role) k v (key_of start)) (same_path addr h k p q x y) ∙ sym js
