-- A link that was handed out begins in a known way.
use Rattle.std.proofs.Common.{◌≡◌, ◌+◌, ◌<◌, ◌∷◌, [], ℕ, zero, suc, true, List, length, Option, Some, Result, IfOk, refl, sym, ap, subst, ◌∙◌, arith, slice_get, set}
use Rattle.std.specs.FinMap.{get}
use Rattle.sp_base.specs.Addresses.{is_linked, is_dialable, scheme_of}
use Rattle.sp_base.specs.Steps.{IsHandedOut}
use Rattle.sp_base.specs.Views.{LinkView, NetView}
use Rattle.sp_base.specs.declared.addr.Addr.{Addr}
use Rattle.sp_base.specs.declared.addr.Addr.TheVariants as addrs
use Rattle.sp_base.specs.declared.addr.Host.TheVariants as hosts
use Rattle.sp_base.specs.declared.addr.Scheme.{Scheme}
use Rattle.sp_base.specs.declared.error.NoMemory.{NoMemory}
use Rattle.sp_links.specs.declared.way.Way.{Way}
use Rattle.sp_links.specs.Openings.{CanBegin, scheme_for}
use Rattle.sp_links.specs.Origins.{Origins, IsAmong, IsKnown, serving, asking}
use Rattle.sp_ends.specs.declared.listener.Listener.{Listener}
use Rattle.sp_ends.specs.declared.dialer.Dialer.{Dialer}
use Rattle.sp_ends.specs.EndViews.{LinkEndsView}
use Rattle.sp_ends.specs.RunLinks.{AreOfRun, IsListener}
use Rattle.sp_ends.specs.EndsTurns.{Arrives}
use Rattle.sp_ends.proofs.NewcomingAsks.{at_of}

-- ---- At an address that the net listens on

known_served : (o : Origins) (addr : Addr) → IsAmong addr o.listens → IsKnown o (serving addr)
known_served o (addrs.Tcp host port) x = tt
known_served o (addrs.Ws host port path) x = (addrs.Ws host port path, x, refl)
known_served o (addrs.Ipc path) x = tt
known_served o (addrs.Inproc name) x = tt

can_serve : (addr : Addr) → CanBegin (serving addr)
can_serve (addrs.Tcp host port) = tt
can_serve (addrs.Ws host port path) = tt
can_serve (addrs.Ipc path) = tt
can_serve (addrs.Inproc name) = tt

scheme_served : (addr : Addr) → is_linked addr ≡ true → scheme_for (serving addr) ≡ scheme_of addr
scheme_served (addrs.Tcp host port) x = refl
scheme_served (addrs.Ws host port path) x = refl
scheme_served (addrs.Ipc path) x = refl
scheme_served (addrs.Inproc name) x = cc

pub arrives_served : {L : Type 0} (o : Origins) (ends : LinkEndsView L) (i : ℕ) (l : Listener) (link : LinkView) (way : Result Way NoMemory) (max : ℕ) (a b : NetView) → AreOfRun o ends → slice_get ends.listeners i ≡ Some l → max ≡ l.max → IfOk way (λ w. w ≡ serving l.addr) → IsListener a l → IsHandedOut link (get a.listens l.at) a b → Arrives o link way max a b
arrives_served o ends i l link way max a b run at max_is is listens handed =
    record {
      begins = serving l.addr;
      is = is;
      known = known_served o l.addr (at_of (λ (x : Listener). IsAmong x.addr o.listens) ends.listeners i l run.listens at);
      can = can_serve l.addr;
      limit = subst (λ (m : ℕ). IsAmong m o.limits) (sym max_is) (at_of (λ (x : Listener). IsAmong x.max o.limits) ends.listeners i l run.listen_limits at);
      handed = subst (λ (s : Option Scheme). IsHandedOut link s a b) (listens.listens ∙ ap Some (sym (scheme_served l.addr listens.linked))) handed;
    }

-- ---- From an address that is dialed

known_asked : (o : Origins) (addr : Addr) (dice n : ℕ) → dice ≡ o.dice → IsAmong addr o.dials → IsKnown o (asking addr (dice + n))
known_asked o (addrs.Tcp host port) dice n e x = tt
known_asked o (addrs.Ws host port path) dice n e x = (x, (n, ap (λ (k : ℕ). k + n) e))
known_asked o (addrs.Ipc path) dice n e x = tt
known_asked o (addrs.Inproc name) dice n e x = tt

can_ask : (addr : Addr) (start : ℕ) → is_dialable addr ≡ true → CanBegin (asking addr start)
can_ask (addrs.Tcp host port) start x = tt
can_ask (addrs.Ws (hosts.V4 a b c d) port path) start x = tt
can_ask (addrs.Ws hosts.Any port path) start x = cc
can_ask (addrs.Ipc path) start x = tt
can_ask (addrs.Inproc name) start x = tt

scheme_asked : (addr : Addr) (start : ℕ) → is_dialable addr ≡ true → scheme_for (asking addr start) ≡ scheme_of addr
scheme_asked (addrs.Tcp host port) start x = refl
scheme_asked (addrs.Ws host port path) start x = refl
scheme_asked (addrs.Ipc path) start x = refl
scheme_asked (addrs.Inproc name) start x = cc

pub arrives_asked : {L : Type 0} (o : Origins) (ends : LinkEndsView L) (i n : ℕ) (d : Dialer) (link : LinkView) (way : Result Way NoMemory) (max : ℕ) (a b : NetView) → AreOfRun o ends → slice_get ends.dialers i ≡ Some d → max ≡ d.max → IfOk way (λ w. w ≡ asking d.addr (ends.dice + n)) → is_dialable d.addr ≡ true → IsHandedOut link (Some (scheme_of d.addr)) a b → Arrives o link way max a b
arrives_asked o ends i n d link way max a b run at max_is is can handed =
    record {
      begins = asking d.addr (ends.dice + n);
      is = is;
      known = known_asked o d.addr ends.dice n run.dice (at_of (λ (x : Dialer). IsAmong x.addr o.dials) ends.dialers i d run.dials at);
      can = can_ask d.addr (ends.dice + n) can;
      limit = subst (λ (m : ℕ). IsAmong m o.limits) (sym max_is) (at_of (λ (x : Dialer). IsAmong x.max o.limits) ends.dialers i d run.dial_limits at);
      handed = subst (λ (s : Scheme). IsHandedOut link (Some s) a b) (sym (scheme_asked d.addr (ends.dice + n) can)) handed;
    }

-- the dialer has tried, and still has this address
pub arrives_dialed : {L : Type 0} (o : Origins) (ends : LinkEndsView L) (i n : ℕ) (d e : Dialer) (link : LinkView) (way : Result Way NoMemory) (max : ℕ) (a b : NetView) → AreOfRun o ends → slice_get ends.dialers i ≡ Some e → max ≡ e.max → e.addr ≡ d.addr → IfOk way (λ w. w ≡ asking e.addr (ends.dice + n)) → is_dialable d.addr ≡ true → IsHandedOut link (Some (scheme_of d.addr)) a b → Arrives o link way max a b
arrives_dialed o ends i n d e link way max a b run at max_is same is can handed =
    arrives_asked o ends i n e link way max a b run at max_is is (ap is_dialable same ∙ can) (subst (λ (x : Addr). IsHandedOut link (Some (scheme_of x)) a b) (sym same) handed)

pub set_at : {X : Type 0} (xs : List X) (i : ℕ) (x : X) → i < length xs → slice_get (set xs i x) i ≡ Some x
set_at [] i x lt = absurd (omega (arith, lt))
set_at (y ∷ ys) zero x lt = refl
set_at (y ∷ ys) (suc i) x lt = set_at ys i x (omega (arith, lt))
