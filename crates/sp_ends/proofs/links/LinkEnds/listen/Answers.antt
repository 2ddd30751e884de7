-- There is room for one more listener, and for its links; then the net listens.
use Rattle.std.proofs.Common.{◌≡◌, ◌+◌, ◌++◌, ◌∷◌, [], ◌∙◌, List, false, refl, sym, ap, subst, length, length-append, deque_capacity, arith, Result, Ok, Err, OnOk, is_err}
use Rattle.sp_ends.specs.declared.listener.Listener.{Listener}
use Rattle.sp_ends.specs.declared.newcomer.Newcomer.{Newcomer}
use Rattle.sp_ends.specs.EndViews.{LinkEndsView}
use Rattle.sp_base.specs.declared.outside.Listened.{Listened}
use Rattle.sp_base.specs.Steps.{ListenedAs}
use Rattle.sp_ends.specs.AddedEnds.{FailsToListen}
use Rattle.sp_ends.proofs.Owned.{counted_as, counted_listener}
use Rattle.sp_ends.proofs.links.LinkEnds.listen.Goals.{in-Ws-1, in-Inproc-1, in-Tcp-1, in-Ipc-1}
use Rattle.sp_ends.proofs.links.LinkEnds.listen.Goals as goal

went_well : {A E : Type 0} (r : Result A E) (P : Type 0) → OnOk r P → is_err r ≡ false → P
went_well (Ok a) P h e = h
went_well (Err x) P h e = cc

-- the same ends, at other places in memory
in_place : {L : Type 0} (e : LinkEndsView L) (ls : List Listener) (ns : List (Newcomer L)) → ls ≡ e.listeners → ns ≡ e.newcomers → record e { listeners = ls; newcomers = ns } ≡ e
in_place e ls ns p q i = record e { listeners = p i; newcomers = q i }

-- with one more listener
grown_as : {L : Type 0} (e e' : LinkEndsView L) (l : Listener) (ls : List Listener) (ns : List (Newcomer L)) → ls ≡ e.listeners ++ l ∷ [] → ns ≡ e.newcomers → e ≡ e' → record e { listeners = ls; newcomers = ns } ≡ record e' { listeners = e'.listeners ++ l ∷ [] }
grown_as e e' l ls ns p q is = first ∙ ap (λ (v : LinkEndsView _). record v { listeners = v.listeners ++ l ∷ [] }) is
  where
    first : record e { listeners = ls; newcomers = ns } ≡ record e { listeners = e.listeners ++ l ∷ [] }
    first i = record e { listeners = p i; newcomers = q i }

pub invariant_of-self-then-is_err-3 : goal.invariant_of-self-then-is_err-3
invariant_of-self-then-is_err-3 g c =
    counted_as c.self.inside.greetings.items c.reserve-else-is_err.new.self.items (length c.self.inside.listeners.items) (length c.reserve.new.self.items) c.self.inside.newcomers.items c.reserve-2.new.self.items _ _ c.reserve-else-is_err.ensures.items (ap length c.reserve.ensures.items) c.reserve-2.ensures.items c.reserve-2.ensures.capacity c.self.invariant

pub invariant_of-self-in_default-copy_of : goal.invariant_of-self-in_default-copy_of
invariant_of-self-in_default-copy_of g c =
    counted_as c.self.inside.greetings.items c.reserve-else-is_err.new.self.items (length c.self.inside.listeners.items) (length c.reserve.new.self.items) c.self.inside.newcomers.items c.reserve-2.new.self.items _ _ c.reserve-else-is_err.ensures.items (ap length c.reserve.ensures.items) c.reserve-2.ensures.items c.reserve-2.ensures.capacity c.self.invariant

pub invariant_of-self-in-Failed : goal.invariant_of-self-in-Failed
invariant_of-self-in-Failed g c =
    counted_as c.self.inside.greetings.items c.reserve-else-is_err.new.self.items (length c.self.inside.listeners.items) (length c.reserve.new.self.items) c.self.inside.newcomers.items c.reserve-2.new.self.items _ _ c.reserve-else-is_err.ensures.items (ap length c.reserve.ensures.items) c.reserve-2.ensures.items c.reserve-2.ensures.capacity c.self.invariant

pub invariant_of-self-in-Failed-3 : goal.invariant_of-self-in-Failed-3
invariant_of-self-in-Failed-3 g c =
    counted_as c.self.inside.greetings.items c.reserve-else-is_err.new.self.items (length c.self.inside.listeners.items) (length c.reserve.new.self.items) c.self.inside.newcomers.items c.reserve-2.new.self.items _ _ c.reserve-else-is_err.ensures.items (ap length c.reserve.ensures.items) c.reserve-2.ensures.items c.reserve-2.ensures.capacity c.self.invariant

pub invariant_of-self-in-Failed-4 : goal.invariant_of-self-in-Failed-4
invariant_of-self-in-Failed-4 g c =
    counted_as c.self.inside.greetings.items c.reserve-else-is_err.new.self.items (length c.self.inside.listeners.items) (length c.reserve.new.self.items) c.self.inside.newcomers.items c.reserve-2.new.self.items _ _ c.reserve-else-is_err.ensures.items (ap length c.reserve.ensures.items) c.reserve-2.ensures.items c.reserve-2.ensures.capacity c.self.invariant

pub push_reserved-requires : goal.push_reserved-requires
push_reserved-requires g c =
    let room = went_well c.reserve.result _ c.reserve.ensures.ok (sym c.is_err.ensures.value ∙ c.if-is_err.false) in omega (arith, room)

pub push_reserved-requires-in-At : goal.push_reserved-requires-in-At
push_reserved-requires-in-At g c =
    let room = went_well c.reserve-else-is_err.result _ c.reserve-else-is_err.ensures.ok (sym c.is_err-else-is_err.ensures.value ∙ c.if-is_err-2.false) in omega (arith, room)

pub invariant_of-self-in-At : goal.invariant_of-self-in-At
invariant_of-self-in-At g c =
    let ok = went_well c.reserve-2.result _ c.reserve-2.ensures.ok (sym c.is_err-2.ensures.value ∙ c.if-is_err-3.false) in
    let first = ap length c.reserve.ensures.items in
    let long : length c.push_reserved.new.self.items ≡ length c.self.inside.listeners.items + 1 = omega (arith, ap length c.push_reserved.ensures.items, length-append c.reserve.new.self.items (record { at = c.in-At.at; addr = c.in-Ok.copy; max = c.args.max } ∷ []), first) in
    counted_as (c.self.inside.greetings.items ++ 0 ∷ []) c.push_reserved-in-At.new.self.items (length c.self.inside.listeners.items + 1) (length c.push_reserved.new.self.items) c.self.inside.newcomers.items c.reserve-2.new.self.items (deque_capacity c.reserve-2.new.self) (deque_capacity c.reserve-2.new.self)
    (c.push_reserved-in-At.ensures.items ∙ ap (λ xs. xs ++ 0 ∷ []) c.reserve-else-is_err.ensures.items) long c.reserve-2.ensures.items (omega arith)
    (counted_listener c.self.inside.greetings.items (length c.self.inside.listeners.items) c.self.inside.newcomers.items (deque_capacity c.self.inside.newcomers) (deque_capacity c.reserve-2.new.self) c.self.invariant
    (omega (arith, ok, first, c.in-Some.ensures, c.len.ensures, c.len-2.ensures, c.saturating_sub-more.ensures, c.reserve-2.ensures.len, c.reserve.new.self.ok.0, c.self.inside.newcomers.ok.0)))

pub returns-in-Failed : goal.returns-in-Failed
returns-in-Failed g c =
    let shows = subst (λ (r : Listened). ListenedAs r c.args.addr.now (g.N.Net.seen c.args.net.now) (g.N.Net.seen c.listen.new.self)) c.in-Failed.is c.listen.ensures.shows in
    let fails : FailsToListen (g.N.Net.seen c.args.net.now) (g.N.Net.seen c.listen.new.self) = record { untouched = shows.0; fault = shows.1; later = c.listen.ensures.faults; idles = c.listen.ensures.idles } in
    let same = in_place (record { role = c.self.inside.role; dice = c.self.inside.dice; asked = c.self.inside.asked; listeners = c.self.inside.listeners.items; dialers = c.self.inside.dialers.items; newcomers = c.self.inside.newcomers.items }) c.reserve.new.self.items c.reserve-2.new.self.items c.reserve.ensures.items c.reserve-2.ensures.items in
    elim c.match-copy.branch [
      | in-Ws-1 w ↦ (w.self-is ∙ (same ∙ c.self.view_is), fails)
      | in-Inproc-1 w ↦ (w.self-is ∙ (same ∙ c.self.view_is), fails)
      | in-Tcp-1 w ↦ (w.self-is ∙ (same ∙ c.self.view_is), fails)
      | in-Ipc-1 w ↦ (w.self-is ∙ (same ∙ c.self.view_is), fails)
    ]

pub returns-in-At : goal.returns-in-At
returns-in-At g c =
    let l : Listener = record { at = c.in-At.at; addr = c.in-Ok.copy; max = c.args.max } in
    let s = subst (λ (r : Listened). ListenedAs r c.args.addr.now (g.N.Net.seen c.args.net.now) (g.N.Net.seen c.listen.new.self)) c.in-At.is c.listen.ensures.shows in (
      l,
      c.in-Ok.ensures,
      refl,
      grown_as (record { role = c.self.inside.role; dice = c.self.inside.dice; asked = c.self.inside.asked; listeners = c.self.inside.listeners.items; dialers = c.self.inside.dialers.items; newcomers = c.self.inside.newcomers.items }) c.args.self.now l c.push_reserved.new.self.items c.reserve-2.new.self.items
          (c.push_reserved.ensures.items ∙ ap (λ xs. xs ++ l ∷ []) c.reserve.ensures.items) c.reserve-2.ensures.items c.self.view_is,
      record { fresh = s.fresh; listens = s.listens; opened = s.opened; back = s.back; faults = c.listen.ensures.faults; idles = c.listen.ensures.idles },
    )
