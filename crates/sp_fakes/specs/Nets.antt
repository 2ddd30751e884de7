-- What a net in memory shows, and what its calls hand out.
use Rattle.std.specs.Prelude.{◌≡◌, ◌≤◌, ◌<◌, ◌+◌, ◌-◌, ◌^◌, ◌⊎◌, ℕ, zero, suc, Bool, true, false, List, [], ◌∷◌, length, map, Option, Some, None, Vec, slice_get}
use Rattle.std.specs.declared.alloc.Global.{Global}
use Rattle.std.specs.declared.collections.VecDeque.{VecDeque}
use Rattle.std.specs.FinMap.{empty, from_entries}
use Rattle.sp_base.specs.Views.{LinkView, NetView}
use Rattle.sp_base.specs.Listeners.{listens_of}
use Rattle.sp_base.specs.Steps.{AfterLinking, AfterListen}
use Rattle.sp_base.specs.declared.addr.Addr.{Addr}
use Rattle.sp_base.specs.declared.addr.Scheme.{Scheme}
use Rattle.sp_base.specs.declared.outside.Linked.{Linked}
use Rattle.sp_base.specs.declared.outside.Linked.TheVariants as linked
use Rattle.sp_base.specs.declared.outside.Listened.{Listened}
use Rattle.sp_base.specs.declared.outside.Listened.TheVariants as listened
use Rattle.sp_msg.specs.Marks.{one_more}
use Rattle.sp_fakes.specs.Calls.{Calls, next_fails, one_call}
use Rattle.sp_fakes.specs.Scripts.{LinkScript}
use Rattle.sp_fakes.specs.MemLinks.{link_view, link_script, as_made}
use Rattle.sp_fakes.specs.declared.link.MemLink.{MemLink}
use Rattle.sp_fakes.specs.declared.net.Returned.{Returned}
use Rattle.sp_fakes.specs.declared.net.Returned.TheVariants as r
use Rattle.sp_fakes.specs.declared.net.NetLink.{NetLink}
use Rattle.sp_fakes.specs.declared.net.MemNet.{MemNet}

abbrev pub returned_entries : Returned → List (ℕ × LinkView)
returned_entries r.Nothing = []
returned_entries (r.More' link p below) = (link.number, link_view link) ∷ returned_entries below

abbrev pub net_view : MemNet → NetView
net_view n = record {
  listens = listens_of n.listeners;
  opened = n.handed;
  back = from_entries (returned_entries n.returned);
  faults = n.fault_count;
  idles = n.idle_count;
}

-- the link itself
abbrev pub link_of : NetLink → MemLink
link_of l = l.link

-- links that wait, as they were made
abbrev pub Queue : Type 0
Queue = List LinkScript

abbrev pub queue_of : List NetLink → Queue
queue_of links = map (λ l. as_made l.link) links

abbrev pub queues_of : List (VecDeque NetLink Global) → List Queue
queues_of lists = map (λ links. queue_of links.items) lists

abbrev pub queues_to : List (Addr × VecDeque NetLink Global) → List (Addr × Queue)
queues_to lists = map (λ d. (d.0, queue_of d.1.items)) lists

-- the same for links that no net has yet
abbrev pub all_as_made : List MemLink → Queue
all_as_made links = map as_made links

abbrev pub lists_as_made : List (Vec MemLink Global) → List Queue
lists_as_made lists = map (λ links. all_as_made links.items) lists

abbrev pub dials_as_made : List (Addr × Vec MemLink Global) → List (Addr × Queue)
dials_as_made lists = map (λ d. (d.0, all_as_made d.1.items)) lists

-- the calls of listen, accept and dial, and those of them that fail; the number of listeners; the links that wait for
-- each listener, by its number, and for each address
pub record NetScript : Type 0 where
  pub calls : Calls
  pub listened : ℕ
  pub accepts : List Queue
  pub dials : List (Addr × Queue)

abbrev pub net_script : MemNet → NetScript
net_script n = record {
  calls = record { made = n.calls; fails = n.fails.items };
  listened = length n.listeners.schemes.items;
  accepts = queues_of n.incoming.items;
  dials = queues_to n.outgoing.items;
}

-- the call fails: it is listed, or no place is left
abbrev pub RefusedAs : Bool → Bool → ℕ → Type 0
RefusedAs true listed opened = (listed ≡ true) ⊎ (2 ^ 32 - 2 ≤ opened)
RefusedAs false listed opened = (listed ≡ false) × (opened < 2 ^ 32 - 2)

-- the queue with this number goes from queue to queue', and no other changes; a number after the last one has an empty
-- queue
abbrev pub GoesAt : ℕ → List Queue → List Queue → Queue → Queue → Type 0
GoesAt n [] new queue queue' = (new ≡ []) × (queue ≡ []) × (queue' ≡ [])
GoesAt zero (first ∷ rest) new queue queue' = (queue ≡ first) × (new ≡ queue' ∷ rest)
GoesAt (suc n) (first ∷ rest) new queue queue' = (rest' : List Queue) × GoesAt n rest rest' queue queue' × (new ≡ first ∷ rest')

-- the same for the first queue of this address; an address without one has an empty queue
abbrev pub GoesTo : Addr → List (Addr × Queue) → List (Addr × Queue) → Queue → Queue → Type 0
GoesTo addr [] new queue queue' = (new ≡ []) × (queue ≡ []) × (queue' ≡ [])
GoesTo addr (first ∷ rest) new queue queue' =
    ((first.0 ≡ addr) × (queue ≡ first.1) × (new ≡ (first.0, queue') ∷ rest))
    ⊎ (¬ (first.0 ≡ addr) × ((rest' : List (Addr × Queue)) × GoesTo addr rest rest' queue queue' × (new ≡ first ∷ rest')))

-- the first link that waits for the listener is handed out as it was made; there is none only where no link waits; a
-- failed call uses up no link
abbrev pub AcceptsBy : Linked NetLink → ℕ → Bool → ℕ → List Queue → List Queue → Type 0
AcceptsBy (linked.Got link) at listed opened old new = RefusedAs false listed opened × ((queue : Queue) × GoesAt at old new (link_script link.link ∷ queue) queue)
AcceptsBy linked.NotYet at listed opened old new = RefusedAs false listed opened × GoesAt at old new [] []
AcceptsBy linked.Begun at listed opened old new = ⊥
AcceptsBy linked.Failed at listed opened old new = RefusedAs true listed opened × (new ≡ old)

-- and the same for the links that wait for the address
abbrev pub DialsBy : Linked NetLink → Addr → Bool → ℕ → List (Addr × Queue) → List (Addr × Queue) → Type 0
DialsBy (linked.Got link) addr listed opened old new = RefusedAs false listed opened × ((queue : Queue) × GoesTo addr old new (link_script link.link ∷ queue) queue)
DialsBy linked.NotYet addr listed opened old new = RefusedAs false listed opened × GoesTo addr old new [] []
DialsBy linked.Begun addr listed opened old new = ⊥
DialsBy linked.Failed addr listed opened old new = RefusedAs true listed opened × (new ≡ old)

-- listeners have the numbers 0, 1, 2 and so on; a call that is listed fails
abbrev pub NumberedBy : Listened → Bool → ℕ → ℕ → Type 0
NumberedBy (listened.At n) listed old new = (listed ≡ false) × (n ≡ old) × (new ≡ old + 1)
NumberedBy listened.Failed listed old new = new ≡ old

pub record ListenBy (result : Listened) (old new : NetScript) : Type 0 where
  pub calls : new.calls ≡ one_call old.calls
  pub numbered : NumberedBy result (next_fails old.calls) old.listened new.listened
  pub accepts : new.accepts ≡ old.accepts
  pub dials : new.dials ≡ old.dials

pub record AcceptBy (result : Linked NetLink) (at opened : ℕ) (old new : NetScript) : Type 0 where
  pub calls : new.calls ≡ one_call old.calls
  pub listened : new.listened ≡ old.listened
  pub accepts : AcceptsBy result at (next_fails old.calls) opened old.accepts new.accepts
  pub dials : new.dials ≡ old.dials

pub record DialBy (result : Linked NetLink) (addr : Addr) (opened : ℕ) (old new : NetScript) : Type 0 where
  pub calls : new.calls ≡ one_call old.calls
  pub listened : new.listened ≡ old.listened
  pub accepts : new.accepts ≡ old.accepts
  pub dials : DialsBy result addr (next_fails old.calls) opened old.dials new.dials

-- a fault is one that is returned, and only that counts as one
abbrev pub faults_listened : Listened → ℕ → ℕ
faults_listened (listened.At n) faults = faults
faults_listened listened.Failed faults = one_more faults

abbrev pub faults_linked : Linked NetLink → ℕ → ℕ
faults_linked (linked.Got link) faults = faults
faults_linked linked.NotYet faults = faults
faults_linked linked.Begun faults = faults
faults_linked linked.Failed faults = one_more faults

-- none of the first lists belongs to this address
abbrev pub IsPast : Addr → List (Addr × VecDeque NetLink Global) → ℕ → Type 0
IsPast addr lists n = (k : ℕ) → k < n → (d : Addr × VecDeque NetLink Global) → slice_get lists k ≡ Some d → ¬ (d.0 ≡ addr)

-- and the one at this place does
abbrev pub IsPlaceOf : Addr → List (Addr × VecDeque NetLink Global) → ℕ → Type 0
IsPlaceOf addr lists at = IsPast addr lists at × (at < length lists) × ((d : Addr × VecDeque NetLink Global) → slice_get lists at ≡ Some d → d.0 ≡ addr)

-- the first link of a queue is taken, if there is one
abbrev pub IsFirst : Option NetLink → Queue → Queue → Type 0
IsFirst None queue queue' = (queue ≡ []) × (queue' ≡ [])
IsFirst (Some l) queue queue' = queue ≡ as_made l.link ∷ queue'

-- the link that was found is handed out as it was made
abbrev pub IsHandedOn : Option NetLink → Linked NetLink → Type 0
IsHandedOn None (linked.Got link) = ⊥
IsHandedOn None linked.NotYet = Unit {0}
IsHandedOn None linked.Begun = ⊥
IsHandedOn None linked.Failed = ⊥
IsHandedOn (Some l) (linked.Got link) = link_script link.link ≡ as_made l.link
IsHandedOn (Some l) linked.NotYet = ⊥
IsHandedOn (Some l) linked.Begun = ⊥
IsHandedOn (Some l) linked.Failed = ⊥

-- a net before any call
abbrev pub fresh_net : NetView
fresh_net = record { listens = empty; opened = 0; back = empty; faults = 0; idles = 0 }

-- a link was asked for, with this scheme if one is given
abbrev pub IsLinked : Linked NetLink → Option Scheme → NetView → NetView → Type 0
IsLinked result wanted old new = AfterLinking (λ (l : NetLink). link_view l.link) result wanted old new

-- no listener was added, for any address
abbrev pub HasNoListener : Listened → NetView → NetView → Type 0
HasNoListener result old new = (addr : Addr) → AfterListen result addr old new

-- there is no link, for any request
abbrev pub HasNone : Linked NetLink → NetView → NetView → Type 0
HasNone result old new = (wanted : Option Scheme) → IsLinked result wanted old new
