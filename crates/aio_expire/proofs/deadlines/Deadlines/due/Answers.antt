use Rattle.std.proofs.Common.{◌≡◌, ◌<◌, ◌≤◌, ◌+◌, ◌++◌, ℕ, Some, Bool, true, List, Option, length, take, drop, sym, ap, subst, ◌∙◌, arith}
use Rattle.std.specs.Prelude.{map}
use Rattle.std.proofs.lemmas.List.{length-take}
use Rattle.aio_expire.specs.declared.deadlines.Deadline.{Deadline}
use Rattle.aio_expire.specs.Schedule.{Schedule, Turning, IsOrdered, tally, is_of, is_due, due_of, later_than, op_of}
use Rattle.aio_expire.specs.SlotEntries.{SlotEntries, cell_at, count_cells, in_order}
use Rattle.aio_expire.proofs.EntriesByTick.{ordered_filter}
use Rattle.aio_expire.proofs.InOrder.{tally-all, own_from}
use Rattle.aio_expire.proofs.WheelSchedules.{due-few, cells-all, cells-one, due-names, due-rest, pulled-apart, schedule-of, in_order-ordered}
use Rattle.aio_expire.proofs.deadlines.Deadlines.due.Goals as goal

abbrev goal_schedule : ℕ → List Deadline → Schedule
goal_schedule n es = record { slots = n; entries = es }

pub pull-requires : goal.pull-requires
pull-requires c = record { room = let a = cells-all c.self.inside.by_slot.cells in let e = ap (λ (es : List Deadline). length es) c.self.invariant.1 in omega (arith, a, e, c.self.invariant.2) }

pub sort-requires : goal.sort-requires
sort-requires c = λ slot.
    let m = c.pull.ensures.pulled.moved (is_of slot) in
    let z = ap (tally (is_of slot)) c.self.invariant.1 in
    let o = cells-one c.self.inside.by_slot.cells slot c.self.invariant.0 in
    omega (arith, m, z, o)

pub name_all-requires : goal.name_all-requires
name_all-requires c =
    let cells = c.self.inside.by_slot.cells in
    let own = c.self.invariant.0 in
    let left = c.pull.new.by_slot.cells in
    let sorted = c.sort.new.entries.items in
    let moved : (p : Deadline → Bool) → tally p sorted + count_cells p left ≡ count_cells p cells = λ p. let m = c.pull.ensures.pulled.moved p in let s = c.sort.ensures.same p in let z = ap (tally p) c.self.invariant.1 in omega (arith, m, s, z) in
    let m = moved (λ d. true) in
    let all = tally-all sorted in
    let few = cells-all cells in
    let slots = ap (λ (v : Turning). v.schedule.slots) c.self.view_is in
    let same = ap (λ (es : List Deadline). length es) c.deref-2.ensures.value in
    let part : length (take c.due_count-count.result c.deref-2.result.now) ≤ length c.deref-2.result.now = simp length-take (omega arith) in
    omega (arith, part, m, all, few, slots, same, c.requires.room)

pub put_back-requires-clause-apart : goal.put_back-requires-clause-apart
put_back-requires-clause-apart c =
    let cells = c.self.inside.by_slot.cells in
    let own = c.self.invariant.0 in
    let left = c.pull.new.by_slot.cells in
    let sorted = c.sort.new.entries.items in
    let moved : (p : Deadline → Bool) → tally p sorted + count_cells p left ≡ count_cells p cells = λ p. let m = c.pull.ensures.pulled.moved p in let s = c.sort.ensures.same p in let z = ap (tally p) c.self.invariant.1 in omega (arith, m, s, z) in
    let same = ap (λ (v : SlotEntries). v.cells) c.turn_to.ensures in
    pulled-apart cells c.turn_to.new.by_slot sorted own (ap (λ (cs : List (Option Deadline)). length cs) same ∙ c.pull.ensures.pulled.slots) (λ p. let m = moved p in let e = ap (count_cells p) same in omega (arith, m, e))

pub returns-clause-names : goal.returns-clause-names
returns-clause-names c =
    let cells = c.self.inside.by_slot.cells in
    let own = c.self.invariant.0 in
    let left = c.pull.new.by_slot.cells in
    let sorted = c.sort.new.entries.items in
    let moved : (p : Deadline → Bool) → tally p sorted + count_cells p left ≡ count_cells p cells = λ p. let m = c.pull.ensures.pulled.moved p in let s = c.sort.ensures.same p in let z = ap (tally p) c.self.invariant.1 in omega (arith, m, s, z) in
    let later : (slot : ℕ) (e : Deadline) → cell_at slot left ≡ Some e → c.args.now < e.at = λ slot e h. (c.pull.ensures.stay slot e h).0 in
    let front : take c.due_count-count.result sorted ≡ due_of c.args.now sorted = ap (take c.due_count-count.result) (sym c.deref.ensures.value) ∙ c.due_count-count.ensures.due ∙ ap (due_of c.args.now) c.deref.ensures.value in
    let names : take c.due_count-count.result c.deref-2.result.now ≡ due_of c.args.now (in_order cells) = ap (take c.due_count-count.result) c.deref-2.ensures.value ∙ front ∙ due-names c.args.now cells left sorted own c.sort.ensures.ordered moved later in
    c.name_all.ensures.names ∙ ap (λ (es : List Deadline). c.args.out.now.names ++ map op_of es) names ∙ ap (λ (v : Turning). c.args.out.now.names ++ map op_of (due_of c.args.now v.schedule.entries)) c.self.view_is

pub returns-clause-spare : goal.returns-clause-spare
returns-clause-spare c =
    let cells = c.self.inside.by_slot.cells in
    let own = c.self.invariant.0 in
    let left = c.pull.new.by_slot.cells in
    let sorted = c.sort.new.entries.items in
    let moved : (p : Deadline → Bool) → tally p sorted + count_cells p left ≡ count_cells p cells = λ p. let m = c.pull.ensures.pulled.moved p in let s = c.sort.ensures.same p in let z = ap (tally p) c.self.invariant.1 in omega (arith, m, s, z) in
    let later : (slot : ℕ) (e : Deadline) → cell_at slot left ≡ Some e → c.args.now < e.at = λ slot e h. (c.pull.ensures.stay slot e h).0 in
    let front : take c.due_count-count.result sorted ≡ due_of c.args.now sorted = ap (take c.due_count-count.result) (sym c.deref.ensures.value) ∙ c.due_count-count.ensures.due ∙ ap (due_of c.args.now) c.deref.ensures.value in
    let names : take c.due_count-count.result c.deref-2.result.now ≡ due_of c.args.now (in_order cells) = ap (take c.due_count-count.result) c.deref-2.ensures.value ∙ front ∙ due-names c.args.now cells left sorted own c.sort.ensures.ordered moved later in
    let e = ap (λ (es : List Deadline). length es) names in
    let k = ap (λ (v : Turning). length (due_of c.args.now v.schedule.entries)) c.self.view_is in
    omega (arith, c.name_all.ensures.spare, e, k)

pub returns-clause-order : goal.returns-clause-order
returns-clause-order c =
    subst (λ (v : Turning). IsOrdered (due_of c.args.now v.schedule.entries)) c.self.view_is
    (ordered_filter (is_due c.args.now) (in_order c.self.inside.by_slot.cells) (in_order-ordered 0 c.self.inside.by_slot.cells (own_from c.self.inside.by_slot.cells c.self.invariant.0)))

pub returns-clause-rest : goal.returns-clause-rest
returns-clause-rest c =
    let cells = c.self.inside.by_slot.cells in
    let own = c.self.invariant.0 in
    let left = c.pull.new.by_slot.cells in
    let sorted = c.sort.new.entries.items in
    let moved : (p : Deadline → Bool) → tally p sorted + count_cells p left ≡ count_cells p cells = λ p. let m = c.pull.ensures.pulled.moved p in let s = c.sort.ensures.same p in let z = ap (tally p) c.self.invariant.1 in omega (arith, m, s, z) in
    let later : (slot : ℕ) (e : Deadline) → cell_at slot left ≡ Some e → c.args.now < e.at = λ slot e h. (c.pull.ensures.stay slot e h).0 in
    let same = ap (λ (v : SlotEntries). v.cells) c.turn_to.ensures in
    let back = c.put_back.new.by_slot.cells in
    let rear : drop c.due_count-count.result sorted ≡ later_than c.args.now sorted = ap (drop c.due_count-count.result) (sym c.deref.ensures.value) ∙ c.due_count-count.ensures.later ∙ ap (later_than c.args.now) c.deref.ensures.value in
    let entries = due-rest c.args.now cells left sorted own c.sort.ensures.ordered moved later back c.put_back.ensures.own
    (λ p. let b = c.put_back.ensures.back p in let r = ap (tally p) rear in let e = ap (count_cells p) same in omega (arith, b, r, e)) in
    let long : length back ≡ length cells = c.put_back.ensures.slots ∙ ap (λ (cs : List (Option Deadline)). length cs) same ∙ c.pull.ensures.pulled.slots in
    let here : goal_schedule (length back) (in_order back) ≡ goal_schedule (length cells) (later_than c.args.now (in_order cells)) = λ i. record { slots = long i; entries = entries i } in
    here ∙ ap (λ (v : Turning). goal_schedule v.schedule.slots (later_than c.args.now v.schedule.entries)) c.self.view_is

pub returns-clause-schedule : goal.returns-clause-schedule
returns-clause-schedule c = schedule-of c.put_back.new.by_slot.cells c.put_back.ensures.own

pub returns-clause-few : goal.returns-clause-few
returns-clause-few c =
    subst (λ (v : Turning). length (due_of c.args.now v.schedule.entries) ≤ v.schedule.slots) c.self.view_is (due-few c.args.now c.self.inside.by_slot.cells c.self.invariant.0)
