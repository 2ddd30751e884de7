use Rattle.std.proofs.Common.{rules, ◌≡◌, ◌<◌, ◌≤◌, false, true, length, slice_index_or, arith}
use Rattle.std.specs.Prelude.{◌==◌}
use Rattle.std.proofs.lemmas.List.Sorted.{IsPartitionPoint-from_clause}
use Rattle.proto_pubsub.proofs.ContextsByNumber.{is_under, at_or_above, parted, placed, not_placed, all_lower, equal_of}
use Rattle.proto_pubsub.proofs.subscribe.index_of.Goals as goal

pub returns-then-i-contexts-clause-place : goal.returns-then-i-contexts-clause-place
returns-then-i-contexts-clause-place c = λ h.
    let xs = c.args.contexts.now in
    let point = IsPartitionPoint-from_clause (is_under c.args.c) xs _ c.partition_point-i.ensures.partitioned (parted c.args.c xs h) (λ a r q k. search rules) in
    let past : length xs ≤ c.partition_point-i.result = search rules in
    all_lower xs c.args.c (λ k e m. point.0 k e (omega arith) (omega (arith, m, past)))

pub returns-then-not-is_of-clause-place : goal.returns-then-not-is_of-clause-place
returns-then-not-is_of-clause-place c = λ h.
    let xs = c.args.contexts.now in
    let i = c.partition_point-i.result in
    let d = c.index-contexts-i.result in
    let point = IsPartitionPoint-from_clause (is_under c.args.c) xs _ c.partition_point-i.ensures.partitioned (parted c.args.c xs h) (λ a r q k. search rules) in
    let no : ((slice_index_or xs i d).ctx == c.args.c) ≡ false = search rules in
    not_placed xs c.args.c i d h (λ k e m l. point.0 k e (omega arith) m) (λ l. at_or_above _ c.args.c (point.1 i d (omega arith) l) no)

pub returns-clause-place : goal.returns-clause-place
returns-clause-place c = λ h.
    let xs = c.args.contexts.now in
    let i = c.partition_point-i.result in
    let d = c.index-contexts-i.result in
    let point = IsPartitionPoint-from_clause (is_under c.args.c) xs _ c.partition_point-i.ensures.partitioned (parted c.args.c xs h) (λ a r q k. search rules) in
    let inside : i < length xs = search rules in
    let is : ((slice_index_or xs i d).ctx == c.args.c) ≡ true = search rules in
    placed xs c.args.c i d (λ k e m. point.0 k e (omega arith) m) inside (equal_of (slice_index_or xs i d).ctx c.args.c is)
