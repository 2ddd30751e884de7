use Rattle.std.proofs.Common.{◌≡◌, length}
use Rattle.proto_shared.specs.Copies.{AreCopies}
use Rattle.proto_shared.proofs.flood_copies.copies_of.Given as goal

abbrev pub invariant-loop : goal.invariant-loop
invariant-loop l = (length l.copies.items ≡ l.counter) × AreCopies l.fn.m.body l.copies.items
