use Rattle.std.proofs.Common.{◌≡◌, length}
use Rattle.proto_survey.specs.Surveys.{AreSame}
use Rattle.proto_survey.proofs.survey.copies_of.Given as goal

abbrev pub invariant-loop : goal.invariant-loop
invariant-loop l = (length l.copies.items ≡ l.counter) × AreSame l.fn.m l.copies.items
