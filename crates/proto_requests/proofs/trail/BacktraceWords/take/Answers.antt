use Rattle.std.proofs.Common.{ap, ◌∙◌, ◌++◌}
use Rattle.proto_requests.specs.Trails.{bytes_of}
use Rattle.proto_requests.proofs.trail.BacktraceWords.take.Goals as goal

pub returns-in-Ok : goal.returns-in-Ok
returns-in-Ok c = λ ws rest e. let k = c.in-Ok.ensures.moved ws rest e in (k.1 ∙ ap (λ xs. bytes_of xs ++ ws) c.new-words.ensures.items, k.0)
