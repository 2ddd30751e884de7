use Rattle.std.proofs.Common.{rules}
use Rattle.std.proofs.lemmas.Map.Made.{map_same_pairs}
use Rattle.proto_requests.proofs.ports.restart.Goals as goal

pub returns : goal.returns
returns c = map_same_pairs _ (λ v. 0) _ (λ k v b w f' t. search rules) _ _ c.retain.ensures.filtered
