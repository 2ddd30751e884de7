use Rattle.proto_requests.proofs.numbers.Numbers.remove.Goals as goal

pub returns : goal.returns
returns c = λ q. rw (← c.self.view_is) (c.remove.ensures.updates.0 q)
