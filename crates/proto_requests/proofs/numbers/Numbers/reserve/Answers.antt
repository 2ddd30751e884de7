use Rattle.proto_requests.proofs.numbers.Numbers.reserve.Goals as goal

pub returns : goal.returns
returns c = λ q. rw (← c.self.view_is) (c.reserve.ensures.entries.2 q)
