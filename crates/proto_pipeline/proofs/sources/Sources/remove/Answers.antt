use Rattle.proto_pipeline.proofs.sources.Sources.remove.Goals as goal

pub returns-clause-kept : goal.returns-clause-kept
returns-clause-kept c = λ q. rw (← c.p.view_is, ← c.self.view_is) (c.remove.ensures.updates.0 q)
