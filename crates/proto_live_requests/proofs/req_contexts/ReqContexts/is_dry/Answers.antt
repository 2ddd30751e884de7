use Rattle.std.proofs.Common.{◌∙◌, ap, sym, None, Some}
use Rattle.std.specs.Option.{option_copied}
use Rattle.proto_live_requests.proofs.DryContexts.{dry_is}
use Rattle.proto_live_requests.proofs.req_contexts.ReqContexts.is_dry.Goals as goal

pub returns-in-None : goal.returns-in-None
returns-in-None c = let m = c.self.inside in dry_is c.c.inside.0 c.args.c m.tick c.args.self.now m.dry_in.entries c.c.view_is c.self.view_is c.len-len.ensures.ordered None (sym c.get.ensures.value ∙ ap option_copied c.in-None.is)

pub returns-in-Some : goal.returns-in-Some
returns-in-Some c = let m = c.self.inside in dry_is c.c.inside.0 c.args.c m.tick c.args.self.now m.dry_in.entries c.c.view_is c.self.view_is c.len-len.ensures.ordered (Some c.in-Some.dry_in.now) (sym c.get.ensures.value ∙ ap option_copied c.in-Some.is)
