use Rattle.std.proofs.Common.{◌∙◌, ap, sym, None, Some}
use Rattle.std.specs.Prelude.{is_some}
use Rattle.std.specs.Option.{option_copied}
use Rattle.proto_rep.proofs.PlacesOfContexts.{origin_is, stored_some}
use Rattle.proto_rep.proofs.places.Places.is_stored.Goals as goal

pub returns-in-None : goal.returns-in-None
returns-in-None c = sym (ap is_some (origin_is c.c.inside.0 c.args.c c.args.self.now c.self.inside.stored.entries c.c.view_is c.self.view_is None (sym c.get.ensures.value ∙ ap option_copied c.in-None.is)))

pub returns-in-Some : goal.returns-in-Some
returns-in-Some c =
    let o = c.in-Some.stored.now in
    c.is_some.ensures ∙ sym (ap is_some (origin_is c.c.inside.0 c.args.c c.args.self.now c.self.inside.stored.entries c.c.view_is c.self.view_is (Some o) (sym c.get.ensures.value ∙ ap option_copied c.in-Some.is)) ∙ stored_some o)
