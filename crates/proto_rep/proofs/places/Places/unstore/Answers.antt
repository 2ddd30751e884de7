use Rattle.std.proofs.Common.{◌∙◌, ap, sym, refl, Some, None}
use Rattle.std.specs.Option.{option_map, option_copied_mut}
use Rattle.proto_rep.specs.Reps.{origin_of}
use Rattle.proto_rep.proofs.PlacesOfContexts.{ctxs_written, origin_is, origins_written, origins_stay}
use Rattle.proto_rep.proofs.places.Places.unstore.Goals.{in-None, in-Some}
use Rattle.proto_rep.proofs.places.Places.unstore.Goals as goal

pub returns-clause-ctxs : goal.returns-clause-ctxs
returns-clause-ctxs c =
    let es = c.self.inside.stored.entries in
    let v = c.args.self.now in
    elim c.match-get_mut.branch [
      | in-None w ↦ rw w.self-inside-is (rw c.get_mut.follows.holds-at-none (ctxs_written v es es c.self.view_is refl))
      | in-Some w ↦ rw w.self-inside-is (ctxs_written v es _ c.self.view_is (c.get_mut.follows.holds _).1)
    ]

pub returns-clause-result : goal.returns-clause-result
returns-clause-result c =
    let is = origin_is c.c.inside.0 c.args.c c.args.self.now c.self.inside.stored.entries c.c.view_is c.self.view_is in
    elim c.match-get_mut.branch [
      | in-None w ↦ rw w.result-is (sym (is None (sym c.get_mut.ensures.value ∙ ap option_copied_mut w.in-None.is)))
      | in-Some w ↦ ap (option_map origin_of) (w.result-is ∙ w.take.ensures.value) ∙ sym (is (Some w.in-Some.stored.now) (sym c.get_mut.ensures.value ∙ ap option_copied_mut w.in-Some.is))
    ]

pub returns-clause-stored : goal.returns-clause-stored
returns-clause-stored c = λ d.
    let n = c.c.inside.0 in
    let es = c.self.inside.stored.entries in
    let v = c.args.self.now in
    elim c.match-get_mut.branch [
      | in-None w ↦ rw w.self-inside-is (rw c.get_mut.follows.holds-at-none (origins_stay n c.args.c v es c.c.view_is c.self.view_is (sym c.get_mut.ensures.value ∙ ap option_copied_mut w.in-None.is) d))
      | in-Some w ↦ rw w.self-inside-is (rw w.take.ensures.after
          (origins_written n c.args.c v es c.c.view_is c.self.view_is None w.in-Some.stored.now (c.get_mut.follows.lender None).entries (sym c.get_mut.ensures.value ∙ ap option_copied_mut w.in-Some.is) (c.get_mut.follows.holds None).0 d))
    ]
