use Rattle.std.proofs.Common.{◌≡◌, ◌∙◌, ap, sym, refl, Option, Some, true, false}
use Rattle.std.specs.Map.{lookup}
use Rattle.std.specs.Ordering.{nat_cmp}
use Rattle.std.specs.Option.{option_copied_mut}
use Rattle.std.specs.BTreeMap.{is_at}
use Rattle.proto_rep.specs.declared.rep.Source.{Source}
use Rattle.proto_rep.proofs.PlacesOfContexts.{ctxs_written, isnt_open, origins_written}
use Rattle.proto_rep.proofs.places.Places.store.Goals.{in-None, in-Some+in-Some-1, in-Some+in-None-1}
use Rattle.proto_rep.proofs.places.Places.store.Goals as goal

pub returns-clause-ctxs : goal.returns-clause-ctxs
returns-clause-ctxs c =
    let es = c.self.inside.stored.entries in
    let v = c.args.self.now in
    let set = ctxs_written v es (c.get_mut.follows.lender (Some c.args.source)).entries c.self.view_is (c.get_mut.follows.holds (Some c.args.source)).1 in
    elim c.match-get_mut.branch [ in-None w ↦ rw w.self-inside-is (rw c.get_mut.follows.holds-at-none (ctxs_written v es es c.self.view_is refl)) | in-Some+in-Some-1 w ↦ rw w.self-inside-is set | in-Some+in-None-1 w ↦ rw w.self-inside-is set ]

pub returns-clause-stored : goal.returns-clause-stored
returns-clause-stored c = λ d h.
    let es = c.self.inside.stored.entries in
    let n = c.c.inside.0 in
    let v = c.args.self.now in
    let set = λ (u : Option Source) (q : lookup (is_at (nat_cmp n)) es ≡ Some u).
    origins_written n c.args.c v es c.c.view_is c.self.view_is (Some c.args.source) u (c.get_mut.follows.lender (Some c.args.source)).entries q (c.get_mut.follows.holds (Some c.args.source)).0 d in
    elim c.match-get_mut.branch [
      | in-None w ↦ let no : false ≡ true = sym (isnt_open n c.args.c v es c.c.view_is c.self.view_is (sym c.get_mut.ensures.value ∙ ap option_copied_mut w.in-None.is)) ∙ h in absurd cc
      | in-Some+in-Some-1 w ↦ rw w.self-inside-is (set w.in-Some.stored.now (sym c.get_mut.ensures.value ∙ ap option_copied_mut w.in-Some.is))
      | in-Some+in-None-1 w ↦ rw w.self-inside-is (set w.in-Some.stored.now (sym c.get_mut.ensures.value ∙ ap option_copied_mut w.in-Some.is))
    ]
