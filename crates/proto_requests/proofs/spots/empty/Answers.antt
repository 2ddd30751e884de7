use Rattle.std.proofs.Common.{◌∙◌, sym, ap}
use Rattle.std.specs.Prelude.{take, slice_index_or, slice_set}
use Rattle.std.specs.List.{list_any}
use Rattle.proto_requests.specs.Spots.{holds, held}
use Rattle.proto_requests.proofs.Spotted.{found_there, without_there, none_there}
use Rattle.proto_requests.proofs.spots.empty.Goals as goal

pub returns-clause-found : goal.returns-clause-found
returns-clause-found g c = λ P h. c.take.ensures.value ∙ sym (found_there P c.args.list.now c.args.i c.index-list-i.result h)

pub returns-clause-rest : goal.returns-clause-rest
returns-clause-rest g c = λ P h.
    let s = slice_index_or c.args.list.now c.args.i c.index-list-i.result in
    ap (λ v. held (slice_set c.args.list.now c.args.i (record { number = s.number; value = v }))) c.take.ensures.after ∙ without_there P c.args.list.now c.args.i c.index-list-i.result h

pub returns-clause-none : goal.returns-clause-none
returns-clause-none g c = λ P n h.
    let s = slice_index_or c.args.list.now c.args.i c.index-list-i.result in
    ap (λ v. list_any (holds P) (take n (slice_set c.args.list.now c.args.i (record { number = s.number; value = v })))) c.take.ensures.after ∙ none_there P n c.args.list.now c.args.i c.index-list-i.result h
