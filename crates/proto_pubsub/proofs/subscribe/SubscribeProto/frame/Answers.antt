use Rattle.std.proofs.Common.{refl, ap, sym, ◌∙◌, ◌≡◌, ◌≤◌, map, Some, None, subst, ℕ, List, length}
use Rattle.std.specs.Vec.{with_items}
use Rattle.sp_history.specs.declared.entry.Entry.TheVariants.{Frame}
use Rattle.sp_history.specs.Moments.{past}
use Rattle.proto_pubsub.specs.declared.subscribe.Subscribe.{Subscribe}
use Rattle.proto_pubsub.specs.SubContexts.{SubContextView, kept_in, takes_frame, StopsAt}
use Rattle.proto_pubsub.specs.Subs.{NeedsCopy}
use Rattle.proto_pubsub.proofs.Indexed.{wanted_by_prefix}
use Rattle.proto_pubsub.proofs.Knowing.{allowed_before}
use Rattle.proto_pubsub.proofs.SubContexts.{contexts_written, long_map, long_stops}
use Rattle.proto_pubsub.proofs.Subscribed.{whole_ties, dry_ties, dry_needs, many, one_raw}
use Rattle.proto_pubsub.proofs.subscribe.SubscribeProto.frame.Goals as goal

pub returns-in-None-clause-kept : goal.returns-in-None-clause-kept
returns-in-None-clause-kept c =
    λ t short l h.
    let was = c.args.self.now in
    let olds = c.deref_mut.ensures.value in
    let all = c.keep_in_all.ensures.whole c.in-None.is in
    let contexts = contexts_written was.contexts c.keep_in_all.new.contexts c.deref_mut.result.now olds (long_map (kept_in was.raw was.options c.args.m) c.keep_in_all.new.contexts c.deref_mut.result.now all) ∙ all ∙ ap (map (kept_in was.raw was.options c.args.m)) olds in
    let is : Subscribe = record { alloc = was.alloc; raw = was.raw; options = was.options; contexts = with_items was.contexts c.keep_in_all.new.contexts; waiting = was.waiting; looked = 0 } in
    whole_ties was t c.args.p c.args.m h short (allowed_before t (Frame c.args.p c.args.m.body) l) c.requires is contexts refl refl (refl, refl)

pub returns-in-Some-clause-kept : goal.returns-in-Some-clause-kept
returns-in-Some-clause-kept c =
    λ t short l h.
    let was = c.args.self.now in
    let olds = c.deref_mut.ensures.value in
    let d : ℕ = c.in-Some.c in
    let st : StopsAt (takes_frame was.raw was.options c.args.m.body) (kept_in was.raw was.options c.args.m) d c.deref_mut.result.now c.keep_in_all.new.contexts = c.in-Some.ensures.stops d refl in
    let written : (with_items was.contexts c.keep_in_all.new.contexts).items ≡ c.keep_in_all.new.contexts =
    contexts_written was.contexts c.keep_in_all.new.contexts c.deref_mut.result.now olds (long_stops (takes_frame was.raw was.options c.args.m.body) (kept_in was.raw was.options c.args.m) d c.deref_mut.result.now c.keep_in_all.new.contexts st) in
    let is : Subscribe = record { alloc = was.alloc; raw = was.raw; options = was.options; contexts = with_items was.contexts c.keep_in_all.new.contexts; waiting = was.waiting; looked = 0 } in
    let stops : StopsAt (takes_frame was.raw was.options c.args.m.body) (kept_in was.raw was.options c.args.m) d was.contexts.items is.contexts.items =
    subst (λ (ys : List SubContextView). StopsAt (takes_frame was.raw was.options c.args.m.body) (kept_in was.raw was.options c.args.m) d was.contexts.items ys) (sym written)
    (subst (λ (xs : List SubContextView). StopsAt (takes_frame was.raw was.options c.args.m.body) (kept_in was.raw was.options c.args.m) d xs c.keep_in_all.new.contexts) olds st) in
    dry_ties was t c.args.p c.args.m h short (allowed_before t (Frame c.args.p c.args.m.body) l) c.requires is d stops refl refl (refl, refl)

pub returns-in-Some-clause-one : goal.returns-in-Some-clause-one
returns-in-Some-clause-one c =
    λ t h few.
    let was = c.args.self.now in
    let least : length c.deref_mut.result.now ≤ 1 = subst (λ (xs : List SubContextView). length xs ≤ 1) (sym c.deref_mut.ensures.value) (subst (λ (n : ℕ). n ≤ 1) (sym (many was t h)) few) in
    let no : Some c.in-Some.c ≡ None = c.in-Some.ensures.one least in
    absurd cc

pub returns-in-Some-clause-raw : goal.returns-in-Some-clause-raw
returns-in-Some-clause-raw c =
    λ t l h r.
    let was = c.args.self.now in
    let least : length c.deref_mut.result.now ≤ 1 = subst (λ (xs : List SubContextView). length xs ≤ 1) (sym c.deref_mut.ensures.value) (one_raw was t (allowed_before t (Frame c.args.p c.args.m.body) l) h r) in
    let no : Some c.in-Some.c ≡ None = c.in-Some.ensures.one least in
    absurd cc

pub returns-in-Some-clause-dry : goal.returns-in-Some-clause-dry
returns-in-Some-clause-dry c =
    λ t d short l h e.
    let was = c.args.self.now in
    let is : c.in-Some.c ≡ d = cc in
    let st : StopsAt (takes_frame was.raw was.options c.args.m.body) (kept_in was.raw was.options c.args.m) c.in-Some.c was.contexts.items c.keep_in_all.new.contexts =
    subst (λ (xs : List SubContextView). StopsAt (takes_frame was.raw was.options c.args.m.body) (kept_in was.raw was.options c.args.m) c.in-Some.c xs c.keep_in_all.new.contexts) c.deref_mut.ensures.value (c.in-Some.ensures.stops c.in-Some.c refl) in
    subst (λ (k : ℕ). NeedsCopy t.z (past t) k c.args.p c.args.m.body) is (dry_needs was t c.args.p c.args.m h short (allowed_before t (Frame c.args.p c.args.m.body) l) c.requires c.keep_in_all.new.contexts c.in-Some.c st)

pub returns-in-None-clause-prefixes : goal.returns-in-None-clause-prefixes
returns-in-None-clause-prefixes c = λ ts h. wanted_by_prefix ts c.args.m.body h

pub returns-in-Some-clause-prefixes : goal.returns-in-Some-clause-prefixes
returns-in-Some-clause-prefixes c = λ ts h. wanted_by_prefix ts c.args.m.body h
