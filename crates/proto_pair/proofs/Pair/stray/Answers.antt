use Rattle.std.proofs.Common.{◌≡◌, ◌∙◌, sym, ap, refl, true, false, List, [], ◌∷◌, Option, Some, None}
use Rattle.std.specs.Prelude.{MatchOption, filter}
use Rattle.sp_base.specs.declared.OpName.{OpName}
use Rattle.sp_history.specs.declared.parts.Begun.{Begun}
use Rattle.sp_history.specs.Lists.{head_of}
use Rattle.proto_shared.specs.Waits.{is_uncounted, first_name}
use Rattle.proto_shared.proofs.Firsts.{none_first}
use Rattle.proto_pair.specs.declared.Pair.{Pair}
use Rattle.proto_pair.specs.Pairs.{NoneStray, counts, is_stray}
use Rattle.proto_pair.proofs.Versions.{strays_none, strays_are}
use Rattle.proto_pair.proofs.Pair.stray.Goals.{then-not-self-via-then-not-self, then-not-self-via-else-not-self+then-not-counts}
use Rattle.proto_pair.proofs.Pair.stray.Goals as goal

pub returns-then-not-self-clause-found : goal.returns-then-not-self-clause-found
returns-then-not-self-clause-found c = elim c.then-not-self.branch [
  | then-not-self-via-then-not-self w ↦ λ ss h none. none w.if-not-self.true
  | then-not-self-via-else-not-self+then-not-counts w ↦ λ ss h none. strays_none c.args.self.now.version c.args.self.now.raw ss (sym w.counts.ensures ∙ w.if-not-counts.true)
]

nil_of : (ss : List Begun) → head_of ss ≡ None → ss ≡ []
nil_of [] h = refl
nil_of (s ∷ ss) h = absurd cc

-- the first send without a hop count is the first stray
found : (r : Option OpName) (m : Pair) (ss : List Begun) → counts m.version m.raw ≡ true → r ≡ first_name (filter is_uncounted ss) → MatchOption r ((m.may_stray ≡ false → NoneStray m ss) → NoneStray m ss) (λ op. Some op ≡ first_name (filter (is_stray m.version m.raw) ss))
found None m ss k e = λ none. strays_are m.version m.raw ss k ∙ nil_of (filter is_uncounted ss) (none_first (filter is_uncounted ss) e)
found (Some op) m ss k e = e ∙ ap first_name (sym (strays_are m.version m.raw ss k))

pub returns-clause-found : goal.returns-clause-found
returns-clause-found c = λ ss h. found c.first_uncounted-found.result c.args.self.now ss (sym c.counts.ensures ∙ c.if-not-counts.false) (c.first_uncounted-found.ensures ss h)
