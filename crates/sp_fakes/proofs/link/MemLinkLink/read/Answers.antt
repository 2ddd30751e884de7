use Rattle.std.proofs.Common.{[], ◌≡◌, ◌<◌, ◌≤◌, ◌+◌, ◌++◌, ℕ, List, length, get_or, take, drop, min, Some, rules, refl, ap, sym, subst, ◌∙◌, arith}
use Rattle.std.specs.Prelude.{slice_get}
use Rattle.std.proofs.lemmas.Option.{slice_get_read}
use Rattle.sp_fakes.specs.declared.link.LinkStep.{LinkStep}
use Rattle.sp_fakes.specs.declared.link.LinkStep.TheVariants as steps
use Rattle.std.proofs.lemmas.List.{length-drop}
use Rattle.sp_base.specs.declared.outside.LinkRead.TheVariants as reads
use Rattle.sp_fakes.specs.Scripts.{given, left_at, step_bytes, HasLeft, GivesNext}
use Rattle.sp_fakes.specs.MemLinks.{written_on}
use Rattle.sp_fakes.proofs.Left.{gives_end_again, gives_bytes, gives_after, end_stands}
use Rattle.sp_fakes.proofs.Given.{given-pass, given-more}
use Rattle.sp_fakes.proofs.link.MemLinkLink.read.Goals as goal

-- the step at a place
stands : (script : List LinkStep) (at : ℕ) (found step : LinkStep) → at < length script → found ≡ get_or script at found → found ≡ step → slice_get script at ≡ Some step
stands script at found step lt is e = slice_get_read script (length script) at found refl lt is ∙ ap Some e

-- a step without bytes is passed
passed : (script : List LinkStep) (at offset : ℕ) (step : LinkStep) (before : List ℕ) → slice_get script at ≡ Some step → step_bytes step ≡ [] → given script at offset ≡ before → given script (at + 1) 0 ≡ before
passed script at offset step before e none is = given-pass script at offset step e (omega (arith, ap length none)) ∙ is

-- bytes of a step are given
more : (script : List LinkStep) (at offset n : ℕ) (bytes buf before : List ℕ) → slice_get script at ≡ Some (steps.Bytes bytes) → take n buf ≡ take n (drop offset bytes) → given script at offset ≡ before → given script at (offset + n) ≡ before ++ take n buf
more script at offset n bytes buf before e same is = given-more script at offset n (steps.Bytes bytes) e ∙ ap (λ t. t ++ take n (drop offset bytes)) is ∙ ap (λ t. before ++ t) (sym same)

-- bytes follow the first ones where the step has any left
left_bytes : (script : List LinkStep) (at offset written : ℕ) (bytes : List ℕ) → slice_get script at ≡ Some (steps.Bytes bytes) → ((step : LinkStep) → slice_get script at ≡ Some step → HasLeft step offset written) → offset < length bytes
left_bytes script at offset written bytes e left = left (steps.Bytes bytes) e

left_after : (script : List LinkStep) (at offset written n : ℕ) → slice_get script at ≡ Some (steps.After n) → ((step : LinkStep) → slice_get script at ≡ Some step → HasLeft step offset written) → written < n
left_after script at offset written n e left = left (steps.After n) e

pub returns-then-self-clause-by : goal.returns-then-self-clause-by
returns-then-self-clause-by c = record {
  gives = gives_end_again (length (written_on c.args.self.now)) c.args.self.now.script.items c.args.self.now.at c.args.self.now.offset c.args.buf.now c.args.self.now.at_end c.if-self.true c.args.self.now.stays;
  most = refl;
  writes = refl;
}

pub copy_prefix-n-requires-clause-some : goal.copy_prefix-n-requires-clause-some
copy_prefix-n-requires-clause-some c =
    let within : c.skip.new.at < length c.args.self.now.script.items = search rules in
    let at_bytes = stands c.args.self.now.script.items c.skip.new.at c.index.result.now (steps.Bytes c.in-Bytes.b) within c.index.ensures c.in-Bytes.is in
    let left = left_bytes c.args.self.now.script.items c.skip.new.at c.skip.new.offset c.len-written.result c.in-Bytes.b at_bytes (rw c.deref.ensures.value at c.skip.ensures.left) in
    omega (arith, left, ap length c.as_slice.ensures)

pub invariant_of-self-in-End : goal.invariant_of-self-in-End
invariant_of-self-in-End c =
    let within : c.skip.new.at < length c.args.self.now.script.items = search rules in
    record { stays = end_stands c.args.self.now.script.items c.skip.new.at (stands c.args.self.now.script.items c.skip.new.at c.index.result.now steps.End within c.index.ensures c.in-End.is) }

pub returns-in-Bytes-clause-by : goal.returns-in-Bytes-clause-by
returns-in-Bytes-clause-by c =
    let script = c.args.self.now.script.items in
    let buf = c.copy_prefix-n.new.buf in
    let within : c.skip.new.at < length script = search rules in
    let at_bytes = stands script c.skip.new.at c.index.result.now (steps.Bytes c.in-Bytes.b) within c.index.ensures c.in-Bytes.is in
    let left = left_bytes script c.skip.new.at c.skip.new.offset c.len-written.result c.in-Bytes.b at_bytes (rw c.deref.ensures.value at c.skip.ensures.left) in
    let size : c.copy_prefix-n.result ≡ min (length (drop c.skip.new.offset c.in-Bytes.b)) (length buf) = c.copy_prefix-n.ensures.size ∙ ap (λ t. min (length (drop c.skip.new.offset t)) (length buf)) c.as_slice.ensures in
    let same : take c.copy_prefix-n.result buf ≡ take c.copy_prefix-n.result (drop c.skip.new.offset c.in-Bytes.b) = c.copy_prefix-n.ensures.same ∙ ap (λ t. take c.copy_prefix-n.result (drop c.skip.new.offset t)) c.as_slice.ensures in
    let next = gives_bytes c.len-written.result script c.skip.new.at c.skip.new.offset c.copy_prefix-n.result c.in-Bytes.b buf at_bytes left size same in
    let gives = (rw c.deref.ensures.value at c.skip.ensures.gives) (reads.Got c.copy_prefix-n.result) buf (left_at script c.skip.new.at (c.skip.new.offset + c.copy_prefix-n.result)) next in
    let many : c.len-written.result ≡ length c.args.self.now.kept.items = search rules in
    record {
      gives = subst (λ w. GivesNext w (left_at script c.args.self.now.at c.args.self.now.offset) (reads.Got c.copy_prefix-n.result) buf (left_at script c.skip.new.at (c.skip.new.offset + c.copy_prefix-n.result))) many gives;
      most = refl;
      writes = refl;
    }

pub returns-in-After-clause-by : goal.returns-in-After-clause-by
returns-in-After-clause-by c =
    let script = c.args.self.now.script.items in
    let within : c.skip.new.at < length script = search rules in
    let at_after = stands script c.skip.new.at c.index.result.now (steps.After c.in-After.field-0) within c.index.ensures c.in-After.is in
    let left = left_after script c.skip.new.at c.skip.new.offset c.len-written.result c.in-After.field-0 at_after (rw c.deref.ensures.value at c.skip.ensures.left) in
    let next = gives_after c.len-written.result script c.skip.new.at c.skip.new.offset c.in-After.field-0 c.args.buf.now at_after left in
    let gives = (rw c.deref.ensures.value at c.skip.ensures.gives) reads.NotYet c.args.buf.now (left_at script c.skip.new.at c.skip.new.offset) next in
    let many : c.len-written.result ≡ length c.args.self.now.kept.items = search rules in
    record {
      gives = subst (λ w. GivesNext w (left_at script c.args.self.now.at c.args.self.now.offset) reads.NotYet c.args.buf.now (left_at script c.skip.new.at c.skip.new.offset)) many gives;
      most = refl;
      writes = refl;
    }

pub returns-in-Bytes-clause-after : goal.returns-in-Bytes-clause-after
returns-in-Bytes-clause-after c =
    let within : c.skip.new.at < length c.args.self.now.script.items = search rules in
    let at_bytes = stands c.args.self.now.script.items c.skip.new.at c.index.result.now (steps.Bytes c.in-Bytes.b) within c.index.ensures c.in-Bytes.is in
    let same : take c.copy_prefix-n.result c.copy_prefix-n.new.buf ≡ take c.copy_prefix-n.result (drop c.skip.new.offset c.in-Bytes.b) = c.copy_prefix-n.ensures.same ∙ ap (λ t. take c.copy_prefix-n.result (drop c.skip.new.offset t)) c.as_slice.ensures in
    let left : c.skip.new.offset < length c.in-Bytes.b = left_bytes c.args.self.now.script.items c.skip.new.at c.skip.new.offset c.len-written.result c.in-Bytes.b at_bytes (rw c.deref.ensures.value at c.skip.ensures.left) in
    let size : c.copy_prefix-n.result ≡ min (length (drop c.skip.new.offset c.in-Bytes.b)) (length c.copy_prefix-n.new.buf) = c.copy_prefix-n.ensures.size ∙ ap (λ t. min (length (drop c.skip.new.offset t)) (length c.copy_prefix-n.new.buf)) c.as_slice.ensures in
    let same_length : length c.copy_prefix-n.new.buf ≡ length c.args.buf.now = search rules in
    let low : 0 < c.copy_prefix-n.result = omega (arith, size, length-drop c.skip.new.offset c.in-Bytes.b, left, same_length, c.requires.room) in
    let high : c.copy_prefix-n.result ≤ length c.copy_prefix-n.new.buf = omega (arith, size) in
    let came = more c.args.self.now.script.items c.skip.new.at c.skip.new.offset c.copy_prefix-n.result c.in-Bytes.b c.copy_prefix-n.new.buf (given c.args.self.now.script.items c.args.self.now.at c.args.self.now.offset) at_bytes same (rw c.deref.ensures.value at c.skip.ensures.given) in
    record {
      shows = (low, high, record { place = refl; scheme = refl; came = ap Some came; written = refl; is_open = refl }, c.if-self.false, refl, refl);
      faults = omega arith;
      idles = omega arith;
      stalls = refl;
      ended = λ e. e;
    }

pub returns-in-Fail-clause-after : goal.returns-in-Fail-clause-after
returns-in-Fail-clause-after c =
    let within : c.skip.new.at < length c.args.self.now.script.items = search rules in
    let came = passed c.args.self.now.script.items c.skip.new.at c.skip.new.offset steps.Fail _ (stands c.args.self.now.script.items c.skip.new.at c.index.result.now steps.Fail within c.index.ensures c.in-Fail.is) refl (rw c.deref.ensures.value at c.skip.ensures.given) in
    record {
      shows = (record { place = refl; scheme = refl; came = ap Some came; written = refl; is_open = refl }, search rules, c.if-self.false, refl);
      faults = search rules;
      idles = omega arith;
      stalls = refl;
      ended = λ e. e;
    }

pub returns-in-NotYet-clause-after : goal.returns-in-NotYet-clause-after
returns-in-NotYet-clause-after c =
    let within : c.skip.new.at < length c.args.self.now.script.items = search rules in
    let came = passed c.args.self.now.script.items c.skip.new.at c.skip.new.offset steps.NotYet _ (stands c.args.self.now.script.items c.skip.new.at c.index.result.now steps.NotYet within c.index.ensures c.in-NotYet.is) refl (rw c.deref.ensures.value at c.skip.ensures.given) in
    record {
      shows = (record { place = refl; scheme = refl; came = ap Some came; written = refl; is_open = refl }, search rules, c.if-self.false, refl);
      faults = omega arith;
      idles = search rules;
      stalls = refl;
      ended = λ e. e;
    }
