use Rattle.std.proofs.Common.{arith, refl, sym, ap, subst, ◌∙◌, ◌++◌, [], List, ℕ, append-nil}
use Rattle.sp_history.specs.Past.{up}
use Rattle.sp_history.specs.Moments.{Moment, past}
use Rattle.sp_core.specs.Closing.{ClosesAt, AreDownsOf, after}
use Rattle.sp_core.proofs.Closings.{after-more, all_above, next_down, none_up}
use Rattle.sp_core.proofs.owner.Core.take_all_down.Goals as goal

pub loop-found-init : goal.loop-found-init
loop-found-init g c = record { standing = c.requires; reached = λ t h. ([], [], (refl, refl, refl, all_above t h.lawful), h); words = refl }

pub take_one_down-requires : goal.take_one_down-requires
take_one_down-requires g c =
    let s = c.loop-found.invariant.standing in
    let f = c.in-Some.ensures s.0 s.1.lawful s.1.pipes in
    (s.0, s.1, f.0)

pub loop-found-smaller : goal.loop-found-smaller
loop-found-smaller g c =
    let s = c.loop-found.invariant.standing in
    let f = c.in-Some.ensures s.0 s.1.lawful s.1.pipes in
    let more = f.1.above in
    grind (arith, more)

pub loop-found-preserved : goal.loop-found-preserved
loop-found-preserved g c = record {
  standing =
      let s = c.loop-found.invariant.standing in
      let f = c.in-Some.ensures s.0 s.1.lawful s.1.pipes in
      let r = c.take_one_down.ensures.does s.0 s.1 f.0 in
      (after s.0 r.0, r.2);
  reached =
      λ t h.
      let s = c.loop-found.invariant.reached t h in
      let u = after t s.1 in
      let f = c.in-Some.ensures u s.3.lawful s.3.pipes in
      let r = c.take_one_down.ensures.does u s.3 f.0 in
      let n = next_down t s.0 s.1 r.0 c.loop-found.last _ s.3.lawful s.2 f.1 r.1 r.3 r.4 in
      (n.0, s.1 ++ r.0, n.1, subst (λ (m : Moment). ClosesAt g.P.Proto.ties g.P.Proto.room g.W.Wire.shown c.take_one_down.new.self m) (after-more t s.1 r.0) r.2);
  words = c.take_one_down.ensures.words ∙ c.loop-found.invariant.words;
}

pub returns : goal.returns
returns g c = record {
  does =
      λ t h.
      let s = c.loop-found.invariant.reached t h in
      let u = after t s.1 in
      let none = none_up (up (past u)) c.loop-found.last s.2.3 (c.in_default.ensures u s.3.lawful s.3.pipes) in
      (s.1, subst (λ (xs : List ℕ). AreDownsOf xs s.1) (sym (s.2.1 ∙ ap (λ (xs : List ℕ). s.0 ++ xs) none ∙ append-nil s.0)) s.2.0, s.3, none, s.2.2);
  words = c.loop-found.invariant.words;
}
