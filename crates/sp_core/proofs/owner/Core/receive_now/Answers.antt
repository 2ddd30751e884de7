use Rattle.std.proofs.Common.{◌∙◌, refl, subst, rules}
use Rattle.std.specs.Prelude.{Option, Result, Ok}
use Rattle.sp_msg.specs.Views.{MessageView}
use Rattle.core_state.specs.declared.causes.NowError.{NowError}
use Rattle.sp_core.specs.Immediate.{TriedTo}
use Rattle.sp_core.proofs.ContextLooks.{grows_none, grows_trans}
use Rattle.sp_core.proofs.ReceivedAtOnce.{lost_more, lost_none}
use Rattle.sp_core.proofs.owner.Core.receive_now.Goals as goal

pub returns-in-Err : goal.returns-in-Err
returns-in-Err g c = record {
  does =
      λ t h settled.
      let s = c.loop.invariant.reached t h settled in
      let r = c.in-Err.ensures.does s.0 s.2 s.3 in
      (r.0, r.1, r.2, (s.0, s.1, r.3));
  words = c.in-Err.ensures.words ∙ c.loop.invariant.words;
  reads = grows_trans _ _ _ c.loop.invariant.reads c.in-Err.ensures.reads;
}

pub returns-in-Ok-Some : goal.returns-in-Ok-Some
returns-in-Ok-Some g c = record {
  does =
      λ t h settled.
      let s = c.loop.invariant.reached t h settled in
      let r = c.in-Ok-Some.ensures.does s.0 s.2 s.3 in
      (r.0, r.1, r.2, (s.0, s.1, subst (λ (o : Option MessageView). TriedTo (let x : Result (Option MessageView) NowError = Ok o in x) c.args.c s.0 r.0) c.in-Ok-Some.field-0-is r.3));
  words = c.in-Ok-Some.ensures.words ∙ c.loop.invariant.words;
  reads = grows_trans _ _ _ c.loop.invariant.reads c.in-Ok-Some.ensures.reads;
}

pub loop-preserved : goal.loop-preserved
loop-preserved g c = record {
  can = search rules;
  finite = search rules;
  standing = let s = c.loop.invariant.standing in let r = c.in-Ok-None.ensures.does s.0 s.1 s.2 in (r.0, r.1, r.2);
  reached =
      λ t h settled.
      let s = c.loop.invariant.reached t h settled in
      let r = c.in-Ok-None.ensures.does s.0 s.2 s.3 in
      (r.0, lost_more c.args.c t s.0 r.0 s.1 (subst (λ (o : Option MessageView). TriedTo (let x : Result (Option MessageView) NowError = Ok o in x) c.args.c s.0 r.0) c.in-Ok-None.field-0-is r.3), r.1, r.2);
  words = c.in-Ok-None.ensures.words ∙ c.loop.invariant.words;
  reads = grows_trans _ _ _ c.loop.invariant.reads c.in-Ok-None.ensures.reads;
}

pub loop-init : goal.loop-init
loop-init g c = record {
  can = tt;
  finite = tt;
  standing = c.requires;
  reached = λ t h settled. (t, lost_none c.args.c t, h, settled);
  words = refl;
  reads = grows_none _;
}

pub try_once-requires : goal.try_once-requires
try_once-requires g c = c.loop.invariant.standing

pub unreachable-requires : goal.unreachable-requires
unreachable-requires g c = let steps = c.in-None.ensures.steps in absurd cc
