-- An operation begins: the protocol lets it, a slot is drawn for it, and the core records it.
use Rattle.std.proofs.Common.{◌≡◌, refl, ap, sym, ◌∙◌, subst, List, [], ◌∷◌, ℕ, ◌+◌, ◌^◌, ◌<◌, ◌≤◌, Bool, true, false, arith, Ok, Option, length, inr}
use Rattle.std.specs.Prelude.{◌&&◌, ◌||◌, ◌==◌, ◌⊎◌, Result, Err, OnErr, OnOk}
use Rattle.std.specs.Result.{is_err}
use Rattle.std.proofs.lemmas.List.Elements.{All-nil}
use Rattle.std.proofs.lemmas.Bool.Decides.{nat_tests}
use Rattle.sp_base.specs.declared.OpName.{OpName}
use Rattle.sp_msg.specs.Views.{WireView}
use Rattle.sp_history.specs.declared.entry.RecordedAct.{RecordedAct}
use Rattle.sp_history.specs.declared.entry.Entry.{Entry}
use Rattle.sp_history.specs.declared.entry.Entry.TheVariants.{Begin}
use Rattle.sp_history.specs.declared.setting.Setting.{Setting}
use Rattle.sp_history.specs.Lists.{has}
use Rattle.sp_history.specs.Past.{is_closed, begins}
use Rattle.sp_history.specs.Legal.{Calm, is_free}
use Rattle.sp_history.specs.Moments.{Moment, past, also, Lawful}
use Rattle.sp_proto.specs.Kinds.{Kind, Starts, kind_of, setting_of, start}
use Rattle.sp_proto.specs.Machines.{ChecksAct}
use Rattle.sp_core.specs.declared.owner.Core.{Core}
use Rattle.core_state.specs.declared.operations.Operations.{Operations}
use Rattle.core_state.specs.OpWordsStand.{OpWordsStand, IsNext}
use Rattle.core_state.specs.OperationsStand.{OperationsStand, done_count, IsWornOut}
use Rattle.core_state.specs.Pipes.{PipesStand}
use Rattle.sp_core.specs.Owning.{Owns, CanBegin}
use Rattle.core_state.specs.Tallies.{Tallies}
use Rattle.sp_core.specs.Standing.{StandsFor}
use Rattle.core_state.proofs.Lawfuls.{one_more}
use Rattle.sp_core.proofs.MomentSteps.{goes, pipes_begun}

and_left : (a b : Bool) → (a && b) ≡ true → a ≡ true
and_left true b h = refl
and_left false b h = absurd cc

-- the check let it
pub may : (closed : Bool) (t : Moment) (c : ℕ) (act : RecordedAct) → is_closed (past t) ≡ closed → closed ≡ false → ChecksAct (Ok tt) t.z (past t) c act → CanBegin t c act
may closed t c act h open_ told = record { open_ = h ∙ open_; supported = told.0; role_does = and_left _ _ told.0; ctx_open = told.1; no_state = told.2 }

-- ---- A slot is drawn

-- a worn slot that was drawn is dropped
pub dropped : (s : Operations) (t : Moment) (slot : ℕ) → OperationsStand (slot ∷ []) s t → IsWornOut (begins (past t) slot) → OperationsStand [] s t
dropped s t slot h w =
    record {
      pending_is = h.pending_is;
      done_is = h.done_is;
      deadlines_are = h.deadlines_are;
      free_is = h.free_is;
      drawn_is = All-nil (λ i. (i < t.z.slots) × (is_free (past t) i ≡ true) × (has s.free.items i ≡ false));
      free_apart = h.free_apart;
      every = λ i l f. go i (slot == i) refl (h.every i l f);
      fits = omega (arith, h.fits);
      pending_slots = h.pending_slots;
      done_places = h.done_places;
      free_room = h.free_room;
    }
  where
    go : (i : ℕ) (b : Bool) → (slot == i) ≡ b → (has s.free.items i ≡ true) ⊎ ((b || false) ≡ true) ⊎ IsWornOut (begins (past t) i) → (has s.free.items i ≡ true) ⊎ (false ≡ true) ⊎ IsWornOut (begins (past t) i)
    go i true e k = let same : slot ≡ i = grind (arith, nat_tests) in inr (inr (subst (λ (j : ℕ). IsWornOut (begins (past t) j)) same w))
    go i false e k = k

module _ {P W : Type 0} (ties : P → Moment → Type 0) (room : P → ℕ) (shown : W → WireView) where
  -- the core has other lists of operations, with `drawn` as the slots that are drawn
  pub with_operations : (drawn : List ℕ) (c : Core P W) (s : Operations) (t : Moment) → Owns ties room shown [] c t → OperationsStand drawn s t → length drawn + length s.free.items ≤ length c.operations.free.items → done_count s ≡ done_count c.operations
      → Owns ties room shown drawn (record c { operations = s }) t
  with_operations drawn c s t g h f d =
      record {
        lawful = g.lawful;
        calm = g.calm;
        proto = g.proto;
        op_words = g.op_words;
        operations = h;
        pipes = g.pipes;
        tally = g.tally;
        closed = g.closed;
        room_is = omega (arith, g.room_is, f, d);
      }

-- what the words return
pub is_next : (t : Moment) (slot : ℕ) (op : OpName) → slot < t.z.slots → is_free (past t) slot ≡ true → op.slot ≡ slot → op.generation ≡ begins (past t) slot + 1 → op.generation < 2 ^ 40 → IsNext t op
is_next t slot op l f s g n =
    record {
      inside = subst (λ (i : ℕ). i < t.z.slots) (sym s) l;
      free = ap (is_free (past t)) s ∙ f;
      generation = g ∙ ap (λ (i : ℕ). begins (past t) i + 1) (sym s);
      not_worn = n;
    }

-- ---- The operation begins

pub begin_lawful : (t : Moment) (op : OpName) (c : ℕ) (act : RecordedAct) (deadline : Option ℕ) → Lawful t → Calm t.z (past t) → IsNext t op → CanBegin t c act → Lawful (also t (Begin op t.caller c act deadline))
begin_lawful t op c act deadline l calm next can =
    one_more t (Begin op t.caller c act deadline) l (record {
      goes_on = goes t.z (past t) (Begin op t.caller c act deadline) calm;
      after_close = λ (q : is_closed (past t) ≡ true). let k : true ≡ false = sym q ∙ can.open_ in absurd cc;
      itself =
          record {
            caller_of_turn = refl;
            slot_in_range = next.inside;
            slot_free = next.free;
            generation = next.generation;
            not_worn = omega (arith, next.not_worn);
            role_does = can.role_does;
            ctx_open = can.ctx_open;
            no_state = can.no_state;
          };
    }) refl

calm_begun : (z : Setting) (op : OpName) (k c : ℕ) (act : RecordedAct) (deadline : Option ℕ) (before : List Entry) → Calm z before → Calm z (Begin op k c act deadline ∷ before)
calm_begun z op k c act deadline before calm =
    record {
      condemned_gone = calm.condemned_gone;
      outs_claimed = refl;
      unkept_gone = refl;
      all_shut = calm.all_shut;
      closed_all = calm.closed_all;
    }

module _ {P W : Type 0} (ties : P → Moment → Type 0) (room : P → ℕ) (shown : W → WireView) where
  pub begun : (c d : Core P W) (t : Moment) (op : OpName) (k : ℕ) (act : RecordedAct) (deadline : Option ℕ) → Owns ties room shown (op.slot ∷ []) c t → Lawful (also t (Begin op t.caller k act deadline)) → ties d.proto (also t (Begin op t.caller k act deadline))
      → OpWordsStand d.op_words (also t (Begin op t.caller k act deadline)) → OperationsStand [] d.operations (also t (Begin op t.caller k act deadline)) → d.pipes ≡ c.pipes → Tallies d.tally (also t (Begin op t.caller k act deadline)) → d.closed ≡ c.closed → length d.operations.free.items + done_count d.operations ≤ room d.proto
      → Owns ties room shown [] d (also t (Begin op t.caller k act deadline))
  begun c d t op k act deadline g l pr de sh li ta cl ro =
      record {
        lawful = l;
        calm = calm_begun t.z op t.caller k act deadline (past t) g.calm;
        proto = pr;
        op_words = de;
        operations = sh;
        pipes = rw li (pipes_begun shown c.pipes t op t.caller k act deadline g.pipes);
        tally = ta;
        closed = g.closed ∙ sym cl;
        room_is = omega (arith, ro);
      }

-- ---- A new core

-- what an `Ok` implies
pub was_ok : {A E : Type 0} (r : Result A E) (Q : Type 0) → false ≡ is_err r → OnOk r Q → Q
was_ok (Ok x) Q e h = h
was_ok (Err x) Q e h = absurd cc

-- what an `Err` implies
pub was_err : {A E : Type 0} (r : Result A E) (Q : Type 0) → true ≡ is_err r → OnErr r Q → Q
was_err (Ok x) Q e h = absurd cc
was_err (Err x) Q e h = h

module _ {P W : Type 0} (ties : P → Moment → Type 0) (room : P → ℕ) (shown : W → WireView) where
  pub made : (c : Core P W) (z : Setting) → ties c.proto (start z 1) → OpWordsStand c.op_words (start z 1) → OperationsStand [] c.operations (start z 1) → PipesStand shown c.pipes (start z 1) → Tallies c.tally (start z 1) → c.closed ≡ false → length c.operations.free.items + done_count c.operations ≤ room c.proto → StandsFor ties room shown c []
  made c z pr de sh li ta cl ro =
      record {
        at = start z 1;
        legal = tt;
        settled = tt;
        past_is = refl;
        owns =
            record {
              lawful = record { history = []; legal = tt; before = refl; turn = tt; starts = refl };
              calm = record { condemned_gone = refl; outs_claimed = refl; unkept_gone = refl; all_shut = refl; closed_all = refl };
              proto = pr;
              op_words = de;
              operations = sh;
              pipes = li;
              tally = ta;
              closed = sym cl;
              room_is = omega (arith, ro);
            };
      }

-- a machine that stands for the empty history of a kind has that kind
pub starts_as : {M : Type 0} (ties : M → Moment → Type 0) (kind : M → Kind) (kinds : (m : M) (t : Moment) → ties m t → kind_of t.z ≡ kind m) (m : M) (k : Kind) → Starts ties m k → Starts ties m (kind m)
starts_as ties kind kinds m k s = subst (λ (x : Kind). Starts ties m x) (kinds m (start (setting_of k 0 0) 0) (s 0 0 0)) s
