-- A link is met or given back, or a wire is taken: the protocol isn't told, and the core's operations are the same.
use Rattle.std.proofs.Common.{◌≡◌, refl, List, ◌∷◌, [], ℕ, true}
use Rattle.std.specs.Prelude.{⊤}
use Rattle.sp_msg.specs.Views.{WireView}
use Rattle.sp_history.specs.declared.entry.Entry.{Entry}
use Rattle.sp_history.specs.declared.entry.Entry.TheVariants.{Met, NoUp, Taken}
use Rattle.sp_history.specs.declared.setting.Setting.{Setting}
use Rattle.sp_history.specs.Past.{is_closed}
use Rattle.sp_history.specs.Legal.{Calm, MayCome, comes_after_close}
use Rattle.sp_history.specs.Moments.{Moment, past, also, Lawful, IsSilent, may_start}
use Rattle.sp_core.specs.declared.owner.Core.{Core}
use Rattle.core_state.specs.declared.op_words.OpWords.{OpWords}
use Rattle.core_state.specs.declared.operations.Operations.{Operations}
use Rattle.core_state.specs.declared.pipes.Pipes.{Pipes}
use Rattle.core_state.specs.declared.tally.Tally.{Tally}
use Rattle.core_state.specs.OpWordsStand.{OpWordsStand}
use Rattle.core_state.specs.OperationsStand.{OperationsStand}
use Rattle.core_state.specs.Pipes.{PipesStand}
use Rattle.core_state.specs.Tallies.{Tallies}
use Rattle.sp_core.specs.Owning.{Owns}
use Rattle.sp_core.specs.Attaching.{IsOfLinks}
use Rattle.core_state.proofs.Lawfuls.{one_more}
use Rattle.core_state.proofs.ChangedWires.{shows_still}
use Rattle.core_state.proofs.Tallying.{same_tally}
use Rattle.sp_core.proofs.MomentSteps.{goes}

-- these entries
abbrev pub IsNote : Entry → Type 0
IsNote (Met place) = ⊤
IsNote (NoUp place miss) = ⊤
IsNote (Taken p) = ⊤
IsNote _ = ⊥

pub silent_note : (e : Entry) → IsNote e → IsSilent e
silent_note (Met place) n = tt
silent_note (NoUp place miss) n = tt
silent_note (Taken p) n = tt
silent_note _ n = absurd n

-- ---- They may come

also_closed : (e : Entry) → IsNote e → comes_after_close e ≡ true
also_closed (Met place) n = refl
also_closed (NoUp place miss) n = refl
also_closed (Taken p) n = refl
also_closed _ n = absurd n

also_first : (z : Setting) (e : Entry) → IsNote e → may_start z e ≡ true
also_first z (Met place) n = refl
also_first z (NoUp place miss) n = refl
also_first z (Taken p) n = refl
also_first z _ n = absurd n

pub note_lawful : (t : Moment) (e : Entry) → Lawful t → Calm t.z (past t) → IsNote e → MayCome t.z t.caller (past t) e → Lawful (also t e)
note_lawful t e l calm n m =
    one_more t e l (record { goes_on = goes t.z (past t) e calm; after_close = λ q. also_closed e n; itself = m }) (also_first t.z e n)

-- ---- Each part stays as it is

calm_noted : (z : Setting) (before : List Entry) (e : Entry) → IsNote e → Calm z before → Calm z (e ∷ before)
calm_noted z before (Met place) n c = record { condemned_gone = c.condemned_gone; outs_claimed = refl; unkept_gone = refl; all_shut = c.all_shut; closed_all = c.closed_all }
calm_noted z before (NoUp place miss) n c = record { condemned_gone = c.condemned_gone; outs_claimed = refl; unkept_gone = refl; all_shut = c.all_shut; closed_all = c.closed_all }
calm_noted z before (Taken p) n c = record { condemned_gone = c.condemned_gone; outs_claimed = refl; unkept_gone = refl; all_shut = c.all_shut; closed_all = c.closed_all }
calm_noted z before _ n c = absurd n

closed_noted : (before : List Entry) (e : Entry) → IsNote e → is_closed (e ∷ before) ≡ is_closed before
closed_noted before (Met place) n = refl
closed_noted before (NoUp place miss) n = refl
closed_noted before (Taken p) n = refl
closed_noted before _ n = absurd n

op_words_noted : (d : OpWords) (t : Moment) (e : Entry) → IsNote e → OpWordsStand d t → OpWordsStand d (also t e)
op_words_noted d t (Met place) n h = h
op_words_noted d t (NoUp place miss) n h = h
op_words_noted d t (Taken p) n h = h
op_words_noted d t _ n h = absurd n

operations_noted : (s : Operations) (t : Moment) (e : Entry) → IsNote e → OperationsStand [] s t → OperationsStand [] s (also t e)
operations_noted s t (Met place) n h = h
operations_noted s t (NoUp place miss) n h = h
operations_noted s t (Taken p) n h = h
operations_noted s t _ n h = absurd n

tally_noted : (c : Tally) (t : Moment) (e : Entry) → IsNote e → Tallies c t → Tallies c (also t e)
tally_noted c t (Met place) n h = same_tally c t (Met place) refl refl refl refl refl refl h
tally_noted c t (NoUp place miss) n h = same_tally c t (NoUp place miss) refl refl refl refl refl refl h
tally_noted c t (Taken p) n h = same_tally c t (Taken p) refl refl refl refl refl refl h
tally_noted c t _ n h = absurd n

-- the pipes stay as they are where no wire is taken
link_note : (e : Entry) → IsOfLinks e → IsNote e
link_note (Met place) n = tt
link_note (NoUp place miss) n = tt
link_note _ n = absurd n

link_comes : (z : Setting) (k : ℕ) (before : List Entry) (e : Entry) → IsOfLinks e → MayCome z k before e
link_comes z k before (Met place) n = tt
link_comes z k before (NoUp place miss) n = tt
link_comes z k before _ n = absurd n

module _ {W : Type 0} (shown : W → WireView) where
  pipes_noted : (l : Pipes W) (t : Moment) (e : Entry) → IsOfLinks e → PipesStand shown l t → PipesStand shown l (also t e)
  pipes_noted l t (Met place) n h = record {
    up_is = h.up_is;
    up_wires = λ i d m. let q = h.up_wires i d m in record { agrees = q.agrees; is_open = q.is_open };
    down_is = h.down_is;
    down_wires = λ i d m. let q = h.down_wires i d m in record { agrees = q.agrees; why_is = q.why_is; shows = shows_still t.z (past t) (Met place ∷ past t) _ _ _ refl (λ k. k) q.shows };
    in_order = h.in_order;
    limits = h.limits;
    count_is = h.count_is;
    down_room = h.down_room;
    few = h.few;
    marks = h.marks;
  }
  pipes_noted l t (NoUp place miss) n h = record {
    up_is = h.up_is;
    up_wires = λ i d m. let q = h.up_wires i d m in record { agrees = q.agrees; is_open = q.is_open };
    down_is = h.down_is;
    down_wires = λ i d m. let q = h.down_wires i d m in record { agrees = q.agrees; why_is = q.why_is; shows = shows_still t.z (past t) (NoUp place miss ∷ past t) _ _ _ refl (λ k. k) q.shows };
    in_order = h.in_order;
    limits = h.limits;
    count_is = h.count_is;
    down_room = h.down_room;
    few = h.few;
    marks = h.marks;
  }
  pipes_noted l t _ n h = absurd n

-- ---- The core

module _ {P W : Type 0} (ties : P → Moment → Type 0) (room : P → ℕ) (shown : W → WireView) (silent : (m : P) (t : Moment) (e : Entry) → IsSilent e → Lawful (also t e) → ties m t → ties m (also t e)) where
  -- the same with these pipes
  pub noted : (c : Core P W) (l : Pipes W) (t : Moment) (e : Entry) → IsNote e → MayCome t.z t.caller (past t) e → Owns ties room shown [] c t → PipesStand shown l (also t e) → Owns ties room shown [] (record c { pipes = l }) (also t e)
  noted c l t e n m g li = record {
    lawful = note_lawful t e g.lawful g.calm n m;
    calm = calm_noted t.z (past t) e n g.calm;
    proto = silent c.proto t e (silent_note e n) (note_lawful t e g.lawful g.calm n m) g.proto;
    op_words = op_words_noted c.op_words t e n g.op_words;
    operations = operations_noted c.operations t e n g.operations;
    pipes = li;
    tally = tally_noted c.tally t e n g.tally;
    closed = rw (closed_noted (past t) e n) g.closed;
    room_is = g.room_is;
  }

  -- for a link, with the same pipes
  pub link_noted : (c : Core P W) (t : Moment) (e : Entry) → IsOfLinks e → Owns ties room shown [] c t → Owns ties room shown [] c (also t e)
  link_noted c t e n g = noted c c.pipes t e (link_note e n) (link_comes t.z t.caller (past t) e n) g (pipes_noted shown c.pipes t e n g.pipes)
