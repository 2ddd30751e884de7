-- A tick comes, and deadlines with it.
use Rattle.std.proofs.Common.{◌≡◌, refl, ap, sym, ◌∙◌, subst, List, [], ◌∷◌, ◌++◌, ℕ, ◌≤◌, Bool, true, false, arith, length}
use Rattle.std.specs.Prelude.{max}
use Rattle.turn_lock.specs.declared.turn.Turn.{Turn}
use Rattle.aio_expire.specs.Schedule.{Schedule}
use Rattle.sp_base.specs.declared.OpName.{OpName}
use Rattle.sp_msg.specs.Views.{WireView}
use Rattle.sp_history.specs.declared.entry.Entry.{Entry}
use Rattle.sp_history.specs.declared.entry.Entry.TheVariants.{Tick}
use Rattle.sp_history.specs.declared.entry.Why.{Why}
use Rattle.sp_history.specs.declared.entry.Why.TheVariants as whys
use Rattle.sp_history.specs.declared.setting.Setting.{Setting}
use Rattle.sp_history.specs.Past.{is_closed, due_at, now}
use Rattle.sp_history.specs.Legal.{Calm}
use Rattle.sp_history.specs.Moments.{Moment, past, also, next, Lawful}
use Rattle.sp_core.specs.declared.owner.Core.{Core}
use Rattle.core_state.specs.declared.pipes.Pipes.{Pipes}
use Rattle.core_state.specs.OperationsStand.{OperationsStand, done_count}
use Rattle.core_state.specs.Wires.{ShowsWhy}
use Rattle.core_state.specs.Pipes.{PipesStand}
use Rattle.core_state.specs.Tallies.{Tallies}
use Rattle.sp_core.specs.Owning.{Owns}
use Rattle.sp_core.specs.Moving.{Later}
use Rattle.sp_core.specs.Standing.{StandsFor, IsSettled}
use Rattle.sp_core.specs.Collecting.{Ticks, TickedTo, DueFrom, DueBy}
use Rattle.core_state.proofs.Lawfuls.{one_more}
use Rattle.sp_core.proofs.MomentSteps.{goes}
use Rattle.sp_core.proofs.TurnEnds.{first_so, settling_so}

-- ---- The pipes

why_ticked : (z : Setting) (at : ℕ) (due : List OpName) (before : List Entry) (p : ℕ) (why : Why) (w : WireView) → ShowsWhy z before p why w → ShowsWhy z (Tick at due ∷ before) p why w
why_ticked z at due before p whys.Ended w h = h
why_ticked z at due before p whys.Failed w h = h
why_ticked z at due before p whys.Malformed w h = h
why_ticked z at due before p whys.Refusal w h = h
why_ticked z at due before p whys.Closed w h = h
why_ticked z at due before p whys.NoMemory w h = h

module _ {W : Type 0} (shown : W → WireView) where
  pipes_ticked : (l : Pipes W) (t : Moment) (at : ℕ) (due : List OpName) → PipesStand shown l t → PipesStand shown l (also t (Tick at due))
  pipes_ticked l t at due h =
      record {
        up_is = h.up_is;
        up_wires = λ i d m. let q = h.up_wires i d m in record { agrees = q.agrees; is_open = q.is_open };
        down_is = h.down_is;
        down_wires = λ i d m. let q = h.down_wires i d m in record { agrees = q.agrees; why_is = q.why_is; shows = why_ticked t.z at due (past t) _ _ _ q.shows };
        in_order = h.in_order;
        limits = h.limits;
        count_is = h.count_is;
        down_room = h.down_room;
        few = h.few;
        marks = h.marks;
      }

-- ---- The core

pub ticks_at : (a b m : ℕ) → m ≡ max a b → a ≤ m
ticks_at a b m e = omega (arith, e)

pub tick_lawful : (t : Moment) (at : ℕ) → Lawful t → Calm t.z (past t) → is_closed (past t) ≡ false → now (past t) ≤ at → Lawful (also t (Tick at (due_at (past t) at)))
tick_lawful t at l calm open_ less =
    one_more t (Tick at (due_at (past t) at)) l (record {
      goes_on = goes t.z (past t) (Tick at (due_at (past t) at)) calm;
      after_close = λ c. let q : false ≡ true = sym open_ ∙ c in absurd cc;
      itself = (less, refl);
    }) refl

module _ {P W : Type 0} (ties : P → Moment → Type 0) (room : P → ℕ) (shown : W → WireView) where
  pub ticked : (c d : Core P W) (t : Moment) (at : ℕ) (old new : List OpName) → Owns ties room shown [] c t → c.closed ≡ false → now (past t) ≤ at → new ≡ old ++ due_at (past t) at → ties d.proto (also t (Tick at (due_at (past t) at))) → room c.proto ≤ room d.proto → OperationsStand [] d.operations (also t (Tick at (due_at (past t) at)))
      → Tallies d.tally (also t (Tick at (due_at (past t) at))) → d.op_words ≡ c.op_words → d.pipes ≡ c.pipes → d.closed ≡ c.closed → length d.operations.free.items ≡ length c.operations.free.items → done_count d.operations ≡ done_count c.operations
      → Ticks (is_closed (past t)) (Owns ties room shown [] d) t at old new
  ticked c d t at old new g open_ less names pr ro sh ta de li cl free done =
      let is_open : is_closed (past t) ≡ false = g.closed ∙ open_ in
      subst (λ (b : Bool). Ticks b (Owns ties room shown [] d) t at old new) (sym is_open) (
        record {
          lawful = tick_lawful t at g.lawful g.calm is_open less;
          calm = record { condemned_gone = g.calm.condemned_gone; outs_claimed = refl; unkept_gone = refl; all_shut = g.calm.all_shut; closed_all = g.calm.closed_all };
          proto = pr;
          op_words = rw de g.op_words;
          operations = sh;
          pipes = rw li (pipes_ticked shown c.pipes t at (due_at (past t) at) g.pipes);
          tally = ta;
          closed = g.closed ∙ sym cl;
          room_is = omega (arith, g.room_is, ro, free, done);
        },
        names,
      )

  pub not_ticked : (c : Core P W) (t : Moment) (at : ℕ) (names : List OpName) → Owns ties room shown [] c t → c.closed ≡ true → Ticks (is_closed (past t)) (Owns ties room shown [] c) t at names names
  not_ticked c t at names g closed = subst (λ (b : Bool). Ticks b (Owns ties room shown [] c) t at names names) (sym (g.closed ∙ closed)) (g, refl)

  pub enough_room : (c : Core P W) (t : Moment) (spare : ℕ) → Owns ties room shown [] c t → c.op_words.words.slots ≤ spare → c.operations.deadlines.schedule.slots ≤ spare
  enough_room c t spare g h = omega (arith, h, g.op_words.slots_are, ap (λ (v : Schedule). v.slots) g.operations.deadlines_are)

  -- what the core stands for after the tick
  pub standing : (c : Core P W) (t : Moment) (at : ℕ) (old new : List OpName) (b : Bool) → Ticks b (Owns ties room shown [] c) t at old new → (u : Moment) × Owns ties room shown [] c u
  standing c t at old new true h = (t, h.0)
  standing c t at old new false h = (also t (Tick at (due_at (past t) at)), h.0)

  abbrev Leads : Core P W → Core P W → Type 0
  Leads d f = (t : Moment) → Owns ties room shown [] d t → (u : Moment) × Later t u × Owns ties room shown [] f u × IsSettled u

  abbrev DueTurn : Core P W → List (Turn Entry) → ℕ → Bool → List Entry → ℕ → List OpName → List OpName → Type 0
  DueTurn f h k b before at old new = (v : Turn Entry) × (v.number ≡ k) × StandsFor ties room shown f (h ++ v ∷ []) × DueFrom b before v at old new

  due_turn : (c d f : Core P W) (h : List (Turn Entry)) (k at : ℕ) (old new : List OpName) (s : StandsFor ties room shown c h) → (1 ≤ k) × (k ≤ c.op_words.words.callers) → (b : Bool) → Ticks b (Owns ties room shown [] d) (next s.at k) at old new → Leads d f → DueTurn f h k b (past s.at) at old new
  due_turn c d f h k at old new s ks true t go =
      let u = go (next s.at k) t.0 in
      let v = settling_so ties room shown c f h k u.0 s ks u.1 u.2 u.3 in
      (v.0, v.1, v.2, (v.3, t.1))
  due_turn c d f h k at old new s ks false t go =
      let e = Tick at (due_at (past s.at) at) in
      let u = go (also (next s.at k) e) t.0 in
      let v = first_so ties room shown c f h k e u.0 s ks u.1 u.2 u.3 in
      (v.0, v.1, v.2, (v.3, t.1))

  pub due_so : (c d f : Core P W) (h : List (Turn Entry)) (k at : ℕ) (old new : List OpName) (s : StandsFor ties room shown c h) → (1 ≤ k) × (k ≤ c.op_words.words.callers) → TickedTo (Owns ties room shown [] d) (next s.at k) at old new → Leads d f
      → (v : Turn Entry) × (v.number ≡ k) × StandsFor ties room shown f (h ++ v ∷ []) × DueBy h v at old new
  due_so c d f h k at old new s ks t go =
      subst (λ (p : List Entry). DueTurn f h k (is_closed p) p (max (now p) at) old new) s.past_is (due_turn c d f h k (max (now (past s.at)) at) old new s ks (is_closed (past s.at)) t go)

  pub setting_after : (c : Core P W) (t : Moment) (at : ℕ) (old new : List OpName) (b : Bool) → Ticks b (Owns ties room shown [] c) t at old new → (u : Moment) × Owns ties room shown [] c u × (u.z ≡ t.z)
  setting_after c t at old new true h = (t, h.0, refl)
  setting_after c t at old new false h = (also t (Tick at (due_at (past t) at)), h.0, refl)
