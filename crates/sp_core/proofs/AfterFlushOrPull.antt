-- The core goes on after a flush or a pull.
use Rattle.std.proofs.Common.{◌≡◌, refl, ap, sym, ◌∙◌, subst, List, [], ◌∷◌, ℕ, ◌<◌, ◌≤◌, Bool, true, false, arith, inl, inr, length, set, Some}
use Rattle.std.specs.VecDeque.{deque_capacity}
use Rattle.std.specs.Prelude.{◌&&◌, ◌==◌, Option}
use Rattle.std.proofs.lemmas.Bool.{or_right}
use Rattle.sp_msg.specs.Views.{WireView}
use Rattle.sp_history.specs.declared.entry.Entry.{Entry}
use Rattle.sp_history.specs.declared.entry.Entry.TheVariants.{Unkept, Dry, Frame, Quiet, Stall, Clear, Down}
use Rattle.sp_history.specs.declared.entry.Why.{Why}
use Rattle.sp_history.specs.declared.entry.Why.TheVariants as whys
use Rattle.sp_history.specs.declared.setting.Setting.{Setting}
use Rattle.sp_history.specs.Setting.{is_sub, floods}
use Rattle.sp_history.specs.Frames.{malformed}
use Rattle.sp_history.specs.Kept.{wanted}
use Rattle.sp_history.specs.Lists.{has, without}
use Rattle.sp_history.specs.Past.{up, ctxs, is_closed}
use Rattle.sp_history.specs.Legal.{Calm, Allowed, condemned}
use Rattle.sp_history.specs.Moments.{Moment, past, also, Lawful}
use Rattle.sp_core.specs.declared.owner.Core.{Core}
use Rattle.core_state.specs.declared.pipes.PipePlace.{PipePlace}
use Rattle.core_state.specs.declared.pipes.Pipes.{Pipes}
use Rattle.core_state.specs.OpWordsStand.{OpWordsStand}
use Rattle.core_state.specs.OperationsStand.{OperationsStand, done_count}
use Rattle.core_state.specs.Tallies.{Tallies}
use Rattle.core_state.specs.Wires.{ShowsWhy, has_unkept}
use Rattle.core_state.specs.Pipes.{UpPipe, up_pipes, PipesStand, IsPipeAt, HasPlace}
use Rattle.core_state.specs.PartSteps.{EmptiesPlace}
use Rattle.sp_core.specs.Owning.{Owns}
use Rattle.std.proofs.lemmas.List.{length-map, set-get_or}
use Rattle.core_state.proofs.ChangedWires.{same_number}
use Rattle.core_state.proofs.PipeSteps.{up_at, placed, emptied}
use Rattle.core_state.proofs.Lawfuls.{one_more}
use Rattle.sp_core.proofs.MomentSteps.{goes, up_open}
use Rattle.core_state.proofs.Tallying.{same_tally}

-- ---- What may come next

-- an entry that comes directly after another one of the turn
one_after : (t : Moment) (d e : Entry) → Lawful (also t d) → Allowed t.z t.caller (past (also t d)) e → Lawful (also (also t d) e)
one_after t d e l a = record { history = l.history; legal = l.legal; before = l.before; turn = (a, l.turn); starts = l.starts }

none_has : (xs : List ℕ) (p : ℕ) → xs ≡ [] → has xs p ≡ false
none_has xs p e = rw e refl

pub stall_lawful : (t : Moment) (p : ℕ) → Lawful t → Calm t.z (past t) → has (up (past t)) p ≡ true → Lawful (also t (Stall p))
stall_lawful t p l calm h = one_more t (Stall p) l (record { goes_on = goes t.z (past t) (Stall p) calm; after_close = up_open t p (Stall p) l h; itself = h }) refl

pub clear_lawful : (t : Moment) (p : ℕ) → Lawful t → Calm t.z (past t) → has (up (past t)) p ≡ true → Lawful (also t (Clear p))
clear_lawful t p l calm h = one_more t (Clear p) l (record { goes_on = goes t.z (past t) (Clear p) calm; after_close = up_open t p (Clear p) l h; itself = h }) refl

pub quiet_lawful : (t : Moment) (p : ℕ) → Lawful t → Calm t.z (past t) → has (up (past t)) p ≡ true → wanted t.z (past t) p ≡ true → Lawful (also t (Quiet p))
quiet_lawful t p l calm h w = one_more t (Quiet p) l (record { goes_on = goes t.z (past t) (Quiet p) calm; after_close = up_open t p (Quiet p) l h; itself = (h, w) }) refl

pub frame_lawful : (t : Moment) (p : ℕ) (b : List ℕ) → Lawful t → Calm t.z (past t) → has (up (past t)) p ≡ true → wanted t.z (past t) p ≡ true → Lawful (also t (Frame p b))
frame_lawful t p b l calm h w =
    one_more t (Frame p b) l (record { goes_on = goes t.z (past t) (Frame p b) calm; after_close = up_open t p (Frame p b) l h; itself = (h, w, none_has (condemned t.z (past t)) p calm.condemned_gone) }) refl

pub dry_lawful : (t : Moment) (p c : ℕ) (b : List ℕ) → Lawful (also t (Frame p b)) → has (up (past t)) p ≡ true → is_sub t.z.role ≡ true → has (ctxs (past t)) c ≡ true → Lawful (also (also t (Frame p b)) (Dry c))
dry_lawful t p c b l h s k = one_after t (Frame p b) (Dry c) l (record { goes_on = refl; after_close = up_open (also t (Frame p b)) p (Dry c) l h; itself = rw (k, s) refl })

pub unkept_lawful : (t : Moment) (p : ℕ) (b : List ℕ) → Lawful (also t (Frame p b)) → has (up (past t)) p ≡ true → malformed t.z (past t) p b ≡ false → Lawful (also (also t (Frame p b)) (Unkept p))
unkept_lawful t p b l h m = one_after t (Frame p b) (Unkept p) l (record { goes_on = refl; after_close = up_open (also t (Frame p b)) p (Unkept p) l h; itself = rw (same_number p, m) refl })

-- the pipe of a malformed frame goes down
pub malformed_lawful : (t : Moment) (p : ℕ) (b : List ℕ) → Lawful (also t (Frame p b)) → has (up (past t)) p ≡ true → Lawful (also (also t (Frame p b)) (Down p whys.Malformed))
malformed_lawful t p b l h = one_after t (Frame p b) (Down p whys.Malformed) l (record { goes_on = refl; after_close = up_open (also t (Frame p b)) p (Down p whys.Malformed) l h; itself = (h, λ c. refl) })

condemned_not : (z : Setting) (p : ℕ) (b : List ℕ) (before : List Entry) → condemned z before ≡ [] → malformed z before p b ≡ false → condemned z (Frame p b ∷ before) ≡ []
condemned_not z p b before none m = rw m none

condemned_gone : (z : Setting) (p : ℕ) (b : List ℕ) (before : List Entry) (why : Why) → condemned z before ≡ [] → malformed z before p b ≡ true → condemned z (Down p why ∷ Frame p b ∷ before) ≡ []
condemned_gone z p b before why none m = rw (m, none, same_number p) refl

-- so does that of a frame that is kept nowhere
pub memory_lawful : (t : Moment) (p : ℕ) (b : List ℕ) → Lawful (also (also t (Frame p b)) (Unkept p)) → Calm t.z (past t) → has (up (past t)) p ≡ true → malformed t.z (past t) p b ≡ false → Lawful (also (also (also t (Frame p b)) (Unkept p)) (Down p whys.NoMemory))
memory_lawful t p b l calm h m =
    let none = none_has (condemned t.z (Frame p b ∷ past t)) p (condemned_not t.z p b (past t) calm.condemned_gone m) in
    one_after (also t (Frame p b)) (Unkept p) (Down p whys.NoMemory) l (record {
      goes_on = same_number p;
      after_close = up_open (also (also t (Frame p b)) (Unkept p)) p (Down p whys.NoMemory) l h;
      itself = (h, λ c. let q : false ≡ true = sym none ∙ c in absurd cc);
    })

no_claim : (a : Bool) → (a && false) ≡ false
no_claim true = refl
no_claim false = refl

some_has : (xs : List ℕ) (p : ℕ) → has xs p ≡ true → 0 < length xs
some_has [] p h = absurd cc
some_has (x ∷ xs) p h = omega arith

-- ---- The pipes

module _ {W : Type 0} (shown : W → WireView) where
  pub count_length : (l : Pipes W) (t : Moment) → PipesStand shown l t → l.count ≡ length (up (past t))
  count_length l t h = let n = ap length h.up_is in let k = length-map (up_pipes l) (λ (x : UpPipe W). x.id) in let c = h.count_is in omega (arith, n, k, c)

  pub pipes_dry : (l : Pipes W) (t : Moment) (c : ℕ) → PipesStand shown l t → PipesStand shown l (also t (Dry c))
  pipes_dry l t c h = record {
    up_is = h.up_is;
    up_wires = λ i d m. let q = h.up_wires i d m in record { agrees = q.agrees; is_open = q.is_open };
    down_is = h.down_is;
    down_wires = λ i d m. let q = h.down_wires i d m in record { agrees = q.agrees; why_is = q.why_is; shows = why_dry t.z c (past t) _ _ _ q.shows };
    in_order = h.in_order;
    limits = h.limits;
    count_is = h.count_is;
    down_room = h.down_room;
    few = h.few;
    marks = h.marks;
  }
    where
      why_dry : (z : Setting) (c : ℕ) (before : List Entry) (p : ℕ) (why : Why) (w : WireView) → ShowsWhy z before p why w → ShowsWhy z (Dry c ∷ before) p why w
      why_dry z c before p whys.Ended w h = h
      why_dry z c before p whys.Failed w h = h
      why_dry z c before p whys.Malformed w h = h
      why_dry z c before p whys.Refusal w h = h
      why_dry z c before p whys.Closed w h = h
      why_dry z c before p whys.NoMemory w h = h

  pub pipes_unkept : (l : Pipes W) (t : Moment) (p : ℕ) → PipesStand shown l t → PipesStand shown l (also t (Unkept p))
  pipes_unkept l t p h = record {
    up_is = h.up_is;
    up_wires = λ i d m. let q = h.up_wires i d m in record { agrees = q.agrees; is_open = q.is_open };
    down_is = h.down_is;
    down_wires = λ i d m. let q = h.down_wires i d m in record { agrees = q.agrees; why_is = q.why_is; shows = why_unkept t.z p (past t) _ _ _ q.shows };
    in_order = h.in_order;
    limits = h.limits;
    count_is = h.count_is;
    down_room = h.down_room;
    few = h.few;
    marks = h.marks;
  }
    where
      why_unkept : (z : Setting) (r : ℕ) (before : List Entry) (p : ℕ) (why : Why) (w : WireView) → ShowsWhy z before p why w → ShowsWhy z (Unkept r ∷ before) p why w
      why_unkept z r before p whys.Ended w h = h
      why_unkept z r before p whys.Failed w h = h
      why_unkept z r before p whys.Malformed w h = h
      why_unkept z r before p whys.Refusal w h = h
      why_unkept z r before p whys.Closed w h = h
      why_unkept z r before p whys.NoMemory w (inl h) = inl h
      why_unkept z r before p whys.NoMemory w (inr h) = inr (or_right (r == p) (has_unkept before p) h)

  -- a pipe is among those that are counted
  pub place_counted : (l : Pipes W) (t : Moment) (i p : ℕ) → PipesStand shown l t → IsPipeAt l i p → HasPlace l i
  place_counted l t i p h there = record {
    inside = there.inside;
    is_up = λ x at. (there.is x at).1;
    counted = let n = count_length l t h in let some = some_has (up (past t)) p (up_at shown l t i p h there) in omega (arith, n, some);
  }

  -- one more may go down
  pub room_down : (l : Pipes W) (t : Moment) (i p : ℕ) → PipesStand shown l t → IsPipeAt l i p → length l.down.items < deque_capacity l.down
  room_down l t i p h there = let some = (place_counted l t i p h there).counted in omega (arith, h.down_room, h.count_is, some)

  -- the pipe goes down for a cause that its wire need not show, and the pipes stay valid
  pub goes_down_on : (l m n : Pipes W) (t : Moment) (i p : ℕ) (found why : Why) → found ≡ why → Lawful t → PipesStand shown l t → IsPipeAt l i p → ((w : WireView) → ShowsWhy t.z (past t) p why w) → EmptiesPlace i found l m → n ≡ m → PipesStand shown n (also t (Down p why))
  goes_down_on l m n t i p found why e lawful h there shows empties same =
      let x = placed l i p there in
      let w = x.1 in
      let out = subst (λ (y : Why). EmptiesPlace i y l m) e empties in
      let alike : l.places.items ≡ set l.places.items i (record x.0 { wire = Some w }) = sym (ap (set l.places.items i) (ap (λ (o : Option W). let y : PipePlace W = record x.0 { wire = o } in y) (sym x.4) ∙ x.2) ∙ set-get_or l.places.items i x.0) in
      subst (λ (q : Pipes W). PipesStand shown q (also t (Down p why))) (sym same) (emptied shown l l m t i p x.0 w w why lawful h there x.2 x.4 (λ u. (u.agrees, shows (shown w))) alike refl refl refl out)

pub shows_malformed : (z : Setting) (p : ℕ) (b : List ℕ) (before : List Entry) (w : WireView) → malformed z before p b ≡ true → ShowsWhy z (Frame p b ∷ before) p whys.Malformed w
shows_malformed z p b before w m = inl (rw (same_number p) m)

pub shows_unkept : (z : Setting) (p : ℕ) (before : List Entry) (w : WireView) → ShowsWhy z (Unkept p ∷ before) p whys.NoMemory w
shows_unkept z p before w = inr (rw (same_number p) refl)

-- ---- The core

module _ {P W : Type 0} (ties : P → Moment → Type 0) (room : P → ℕ) (shown : W → WireView) where
  built : (c d : Core P W) (t u : Moment) → Owns ties room shown [] c t → Lawful u → Calm u.z (past u) → ties d.proto u → room c.proto ≤ room d.proto → OpWordsStand d.op_words u → OperationsStand [] c.operations u → d.operations ≡ c.operations → PipesStand shown d.pipes u → Tallies d.tally u → is_closed (past u) ≡ d.closed
      → Owns ties room shown [] d u
  built c d t u g l calm pr ro de sh she li ta cl = record {
    lawful = l;
    calm = calm;
    proto = pr;
    op_words = de;
    operations = rw she sh;
    pipes = li;
    tally = ta;
    closed = cl;
    room_is = omega (arith, g.room_is, ro, ap (λ x. length x.free.items) she, ap done_count she);
  }

  -- something is left to write
  pub stalled : (c : Core P W) (l : Pipes W) (t : Moment) (p : ℕ) → Owns ties room shown [] c t → has (up (past t)) p ≡ true → ties c.proto (also t (Stall p)) → PipesStand shown l (also t (Stall p)) → Owns ties room shown [] (record c { pipes = l }) (also t (Stall p))
  stalled c l t p g h pr li =
      built c (record c { pipes = l }) t (also t (Stall p)) g (stall_lawful t p g.lawful g.calm h) (record { condemned_gone = g.calm.condemned_gone; outs_claimed = refl; unkept_gone = refl; all_shut = g.calm.all_shut; closed_all = g.calm.closed_all })
      pr (omega arith) g.op_words g.operations refl li (same_tally c.tally t (Stall p) refl refl refl refl refl refl g.tally) g.closed

  -- nothing is
  pub cleared : (c : Core P W) (l : Pipes W) (t : Moment) (p : ℕ) → Owns ties room shown [] c t → has (up (past t)) p ≡ true → ties c.proto (also t (Clear p)) → PipesStand shown l (also t (Clear p)) → Owns ties room shown [] (record c { pipes = l }) (also t (Clear p))
  cleared c l t p g h pr li =
      built c (record c { pipes = l }) t (also t (Clear p)) g (clear_lawful t p g.lawful g.calm h) (record { condemned_gone = g.calm.condemned_gone; outs_claimed = refl; unkept_gone = refl; all_shut = g.calm.all_shut; closed_all = g.calm.closed_all })
      pr (omega arith) g.op_words g.operations refl li (same_tally c.tally t (Clear p) refl refl refl refl refl refl g.tally) g.closed

  -- nothing came
  pub quiet : (c : Core P W) (l : Pipes W) (t : Moment) (p : ℕ) → Owns ties room shown [] c t → has (up (past t)) p ≡ true → wanted t.z (past t) p ≡ true → ties c.proto (also t (Quiet p)) → PipesStand shown l (also t (Quiet p)) → Owns ties room shown [] (record c { pipes = l }) (also t (Quiet p))
  quiet c l t p g h w pr li =
      built c (record c { pipes = l }) t (also t (Quiet p)) g (quiet_lawful t p g.lawful g.calm h w) (record { condemned_gone = g.calm.condemned_gone; outs_claimed = refl; unkept_gone = refl; all_shut = g.calm.all_shut; closed_all = g.calm.closed_all })
      pr (omega arith) g.op_words g.operations refl li (same_tally c.tally t (Quiet p) refl refl refl refl refl refl g.tally) g.closed

  -- a frame came
  pub framed : (c d : Core P W) (t : Moment) (p : ℕ) (b : List ℕ) → Owns ties room shown [] c t → has (up (past t)) p ≡ true → wanted t.z (past t) p ≡ true → malformed t.z (past t) p b ≡ false → ties d.proto (also t (Frame p b)) → room c.proto ≤ room d.proto → PipesStand shown d.pipes (also t (Frame p b)) → Tallies d.tally (also t (Frame p b)) → d.op_words ≡ c.op_words → d.operations ≡ c.operations → d.closed ≡ c.closed
      → Owns ties room shown [] d (also t (Frame p b))
  framed c d t p b g h w m pr ro li ta de sh cl =
      built c d t (also t (Frame p b)) g (frame_lawful t p b g.lawful g.calm h w) (record { condemned_gone = condemned_not t.z p b (past t) g.calm.condemned_gone m; outs_claimed = refl; unkept_gone = refl; all_shut = g.calm.all_shut; closed_all = g.calm.closed_all })
      pr ro (rw de g.op_words) g.operations sh li ta (g.closed ∙ sym cl)

  -- and there was no memory for the copies of some contexts
  pub dried : (c d : Core P W) (t : Moment) (p : ℕ) (b : List ℕ) (x : ℕ) → Owns ties room shown [] c t → has (up (past t)) p ≡ true → wanted t.z (past t) p ≡ true → malformed t.z (past t) p b ≡ false → is_sub t.z.role ≡ true → has (ctxs (past t)) x ≡ true → ties d.proto (also (also t (Frame p b)) (Dry x)) → room c.proto ≤ room d.proto → PipesStand shown d.pipes (also t (Frame p b)) → Tallies d.tally (also t (Frame p b)) → d.op_words ≡ c.op_words → d.operations ≡ c.operations → d.closed ≡ c.closed
      → Owns ties room shown [] d (also (also t (Frame p b)) (Dry x))
  dried c d t p b x g h w m s k pr ro li ta de sh cl =
      built c d t (also (also t (Frame p b)) (Dry x)) g (dry_lawful t p x b (frame_lawful t p b g.lawful g.calm h w) h s k) (record { condemned_gone = condemned_not t.z p b (past t) g.calm.condemned_gone m; outs_claimed = refl; unkept_gone = refl; all_shut = g.calm.all_shut; closed_all = g.calm.closed_all })
      pr ro (rw de g.op_words) g.operations sh (pipes_dry shown d.pipes (also t (Frame p b)) x li) (same_tally d.tally (also t (Frame p b)) (Dry x) refl refl refl refl refl refl ta) (g.closed ∙ sym cl)

  -- it was malformed, and its pipe went down
  pub went_down_malformed : (c d : Core P W) (t : Moment) (p : ℕ) (b : List ℕ) → Owns ties room shown [] c t → has (up (past t)) p ≡ true → wanted t.z (past t) p ≡ true → malformed t.z (past t) p b ≡ true → ties d.proto (also (also t (Frame p b)) (Down p whys.Malformed)) → room c.proto ≤ room d.proto → PipesStand shown d.pipes (also (also t (Frame p b)) (Down p whys.Malformed)) → Tallies d.tally (also (also t (Frame p b)) (Down p whys.Malformed)) → d.op_words ≡ c.op_words → d.operations ≡ c.operations → d.closed ≡ c.closed
      → Owns ties room shown [] d (also (also t (Frame p b)) (Down p whys.Malformed))
  went_down_malformed c d t p b g h w m pr ro li ta de sh cl =
      built c d t (also (also t (Frame p b)) (Down p whys.Malformed)) g (malformed_lawful t p b (frame_lawful t p b g.lawful g.calm h w) h) (record { condemned_gone = condemned_gone t.z p b (past t) whys.Malformed g.calm.condemned_gone m; outs_claimed = no_claim (floods t.z.role); unkept_gone = refl; all_shut = g.calm.all_shut; closed_all = g.calm.closed_all })
      pr ro (rw de g.op_words) g.operations sh li ta (g.closed ∙ sym cl)

  -- it was kept nowhere, and its pipe went down
  pub went_down_unkept : (c d : Core P W) (t : Moment) (p : ℕ) (b : List ℕ) → Owns ties room shown [] c t → has (up (past t)) p ≡ true → wanted t.z (past t) p ≡ true → malformed t.z (past t) p b ≡ false → ties d.proto (also (also (also t (Frame p b)) (Unkept p)) (Down p whys.NoMemory)) → room c.proto ≤ room d.proto → PipesStand shown d.pipes (also (also (also t (Frame p b)) (Unkept p)) (Down p whys.NoMemory)) → Tallies d.tally (also (also (also t (Frame p b)) (Unkept p)) (Down p whys.NoMemory)) → d.op_words ≡ c.op_words → d.operations ≡ c.operations → d.closed ≡ c.closed
      → Owns ties room shown [] d (also (also (also t (Frame p b)) (Unkept p)) (Down p whys.NoMemory))
  went_down_unkept c d t p b g h w m pr ro li ta de sh cl =
      let l = unkept_lawful t p b (frame_lawful t p b g.lawful g.calm h w) h m in
      built c d t (also (also (also t (Frame p b)) (Unkept p)) (Down p whys.NoMemory)) g (memory_lawful t p b l g.calm h m) (record { condemned_gone = ap (λ xs. without xs p) (condemned_not t.z p b (past t) g.calm.condemned_gone m); outs_claimed = no_claim (floods t.z.role); unkept_gone = refl; all_shut = g.calm.all_shut; closed_all = g.calm.closed_all })
      pr ro (rw de g.op_words) g.operations sh li ta (g.closed ∙ sym cl)
