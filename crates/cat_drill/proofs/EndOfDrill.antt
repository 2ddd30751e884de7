-- How a drill's socket ends.
use Rattle.std.proofs.Common.{◌≡◌, refl, ap, sym, ◌∙◌, subst, List, [], ◌∷◌, ◌++◌, ℕ, ◌≤◌, suc, zero, true, arith, rules, length, map, Option, Some, None, inl, inr}
use Rattle.std.specs.Prelude.{◌%◌, ◌^◌, IfSome, take, drop}
use Rattle.std.specs.List.{All, sum}
use Rattle.std.proofs.lemmas.List.{append_assoc, append-nil}
use Rattle.std.specs.List.Sorted.{IsPermutation}
use Rattle.std.proofs.lemmas.List.Sorted.{IsPermutation-refl}
use Rattle.turn_lock.specs.declared.turn.Turn.{Turn}
use Rattle.turn_lock.specs.History.{StartsWith}
use Rattle.aio_word.specs.Views.{Each}
use Rattle.sp_base.specs.Outside.{grown, Rose}
use Rattle.sp_base.specs.Views.{NetView, FilesView, PaceView, SinkView}
use Rattle.sp_msg.specs.Views.{OverLanes}
use Rattle.sp_base.specs.Wires.{WireView, numbers_of}
use Rattle.sp_history.specs.declared.entry.Entry.{Entry}
use Rattle.sp_history.specs.declared.entry.RecordedMessage.{RecordedMessage}
use Rattle.sp_history.specs.declared.entry.Totals.{Totals}
use Rattle.sp_history.specs.declared.entry.Why.{Why}
use Rattle.core_state.specs.declared.pipes.DownPipe.{DownPipe}
use Rattle.sp_core.specs.Parts.{HasWires}
use Rattle.sp_history.specs.declared.setting.Setting.{Setting}
use Rattle.sp_history.specs.Past.{past_of, frames, name_of, is_closed}
use Rattle.sp_history.specs.Legal.{Legal}
use Rattle.sp_history.specs.Settled.{Settled}
use Rattle.sp_history.specs.Given.{given}
use Rattle.sp_core.specs.declared.label.CoreLabel.{CoreLabel}
use Rattle.sp_core.specs.Closing.{closed_totals, ClosedBy}
use Rattle.core_state.specs.Wires.{IsDownWire}
use Rattle.sp_socket.specs.Passes.{SocketName, PassView, ListView, label_with}
use Rattle.sp_socket.specs.Finishing.{IsRecord, FitsIn, HasSeenClose}
use Rattle.sp_socket.specs.Turns.{TookTurn}
use Rattle.sp_socket.proofs.Closed.{all_ended}
use Rattle.cat_play.specs.declared.status.Status.{Status}
use Rattle.cat_play.specs.declared.status.Status.TheVariants as status
use Rattle.cat_play.specs.Drilling.{drill_setting, lines, values, bodies, Drills, GivesAll}
use Rattle.cat_play.specs.Running.{world, RunsDrill, IsCutShort}
use Rattle.sp_lane.specs.Items.{texts}
use Rattle.sp_lane.specs.Lanes.{OutView, Joined}
use Rattle.cat_drill.specs.declared.source.DrillSource.{DrillSource}
use Rattle.cat_drill.specs.DrillWires.{IsSource}
use Rattle.cat_drill.specs.Calling.{IsDrillPass, Later}
use Rattle.cat_drill.specs.Ending.{IsFedBy, IsOut, ClosesWith, CameFrom, Prints}
use Rattle.cat_drill.proofs.DrillCallers.{is_of}
use Rattle.cat_drill.proofs.Due.{due_each}
use Rattle.cat_drill.proofs.Laws.{gives_all, still_named}
use Rattle.cat_drill.proofs.Values.{length_bodies}
use Rattle.cat_drill.proofs.DrillWireReads.{same_lane}

-- ---- The lane

-- later the pipe is still fed by that lane
pub fed_later : (pipe : ℕ) (lane : List ℕ) (p q : PassView) → Later p q → IsFedBy pipe lane p.seen → IsFedBy pipe lane q.seen
fed_later pipe lane p q l f =
    record {
      start = f.start;
      starts = (f.starts.0 ++ l.0, l.1 ∙ ap (λ (h : List (Turn Entry)). h ++ l.0) f.starts.1 ∙ append_assoc f.start f.starts.0 l.0);
      out = f.out;
      name = f.name;
      known = f.known;
    }

-- the whole goes on from where the pipe came up
fed_whole : (pipe : ℕ) (lane : List ℕ) (seen whole : List (Turn Entry)) (t : Totals) → (f : IsFedBy pipe lane seen) → (c : ClosesWith t seen whole) → whole ≡ f.start ++ (f.starts.0 ++ (c.starts.0 ++ c.late))
fed_whole pipe lane seen whole t f c =
    c.whole_is
    ∙ ap (λ (h : List (Turn Entry)). h ++ c.late) (c.starts.1 ∙ ap (λ (h : List (Turn Entry)). h ++ c.starts.0) f.starts.1)
    ∙ ap (λ (h : List (Turn Entry)). h ++ c.late) (append_assoc f.start f.starts.0 c.starts.0)
    ∙ append_assoc f.start (f.starts.0 ++ c.starts.0) c.late
    ∙ ap (λ (h : List (Turn Entry)). f.start ++ h) (append_assoc f.starts.0 c.starts.0 c.late)

option_same : {A : Type 0} (a b : A) → Some a ≡ Some b → a ≡ b
option_same a b e = search (e, rules)

-- the wire of the pipe takes from that lane
pub lane_is : (pipe : ℕ) (lane out other : List ℕ) (seen whole : List (Turn Entry)) (t : Totals) (why : Why) (w : WireView) → IsFedBy pipe lane seen → ClosesWith t seen whole → Legal drill_setting whole → IsDownWire drill_setting (past_of whole) pipe why w → w.name ≡ OverLanes out other → other ≡ lane
lane_is pipe lane out other seen whole t why w f c l d n =
    let e = fed_whole pipe lane seen whole t f c in
    let still = still_named drill_setting f.start (f.starts.0 ++ (c.starts.0 ++ c.late)) pipe _ (subst (Legal drill_setting) e l) f.name f.known in
    let here : name_of (past_of whole) pipe ≡ Some (numbers_of (OverLanes f.out lane)) = ap (λ (h : List (Turn Entry)). name_of (past_of h) pipe) e ∙ still in
    let there : name_of (past_of whole) pipe ≡ Some (numbers_of (OverLanes out other)) = d.agrees.name_is ∙ ap (λ x. Some (numbers_of x)) n in
    same_lane out other f.out lane (option_same _ _ (sym there ∙ here))

-- ---- All was given

-- what holds of the whole list holds of its last element
pub at_last : {A : Type 0} (P : A → Type 0) (xs rest : List A) (x : A) → xs ≡ rest ++ x ∷ [] → All P xs → P x
at_last {A = A} P xs rest x e a = go rest x (subst (All P) e a)
  where
    go : (rest : List A) (x : A) → All P (rest ++ x ∷ []) → P x
    go [] x a = a 0 x (omega arith)
    go (y ∷ rest) x a = go rest x (λ i d lt. a (suc i) d (omega (arith, lt)))

all_taken : {A : Type 0} (put taken rest : List A) → put ≡ taken ++ rest → length rest ≡ 0 → put ≡ taken
all_taken put taken [] e n = e ∙ append-nil taken
all_taken put taken (x ∷ rest) e n = absurd (omega (arith, n))

some_came : (w : WireView) (ts : List (List ℕ)) (past : List Entry) (p : ℕ) (why : Why) → IsDownWire drill_setting past p why w → w.came ≡ Some ts → ts ≡ frames past p
some_came w ts past p why d e = subst (λ (x : Option (List (List ℕ))). IfSome x (λ y. y ≡ frames past p)) e d.agrees.came_is

pub gave_all : (pipe n left : ℕ) (t : Totals) (seen whole : List (Turn Entry)) (why : Why) (w : WireView) (source : DrillSource) (out : OutView) → n ≤ 1000000 → Legal drill_setting whole → ClosesWith t seen whole → IsDownWire drill_setting (past_of whole) pipe why w → w.came ≡ Some (texts out.taken) → IsSource source → Joined source.lane out left → left ≡ 0 → source.count ≡ n → t.won ≡ n → t.frames ≡ n → GivesAll n whole × (source.total ≡ sum (values n) % 2 ^ 64)
gave_all pipe n left t seen whole why w source out low l c d came s j none all won fs =
    let put : source.lane.put ≡ out.taken = all_taken source.lane.put out.taken j.rest j.is (sym j.count ∙ none) in
    let bs : texts out.taken ≡ bodies n = ap texts (sym put) ∙ s.texts_are ∙ ap bodies all in
    let fr : texts out.taken ≡ frames (past_of whole) pipe = some_came w (texts out.taken) (past_of whole) pipe why d came in
    let e = c.whole_is in
    let g = gives_all drill_setting c.early c.late pipe n t (texts out.taken) (subst (Legal drill_setting) e l) c.totals_are won fs low (fr ∙ ap (λ (h : List (Turn Entry)). frames (past_of h) pipe) e) (ap length bs ∙ length_bodies n) in
    let is : map (λ (m : RecordedMessage). m.body) (given (past_of whole)) ≡ bodies n = ap (λ (h : List (Turn Entry)). map (λ (m : RecordedMessage). m.body) (given (past_of h))) e ∙ g ∙ bs in
    (subst (λ (xs : List (List ℕ)). IsPermutation xs (bodies n)) (sym is) (IsPermutation-refl (bodies n)), s.total_is ∙ ap (λ (m : ℕ). sum (values m) % 2 ^ 64) all)

-- ---- The end of the socket

drill_label : (s : SocketName) (p : PassView) (label : CoreLabel) → IsDrillPass s p → p.label ≡ Some label → label.setting ≡ drill_setting
drill_label s p label own e = ap (λ (x : CoreLabel). x.setting) (option_same label (label_with s drill_setting) (sym e ∙ own.1))

pub record_drills : (s : SocketName) (p : PassView) (label : CoreLabel) (h : List (Turn Entry)) (ps rest : List PassView) → IsDrillPass s p → ps ≡ p ∷ rest → IsRecord label h ps → Drills h × StartsWith h p.seen × (label.setting ≡ drill_setting)
record_drills s p label h ps rest own e r =
    let fits = (subst (Each (FitsIn h label)) e r.passes).0 in
    let z = drill_label s p label own fits.2 in
    let legal = subst (λ (x : Setting). Legal x h) z r.legal in (
      record {
        legal = legal;
        settled = subst (λ (x : Setting). Settled x h) z r.settled;
        closed = r.closed;
        ended = λ op. (all_ended drill_setting h legal r.closed op).1;
        due = due_each (past_of h) r.due;
      },
      fits.0,
      z,
    )

pub closes_with : (p q : PassView) (t : Totals) (h : List (Turn Entry)) → Later p q → closed_totals (past_of q.seen) ≡ Some t → StartsWith h q.seen → ClosesWith t p.seen h
closes_with p q t h l c s = record { early = q.seen; late = s.0; whole_is = s.1; starts = l; totals_are = c }

-- the last turn of the pass closed the socket with these totals
pub totals_seen : (t : Totals) (before after : PassView) → TookTurn (λ z h u. ClosedBy t z.callers h u) before after → closed_totals (past_of after.seen) ≡ Some t
totals_seen t before after k = ap (λ (h : List (Turn Entry)). closed_totals (past_of h)) k.seen ∙ k.said.returned

-- all passes are back, and one has seen the close
pub record Returned (s : SocketName) (l : ListView) (p q r t : PassView) : Type 0 where
  pub own : l.lock ≡ s.lock
  pub all : length l.items ≡ l.callers
  pub callers : l.callers ≡ s.words.callers
  pub closed : HasSeenClose s l.items
  pub items : l.items ≡ p ∷ q ∷ r ∷ t ∷ []

pub returned : (s : SocketName) (l m : ListView) (p q r t : PassView) → IsOut s l → IsDrillPass s p → is_closed (past_of p.seen) ≡ true → m.items ≡ l.items ++ p ∷ q ∷ r ∷ t ∷ [] → (m.callers ≡ l.callers) × (m.lock ≡ l.lock) → Returned s m p q r t
returned s l m p q r t out own closed items same =
    let all : m.items ≡ p ∷ q ∷ r ∷ t ∷ [] = items ∙ ap (λ (xs : List PassView). xs ++ p ∷ q ∷ r ∷ t ∷ []) out.items in
    record {
      own = same.1 ∙ out.lock;
      all = ap (λ (xs : List PassView). length xs) all ∙ sym (same.0 ∙ out.callers);
      callers = same.0 ∙ out.callers ∙ sym own.3;
      closed = subst (HasSeenClose s) (sym all) (p, inl refl, closed, is_of s p own);
      items = all;
    }

-- the passes' lock is that of the list
pub lock_of : (s : SocketName) (l : ListView) (p : PassView) → IsOut s l → IsDrillPass s p → p.lock ≡ Some l.lock
lock_of s l p out own = own.0 ∙ ap Some (sym out.lock)

-- ---- The wire of the pipe

pub came_from : (pipe : ℕ) (why : Why) (drill_wire : WireView) (rest wires : List (DownPipe WireView)) (lane : OutView) (past : List Entry) → wires ≡ rest ++ record { id = pipe; why = why; wire = drill_wire } ∷ [] → HasWires (λ w. w) wires drill_setting past → drill_wire.came ≡ Some (texts lane.taken) → (out : List ℕ) × (drill_wire.name ≡ OverLanes out lane.name) → CameFrom pipe lane past
came_from pipe why drill_wire rest wires lane past e h came name =
    record {
      wire = drill_wire;
      why = why;
      is_down = at_last (λ (x : DownPipe WireView). IsDownWire drill_setting past x.id x.why x.wire) wires rest (record { id = pipe; why = why; wire = drill_wire }) e h.wires;
      came = came;
      out = name.0;
      name = name.1;
    }

pub lane_came : (pipe : ℕ) (why : Why) (drill_wire : WireView) (rest wires : List (DownPipe WireView)) (r : Option OutView) → wires ≡ rest ++ record { id = pipe; why = why; wire = drill_wire } ∷ [] → IfSome r (λ lane. drill_wire.came ≡ Some (texts lane.taken)) → IfSome r (λ lane. (out : List ℕ) × (drill_wire.name ≡ OverLanes out lane.name))
    → IfSome r (λ lane. (past : List Entry) → HasWires (λ (w : WireView). w) wires drill_setting past → CameFrom pipe lane past)
lane_came pipe why drill_wire rest wires None e came name = tt
lane_came pipe why drill_wire rest wires (Some lane) e came name = λ past h. came_from pipe why drill_wire rest wires lane past e h came name

-- ---- What was printed

nothing_printed : (old new : SinkView) (n : ℕ) → new ≡ old → (piece : List ℕ) × IsCutShort (lines n ∷ []) piece × (new.text ≡ grown old.text piece)
nothing_printed old new n e = ([], inr ([], lines n, [], refl, (lines n, refl), refl), ap (λ (x : SinkView). x.text) e ∙ sym (go old.text))
  where
    go : (x : Option (List ℕ)) → grown x [] ≡ x
    go None = refl
    go (Some t) = ap Some (append-nil t)

pub drilled : (net : NetView) (files : FilesView) (pace : PaceView) (s : Status) (n : ℕ) (h : List (Turn Entry)) (old new : SinkView) → Drills h → GivesAll n h → Prints s n old new → RunsDrill s n (Some h) (world net files pace old) (world net files pace new)
drilled net files pace status.Done n h old new d g p = (d, (p, g))
drilled net files pace status.OutFault n h old new d g p = (d, (p.0, p.1))
drilled net files pace status.NoMemory n h old new d g p = (d, nothing_printed old new n p)
drilled net files pace (status.Usage at) n h old new d g p = absurd p
drilled net files pace status.SendTimedOut n h old new d g p = absurd p
drilled net files pace status.Over n h old new d g p = absurd p
drilled net files pace status.NetFault n h old new d g p = absurd p
drilled net files pace status.FileFault n h old new d g p = absurd p

pub undrilled : (net : NetView) (files : FilesView) (pace : PaceView) (n : ℕ) (h : List (Turn Entry)) (out : SinkView) → Drills h → RunsDrill status.NoMemory n (Some h) (world net files pace out) (world net files pace out)
undrilled net files pace n h out d = (d, nothing_printed out out n refl)

-- a put that failed left a prefix of the lines
pub failed : (old new : SinkView) (n : ℕ) → ((k : ℕ) × (new.text ≡ grown old.text (take k (lines n)))) × (old.faults ≤ new.faults) × Rose old.faults new.faults → Prints status.OutFault n old new
failed old new n (prefix, most, rose) = ((take prefix.0 (lines n), inr ([], lines n, take prefix.0 (lines n), refl, (drop prefix.0 (lines n), sym (take_drop prefix.0 (lines n))), refl), prefix.1), rose)
  where
    take_drop : {A : Type 0} (k : ℕ) (xs : List A) → take k xs ++ drop k xs ≡ xs
    take_drop zero xs = refl
    take_drop (suc k) [] = refl
    take_drop (suc k) (x ∷ xs) = ap (λ (zs : List _). x ∷ zs) (take_drop k xs)
