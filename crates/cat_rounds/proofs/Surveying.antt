-- A surveyor knows from its last send and the time whether its survey is live.
use Rattle.std.proofs.Common.{◌≡◌, refl, ap, sym, ◌∙◌, subst, List, [], ◌∷◌, ◌++◌, ℕ, ◌+◌, ◌≤◌, Bool, true, false, arith, Some, None, Option}
use Rattle.std.specs.Prelude.{drop, map, max, if◌then◌else◌, not, ◌&&◌, ◌==◌, IsTrue, filter, find, is_some, nat_le, ⊤}
use Rattle.std.proofs.lemmas.Bool.Decides.{nat_tests}
use Rattle.sp_base.specs.declared.role.Role.{Role}
use Rattle.sp_base.specs.declared.role.Role.TheVariants as roles
use Rattle.sp_history.specs.declared.entry.RecordedAct.TheVariants.{Recv, Send}
use Rattle.sp_history.specs.declared.entry.Completion.TheVariants.{Received, Sent}
use Rattle.sp_history.specs.declared.entry.Ending.{Ending}
use Rattle.sp_history.specs.declared.entry.Ending.TheVariants.{Won, Gone}
use Rattle.sp_history.specs.declared.entry.Entry.{Entry}
use Rattle.sp_history.specs.declared.entry.Entry.TheVariants.{Begin, End, Frame, Out, Unkept, Tick, Ctx, Close}
use Rattle.sp_history.specs.declared.parts.Begun.{Begun}
use Rattle.sp_history.specs.declared.parts.LiveRequest.{LiveRequest}
use Rattle.sp_history.specs.declared.parts.Requests.{Requests}
use Rattle.sp_history.specs.declared.parts.How.TheVariants as how
use Rattle.sp_history.specs.declared.setting.Setting.{Setting}
use Rattle.sp_history.specs.Changes.{none_of}
use Rattle.sp_history.specs.Lists.{has, same_bytes}
use Rattle.sp_history.specs.Setting.{is_req, is_asker, has_requests}
use Rattle.sp_history.specs.Frames.{malformed, plain_item}
use Rattle.sp_history.specs.Legal.{AreAllowed, Legal, state_for}
use Rattle.sp_history.specs.Found.{moves_surveys}
use Rattle.sp_history.specs.Past.{onto, pend, pending, now, is_closed, without_begun, past_of}
use Rattle.sp_history.specs.Requests.{is_on, is_for, has_room, wire_of, with_out, with_frame, with_taken, after_end, after_moment, over_at, is_over, end_on, of_live, next_id, asked, live_on, no_requests}
use Rattle.sp_history.proofs.Surveys.{survey_stays}
use Rattle.cat_play.specs.Plans.{Play}
use Rattle.cat_play.specs.Scripts.{asks_anew, last_send, last_result, receives_next, is_receive_next, counts_for}
use Rattle.sp_ends.specs.Entries.{each}
use Rattle.cat_play.specs.Playing.{keeps_topics, alternates, is_surveyor}
use Rattle.sp_ends.specs.Entries.{moves_calls}
use Rattle.cat_play.proofs.Stepping.{open_is}
use Rattle.sp_history.proofs.Backing.{legal_allowed}
use Rattle.turn_lock.specs.declared.turn.Turn.{Turn}
use Rattle.sp_socket.specs.Singles.{SingleView}
use Rattle.cat_rounds.specs.declared.player.Player.{Player}
use Rattle.cat_rounds.specs.Lasting.{play_of, PlayStands, IsLast, HasSurveys, is_survey_over}
use Rattle.cat_rounds.specs.PlayerSteps.{Stands}

-- ---- The table asks only for the survey of a surveyor

pub next_by_last : (role : Role) → is_surveyor role ≡ false → (b r s : Bool) (last : Option Ending) → receives_next role b r last ≡ receives_next role b s last
next_by_last roles.Surveyor h b r s last = cc
next_by_last _ h b r s last = refl

pub counts_by_last : (role : Role) → is_surveyor role ≡ false → (b r s : Bool) (last : Option Ending) → counts_for role b r last ≡ counts_for role b s last
counts_by_last roles.Surveyor h b r s last = cc
counts_by_last _ h b r s last = refl

-- the result about the survey, which is the same where it is a surveyor's, leaves the table unchanged
abbrev pub SameSurvey : Role → Bool → Bool → Type 0
SameSurvey role r s = is_surveyor role ≡ true → r ≡ s

pub next_same : (role : Role) (b r s : Bool) (last : Option Ending) → SameSurvey role r s → receives_next role b r last ≡ receives_next role b s last
next_same role b r s last same = go (is_surveyor role) refl
  where
    go : (x : Bool) → is_surveyor role ≡ x → receives_next role b r last ≡ receives_next role b s last
    go true e = ap (λ y. receives_next role b y last) (same e)
    go false e = next_by_last role e b r s last

pub counts_same : (role : Role) (b r s : Bool) (last : Option Ending) → SameSurvey role r s → counts_for role b r last ≡ counts_for role b s last
counts_same role b r s last same = go (is_surveyor role) refl
  where
    go : (x : Bool) → is_surveyor role ≡ x → counts_for role b r last ≡ counts_for role b s last
    go true e = ap (λ y. counts_for role b y last) (same e)
    go false e = counts_by_last role e b r s last

-- ---- Entries that leave a survey unchanged

cooked_asks : (raw a b : Bool) → (raw ≡ false → a ≡ b) → (not a && not raw) ≡ (not b && not raw)
cooked_asks false a b same = ap (λ x. not x && true) (same refl)
cooked_asks true a b same = none (not a) (not b)
  where
    none : (x y : Bool) → (x && false) ≡ (y && false)
    none true true = refl
    none true false = refl
    none false true = refl
    none false false = refl

asks_of : (role : Role) → is_surveyor role ≡ true → (z : Setting) (past more : List Entry) → (z.raw ≡ false → is_some (live_on z more 0) ≡ is_some (live_on z past 0)) → (state_for role z more 0 Recv && not z.raw) ≡ (state_for role z past 0 Recv && not z.raw)
asks_of roles.Surveyor s z past more same = cooked_asks z.raw (is_some (live_on z more 0)) (is_some (live_on z past 0)) same
asks_of _ s z past more same = cc

asks : (role : Role) → is_surveyor role ≡ true → is_asker role ≡ true
asks roles.Surveyor s = refl
asks _ s = cc

no_req : (role : Role) → is_surveyor role ≡ true → is_req role ≡ false
no_req roles.Surveyor s = refl
no_req _ s = cc

both : (a b : Bool) → a ≡ true → b ≡ false → (a && not b) ≡ true
both a b e f = rw (e, f) refl

pub asks_stay : (z : Setting) (entries past : List Entry) → is_surveyor z.role ≡ true → none_of moves_surveys entries ≡ true → asks_anew z (onto entries past) ≡ asks_anew z past
asks_stay z entries past s none =
    asks_of z.role s z past (onto entries past) (λ cooked. survey_stays z (both (is_asker z.role) z.raw (asks z.role s) cooked) (no_req z.role s) 0 entries past none)

silent_entry : (e : Entry) → moves_calls e ≡ false → moves_surveys e ≡ false
silent_entry (Begin op k c act d) h = cc
silent_entry (Tick t due) h = cc
silent_entry (Ctx c gate) h = cc
silent_entry (Close totals) h = cc
silent_entry _ h = refl

pub silent_surveys : (entries : List Entry) → none_of moves_calls entries ≡ true → none_of moves_surveys entries ≡ true
silent_surveys [] h = refl
silent_surveys (e ∷ es) h = go (moves_calls e) refl h (silent_surveys es)
  where
    go : (b : Bool) → moves_calls e ≡ b → (not b && none_of moves_calls es) ≡ true → (none_of moves_calls es ≡ true → none_of moves_surveys es ≡ true) → none_of moves_surveys (e ∷ es) ≡ true
    go true is k rest = cc
    go false is k rest = rw (silent_entry e is) (rest k)

-- silent entries leave the next call
pub next_stays : (z : Setting) (play : Play) (entries past : List Entry) → z.role ≡ play.role → none_of moves_calls entries ≡ true → last_result (onto entries past) ≡ last_result past → is_receive_next z play (onto entries past) ≡ is_receive_next z play past
next_stays z play entries past role none same =
    ap (λ last. receives_next play.role (is_some play.body) (asks_anew z (onto entries past)) last) same
    ∙ next_same play.role (is_some play.body) (asks_anew z (onto entries past)) (asks_anew z past) (last_result past) (λ s. asks_stay z entries past (ap is_surveyor role ∙ s) (silent_surveys entries none))

-- ---- The survey that is live

-- there is none, or one on context 0 that began at this moment
abbrev IsShape : Option ℕ → List LiveRequest → Type 0
IsShape None [] = ⊤
IsShape None (r ∷ rs) = ⊥
IsShape (Some since) [] = ⊥
IsShape (Some since) (r ∷ []) = (r.ctx ≡ 0) × (r.birth ≡ since)
IsShape (Some since) (r ∷ x ∷ rs) = ⊥

-- the moment of the last send, until its time has passed
abbrev alive : Option ℕ → ℕ → Option ℕ
alive None t = None
alive (Some since) t = if nat_le (since + 1000) t then None else Some since

-- a change that leaves context and birth unchanged
shape_map : (f : LiveRequest → LiveRequest) → ((r : LiveRequest) → (f r).ctx ≡ r.ctx) → ((r : LiveRequest) → (f r).birth ≡ r.birth) → (o : Option ℕ) (rs : List LiveRequest) → IsShape o rs → IsShape o (map f rs)
shape_map f c b None [] s = s
shape_map f c b None (r ∷ rs) s = s
shape_map f c b (Some since) [] s = s
shape_map f c b (Some since) (r ∷ []) s = (c r ∙ s.0, b r ∙ s.1)
shape_map f c b (Some since) (r ∷ x ∷ rs) s = s

-- the survey of context 0 ends
shape_ends : (o : Option ℕ) (rs : List LiveRequest) → IsShape o rs → filter (λ (r : LiveRequest). not (has (0 ∷ []) r.ctx)) rs ≡ []
shape_ends None [] s = refl
shape_ends None (r ∷ rs) s = elim s [ ]
shape_ends (Some since) [] s = elim s [ ]
shape_ends (Some since) (r ∷ []) s = rw s.0 refl
shape_ends (Some since) (r ∷ x ∷ rs) s = elim s [ ]

either : (b : Bool) (r : LiveRequest) → (P : LiveRequest → Type 0) → (f g : LiveRequest) → P f → P g → P (if b then f else g)
either true r P f g x y = x
either false r P f g x y = y

pub out_ctx : (t p : ℕ) (b : List ℕ) (r : LiveRequest) → (with_out t p b r).ctx ≡ r.ctx
out_ctx t p b r = either (same_bytes b (wire_of r)) r (λ (x : LiveRequest). x.ctx ≡ r.ctx) (record r { last_out = Some (record { pipe = p; when = t }) }) r refl refl

out_birth : (t p : ℕ) (b : List ℕ) (r : LiveRequest) → (with_out t p b r).birth ≡ r.birth
out_birth t p b r = either (same_bytes b (wire_of r)) r (λ (x : LiveRequest). x.birth ≡ r.birth) (record r { last_out = Some (record { pipe = p; when = t }) }) r refl refl

pub frame_ctx : (z : Setting) (past : List Entry) (p : ℕ) (b : List ℕ) (r : LiveRequest) → (with_frame z past p b r).ctx ≡ r.ctx
frame_ctx z past p b r =
    either (not (malformed z past p b) && is_for b r && has_room z r) r (λ (x : LiveRequest). x.ctx ≡ r.ctx) (record r { replies = r.replies ++ plain_item p (drop 4 b) ∷ [] }) r refl refl

frame_birth : (z : Setting) (past : List Entry) (p : ℕ) (b : List ℕ) (r : LiveRequest) → (with_frame z past p b r).birth ≡ r.birth
frame_birth z past p b r =
    either (not (malformed z past p b) && is_for b r && has_room z r) r (λ (x : LiveRequest). x.birth ≡ r.birth) (record r { replies = r.replies ++ plain_item p (drop 4 b) ∷ [] }) r refl refl

taken_ctx : (c : ℕ) (r : LiveRequest) → (with_taken c r).ctx ≡ r.ctx
taken_ctx c r = either (is_on c r) r (λ (x : LiveRequest). x.ctx ≡ r.ctx) (record r { replies = drop 1 r.replies }) r refl refl

taken_birth : (c : ℕ) (r : LiveRequest) → (with_taken c r).birth ≡ r.birth
taken_birth c r = either (is_on c r) r (λ (x : LiveRequest). x.birth ≡ r.birth) (record r { replies = drop 1 r.replies }) r refl refl

shape_end : (z : Setting) → is_req z.role ≡ false → (ending : Ending) (s : Option Begun) (ss : List Begun) (rs : Requests) (o : Option ℕ) → IsShape o rs.live → IsShape o (after_end z ending s ss rs).live
shape_end z other ending None ss rs o h = h
shape_end z other (Won Sent) (Some s) ss rs o h = h
shape_end z other (Won (Received m)) (Some s) ss rs o h =
    rw other (shape_map (with_taken s.ctx) (taken_ctx s.ctx) (taken_birth s.ctx) o rs.live h)
shape_end z other (Gone cause by) (Some s) ss rs o h = rw other h

-- time passes
shape_ticks : (z : Setting) → is_req z.role ≡ false → z.options.survey ≡ 1000 → (since : Option ℕ) (t n : ℕ) (ss : List Begun) (rs : Requests) → t ≤ n → IsShape (alive since t) rs.live → IsShape (alive since n) (after_moment z n ss rs).live
unfolding after_moment
shape_ticks z other time None t n ss rs later h = rw other (none rs.live h)
  where
    none : (xs : List LiveRequest) → IsShape None xs → IsShape None (filter (λ (r : LiveRequest). not (has (over_at z n rs) r.ctx)) xs)
    none [] h = tt
    none (x ∷ xs) h = elim h [ ]
shape_ticks z other time (Some since) t n ss rs later h = rw other (go (nat_le (since + 1000) t) refl (nat_le (since + 1000) n) refl rs.live refl h)
  where
    go : (a : Bool) → nat_le (since + 1000) t ≡ a → (b : Bool) → nat_le (since + 1000) n ≡ b → (xs : List LiveRequest) → rs.live ≡ xs → IsShape (if a then None else Some since) xs → IsShape (if b then None else Some since) (filter (λ (r : LiveRequest). not (has (map (λ (r : LiveRequest). r.ctx) (filter (is_over z n) rs.live)) r.ctx)) xs)
    go true e true k [] is h = tt
    go true e false k xs is h = (let bad : ⊥ = clash e k in elim bad [ ])
      where
        clash : nat_le (since + 1000) t ≡ true → nat_le (since + 1000) n ≡ false → ⊥
        clash e k = grind (arith, nat_tests)
    go true e true k (x ∷ xs) is h = elim h [ ]
    go false e b k [] is h = elim h [ ]
    go false e true k (x ∷ []) is h =
        let over : is_over z n x ≡ true = rw (time, h.1) k in
        let all : map (λ (r : LiveRequest). r.ctx) (filter (is_over z n) rs.live) ≡ x.ctx ∷ [] = rw (is, over) refl in
        rw (all, h.0) tt
    go false e false k (x ∷ []) is h =
        let open_ : is_over z n x ≡ false = rw (time, h.1) k in
        let all : map (λ (r : LiveRequest). r.ctx) (filter (is_over z n) rs.live) ≡ [] = rw (is, open_) refl in
        rw all h
    go false e b k (x ∷ y ∷ xs) is h = elim h [ ]

pub left_true : (a b : Bool) → (a && b) ≡ true → a ≡ true
left_true true b h = refl
left_true false b h = cc

pub right_true : (a b : Bool) → (a && b) ≡ true → b ≡ true
right_true true b h = h
right_true false b h = cc

pub same_zero : (c : ℕ) → (c == 0) ≡ true → c ≡ 0
same_zero c h = grind (arith, nat_tests)

not_yet : (n : ℕ) → nat_le (n + 1000) n ≡ false
not_yet n = grind (arith, nat_tests)

-- a survey on context 0, begun now
abbrev begun : ℕ → ℕ → List ℕ → ℕ → LiveRequest
begun c id body n = record { ctx = c; id = id; body = body; birth = n; last_out = None; replies = [] }

begun_shape : (c n id : ℕ) (body : List ℕ) (o : Option ℕ) (rs : List LiveRequest) → c ≡ 0 → IsShape o rs → IsShape (alive (Some n) n) (filter (λ (r : LiveRequest). not (has (c ∷ []) r.ctx)) rs ++ begun c id body n ∷ [])
begun_shape c n id body o rs zero s =
    subst (λ (k : ℕ). IsShape (alive (Some n) n) (filter (λ (r : LiveRequest). not (has (k ∷ []) r.ctx)) rs ++ begun k id body n ∷ [])) (sym zero) (subst (λ (xs : List LiveRequest). IsShape (alive (Some n) n) (xs ++ begun 0 id body n ∷ [])) (sym (shape_ends o rs s)) (subst (λ (b : Bool). IsShape (if b then None else Some n) (begun 0 id body n ∷ [])) (sym (not_yet n)) (refl, refl)))

pub never : {A : Type 0} → false ≡ true → A
never e = cc

-- what is known of a past of the play
pub record Plain (z : Setting) (play : Play) (past : List Entry) : Type 0 where
  pub open_ : is_closed past ≡ false
  pub topics : IsTrue (each (keeps_topics play) past)
  pub orders : IsTrue (each alternates past)
  pub allowed : AreAllowed z past

open_before : (e : Entry) (past : List Entry) → is_closed (e ∷ past) ≡ false → is_closed past ≡ false
open_before (Close totals) past h = cc
open_before _ past h = h

pub before : (z : Setting) (play : Play) (e : Entry) (past : List Entry) → Plain z play (e ∷ past) → Plain z play past
before z play e past p =
    record {
      open_ = open_before e past p.open_;
      topics = right_true (keeps_topics play past e) (each (keeps_topics play) past) p.topics;
      orders = right_true (alternates past e) (each alternates past) p.orders;
      allowed = p.allowed.1;
    }

shape : (z : Setting) → is_req z.role ≡ false → z.options.survey ≡ 1000 → (play : Play) (past : List Entry) → Plain z play past → IsShape (alive (last_send past) (now past)) (asked z past).live
shape z other time play [] p = tt
shape z other time play (Begin op k c (Send m) d ∷ past) p =
    let was = shape z other time play past (before z play (Begin op k c (Send m) d) past p) in
    let zero : c ≡ 0 = same_zero c (right_true _ _ (left_true _ _ p.orders)) in
    begun_shape c (now past) (next_id z (end_on (c ∷ []) how.Replaced (pend past) (asked z past))) m.body (alive (last_send past) (now past)) (asked z past).live zero was
shape z other time play (Tick t due ∷ past) p =
    let was = shape z other time play past (before z play (Tick t due) past p) in
    let later : now past ≤ t = p.allowed.0.1.itself.0 in
    let is : max (now past) t ≡ t = omega (arith, later) in
    subst (λ (n : ℕ). IsShape (alive (last_send past) n) (after_moment z t (pend past) (asked z past)).live) (sym is) (shape_ticks z other time (last_send past) (now past) t (pend past) (asked z past) later was)
shape z other time play (Ctx c gate ∷ past) p = never p.topics
shape z other time play (Close totals ∷ past) p = never (sym p.open_)
shape z other time play (End op ending ∷ past) p =
    shape_end z other ending (of_live (asked z past) (pending past op)) (without_begun (pend past) op) (asked z past) (alive (last_send past) (now past)) (shape z other time play past (before z play (End op ending) past p))
shape z other time play (Out q b ∷ past) p =
    shape_map (with_out (now past) q b) (out_ctx (now past) q b) (out_birth (now past) q b) (alive (last_send past) (now past)) (asked z past).live (shape z other time play past (before z play (Out q b) past p))
shape z other time play (Frame q b ∷ past) p =
    shape_map (with_frame z past q b) (frame_ctx z past q b) (frame_birth z past q b) (alive (last_send past) (now past)) (asked z past).live (shape z other time play past (before z play (Frame q b) past p))
shape z other time play (Unkept q ∷ Frame r b ∷ past) p =
    shape z other time play past (before z play (Frame r b) past (before z play (Unkept q) (Frame r b ∷ past) p))
shape z other time play (e ∷ past) p = shape z other time play past (before z play e past p)

found : (o : Option ℕ) (rs : List LiveRequest) → IsShape o rs → is_some (find (is_on 0) rs) ≡ is_some o
found None [] s = refl
found None (r ∷ rs) s = elim s [ ]
found (Some since) [] s = elim s [ ]
found (Some since) (r ∷ []) s = rw s.0 refl
found (Some since) (r ∷ x ∷ rs) s = elim s [ ]

not_alive : (o : Option ℕ) (t : ℕ) → not (is_some (alive o t)) ≡ is_survey_over o t
not_alive None t = refl
not_alive (Some since) t = go (nat_le (since + 1000) t)
  where
    go : (b : Bool) → not (is_some (if b then None else Some since)) ≡ b
    go true = refl
    go false = refl

asks_live : (role : Role) → is_surveyor role ≡ true → (z : Setting) (past : List Entry) → z.raw ≡ false → (state_for role z past 0 Recv && not z.raw) ≡ not (is_some (live_on z past 0))
asks_live roles.Surveyor s z past cooked = ap (λ b. not (is_some (live_on z past 0)) && not b) cooked ∙ last (not (is_some (live_on z past 0)))
  where
    last : (a : Bool) → (a && true) ≡ a
    last true = refl
    last false = refl
asks_live _ s z past cooked = cc

live_found : (z : Setting) (past : List Entry) (o : Option ℕ) → has_requests z ≡ true → IsShape o (asked z past).live → is_some (live_on z past 0) ≡ is_some o
live_found z past o yes_ s = subst (λ (b : Bool). is_some (find (is_on 0) (if b then asked z past else no_requests).live) ≡ is_some o) (sym yes_) (found o (asked z past).live s)

-- no survey is live exactly where none was begun or the time of the last one has passed
survey_is : (z : Setting) (play : Play) (past : List Entry) → HasSurveys z → is_surveyor z.role ≡ true → Plain z play past → asks_anew z past ≡ is_survey_over (last_send past) (now past)
survey_is z play past has_ s p =
    asks_live z.role s z past has_.cooked
    ∙ ap not (live_found z past (alive (last_send past) (now past)) (both (is_asker z.role) z.raw (asks z.role s) has_.cooked) (shape z (no_req z.role s) has_.time play past p))
    ∙ not_alive (last_send past) (now past)

-- ---- So the player knows

pub plain_past : (z : Setting) (h : List (Turn Entry)) (p : Player) → Legal z h → PlayStands z h p → Plain z (play_of p.script) (past_of h)
plain_past z h p legal stands =
    record {
      open_ = stands.is_open;
      topics = subst (λ (past : List Entry). IsTrue (each (keeps_topics (play_of p.script)) past)) (open_is (past_of h) stands.is_open) stands.so_far.topics;
      orders = subst (λ (past : List Entry). IsTrue (each alternates past)) (open_is (past_of h) stands.is_open) stands.so_far.alternate;
      allowed = legal_allowed z h legal;
    }

pub over_is : (s : SingleView) (p : Player) (t : ℕ) → Stands s p t → SameSurvey p.script.role (is_survey_over p.last_send t) (asks_anew s.setting (past_of s.seen))
over_is s p t was surveyor =
    sym (survey_is s.setting (play_of p.script) (past_of s.seen) was.play.surveys (ap is_surveyor was.play.role ∙ surveyor) (plain_past s.setting s.seen p was.sound.legal was.play) ∙ ap (λ l. is_survey_over l (now (past_of s.seen))) was.play.sent ∙ ap (is_survey_over p.last_send) (sym was.now_is))

-- the next call
pub next_is : (s : SingleView) (p : Player) (t : ℕ) (result : Bool) → Stands s p t → ((r : Option Ending) → IsLast p.last r → result ≡ receives_next p.script.role (is_some p.script.body) (is_survey_over p.last_send t) r)
    → result ≡ is_receive_next s.setting (play_of p.script) (past_of s.seen)
next_is s p t result was table =
    table (last_result (past_of s.seen)) was.play.last ∙ next_same p.script.role (is_some p.script.body) (is_survey_over p.last_send t) (asks_anew s.setting (past_of s.seen)) (last_result (past_of s.seen)) (over_is s p t was)

pub next_found : (s : SingleView) (p : Player) (t : ℕ) (has_data over result : Bool) → Stands s p t → has_data ≡ is_some p.script.body → over ≡ is_survey_over p.last_send t → ((r : Option Ending) → IsLast p.last r → result ≡ receives_next p.script.role has_data over r)
    → result ≡ is_receive_next s.setting (play_of p.script) (past_of s.seen)
next_found s p t has_data over result was data_ survey table =
    next_is s p t result was (λ r is. table r is ∙ ap (λ d. receives_next p.script.role d over r) data_ ∙ ap (λ o. receives_next p.script.role (is_some p.script.body) o r) survey)

-- before its first send a surveyor receives nothing
pub first_asks : (z : Setting) (play : Play) (past : List Entry) → z.role ≡ play.role → HasSurveys z → is_surveyor play.role ≡ true → Plain z play past → last_send past ≡ None → is_receive_next z play past ≡ false
first_asks z play past role has_ s plain none =
    next_same play.role (is_some play.body) (asks_anew z past) true (last_result past) (λ e. survey_is z play past has_ (ap is_surveyor role ∙ s) plain ∙ ap (λ o. is_survey_over o (now past)) none) ∙ sends play.role s
  where
    sends : (role : Role) → is_surveyor role ≡ true → receives_next role (is_some play.body) true (last_result past) ≡ false
    sends roles.Surveyor e = refl
    sends _ e = cc
