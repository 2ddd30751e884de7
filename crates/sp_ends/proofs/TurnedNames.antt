-- What a whole turn does to the names.
use Rattle.std.proofs.Common.{◌≡◌, refl, ap, sym, ◌∙◌, subst, List, [], ◌∷◌, ℕ, ◌+◌, ◌*◌, ◌≤◌, Bool, true, false, arith, length, Option, Some, None, inl, inr, eq-eqb, eqb-true}
use Rattle.std.specs.Prelude.{◌==◌, ◌⊎◌, ⊤}
use Rattle.turn_lock.specs.declared.turn.Turn.{Turn}
use Rattle.sp_base.specs.declared.role.Role.{Role}
use Rattle.sp_history.specs.declared.entry.Entry.{Entry}
use Rattle.sp_history.specs.declared.entry.Entry.TheVariants.{Up, Down, Taken}
use Rattle.sp_history.specs.declared.setting.Setting.{Setting}
use Rattle.sp_history.specs.Lists.{has, head_of}
use Rattle.sp_history.specs.Legal.{AreAllowed}
use Rattle.sp_history.specs.Past.{onto, past_from, past_of, ups, untaken}
use Rattle.sp_history.proofs.Backing.{legal_allowed}
use Rattle.sp_core.specs.Standing.{HasFirst}
use Rattle.sp_socket.specs.Singles.{SingleView, TookOne, IsSound}
use Rattle.sp_lane.specs.Registry.{Registry}
use Rattle.sp_ends.specs.LinkRecords.{lane_place}
use Rattle.sp_ends.specs.Entries.{moves_ends}
use Rattle.sp_ends.specs.DialMoments.{moment, IsDueAt}
use Rattle.sp_ends.specs.SocketSteps.{Quietly, NoLane}
use Rattle.sp_ends.specs.NameSteps.{IsDueNameDialer, IsFreeNameDialer, IsLostNameDialer, AreLost, DialsIfDue, DialsDue, CallsOne, CallsAll, Accepting, GoesOn, AllBring}
use Rattle.sp_ends.specs.NameTurns.{IsGone, TookPipe, TakesCaller, TakesCallers, TurnsCaller, TurnsCallers, TurnsLanes}
use Rattle.sp_ends.specs.declared.name_dialer.NameDialer.{NameDialer}
use Rattle.std.proofs.lemmas.Bool.{ne_eqb}
use Rattle.sp_ends.proofs.LinkPlaces.{gone}
use Rattle.sp_ends.proofs.Moves.{unequal}
use Rattle.sp_ends.proofs.LaterEntries.{entries_keep, has_other, grown, past_of_more}
use Rattle.sp_ends.proofs.LinksStay.{legal_rest}
use Rattle.sp_ends.proofs.EndsStay.{settles}
use Rattle.sp_ends.proofs.Turns.{after_one}
use Rattle.sp_ends.proofs.TakenAll.{IsOff, untaken_off, off_onto, off_stays}
use Rattle.sp_ends.proofs.NewcomingMoments.{due_moment}
use Rattle.sp_ends.proofs.DialedNames.{past_now}

-- ---- A wire was taken

untaken_on : (p : ℕ) (e : Entry) (past : List Entry) → moves_ends e ≡ false → has (untaken past) p ≡ true → has (untaken (e ∷ past)) p ≡ true
untaken_on p (Taken q) past h x = cc
untaken_on p (Down q why) past h x = grown (untaken past) q p x
untaken_on p _ past h x = x

module _ (says : Setting → List (Turn Entry) → Turn Entry → Type 0) (a b : SingleView) (took : TookOne says a b) (p : ℕ) (first : HasFirst (Taken p) took.turn) (was : has (untaken (past_of a.seen)) p ≡ true) where
  past_taken : past_of b.seen ≡ onto first.late (Taken p ∷ past_of a.seen)
  past_taken = past_now says a b took ∙ ap (λ (es : List Entry). onto es (past_of a.seen)) first.entries

  legal_now : AreAllowed a.setting (onto first.late (Taken p ∷ past_of a.seen))
  legal_now = subst (AreAllowed a.setting) past_taken (subst (λ (z : Setting). AreAllowed z (past_of b.seen)) took.setting (legal_allowed b.setting b.seen took.legal))

  taken_off : IsOff true (onto first.late (Taken p ∷ past_of a.seen)) p
  taken_off =
      let allowed = after_one says a b took (λ z h. AreAllowed a.setting (past_of a.seen)) (λ l. legal_allowed a.setting a.seen (legal_rest a.setting a.seen (took.turn ∷ []) l).0) in
      let x = untaken_off a.setting p (past_of a.seen) allowed was in
      off_onto a.setting p true first.late (Taken p ∷ past_of a.seen) legal_now (x.0, x.1, λ e. gone (untaken (past_of a.seen)) p)

  pub took_pipe : TookPipe p a b
  took_pipe = record {
    gone = let x = subst (λ (past : List Entry). IsOff true past p) (sym past_taken) taken_off in record { numbered = x.0; down = x.1; taken = x.2 refl };
    others = λ q ne on. subst (λ (past : List Entry). has (untaken past) q ≡ true) (sym past_taken) (entries_keep moves_ends (λ (past : List Entry). has (untaken past) q ≡ true) (untaken_on q) first.late (Taken p ∷ past_of a.seen) (settles first.late first.late_settles) (has_other (untaken (past_of a.seen)) p q (ne_eqb p q ne) ∙ on));
  }

-- the first of them is among them
pub taken_first : (us : List ℕ) (p : ℕ) → head_of us ≡ Some p → has us p ≡ true
taken_first [] p e = cc
taken_first (u ∷ us) p e = let same : u ≡ p = cc in rw (eq-eqb u p same) refl

pub gone_stays : (a b : SingleView) (p : ℕ) → Quietly a b → IsSound b → IsGone a p → IsGone b p
gone_stays a b p q sound g = let x = off_stays true a b p q sound (g.numbered, g.down, λ e. g.taken) in record { numbered = x.0; down = x.1; taken = x.2 refl }

-- ---- Name dialers that lose their pipes

-- so far each is the same, and its pipe that was down is still to be taken; or it is free
abbrev pub TakesOne : ℕ → SingleView → SingleView → NameDialer → NameDialer → Type 0
TakesOne now a b c d =
    (d ≡ c) × ((p : ℕ) → c.pipe ≡ Some p → has (untaken (past_of a.seen)) p ≡ true → has (untaken (past_of b.seen)) p ≡ true) ⊎ ((p : ℕ) × (c.pipe ≡ Some p) × IsGone b p × IsFreeNameDialer now c d)

abbrev pub TakesSome : ℕ → SingleView → SingleView → List NameDialer → List NameDialer → Type 0
TakesSome now a b [] [] = ⊤
TakesSome now a b (c ∷ cs) (d ∷ ds) = TakesOne now a b c d × TakesSome now a b cs ds
TakesSome now a b _ _ = ⊥

pub takes_same : (now : ℕ) (a : SingleView) (cs : List NameDialer) → TakesSome now a a cs cs
takes_same now a [] = tt
takes_same now a (c ∷ cs) = (inl (refl, λ p e u. u), takes_same now a cs)

some_number : (p q : ℕ) → Some p ≡ Some q → p ≡ q
some_number p q e = cc

module _ (now : ℕ) (a b c : SingleView) (q : ℕ) (took : TookPipe q b c) (quiet : Quietly b c) (sound : IsSound c) where
  takes_then : (x y w : NameDialer) → TakesOne now a b x y → IsLostNameDialer now q y w → TakesOne now a c x w
  takes_then x y w (inr (p, has_p, g, free)) lost =
      let none : y.pipe ≡ None = ap (λ (k : NameDialer). k.pipe) free in
      inr (p, has_p, gone_stays b c p quiet sound g, lost.others (λ e. let no : Some q ≡ None = sym e ∙ none in cc) ∙ free)
  takes_then x y w (inl (same, u)) lost = go x.pipe refl
    where
      at : y.pipe ≡ x.pipe
      at = ap (λ (k : NameDialer). k.pipe) same

      go : (o : Option ℕ) → x.pipe ≡ o → TakesOne now a c x w
      go None e = inl (lost.others (λ s. let no : Some q ≡ None = sym s ∙ (at ∙ e) in cc) ∙ same, λ p is on. let no : Some p ≡ None = sym is ∙ e in cc)
      go (Some p) e = pick (p == q) refl
        where
          pick : (t : Bool) → (p == q) ≡ t → TakesOne now a c x w
          pick true t = let s : p ≡ q = eqb-true p q t in inr (q, e ∙ ap Some s, took.gone, lost.lost (at ∙ (e ∙ ap Some s)) ∙ ap (λ (k : NameDialer). record k { next = moment (now + 100); pipe = None }) same)
          pick false t =
              let ne : q ≡ p → ⊥ = λ s. unequal p q t (sym s) in
              inl (lost.others (λ s. ne (some_number q p (sym s ∙ (at ∙ e)))) ∙ same, λ r is on. took.others r (λ s. ne (s ∙ some_number r p (sym is ∙ e))) (u r is on))

  pub takes_lost : (xs ys ws : List NameDialer) → TakesSome now a b xs ys → AreLost now q ys ws → TakesSome now a c xs ws
  takes_lost [] [] [] x l = tt
  takes_lost [] [] (w ∷ ws) x l = absurd l
  takes_lost [] (y ∷ ys) ws x l = absurd x
  takes_lost (x ∷ xs) [] ws t l = absurd t
  takes_lost (x ∷ xs) (y ∷ ys) [] t l = absurd l
  takes_lost (x ∷ xs) (y ∷ ys) (w ∷ ws) t l = (takes_then x y w t.0 l.0, takes_lost xs ys ws t.1 l.1)

-- none is left to be taken
pub takes_all : (now : ℕ) (a b c : SingleView) → untaken (past_of b.seen) ≡ [] → Quietly b c → IsSound c → (xs ys : List NameDialer) → TakesSome now a b xs ys → TakesCallers now a c xs ys
takes_all now a b c none quiet sound [] [] t = tt
takes_all now a b c none quiet sound [] (y ∷ ys) t = absurd t
takes_all now a b c none quiet sound (x ∷ xs) [] t = absurd t
takes_all now a b c none quiet sound (x ∷ xs) (y ∷ ys) t = (go t.0, takes_all now a b c none quiet sound xs ys t.1)
  where
    go : TakesOne now a b x y → TakesCaller now a c x y
    go (inl (same, u)) = inl (same, λ p is on. let no : false ≡ true = ap (λ (us : List ℕ). has us p) (sym none) ∙ u p is on in cc)
    go (inr (p, is, g, free)) = inr (p, is, gone_stays b c p quiet sound g, free)

-- ---- Names that are dialed

module _ (now : ℕ) (role : Role) where
  -- those that have lost their pipes were not due
  dials_one : (a b : SingleView) (x y w : NameDialer) (c d : SingleView) (r s : Registry) → TakesCaller now a b x y → DialsIfDue now role c d r s y w → DialsIfDue now role c d r s x w
  dials_one a b x y w c d r s (inl (same, u)) one = subst (λ (k : NameDialer). DialsIfDue now role c d r s k w) same one
  dials_one a b x y w c d r s (inr (p, has_p, g, free)) (inl (due, tries)) =
      let l = due_moment (now + 100) now (subst (λ (k : NameDialer). IsDueAt k.next now) free due.1) in absurd (omega (arith, l))
  dials_one a b x y w c d r s (inr (p, has_p, g, free)) (inr (never, e, f)) = inr (λ due. let no : Some p ≡ None = sym has_p ∙ due.0 in cc, e, f)

  pub dials_taken : (a b : SingleView) (xs ys ws : List NameDialer) (c d : SingleView) (r s : Registry) → TakesCallers now a b xs ys → DialsDue now role c d r s ys ws → DialsDue now role c d r s xs ws
  dials_taken a b [] [] [] c d r s t l = l
  dials_taken a b [] [] (w ∷ ws) c d r s t l = absurd l
  dials_taken a b [] (y ∷ ys) ws c d r s t l = absurd t
  dials_taken a b (x ∷ xs) [] ws c d r s t l = absurd t
  dials_taken a b (x ∷ xs) (y ∷ ys) [] c d r s t l = absurd l
  dials_taken a b (x ∷ xs) (y ∷ ys) (w ∷ ws) c d r s t (mid, m, first, l) = (mid, m, dials_one a b x y w c mid r m t.0 first, dials_taken a b xs ys ws mid d m s t.1 l)

-- ---- A whole turn

turns_one : (now : ℕ) (a b c d e : SingleView) (x y w : NameDialer) → GoesOn d e → GoesOn c d → ups (past_of a.seen) ≤ ups (past_of c.seen) → Quietly b c → IsSound c → Quietly c e → IsSound e → TakesCaller now a b x y → CallsOne now c d y w → TurnsCaller now a e x w
turns_one now a b c d e x y w on go more quiet sound quiet' sound' (inl (same, u)) (inl (due, inl free)) = inl (subst (IsDueNameDialer now) same due, inl (free ∙ ap (λ (k : NameDialer). record k { next = moment (now + 100); pipe = None }) same))
turns_one now a b c d e x y w on go more quiet sound quiet' sound' (inl (same, u)) (inl (due, inr (p, lane, is))) =
    inl (subst (IsDueNameDialer now) same due, inr (p, (let l = lane.0 in omega (arith, l, more), on.places p lane_place lane.1), is ∙ ap (λ (k : NameDialer). record k { next = moment (now + 100); pipe = Some p }) same))
turns_one now a b c d e x y w on go more quiet sound quiet' sound' (inl (same, u)) (inr (never, kept)) = inr (λ due. never (subst (IsDueNameDialer now) (sym same) due), inl (kept ∙ same, u))
turns_one now a b c d e x y w on go more quiet sound quiet' sound' (inr (p, has_p, g, free)) (inl (due, called)) =
    let l = due_moment (now + 100) now (subst (λ (k : NameDialer). IsDueAt k.next now) free due.1) in absurd (omega (arith, l))
turns_one now a b c d e x y w on go more quiet sound quiet' sound' (inr (p, has_p, g, free)) (inr (never, kept)) =
    inr (λ due. let no : Some p ≡ None = sym has_p ∙ due.0 in cc, inr (p, has_p, gone_stays c e p quiet' sound' (gone_stays b c p quiet sound g), kept ∙ free))

-- callers lose their pipes, then something else happens, then they dial, and then names are asked
pub turns_callers : (now : ℕ) (a b c d e : SingleView) → GoesOn d e → GoesOn c d → ups (past_of a.seen) ≤ ups (past_of c.seen) → Quietly b c → IsSound c → Quietly c e → IsSound e → (xs ys ws : List NameDialer) → TakesCallers now a b xs ys → CallsAll now c d ys ws → TurnsCallers now a e xs ws
turns_callers now a b c d e on go more quiet sound quiet' sound' [] [] [] t l = tt
turns_callers now a b c d e on go more quiet sound quiet' sound' [] [] (w ∷ ws) t l = absurd l
turns_callers now a b c d e on go more quiet sound quiet' sound' [] (y ∷ ys) ws t l = absurd t
turns_callers now a b c d e on go more quiet sound quiet' sound' (x ∷ xs) [] ws t l = absurd t
turns_callers now a b c d e on go more quiet sound quiet' sound' (x ∷ xs) (y ∷ ys) [] t l = absurd l
turns_callers now a b c d e on go more quiet sound quiet' sound' (x ∷ xs) (y ∷ ys) (w ∷ ws) t l = (turns_one now a b c d e x y w on go more quiet sound quiet' sound' t.0 l.0, turns_callers now a b c d e on go more quiet sound quiet' sound' xs ys ws t.1 l.1)

-- ---- Lanes of a whole turn

one_up : (e : Entry) (past : List Entry) → ups past ≤ ups (e ∷ past)
one_up (Up p place limit name) past = omega arith
one_up _ past = omega arith

ups_onto : (es past : List Entry) → ups past ≤ ups (onto es past)
ups_onto [] past = omega arith
ups_onto (e ∷ es) past = let a = one_up e past in let b = ups_onto es (e ∷ past) in omega (arith, a, b)

ups_from : (turns : List (Turn Entry)) (past : List Entry) → ups past ≤ ups (past_from past turns)
ups_from [] past = omega arith
ups_from (t ∷ turns) past = let a = ups_onto t.entries past in let b = ups_from turns (onto t.entries past) in omega (arith, a, b)

pub quiet_ups : (a b : SingleView) → Quietly a b → ups (past_of a.seen) ≤ ups (past_of b.seen)
quiet_ups a b q =
    let is : past_of b.seen ≡ past_from (past_of a.seen) q.silent.0 = ap past_of q.silent.1 ∙ past_of_more [] a.seen q.silent.0 in
    let e = ap ups is in let g = ups_from q.silent.0 (past_of a.seen) in omega (arith, e, g)

-- links had their turn, then names were dialed, and then asked
pub turns_lanes : (now : ℕ) (role first : Role) (listened : List (List ℕ)) (a b c d e : SingleView) (r s t : Registry) (xs ys ws : List NameDialer) → Quietly a c → NoLane a c → first ≡ role → TakesCallers now a b xs ys → DialsDue now first c d r s ys ws → GoesOn d e → Accepting (16 * length listened) d e s t → AllBring listened s t → TurnsLanes now role listened a e r t xs ws
turns_lanes now role first listened a b c d e r s t xs ys ws q n same takes dials on y brings = record {
  linked = c;
  called = d;
  dialed = s;
  quietly = q;
  no_lane = n;
  dials = dials_taken now role a b xs ys ws c d r s takes (subst (λ (k : Role). DialsDue now k c d r s ys ws) same dials);
  on = on;
  accepting = y;
  brings = brings;
}

-- for as many names
pub accepts_for : (a b : SingleView) (r t : Registry) (ms ns : List (List ℕ)) → ms ≡ ns → Accepting (16 * length ms) a b r t → Accepting (16 * length ns) a b r t
accepts_for a b r t ms ns e x = subst (λ (xs : List (List ℕ)). Accepting (16 * length xs) a b r t) e x

pub bring_for : (r t : Registry) (ms ns : List (List ℕ)) → ms ≡ ns → AllBring ms r t → AllBring ns r t
bring_for r t ms ns e x = subst (λ (xs : List (List ℕ)). AllBring xs r t) e x
