-- The worked run meets the facts of a run.
use Rattle.std.specs.Prelude.{◌==◌, ⊤, is_some, codes}
use Rattle.std.specs.FinMap.{FinMap, get, insert, empty, get-insert}
use Rattle.std.specs.Ordering.{nat_cmp, eq_by_cmp, is_eq}
use Rattle.std.specs.Cmp.{nat_cmp_total}
use Rattle.std.specs.declared.cmp.Ordering.TheVariants.{Less, Equal, Greater}
use Rattle.std.proofs.lemmas.Bool.{le-ltb, eq-eqb}
use Rattle.std.proofs.Common.{◌≡◌, eqb, refl, ap, sym, ◌∙◌, subst, List, [], ◌∷◌, ℕ, ◌+◌, ◌*◌, ◌≤◌, ◌<◌, Bool, true, false, cond, arith, Some, None, inl}
use Rattle.std.proofs.lemmas.Bool.Decides.{nat_tests}
use Rattle.sp_base.specs.SpTcp.{hello, frame, frames}
use Rattle.sp_base.specs.Outside.{IsPrefix}
use Rattle.sp_base.specs.SpStream.{scheme_under}
use Rattle.sp_base.specs.Wires.{scheme_number}
use Rattle.sp_base.specs.declared.framing.Framing.{Framing}
use Rattle.sp_base.specs.declared.framing.Framing.TheVariants as framings
use Rattle.sp_base.specs.declared.role.Role.TheVariants.{Pull}
use Rattle.sp_history.specs.declared.entry.Why.{Why}
use Rattle.sp_history.specs.declared.entry.Why.TheVariants as whys
use Rattle.sp_history.specs.Past.{past_of, down_for}
use Rattle.cat_play.specs.Playing.{Plays}
use Rattle.sp_links.specs.Ways.{greetings, HasOpened, BeganSo}
use Rattle.sp_ends.specs.LinkRecords.{Records, place_of, met_at, IsBack, IsLimited, IsLinkOf, Carries, WentDownFor}
use Rattle.cat_play.specs.Spending.{Spends, EndsInTime, late_ticks}
use Rattle.sp_ends.specs.LinkCounts.{IsAsked, IsRead, greeting_ticks, idle_turns}
use Rattle.play_rows.specs.Rows.{socket}
use Rattle.play_rows.specs.WholeRows.{whole_record, whole_link, net_before, net_after, whole_play, whole_ends, pace_before, pace_after}

is_zero : (place : ℕ) → place < 1 → place ≡ 0
is_zero place h = omega arith

same_number : (n : ℕ) → eq_by_cmp nat_cmp n n ≡ true
same_number n =
    ap (λ b. is_eq (cond b Less (cond (eqb n n) Equal Greater))) (le-ltb n n (omega arith))
    ∙ ap (λ b. is_eq (cond b Equal Greater)) (eq-eqb n n refl)

at_place : {X : Type 0} (m : FinMap nat_cmp X) (k : ℕ) (v : X) → get (insert m k v) k ≡ Some v
at_place m k v = get-insert nat_cmp_total m k v k ∙ ap (λ b. cond b (Some v) (get m k)) (same_number k)

there : get net_after.back 0 ≡ Some whole_link
there = at_place empty 0 whole_link

pub plays : Plays (socket Pull) whole_play whole_record
plays = record { so_far = record { topics = refl; alternate = refl; verbs = refl; data_ = refl; deadlines = refl; spaced = refl; starts = refl; rounds = refl; collected = refl; swept = refl }; uncancelled = refl }

-- ---- The only pipe and its link

some_is : {A : Type 0} (a b : A) → Some a ≡ Some b → a ≡ b
some_is a b h = cc

one_pipe : (p place : ℕ) → place_of (past_of whole_record) p ≡ Some place → p ≡ 1
one_pipe p place h = go (1 == p) refl h
  where
    go : (b : Bool) → (1 == p) ≡ b → cond b (Some 0) None ≡ Some place → p ≡ 1
    go true e h = grind (arith, nat_tests)
    go false e h = cc

went_down : (why : Why) → down_for (past_of whole_record) 1 ≡ Some why → WentDownFor framings.Tcp (socket Pull) 1048576 (past_of whole_record) 1 why whole_link
went_down why h =
    subst (λ (w : Why). WentDownFor framings.Tcp (socket Pull) 1048576 (past_of whole_record) 1 w whole_link) (some_is whys.Closed why h) tt

carries : Carries framings.Tcp (socket Pull) (past_of whole_record) 1 whole_link
unfolding frame frames
carries = record { came = ([], refl); written = ([], refl) }

-- the link is of TCP
texts : (framing : Framing) → whole_link.scheme ≡ scheme_under framing → Carries framing (socket Pull) (past_of whole_record) 1 whole_link
texts framings.Tcp under = carries
texts framings.Ipc under = absurd (let no : 0 ≡ 3 = ap scheme_number under in omega (arith, no))

reasons : (framing : Framing) → whole_link.scheme ≡ scheme_under framing → (why : Why) → down_for (past_of whole_record) 1 ≡ Some why → WentDownFor framing (socket Pull) 1048576 (past_of whole_record) 1 why whole_link
reasons framings.Tcp under = went_down
reasons framings.Ipc under = absurd (let no : 0 ≡ 3 = ap scheme_number under in omega (arith, no))

link_of : IsLinkOf (socket Pull) 1048576 (past_of whole_record) 1 whole_link
link_of = record { texts = texts; went_down = reasons }

owes : (owed : List ℕ) → owed ≡ hello 81 → IsPrefix owed (hello 81)
owes owed e = subst (λ (o : List ℕ). IsPrefix o (hello 81)) (sym e) ([], refl)

pub stands : Records (greetings Pull) (socket Pull) (1048576 ∷ []) 0 1 net_after.back whole_record
stands =
    record {
      places = refl;
      few = omega arith;
      met = λ place a b. subst (λ (q : ℕ). is_some (met_at (past_of whole_record) q) ≡ true) (sym (is_zero place b)) refl;
      given_back = λ place a b. subst (λ (q : ℕ). IsBack net_after.back q (λ link. (link.place ≡ q) × (link.is_open ≡ false))) (sym (is_zero place b)) (whole_link, there, (refl, refl));
      missed = (tt, (tt, (tt, (tt, (tt, (tt, (tt, (tt, (tt, (tt, (tt, (tt, (tt, (tt, (tt, (tt, (tt, tt)))))))))))))))));
      left_ = λ place h. elim (never h) [ ];
      came_up = λ p place e n b. came_up (is_zero place b) (one_pipe p place e);
      lanes = refl;
      due = refl;
    }
  where
    never : false ≡ true → ⊥
    never h = subst (λ (b : Bool). cond b ⊥ ⊤) h tt

    came_up : {p place : ℕ} → place ≡ 0 → p ≡ 1 → IsBack net_after.back place (λ link. BeganSo (greetings Pull) link (λ way. HasOpened (greetings Pull) way link) × IsLimited (1048576 ∷ []) (past_of whole_record) p (λ max. IsLinkOf (socket Pull) max (past_of whole_record) p link))
    came_up {p} {place} e f =
        subst (λ (q : ℕ). IsBack net_after.back q (λ link. BeganSo (greetings Pull) link (λ way. HasOpened (greetings Pull) way link) × IsLimited (1048576 ∷ []) (past_of whole_record) p (λ max. IsLinkOf (socket Pull) max (past_of whole_record) p link))) (sym e) (subst (λ (q : ℕ). IsBack net_after.back 0 (λ link. BeganSo (greetings Pull) link (λ way. HasOpened (greetings Pull) way link) × IsLimited (1048576 ∷ []) (past_of whole_record) q (λ max. IsLinkOf (socket Pull) max (past_of whole_record) q link))) (sym f) (whole_link, there, ((tt, refl, ((frame (codes "hello"), refl), owes)), (1048576, refl, inl refl, link_of))))

-- ---- What the rounds were spent on

no_greeting : greeting_ticks (past_of whole_record) 0 ≡ 0
no_greeting = refl

two_idle : idle_turns whole_record 1 ≡ 2
two_idle = refl

one_late : late_ticks (socket Pull) whole_play (past_of whole_record) ≡ 1
one_late = refl

pub spent : Spends whole_ends whole_record net_before net_after pace_before pace_after
spent =
    record {
      turns = refl;
      greetings = λ place a b. subst (λ (q : ℕ). IsBack net_after.back q (IsAsked (past_of whole_record) q)) (sym (is_zero place b)) (whole_link, there, λ i s. rw no_greeting (omega arith));
      pipes = λ p place e n b. pipes (is_zero place b) (one_pipe p place e);
      ends = record { idles = omega arith; faults = omega arith; opened = omega arith; rose = λ i f tried t. (let it : 2 + 0 * tried ≤ 4 = omega arith in it) };
    }
  where
    pipes : {p place : ℕ} → place ≡ 0 → p ≡ 1 → IsBack net_after.back place (IsRead whole_record p)
    pipes {p} {place} e f =
        subst (λ (q : ℕ). IsBack net_after.back q (IsRead whole_record p)) (sym e) (subst (λ (q : ℕ). IsBack net_after.back 0 (IsRead whole_record q)) (sym f) (whole_link, there, λ i. rw two_idle (omega arith)))

pub late : EndsInTime false (socket Pull) whole_play whole_record net_before net_after
late f = rw one_late (omega arith)
