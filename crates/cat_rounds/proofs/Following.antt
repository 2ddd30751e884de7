-- The ends of a plan are added one by one, before the first round.
use Rattle.std.proofs.Common.{◌≡◌, refl, ap, sym, ◌∙◌, subst, List, [], ◌∷◌, ◌++◌, ℕ, zero, suc, get_or, ◌+◌, ◌≤◌, ◌<◌, Bool, true, false, arith, rules, length, take, slice_index_or, Option, None, Some, Ok, Err, inl, inr}
use Rattle.std.specs.Prelude.{◌⊎◌}
use Rattle.std.specs.List.{AllByRecursion}
use Rattle.std.specs.FinMap.{FinMap, get, insert, gets}
use Rattle.std.specs.Ordering.{nat_cmp}
use Rattle.turn_lock.specs.declared.turn.Turn.{Turn}
use Rattle.sp_base.specs.Addresses.{scheme_of, is_linked}
use Rattle.sp_base.specs.declared.role.Role.{Role}
use Rattle.sp_lane.specs.Registry.{Registry, ListenerView, names, IsListed, IsUnlisted, IsNew, AreApart}
use Rattle.sp_base.specs.Outside.{Rose}
use Rattle.sp_history.specs.Found.{ticks}
use Rattle.cat_play.specs.Running.{ListensTwice}
use Rattle.sp_base.specs.Views.{LinkView, NetView, PaceView, SinkView}
use Rattle.sp_base.specs.declared.addr.Scheme.{Scheme}
use Rattle.sp_history.specs.declared.entry.Entry.{Entry}
use Rattle.sp_history.specs.declared.setting.Setting.{Setting}
use Rattle.sp_history.specs.Past.{past_of}
use Rattle.sp_links.specs.Origins.{IsAmong}
use Rattle.sp_ends.specs.declared.dialer.Dialer.{Dialer}
use Rattle.sp_ends.specs.declared.listener.Listener.{Listener}
use Rattle.sp_ends.specs.EndsTurns.{targets_of}
use Rattle.sp_ends.specs.EndViews.{Beginning, EndsView, LinkEndsView, NamesView}
use Rattle.sp_ends.specs.RunLinks.{EndsStand, LinksKept, IsListener, tries_of}
use Rattle.sp_ends.specs.DialMoments.{IsDueAt}
use Rattle.sp_ends.specs.Dialing.{IsDialed}
use Rattle.sp_base.specs.declared.addr.Addr.{Addr}
use Rattle.sp_base.specs.declared.addr.Addr.TheVariants as addrs
use Rattle.sp_socket.specs.Singles.{SingleView}
use Rattle.cat_text.specs.declared.plan.End.{End}
use Rattle.cat_text.specs.declared.plan.End.TheVariants as ends
use Rattle.cat_play.specs.declared.status.Status.{Status}
use Rattle.cat_play.specs.declared.status.Status.TheVariants as status
use Rattle.cat_play.specs.Spending.{listens_of, dials_of}
use Rattle.cat_rounds.specs.declared.player.Player.{Player}
use Rattle.cat_rounds.specs.PlayerSteps.{Sinks}
use Rattle.cat_rounds.specs.RunRounds.{LinksStand, RunStands, WentOrOver, PacedTo, is_dry_at, is_failed_run}
use Rattle.cat_rounds.proofs.Faultless.{run_faultless}
use Rattle.cat_rounds.specs.Parts.{IsRunning}
use Rattle.cat_rounds.proofs.Opened.{links_of, run_of}
use Rattle.cat_rounds.proofs.AllRounds.{run_at}
use Rattle.cat_rounds.specs.Built.{IsEndOf, AddsEnd, EndsFor, Follows, ListensOnce, listen_names}
use Rattle.sp_ends.specs.AddedEnds.{ListensAt, FailsToListen, IsNewDialer, ListensLink, DialsLink}
use Rattle.sp_ends.specs.AddedNames.{ListensName, DialsName}
use Rattle.sp_ends.specs.declared.error.EndError.{EndError}
use Rattle.sp_ends.specs.declared.error.EndError.TheVariants as errors

-- the same links, for a net that differs in nothing that they see
pub links_kept : (z : Setting) (start : Beginning) (h : List (Turn Entry)) (net net' : NetView) → net'.opened ≡ net.opened → net'.back ≡ net.back → LinksKept z start h net → LinksKept z start h net'
links_kept z start h net net' o b k =
    record {
      opened = rw o k.opened;
      few = rw o k.few;
      in_place = rw o k.in_place;
      over_links = k.over_links;
      named = k.named;
      met = rw o k.met;
      somewhere = rw (o, b) k.somewhere;
      missed = rw b k.missed;
      carried = rw b k.carried;
      others = rw (o, b) k.others;
    }

-- ---- One more listener

still_one : (m m' : FinMap nat_cmp Scheme) (at k : ℕ) (s t : Scheme) → get m at ≡ None → m' ≡ insert m at s → get m k ≡ Some t → get m' k ≡ Some t
still_one m m' at k s t fresh is was = grind (gets, rules, is, fresh, was)

listens_now : (m m' : FinMap nat_cmp Scheme) (at : ℕ) (s : Scheme) → m' ≡ insert m at s → get m' at ≡ Some s
listens_now m m' at s is = grind (gets, rules, is)

still_listens : (net net' : NetView) (at : ℕ) (s : Scheme) → get net.listens at ≡ None → net'.listens ≡ insert net.listens at s → (ls : List Listener) → AllByRecursion (IsListener net) ls → AllByRecursion (IsListener net') ls
still_listens net net' at s fresh is [] a = tt
still_listens net net' at s fresh is (l ∷ ls) a =
    (record { listens = still_one net.listens net'.listens at l.at s (scheme_of l.addr) fresh is a.0.listens; linked = a.0.linked }, still_listens net net' at s fresh is ls a.1)

all_more : {A : Type 0} (P : A → Type 0) (xs : List A) (x : A) → AllByRecursion P xs → P x → AllByRecursion P (xs ++ x ∷ [])
all_more P [] x a p = (p, tt)
all_more P (y ∷ ys) x a p = (a.0, all_more P ys x a.1 p)

length_more : {A : Type 0} (xs : List A) (x : A) → length (xs ++ x ∷ []) ≡ length xs + 1
length_more [] x = refl
length_more (y ∷ xs) x = let e = length_more xs x in omega (arith, e)

pub listens_more : {L : Type 0} (seen : L → LinkView) (z : Setting) (start : Beginning) (net net' : NetView) (e e' : LinkEndsView L) (l : Listener) → is_linked l.addr ≡ true → IsAmong l.addr start.origins.listens → IsAmong l.max start.origins.limits → ListensAt l.at (scheme_of l.addr) net net' → e' ≡ record e { listeners = e.listeners ++ l ∷ [] } → length e.listeners + length e.dialers < 64 → EndsStand seen z start [] net e → EndsStand seen z start [] net' e'
listens_more seen z start net net' e e' l linked among limited at is few s =
    subst (λ (x : LinkEndsView _). EndsStand seen z start [] net' x) (sym is) (record {
      role = s.role;
      links = record { kept = links_kept z start [] net net' at.opened at.back s.links.kept; progressing = s.links.progressing };
      asked = record {
        few = (let m = length_more e.listeners l in omega (arith, few, m));
        listens = all_more (IsListener net') e.listeners l (still_listens net net' l.at (scheme_of l.addr) at.fresh at.listens e.listeners s.asked.listens) (record { listens = listens_now net.listens net'.listens l.at (scheme_of l.addr) at.listens; linked = linked });
        dials = rw at.opened s.asked.dials;
        first = rw at.opened s.asked.first;
        idles = omega (arith, at.idles, s.asked.idles);
        faults = omega (arith, at.faults, s.asked.faults);
        rose = λ i f. (let r = s.asked.rose (omega (arith, at.idles, i)) (omega (arith, at.faults, f)) in omega (arith, r, at.idles, at.faults, at.opened));
      };
      of_run = record { listens = all_more (λ (x : Listener). IsAmong x.addr start.origins.listens) e.listeners l s.of_run.listens among; dials = s.of_run.dials; dice = s.of_run.dice; listen_limits = all_more (λ (x : Listener). IsAmong x.max start.origins.limits) e.listeners l s.of_run.listen_limits limited; dial_limits = s.of_run.dial_limits };
    })

-- ---- One more dialer

tries_more : (ds : List Dialer) (d : Dialer) → d.tries ≡ 0 → tries_of (ds ++ d ∷ []) ≡ tries_of ds
tries_more [] d t = omega (arith, t)
tries_more (x ∷ ds) d t = let r = tries_more ds d t in omega (arith, r)

-- it may be dialed at once
at_once : (d : Dialer) → d.next ≡ Some 0 → (t : ℕ) → IsDueAt d.next t
at_once d next t = subst (λ (o : Option ℕ). IsDueAt o t) (sym next) (omega arith)

pub dials_more : {L : Type 0} (seen : L → LinkView) (z : Setting) (start : Beginning) (net : NetView) (e e' : LinkEndsView L) (d : Dialer) (addr : Addr) (max : ℕ) → IsNewDialer addr max d → IsAmong addr start.origins.dials → IsAmong max start.origins.limits → e' ≡ record e { dialers = e.dialers ++ d ∷ [] } → length e.listeners + length e.dialers < 64 → EndsStand seen z start [] net e → EndsStand seen z start [] net e'
dials_more seen z start net e e' d addr max n among limited is few s =
    subst (λ (x : LinkEndsView _). EndsStand seen z start [] net x) (sym is) (record {
      role = s.role;
      links = s.links;
      asked = record {
        few = (let m = length_more e.dialers d in omega (arith, few, m));
        listens = s.asked.listens;
        dials = all_more (IsDialed (net.opened ≡ start.net.opened) []) e.dialers d s.asked.dials (record { dialable = n.dialable; free = λ x. n.place; soon = λ x t le few. at_once d n.next t; next = λ x y z t le few. at_once d n.next t; tries = λ x y. omega arith; begun = λ x. (n.place, n.next); once = λ x. absurd (omega (arith, x)) });
        first = s.asked.first;
        idles = s.asked.idles;
        faults = s.asked.faults;
        rose = λ i f. (let r = s.asked.rose i f in let t = tries_more e.dialers d n.tries in omega (arith, r, t));
      };
      of_run = record { listens = s.of_run.listens; dials = all_more (λ (x : Dialer). IsAmong x.addr start.origins.dials) e.dialers d s.of_run.dials (subst (λ (a : Addr). IsAmong a start.origins.dials) (sym n.addr_is) among); dice = s.of_run.dice; listen_limits = s.of_run.listen_limits; dial_limits = all_more (λ (x : Dialer). IsAmong x.max start.origins.limits) e.dialers d s.of_run.dial_limits (subst (λ (m : ℕ). IsAmong m start.origins.limits) (sym n.max_is) limited) };
    })

-- ---- One more end of the plan

-- 1 where an end listens, or dials, over links
abbrev pub listen_one : End → ℕ
listen_one (ends.Listen (addrs.Tcp host port)) = 1
listen_one (ends.Listen (addrs.Ws host port path)) = 1
listen_one (ends.Listen (addrs.Ipc path)) = 1
listen_one (ends.Listen (addrs.Inproc name)) = 0
listen_one (ends.Dial addr) = 0

abbrev pub dial_one : End → ℕ
dial_one (ends.Listen addr) = 0
dial_one (ends.Dial (addrs.Tcp host port)) = 1
dial_one (ends.Dial (addrs.Ws host port path)) = 1
dial_one (ends.Dial (addrs.Ipc path)) = 1
dial_one (ends.Dial (addrs.Inproc name)) = 0

listen_counts : (x : End) (es : List End) → listens_of (x ∷ es) ≡ listen_one x + listens_of es
listen_counts (ends.Listen (addrs.Tcp host port)) es = omega arith
listen_counts (ends.Listen (addrs.Ws host port path)) es = omega arith
listen_counts (ends.Listen (addrs.Ipc path)) es = omega arith
listen_counts (ends.Listen (addrs.Inproc name)) es = omega arith
listen_counts (ends.Dial addr) es = omega arith

dial_counts : (x : End) (es : List End) → dials_of (x ∷ es) ≡ dial_one x + dials_of es
dial_counts (ends.Listen addr) es = omega arith
dial_counts (ends.Dial (addrs.Tcp host port)) es = omega arith
dial_counts (ends.Dial (addrs.Ws host port path)) es = omega arith
dial_counts (ends.Dial (addrs.Ipc path)) es = omega arith
dial_counts (ends.Dial (addrs.Inproc name)) es = omega arith

listens_next_at : (es : List End) (i : ℕ) (x : End) → i < length es → x ≡ get_or es i x → listens_of (take (suc i) es) ≡ listens_of (take i es) + listen_one x
listens_next_at [] i x l e = absurd (omega (arith, l))
listens_next_at (y ∷ es) zero x l e = let c = listen_counts y [] in subst (λ (w : End). listens_of (y ∷ []) ≡ 0 + listen_one w) (sym e) (omega (arith, c))
listens_next_at (y ∷ es) (suc i) x l e =
    let r = listens_next_at es i x (omega (arith, l)) e in
    let c = listen_counts y (take (suc i) es) in
    let d = listen_counts y (take i es) in
    omega (arith, r, c, d)

pub listens_next : (es : List End) (i : ℕ) (x : End) → i < length es → x ≡ get_or es i x → listens_of (take (i + 1) es) ≡ listens_of (take i es) + listen_one x
listens_next es i x l e = let n : i + 1 ≡ suc i = omega arith in subst (λ (k : ℕ). listens_of (take k es) ≡ listens_of (take i es) + listen_one x) (sym n) (listens_next_at es i x l e)

dials_next_at : (es : List End) (i : ℕ) (x : End) → i < length es → x ≡ get_or es i x → dials_of (take (suc i) es) ≡ dials_of (take i es) + dial_one x
dials_next_at [] i x l e = absurd (omega (arith, l))
dials_next_at (y ∷ es) zero x l e = let c = dial_counts y [] in subst (λ (w : End). dials_of (y ∷ []) ≡ 0 + dial_one w) (sym e) (omega (arith, c))
dials_next_at (y ∷ es) (suc i) x l e =
    let r = dials_next_at es i x (omega (arith, l)) e in
    let c = dial_counts y (take (suc i) es) in
    let d = dial_counts y (take i es) in
    omega (arith, r, c, d)

pub dials_next : (es : List End) (i : ℕ) (x : End) → i < length es → x ≡ get_or es i x → dials_of (take (i + 1) es) ≡ dials_of (take i es) + dial_one x
dials_next es i x l e = let n : i + 1 ≡ suc i = omega arith in subst (λ (k : ℕ). dials_of (take k es) ≡ dials_of (take i es) + dial_one x) (sym n) (dials_next_at es i x l e)

-- the name of an end that listens within the process
abbrev pub name_one : End → List (List ℕ)
name_one (ends.Listen (addrs.Tcp host port)) = []
name_one (ends.Listen (addrs.Ws host port path)) = []
name_one (ends.Listen (addrs.Ipc path)) = []
name_one (ends.Listen (addrs.Inproc name)) = name ∷ []
name_one (ends.Dial addr) = []

append_none : {A : Type 0} (xs : List A) → xs ++ [] ≡ xs
append_none [] = refl
append_none (x ∷ xs) = ap (λ ys. x ∷ ys) (append_none xs)

name_first : (x : End) (es : List End) → listen_names (x ∷ es) ≡ name_one x ++ listen_names es
name_first (ends.Listen (addrs.Tcp host port)) es = refl
name_first (ends.Listen (addrs.Ws host port path)) es = refl
name_first (ends.Listen (addrs.Ipc path)) es = refl
name_first (ends.Listen (addrs.Inproc name)) es = refl
name_first (ends.Dial addr) es = refl

append_three : {A : Type 0} (xs ys zs : List A) → (xs ++ ys) ++ zs ≡ xs ++ (ys ++ zs)
append_three [] ys zs = refl
append_three (x ∷ xs) ys zs = ap (λ r. x ∷ r) (append_three xs ys zs)

names_next_at : (es : List End) (i : ℕ) (x : End) → i < length es → x ≡ get_or es i x → listen_names (take (suc i) es) ≡ listen_names (take i es) ++ name_one x
names_next_at [] i x l e = absurd (omega (arith, l))
names_next_at (y ∷ es) zero x l e =
    subst (λ (w : End). listen_names (y ∷ []) ≡ name_one w) (sym e) (name_first y [] ∙ append_none (name_one y))
names_next_at (y ∷ es) (suc i) x l e =
    name_first y (take (suc i) es) ∙ (ap (λ (r : List (List ℕ)). name_one y ++ r) (names_next_at es i x (omega (arith, l)) e) ∙ (sym (append_three (name_one y) (listen_names (take i es)) (name_one x)) ∙ ap (λ (r : List (List ℕ)). r ++ name_one x) (sym (name_first y (take i es)))))

pub names_next : (es : List End) (i : ℕ) (x : End) → i < length es → x ≡ get_or es i x → listen_names (take (i + 1) es) ≡ listen_names (take i es) ++ name_one x
names_next es i x l e = let n : i + 1 ≡ suc i = omega arith in subst (λ (k : ℕ). listen_names (take k es) ≡ listen_names (take i es) ++ name_one x) (sym n) (names_next_at es i x l e)

names_more : (reg : Registry) (l : ListenerView) → names (reg ++ l ∷ []) ≡ names reg ++ l.name ∷ []
names_more [] l = refl
names_more (x ∷ reg) l = ap (λ (r : List (List ℕ)). x.name ∷ r) (names_more reg l)

-- what an end changes: how the counts and the names grow
pub record GrowsBy {L : Type 0} (net net' : NetView) (reg reg' : Registry) (e e' : EndsView L) (x : End) : Type 0 where
  pub listens : length e'.links.listeners ≡ length e.links.listeners + listen_one x
  pub dials : length e'.links.dialers ≡ length e.links.dialers + dial_one x
  pub opened : net'.opened ≡ net.opened
  pub faults : net.faults ≤ net'.faults
  pub one : listen_one x + dial_one x ≤ 1
  pub names_are : names reg' ≡ names reg ++ name_one x
  pub apart : AreApart (names reg) → AreApart (names reg')

-- ---- No name occurs twice

unlisted_new : (name : List ℕ) (reg : Registry) → IsUnlisted name reg → IsNew name (names reg)
unlisted_new name [] u = tt
unlisted_new name (l ∷ rest) u = ((λ e. u 0 l (omega arith) (sym e)), unlisted_new name rest (λ i d below. u (suc i) d (omega (arith, below))))

new_more : (name other : List ℕ) (all : List (List ℕ)) → IsNew name all → (name ≡ other → ⊥) → IsNew name (all ++ other ∷ [])
new_more name other [] n e = (e, tt)
new_more name other (x ∷ rest) n e = (n.0, new_more name other rest n.1 e)

apart_more : (name : List ℕ) (all : List (List ℕ)) → AreApart all → IsNew name all → AreApart (all ++ name ∷ [])
apart_more name [] a n = (tt, tt)
apart_more name (x ∷ rest) a n = (new_more x name rest a.0 (λ e. n.0 (sym e)), apart_more name rest a.1 n.1)

same_apart : (reg reg' : Registry) → reg' ≡ reg → AreApart (names reg) → AreApart (names reg')
same_apart reg reg' e apart = subst (λ (r : Registry). AreApart (names r)) (sym e) apart

-- ---- What an end changes

same_names : (reg reg' : Registry) → reg' ≡ reg → names reg' ≡ names reg ++ []
same_names reg reg' e = ap names e ∙ sym (append_none (names reg))

same_net : (net net' : NetView) → net' ≡ net → (net'.opened ≡ net.opened) × (net.faults ≤ net'.faults)
same_net net net' e = (ap (λ (m : NetView). m.opened) e, let q = ap (λ (m : NetView). m.faults) e in omega (arith, q))

listened : {L : Type 0} (net net' : NetView) (e e' : LinkEndsView L) (addr : Addr) (max : ℕ) → ListensLink (Ok tt) addr max e e' net net' → (length e'.listeners ≡ length e.listeners + 1) × (length e'.dialers ≡ length e.dialers + 0) × (net'.opened ≡ net.opened) × (net.faults ≤ net'.faults)
listened net net' e e' addr max (l, of, limit, is, at) =
    (ap (λ (w : LinkEndsView _). length w.listeners) is ∙ length_more e.listeners l, ap (λ (w : LinkEndsView _). length w.dialers) is ∙ omega arith, at.opened, at.faults)

dialed : {L : Type 0} (e e' : LinkEndsView L) (addr : Addr) (max : ℕ) → DialsLink (Ok tt) addr max e e' → (length e'.listeners ≡ length e.listeners + 0) × (length e'.dialers ≡ length e.dialers + 1)
dialed e e' addr max (d, n, is) =
    (ap (λ (w : LinkEndsView _). length w.listeners) is ∙ omega arith, ap (λ (w : LinkEndsView _). length w.dialers) is ∙ length_more e.dialers d)

same_links : {L : Type 0} (e e' : LinkEndsView L) → e' ≡ e → (length e'.listeners ≡ length e.listeners + 0) × (length e'.dialers ≡ length e.dialers + 0)
same_links e e' is =
    (ap (λ (w : LinkEndsView _). length w.listeners) is ∙ omega arith, ap (λ (w : LinkEndsView _). length w.dialers) is ∙ omega arith)

one_more : (reg reg' : Registry) (old new : NamesView) (name : List ℕ) (role : Role) → ListensName (Ok tt) name role old new reg reg' → names reg' ≡ names reg ++ name ∷ []
one_more reg reg' old new name role (is, (unlisted, more)) =
    ap names more ∙ names_more reg (record { name = name; role = role; halves = [] })

still_apart : (reg reg' : Registry) (old new : NamesView) (name : List ℕ) (role : Role) → ListensName (Ok tt) name role old new reg reg' → AreApart (names reg) → AreApart (names reg')
still_apart reg reg' old new name role (is, (unlisted, more)) apart =
    subst AreApart (sym (ap names more ∙ names_more reg (record { name = name; role = role; halves = [] }))) (apart_more name (names reg) apart (unlisted_new name reg unlisted))

pub grows : {L : Type 0} (net net' : NetView) (reg reg' : Registry) (e e' : EndsView L) (x : End) (max : ℕ) → AddsEnd (Ok tt) x max e e' net net' reg reg' → GrowsBy net net' reg reg' e e' x
grows net net' reg reg' e e' (ends.Listen (addrs.Tcp host port)) max (link, kept, same) =
    let g = listened net net' e.links e'.links (addrs.Tcp host port) max link in
    record { listens = g.0; dials = g.1; opened = g.2; faults = g.3; one = omega arith; names_are = same_names reg reg' same; apart = same_apart reg reg' same }
grows net net' reg reg' e e' (ends.Listen (addrs.Ws host port path)) max (link, kept, same) =
    let g = listened net net' e.links e'.links (addrs.Ws host port path) max link in
    record { listens = g.0; dials = g.1; opened = g.2; faults = g.3; one = omega arith; names_are = same_names reg reg' same; apart = same_apart reg reg' same }
grows net net' reg reg' e e' (ends.Listen (addrs.Ipc path)) max (link, kept, same) =
    let g = listened net net' e.links e'.links (addrs.Ipc path) max link in
    record { listens = g.0; dials = g.1; opened = g.2; faults = g.3; one = omega arith; names_are = same_names reg reg' same; apart = same_apart reg reg' same }
grows net net' reg reg' e e' (ends.Listen (addrs.Inproc name)) max (named, kept, same) =
    let g = same_links e.links e'.links kept in
    let m = same_net net net' same in
    record { listens = g.0; dials = g.1; opened = m.0; faults = m.1; one = omega arith; names_are = one_more reg reg' e.names e'.names name e.links.role named; apart = still_apart reg reg' e.names e'.names name e.links.role named }
grows net net' reg reg' e e' (ends.Dial (addrs.Tcp host port)) max ((link, kept), same, same_reg) =
    let g = dialed e.links e'.links (addrs.Tcp host port) max link in
    let m = same_net net net' same in
    record { listens = g.0; dials = g.1; opened = m.0; faults = m.1; one = omega arith; names_are = same_names reg reg' same_reg; apart = same_apart reg reg' same_reg }
grows net net' reg reg' e e' (ends.Dial (addrs.Ws host port path)) max ((link, kept), same, same_reg) =
    let g = dialed e.links e'.links (addrs.Ws host port path) max link in
    let m = same_net net net' same in
    record { listens = g.0; dials = g.1; opened = m.0; faults = m.1; one = omega arith; names_are = same_names reg reg' same_reg; apart = same_apart reg reg' same_reg }
grows net net' reg reg' e e' (ends.Dial (addrs.Ipc path)) max ((link, kept), same, same_reg) =
    let g = dialed e.links e'.links (addrs.Ipc path) max link in
    let m = same_net net net' same in
    record { listens = g.0; dials = g.1; opened = m.0; faults = m.1; one = omega arith; names_are = same_names reg reg' same_reg; apart = same_apart reg reg' same_reg }
grows net net' reg reg' e e' (ends.Dial (addrs.Inproc name)) max ((named, kept), same, same_reg) =
    let g = same_links e.links e'.links kept in
    let m = same_net net net' same in
    record { listens = g.0; dials = g.1; opened = m.0; faults = m.1; one = omega arith; names_are = same_names reg reg' same_reg; apart = same_apart reg reg' same_reg }

-- what holds of the ends still holds, with these ends over links
with_ends : {L : Type 0} (seen : L → LinkView) (start : Beginning) (net net' : NetView) (s : SingleView) (e e' : LinkEndsView L) → s.seen ≡ [] → LinksStand seen start s e net false → EndsStand seen s.setting start [] net' e' → LinksStand seen start s e' net' false
with_ends seen start net net' s e e' empty links stand =
    record { ends_stand = subst (λ (h : List (Turn Entry)). EndsStand seen s.setting start h net' e') (sym empty) stand; dry = links.dry }

stood : {L : Type 0} (seen : L → LinkView) (start : Beginning) (net : NetView) (s : SingleView) (e : LinkEndsView L) → s.seen ≡ [] → LinksStand seen start s e net false → EndsStand seen s.setting start [] net e
stood seen start net s e empty links =
    subst (λ (h : List (Turn Entry)). EndsStand seen s.setting start h net e) empty links.ends_stand

listens_link : {L : Type 0} (seen : L → LinkView) (start : Beginning) (net net' : NetView) (s : SingleView) (e e' : LinkEndsView L) (addr : Addr) (max : ℕ) → s.seen ≡ [] → is_linked addr ≡ true → IsAmong addr start.origins.listens → IsAmong max start.origins.limits → ListensLink (Ok tt) addr max e e' net net' → length e.listeners + length e.dialers < 64 → LinksStand seen start s e net false
    → LinksStand seen start s e' net' false
listens_link seen start net net' s e e' addr max empty linked of_plan limited (l, same, limit, is, at) few links =
    with_ends seen start net net' s e e' empty links (listens_more seen s.setting start net net' e e' l (subst (λ (a : Addr). is_linked a ≡ true) (sym same) linked) (subst (λ (a : Addr). IsAmong a start.origins.listens) (sym same) of_plan) (subst (λ (m : ℕ). IsAmong m start.origins.limits) (sym limit) limited) (subst (λ (a : Addr). ListensAt l.at (scheme_of a) net net') (sym same) at) is few (stood seen start net s e empty links))

dials_link : {L : Type 0} (seen : L → LinkView) (start : Beginning) (net net' : NetView) (s : SingleView) (e e' : LinkEndsView L) (addr : Addr) (max : ℕ) → s.seen ≡ [] → IsAmong addr start.origins.dials → IsAmong max start.origins.limits → DialsLink (Ok tt) addr max e e' → net' ≡ net → length e.listeners + length e.dialers < 64 → LinksStand seen start s e net false
    → LinksStand seen start s e' net' false
dials_link seen start net net' s e e' addr max empty of_plan limited (d, n, is) same few links =
    subst (λ (m : NetView). LinksStand seen start s e' m false) (sym same) (with_ends seen start net net s e e' empty links (dials_more seen s.setting start net e e' d addr max n of_plan limited is few (stood seen start net s e empty links)))

-- what holds of the ends still holds, where those over links and the net are unchanged
kept_ends : {L : Type 0} (seen : L → LinkView) (start : Beginning) (net net' : NetView) (s : SingleView) (e e' : LinkEndsView L) (is_dry : Bool) → e' ≡ e → net' ≡ net → LinksStand seen start s e net is_dry → LinksStand seen start s e' net' is_dry
kept_ends seen start net net' s e e' is_dry is same links =
    subst (λ (m : NetView). LinksStand seen start s e' m is_dry) (sym same) (subst (λ (w : LinkEndsView _). LinksStand seen start s w net is_dry) (sym is) links)

pub adds : {L : Type 0} (seen : L → LinkView) (start : Beginning) (net net' : NetView) (reg reg' : Registry) (s : SingleView) (e e' : EndsView L) (x : End) (max : ℕ) → s.seen ≡ [] → IsEndOf start.origins max x → AddsEnd (Ok tt) x max e e' net net' reg reg' → length e.links.listeners + length e.links.dialers < 64 → LinksStand seen start s e.links net false
    → LinksStand seen start s e'.links net' false
adds seen start net net' reg reg' s e e' (ends.Listen (addrs.Tcp host port)) max empty of_plan (link, kept, same) few links =
    listens_link seen start net net' s e.links e'.links (addrs.Tcp host port) max empty refl of_plan.0 of_plan.1 link few links
adds seen start net net' reg reg' s e e' (ends.Listen (addrs.Ws host port path)) max empty of_plan (link, kept, same) few links =
    listens_link seen start net net' s e.links e'.links (addrs.Ws host port path) max empty refl of_plan.0 of_plan.1 link few links
adds seen start net net' reg reg' s e e' (ends.Listen (addrs.Ipc path)) max empty of_plan (link, kept, same) few links =
    listens_link seen start net net' s e.links e'.links (addrs.Ipc path) max empty refl of_plan.0 of_plan.1 link few links
adds seen start net net' reg reg' s e e' (ends.Listen (addrs.Inproc name)) max empty of_plan (named, kept, same) few links =
    kept_ends seen start net net' s e.links e'.links false kept same links
adds seen start net net' reg reg' s e e' (ends.Dial (addrs.Tcp host port)) max empty of_plan ((link, kept), same, same_reg) few links =
    dials_link seen start net net' s e.links e'.links (addrs.Tcp host port) max empty of_plan.0 of_plan.1 link same few links
adds seen start net net' reg reg' s e e' (ends.Dial (addrs.Ws host port path)) max empty of_plan ((link, kept), same, same_reg) few links =
    dials_link seen start net net' s e.links e'.links (addrs.Ws host port path) max empty of_plan.0 of_plan.1 link same few links
adds seen start net net' reg reg' s e e' (ends.Dial (addrs.Ipc path)) max empty of_plan ((link, kept), same, same_reg) few links =
    dials_link seen start net net' s e.links e'.links (addrs.Ipc path) max empty of_plan.0 of_plan.1 link same few links
adds seen start net net' reg reg' s e e' (ends.Dial (addrs.Inproc name)) max empty of_plan ((named, kept), same, same_reg) few links =
    kept_ends seen start net net' s e.links e'.links false kept same links

-- the same, where the socket is unchanged
pub adds_links : {L : Type 0} (seen : L → LinkView) (start : Beginning) (net net' : NetView) (reg reg' : Registry) (s s' : SingleView) (e e' : EndsView L) (x : End) (max : ℕ) → s.seen ≡ [] → s' ≡ s → IsEndOf start.origins max x → AddsEnd (Ok tt) x max e e' net net' reg reg' → length e.links.listeners + length e.links.dialers < 64 → LinksStand seen start s e.links net false
    → LinksStand seen start s' e'.links net' false
adds_links seen start net net' reg reg' s s' e e' x max empty same of_plan added few links =
    subst (λ (v : SingleView). LinksStand seen start v e'.links net' false) (sym same) (adds seen start net net' reg reg' s e e' x max empty of_plan added few links)

same_running : (s s' : SingleView) (p p' : Player) → s' ≡ s → p' ≡ p → IsRunning s p → IsRunning s' p'
same_running s s' p p' same_s same_p r = subst (λ (v : SingleView). IsRunning v p') (sym same_s) (subst (λ (q : Player). IsRunning s q) (sym same_p) r)

-- what holds of the run still holds, where the play is also unchanged
pub adds_on : {L : Type 0} (seen : L → LinkView) (start : Beginning) (net net' : NetView) (reg reg' : Registry) (s s' : SingleView) (e e' : EndsView L) (p p' : Player) (x : End) (max : ℕ) → s.seen ≡ [] → s' ≡ s → p' ≡ p → IsEndOf start.origins max x → AddsEnd (Ok tt) x max e e' net net' reg reg' → length e.links.listeners + length e.links.dialers < 64 → RunStands seen start s e.links p net false
    → RunStands seen start s' e'.links p' net' false
adds_on seen start net net' reg reg' s s' e e' p p' x max empty same_s same_p of_plan added few run =
    run_of seen start s' e'.links p' net' false (same_running s s' p p' same_s same_p (record { sound = run.sound; play = run.play })) (adds_links seen start net net' reg reg' s s' e e' x max empty same_s of_plan added few (links_of seen start s e.links p net false run))

-- ---- The net fails to listen

same_listens : (net net' : NetView) → net'.listens ≡ net.listens → (ls : List Listener) → AllByRecursion (IsListener net) ls → AllByRecursion (IsListener net') ls
same_listens net net' same [] a = tt
same_listens net net' same (l ∷ ls) a =
    (record { listens = subst (λ (m : FinMap nat_cmp Scheme). get m l.at ≡ Some (scheme_of l.addr)) (sym same) a.0.listens; linked = a.0.linked }, same_listens net net' same ls a.1)

ends_fail : {L : Type 0} (seen : L → LinkView) (z : Setting) (start : Beginning) (h : List (Turn Entry)) (net net' : NetView) (e : LinkEndsView L) → FailsToListen net net' → EndsStand seen z start h net e → EndsStand seen z start h net' e
ends_fail seen z start h net net' e f s =
    record {
      role = s.role;
      links = record { kept = links_kept z start h net net' f.untouched.opened f.untouched.back s.links.kept; progressing = s.links.progressing };
      asked = record {
        few = s.asked.few;
        listens = same_listens net net' f.untouched.listens e.listeners s.asked.listens;
        dials = rw f.untouched.opened s.asked.dials;
        first = rw f.untouched.opened s.asked.first;
        idles = (let q = f.idles in omega (arith, q, s.asked.idles));
        faults = omega (arith, f.later, s.asked.faults);
        rose = λ i k. (let r = s.asked.rose (omega (arith, f.idles, i)) (omega (arith, f.later, k)) in omega (arith, r, f.idles, f.later, f.untouched.opened));
      };
      of_run = s.of_run;
    }

-- what holds of the run still holds, where the ends over links and the net are unchanged
same_run : {L : Type 0} (seen : L → LinkView) (start : Beginning) (net net' : NetView) (s : SingleView) (e e' : LinkEndsView L) (p : Player) (is_dry : Bool) → e' ≡ e → net' ≡ net → RunStands seen start s e p net is_dry → RunStands seen start s e' p net' is_dry
same_run seen start net net' s e e' p is_dry is same run =
    subst (λ (m : NetView). RunStands seen start s e' p m is_dry) (sym same) (subst (λ (w : LinkEndsView _). RunStands seen start s w p net is_dry) (sym is) run)

refuses_link : {L : Type 0} (seen : L → LinkView) (start : Beginning) (net net' : NetView) (s : SingleView) (e e' : LinkEndsView L) (p : Player) (addr : Addr) (max : ℕ) (why : EndError) → ListensLink (Err why) addr max e e' net net' → RunStands seen start s e p net false → RunStands seen start s e' p net' false
refuses_link seen start net net' s e e' p addr max errors.Fault (same, f) run =
    subst (λ (w : LinkEndsView _). RunStands seen start s w p net' false) (sym same) (record { sound = run.sound; play = run.play; ends_stand = ends_fail seen s.setting start s.seen net net' e f run.ends_stand; dry = run.dry })
refuses_link seen start net net' s e e' p addr max errors.InUse none run = elim none [ ]
refuses_link seen start net net' s e e' p addr max errors.NoMemory (same, is) run =
    same_run seen start net net' s e e' p false same is run

refuses_dial : {L : Type 0} (e e' : LinkEndsView L) (addr : Addr) (max : ℕ) (why : EndError) → DialsLink (Err why) addr max e e' → e' ≡ e
refuses_dial e e' addr max errors.Fault none = elim none [ ]
refuses_dial e e' addr max errors.InUse none = elim none [ ]
refuses_dial e e' addr max errors.NoMemory same = same

refuses : {L : Type 0} (seen : L → LinkView) (start : Beginning) (net net' : NetView) (reg reg' : Registry) (s : SingleView) (e e' : EndsView L) (p : Player) (x : End) (max : ℕ) (why : EndError) → AddsEnd (Err why) x max e e' net net' reg reg' → RunStands seen start s e.links p net false → RunStands seen start s e'.links p net' false
refuses seen start net net' reg reg' s e e' p (ends.Listen (addrs.Tcp host port)) max why (link, kept, same) run =
    refuses_link seen start net net' s e.links e'.links p (addrs.Tcp host port) max why link run
refuses seen start net net' reg reg' s e e' p (ends.Listen (addrs.Ws host port path)) max why (link, kept, same) run =
    refuses_link seen start net net' s e.links e'.links p (addrs.Ws host port path) max why link run
refuses seen start net net' reg reg' s e e' p (ends.Listen (addrs.Ipc path)) max why (link, kept, same) run =
    refuses_link seen start net net' s e.links e'.links p (addrs.Ipc path) max why link run
refuses seen start net net' reg reg' s e e' p (ends.Listen (addrs.Inproc name)) max why (named, kept, same) run =
    same_run seen start net net' s e.links e'.links p false kept same run
refuses seen start net net' reg reg' s e e' p (ends.Dial (addrs.Tcp host port)) max why ((link, kept), same, same_reg) run =
    same_run seen start net net' s e.links e'.links p false (refuses_dial e.links e'.links (addrs.Tcp host port) max why link) same run
refuses seen start net net' reg reg' s e e' p (ends.Dial (addrs.Ws host port path)) max why ((link, kept), same, same_reg) run =
    same_run seen start net net' s e.links e'.links p false (refuses_dial e.links e'.links (addrs.Ws host port path) max why link) same run
refuses seen start net net' reg reg' s e e' p (ends.Dial (addrs.Ipc path)) max why ((link, kept), same, same_reg) run =
    same_run seen start net net' s e.links e'.links p false (refuses_dial e.links e'.links (addrs.Ipc path) max why link) same run
refuses seen start net net' reg reg' s e e' p (ends.Dial (addrs.Inproc name)) max why ((named, kept), same, same_reg) run =
    same_run seen start net net' s e.links e'.links p false kept same run

-- an end was refused, where the socket and the play are unchanged
pub refuses_on : {L : Type 0} (seen : L → LinkView) (start : Beginning) (net net' : NetView) (reg reg' : Registry) (s s' : SingleView) (e e' : EndsView L) (p p' : Player) (x : End) (max : ℕ) (why : EndError) → s' ≡ s → p' ≡ p → AddsEnd (Err why) x max e e' net net' reg reg' → RunStands seen start s e.links p net false
    → RunStands seen start s' e'.links p' net' (is_dry_at s')
refuses_on seen start net net' reg reg' s s' e e' p p' x max why same_s same_p failed run =
    run_at seen start net' s' e'.links p' false (subst (λ (v : SingleView). RunStands seen start v e'.links p' net' false) (sym same_s) (subst (λ (q : Player). RunStands seen start s e'.links q net' false) (sym same_p) (refuses seen start net net' reg reg' s e e' p x max why failed run)))

-- why an end was refused: the net failed to listen, or the name is listened on
pub record IsRefused (why : EndError) (x : End) (net net' : NetView) (reg : Registry) : Type 0 where
  pub opened : net'.opened ≡ net.opened
  pub faults : net.faults ≤ net'.faults
  pub fault : why ≡ errors.Fault → Rose net.faults net'.faults
  pub in_use : why ≡ errors.InUse → (name : List ℕ) × (x ≡ ends.Listen (addrs.Inproc name)) × IsListed name reg

fault_in_use : errors.Fault ≡ errors.InUse → ⊥
fault_in_use e = cc

memory_in_use : errors.NoMemory ≡ errors.InUse → ⊥
memory_in_use e = cc

memory_fault : errors.NoMemory ≡ errors.Fault → ⊥
memory_fault e = cc

in_use_fault : errors.InUse ≡ errors.Fault → ⊥
in_use_fault e = cc

why_link : {L : Type 0} (net net' : NetView) (reg : Registry) (e e' : LinkEndsView L) (addr : Addr) (max : ℕ) (x : End) (why : EndError) → ListensLink (Err why) addr max e e' net net' → IsRefused why x net net' reg
why_link net net' reg e e' addr max x errors.Fault (same, f) =
    record { opened = f.untouched.opened; faults = f.later; fault = λ is. f.fault; in_use = λ is. absurd (fault_in_use is) }
why_link net net' reg e e' addr max x errors.InUse none = elim none [ ]
why_link net net' reg e e' addr max x errors.NoMemory (same, is) =
    let m = same_net net net' is in
    record { opened = m.0; faults = m.1; fault = λ is. absurd (memory_fault is); in_use = λ is. absurd (memory_in_use is) }

why_name : (net net' : NetView) (reg reg' : Registry) (old new : NamesView) (name : List ℕ) (role : Role) (why : EndError) → ListensName (Err why) name role old new reg reg' → net' ≡ net → IsRefused why (ends.Listen (addrs.Inproc name)) net net' reg
why_name net net' reg reg' old new name role errors.Fault none is = elim none [ ]
why_name net net' reg reg' old new name role errors.InUse (same, (listed, same_reg)) is =
    let m = same_net net net' is in
    record { opened = m.0; faults = m.1; fault = λ is. absurd (in_use_fault is); in_use = λ is. (name, refl, listed) }
why_name net net' reg reg' old new name role errors.NoMemory (same, same_reg) is =
    let m = same_net net net' is in
    record { opened = m.0; faults = m.1; fault = λ is. absurd (memory_fault is); in_use = λ is. absurd (memory_in_use is) }

why_memory : (net net' : NetView) (reg : Registry) (x : End) → net' ≡ net → IsRefused errors.NoMemory x net net' reg
why_memory net net' reg x is =
    let m = same_net net net' is in
    record { opened = m.0; faults = m.1; fault = λ is. absurd (memory_fault is); in_use = λ is. absurd (memory_in_use is) }

why_dial : {L : Type 0} (net net' : NetView) (reg : Registry) (e e' : LinkEndsView L) (addr : Addr) (max : ℕ) (x : End) (why : EndError) → DialsLink (Err why) addr max e e' → net' ≡ net → IsRefused why x net net' reg
why_dial net net' reg e e' addr max x errors.Fault none is = elim none [ ]
why_dial net net' reg e e' addr max x errors.InUse none is = elim none [ ]
why_dial net net' reg e e' addr max x errors.NoMemory same is = why_memory net net' reg x is

why_call : (net net' : NetView) (reg : Registry) (old new : NamesView) (name : List ℕ) (x : End) (why : EndError) → DialsName (Err why) name old new → net' ≡ net → IsRefused why x net net' reg
why_call net net' reg old new name x errors.Fault none is = elim none [ ]
why_call net net' reg old new name x errors.InUse none is = elim none [ ]
why_call net net' reg old new name x errors.NoMemory same is = why_memory net net' reg x is

pub refused : {L : Type 0} (net net' : NetView) (reg reg' : Registry) (e e' : EndsView L) (x : End) (max : ℕ) (why : EndError) → AddsEnd (Err why) x max e e' net net' reg reg' → IsRefused why x net net' reg
refused net net' reg reg' e e' (ends.Listen (addrs.Tcp host port)) max why (link, kept, same) =
    why_link net net' reg e.links e'.links (addrs.Tcp host port) max (ends.Listen (addrs.Tcp host port)) why link
refused net net' reg reg' e e' (ends.Listen (addrs.Ws host port path)) max why (link, kept, same) =
    why_link net net' reg e.links e'.links (addrs.Ws host port path) max (ends.Listen (addrs.Ws host port path)) why link
refused net net' reg reg' e e' (ends.Listen (addrs.Ipc path)) max why (link, kept, same) =
    why_link net net' reg e.links e'.links (addrs.Ipc path) max (ends.Listen (addrs.Ipc path)) why link
refused net net' reg reg' e e' (ends.Listen (addrs.Inproc name)) max why (named, kept, same) =
    why_name net net' reg reg' e.names e'.names name e.links.role why named same
refused net net' reg reg' e e' (ends.Dial (addrs.Tcp host port)) max why ((link, kept), same, same_reg) =
    why_dial net net' reg e.links e'.links (addrs.Tcp host port) max (ends.Dial (addrs.Tcp host port)) why link same
refused net net' reg reg' e e' (ends.Dial (addrs.Ws host port path)) max why ((link, kept), same, same_reg) =
    why_dial net net' reg e.links e'.links (addrs.Ws host port path) max (ends.Dial (addrs.Ws host port path)) why link same
refused net net' reg reg' e e' (ends.Dial (addrs.Ipc path)) max why ((link, kept), same, same_reg) =
    why_dial net net' reg e.links e'.links (addrs.Ipc path) max (ends.Dial (addrs.Ipc path)) why link same
refused net net' reg reg' e e' (ends.Dial (addrs.Inproc name)) max why ((named, kept), same, same_reg) =
    why_call net net' reg e.names e'.names name (ends.Dial (addrs.Inproc name)) why named same

-- ---- A name that is listened on twice

-- the name is among these
abbrev pub IsIn : List ℕ → List (List ℕ) → Type 0
IsIn name [] = ⊥
IsIn name (other ∷ rest) = (other ≡ name) ⊎ IsIn name rest

in_place : (reg : Registry) (i : ℕ) (l : ListenerView) → i < length reg → ((d : ListenerView) → slice_index_or reg i d ≡ l) → IsIn l.name (names reg)
in_place [] i l within is = absurd (omega (arith, within))
in_place (x ∷ reg) zero l within is = inl (ap (λ (v : ListenerView). v.name) (is l))
in_place (x ∷ reg) (suc i) l within is = inr (in_place reg i l (omega (arith, within)) is)

is_listed : (name : List ℕ) (reg : Registry) → IsListed name reg → IsIn name (names reg)
is_listed name reg (i, l, at) = subst (λ (n : List ℕ). IsIn n (names reg)) at.named (in_place reg i l at.within at.is)

parted : (es : List End) (i : ℕ) (x : End) → i < length es → x ≡ get_or es i x → (b : List End) × (c : List End) × (es ≡ b ++ x ∷ c)
parted [] i x l e = absurd (omega (arith, l))
parted (y ∷ es) zero x l e = ([], es, ap (λ (w : End). w ∷ es) (sym e))
parted (y ∷ es) (suc i) x l e =
    let p = parted es i x (omega (arith, l)) e in
    (y ∷ p.0, p.1, ap (λ (r : List End). y ∷ r) p.2)

behind : (y : End) (es : List End) → ListensTwice es → ListensTwice (y ∷ es)
behind y es (name, a, b, c, is) = (name, y ∷ a, b, c, ap (λ (r : List End). y ∷ r) is)

twice : (es : List End) (i : ℕ) (x : End) (name : List ℕ) → i < length es → x ≡ get_or es i x → x ≡ ends.Listen (addrs.Inproc name) → IsIn name (listen_names (take i es)) → ListensTwice es
twice [] i x name l e is h = absurd (omega (arith, l))
twice (y ∷ es) zero x name l e is h = elim h [ ]
twice (y ∷ es) (suc i) x name l e is h = go y h (λ h. twice es i x name (omega (arith, l)) e is h)
  where
    go : (y : End) → IsIn name (listen_names (y ∷ take i es)) → (IsIn name (listen_names (take i es)) → ListensTwice es) → ListensTwice (y ∷ es)
    go (ends.Listen (addrs.Tcp host port)) h rest = behind (ends.Listen (addrs.Tcp host port)) es (rest h)
    go (ends.Listen (addrs.Ws host port path)) h rest = behind (ends.Listen (addrs.Ws host port path)) es (rest h)
    go (ends.Listen (addrs.Ipc path)) h rest = behind (ends.Listen (addrs.Ipc path)) es (rest h)
    go (ends.Listen (addrs.Inproc other)) (inl same) rest =
        let p = parted es i x (omega (arith, l)) e in
        let here : x ≡ ends.Listen (addrs.Inproc other) = is ∙ ap (λ (n : List ℕ). ends.Listen (addrs.Inproc n)) (sym same) in
        (other, [], p.0, p.1, ap (λ (r : List End). ends.Listen (addrs.Inproc other) ∷ r) (p.2 ∙ ap (λ (w : End). p.0 ++ w ∷ p.1) here))
    go (ends.Listen (addrs.Inproc other)) (inr h) rest = behind (ends.Listen (addrs.Inproc other)) es (rest h)
    go (ends.Dial addr) h rest = behind (ends.Dial addr) es (rest h)

-- a name that is in use is listened on twice
pub in_use_twice : (es : List End) (i : ℕ) (x : End) (reg : Registry) → i < length es → x ≡ get_or es i x → names reg ≡ listen_names (take i es) → (name : List ℕ) × (x ≡ ends.Listen (addrs.Inproc name)) × IsListed name reg → ListensTwice es
in_use_twice es i x reg l e names_are (name, is, listed) =
    twice es i x name l e is (subst (λ (ns : List (List ℕ)). IsIn name ns) names_are (is_listed name reg listed))

listen_append : (xs ys : List End) → listen_names (xs ++ ys) ≡ listen_names xs ++ listen_names ys
listen_append [] ys = refl
listen_append (x ∷ xs) ys =
    name_first x (xs ++ ys) ∙ (ap (λ (r : List (List ℕ)). name_one x ++ r) (listen_append xs ys) ∙ (sym (append_three (name_one x) (listen_names xs) (listen_names ys)) ∙ ap (λ (r : List (List ℕ)). r ++ listen_names ys) (sym (name_first x xs))))

not_new : (name : List ℕ) (ys zs : List (List ℕ)) → IsNew name (ys ++ name ∷ zs) → ⊥
not_new name [] zs (apart, rest) = apart refl
not_new name (y ∷ ys) zs (apart, rest) = not_new name ys zs rest

not_apart : (name : List ℕ) (xs ys zs : List (List ℕ)) → AreApart (xs ++ name ∷ ys ++ name ∷ zs) → ⊥
not_apart name [] ys zs (fresh, rest) = not_new name ys zs fresh
not_apart name (x ∷ xs) ys zs (fresh, rest) = not_apart name xs ys zs rest

-- where no name occurs twice, none is listened on twice
pub never_twice : (es : List End) → AreApart (listen_names es) → ListensTwice es → ⊥
never_twice es apart (name, a, b, c, is) =
    let first = subst (λ (l : List End). AreApart (listen_names l)) is apart in
    let second = subst AreApart (listen_append (a ++ ends.Listen (addrs.Inproc name) ∷ b) (ends.Listen (addrs.Inproc name) ∷ c)) first in
    let third = subst (λ (r : List (List ℕ)). AreApart (r ++ name ∷ listen_names c)) (listen_append a (ends.Listen (addrs.Inproc name) ∷ b)) second in
    not_apart name (listen_names a) (listen_names b) (listen_names c) third

once_so : (st : Status) (es : List End) → (ListensTwice es → ⊥) → ListensOnce st es
once_so status.Done es once = once
once_so (status.Usage at) es once = once
once_so status.SendTimedOut es once = once
once_so status.Over es once = once
once_so status.NetFault es once = tt
once_so status.OutFault es once = once
once_so status.FileFault es once = tt
once_so status.NoMemory es once = tt

-- what holds of each end holds of this one
pub end_at : (P : End → Type 0) (es : List End) (i : ℕ) (x : End) → AllByRecursion P es → i < length es → x ≡ get_or es i x → P x
end_at P [] i x a l e = absurd (omega (arith, l))
end_at P (y ∷ es) zero x a l e = subst P (sym e) a.0
end_at P (y ∷ es) (suc i) x a l e = end_at P es i x a.1 (omega (arith, l)) e

-- ---- The end of the rounds, or before the first one

targets_length : (ds : List Dialer) → length (targets_of ds) ≡ length ds
targets_length [] = refl
targets_length (d ∷ ds) = let e = targets_length ds in omega (arith, e)

-- where the addresses are the same, so is their number
pub as_many : (ds es : List Dialer) → targets_of ds ≡ targets_of es → length ds ≡ length es
as_many ds es e = sym (targets_length ds) ∙ (ap length e ∙ targets_length es)

ends_so : (st : Status) (es : List End) (s : SingleView) (p : Player) (net net' : NetView) (pace pace' : PaceView) (out out' : SinkView) → WentOrOver st s p out out' pace' → EndsFor st es s p net net' pace pace' out out'
ends_so status.Done es s p net net' pace pace' out out' went = went
ends_so (status.Usage at) es s p net net' pace pace' out out' went = went
ends_so status.SendTimedOut es s p net net' pace pace' out out' went = went
ends_so status.Over es s p net net' pace pace' out out' went = went
ends_so status.NetFault es s p net net' pace pace' out out' went = elim went [ ]
ends_so status.OutFault es s p net net' pace pace' out out' went = went
ends_so status.FileFault es s p net net' pace pace' out out' went = went
ends_so status.NoMemory es s p net net' pace pace' out out' went = went

pub followed_on : {L : Type 0} (st : Status) (es : List End) (s : SingleView) (e : LinkEndsView L) (p : Player) (net net' : NetView) (pace pace' : PaceView) (out out' : SinkView) → WentOrOver st s p out out' pace' → PacedTo st pace pace' (past_of s.seen) → length e.listeners ≡ listens_of es
    → length e.dialers ≡ dials_of es → AreApart (listen_names es) → Sinks (is_failed_run st) out out' → Follows st es s e p net net' pace pace' out out'
followed_on st es s e p net net' pace pace' out out' went paced listens dials apart sinks =
    record { why = ends_so st es s p net net' pace pace' out out' went; paced = paced; once = once_so st es (never_twice es apart); asked = inr (listens, dials); sinks = sinks }

-- no turn of the socket came, and the pace and the sink were not asked
unasked : {L : Type 0} (st : Status) (es : List End) (s : SingleView) (e : LinkEndsView L) (p : Player) (net net' : NetView) (pace : PaceView) (out : SinkView) → s.seen ≡ [] → (st ≡ status.Over → ⊥) → (st ≡ status.OutFault → ⊥) → ListensOnce st es → EndsFor st es s p net net' pace pace out out → Follows st es s e p net net' pace pace out out
unasked st es s e p net net' pace out empty not_over no_fault once why =
    let none : length (ticks (past_of s.seen)) ≡ 0 = ap (λ (h : List (Turn Entry)). length (ticks (past_of h))) empty in
    record {
      why = why;
      once = once;
      paced = record { left = omega (arith, none); few = omega (arith, none); over = λ is. absurd (not_over is); not_over = λ is. refl };
      asked = inl empty;
      sinks = run_faultless st out out no_fault refl;
    }

fault_over : status.NetFault ≡ status.Over → ⊥
fault_over e = cc

fault_sink : status.NetFault ≡ status.OutFault → ⊥
fault_sink e = cc

memory_over : status.NoMemory ≡ status.Over → ⊥
memory_over e = cc

memory_sink : status.NoMemory ≡ status.OutFault → ⊥
memory_sink e = cc

pub rose_on : (a b c : ℕ) → a ≤ b → Rose b c → Rose a c
rose_on a b c less rose = omega (arith, less, rose)

-- out of memory for an end
pub unfollowed : {L : Type 0} (es : List End) (s : SingleView) (e : LinkEndsView L) (p : Player) (net net' : NetView) (pace : PaceView) (out : SinkView) → s.seen ≡ [] → Follows status.NoMemory es s e p net net' pace pace out out
unfollowed es s e p net net' pace out empty = unasked status.NoMemory es s e p net net' pace out empty memory_over memory_sink tt tt

-- an end was refused
pub net_fault : {L : Type 0} (es : List End) (s : SingleView) (e : LinkEndsView L) (p : Player) (net net' : NetView) (pace : PaceView) (out : SinkView) → s.seen ≡ [] → Rose net.faults net'.faults ⊎ ListensTwice es → net'.opened ≡ net.opened → Follows status.NetFault es s e p net net' pace pace out out
net_fault es s e p net net' pace out empty why opened = unasked status.NetFault es s e p net net' pace out empty fault_over fault_sink tt (why, opened, refl)
