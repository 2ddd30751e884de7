-- What stands before the first turn, and with one end more.
use Rattle.std.proofs.Common.{◌≡◌, refl, ap, sym, ◌∙◌, subst, inl, inr, List, [], ◌∷◌, ◌++◌, ℕ, zero, suc, ◌+◌, ◌≤◌, ◌<◌, true, false, arith, rules, length, Option, Some, None}
use Rattle.std.specs.Prelude.{Result, Ok, Err, slice_index_or, map}
use Rattle.std.specs.List.{AllByRecursion}
use Rattle.std.specs.FinMap.{FinMap, get, insert, gets}
use Rattle.std.specs.Ordering.{nat_cmp}
use Rattle.turn_lock.specs.declared.turn.Turn.{Turn}
use Rattle.sp_base.specs.Views.{LinkView, NetView}
use Rattle.sp_base.specs.Addresses.{Spells, scheme_of, is_linked}
use Rattle.sp_base.specs.declared.addr.Addr.{Addr}
use Rattle.sp_base.specs.declared.addr.Addr.TheVariants as addrs
use Rattle.sp_base.specs.declared.addr.Scheme.{Scheme}
use Rattle.sp_history.specs.declared.entry.Entry.{Entry}
use Rattle.sp_history.specs.declared.setting.Setting.{Setting}
use Rattle.sp_socket.specs.Singles.{SingleView}
use Rattle.sp_lane.specs.Registry.{Registry, ListenerView, names, IsListed, IsUnlisted}
use Rattle.sp_links.specs.Origins.{IsAmong}
use Rattle.sp_ends.specs.declared.dialer.Dialer.{Dialer}
use Rattle.sp_ends.specs.declared.listener.Listener.{Listener}
use Rattle.sp_ends.specs.declared.newcomer.Newcomer.{Newcomer}
use Rattle.sp_ends.specs.declared.error.EndError.{EndError}
use Rattle.sp_ends.specs.declared.error.EndError.TheVariants as errors
use Rattle.sp_ends.specs.DialMoments.{IsDueAt}
use Rattle.sp_ends.specs.Dialing.{IsDialed}
use Rattle.sp_ends.specs.EndViews.{EndsView, LinkEndsView, NamesView, Beginning, no_ends}
use Rattle.sp_ends.specs.RunLinks.{EndsStand, AreOfRun, AreProgressing, IsListener, tries_of}
use Rattle.sp_ends.specs.AddedEnds.{ListensLink, DialsLink, ListensAlso, DialsAlso}
use Rattle.sp_ends.specs.EndsTurns.{addrs_of}
use Rattle.sp_node.specs.declared.error.EndsError.{EndsError}
use Rattle.sp_node.specs.declared.error.EndsError.TheVariants as refusals
use Rattle.sp_node.specs.Nodes.{NodeStands}
use Rattle.sp_node.specs.NewNodes.{NewNodeView, count_of, listens_of, limits_of, origins_of, IsFreshDialer, IsNewOn, IsNewNode}
use Rattle.sp_node.specs.MoreEnds.{Listens, Dials, MayDial, OfText, ReadsAddress, error_of}

-- ---- The addresses are those of the ends

among_listens : (all : List Addr) (ls : List Listener) → ((a : Addr) → IsAmong a (listens_of ls) → IsAmong a all) → AllByRecursion (λ (l : Listener). IsAmong l.addr all) ls
among_listens all [] f = tt
among_listens all (l ∷ ls) f = (f l.addr (inl refl), among_listens all ls (λ a x. f a (inr x)))

among_dials : (all : List Addr) (ds : List Dialer) → ((a : Addr) → IsAmong a (addrs_of ds) → IsAmong a all) → AllByRecursion (λ (d : Dialer). IsAmong d.addr all) ds
among_dials all [] f = tt
among_dials all (d ∷ ds) f = (f d.addr (inl refl), among_dials all ds (λ a x. f a (inr x)))

limits_listen : (all : List ℕ) (ls : List Listener) → ((m : ℕ) → IsAmong m (map (λ (l : Listener). l.max) ls) → IsAmong m all) → AllByRecursion (λ (l : Listener). IsAmong l.max all) ls
limits_listen all [] f = tt
limits_listen all (l ∷ ls) f = (f l.max (inl refl), limits_listen all ls (λ m x. f m (inr x)))

limits_dial : (all : List ℕ) (ds : List Dialer) → ((m : ℕ) → IsAmong m (map (λ (d : Dialer). d.max) ds) → IsAmong m all) → AllByRecursion (λ (d : Dialer). IsAmong d.max all) ds
limits_dial all [] f = tt
limits_dial all (d ∷ ds) f = (f d.max (inl refl), limits_dial all ds (λ m x. f m (inr x)))

among_left : (m : ℕ) (xs ys : List ℕ) → IsAmong m xs → IsAmong m (xs ++ ys)
among_left m [] ys x = absurd x
among_left m (n ∷ xs) ys (inl x) = inl x
among_left m (n ∷ xs) ys (inr x) = inr (among_left m xs ys x)

among_right : (m : ℕ) (xs ys : List ℕ) → IsAmong m ys → IsAmong m (xs ++ ys)
among_right m [] ys x = x
among_right m (n ∷ xs) ys x = inr (among_right m xs ys x)

of_own : {L : Type 0} (e : LinkEndsView L) → AreOfRun (origins_of e) e
of_own e =
    record { listens = among_listens (listens_of e.listeners) e.listeners (λ a x. x); dials = among_dials (addrs_of e.dialers) e.dialers (λ a x. x); dice = refl; listen_limits = limits_listen (limits_of e) e.listeners (λ m x. among_left m (map (λ (l : Listener). l.max) e.listeners) _ x); dial_limits = limits_dial (limits_of e) e.dialers (λ m x. among_right m (map (λ (l : Listener). l.max) e.listeners) _ x) }

-- ---- What stands before the first turn

-- the beginning of these ends on this net
abbrev pub start_of : {L : Type 0} → NetView → LinkEndsView L → Beginning
start_of first e = record { net = first; origins = origins_of e }

none_some : (n : ℕ) → None ≡ Some n → ⊥
none_some n e = cc

-- it may be dialed at once
at_once : (d : Dialer) → d.next ≡ Some 0 → (t : ℕ) → IsDueAt d.next t
at_once d next t = subst (λ (o : Option ℕ). IsDueAt o t) (sym next) (omega arith)

fresh_dialed : (same : Type 0) (d : Dialer) → IsFreshDialer d → IsDialed same [] d
fresh_dialed same d f =
    record { dialable = f.dialable; free = λ x. f.place; soon = λ x t le few. at_once d f.next t; next = λ x y z t le few. at_once d f.next t; tries = λ x y. omega arith; begun = λ x. (f.place, f.next); once = λ x. absurd (omega (arith, x)) }

all_dialed : (same : Type 0) (ds : List Dialer) → AllByRecursion IsFreshDialer ds → AllByRecursion (IsDialed same []) ds
all_dialed same [] a = tt
all_dialed same (d ∷ ds) a = (fresh_dialed same d a.0, all_dialed same ds a.1)

no_tries : (ds : List Dialer) → AllByRecursion IsFreshDialer ds → tries_of ds ≡ 0
no_tries [] a = refl
no_tries (d ∷ ds) a = let rest = no_tries ds a.1 in let one = a.0.tries in omega (arith, rest, one)

pub stands_first : {L : Type 0} (seen : L → LinkView) (z : Setting) (first net : NetView) (e : LinkEndsView L) → length e.listeners + length e.dialers ≤ 64 → IsNewOn first z e net → EndsStand seen z (start_of first e) [] net e
stands_first seen z first net e few f =
    record {
      role = f.role;
      links = record {
        kept = record {
          opened = omega (arith, f.opened);
          few = λ l. absurd (omega (arith, l, f.opened));
          in_place = refl;
          over_links = refl;
          named = tt;
          met = λ place a b. absurd (omega (arith, a, b, f.opened));
          somewhere = λ place a b. absurd (omega (arith, a, b, f.opened));
          missed = tt;
          carried = λ p place e. elim (none_some place e) [ ];
          others = λ place o. ap (λ (m : FinMap nat_cmp LinkView). get m place) f.back;
        };
        progressing = subst (λ (ns : List (Newcomer _)). AreProgressing seen (origins_of e) z [] 0 ns) (sym f.none) (record { within = omega arith; ungreeted = tt; rest = tt; all = refl });
      };
      asked = record {
        few = few;
        listens = f.listens;
        dials = all_dialed (net.opened ≡ first.opened) e.dialers f.dials;
        first = λ e. f.opened;
        idles = f.idles;
        faults = f.faults;
        rose = λ i k. (let none = no_tries e.dialers f.dials in omega (arith, f.idles, f.faults, f.opened, none));
      };
      of_run = of_own e;
    }

-- the node begins
pub begins_on : {L : Type 0} (seen : L → LinkView) (s : SingleView) (e : EndsView L) (net : NetView) (reg : Registry) (count : ℕ) → IsNewNode s e net reg count → (start : Beginning) × NodeStands seen start s e.links net 0 false false
begins_on seen s e net reg count n =
    let few : length e.links.listeners + length e.links.dialers ≤ 64 = (let c = n.counted in let m = n.most in omega (arith, c, m)) in (
      start_of n.first e.links,
      subst (λ (v : SingleView). NodeStands seen (start_of n.first e.links) v e.links net 0 false false) (sym single) (record {
        sound = record { legal = tt; settled = tt };
        ends_stand = stands_first seen s.setting n.first net e.links few n.new;
        dry_is = refl;
        now_is = refl;
        closed_is = refl;
      }),
    )
  where
    single : s ≡ record s { seen = [] }
    single = ap (λ (h : List (Turn Entry)). let v : SingleView = record s { seen = h } in v) n.fresh

-- ---- No end yet

pub begins_new : {L : Type 0} (s : SingleView) (e : EndsView L) (net : NetView) (reg : Registry) (dice : ℕ) → s.seen ≡ [] → e ≡ no_ends s.setting.role dice → reg ≡ [] → IsNewNode s e net reg 0
begins_new s e net reg dice fresh is none =
    subst (λ (r : Registry). IsNewNode s e net r 0) (sym none) (subst (λ (x : EndsView _). IsNewNode s x net [] 0) (sym is) (record {
      fresh = fresh;
      first = net;
      new = record { role = refl; none = refl; opened = refl; back = refl; listens = tt; dials = tt; idles = omega arith; faults = omega arith };
      names_are = refl;
      counted = refl;
      most = omega arith;
    }))

-- ---- Parts of the ends

-- the ends of these parts
ends_of : {L : Type 0} (e : EndsView L) (links : LinkEndsView L) (ns : NamesView) → e.links ≡ links → e.names ≡ ns → e ≡ record { links = links; names = ns }
ends_of e links ns a b =
    subst (λ (x : LinkEndsView _). e ≡ record { links = x; names = ns }) a (subst (λ (n : NamesView). e ≡ record { links = e.links; names = n }) b refl)

-- with one over links more
links_count : {L : Type 0} (e e' : EndsView L) (count : ℕ) → length e'.links.listeners + length e'.links.dialers ≡ length e.links.listeners + length e.links.dialers + 1 → e'.names ≡ e.names → count ≡ count_of e → count + 1 ≡ count_of e'
links_count e e' count more kept is =
    let a = ap (λ (v : NamesView). length v.names) kept in
    let b = ap (λ (v : NamesView). length v.callers) kept in
    omega (arith, a, b, more, is)

-- with one name more
names_count : {L : Type 0} (e e' : EndsView L) (count : ℕ) → length e'.names.names + length e'.names.callers ≡ length e.names.names + length e.names.callers + 1 → e'.links ≡ e.links → count ≡ count_of e → count + 1 ≡ count_of e'
names_count e e' count more kept is =
    let a = ap (λ (v : LinkEndsView _). length v.listeners) kept in
    let b = ap (λ (v : LinkEndsView _). length v.dialers) kept in
    omega (arith, a, b, more, is)

same_count : {L : Type 0} (e e' : EndsView L) (count : ℕ) → e'.links ≡ e.links → e'.names ≡ e.names → count ≡ count_of e → count ≡ count_of e'
same_count e e' count links kept is =
    let a = ap (λ (v : LinkEndsView _). length v.listeners) links in
    let b = ap (λ (v : LinkEndsView _). length v.dialers) links in
    let c = ap (λ (v : NamesView). length v.names) kept in
    let d = ap (λ (v : NamesView). length v.callers) kept in
    omega (arith, a, b, c, d, is)

-- ---- One listener more

still_one : (m m' : FinMap nat_cmp Scheme) (at k : ℕ) (s t : Scheme) → get m at ≡ None → m' ≡ insert m at s → get m k ≡ Some t → get m' k ≡ Some t
still_one m m' at k s t fresh is was = grind (gets, rules, is, fresh, was)

listens_now : (m m' : FinMap nat_cmp Scheme) (at : ℕ) (s : Scheme) → m' ≡ insert m at s → get m' at ≡ Some s
listens_now m m' at s is = grind (gets, rules, is)

still_listens : (net net' : NetView) (at : ℕ) (s : Scheme) → get net.listens at ≡ None → net'.listens ≡ insert net.listens at s → (ls : List Listener) → AllByRecursion (IsListener net) ls → AllByRecursion (IsListener net') ls
still_listens net net' at s fresh is [] a = tt
still_listens net net' at s fresh is (l ∷ ls) a =
    (record { listens = still_one net.listens net'.listens at l.at s (scheme_of l.addr) fresh is a.0.listens; linked = a.0.linked }, still_listens net net' at s fresh is ls a.1)

same_listens : (net net' : NetView) → net'.listens ≡ net.listens → (ls : List Listener) → AllByRecursion (IsListener net) ls → AllByRecursion (IsListener net') ls
same_listens net net' same [] a = tt
same_listens net net' same (l ∷ ls) a =
    (record { listens = subst (λ (m : FinMap nat_cmp Scheme). get m l.at ≡ Some (scheme_of l.addr)) (sym same) a.0.listens; linked = a.0.linked }, same_listens net net' same ls a.1)

all_more : {A : Type 0} (P : A → Type 0) (xs : List A) (x : A) → AllByRecursion P xs → P x → AllByRecursion P (xs ++ x ∷ [])
all_more P [] x a p = (p, tt)
all_more P (y ∷ ys) x a p = (a.0, all_more P ys x a.1 p)

length_more : {A : Type 0} (xs : List A) (x : A) → length (xs ++ x ∷ []) ≡ length xs + 1
length_more [] x = refl
length_more (y ∷ xs) x = let e = length_more xs x in omega (arith, e)

names_more : (reg : Registry) (l : ListenerView) → names (reg ++ l ∷ []) ≡ names reg ++ l.name ∷ []
names_more [] l = refl
names_more (x ∷ reg) l = ap (λ (r : List (List ℕ)). x.name ∷ r) (names_more reg l)

listens_new : {L : Type 0} (first : NetView) (z : Setting) (e e' : LinkEndsView L) (net net' : NetView) (addr : Addr) (max : ℕ) → is_linked addr ≡ true → ListensLink (Ok tt) addr max e e' net net' → IsNewOn first z e net → IsNewOn first z e' net'
listens_new first z e e' net net' addr max linked (l, same, limit, is, at) n =
    subst (λ (x : LinkEndsView _). IsNewOn first z x net') (sym is) (record {
      role = n.role;
      none = n.none;
      opened = at.opened ∙ n.opened;
      back = at.back ∙ n.back;
      listens = all_more (IsListener net') e.listeners l (still_listens net net' l.at (scheme_of addr) at.fresh at.listens e.listeners n.listens) (record { listens = listens_now net.listens net'.listens l.at (scheme_of l.addr) (at.listens ∙ ap (λ (a : Addr). insert net.listens l.at (scheme_of a)) (sym same)); linked = subst (λ (a : Addr). is_linked a ≡ true) (sym same) linked });
      dials = n.dials;
      idles = (let i = at.idles in let j = n.idles in omega (arith, i, j));
      faults = (let i = at.faults in let j = n.faults in omega (arith, i, j));
    })

listens_count : {L : Type 0} (e e' : LinkEndsView L) (net net' : NetView) (addr : Addr) (max : ℕ) → ListensLink (Ok tt) addr max e e' net net' → length e'.listeners + length e'.dialers ≡ length e.listeners + length e.dialers + 1
listens_count e e' net net' addr max (l, same, limit, is, at) =
    let a = ap (λ (x : LinkEndsView _). length x.listeners) is in
    let b = ap (λ (x : LinkEndsView _). length x.dialers) is in
    let m = length_more e.listeners l in
    omega (arith, a, b, m)

-- the net changes, the ends don't
same_new : {L : Type 0} (first : NetView) (z : Setting) (e e' : LinkEndsView L) (net net' : NetView) → e' ≡ e → net' ≡ net → IsNewOn first z e net → IsNewOn first z e' net'
same_new first z e e' net net' a b n = subst (λ (m : NetView). IsNewOn first z e' m) (sym b) (subst (λ (x : LinkEndsView _). IsNewOn first z x net) (sym a) n)

fails_new : {L : Type 0} (first : NetView) (z : Setting) (e e' : LinkEndsView L) (net net' : NetView) (addr : Addr) (max : ℕ) (why : EndError) → ListensLink (Err why) addr max e e' net net' → IsNewOn first z e net → IsNewOn first z e' net'
fails_new first z e e' net net' addr max errors.Fault (same, f) n =
    subst (λ (x : LinkEndsView _). IsNewOn first z x net') (sym same) (record {
      role = n.role;
      none = n.none;
      opened = f.untouched.opened ∙ n.opened;
      back = f.untouched.back ∙ n.back;
      listens = same_listens net net' f.untouched.listens e.listeners n.listens;
      dials = n.dials;
      idles = (let i = f.idles in let j = n.idles in omega (arith, i, j));
      faults = (let i = f.later in let j = n.faults in omega (arith, i, j));
    })
fails_new first z e e' net net' addr max errors.InUse none n = elim none [ ]
fails_new first z e e' net net' addr max errors.NoMemory (same, is) n = same_new first z e e' net net' same is n

fails_same : {L : Type 0} (e e' : LinkEndsView L) (net net' : NetView) (addr : Addr) (max : ℕ) (why : EndError) → ListensLink (Err why) addr max e e' net net' → e' ≡ e
fails_same e e' net net' addr max errors.Fault (same, f) = same
fails_same e e' net net' addr max errors.InUse none = elim none [ ]
fails_same e e' net net' addr max errors.NoMemory (same, is) = same

-- names in the registry and among the ends
names_kept : {L : Type 0} (e e' : EndsView L) (reg reg' : Registry) → e'.names ≡ e.names → reg' ≡ reg → names reg ≡ e.names.names → names reg' ≡ e'.names.names
names_kept e e' reg reg' kept same is = ap names same ∙ (is ∙ sym (ap (λ (v : NamesView). v.names) kept))

listens_link : {L : Type 0} (s : SingleView) (e e' : EndsView L) (net net' : NetView) (reg reg' : Registry) (count : ℕ) (addr : Addr) (max : ℕ) → is_linked addr ≡ true → ListensLink (Ok tt) addr max e.links e'.links net net' → e'.names ≡ e.names → reg' ≡ reg → count < 64 → IsNewNode s e net reg count → IsNewNode s e' net' reg' (count + 1)
listens_link s e e' net net' reg reg' count addr max linked link kept same less n =
    record {
      fresh = n.fresh;
      first = n.first;
      new = listens_new n.first s.setting e.links e'.links net net' addr max linked link n.new;
      names_are = names_kept e e' reg reg' kept same n.names_are;
      counted = links_count e e' count (listens_count e.links e'.links net net' addr max link) kept n.counted;
      most = omega (arith, less);
    }

pub listens_on : {L : Type 0} (s : SingleView) (e e' : EndsView L) (net net' : NetView) (reg reg' : Registry) (count : ℕ) (addr : Addr) (max : ℕ) → ListensAlso (Ok tt) addr max e e' net net' reg reg' → count < 64 → IsNewNode s e net reg count → IsNewNode s e' net' reg' (count + 1)
listens_on s e e' net net' reg reg' count (addrs.Tcp host port) max (link, kept, same) less n =
    listens_link s e e' net net' reg reg' count (addrs.Tcp host port) max refl link kept same less n
listens_on s e e' net net' reg reg' count (addrs.Ws host port path) max (link, kept, same) less n =
    listens_link s e e' net net' reg reg' count (addrs.Ws host port path) max refl link kept same less n
listens_on s e e' net net' reg reg' count (addrs.Ipc path) max (link, kept, same) less n =
    listens_link s e e' net net' reg reg' count (addrs.Ipc path) max refl link kept same less n
listens_on s e e' net net' reg reg' count (addrs.Inproc name) max ((is, (unlisted, more)), kept, same) less n =
    record {
      fresh = n.fresh;
      first = n.first;
      new = same_new n.first s.setting e.links e'.links net net' kept same n.new;
      names_are = ap names more ∙ (names_more reg (record { name = name; role = e.links.role; halves = [] }) ∙ (ap (λ (ns : List (List ℕ)). ns ++ name ∷ []) n.names_are ∙ sym (ap (λ (v : NamesView). v.names) is)));
      counted = names_count e e' count (let a = ap (λ (v : NamesView). length v.names) is in let b = ap (λ (v : NamesView). length v.callers) is in let m = length_more e.names.names name in omega (arith, a, b, m)) kept n.counted;
      most = omega (arith, less);
    }

refused_link : {L : Type 0} (s : SingleView) (e e' : EndsView L) (net net' : NetView) (reg reg' : Registry) (count : ℕ) (addr : Addr) (max : ℕ) (why : EndError) → ListensLink (Err why) addr max e.links e'.links net net' → e'.names ≡ e.names → reg' ≡ reg → IsNewNode s e net reg count → IsNewNode s e' net' reg' count
refused_link s e e' net net' reg reg' count addr max why link kept same n =
    record {
      fresh = n.fresh;
      first = n.first;
      new = fails_new n.first s.setting e.links e'.links net net' addr max why link n.new;
      names_are = names_kept e e' reg reg' kept same n.names_are;
      counted = same_count e e' count (fails_same e.links e'.links net net' addr max why link) kept n.counted;
      most = n.most;
    }

-- nothing has changed
unchanged : {L : Type 0} (s : SingleView) (e e' : EndsView L) (net net' : NetView) (reg reg' : Registry) (count : ℕ) → e' ≡ e → net' ≡ net → reg' ≡ reg → IsNewNode s e net reg count → IsNewNode s e' net' reg' count
unchanged s e e' net net' reg reg' count a b c n =
    subst (λ (x : EndsView _). IsNewNode s x net' reg' count) (sym a) (subst (λ (m : NetView). IsNewNode s e m reg' count) (sym b) (subst (λ (r : Registry). IsNewNode s e net r count) (sym c) n))

pub refused_on : {L : Type 0} (s : SingleView) (e e' : EndsView L) (net net' : NetView) (reg reg' : Registry) (count : ℕ) (addr : Addr) (max : ℕ) (why : EndError) → ListensAlso (Err why) addr max e e' net net' reg reg' → IsNewNode s e net reg count → IsNewNode s e' net' reg' count
refused_on s e e' net net' reg reg' count (addrs.Tcp host port) max why (link, kept, same) n =
    refused_link s e e' net net' reg reg' count (addrs.Tcp host port) max why link kept same n
refused_on s e e' net net' reg reg' count (addrs.Ws host port path) max why (link, kept, same) n =
    refused_link s e e' net net' reg reg' count (addrs.Ws host port path) max why link kept same n
refused_on s e e' net net' reg reg' count (addrs.Ipc path) max why (link, kept, same) n =
    refused_link s e e' net net' reg reg' count (addrs.Ipc path) max why link kept same n
refused_on s e e' net net' reg reg' count (addrs.Inproc name) max errors.Fault (named, kept, same) n = elim named [ ]
refused_on s e e' net net' reg reg' count (addrs.Inproc name) max errors.InUse ((is, (listed, none)), kept, same) n =
    unchanged s e e' net net' reg reg' count (ends_of e' e.links e.names kept is) same none n
refused_on s e e' net net' reg reg' count (addrs.Inproc name) max errors.NoMemory ((is, none), kept, same) n =
    unchanged s e e' net net' reg reg' count (ends_of e' e.links e.names kept is) same none n

-- ---- What is said of a listen

-- who is listed is among the names, and who isn't is not
unlisted_not : (name : List ℕ) (reg : Registry) → IsUnlisted name reg → IsAmong name (names reg) → ⊥
unlisted_not name [] u h = h
unlisted_not name (l ∷ reg) u (inl same) = u 0 l (omega arith) same
unlisted_not name (l ∷ reg) u (inr h) = unlisted_not name reg (λ i d below. u (suc i) d (omega (arith, below))) h

listed_at : (name : List ℕ) (reg : Registry) (i : ℕ) (l : ListenerView) → i < length reg → ((d : ListenerView) → slice_index_or reg i d ≡ l) → l.name ≡ name → IsAmong name (names reg)
listed_at name [] i l less is named = absurd (omega (arith, less))
listed_at name (x ∷ reg) zero l less is named = inl (ap (λ (v : ListenerView). v.name) (is x) ∙ named)
listed_at name (x ∷ reg) (suc i) l less is named = inr (listed_at name reg i l (omega (arith, less)) (λ d. is d) named)

listed_is : (name : List ℕ) (reg : Registry) → IsListed name reg → IsAmong name (names reg)
listed_is name reg (i, l, at) = listed_at name reg i l at.within at.is at.named

-- what contracts see of a node with this socket, these ends, and this net
abbrev pub view_of : {L : Type 0} → SingleView → EndsView L → NetView → NewNodeView L
view_of s e net = record { single = s; ends = e; faults = net.faults }

below : {L : Type 0} (e : EndsView L) (count : ℕ) → count ≡ count_of e → count < 64 → count_of e < 64
below e count is less = subst (λ (n : ℕ). n < 64) is less

pub says_listen : {L : Type 0} (s : SingleView) (e e' : EndsView L) (net net' : NetView) (reg reg' : Registry) (count : ℕ) (addr : Addr) (max : ℕ) → ListensAlso (Ok tt) addr max e e' net net' reg reg' → count < 64 → IsNewNode s e net reg count → Listens (Ok tt) addr max (view_of s e net) (view_of s e' net')
says_listen s e e' net net' reg reg' count (addrs.Tcp host port) max ((l, is_addr, limit, is, at), kept, same) less n =
    (below e count n.counted less, (l, is_addr, limit, ends_of e' _ _ is kept), refl, at.faults)
says_listen s e e' net net' reg reg' count (addrs.Ws host port path) max ((l, is_addr, limit, is, at), kept, same) less n =
    (below e count n.counted less, (l, is_addr, limit, ends_of e' _ _ is kept), refl, at.faults)
says_listen s e e' net net' reg reg' count (addrs.Ipc path) max ((l, is_addr, limit, is, at), kept, same) less n =
    (below e count n.counted less, (l, is_addr, limit, ends_of e' _ _ is kept), refl, at.faults)
says_listen s e e' net net' reg reg' count (addrs.Inproc name) max ((is, (unlisted, more)), kept, same) less n =
    (below e count n.counted less, ((λ (h : IsAmong name e.names.names). unlisted_not name reg unlisted (subst (λ (ns : List (List ℕ)). IsAmong name ns) (sym n.names_are) h)), ends_of e' _ _ kept is), refl, (let q = ap (λ (m : NetView). m.faults) same in omega (arith, q)))

says_refused_link : {L : Type 0} (s : SingleView) (e e' : EndsView L) (net net' : NetView) (addr : Addr) (max : ℕ) (why : EndError) → is_linked addr ≡ true → ListensLink (Err why) addr max e.links e'.links net net' → e'.names ≡ e.names → Listens (Err (error_of why)) addr max (view_of s e net) (view_of s e' net')
says_refused_link s e e' net net' addr max errors.Fault linked (same, f) kept = ((linked, f.fault, f.later), ends_of e' _ _ same kept, refl)
says_refused_link s e e' net net' addr max errors.InUse linked none kept = elim none [ ]
says_refused_link s e e' net net' addr max errors.NoMemory linked (same, is) kept = (ap (λ (m : NetView). m.faults) is, ends_of e' _ _ same kept, refl)

pub says_refused : {L : Type 0} (s : SingleView) (e e' : EndsView L) (net net' : NetView) (reg reg' : Registry) (count : ℕ) (addr : Addr) (max : ℕ) (why : EndError) → ListensAlso (Err why) addr max e e' net net' reg reg' → IsNewNode s e net reg count → Listens (Err (error_of why)) addr max (view_of s e net) (view_of s e' net')
says_refused s e e' net net' reg reg' count (addrs.Tcp host port) max why (link, kept, same) n =
    says_refused_link s e e' net net' (addrs.Tcp host port) max why refl link kept
says_refused s e e' net net' reg reg' count (addrs.Ws host port path) max why (link, kept, same) n =
    says_refused_link s e e' net net' (addrs.Ws host port path) max why refl link kept
says_refused s e e' net net' reg reg' count (addrs.Ipc path) max why (link, kept, same) n =
    says_refused_link s e e' net net' (addrs.Ipc path) max why refl link kept
says_refused s e e' net net' reg reg' count (addrs.Inproc name) max errors.Fault (named, kept, same) n = elim named [ ]
says_refused s e e' net net' reg reg' count (addrs.Inproc name) max errors.InUse ((is, (listed, none)), kept, same) n =
    ((subst (λ (ns : List (List ℕ)). IsAmong name ns) n.names_are (listed_is name reg listed), ap (λ (m : NetView). m.faults) same), ends_of e' _ _ kept is, refl)
says_refused s e e' net net' reg reg' count (addrs.Inproc name) max errors.NoMemory ((is, none), kept, same) n =
    (ap (λ (m : NetView). m.faults) same, ends_of e' _ _ kept is, refl)

-- ---- One dialer more

dials_new : {L : Type 0} (first : NetView) (z : Setting) (e e' : LinkEndsView L) (net : NetView) (addr : Addr) (max : ℕ) → DialsLink (Ok tt) addr max e e' → IsNewOn first z e net → IsNewOn first z e' net
dials_new first z e e' net addr max (d, f, is) n =
    subst (λ (x : LinkEndsView _). IsNewOn first z x net) (sym is) (record {
      role = n.role;
      none = n.none;
      opened = n.opened;
      back = n.back;
      listens = n.listens;
      dials = all_more IsFreshDialer e.dialers d n.dials (record { dialable = f.dialable; next = f.next; place = f.place; tries = f.tries });
      idles = n.idles;
      faults = n.faults;
    })

dials_link : {L : Type 0} (s : SingleView) (e e' : EndsView L) (net : NetView) (reg : Registry) (count : ℕ) (addr : Addr) (max : ℕ) → DialsLink (Ok tt) addr max e.links e'.links → e'.names ≡ e.names → count < 64 → IsNewNode s e net reg count → IsNewNode s e' net reg (count + 1)
dials_link s e e' net reg count addr max (d, f, is) kept less n =
    record {
      fresh = n.fresh;
      first = n.first;
      new = dials_new n.first s.setting e.links e'.links net addr max (d, f, is) n.new;
      names_are = names_kept e e' reg reg kept refl n.names_are;
      counted = links_count e e' count (let a = ap (λ (x : LinkEndsView _). length x.listeners) is in let b = ap (λ (x : LinkEndsView _). length x.dialers) is in let m = length_more e.links.dialers d in omega (arith, a, b, m)) kept n.counted;
      most = omega (arith, less);
    }

pub dials_on : {L : Type 0} (s : SingleView) (e e' : EndsView L) (net : NetView) (reg : Registry) (count : ℕ) (addr : Addr) (max : ℕ) → DialsAlso (Ok tt) addr max e e' → count < 64 → IsNewNode s e net reg count → IsNewNode s e' net reg (count + 1)
dials_on s e e' net reg count (addrs.Tcp host port) max (link, kept) less n = dials_link s e e' net reg count (addrs.Tcp host port) max link kept less n
dials_on s e e' net reg count (addrs.Ws host port path) max (link, kept) less n = dials_link s e e' net reg count (addrs.Ws host port path) max link kept less n
dials_on s e e' net reg count (addrs.Ipc path) max (link, kept) less n = dials_link s e e' net reg count (addrs.Ipc path) max link kept less n
dials_on s e e' net reg count (addrs.Inproc name) max ((c, f, is), kept) less n =
    record {
      fresh = n.fresh;
      first = n.first;
      new = same_new n.first s.setting e.links e'.links net net kept refl n.new;
      names_are = n.names_are ∙ sym (ap (λ (v : NamesView). v.names) is);
      counted = names_count e e' count (let a = ap (λ (v : NamesView). length v.names) is in let b = ap (λ (v : NamesView). length v.callers) is in let m = length_more e.names.callers c in omega (arith, a, b, m)) kept n.counted;
      most = omega (arith, less);
    }

undialed : {L : Type 0} (e e' : LinkEndsView L) (addr : Addr) (max : ℕ) (why : EndError) → DialsLink (Err why) addr max e e' → e' ≡ e
undialed e e' addr max errors.Fault none = elim none [ ]
undialed e e' addr max errors.InUse none = elim none [ ]
undialed e e' addr max errors.NoMemory same = same

pub undialed_same : {L : Type 0} (e e' : EndsView L) (addr : Addr) (max : ℕ) (why : EndError) → DialsAlso (Err why) addr max e e' → e' ≡ e
undialed_same e e' (addrs.Tcp host port) max why (link, kept) = ends_of e' _ _ (undialed e.links e'.links (addrs.Tcp host port) max why link) kept
undialed_same e e' (addrs.Ws host port path) max why (link, kept) = ends_of e' _ _ (undialed e.links e'.links (addrs.Ws host port path) max why link) kept
undialed_same e e' (addrs.Ipc path) max why (link, kept) = ends_of e' _ _ (undialed e.links e'.links (addrs.Ipc path) max why link) kept
undialed_same e e' (addrs.Inproc name) max errors.Fault (named, kept) = elim named [ ]
undialed_same e e' (addrs.Inproc name) max errors.InUse (named, kept) = elim named [ ]
undialed_same e e' (addrs.Inproc name) max errors.NoMemory (same, kept) = ends_of e' _ _ kept same

pub undialed_on : {L : Type 0} (s : SingleView) (e e' : EndsView L) (net : NetView) (reg : Registry) (count : ℕ) (addr : Addr) (max : ℕ) (why : EndError) → DialsAlso (Err why) addr max e e' → IsNewNode s e net reg count → IsNewNode s e' net reg count
undialed_on s e e' net reg count addr max why d n = unchanged s e e' net net reg reg count (undialed_same e e' addr max why d) refl refl n

-- ---- What is said of a dial

pub says_dial : {L : Type 0} (s : SingleView) (e e' : EndsView L) (net : NetView) (count : ℕ) (addr : Addr) (max : ℕ) → DialsAlso (Ok tt) addr max e e' → MayDial addr → count < 64 → count ≡ count_of e → Dials (Ok tt) addr max (view_of s e net) (view_of s e' net)
says_dial s e e' net count (addrs.Tcp host port) max ((d, f, is), kept) may less counted =
    (may, below e count counted less, (d, f, ends_of e' _ _ is kept), refl, refl)
says_dial s e e' net count (addrs.Ws host port path) max ((d, f, is), kept) may less counted =
    (may, below e count counted less, (d, f, ends_of e' _ _ is kept), refl, refl)
says_dial s e e' net count (addrs.Ipc path) max ((d, f, is), kept) may less counted =
    (may, below e count counted less, (d, f, ends_of e' _ _ is kept), refl, refl)
says_dial s e e' net count (addrs.Inproc name) max ((c, f, is), kept) may less counted =
    (may, below e count counted less, (c, f, ends_of e' _ _ kept is), refl, refl)

pub says_undialed : {L : Type 0} (s : SingleView) (e e' : EndsView L) (net : NetView) (addr : Addr) (max : ℕ) (why : EndError) → DialsAlso (Err why) addr max e e' → Dials (Err (error_of why)) addr max (view_of s e net) (view_of s e' net)
says_undialed s e e' net addr max errors.NoMemory d =
    (tt, ap (λ (x : EndsView _). view_of s x net) (undialed_same e e' addr max errors.NoMemory d))
says_undialed s e e' net (addrs.Tcp host port) max errors.Fault (link, kept) = elim link [ ]
says_undialed s e e' net (addrs.Ws host port path) max errors.Fault (link, kept) = elim link [ ]
says_undialed s e e' net (addrs.Ipc path) max errors.Fault (link, kept) = elim link [ ]
says_undialed s e e' net (addrs.Inproc name) max errors.Fault (named, kept) = elim named [ ]
says_undialed s e e' net (addrs.Tcp host port) max errors.InUse (link, kept) = elim link [ ]
says_undialed s e e' net (addrs.Ws host port path) max errors.InUse (link, kept) = elim link [ ]
says_undialed s e e' net (addrs.Ipc path) max errors.InUse (link, kept) = elim link [ ]
says_undialed s e e' net (addrs.Inproc name) max errors.InUse (named, kept) = elim named [ ]

-- ---- By the text of an address

views_same : {L : Type 0} (a b : NewNodeView L) → a.ends ≡ b.ends → a.single ≡ b.single → a.faults ≡ b.faults → a ≡ b
views_same a b e s f =
    subst (λ (x : ℕ). a ≡ record { single = b.single; ends = b.ends; faults = x }) f (subst (λ (x : SingleView). a ≡ record { single = x; ends = b.ends; faults = a.faults }) s (subst (λ (x : EndsView _). a ≡ record { single = a.single; ends = x; faults = a.faults }) e refl))

pub listens_text : {L : Type 0} (r : Result (Unit {0}) EndsError) (text : List ℕ) (addr : Addr) (max : ℕ) (old new : NewNodeView L) → Spells addr text → Listens r addr max old new → OfText r text (λ (a : Addr). Listens r a max old new) (new ≡ old)
listens_text (Ok done) text addr max old new s l = (addr, s, l)
listens_text (Err (refusals.Address at)) text addr max old new s l = elim l.0 [ ]
listens_text (Err refusals.NoMemory) text addr max old new s (faults, ends, single) = views_same new old ends single faults
listens_text (Err refusals.Host) text addr max old new s l = (addr, s, l)
listens_text (Err refusals.Fault) text addr max old new s l = (addr, s, l)
listens_text (Err refusals.InUse) text addr max old new s l = (addr, s, l)
listens_text (Err refusals.Many) text addr max old new s l = (addr, s, l)

pub dials_text : {L : Type 0} (r : Result (Unit {0}) EndsError) (text : List ℕ) (addr : Addr) (max : ℕ) (old new : NewNodeView L) → Spells addr text → Dials r addr max old new → OfText r text (λ (a : Addr). Dials r a max old new) (new ≡ old)
dials_text (Ok done) text addr max old new s d = (addr, s, d)
dials_text (Err (refusals.Address at)) text addr max old new s d = elim d.0 [ ]
dials_text (Err refusals.NoMemory) text addr max old new s d = d.1
dials_text (Err refusals.Host) text addr max old new s d = (addr, s, d)
dials_text (Err refusals.Fault) text addr max old new s d = (addr, s, d)
dials_text (Err refusals.InUse) text addr max old new s d = (addr, s, d)
dials_text (Err refusals.Many) text addr max old new s d = (addr, s, d)

pub no_text : (why : EndsError) (text : List ℕ) (says : Addr → Type 0) (same : Type 0) → ReadsAddress (Err why) text → same → OfText (Err why) text says same
no_text (refusals.Address at) text says same r s = (r, s)
no_text refusals.NoMemory text says same r s = s
no_text refusals.Host text says same r s = elim r [ ]
no_text refusals.Fault text says same r s = elim r [ ]
no_text refusals.InUse text says same r s = elim r [ ]
no_text refusals.Many text says same r s = elim r [ ]
