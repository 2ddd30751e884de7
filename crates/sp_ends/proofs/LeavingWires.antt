-- What the wire of a pipe that is down says about its link.
use Rattle.std.proofs.Common.{length-append, ◌≡◌, ◌≤◌, ◌<◌, ◌+◌, ◌++◌, ℕ, Bool, true, false, cond, List, [], ◌∷◌, length, Option, Some, None, refl, sym, ap, subst, ◌∙◌, inl, inr, arith, append_assoc, append-nil}
use Rattle.std.proofs.lemmas.Bool.{cases_lt}
use Rattle.std.specs.Prelude.{⊤, ◌==◌, ◌^◌, ◌-◌, ◌⊎◌, IfSome, if◌then◌else◌}
use Rattle.turn_lock.specs.declared.turn.Turn.{Turn}
use Rattle.sp_base.specs.Outside.{Told, IsPrefix}
use Rattle.sp_base.specs.SpTcp.{hello}
use Rattle.sp_base.specs.SpStream.{framing_for, scheme_under, stream_frames, stream_text, stream_shows, IsStreamBad}
use Rattle.sp_base.specs.declared.framing.Framing.{Framing}
use Rattle.sp_base.specs.declared.framing.Framing.TheVariants as framings
use Rattle.sp_base.proofs.StreamShows.{stream-cons, stream-append, framing-under}
use Rattle.sp_base.specs.Roles.{role_number}
use Rattle.sp_base.specs.Views.{LinkView}
use Rattle.sp_base.specs.Wires.{WireView, WireName, OverLink, scheme_number, number_of, numbers_of}
use Rattle.sp_base.specs.declared.role.Role.{Role}
use Rattle.sp_base.specs.declared.role.Role.TheVariants as roles
use Rattle.sp_base.specs.declared.addr.Scheme.{Scheme}
use Rattle.sp_base.specs.declared.addr.Scheme.TheVariants as schemes
use Rattle.sp_msg.specs.Wires.{AfterShut}
use Rattle.sp_tcp.specs.Views.{TcpView}
use Rattle.sp_tcp.specs.TcpWires.{Framed, ShowsIn, WrittenIn, CutShort, number_in, told_number, wire_name}
use Rattle.sp_history.specs.declared.entry.Entry.{Entry}
use Rattle.sp_history.specs.declared.entry.Entry.TheVariants.{Up, Met, NoUp, Tick}
use Rattle.sp_history.specs.declared.entry.Why.{Why}
use Rattle.sp_history.specs.declared.entry.Why.TheVariants as whys
use Rattle.sp_history.specs.declared.setting.Setting.{Setting}
use Rattle.sp_history.specs.Lists.{has}
use Rattle.sp_history.specs.Past.{past_of, name_of, limit_of, frames, outs, quiets, down_for, up_to_most}
use Rattle.sp_history.specs.Found.{ticks}
use Rattle.core_state.specs.Wires.{IsDownWire, ShowsWhy}
use Rattle.sp_links.specs.Ways.{peer_number, HasOpened}
use Rattle.sp_links.specs.declared.way.Way.{Way}
use Rattle.sp_links.specs.declared.way.Way.TheVariants as ways
use Rattle.sp_links.specs.Openings.{openings}
use Rattle.sp_links.specs.Origins.{Origins, IsAmong, run_ways}
use Rattle.sp_links.specs.Numbers.{way_number}
use Rattle.sp_links.specs.Opened.{OpenedView, IsOpenedOver, named, opened_number}
use Rattle.sp_links.specs.EndWires.{shown, link_of, Stands, IsOverLanes}
use Rattle.sp_links.specs.declared.wire.EndWire.{EndWire}
use Rattle.sp_links.specs.declared.wire.EndWire.TheVariants as wires
use Rattle.sp_links.proofs.WayNumbers.{one_way}
use Rattle.sp_ends.specs.LinkRecords.{lane_place, place_of, greeting, Each, Carries, WentDownFor, IsDrained}
use Rattle.sp_ends.specs.LinkRecords.{no_limit}
use Rattle.sp_ends.specs.LinkCounts.{greeting_ticks, ticks_where, idle_turns, IsRead}
use Rattle.sp_ends.specs.RunLinks.{IsNoneOr, AreNumbers, name_number, IsNameOver, IsLaneName, IsNamed, HasCarried, IsAskedIn}
use Rattle.sp_ends.proofs.LinkPlaces.{passed, Kept, right_of}
use Rattle.sp_ends.proofs.LaterEntries.{idle_more}

-- ---- Roles

abbrev role_at : ℕ → Role
role_at n =
    if n == 16 then roles.Pair0 else if n == 17 then roles.Pair1 else if n == 32 then roles.Pub else if n == 33 then roles.Sub else if n == 48 then roles.Req else if n == 49 then roles.Rep else if n == 80 then roles.Push else if n == 81 then roles.Pull else if n == 98 then roles.Surveyor else if n == 99 then roles.Respondent else roles.Bus

at_number : (r : Role) → role_at (role_number r) ≡ r
at_number roles.Pair0 = refl
at_number roles.Pair1 = refl
at_number roles.Pub = refl
at_number roles.Sub = refl
at_number roles.Req = refl
at_number roles.Rep = refl
at_number roles.Push = refl
at_number roles.Pull = refl
at_number roles.Surveyor = refl
at_number roles.Respondent = refl
at_number roles.Bus = refl

one_role : (a b : Role) → role_number a ≡ role_number b → a ≡ b
one_role a b e = sym (at_number a) ∙ (ap role_at e ∙ at_number b)

-- ---- Names

heads : (x y : ℕ) (a b : List ℕ) → x ∷ a ≡ y ∷ b → x ≡ y
heads x y a b e = cc

tails : (x y : ℕ) (a b : List ℕ) → x ∷ a ≡ y ∷ b → a ≡ b
tails x y a b e = cc

split_numbers : (own own' : Option ℕ) (a b : List ℕ) → number_of own ++ a ≡ number_of own' ++ b → (own ≡ own') × (a ≡ b)
split_numbers None None a b e = (refl, cc)
split_numbers None (Some n) a b e = absurd (omega (arith, heads 0 1 a (n ∷ b) e))
split_numbers (Some m) None a b e = absurd (omega (arith, heads 1 0 (m ∷ a) b e))
split_numbers (Some m) (Some n) a b e = (cc, cc)

same_numbers : (own peer own' peer' : Option ℕ) → number_of own ++ number_of peer ≡ number_of own' ++ number_of peer' → (own ≡ own') × (peer ≡ peer')
same_numbers own peer own' peer' e =
    let first = split_numbers own own' (number_of peer) (number_of peer') e in
    (first.0, (split_numbers peer peer' [] [] (ap (λ (l : List ℕ). l ++ []) first.1)).0)

same_scheme : (a b : Scheme) → scheme_number a ≡ scheme_number b → a ≡ b
same_scheme schemes.Tcp schemes.Tcp e = refl
same_scheme schemes.Tcp schemes.Ws e = absurd (omega (arith, e))
same_scheme schemes.Tcp schemes.Inproc e = absurd (omega (arith, e))
same_scheme schemes.Ws schemes.Tcp e = absurd (omega (arith, e))
same_scheme schemes.Ws schemes.Ws e = refl
same_scheme schemes.Ws schemes.Inproc e = absurd (omega (arith, e))
same_scheme schemes.Inproc schemes.Tcp e = absurd (omega (arith, e))
same_scheme schemes.Inproc schemes.Ws e = absurd (omega (arith, e))
same_scheme schemes.Inproc schemes.Inproc e = refl
same_scheme schemes.Tcp schemes.Ipc e = absurd (omega (arith, e))
same_scheme schemes.Ws schemes.Ipc e = absurd (omega (arith, e))
same_scheme schemes.Inproc schemes.Ipc e = absurd (omega (arith, e))
same_scheme schemes.Ipc schemes.Tcp e = absurd (omega (arith, e))
same_scheme schemes.Ipc schemes.Ws e = absurd (omega (arith, e))
same_scheme schemes.Ipc schemes.Inproc e = absurd (omega (arith, e))
same_scheme schemes.Ipc schemes.Ipc e = refl

-- the pipe came up with this name, over this link
pub record NamedAt (o : Origins) (z : Setting) (past : List Entry) (p place : ℕ) : Type 0 where
  pub numbers : List ℕ
  pub name : name_of past p ≡ Some numbers
  pub max : ℕ
  pub limit : limit_of past p ≡ Some max
  pub limit_is : IsAmong max o.limits
  pub over : IsNameOver o z past place max numbers

-- the same name, after the same number of ticks
name_on : (o : Origins) (z : Setting) (a b : List Entry) (place max : ℕ) (ns : List ℕ) → greeting_ticks b place ≡ greeting_ticks a place → IsNameOver o z a place max ns → IsNameOver o z b place max ns
name_on o z a b place max ns same n =
    record { scheme = n.scheme; spent = n.spent; own = n.own; peer = n.peer; is = n.is; are = n.are; rounds = λ r. let x = n.rounds r in omega (arith, x, same) }

-- a pipe has this name and this limit, over a link or over lanes
abbrev pub IsSo : Origins → Setting → List Entry → ℕ → ℕ → List ℕ → Type 0
IsSo o z past place max ns =
    (place ≡ lane_place → ⊥) × IsAmong max o.limits × IsNameOver o z past place max ns ⊎ (place ≡ lane_place) × (max ≡ no_limit) × IsLaneName ns

-- the pipe came up with this name and this limit, over this link or over lanes
pub record NamedSo (o : Origins) (z : Setting) (past : List Entry) (p place : ℕ) : Type 0 where
  pub numbers : List ℕ
  pub name : name_of past p ≡ Some numbers
  pub max : ℕ
  pub limit : limit_of past p ≡ Some max
  pub so : IsSo o z past place max numbers

-- after the same number of ticks
so_on : (o : Origins) (z : Setting) (a b : List Entry) (place max : ℕ) (ns : List ℕ) → greeting_ticks b place ≡ greeting_ticks a place → IsSo o z a place max ns → IsSo o z b place max ns
so_on o z a b place max ns same (inl n) = inl (n.0, n.1, name_on o z a b place max ns same n.2)
so_on o z a b place max ns same (inr n) = inr n

so_later : (o : Origins) (z : Setting) (a b : List Entry) (p place : ℕ) → name_of b p ≡ name_of a p → limit_of b p ≡ limit_of a p → greeting_ticks b place ≡ greeting_ticks a place → NamedSo o z a p place → NamedSo o z b p place
so_later o z a b p place name limit same n = record { numbers = n.numbers; name = name ∙ n.name; max = n.max; limit = limit ∙ n.limit; so = so_on o z a b place n.max n.numbers same n.so }

pub named_so : (o : Origins) (z : Setting) (first opened : ℕ) (past : List Entry) (p place : ℕ) → Kept first opened past → (first < opened → opened ≤ lane_place) → Each (IsNamed o z) past → place_of past p ≡ Some place → NamedSo o z past p place
named_so o z first opened [] p place kept few all e = cc
named_so o z first opened (Up q other limit name ∷ past) p place kept few all e = go (q == p) refl e (named_so o z first opened past p place (right_of _ _ kept) few all.1)
  where
    more : List Entry
    more = Up q other limit name ∷ past

    here : other ≡ place → (q == p) ≡ true → NamedSo o z more p place
    here same t = record { numbers = name.numbers; name = rw t refl; max = limit; limit = rw t refl; so = so_on o z past more place limit name.numbers refl (subst (λ (x : ℕ). IsSo o z past x limit name.numbers) same all.0) }

    go : (t : Bool) → (q == p) ≡ t → cond t (Some other) (place_of past p) ≡ Some place → (place_of past p ≡ Some place → NamedSo o z past p place) → NamedSo o z more p place
    go true t is before = here (cc) t
    go false t is before = so_later o z past more p place (rw t refl) (rw t refl) refl (before is)
named_so o z first opened (Tick t due ∷ past) p place kept few all e =
    let off = passed first opened past p place kept few e in so_later o z past (Tick t due ∷ past) p place refl refl (rw off refl) (named_so o z first opened past p place kept few all.1 e)
named_so o z first opened (Met other ∷ past) p place kept few all e = so_later o z past (Met other ∷ past) p place refl refl refl (named_so o z first opened past p place (right_of _ _ kept) few all.1 e)
named_so o z first opened (NoUp other miss ∷ past) p place kept few all e = so_later o z past (NoUp other miss ∷ past) p place refl refl refl (named_so o z first opened past p place (right_of _ _ kept) few all.1 e)
named_so o z first opened (x ∷ past) p place kept few all e = so_later o z past (x ∷ past) p place refl refl refl (named_so o z first opened past p place kept few all.1 e)

-- ---- Told texts

told_so : (P Q : List ℕ → Type 0) (o : Option (List ℕ)) → ((s : List ℕ) → P s → Q s) → Told o P → Told o Q
told_so P Q None f t = tt
told_so P Q (Some s) f t = f s t

told_both : (P R Q : List ℕ → Type 0) (o : Option (List ℕ)) → ((s : List ℕ) → P s → R s → Q s) → Told o P → Told o R → Told o Q
told_both P R Q None f t u = tt
told_both P R Q (Some s) f t u = f s t u

number_told : (n : ℕ) (o : Option (List ℕ)) → IsNoneOr n (told_number o) → Told o (λ s. number_in s ≡ n)
number_told n None h = tt
number_told n (Some s) h = h

hello_prefix : (f : Framing) (role : ℕ) (bodies : List (List ℕ)) (s rest : List ℕ) → s ≡ stream_text f role bodies ++ rest → IsPrefix (hello role) s
hello_prefix f role bodies s rest e = (stream_frames f bodies ++ rest, e ∙ append_assoc (hello role) (stream_frames f bodies) rest)

part_prefix : (f : Framing) (part : List ℕ) (waiting : List (List ℕ)) → CutShort f part waiting → IsPrefix part (stream_frames f waiting)
part_prefix f part [] cut = (stream_frames f [], ap (λ (l : List ℕ). l ++ stream_frames f []) (sym cut))
part_prefix f part (t ∷ rest) cut = (cut.0.0 ++ stream_frames f rest, stream-cons f t rest ∙ ap (λ (l : List ℕ). l ++ stream_frames f rest) cut.0.1 ∙ append_assoc part cut.0.0 (stream_frames f rest))

written_prefix : (f : Framing) (role : ℕ) (whole waiting : List (List ℕ)) (part s : List ℕ) → s ≡ stream_text f role whole ++ part → CutShort f part waiting → IsPrefix s (stream_text f role (whole ++ waiting))
written_prefix f role whole waiting part s is cut =
    let p = part_prefix f part waiting cut in (
      p.0,
      ap (λ (l : List ℕ). hello role ++ l) (stream-append f whole waiting ∙ ap (λ (l : List ℕ). stream_frames f whole ++ l) p.1)
          ∙ sym (append_assoc (hello role) (stream_frames f whole) (part ++ p.0)) ∙ sym (append_assoc (stream_text f role whole) part p.0) ∙ ap (λ (l : List ℕ). l ++ p.0) (sym is),
    )

none_waits : (waiting : List (List ℕ)) → length waiting ≡ 0 → waiting ≡ []
none_waits [] e = refl
none_waits (t ∷ rest) e = absurd (omega arith)

written_whole : (f : Framing) (role : ℕ) (whole waiting : List (List ℕ)) (part s : List ℕ) → s ≡ stream_text f role whole ++ part → CutShort f part waiting → length waiting ≡ 0 → s ≡ stream_text f role (whole ++ waiting)
written_whole f role whole waiting part s is cut none =
    let empty = none_waits waiting none in
    let part_is : part ≡ [] = subst (λ (w : List (List ℕ)). CutShort f part w) empty cut in
    is ∙ ap (λ (l : List ℕ). stream_text f role whole ++ l) part_is ∙ append-nil (stream_text f role whole) ∙ ap (stream_text f role) (sym (append-nil whole) ∙ ap (λ (w : List (List ℕ)). whole ++ w) (sym empty))

few_ticks : (test : List Entry → Bool) (past : List Entry) → ticks_where test past ≤ length (ticks past)
few_ticks test [] = omega arith
few_ticks test (Tick t due ∷ past) = go (test past) (few_ticks test past)
  where
    go : (b : Bool) → ticks_where test past ≤ length (ticks past) → cond b (ticks_where test past + 1) (ticks_where test past) ≤ length (ticks past ++ t ∷ [])
    go true l = omega (arith, length-append (ticks past) (t ∷ []))
    go false l = omega (arith, length-append (ticks past) (t ∷ []))
few_ticks test (x ∷ past) = few_ticks test past

-- ---- The link of a pipe that is down, from its wire when it is shut

some_is : (a b : List ℕ) → Some a ≡ Some b → a ≡ b
some_is a b h = cc

-- what the name says about the link of a wire over TCP or IPC
record OverIt (z : Setting) (place max spent : ℕ) (v : TcpView) : Type 0 where
  place_is : v.link.place ≡ place
  max_is : v.max ≡ max
  scheme : v.link.scheme ≡ scheme_under v.framing
  waited : spent ≤ v.link.idles + v.link.stalls
  own : Told v.link.written (λ s. number_in s ≡ role_number z.role)
  peer : Told v.link.came (λ s. number_in s ≡ peer_number z.role)

not_opened : (s : Scheme) → scheme_number s ≡ name_number schemes.Ws → ⊥
not_opened schemes.Tcp e = omega (arith, e)
not_opened schemes.Ws e = omega (arith, e)
not_opened schemes.Inproc e = omega (arith, e)
not_opened schemes.Ipc e = omega (arith, e)

-- a link of this scheme is framed so
framed_under : (v : TcpView) (f : Framing) → v.framing ≡ framing_for v.link.scheme → v.link.scheme ≡ scheme_under f → v.framing ≡ f
framed_under v f by under = by ∙ ap framing_for under ∙ framing-under f

over_at : (z : Setting) (place max spent : ℕ) (f : Framing) (own peer : Option ℕ) (v : TcpView) → IsNoneOr (role_number z.role) own → IsNoneOr (peer_number z.role) peer → numbers_of v.wire.name ≡ numbers_of (OverLink place max (scheme_number (scheme_under f)) spent own peer) → Framed v → OverIt z place max spent v
over_at z place max spent f own peer v is_own is_peer shown framed =
    let e : numbers_of (wire_name v.link v.max framed.spent) ≡ numbers_of (OverLink place max (scheme_number (scheme_under f)) spent own peer) = ap numbers_of (sym framed.name) ∙ shown in
    let e1 = tails _ _ _ _ e in
    let e2 = tails _ _ _ _ e1 in
    let e3 = tails _ _ _ _ e2 in
    let e4 = tails _ _ _ _ e3 in
    let spent_is : framed.spent ≡ spent = heads _ _ _ _ e4 in
    let ends = same_numbers (told_number v.link.written) (told_number v.link.came) own peer (tails _ _ _ _ e4) in
    let under : v.link.scheme ≡ scheme_under f = same_scheme v.link.scheme (scheme_under f) (heads _ _ _ _ e3) in
    record {
      place_is = heads _ _ _ _ e1;
      max_is = heads _ _ _ _ e2;
      scheme = under ∙ ap scheme_under (sym (framed_under v f framed.framed_by under));
      waited = omega (arith, spent_is, framed.waited);
      own = number_told (role_number z.role) v.link.written (subst (λ (n : Option ℕ). IsNoneOr (role_number z.role) n) (sym ends.0) is_own);
      peer = number_told (peer_number z.role) v.link.came (subst (λ (n : Option ℕ). IsNoneOr (peer_number z.role) n) (sym ends.1) is_peer);
    }

over_it : (o : Origins) (z : Setting) (place max spent : ℕ) (scheme : Scheme) (own peer : Option ℕ) (v : TcpView) → AreNumbers o z scheme own peer → numbers_of v.wire.name ≡ numbers_of (OverLink place max (name_number scheme) spent own peer) → Framed v → OverIt z place max spent v
over_it o z place max spent schemes.Inproc own peer v are e framed = absurd are
over_it o z place max spent schemes.Ws own peer v are e framed =
    let all : numbers_of (wire_name v.link v.max framed.spent) ≡ numbers_of (OverLink place max (name_number schemes.Ws) spent own peer) = ap numbers_of (sym framed.name) ∙ e in
    absurd (not_opened v.link.scheme (heads _ _ _ _ (tails _ _ _ _ (tails _ _ _ _ (tails _ _ _ _ all)))))
over_it o z place max spent schemes.Tcp own peer v are shown framed = over_at z place max spent framings.Tcp own peer v are.0 are.1 shown framed
over_it o z place max spent schemes.Ipc own peer v are shown framed = over_at z place max spent framings.Ipc own peer v are.0 are.1 shown framed

some_holds : (P : List (List ℕ) → Type 0) (o : Option (List (List ℕ))) (x : List (List ℕ)) → o ≡ Some x → IfSome o P → P x
some_holds P o x e h = subst (λ (q : Option (List (List ℕ))). IfSome q P) e h

-- what came shows the frames
came_prefix : (z : Setting) (past : List Entry) (p : ℕ) (v : TcpView) (s : List ℕ) → IfSome v.wire.came (λ texts. texts ≡ frames past p) → ShowsIn v s → number_in s ≡ peer_number z.role → IsPrefix (stream_text v.framing (peer_number z.role) (frames past p)) s
came_prefix z past p v s came shows_in number =
    let same : shows_in.bodies ≡ frames past p = some_holds (λ texts. texts ≡ frames past p) v.wire.came shows_in.bodies shows_in.came came in
    subst (λ (fs : List (List ℕ)). IsPrefix (stream_text v.framing (peer_number z.role) fs) s) same (subst (λ (n : ℕ). IsPrefix (stream_text v.framing n shows_in.bodies) s) number shows_in.text_prefix)

record WrittenAs (z : Setting) (past : List Entry) (p : ℕ) (v : TcpView) (s : List ℕ) : Type 0 where
  opens : IsPrefix (hello (role_number z.role)) s
  prefix : IsPrefix s (stream_text v.framing (role_number z.role) (outs past p))
  all : v.wire.waits ≡ 0 → s ≡ stream_text v.framing (role_number z.role) (outs past p)

written_as : (z : Setting) (past : List Entry) (p : ℕ) (v : TcpView) (s : List ℕ) → IfSome v.wire.outs (λ texts. texts ≡ outs past p) → WrittenIn v s → number_in s ≡ role_number z.role → WrittenAs z past p v s
written_as z past p v s outs_are w number =
    let same : w.whole ++ w.waiting ≡ outs past p = some_holds (λ texts. texts ≡ outs past p) v.wire.outs (w.whole ++ w.waiting) w.outs outs_are in
    let is : s ≡ stream_text v.framing (role_number z.role) w.whole ++ w.part = w.is ∙ ap (λ (n : ℕ). stream_text v.framing n w.whole ++ w.part) number in
    record {
      opens = hello_prefix v.framing (role_number z.role) w.whole s w.part is;
      prefix = subst (λ (os : List (List ℕ)). IsPrefix s (stream_text v.framing (role_number z.role) os)) same (written_prefix v.framing (role_number z.role) w.whole w.waiting w.part s is w.cut);
      all = λ none. written_whole v.framing (role_number z.role) w.whole w.waiting w.part s is w.cut (w.waits ∙ none) ∙ ap (stream_text v.framing (role_number z.role)) same;
    }

-- what is left of a pipe that is down: its link, shut
pub record LeftBy (o : Origins) (z : Setting) (h : List (Turn Entry)) (p place : ℕ) (link : LinkView) : Type 0 where
  pub place_is : link.place ≡ place
  pub asked : IsAskedIn (past_of h) place link
  pub carried : HasCarried o z h p link

module _ (o : Origins) (z : Setting) (h : List (Turn Entry)) (p place : ℕ) (n : NamedAt o z (past_of h) p place) (why : Why) (w : WireView) (down : IsDownWire z (past_of h) p why w) where
  abbrev past : List Entry
  past = past_of h

  -- the wire, when it is shut, has the name
  name_is : (v : WireView) → AfterShut w v → numbers_of v.name ≡ numbers_of (OverLink place n.max (name_number n.over.scheme) n.over.spent n.over.own n.over.peer)
  name_is v after =
      let shown : name_of past p ≡ Some (numbers_of v.name) = down.agrees.name_is ∙ ap (λ (x : WireView). Some (numbers_of x.name)) (sym after) in
      some_is _ _ (sym shown ∙ n.name) ∙ n.over.is

  read_by : (v : WireView) (link : LinkView) → AfterShut w v → v.idles ≤ link.idles → IsRead h p link
  read_by v link after idles rises =
      let q : idle_turns h p + 0 ≤ quiets past p = idle_more p h [] in
      let i : w.idles ≡ up_to_most (quiets past p) = down.agrees.idles_is in
      let same = ap (λ (x : WireView). x.idles) after in
      omega (arith, q, i, same, idles, rises)

  asked_by : (link : LinkView) → n.over.spent ≤ link.idles + link.stalls → IsAskedIn past place link
  asked_by link waited few i s = go (cases_lt n.over.spent (2 ^ 64 - 1))
    where
      total : greeting_ticks past place ≤ length (ticks past)
      total = few_ticks (λ before. has (greeting before) place) past

      go : (n.over.spent < 2 ^ 64 - 1) ⊎ (2 ^ 64 - 1 ≤ n.over.spent) → greeting_ticks past place ≤ link.idles + link.stalls + 1
      go (inl lt) = let r = n.over.rounds lt in omega (arith, r, waited)
      go (inr le) = omega (arith, total, few, le, waited)

  -- ---- Over TCP and IPC

  module _ (v : TcpView) (after : AfterShut w v.wire) (framed : Framed v) where
    over : OverIt z place n.max n.over.spent v
    over = over_it o z place n.max n.over.spent n.over.scheme n.over.own n.over.peer v n.over.are (name_is v.wire after) framed

    came_are : IfSome v.wire.came (λ texts. texts ≡ frames past p)
    came_are = subst (λ (c : Option (List (List ℕ))). IfSome c (λ texts. texts ≡ frames past p)) (sym (ap (λ (x : WireView). x.came) after)) down.agrees.came_is

    outs_are : IfSome v.wire.outs (λ texts. texts ≡ outs past p)
    outs_are = subst (λ (c : Option (List (List ℕ))). IfSome c (λ texts. texts ≡ outs past p)) (sym (ap (λ (x : WireView). x.outs) after)) down.agrees.outs_is

    came : Told v.link.came (λ s. IsPrefix (stream_text v.framing (peer_number z.role) (frames past p)) s)
    came = told_both (ShowsIn v) (λ s. number_in s ≡ peer_number z.role) _ v.link.came (λ s a b. came_prefix z past p v s came_are a b) framed.came over.peer

    written : Told v.link.written (WrittenAs z past p v)
    written = told_both (WrittenIn v) (λ s. number_in s ≡ role_number z.role) _ v.link.written (λ s a b. written_as z past p v s outs_are a b) framed.written over.own

    opened : HasOpened (run_ways z.role o) (ways.Greeting v.framing) v.link
    opened = told_so _ _ v.link.came (λ s prefix. told_so (WrittenAs z past p v) _ v.link.written (λ t a. (hello_prefix v.framing (peer_number z.role) (frames past p) s prefix.0 prefix.1, λ owed e. subst (λ (l : List ℕ). IsPrefix l t) (sym e) a.opens)) written) came

    drained : Told v.link.came (λ s. v.wire.came ≡ Some (stream_shows v.framing (number_in s) v.max s)) → IsDrained v.framing z n.max past p v.link
    drained all = told_both _ _ _ v.link.came (λ s a b.
        let same = some_holds (λ texts. texts ≡ frames past p) v.wire.came (stream_shows v.framing (number_in s) v.max s) a came_are in
        sym same ∙ ap (λ (k : ℕ). stream_shows v.framing k v.max s) b ∙ ap (λ (m : ℕ). stream_shows v.framing (peer_number z.role) m s) over.max_is) all over.peer

    is_bad : Told v.link.came (λ s. IsStreamBad v.framing (number_in s) v.max s) → Told v.link.came (IsStreamBad v.framing (peer_number z.role) n.max)
    is_bad all = told_both _ _ _ v.link.came (λ s a b. subst (λ (m : ℕ). IsStreamBad v.framing (peer_number z.role) m s) over.max_is (subst (λ (k : ℕ). IsStreamBad v.framing k v.max s) b a)) all over.peer

    went_down_by : (why : Why) → ShowsWhy z past p why w → WentDownFor v.framing z n.max past p why v.link
    went_down_by whys.Ended s = let f = framed.ended (ap (λ (x : WireView). x.ended) after ∙ s) in (f.0, drained f.1)
    went_down_by whys.Failed s = let same = ap (λ (x : WireView). x.faults) after in omega (arith, s, same, framed.faults)
    went_down_by whys.Malformed (inl s) = inl s
    went_down_by whys.Malformed (inr s) = let f = framed.malformed (ap (λ (x : WireView). x.malformed) after ∙ s) in inr (is_bad f.1, drained f.0)
    went_down_by whys.Refusal s = let same = ap (λ (x : WireView). x.refusals) after in absurd (omega (arith, s, same, framed.refusals))
    went_down_by whys.Closed s = tt
    went_down_by whys.NoMemory s = tt

    why_of : (other : Why) → down_for past p ≡ Some other → why ≡ other
    why_of other e = let same = down.why_is in cc

    tcp_left : LeftBy o z h p place v.link
    tcp_left = record {
      place_is = over.place_is;
      asked = asked_by v.link over.waited;
      carried = record {
        max = n.max;
        limit = n.limit;
        limit_is = n.limit_is;
        opened = (ways.Greeting v.framing, (over.scheme, tt), opened);
        carries = λ f under. subst (λ (k : Framing). Carries k z past p v.link) (framed_under v f framed.framed_by under) (record { came = came; written = told_so _ _ v.link.written (λ s a. a.prefix) written });
        went_down = λ f under other e. subst (λ (k : Framing). WentDownFor k z n.max past p other v.link) (framed_under v f framed.framed_by under) (subst (λ (y : Why). WentDownFor v.framing z n.max past p y v.link) (why_of other e) (went_down_by why down.shows));
        read = read_by v.wire v.link after framed.idles;
        whole = λ f under cleared. subst (λ (k : Framing). Told v.link.written (λ t. t ≡ stream_text k (role_number z.role) (outs past p))) (framed_under v f framed.framed_by under) (told_so _ _ v.link.written (λ s a. a.all (ap (λ (x : WireView). x.waits) after ∙ down.agrees.waits_is cleared)) written);
      };
    }

  -- ---- Over WebSocket

  module _ (v : OpenedView) (after : AfterShut w v.wire) (stands : IsOpenedOver v) where
    abbrev web : LinkView
    web = v.ws.link

    shown_as : numbers_of v.wire.name ≡ numbers_of (OverLink web.place v.ws.max (opened_number (scheme_number web.scheme)) stands.tied.spent (Some (role_number v.role)) (Some (way_number v.way)))
    shown_as = ap (λ (x : WireView). numbers_of x.name) stands.wire ∙ ap (λ (x : WireName). numbers_of (named v.role v.way x)) stands.tied.name

    web_by : (scheme : Scheme) (own peer : Option ℕ) → AreNumbers o z scheme own peer → numbers_of v.wire.name ≡ numbers_of (OverLink place n.max (name_number scheme) n.over.spent own peer) → LeftBy o z h p place web
    web_by schemes.Inproc own peer are e = absurd are
    web_by schemes.Tcp own peer are e =
        let k : opened_number (scheme_number web.scheme) ≡ 0 = heads _ _ _ _ (tails _ _ _ _ (tails _ _ _ _ (tails _ _ _ _ (sym shown_as ∙ e)))) in
        absurd (omega (arith, k))
    web_by schemes.Ipc own peer are e =
        let k : opened_number (scheme_number web.scheme) ≡ 3 = heads _ _ _ _ (tails _ _ _ _ (tails _ _ _ _ (tails _ _ _ _ (sym shown_as ∙ e)))) in
        absurd (omega (arith, k))
    web_by schemes.Ws own peer (own_is, (way, peer_is, of_way, known)) e =
        let e1 = tails _ _ _ _ (sym shown_as ∙ e) in
        let e2 = tails _ _ _ _ e1 in
        let e3 = tails _ _ _ _ e2 in
        let e4 = tails _ _ _ _ e3 in
        let k : opened_number (scheme_number web.scheme) ≡ opened_number (scheme_number schemes.Ws) = heads _ _ _ _ e3 in
        let scheme : web.scheme ≡ schemes.Ws = same_scheme web.scheme schemes.Ws (omega (arith, k)) in
        let spent : stands.tied.spent ≡ n.over.spent = heads _ _ _ _ e4 in
        let ends = same_numbers (Some (role_number v.role)) (Some (way_number v.way)) own peer (tails _ _ _ _ e4) in
        let role : v.role ≡ z.role = one_role v.role z.role (some_number _ _ (ends.0 ∙ own_is)) in
        let same : v.way ≡ way = one_way v.way way (some_number _ _ (ends.1 ∙ peer_is)) in
        record {
          place_is = heads _ _ _ _ e1;
          asked = asked_by web (let t = stands.tied.waited in omega (arith, spent, t));
          carried = record {
            max = n.max;
            limit = n.limit;
            limit_is = n.limit_is;
            opened = (way, (scheme ∙ sym of_way, known), subst (λ (b : Way). HasOpened (run_ways z.role o) b web) same (subst (λ (r : Role). HasOpened (openings r (λ b. ⊤)) v.way web) role stands.begun));
            carries = λ f under. not_both f scheme under;
            went_down = λ f under. not_both f scheme under;
            read = read_by v.wire web after (let t = stands.tied.idles in let i = ap (λ (x : WireView). x.idles) stands.wire in omega (arith, t, i));
            whole = λ f under. not_both f scheme under;
          };
        }
      where
        some_number : (a b : ℕ) → Some a ≡ Some b → a ≡ b
        some_number a b h = cc

        not_both : {A : Type 0} → (f : Framing) → web.scheme ≡ schemes.Ws → web.scheme ≡ scheme_under f → A
        not_both framings.Tcp a b = absurd (let no : 1 ≡ 0 = ap scheme_number (sym a ∙ b) in omega (arith, no))
        not_both framings.Ipc a b = absurd (let no : 1 ≡ 3 = ap scheme_number (sym a ∙ b) in omega (arith, no))

    web_left : LeftBy o z h p place web
    web_left = web_by n.over.scheme n.over.own n.over.peer n.over.are (name_is v.wire after)

  -- ---- Over any

  some_link : (a b : LinkView) → Some a ≡ Some b → a ≡ b
  some_link a b h = cc

  pub carried_by : {L : Type 0} (v : EndWire L) → AfterShut w (shown v) → Stands v → (link : LinkView) → link_of v ≡ Some link → LeftBy o z h p place link
  carried_by (wires.Tcp v) after stands link is = subst (λ (l : LinkView). LeftBy o z h p place l) (some_link v.link link is) (tcp_left v after stands)
  carried_by (wires.Ws v) after stands link is = subst (λ (l : LinkView). LeftBy o z h p place l) (some_link v.ws.link link is) (web_left v after stands)
  carried_by (wires.Lane v) after stands link is = let no : None ≡ Some link = is in cc

-- ---- Over a link, or over lanes

-- the name of a wire over a link
link_name : {L : Type 0} (v : EndWire L) → Stands v → (link : LinkView) → link_of v ≡ Some link → (rest : List ℕ) × (numbers_of (shown v).name ≡ 0 ∷ rest)
link_name (wires.Tcp v) stands link is = (_, ap numbers_of stands.name)
link_name (wires.Ws v) stands link is = (_, ap (λ (x : WireView). numbers_of x.name) stands.wire ∙ ap (λ (x : WireName). numbers_of (named v.role v.way x)) stands.tied.name)
link_name (wires.Lane v) stands link is = let no : None ≡ Some link = is in cc

-- that of a wire over lanes
lanes_name : {L : Type 0} (v : EndWire L) → IsOverLanes v → link_of v ≡ None → (rest : List ℕ) × (numbers_of (shown v).name ≡ 1 ∷ rest)
lanes_name (wires.Tcp v) lanes is = let no : Some v.link ≡ None = is in cc
lanes_name (wires.Ws v) lanes is = let no : Some v.ws.link ≡ None = is in cc
lanes_name (wires.Lane v) lanes is = (_, ap numbers_of lanes)

module _ (o : Origins) (z : Setting) (h : List (Turn Entry)) (p place : ℕ) (n : NamedSo o z (past_of h) p place) (why : Why) (w : WireView) (down : IsDownWire z (past_of h) p why w) {L : Type 0} (v : EndWire L) (after : AfterShut w (shown v)) where
  named_as : numbers_of (shown v).name ≡ n.numbers
  named_as =
      let shows : name_of (past_of h) p ≡ Some (numbers_of (shown v).name) = down.agrees.name_is ∙ ap (λ (x : WireView). Some (numbers_of x.name)) (sym after) in
      some_is _ _ (sym shows ∙ n.name)

  -- over a link, the pipe has the name of a wire over a link
  pub at_link : Stands v → (link : LinkView) → link_of v ≡ Some link → (place ≡ lane_place → ⊥) × NamedAt o z (past_of h) p place
  at_link stands link is = go n.so
    where
      go : IsSo o z (past_of h) place n.max n.numbers → (place ≡ lane_place → ⊥) × NamedAt o z (past_of h) p place
      go (inl x) = (x.0, record { numbers = n.numbers; name = n.name; max = n.max; limit = n.limit; limit_is = x.1; over = x.2 })
      go (inr x) = let a = link_name v stands link is in absurd (omega (arith, heads 0 1 _ _ (sym a.1 ∙ (named_as ∙ x.2.2))))

  -- over lanes, it is at their place
  pub at_lanes : IsOverLanes v → link_of v ≡ None → place ≡ lane_place
  at_lanes lanes is = go n.so
    where
      go : IsSo o z (past_of h) place n.max n.numbers → place ≡ lane_place
      go (inl x) = let a = lanes_name v lanes is in absurd (omega (arith, heads 1 0 _ _ (sym a.1 ∙ (named_as ∙ x.2.is))))
      go (inr x) = x.0
