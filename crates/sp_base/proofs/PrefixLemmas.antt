-- Cuts of lists: how far they go, and cuts of sets that are made of smaller sets.
use Rattle.std.proofs.Common.{◌≡◌, ◌≤◌, ◌<◌, ◌++◌, ℕ, zero, suc, List, [], ◌∷◌, length, get_or, take, drop, refl, sym, ap, subst, ◌∙◌, append_assoc, arith, inl, inr}
use Rattle.std.specs.Prelude.{◌⊎◌}
use Rattle.std.proofs.lemmas.Bool.{cases_lt}
use Rattle.std.proofs.lemmas.List.{append-nil, append_cancel_left, take_at, take-append-drop, length-append, get_or_at, length-take-le}
use Rattle.sp_base.specs.Outside.{IsPrefix}
use Rattle.sp_base.specs.Prefixes.{IsViable, IsViableUpTo, IsCut, IsCutAtOne, IsCutShort}

-- ---- how far a cut goes

viable-prefix : {A : Type 0} (Set : List A → Type 0) (a b : List A) → IsViable Set (a ++ b) → IsViable Set a
viable-prefix Set a b h = (b ++ h.0, subst Set (append_assoc a b h.0) h.1)

record Past {A : Type 0} (prefix rest : List A) (n : ℕ) : Type 0 where
  first : A
  more : List A
  tail : List A
  rest-is : rest ≡ first ∷ more
  taken : take n (prefix ++ rest) ≡ (prefix ++ first ∷ []) ++ tail

past : {A : Type 0} (prefix rest : List A) (n : ℕ) → length prefix < n → n ≤ length (prefix ++ rest) → Past prefix rest n
past [] [] n lt le = absurd (omega arith)
past [] (x ∷ rest) zero lt le = absurd (omega arith)
past [] (x ∷ rest) (suc n) lt le = record { first = x; more = rest; tail = take n rest; rest-is = refl; taken = refl }
past (y ∷ prefix) rest zero lt le = absurd (omega arith)
past (y ∷ prefix) rest (suc n) lt le =
    let p = past prefix rest n (omega arith) (omega arith) in
    record { first = p.first; more = p.more; tail = p.tail; rest-is = p.rest-is; taken = ap (λ t. y ∷ t) p.taken }

pub up_to-cut : {A : Type 0} (Set : List A → Type 0) (s prefix rest : List A) → IsCut Set s prefix rest → IsViableUpTo Set s (length prefix)
up_to-cut Set s prefix rest cut = record {
  within = omega (arith, ap length cut.whole, length-append prefix rest);
  viable = subst (IsViable Set) (sym (ap (take (length prefix)) cut.whole ∙ take_at prefix rest (length prefix) refl)) cut.viable;
  longest = λ n within h. elim (cases_lt (length prefix) n) [
    | inl lt ↦
        let p : Past prefix rest n = past prefix rest n lt (omega (arith, within, ap length cut.whole)) in
        absurd (cut.stuck p.first p.more p.rest-is (viable-prefix Set (prefix ++ p.first ∷ []) p.tail (subst (IsViable Set) (ap (take n) cut.whole ∙ p.taken) h)))
    | inr le ↦ le
  ];
}

-- a list of the set that begins with the prefix ends there
reaches : {A : Type 0} (Set : List A → Type 0) (s prefix rest : List A) → IsCut Set s prefix rest → (x : A) (more between : List A) → rest ≡ x ∷ more → Set (prefix ++ x ∷ between) → ⊥
reaches Set s prefix rest cut x more between e h = cut.stuck x more e (between, subst Set (sym (append_assoc prefix (x ∷ []) between)) h)

pub not_in-cut : {A : Type 0} (Set : List A → Type 0) (s prefix rest : List A) → IsCut Set s prefix rest → (rest ≡ [] → Set prefix → ⊥) → Set s → ⊥
not_in-cut Set s prefix [] cut absent h = absent refl (subst Set (cut.whole ∙ append-nil prefix) h)
not_in-cut Set s prefix (x ∷ more) cut absent h = reaches Set s prefix (x ∷ more) cut x more more refl (subst Set cut.whole h)

pub cut-same : {A : Type 0} (P Q : List A → Type 0) → ((t : List A) → P t → Q t) → ((t : List A) → Q t → P t) → (s prefix rest : List A) → IsCut P s prefix rest → IsCut Q s prefix rest
cut-same P Q to back s prefix rest cut = record {
  whole = cut.whole;
  viable = (cut.viable.0, to (prefix ++ cut.viable.0) cut.viable.1);
  stuck = λ x more e h. cut.stuck x more e (h.0, back ((prefix ++ x ∷ []) ++ h.0) h.1);
}

-- ---- one set after another

-- a list of the first set, followed by one of the second
pub record Joined {A : Type 0} (First Second : List A → Type 0) (t : List A) : Type 0 where
  pub left : List A
  pub right : List A
  pub first : First left
  pub second : Second right
  pub whole : t ≡ left ++ right

-- a list of the first set followed by one of the second: no prefix of the first set goes on into the second
abbrev pub Apart : {A : Type 0} → (List A → Type 0) → (List A → Type 0) → Type 0
Apart {A} First Second = (a c prefix rest : List A) → First a → Second c → IsViable First prefix → a ++ c ≡ prefix ++ rest → IsPrefix prefix a

-- where the list of the first set ends, against a prefix that begins it
record Inner {A : Type 0} (First Second : List A → Type 0) (prefix rest : List A) : Type 0 where
  between : List A
  right : List A
  first : First (prefix ++ between)
  second : Second right
  after : between ++ right ≡ rest

inner-joined : {A : Type 0} (First Second : List A → Type 0) (t prefix rest : List A) → Apart First Second → IsViable First prefix → t ≡ prefix ++ rest → Joined First Second t → Inner First Second prefix rest
inner-joined First Second t prefix rest apart viable split j =
    let within = apart j.left j.right prefix rest j.first j.second viable (sym j.whole ∙ split) in
    record {
      between = within.0;
      right = j.right;
      first = subst First within.1 j.first;
      second = j.second;
      after = append_cancel_left prefix (within.0 ++ j.right) rest (sym (append_assoc prefix within.0 j.right) ∙ ap (λ t. t ++ j.right) (sym within.1) ∙ sym j.whole ∙ split);
    }

stuck_short : {A : Type 0} (First Second : List A → Type 0) (s prefix rest : List A) → IsCut First s prefix rest → (First prefix → ⊥) → (x : A) (more : List A) → rest ≡ x ∷ more → (tail between right : List A) → First (prefix ++ between) → between ++ right ≡ x ∷ tail → ⊥
stuck_short First Second s prefix rest cut absent x more e tail [] right h after = absent (subst First (append-nil prefix) h)
stuck_short First Second s prefix rest cut absent x more e tail (z ∷ between) right h after =
    let same : z ≡ x = cc in
    reaches First s prefix rest cut x more between e (subst First (ap (λ t. prefix ++ t ∷ between) same) h)

-- the prefix is no list of the first set, so the second isn't reached
pub cut-joined_short : {A : Type 0} (First Second : List A → Type 0) (s prefix rest y : List A) → Apart First Second → Second y → IsCut First s prefix rest → (First prefix → ⊥) → IsCut (Joined First Second) s prefix rest
cut-joined_short First Second s prefix rest y apart filled cut absent = record {
  whole = cut.whole;
  viable = (cut.viable.0 ++ y, record { left = prefix ++ cut.viable.0; right = y; first = cut.viable.1; second = filled; whole = sym (append_assoc prefix cut.viable.0 y) });
  stuck = λ x more e h.
      let i : Inner First Second prefix (x ∷ h.0) = inner-joined First Second ((prefix ++ x ∷ []) ++ h.0) prefix (x ∷ h.0) apart cut.viable (append_assoc prefix (x ∷ []) h.0) h.1 in
      stuck_short First Second s prefix rest cut absent x more e h.0 i.between i.right i.first i.after;
}

empty_prefix : {A : Type 0} (a b : List A) → a ++ b ≡ [] → a ≡ []
empty_prefix [] b e = refl
empty_prefix (x ∷ a) b e = absurd cc

pub not_in-joined_short : {A : Type 0} (First Second : List A → Type 0) (prefix : List A) → Apart First Second → IsViable First prefix → (First prefix → ⊥) → Joined First Second prefix → ⊥
not_in-joined_short First Second prefix apart viable absent h =
    let i : Inner First Second prefix [] = inner-joined First Second prefix prefix [] apart viable (sym (append-nil prefix)) h in
    absent (subst First (ap (λ t. prefix ++ t) (empty_prefix i.between i.right i.after) ∙ append-nil prefix) i.first)

-- the first of a list that begins another, read from the front of this
same_head : {A : Type 0} (z x : A) (b r f tail more : List A) → (z ∷ b) ++ r ≡ f ++ x ∷ tail → (u : List A) × (f ++ x ∷ more ≡ z ∷ u)
same_head z x b r [] tail more e = let same : z ≡ x = cc in (more, ap (λ t. t ∷ more) (sym same))
same_head z x b r (w ∷ f) tail more e = let same : z ≡ w = cc in (f ++ x ∷ more, ap (λ t. t ∷ (f ++ x ∷ more)) (sym same))

stuck_joined : {A : Type 0} (First Second : List A → Type 0) (s prefix rest prefix' rest' : List A) → IsCut First s prefix rest → IsCut Second rest prefix' rest' → (x : A) (more : List A) → rest' ≡ x ∷ more → (tail between right : List A) → First (prefix ++ between) → Second right → between ++ right ≡ prefix' ++ x ∷ tail → ⊥
stuck_joined First Second s prefix rest prefix' rest' cut cut' x more e tail [] right h h' after = reaches Second rest prefix' rest' cut' x more tail e (subst Second after h')
stuck_joined First Second s prefix rest prefix' rest' cut cut' x more e tail (z ∷ between) right h h' after =
    let head = same_head z x between right prefix' tail more after in
    reaches First s prefix rest cut z head.0 between (cut'.whole ∙ ap (λ t. prefix' ++ t) e ∙ head.1) h

-- the prefix is a list of the first set, and the rest is cut for the second
pub cut-joined : {A : Type 0} (First Second : List A → Type 0) (s prefix rest prefix' rest' : List A) → Apart First Second → First prefix → IsCut First s prefix rest → IsCut Second rest prefix' rest' → IsCut (Joined First Second) s (prefix ++ prefix') rest'
cut-joined First Second s prefix rest prefix' rest' apart full cut cut' = record {
  whole = cut.whole ∙ ap (λ t. prefix ++ t) cut'.whole ∙ sym (append_assoc prefix prefix' rest');
  viable = (cut'.viable.0, record { left = prefix; right = prefix' ++ cut'.viable.0; first = full; second = cut'.viable.1; whole = append_assoc prefix prefix' cut'.viable.0 });
  stuck = λ x more e h.
      let split : ((prefix ++ prefix') ++ x ∷ []) ++ h.0 ≡ prefix ++ (prefix' ++ x ∷ h.0) = simp append_assoc in
      let i : Inner First Second prefix (prefix' ++ x ∷ h.0) = inner-joined First Second (((prefix ++ prefix') ++ x ∷ []) ++ h.0) prefix (prefix' ++ x ∷ h.0) apart cut.viable split h.1 in
      stuck_joined First Second s prefix rest prefix' rest' cut cut' x more e h.0 i.between i.right i.first i.second i.after;
}

not_in_inner : {A : Type 0} (First Second : List A → Type 0) (s prefix rest prefix' rest' : List A) → IsCut First s prefix rest → IsCut Second rest prefix' rest' → (Second prefix' → ⊥) → (between right : List A) → First (prefix ++ between) → Second right → between ++ right ≡ prefix' → ⊥
not_in_inner First Second s prefix rest prefix' rest' cut cut' absent [] right h h' after = absent (subst Second after h')
not_in_inner First Second s prefix rest prefix' rest' cut cut' absent (z ∷ between) right h h' after =
    reaches First s prefix rest cut z ((between ++ right) ++ rest') between (cut'.whole ∙ ap (λ t. t ++ rest') (sym after)) h

pub not_in-joined : {A : Type 0} (First Second : List A → Type 0) (s prefix rest prefix' rest' : List A) → Apart First Second → IsCut First s prefix rest → IsCut Second rest prefix' rest' → (Second prefix' → ⊥) → Joined First Second (prefix ++ prefix') → ⊥
not_in-joined First Second s prefix rest prefix' rest' apart cut cut' absent h =
    let i : Inner First Second prefix prefix' = inner-joined First Second (prefix ++ prefix') prefix prefix' apart cut.viable refl h in
    not_in_inner First Second s prefix rest prefix' rest' cut cut' absent i.between i.right i.first i.second i.after

-- ---- when two sets are apart

-- the element is not in the list
abbrev pub Lacks : {A : Type 0} → A → List A → Type 0
Lacks d [] = Unit {0}
Lacks d (x ∷ xs) = (x ≡ d → ⊥) × Lacks d xs

pub Lacks-append : {A : Type 0} (d : A) (a b : List A) → Lacks d a → Lacks d b → Lacks d (a ++ b)
Lacks-append d [] b ha hb = hb
Lacks-append d (x ∷ a) b ha hb = (ha.0, Lacks-append d a b ha.1 hb)

lacks_not : {A : Type 0} (d : A) (a b : List A) → Lacks d (a ++ d ∷ b) → ⊥
lacks_not d [] b h = h.0 refl
lacks_not d (x ∷ a) b h = lacks_not d a b h.1

-- the list is not empty, and the element does not occur after its first place
abbrev pub LacksBehind : {A : Type 0} → A → List A → Type 0
LacksBehind d [] = ⊥
LacksBehind d (x ∷ xs) = Lacks d xs

lacks_behind_not : {A : Type 0} (d : A) (a b : List A) → LacksBehind d a → LacksBehind d (a ++ d ∷ b) → ⊥
lacks_behind_not d [] b h h' = h
lacks_behind_not d (x ∷ a) b h h' = lacks_not d a b h'

-- two ways to cut one list: the one is within the other, or it goes on into what follows it
pub record Longer {A : Type 0} (a b c : List A) : Type 0 where
  pub first : A
  pub more : List A
  pub longer : b ≡ a ++ first ∷ more
  pub behind : (tail : List A) × (c ≡ first ∷ tail)

pub two_cuts : {A : Type 0} (a c b d : List A) → a ++ c ≡ b ++ d → IsPrefix b a ⊎ Longer a b c
two_cuts a c [] d e = inl (a, refl)
two_cuts [] c (y ∷ b) d e = inr (record { first = y; more = b; longer = refl; behind = (b ++ d, e) })
two_cuts (x ∷ a) c (y ∷ b) d e =
    let same : x ≡ y = cc in
    let tails : a ++ c ≡ b ++ d = cc in
    elim (two_cuts a c b d tails) [
      | inl h ↦ inl (h.0, ap (λ t. t ∷ a) same ∙ ap (λ t. y ∷ t) h.1)
      | inr h ↦ inr (record { first = h.first; more = h.more; longer = ap (λ t. t ∷ b) (sym same) ∙ ap (λ t. x ∷ t) h.longer; behind = h.behind })
    ]

first_same : {A : Type 0} (x y : A) (a b : List A) → x ∷ a ≡ y ∷ b → x ≡ y
first_same x y a b e = cc

-- each list of the second set begins with a mark that occurs in no list of the first, except as its first element
pub apart-mark : {A : Type 0} (d : A) (First Second : List A → Type 0) → ((t : List A) → First t → LacksBehind d t) → ((t : List A) → Second t → (u : List A) × (t ≡ d ∷ u)) → Apart First Second
apart-mark d First Second free marked a c prefix rest h h' viable e =
    elim (two_cuts a c prefix rest e) [
      | inl within ↦ within
      | inr on ↦
          let mark = marked c h' in
          let is : on.first ≡ d = first_same on.first d on.behind.0 mark.0 (sym on.behind.1 ∙ mark.1) in
          let prefix-is : prefix ++ viable.0 ≡ a ++ d ∷ (on.more ++ viable.0) = ap (λ t. t ++ viable.0) (on.longer ∙ ap (λ t. a ++ t ∷ on.more) is) ∙ append_assoc a (d ∷ on.more) viable.0 in
          absurd (lacks_behind_not d a (on.more ++ viable.0) (free a h) (subst (LacksBehind d) prefix-is (free (prefix ++ viable.0) viable.1)))
    ]

-- the first set is one list
pub apart-word : {A : Type 0} (w : List A) (Second : List A → Type 0) → Apart (λ t. t ≡ w) Second
apart-word w Second a c prefix rest h h' viable e = (viable.0, h ∙ sym viable.1)

pub LacksBehind-append : {A : Type 0} (d : A) (a b : List A) → LacksBehind d a → Lacks d b → LacksBehind d (a ++ b)
LacksBehind-append d [] b ha hb = absurd ha
LacksBehind-append d (x ∷ a) b ha hb = Lacks-append d a b ha hb

pub record SameParts {A : Type 0} (a c b d : List A) : Type 0 where
  pub prefixes : a ≡ b
  pub rests : c ≡ d

same_parts : {A : Type 0} (x : A) (a c b d between : List A) → LacksBehind x b → LacksBehind x a → a ≡ b ++ between → a ++ x ∷ c ≡ b ++ x ∷ d → a ≡ b
same_parts x a c b d [] hb ha e whole = e ∙ append-nil b
same_parts x a c b d (y ∷ between) hb ha e whole =
    let after : y ∷ (between ++ x ∷ c) ≡ x ∷ d = append_cancel_left b (y ∷ (between ++ x ∷ c)) (x ∷ d) (sym (append_assoc b (y ∷ between) (x ∷ c)) ∙ ap (λ t. t ++ x ∷ c) (sym e) ∙ whole) in
    let same : y ≡ x = first_same y x (between ++ x ∷ c) d after in
    absurd (lacks_behind_not x b between hb (subst (LacksBehind x) (e ∙ ap (λ t. b ++ t ∷ between) same) ha))

-- a mark cuts a list at one place
pub cut_by_mark : {A : Type 0} (x : A) (a c b d : List A) → LacksBehind x a → LacksBehind x b → a ++ x ∷ c ≡ b ++ x ∷ d → SameParts a (x ∷ c) b (x ∷ d)
cut_by_mark x a c b d ha hb e =
    let prefixes : a ≡ b = elim (two_cuts a (x ∷ c) b (x ∷ d) e) [
      | inl within ↦ same_parts x a c b d within.0 hb ha within.1 e
      | inr on ↦
          let same : on.first ≡ x = sym (first_same x on.first c on.behind.0 on.behind.1) in
          absurd (lacks_behind_not x a on.more ha (subst (LacksBehind x) (on.longer ∙ ap (λ t. a ++ t ∷ on.more) same) hb))
    ] in
    record { prefixes = prefixes; rests = append_cancel_left b (x ∷ c) (x ∷ d) (ap (λ t. t ++ x ∷ c) (sym prefixes) ∙ e) }

-- ---- one list, and a choice of two sets

-- the prefix that s shares with the list, up to where they differ or end
pub cut-word : (w s : List ℕ) (i : ℕ) → i ≤ length w → i ≤ length s → take i s ≡ take i w → (i < length s → i < length w → get_or s i 0 ≡ get_or w i 0 → ⊥) → IsCut (λ t. t ≡ w) s (take i s) (drop i s)
cut-word w s i le le' same differs = record {
  whole = sym (take-append-drop i s);
  viable = (drop i w, ap (λ t. t ++ drop i w) same ∙ take-append-drop i w);
  stuck = λ x more e h.
      let long : length (take i s) ≡ i = length-take-le i s le' in
      let at_s : get_or s i 0 ≡ x = ap (λ t. get_or t i 0) (sym (take-append-drop i s) ∙ ap (λ t. take i s ++ t) e) ∙ get_or_at (take i s) x more 0 i long in
      let w-is : take i s ++ x ∷ h.0 ≡ w = sym (append_assoc (take i s) (x ∷ []) h.0) ∙ h.1 in
      let at_w : get_or w i 0 ≡ x = ap (λ t. get_or t i 0) (sym w-is) ∙ get_or_at (take i s) x h.0 0 i long in
      let in_s : i < length s = omega (arith, ap length (sym (take-append-drop i s) ∙ ap (λ t. take i s ++ t) e), length-append (take i s) (x ∷ more)) in
      let in_w : i < length w = omega (arith, ap length w-is, length-append (take i s) (x ∷ h.0)) in
      differs in_s in_w (at_s ∙ sym at_w);
}

abbrev pub Either : {A : Type 0} → (List A → Type 0) → (List A → Type 0) → List A → Type 0
Either First Second t = First t ⊎ Second t

-- no list of the set begins as s does, and the empty list isn't in it
pub record Unlike {A : Type 0} (Set : List A → Type 0) (s : List A) : Type 0 where
  pub filled : Set [] → ⊥
  pub differs : (x : A) (a b : List A) → Set (x ∷ a) → s ≡ x ∷ b → ⊥

pub unlike_either : {A : Type 0} (First Second : List A → Type 0) (s : List A) → Unlike First s → Unlike Second s → Unlike (Either First Second) s
unlike_either First Second s one other = record {
  filled = λ h. elim h [ inl a ↦ one.filled a | inr b ↦ other.filled b ];
  differs = λ x t b h e. elim h [ inl a ↦ one.differs x t b a e | inr c ↦ other.differs x t b c e ];
}

unlike_prefix : {A : Type 0} (Second : List A → Type 0) (s prefix rest : List A) → Unlike Second s → s ≡ prefix ++ rest → (x : A) (more tail : List A) → rest ≡ x ∷ more → Second ((prefix ++ x ∷ []) ++ tail) → ⊥
unlike_prefix Second s [] rest unlike whole x more tail e h = unlike.differs x tail more h (whole ∙ e)
unlike_prefix Second s (y ∷ prefix) rest unlike whole x more tail e h = unlike.differs y ((prefix ++ x ∷ []) ++ tail) (prefix ++ rest) h whole

unlike_whole : {A : Type 0} (Second : List A → Type 0) (s prefix rest : List A) → Unlike Second s → s ≡ prefix ++ rest → Second prefix → ⊥
unlike_whole Second s [] rest unlike whole h = unlike.filled h
unlike_whole Second s (y ∷ prefix) rest unlike whole h = unlike.differs y prefix (prefix ++ rest) h whole

pub cut-either : {A : Type 0} (First Second : List A → Type 0) (s prefix rest : List A) → Unlike Second s → IsCut First s prefix rest → IsCut (Either First Second) s prefix rest
cut-either First Second s prefix rest unlike cut = record {
  whole = cut.whole;
  viable = (cut.viable.0, inl cut.viable.1);
  stuck = λ x more e h. elim h.1 [
    | inl one ↦ cut.stuck x more e (h.0, one)
    | inr other ↦ unlike_prefix Second s prefix rest unlike cut.whole x more h.0 e other
  ];
}

pub not_in-either : {A : Type 0} (First Second : List A → Type 0) (s prefix rest : List A) → Unlike Second s → s ≡ prefix ++ rest → (First prefix → ⊥) → Either First Second prefix → ⊥
not_in-either First Second s prefix rest unlike whole absent h = elim h [
  | inl one ↦ absent one
  | inr other ↦ unlike_whole Second s prefix rest unlike whole other
]

-- the lists of the second set that begin as s does go on otherwise, and some list of the first begins so too
pub record Parts {A : Type 0} (First Second : List A → Type 0) (s : List A) : Type 0 where
  pub filled : Second [] → ⊥
  pub begins : (x : A) (a b : List A) → Second (x ∷ a) → s ≡ x ∷ b → IsViable First (x ∷ []) × Unlike (λ t. Second (x ∷ t)) b

part_prefix : {A : Type 0} (First Second : List A → Type 0) (s prefix rest : List A) → Parts First Second s → IsCut First s prefix rest → (x : A) (more tail : List A) → rest ≡ x ∷ more → Second ((prefix ++ x ∷ []) ++ tail) → ⊥
part_prefix First Second s [] rest parts cut x more tail e h = let begins = parts.begins x tail more h (cut.whole ∙ e) in cut.stuck x more e begins.0
part_prefix First Second s (y ∷ prefix) rest parts cut x more tail e h =
    let begins = parts.begins y ((prefix ++ x ∷ []) ++ tail) (prefix ++ rest) h cut.whole in
    unlike_prefix (λ t. Second (y ∷ t)) (prefix ++ rest) prefix rest begins.1 refl x more tail e h

part_whole : {A : Type 0} (First Second : List A → Type 0) (s prefix rest : List A) → Parts First Second s → s ≡ prefix ++ rest → Second prefix → ⊥
part_whole First Second s [] rest parts whole h = parts.filled h
part_whole First Second s (y ∷ prefix) rest parts whole h =
    let begins = parts.begins y prefix (prefix ++ rest) h whole in
    unlike_whole (λ t. Second (y ∷ t)) (prefix ++ rest) prefix rest begins.1 refl h

cut-part : {A : Type 0} (First Second : List A → Type 0) (s prefix rest : List A) → Parts First Second s → IsCut First s prefix rest → IsCut (Either First Second) s prefix rest
cut-part First Second s prefix rest parts cut = record {
  whole = cut.whole;
  viable = (cut.viable.0, inl cut.viable.1);
  stuck = λ x more e h. elim h.1 [
    | inl one ↦ cut.stuck x more e (h.0, one)
    | inr other ↦ part_prefix First Second s prefix rest parts cut x more h.0 e other
  ];
}

-- ---- the same with whether the prefix is in the set

pub same_one : {A : Type 0} (P Q : List A → Type 0) → ((t : List A) → P t → Q t) → ((t : List A) → Q t → P t) → (s prefix rest : List A) → IsCutAtOne P s prefix rest → IsCutAtOne Q s prefix rest
same_one P Q to back s prefix rest h = record { one = to prefix h.one; cut = cut-same P Q to back s prefix rest h.cut }

pub same_short : {A : Type 0} (P Q : List A → Type 0) → ((t : List A) → P t → Q t) → ((t : List A) → Q t → P t) → (s rest : List A) → IsCutShort P s rest → IsCutShort Q s rest
same_short P Q to back s rest h = record { prefix = h.prefix; no_list = λ q. h.no_list (back h.prefix q); cut = cut-same P Q to back s h.prefix rest h.cut }

pub join_first_short : {A : Type 0} (First Second : List A → Type 0) (s rest y : List A) → Apart First Second → Second y → IsCutShort First s rest → IsCutShort (Joined First Second) s rest
join_first_short First Second s rest y apart filled h = record {
  prefix = h.prefix;
  no_list = not_in-joined_short First Second h.prefix apart h.cut.viable h.no_list;
  cut = cut-joined_short First Second s h.prefix rest y apart filled h.cut h.no_list;
}

pub join_second_short : {A : Type 0} (First Second : List A → Type 0) (s prefix rest rest' : List A) → Apart First Second → IsCutAtOne First s prefix rest → IsCutShort Second rest rest' → IsCutShort (Joined First Second) s rest'
join_second_short First Second s prefix rest rest' apart h h' = record {
  prefix = prefix ++ h'.prefix;
  no_list = not_in-joined First Second s prefix rest h'.prefix rest' apart h.cut h'.cut h'.no_list;
  cut = cut-joined First Second s prefix rest h'.prefix rest' apart h.one h.cut h'.cut;
}

pub join_ones : {A : Type 0} (First Second : List A → Type 0) (s prefix rest prefix' rest' : List A) → Apart First Second → IsCutAtOne First s prefix rest → IsCutAtOne Second rest prefix' rest' → IsCutAtOne (Joined First Second) s (prefix ++ prefix') rest'
join_ones First Second s prefix rest prefix' rest' apart h h' = record {
  one = record { left = prefix; right = prefix'; first = h.one; second = h'.one; whole = refl };
  cut = cut-joined First Second s prefix rest prefix' rest' apart h.one h.cut h'.cut;
}

pub either_one : {A : Type 0} (First Second : List A → Type 0) (s prefix rest : List A) → Unlike Second s → IsCutAtOne First s prefix rest → IsCutAtOne (Either First Second) s prefix rest
either_one First Second s prefix rest unlike h = record { one = inl h.one; cut = cut-either First Second s prefix rest unlike h.cut }

pub either_short : {A : Type 0} (First Second : List A → Type 0) (s rest : List A) → Unlike Second s → IsCutShort First s rest → IsCutShort (Either First Second) s rest
either_short First Second s rest unlike h = record {
  prefix = h.prefix;
  no_list = not_in-either First Second s h.prefix rest unlike h.cut.whole h.no_list;
  cut = cut-either First Second s h.prefix rest unlike h.cut;
}

pub part_one : {A : Type 0} (First Second : List A → Type 0) (s prefix rest : List A) → Parts First Second s → IsCutAtOne First s prefix rest → IsCutAtOne (Either First Second) s prefix rest
part_one First Second s prefix rest parts h = record { one = inl h.one; cut = cut-part First Second s prefix rest parts h.cut }

pub part_short : {A : Type 0} (First Second : List A → Type 0) (s rest : List A) → Parts First Second s → IsCutShort First s rest → IsCutShort (Either First Second) s rest
part_short First Second s rest parts h = record {
  prefix = h.prefix;
  no_list = λ either. elim either [ inl one ↦ h.no_list one | inr other ↦ part_whole First Second s h.prefix rest parts h.cut.whole other ];
  cut = cut-part First Second s h.prefix rest parts h.cut;
}

-- nothing is left after a list of the set, or the whole is not in the set
pub not_one : {A : Type 0} (Set : List A → Type 0) (s prefix rest : List A) (x : A) (more : List A) → rest ≡ x ∷ more → IsCutAtOne Set s prefix rest → Set s → ⊥
not_one Set s prefix rest x more e h full = reaches Set s prefix rest h.cut x more more e (subst Set (h.cut.whole ∙ ap (λ t. prefix ++ t) e) full)

pub not_short : {A : Type 0} (Set : List A → Type 0) (s rest : List A) → IsCutShort Set s rest → Set s → ⊥
not_short Set s rest h = not_in-cut Set s h.prefix rest h.cut (λ e. h.no_list)
