-- Entries of one pipe don't change whether another is wanted.
use Rattle.std.proofs.Common.{◌≡◌, refl, ap, sym, ◌∙◌, subst, List, [], ◌∷◌, ◌++◌, ℕ, ◌≤◌, Bool, true, false, cond, arith, Some, None, length, length-append}
use Rattle.std.specs.Prelude.{not, ◌||◌, ◌==◌, filter, Option, IfSome}
use Rattle.std.specs.List.{list_any}
use Rattle.sp_base.specs.declared.role.Role.{Role}
use Rattle.sp_base.specs.declared.role.Role.TheVariants.{Pair0, Pair1, Sub, Req, Rep, Pull, Surveyor, Respondent}
use Rattle.sp_history.specs.declared.entry.Entry.{Entry}
use Rattle.sp_history.specs.declared.entry.Entry.TheVariants.{Up, Down, Frame, Unkept}
use Rattle.sp_history.specs.declared.entry.Why.{Why}
use Rattle.sp_history.specs.declared.parts.Item.{Item}
use Rattle.sp_history.specs.declared.parts.Back.{Back}
use Rattle.sp_history.specs.declared.parts.Back.TheVariants.{Found, TooFar, Short}
use Rattle.sp_history.specs.declared.setting.Setting.{Setting}
use Rattle.sp_history.specs.Backtrace.{back}
use Rattle.sp_history.specs.Frames.{item_of, traced_item}
use Rattle.sp_history.specs.Kept.{add_item, has_none_of, is_from, wanted, takes, pool}
use Rattle.sp_history.specs.Lists.{has, without}
use Rattle.sp_history.specs.Legal.{Allowed}
use Rattle.sp_history.specs.Moments.{Moment, past, Lawful}
use Rattle.sp_history.specs.Past.{up}
use Rattle.sp_history.specs.Setting.{is_pair, is_sub}
use Rattle.core_state.proofs.Lawfuls.{by_steps}
use Rattle.core_state.proofs.ChangedWires.{same_number, equal_numbers}

-- ---- Items of other pipes

more_from : (p q : ℕ) (i : Item) (items : List Item) → i.pipe ≡ p → (p == q) ≡ false → has_none_of q (items ++ i ∷ []) ≡ has_none_of q items
more_from p q i items e n = ap not (go items)
  where
    none : is_from q i ≡ false
    none = rw e n

    go : (xs : List Item) → list_any (is_from q) (xs ++ i ∷ []) ≡ list_any (is_from q) xs
    go [] = rw none refl
    go (x ∷ xs) = ap (λ (b : Bool). is_from q x || b) (go xs)

added_from : (p q : ℕ) (yes : Bool) (i : Option Item) (items : List Item) → IfSome i (λ (x : Item). x.pipe ≡ p) → (p == q) ≡ false → has_none_of q (cond yes (add_item i items) items) ≡ has_none_of q items
added_from p q false i items e n = refl
added_from p q true None items e n = refl
added_from p q true (Some i) items e n = more_from p q i items e n

less_from : (p q : ℕ) (items : List Item) → (p == q) ≡ false → has_none_of q (filter (λ i. not (is_from p i)) items) ≡ has_none_of q items
less_from p q items n = ap not (go items)
  where
    go : (xs : List Item) → list_any (is_from q) (filter (λ i. not (is_from p i)) xs) ≡ list_any (is_from q) xs
    go [] = refl
    go (x ∷ xs) = here (x.pipe == p) refl (go xs)
      where
        here : (b : Bool) → (x.pipe == p) ≡ b → list_any (is_from q) (filter (λ i. not (is_from p i)) xs) ≡ list_any (is_from q) xs
            → list_any (is_from q) (cond (not b) (x ∷ filter (λ i. not (is_from p i)) xs) (filter (λ i. not (is_from p i)) xs)) ≡ (is_from q x || list_any (is_from q) xs)
        here true e again = let same : x.pipe ≡ p = equal_numbers x.pipe p e in let other : is_from q x ≡ false = rw same n in again ∙ sym (ap (λ (b : Bool). b || list_any (is_from q) xs) other)
        here false e again = ap (λ (b : Bool). is_from q x || b) again

traced_from : (raw : Bool) (p : ℕ) (r : Back) → IfSome (traced_item raw p r) (λ (x : Item). x.pipe ≡ p)
traced_from false p (Found words rest) = refl
traced_from true p (Found words rest) = refl
traced_from raw p TooFar = tt
traced_from raw p Short = tt

-- ---- What is wanted

frame_for : (z : Setting) (r : Role) (raw : Bool) (before : List Entry) (p q : ℕ) (b : List ℕ) → (p == q) ≡ false → (is_pair r ≡ true → ⊥) → wanted (record z { role = r; raw = raw }) (Frame p b ∷ before) q ≡ wanted (record z { role = r; raw = raw }) before q
frame_for z Pair0 raw before p q b n h = absurd (h refl)
frame_for z Pair1 raw before p q b n h = absurd (h refl)
frame_for z Pull raw before p q b n h = added_from p q (takes (record z { role = Pull; raw = raw }) before 0 p b) (item_of (record z { role = Pull; raw = raw }) p b) (pool (record z { role = Pull; raw = raw }) before 0) refl n
frame_for z Rep raw before p q b n h = added_from p q (takes (record z { role = Rep; raw = raw }) before 0 p b) (item_of (record z { role = Rep; raw = raw }) p b) (pool (record z { role = Rep; raw = raw }) before 0) (traced_from raw p (back z.options.ttl b)) n
frame_for z Respondent raw before p q b n h = added_from p q (takes (record z { role = Respondent; raw = raw }) before 0 p b) (item_of (record z { role = Respondent; raw = raw }) p b) (pool (record z { role = Respondent; raw = raw }) before 0) (traced_from raw p (back z.options.ttl b)) n
frame_for z Req true before p q b n h = added_from p q (takes (record z { role = Req; raw = true }) before 0 p b) (item_of (record z { role = Req; raw = true }) p b) (pool (record z { role = Req; raw = true }) before 0) refl n
frame_for z Req false before p q b n h = refl
frame_for z Surveyor true before p q b n h = added_from p q (takes (record z { role = Surveyor; raw = true }) before 0 p b) (item_of (record z { role = Surveyor; raw = true }) p b) (pool (record z { role = Surveyor; raw = true }) before 0) refl n
frame_for z Surveyor false before p q b n h = refl
frame_for z _ raw before p q b n h = refl

unkept_for : (z : Setting) (r : Role) (raw : Bool) (before : List Entry) (p q : ℕ) (b : List ℕ) → wanted (record z { role = r; raw = raw }) (Unkept p ∷ Frame p b ∷ before) q ≡ wanted (record z { role = r; raw = raw }) before q
unkept_for z Req true before p q b = refl
unkept_for z Req false before p q b = refl
unkept_for z Surveyor true before p q b = refl
unkept_for z Surveyor false before p q b = refl
unkept_for z _ raw before p q b = refl

go_down_for : (z : Setting) (r : Role) (raw : Bool) (before : List Entry) (p q : ℕ) (why : Why) → (p == q) ≡ false → wanted (record z { role = r; raw = raw }) (Down p why ∷ before) q ≡ wanted (record z { role = r; raw = raw }) before q
go_down_for z Rep raw before p q why n = less_from p q (pool (record z { role = Rep; raw = raw }) before 0) n
go_down_for z Respondent raw before p q why n = less_from p q (pool (record z { role = Respondent; raw = raw }) before 0) n
go_down_for z Req true before p q why n = refl
go_down_for z Req false before p q why n = refl
go_down_for z Surveyor true before p q why n = refl
go_down_for z Surveyor false before p q why n = refl
go_down_for z _ raw before p q why n = refl

sub_for : (z : Setting) (r : Role) (raw : Bool) (before : List Entry) (q : ℕ) → is_sub r ≡ true → wanted (record z { role = r; raw = raw }) before q ≡ true
sub_for z Sub raw before q h = refl
sub_for z _ raw before q h = cc

-- every frame is wanted by a sub
pub sub_wants : (z : Setting) (before : List Entry) (q : ℕ) → is_sub z.role ≡ true → wanted z before q ≡ true
sub_wants z before q h = sub_for z z.role z.raw before q h

pub down_wants : (z : Setting) (before : List Entry) (p q : ℕ) (why : Why) → (p == q) ≡ false → wanted z (Down p why ∷ before) q ≡ wanted z before q
down_wants z before p q why n = go_down_for z z.role z.raw before p q why n

pub unkept_wants : (z : Setting) (before : List Entry) (p q : ℕ) (b : List ℕ) → wanted z (Unkept p ∷ Frame p b ∷ before) q ≡ wanted z before q
unkept_wants z before p q b = unkept_for z z.role z.raw before p q b

-- ---- A pair has one pipe

abbrev IsAlone : Setting → List Entry → Type 0
IsAlone z before = is_pair z.role ≡ true → length (up before) ≤ 1

length-without : (xs : List ℕ) (q : ℕ) → length (without xs q) ≤ length xs
length-without [] q = omega arith
length-without (x ∷ xs) q = go (x == q) (length-without xs q)
  where
    go : (b : Bool) → length (without xs q) ≤ length xs → length (cond (not b) (x ∷ without xs q) (without xs q)) ≤ length (x ∷ xs)
    go true h = omega (arith, h)
    go false h = omega (arith, h)

alone_next : (z : Setting) (k : ℕ) (before : List Entry) (e : Entry) → IsAlone z before → Allowed z k before e → IsAlone z (e ∷ before)
alone_next z k before (Up p place limit name) h a = λ r. let none = a.itself.1 r in omega (arith, length-append (up before) (p ∷ []), ap length none)
alone_next z k before (Down p why) h a = λ r. let k = h r in omega (arith, length-without (up before) p, k)
alone_next z k before _ h a = h

alone : (t : Moment) → Lawful t → IsAlone t.z (past t)
alone t l = by_steps t (IsAlone t.z) (λ r. omega arith) (λ k before e h a. alone_next t.z k before e h a) l

one_alone : (xs : List ℕ) (p q : ℕ) → length xs ≤ 1 → has xs p ≡ true → has xs q ≡ true → (p == q) ≡ false → ⊥
one_alone [] p q l h k n = absurd cc
one_alone (x ∷ y ∷ xs) p q l h k n = absurd (omega (arith, l))
one_alone (x ∷ []) p q l h k n = go (x == p) refl (x == q) refl h k
  where
    go : (a : Bool) → (x == p) ≡ a → (b : Bool) → (x == q) ≡ b → (a || false) ≡ true → (b || false) ≡ true → ⊥
    go true d true e h k =
        let same : p ≡ q = sym (equal_numbers x p d) ∙ equal_numbers x q e in
        let no : (p == q) ≡ true = subst (λ (y : ℕ). (p == y) ≡ true) same (same_number p) in
        absurd cc
    go false d b e h k = absurd cc
    go true d false e h k = absurd cc

-- a frame of one pipe doesn't change whether another one that is up is wanted
pub frame_wants : (t : Moment) (p q : ℕ) (b : List ℕ) → Lawful t → has (up (past t)) p ≡ true → has (up (past t)) q ≡ true → (p == q) ≡ false → wanted t.z (Frame p b ∷ past t) q ≡ wanted t.z (past t) q
frame_wants t p q b l h k n = frame_for t.z t.z.role t.z.raw (past t) p q b n (λ r. one_alone (up (past t)) p q (alone t l r) h k n)
