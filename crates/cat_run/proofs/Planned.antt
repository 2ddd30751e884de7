-- Each plan that words have can be run.
use Rattle.std.specs.Prelude.{◌≡◌, ◌≤◌, ◌==◌, ◌&&◌, ◌||◌, not, ℕ, Bool, true, false, IsTrue, nat_lt, is_none, if◌then◌else◌, List, [], ◌∷◌, ◌++◌, length, Option, Some, None}
use Rattle.std.specs.List.{AllByRecursion}
use Rattle.std.proofs.Common.{refl, sym, subst, inl, inr, arith, ◌+◌}
use Rattle.std.proofs.lemmas.Bool.Decides.{nat_tests}
use Rattle.sp_base.specs.Addresses.{is_linked, is_dialable, is_one_host}
use Rattle.sp_base.specs.declared.addr.Addr.{Addr}
use Rattle.sp_base.specs.declared.addr.Addr.TheVariants as addrs
use Rattle.sp_base.specs.declared.role.Role.{Role}
use Rattle.sp_base.specs.declared.role.Role.TheVariants as roles
use Rattle.sp_history.specs.Setting.{is_sub}
use Rattle.cat_text.specs.Drafts as drafts
use Rattle.cat_text.specs.Drafts.{nothing, add, goes_with, name_of, GoTogether, together, IsWhole, needs_data, topics_of, lets_topics}
use Rattle.cat_text.specs.Options.{SpellsOpt, SpellsAll, Says, flag_of, may_dial}
use Rattle.cat_text.specs.Plans.{ReadsWords}
use Rattle.cat_text.specs.declared.draft.Draft.{Draft}
use Rattle.cat_text.specs.declared.names.Name.{Name}
use Rattle.cat_text.specs.declared.names.Name.TheVariants as n
use Rattle.cat_text.specs.declared.plan.CatPlan.{CatPlan}
use Rattle.cat_text.specs.declared.plan.Data.{Data}
use Rattle.cat_text.specs.declared.plan.Data.TheVariants as datas
use Rattle.cat_text.specs.declared.plan.End.{End}
use Rattle.cat_text.specs.declared.plan.End.TheVariants as ends
use Rattle.cat_text.specs.declared.plan.Plan.TheVariants as plans
use Rattle.cat_text.specs.declared.values.Opt.{Opt}
use Rattle.cat_text.specs.declared.values.Opt.TheVariants as o
use Rattle.cat_rounds.specs.Built as built
use Rattle.cat_rounds.specs.Built.{IsBuiltEnd, IsBuiltData, AreBuilt, AreTopics, IsBuilt}
use Rattle.cat_run.specs.Loading.{HasContent}
use Rattle.sp_base.specs.Views.{FilesView}

-- ---- Values

and_first : (a b : Bool) → (a && b) ≡ true → a ≡ true
and_first true b h = refl
and_first false b h = cc

third_of : (a b c : Bool) → (a && b && c) ≡ true → c ≡ true
third_of true true c h = h
third_of true false c h = cc
third_of false b c h = cc

one_host : (addr : Addr) → may_dial addr ≡ true → is_linked addr ≡ true → is_dialable addr ≡ true
one_host (addrs.Tcp host port) h linked = and_first (is_one_host host) (not (port == 0)) h
one_host (addrs.Ws host port path) h linked = and_first (is_one_host host) (not (port == 0)) h
one_host (addrs.Ipc path) h linked = refl
one_host (addrs.Inproc name) h linked = cc

-- what an option with a value must be
abbrev IsSaid : Opt → Type 0
IsSaid (o.End (ends.Dial addr)) = may_dial addr ≡ true
IsSaid (o.Topic topic) = length topic ≤ 1024
IsSaid _ = Unit {0}

said : (name : Name) (value : List ℕ) (option : Opt) → Says name value option → IsSaid option
said (n.Role role) value option says = elim says [ ]
said (n.Format format) value option says = elim says [ ]
said n.Dial value option (addr, spells, may, is) = subst IsSaid (sym is) may
said n.Listen value option (addr, spells, is) = subst IsSaid (sym is) tt
said n.Data value option is = subst IsSaid (sym is) tt
said n.File value option (long, is) = subst IsSaid (sym is) tt
said n.Subscribe value option (short, is) = subst IsSaid (sym is) short
said n.Count value option (number, fits, is) = subst IsSaid (sym is) tt
said n.Interval value option (number, fits, is) = subst IsSaid (sym is) tt
said n.RecvTimeout value option (number, fits, is) = subst IsSaid (sym is) tt
said n.SendTimeout value option (number, fits, is) = subst IsSaid (sym is) tt
said n.RecvMax value option (number, fits, is) = subst IsSaid (sym is) tt

some_is : (a b : Opt) → Some a ≡ Some b → a ≡ b
some_is a b e = cc

none_is : (a : Opt) → None ≡ Some a → ⊥
none_is a e = cc

flagged : (name : Name) (option : Opt) → flag_of name ≡ Some option → IsSaid option
flagged (n.Role role) option is = subst IsSaid (some_is (o.Role role) option is) tt
flagged (n.Format format) option is = subst IsSaid (some_is (o.Format format) option is) tt
flagged n.Dial option is = absurd (none_is option is)
flagged n.Listen option is = absurd (none_is option is)
flagged n.Data option is = absurd (none_is option is)
flagged n.File option is = absurd (none_is option is)
flagged n.Subscribe option is = absurd (none_is option is)
flagged n.Count option is = absurd (none_is option is)
flagged n.Interval option is = absurd (none_is option is)
flagged n.RecvTimeout option is = absurd (none_is option is)
flagged n.SendTimeout option is = absurd (none_is option is)
flagged n.RecvMax option is = absurd (none_is option is)

spelled : (option : Opt) (words : List (List ℕ)) → SpellsOpt option words → IsSaid option
spelled option words (inl flag) = flagged flag.name option flag.flag
spelled option words (inr (inl next)) = said next.name next.value option next.says
spelled option words (inr (inr own)) = said own.name own.value option own.says

-- ---- Options, one after another

-- it has no topics, or a role that takes them
abbrev TakesTopics : Option Role → Bool → Type 0
TakesTopics None silent = Unit {0}
TakesTopics (Some role) silent = (drafts.is_sub role || silent) ≡ true

record IsGood (d : Draft) : Type 0 where
  each_one : AllByRecursion IsBuiltEnd d.ends
  few : length d.ends ≤ 64
  short : AllByRecursion (λ t. length t ≤ 1024) d.topics
  takes : TakesTopics d.role (length d.topics == 0)

all_more : {A : Type 0} (P : A → Type 0) (xs : List A) (x : A) → AllByRecursion P xs → P x → AllByRecursion P (xs ++ x ∷ [])
all_more P [] x a p = (p, tt)
all_more P (y ∷ ys) x a p = (a.0, all_more P ys x a.1 p)

length_more : {A : Type 0} (xs : List A) (x : A) → length (xs ++ x ∷ []) ≡ length xs + 1
length_more [] x = refl
length_more (y ∷ xs) x = let e = length_more xs x in omega (arith, e)

below : (k : ℕ) → nat_lt k 64 ≡ true → k + 1 ≤ 64
below k h = grind (arith, nat_tests)

one_end : (d : Draft) (end : End) → IsGood d → nat_lt (length d.ends) 64 ≡ true → IsBuiltEnd end → IsGood (add d (o.End end))
one_end d end g room is =
    let m = length_more d.ends end in
    let b = below (length d.ends) room in
    record { each_one = all_more IsBuiltEnd d.ends end g.each_one is; few = omega (arith, m, b); short = g.short; takes = g.takes }

lets_some : (role : Option Role) (silent : Bool) → lets_topics role ≡ true → TakesTopics role silent
lets_some None silent h = tt
lets_some (Some role) silent h = let sub : drafts.is_sub role ≡ true = h in rw sub refl

one_topic : (d : Draft) (topic : List ℕ) → IsGood d → lets_topics d.role ≡ true → length topic ≤ 1024 → IsGood (add d (o.Topic topic))
one_topic d topic g lets short =
    record { each_one = g.each_one; few = g.few; short = all_more (λ t. length t ≤ 1024) d.topics topic g.short short; takes = lets_some d.role (length (d.topics ++ topic ∷ []) == 0) lets }

one_more : (d : Draft) (option : Opt) → IsGood d → goes_with d (name_of option) ≡ true → IsSaid option → IsGood (add d option)
one_more d (o.Role role) g fits is =
    record { each_one = g.each_one; few = g.few; short = g.short; takes = third_of (is_none d.role) (not (drafts.refuses_data role) || not (drafts.has_data d.data_)) (drafts.is_sub role || length d.topics == 0) fits }
one_more d (o.End (ends.Dial addr)) g fits is = one_end d (ends.Dial addr) g fits (one_host addr is)
one_more d (o.End (ends.Listen addr)) g fits is = one_end d (ends.Listen addr) g fits tt
one_more d (o.Data data_) g fits is = record { each_one = g.each_one; few = g.few; short = g.short; takes = g.takes }
one_more d (o.Topic topic) g fits is =
    one_topic d topic g (third_of (nat_lt (length d.topics) 64) (not (drafts.has_data d.data_)) (lets_topics d.role) fits) is
one_more d (o.Count number) g fits is = record { each_one = g.each_one; few = g.few; short = g.short; takes = g.takes }
one_more d (o.Interval number) g fits is = record { each_one = g.each_one; few = g.few; short = g.short; takes = g.takes }
one_more d (o.RecvTimeout number) g fits is = record { each_one = g.each_one; few = g.few; short = g.short; takes = g.takes }
one_more d (o.SendTimeout number) g fits is = record { each_one = g.each_one; few = g.few; short = g.short; takes = g.takes }
one_more d (o.RecvMax number) g fits is = record { each_one = g.each_one; few = g.few; short = g.short; takes = g.takes }
one_more d (o.Format format) g fits is = record { each_one = g.each_one; few = g.few; short = g.short; takes = g.takes }

all_good : (d : Draft) (options : List Opt) (words : List (List ℕ)) → IsGood d → SpellsAll options words → GoTogether d options → IsGood (together d options)
all_good d [] words g spells fit = g
all_good d (option ∷ options) words g (first, rest, are, one, more) (fits, fit) =
    all_good (add d option) options rest (one_more d option g fits (spelled option first one)) more fit

-- ---- The plan

same_sub : (role : Role) → is_sub role ≡ drafts.is_sub role
same_sub roles.Sub = refl
same_sub roles.Pull = refl
same_sub roles.Push = refl
same_sub roles.Pub = refl
same_sub roles.Req = refl
same_sub roles.Surveyor = refl
same_sub roles.Pair0 = refl
same_sub roles.Pair1 = refl
same_sub roles.Rep = refl
same_sub roles.Respondent = refl
same_sub roles.Bus = refl

same_data : (data_ : Data) → drafts.has_data data_ ≡ built.has_data data_
same_data datas.None = refl
same_data (datas.Text text) = refl
same_data (datas.File name) = refl

-- the topics of a plan, by whether its role is sub and whether none was given
chosen : (role : Role) (sub none : Bool) (ts : List (List ℕ)) → drafts.is_sub role ≡ sub → (length ts == 0) ≡ none → (sub || none) ≡ true → AllByRecursion (λ t. length t ≤ 1024) ts → AreTopics role (if sub && none then [] ∷ [] else ts)
chosen role true true ts is empty takes short = record { supported = rw (same_sub role, is) refl; short = (omega arith, tt) }
chosen role true false ts is empty takes short = record { supported = rw (same_sub role, is) refl; short = short }
chosen role false true ts is empty takes short = record { supported = rw (same_sub role, is, empty) refl; short = short }
chosen role false false ts is empty takes short = cc

topics_well : (role : Role) (ts : List (List ℕ)) → (drafts.is_sub role || length ts == 0) ≡ true → AllByRecursion (λ t. length t ≤ 1024) ts → AreTopics role (topics_of role ts)
topics_well role ts takes short = chosen role (drafts.is_sub role) (length ts == 0) ts refl refl takes short

has_what : (needs has : Bool) → (needs && not has) ≡ false → (not needs || has) ≡ true
has_what true true h = refl
has_what true false h = cc
has_what false has h = refl

-- what is needed to play it, except for what its file holds
record IsReady (plan : CatPlan) : Type 0 where
  ends_built : AreBuilt plan.ends
  topics_ready : AreTopics plan.role plan.topics
  carries : IsTrue (not (needs_data plan.role) || built.has_data plan.data_)

good_plan : (d : Draft) (plan : CatPlan) → IsGood d → IsWhole d plan → IsReady plan
good_plan d plan g whole =
    subst IsReady (sym whole.means) (record {
      ends_built = record { each_one = g.each_one; few = g.few };
      topics_ready = topics_well whole.role d.topics (subst (λ (r : Option Role). TakesTopics r (length d.topics == 0)) whole.has_role g.takes) g.short;
      carries = subst (λ (b : Bool). IsTrue (not (needs_data whole.role) || b)) (same_data d.data_) (has_what (needs_data whole.role) (drafts.has_data d.data_) whole.has_what_it_needs);
    })

ready : (words : List (List ℕ)) (plan : CatPlan) → ReadsWords words (plans.Cat plan) → IsReady plan
ready words plan reads =
    good_plan (together nothing reads.options) plan (all_good nothing reads.options words (record { each_one = tt; few = omega arith; short = tt; takes = tt }) reads.spelled reads.fit) reads.whole

-- what was loaded in place of data
has_content : (data_ loaded : Data) (files : FilesView) → HasContent data_ loaded files → IsBuiltData loaded × (built.has_data data_ ≡ built.has_data loaded)
has_content datas.None loaded files is = subst (λ (d : Data). IsBuiltData d × (false ≡ built.has_data d)) (sym is) (tt, refl)
has_content (datas.Text text) loaded files is = subst (λ (d : Data). IsBuiltData d × (true ≡ built.has_data d)) (sym is) (tt, refl)
has_content (datas.File name) loaded files (bytes, is, holds) = subst (λ (d : Data). IsBuiltData d × (true ≡ built.has_data d)) (sym is) (tt, refl)

-- a plan that words have can be played with what its file holds
pub can_play : (words : List (List ℕ)) (plan loaded : CatPlan) (data_ : Data) (files : FilesView) → ReadsWords words (plans.Cat plan) → HasContent plan.data_ data_ files → loaded ≡ record plan { data_ = data_ } → IsBuilt loaded
can_play words plan loaded data_ files reads content is =
    let r = ready words plan reads in
    let c = has_content plan.data_ data_ files content in
    subst IsBuilt (sym is) (record {
      ends_built = r.ends_built;
      data_built = c.0;
      topics_built = r.topics_ready;
      carries = subst (λ (b : Bool). IsTrue (not (needs_data plan.role) || b)) c.1 r.carries;
    })
