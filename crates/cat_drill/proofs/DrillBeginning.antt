-- How a drill's socket begins.
use Rattle.std.proofs.Common.{◌≡◌, refl, ap, sym, ◌∙◌, subst, List, [], ◌∷◌, ◌++◌, ℕ, ◌+◌, ◌≤◌, length, arith, false, Some, Ok}
use Rattle.std.proofs.lemmas.List.{append-nil}
use Rattle.turn_lock.specs.declared.turn.Turn.{Turn}
use Rattle.sp_base.specs.Wires.{WireView, numbers_of}
use Rattle.sp_msg.specs.Views.{OverLanes}
use Rattle.sp_history.specs.declared.entry.Entry.{Entry}
use Rattle.sp_history.specs.declared.setting.Setting.{Setting}
use Rattle.sp_history.specs.Past.{past_of, name_of, ups}
use Rattle.sp_history.specs.Legal.{Legal}
use Rattle.sp_core.specs.Attaching.{AttachedBy}
use Rattle.sp_socket.specs.Passes.{SocketName, PassView, ListView, new_pass, new_list}
use Rattle.sp_socket.specs.Turns.{TookTurn}
use Rattle.sp_base.specs.declared.role.Role.TheVariants.{Pull as RolePull}
use Rattle.sp_history.specs.declared.setting.Options.{Options}
use Rattle.sp_history.specs.Options.{usual}
use Rattle.sp_proto.specs.Kinds.{Kind, Starts, setting_of, start}
use Rattle.proto_pipeline.specs.declared.pull.Pull.{Pull}
use Rattle.proto_pipeline.specs.Pulls.{Ties, pull_kind}
use Rattle.proto_pipeline.specs.PullLaws as laws
use Rattle.cat_play.specs.Drilling.{drill_setting}
use Rattle.cat_drill.specs.Calling.{IsDrillPass, AreFourCallers}
use Rattle.cat_drill.specs.Ending.{IsFedBy}
use Rattle.cat_drill.proofs.Laws.{attached_named}

length_more : {A : Type 0} (xs : List A) (x : A) → length (xs ++ x ∷ []) ≡ length xs + 1
length_more [] x = refl
length_more (y ∷ xs) x = omega (arith, length_more xs x)

-- one was taken from this many
pub one_less : (xs ys : List PassView) (x : PassView) (n : ℕ) → xs ≡ ys ++ x ∷ [] → length xs ≡ n + 1 → length ys ≡ n
one_less xs ys x n e h = omega (arith, ap (λ (zs : List PassView). length zs) e, length_more ys x, h)

-- ---- The passes of a new list

record Popped (a b c d p q r t : PassView) (rest : List PassView) : Type 0 where
  pub first : p ≡ a
  pub second : q ≡ b
  pub third : r ≡ c
  pub fourth : t ≡ d
  pub none : rest ≡ []

popped : (a b c d p q r t : PassView) (rest : List PassView) → a ∷ b ∷ c ∷ d ∷ [] ≡ (((rest ++ p ∷ []) ++ q ∷ []) ++ r ∷ []) ++ t ∷ [] → Popped a b c d p q r t rest
popped a b c d p q r t [] e = record { first = (cc); second = (cc); third = (cc); fourth = (cc); none = refl }
popped a b c d p q r t (x ∷ rest) e =
    absurd (omega (arith, ap (λ (zs : List PassView). length zs) e, length_more (((x ∷ rest ++ p ∷ []) ++ q ∷ []) ++ r ∷ []) t, length_more ((x ∷ rest ++ p ∷ []) ++ q ∷ []) r, length_more (x ∷ rest ++ p ∷ []) q, length_more (x ∷ rest) p))

own_new : (s : SocketName) (n : ℕ) (p : PassView) → p ≡ new_pass s drill_setting n → (s.words.slots ≡ 256) × (s.words.callers ≡ 4) → IsDrillPass s p
own_new s n p e w = (ap (λ (x : PassView). x.lock) e, ap (λ (x : PassView). x.label) e, w.0, w.1)

-- all four are those of a new list, and none is left
pub four_callers_new : (s : SocketName) (l : ListView) (i3 i2 i1 rest : List PassView) (p q r t : PassView) → l ≡ new_list s drill_setting → (s.words.slots ≡ 256) × (s.words.callers ≡ 4) → l.items ≡ i3 ++ t ∷ [] → i3 ≡ i2 ++ r ∷ [] → i2 ≡ i1 ++ q ∷ [] → i1 ≡ rest ++ p ∷ [] → AreFourCallers s p q r t [] × (rest ≡ [])
four_callers_new s l i3 i2 i1 rest p q r t new w e4 e3 e2 e1 =
    let all : i3 ++ t ∷ [] ≡ (((rest ++ p ∷ []) ++ q ∷ []) ++ r ∷ []) ++ t ∷ [] =
    ap (λ (x : List PassView). x ++ t ∷ []) (e3 ∙ ap (λ (x : List PassView). x ++ r ∷ []) (e2 ∙ ap (λ (x : List PassView). x ++ q ∷ []) e1)) in
    let e : (new_list s drill_setting).items ≡ (((rest ++ p ∷ []) ++ q ∷ []) ++ r ∷ []) ++ t ∷ [] = sym (ap (λ (x : ListView). x.items) new) ∙ e4 ∙ all in
    let o = popped (new_pass s drill_setting 1) (new_pass s drill_setting 2) (new_pass s drill_setting 3) (new_pass s drill_setting 4) p q r t rest e in (
      record {
        main = record { own = own_new s 1 p o.first w; open_ = tt };
        two = own_new s 2 q o.second w;
        three = own_new s 3 r o.third w;
        four = own_new s 4 t o.fourth w;
      },
      o.none,
    )

-- the setting of a socket over a new machine
pub pull_setting : (m : Pull) (o : Options) → o ≡ usual RolePull 0 → Starts Ties m (pull_kind false o) → setting_of (pull_kind m.raw m.options) 256 4 ≡ drill_setting
pull_setting m o is starts =
    ap (λ (k : Kind). setting_of k 256 4) (sym (laws.kinds m (start (setting_of (pull_kind false o) 256 4) 0) (starts 256 4 0))) ∙ ap (λ (x : Options). setting_of (pull_kind false x) 256 4) is

-- ---- The pipe

-- the pipe that came up last is fed by the lane of its wire
pub fed : (says : Setting → List (Turn Entry) → Turn Entry → Type 0) (p place limit : ℕ) (lane out : List ℕ) (w : WireView) (before after : PassView) → ((z : Setting) (h : List (Turn Entry)) (t : Turn Entry) → says z h t → AttachedBy (Ok p) z h t place limit (numbers_of w.name)) → w.name ≡ OverLanes out lane → TookTurn says before after → IsFedBy p lane after.seen
fed says p place limit lane out w before after does name t =
    let a = does t.label.setting t.past t.turn t.said in
    let n = attached_named t.label.setting t.past t.turn p place limit (record { numbers = numbers_of w.name }) (subst (Legal t.label.setting) t.seen t.legal) a.0 a.1 in
    record {
      start = after.seen;
      starts = ([], sym (append-nil after.seen));
      out = out;
      name = ap (λ (h : List (Turn Entry)). name_of (past_of h) p) t.seen ∙ n.0 ∙ ap (λ x. Some (numbers_of x)) name;
      known = subst (λ (h : List (Turn Entry)). p ≤ ups (past_of h)) (sym t.seen) n.1;
    }
