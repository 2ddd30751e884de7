-- The rounds after the end of a plan's play don't depend on what a file holds.
use Rattle.std.specs.Prelude.{◌≡◌, ◌≤◌, ◌+◌, ℕ, Bool, List, [], ◌∷◌, Option, Some, None, true, false, if◌then◌else◌}
use Rattle.std.proofs.Common.{refl, ap, sym, subst, inl, inr}
use Rattle.turn_lock.specs.declared.turn.Turn.{Turn}
use Rattle.sp_base.specs.Views.{NetView, FilesView, PaceView, SinkView}
use Rattle.sp_history.specs.declared.entry.Entry.{Entry}
use Rattle.sp_history.specs.declared.entry.Entry.TheVariants.{Took}
use Rattle.sp_history.specs.declared.setting.Setting.{Setting}
use Rattle.sp_history.specs.Past.{past_of}
use Rattle.cat_text.specs.declared.plan.CatPlan.{CatPlan}
use Rattle.cat_text.specs.declared.plan.Data.{Data}
use Rattle.cat_text.specs.declared.plan.Data.TheVariants as datas
use Rattle.cat_play.specs.declared.status.Status.{Status}
use Rattle.cat_play.specs.Plans.{Play, IsBodyOf}
use Rattle.cat_play.specs.Running.{world, run_setting, is_called_off, EndsPlan}
use Rattle.cat_play.specs.Scripts.{open_part, asks_anew, last_result, counts_for, count_in, over}
use Rattle.cat_play.specs.Spending.{EndsInTime, EndsSoon, IsPrompt, late_ticks, excuses}
use Rattle.sp_ends.specs.LinkCounts.{ticks_where}
use Rattle.cat_run.specs.Loading.{HasContent}

-- a play that carries these bytes
abbrev with_body : Play → List ℕ → Play
with_body play bytes = record play { body = Some bytes }

-- what counts depends only on whether there are data
count_same : (z : Setting) (play : Play) (a b : List ℕ) (past : List Entry) → count_in z (with_body play a) past ≡ count_in z (with_body play b) past
count_same z play a b [] = refl
count_same z play a b (Took op k ∷ past) =
    ap (λ (n : ℕ). if counts_for play.role true (asks_anew z (Took op k ∷ past)) (last_result (Took op k ∷ past)) then n + 1 else n) (count_same z play a b past)
count_same z play a b (e ∷ past) = count_same z play a b past

over_same : (z : Setting) (play : Play) (a b : List ℕ) (past : List Entry) → over z (with_body play a) past ≡ over z (with_body play b) past
over_same z play a b past = rw (count_same z play a b (open_part past)) refl

over_all : (z : Setting) (play : Play) (a b : List ℕ) → over z (with_body play a) ≡ over z (with_body play b)
over_all z play a b i past = over_same z play a b past i

module _ (net net' : NetView) (files files' : FilesView) (pace pace' : PaceView) (sink sink' : SinkView) where
  -- the plan's own play
  of_content : (s : Status) (z : Setting) (plan : CatPlan) (d loaded : Data) (h : List (Turn Entry)) (play : Play) → HasContent d loaded files → IsBodyOf d files play.body
      → ((body : Option (List ℕ)) → IsBodyOf loaded files body → EndsInTime (is_called_off s) z (record play { body = body }) h net net') → EndsInTime (is_called_off s) z play h net net'
  of_content s z plan datas.None loaded h play is carries ends = ends play.body (subst (λ (x : Data). IsBodyOf x files play.body) (sym is) carries)
  of_content s z plan (datas.Text text) loaded h play is carries ends = ends play.body (subst (λ (x : Data). IsBodyOf x files play.body) (sym is) carries)
  of_content s z plan (datas.File name) loaded h play (bytes, is, holds) (own, body, held) ends =
      subst (λ (b : Option (List ℕ)). EndsInTime (is_called_off s) z (record play { body = b }) h net net') (sym body) (moved (ends (Some bytes) (subst (λ (x : Data). IsBodyOf x files (Some bytes)) (sym is) refl)))
    where
      late : late_ticks z (with_body play bytes) (past_of h) ≡ late_ticks z (with_body play own) (past_of h)
      late = ap (λ (o : List Entry → Bool). ticks_where o (past_of h)) (over_all z play bytes own)

      prompt : IsPrompt z (with_body play bytes) net'.back net.opened net'.opened h → IsPrompt z (with_body play own) net'.back net.opened net'.opened h
      prompt x = subst (λ (n : ℕ). n ≤ excuses h net'.back net.opened net'.opened + 1) late x

      soon : (b : Bool) → EndsSoon b z (with_body play bytes) net'.back net.opened net'.opened h → EndsSoon b z (with_body play own) net'.back net.opened net'.opened h
      soon false x = prompt x
      soon true (inl x) = inl (prompt x)
      soon true (inr x) = inr x

      moved : EndsInTime (is_called_off s) z (with_body play bytes) h net net' → EndsInTime (is_called_off s) z (with_body play own) h net net'
      moved x rises = soon (is_called_off s) (x rises)

  -- the plan with what its file holds
  loaded_ends : (s : Status) (plan : CatPlan) (data_ : Data) (dice : ℕ) (r : Option (List (Turn Entry))) → HasContent plan.data_ data_ files → ((f : FilesView) → EndsPlan s (record plan { data_ = data_ }) dice r (world net f pace sink) (world net' f pace' sink'))
      → EndsPlan s plan dice r (world net files pace sink) (world net' files' pace' sink')
  loaded_ends s plan data_ dice None content ends = tt
  loaded_ends s plan data_ dice (Some h) content ends = λ play is.
      of_content s (run_setting plan.role dice) plan plan.data_ data_ h play content is.body (λ body carries. ends files (record play { body = body }) (record { role = is.role; body = carries; topics = is.topics; count = is.count; interval = is.interval; recv_timeout = is.recv_timeout; send_timeout = is.send_timeout; format = is.format }))

  pub ends_of : (s : Status) (plan loaded : CatPlan) (data_ : Data) (dice : ℕ) (r : Option (List (Turn Entry))) → HasContent plan.data_ data_ files → loaded ≡ record plan { data_ = data_ } → ((f : FilesView) → EndsPlan s loaded dice r (world net f pace sink) (world net' f pace' sink'))
      → EndsPlan s plan dice r (world net files pace sink) (world net' files' pace' sink')
  ends_of s plan loaded data_ dice r content is ends =
      loaded_ends s plan data_ dice r content (subst (λ (l : CatPlan). (f : FilesView) → EndsPlan s l dice r (world net f pace sink) (world net' f pace' sink')) is ends)
