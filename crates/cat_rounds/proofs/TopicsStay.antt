-- Turns without topics leave the topics unchanged.
use Rattle.std.proofs.Common.{◌≡◌, refl, ap, sym, ◌∙◌, subst, List, [], ◌∷◌, ◌++◌, ℕ, true, false}
use Rattle.std.specs.Prelude.{IsTrue}
use Rattle.std.specs.List.{list_all}
use Rattle.turn_lock.specs.declared.turn.Turn.{Turn}
use Rattle.sp_history.specs.declared.entry.Entry.{Entry}
use Rattle.sp_history.specs.declared.entry.Entry.TheVariants.{Topic, Ctx}
use Rattle.sp_history.specs.Changes.{none_of}
use Rattle.sp_history.specs.Legal.{has_topic}
use Rattle.sp_history.specs.Past.{onto, past_of, topics}
use Rattle.sp_history.proofs.Appending.{past_of-append}
use Rattle.sp_ends.specs.Entries.{moves_calls}
use Rattle.cat_play.proofs.Stepping.{stays}
use Rattle.cat_rounds.specs.Lasting.{AreOn}

topics_step : (e : Entry) (past : List Entry) → moves_calls e ≡ false → topics (e ∷ past) 0 ≡ topics past 0
topics_step (Topic c t switch) past h = cc
topics_step (Ctx c gate) past h = cc
topics_step _ past h = refl

pub topics_stay : (entries past : List Entry) → none_of moves_calls entries ≡ true → topics (onto entries past) 0 ≡ topics past 0
topics_stay = stays (λ past. topics past 0) topics_step

-- where the same topics are there, these still are
pub still_on : (ts : List (List ℕ)) (past more : List Entry) → topics more 0 ≡ topics past 0 → AreOn ts past → AreOn ts more
still_on ts past more same on = subst (λ (us : List (List ℕ)). IsTrue (list_all (has_topic us) ts)) (sym same) on

-- so they are after a turn that no rule concerns
pub on_turn : (ts : List (List ℕ)) (h : List (Turn Entry)) (t : Turn Entry) → none_of moves_calls t.entries ≡ true → AreOn ts (past_of h) → AreOn ts (past_of (h ++ t ∷ []))
on_turn ts h t none on =
    still_on ts (past_of h) (past_of (h ++ t ∷ [])) (ap (λ (past : List Entry). topics past 0) (past_of-append h t) ∙ topics_stay t.entries (past_of h) none) on
