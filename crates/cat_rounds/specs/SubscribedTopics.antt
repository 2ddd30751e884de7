-- What holds before the first round, while topics are added.
use Rattle.std.specs.Prelude.{◌≡◌, ◌≤◌, ◌==◌, ◌||◌, ℕ, ⊤, true, false, IsTrue, List, length, None, Result, Ok, Err}
use Rattle.std.specs.List.{AllByRecursion}
use Rattle.sp_history.specs.declared.setting.Setting.{Setting}
use Rattle.sp_history.specs.Legal.{has_topic}
use Rattle.sp_history.specs.Past.{past_of, topics}
use Rattle.sp_history.specs.Setting.{has_topics}
use Rattle.sp_socket.specs.Singles.{SingleView}
use Rattle.cat_rounds.specs.Parts.{IsSoundRun}
use Rattle.cat_play.specs.Scripts.{has_ticked, has_begun, texts}
use Rattle.cat_rounds.specs.declared.player.Player.{Player}
use Rattle.cat_rounds.specs.Lasting.{play_of, PlayStands, AreOn}
use Rattle.cat_rounds.specs.PlayerSteps.{GoesOnBy}

-- the socket takes these topics: there are none, or it has topics, and each has at most 1,024 bytes
pub record CanSubscribe (z : Setting) (ts : List (List ℕ)) : Type 0 where
  pub supported : IsTrue (has_topics z || (length ts == 0))
  pub short : AllByRecursion (λ t. length t ≤ 1024) ts

-- the play corresponds to the socket, and neither a tick nor a begin came
pub record IsBefore (s : SingleView) (p : Player) : Type 0 where
  pub play : PlayStands s.setting s.seen p
  pub sound : IsSoundRun s
  pub free : p.op ≡ None
  pub unticked : has_ticked (past_of s.seen) ≡ false
  pub unbegun : has_begun (past_of s.seen) ≡ false

-- further turns before the first round: topics that were there still are, and nothing is printed
pub record Prepares (old new : SingleView) (p : Player) : Type 0 where
  pub before : IsBefore new p
  pub goes_on : GoesOnBy old new
  pub texts_are : texts (play_of p.script) (past_of new.seen) ≡ texts (play_of p.script) (past_of old.seen)
  pub stays_on : (t : List ℕ) → has_topic (topics (past_of old.seen) 0) t ≡ true → has_topic (topics (past_of new.seen) 0) t ≡ true

-- the topic is on, unless out of memory
abbrev pub IsOnFor : {E : Type 0} → Result (Unit {0}) E → List ℕ → SingleView → Type 0
IsOnFor (Ok done) t s = has_topic (topics (past_of s.seen) 0) t ≡ true
IsOnFor (Err e) t s = ⊤

abbrev pub AreOnFor : {E : Type 0} → Result (Unit {0}) E → List (List ℕ) → SingleView → Type 0
AreOnFor (Ok done) ts s = AreOn ts (past_of s.seen)
AreOnFor (Err e) ts s = ⊤
