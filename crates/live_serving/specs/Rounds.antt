-- What holds of a run of `live` after its first rounds.
use Rattle.std.specs.Prelude.{◌≡◌, ℕ, ◌<◌, ◌≤◌, List, All, length, map}
use Rattle.workload.specs.declared.script.Round.{Round}
use Rattle.client_session.specs.Models.{DriverModel, SessionModel}
use Rattle.live_model.specs.Levels.{IsSpellBetween, Levels}
use Rattle.live_model.specs.Rounds.{Spell}
use Rattle.live_model.specs.Script.{slot_rounds_from}
use Rattle.live_rounds.specs.declared.answer.PullDone.{PullDone}
use Rattle.live_rounds.specs.Acts.{Act}
use Rattle.live_rounds.specs.Drivers.{AreOpenings}
use Rattle.live_serving.specs.Followed.{AreFollowed, TellPulls}

-- The levels never fall, and are the same from this round on: all have seen as many entries, and each session a version
-- that is no less.
pub record AreLevelAt (levels : Levels) (round : ℕ) (driver : DriverModel) (sessions : List SessionModel)
    : Type 0 where
  pub positions : (n m : ℕ) → n ≤ m → levels.position n ≤ levels.position m
  pub versions : (n m : ℕ) → n ≤ m → levels.version n ≤ levels.version m
  pub position_is : (n : ℕ) → round ≤ n → levels.position n ≡ driver.position
  pub version_is : (n : ℕ) → round ≤ n → levels.version n ≡ levels.version round
  pub one : All (λ (s : SessionModel). s.position ≡ driver.position) sessions
  pub seen : All (λ (s : SessionModel). levels.version round ≤ s.rank.seen) sessions

-- After these rounds of a script, whose clients had so many calls each: the clients carried out their lines, and the
-- driver opened a run of at most so many slots beside each round that has one, each between the levels of its round.
-- These are the pulls, round by round, with what each was told.
pub record AreRoundsDone (most calls : ℕ) (rounds : List Round) (driver : DriverModel) (sessions : List SessionModel)
    (pulls : List PullDone) : Type 0 where
  pub levels : Levels
  pub told : List (List (ℕ × Act))
  pub spells : List Spell
  pub level : AreLevelAt levels (length rounds) driver sessions
  pub clients : AreFollowed levels rounds calls 1 sessions told
  pub pulls_are : TellPulls told pulls
  pub openings : AreOpenings most driver.journal spells
  pub rounds_done : All (λ (s : Spell). s.round < length rounds) spells
  pub between : All (IsSpellBetween levels) spells
  pub slot_rounds_are : map (λ (s : Spell). s.round) spells ≡ slot_rounds_from 0 rounds
