-- What lines came to, round by round, and told as deeds.
use Rattle.std.specs.Prelude.{◌≡◌, ℕ, ◌+◌, ◌<◌, ◌≤◌, List, [], map, Option, Some, None}
use Rattle.workload.specs.declared.script.ScriptLine.{ScriptLine}
use Rattle.client_session.specs.Models.{SessionModel}
use Rattle.client_session.specs.Own.{OwnEntry}
use Rattle.live_model.specs.Deeds.{Deed}
use Rattle.live_model.specs.Levels.{Levels}
use Rattle.live_rounds.specs.Acts.{Act, entered, IsOver, IsPullByTurn, noted, Outcome, version_at}

-- the position of the entry, where there is one
abbrev pub position_at : Outcome → Option ℕ
position_at (entered e) = Some e.position
position_at (noted n) = None

-- the line as a deed of its round
abbrev pub deed_of : ℕ → Act → Deed
deed_of round a =
    record { round = round; line = a.line; position = position_at a.outcome; version = version_at a.outcome }

-- lines with the numbers of their rounds, as deeds
abbrev pub deeds_of : List (ℕ × Act) → List Deed
deeds_of told = map (λ x. deed_of x.0 x.1) told

-- the same lines without the numbers
abbrev pub acts_of : List (ℕ × Act) → List Act
acts_of told = map (λ x. x.1) told

-- the lines of the script, each with the number of its round
abbrev pub lines_of : List (ℕ × Act) → List (ℕ × ScriptLine)
lines_of told = map (λ x. (x.0, x.1.line)) told

-- the session has no entries and no noted pulls
pub record IsNew (s : SessionModel) : Type 0 where
  pub own : s.own ≡ []
  pub notes : s.rank.pulls ≡ []

-- Before the round the session had seen the level before it, and after it no more than the level behind it.
pub record IsRoundBetween (levels : Levels) (round : ℕ) (old new : SessionModel) : Type 0 where
  pub position : levels.position round ≤ old.position
  pub version : levels.version round ≤ old.rank.seen
  pub end : new.position ≤ levels.position (round + 1)
  pub newest : new.rank.seen ≤ levels.version (round + 1)

-- where the line has an entry, the entry is such a one
abbrev pub ForEntry : (OwnEntry → Type 0) → Outcome → Type 0
ForEntry P (entered e) = P e
ForEntry P (noted n) = Unit {0}

-- What the line of a round came to lies between the levels before and behind the round: its entry does, its version is
-- no less than the one before, greater where its entry made it, and two above where it is a pull that has an entry; and
-- it is no greater than the one behind.
pub record LiesBetween (levels : Levels) (round : ℕ) (a : Act) : Type 0 where
  pub position :
      ForEntry (λ e. (levels.position round < e.position) × (e.position ≤ levels.position (round + 1))) a.outcome
  pub over : IsOver (levels.version round) a.outcome
  pub moved : IsPullByTurn a → levels.version round + 2 ≤ version_at a.outcome
  pub within : version_at a.outcome ≤ levels.version (round + 1)
