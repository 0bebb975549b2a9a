-- What holds of a run of `live` while its work is ended, after the last round.
use Rattle.std.specs.Prelude.{◌≡◌, ℕ, ◌++◌, List, [], ◌∷◌, All, length, map, None}
use Rattle.std.specs.List.{slice_index_or}
use Rattle.std.specs.Option.{IsSome}
use Rattle.journal.specs.declared.command.Command.TheVariants.{Open}
use Rattle.journal.specs.declared.command.Entry.{Entry}
use Rattle.journal.specs.declared.command.Reply.TheVariants.{NothingLeft}
use Rattle.journal.specs.declared.opening.Opening.{Opening}
use Rattle.journal.specs.Journal.{entry}
use Rattle.workload.specs.declared.script.Round.{Round}
use Rattle.workload.specs.declared.script.Script.{Script}
use Rattle.client_session.specs.Models.{DriverModel, SessionModel}
use Rattle.live_text.specs.declared.value.PullLine.{PullLine}
use Rattle.live_model.specs.Clause.{CarriesOut, Course}
use Rattle.live_model.specs.Printed.{told_pulls}
use Rattle.live_model.specs.Rounds.{Spell}
use Rattle.live_model.specs.Sent.{Wires}
use Rattle.live_rounds.specs.declared.answer.PullDone.{PullDone}
use Rattle.live_rounds.specs.Rounds.{MayAsk}
use Rattle.live_serving.specs.Driven.{HasOpened}
use Rattle.live_serving.specs.Followed.{pulls_for}
use Rattle.live_serving.specs.Rounds.{AreRoundsDone}

-- each line of the script is one of its clients', from 1 to the greatest, and its command is in range
abbrev pub MayBeAsked : Opening → Script → Type 0
MayBeAsked o script = All (λ (r : Round). All (MayAsk o script.clients) r.lines) script.rounds

-- after all rounds the driver opened further runs, and closed each of them
pub record IsRunningOut (most calls : ℕ) (rounds : List Round) (driver : DriverModel) (sessions : List SessionModel)
    (pulls : List PullDone) : Type 0 where
  pub before : DriverModel
  pub done : AreRoundsDone most calls rounds before sessions pulls
  pub later : List Spell
  pub opened : HasOpened most (length rounds) before driver later
  pub runs : All (λ (s : Spell). IsSome s.closed) later

-- and then it was answered that nothing is left
pub record HasRunOut (most calls : ℕ) (rounds : List Round) (driver : DriverModel) (sessions : List SessionModel)
    (pulls : List PullDone) : Type 0 where
  pub before : DriverModel
  pub running : IsRunningOut most calls rounds before sessions pulls
  pub last : Spell
  pub opened : HasOpened most (length rounds) before driver (last ∷ [])
  pub last_is : last.closed ≡ None
  pub journal : List Entry
  pub ends : driver.journal ≡ journal ++ entry 0 (Open most) NothingLeft ∷ []
  pub position : driver.position ≡ length driver.journal

-- the line of a pull, with the id of its coflow among these
abbrev pub pull_line : List ℕ → PullDone → PullLine
pull_line ids p = record {
  client = p.client;
  line = p.line;
  id = slice_index_or ids p.coflow 0;
  version = p.version;
  rank = p.rank;
}

-- some course carries out the script with this journal and these wires, and the lines of these pulls are those of its
-- clients
pub record IsCarriedOut (o : Opening) (script : Script) (most : ℕ) (journal : List Entry) (wires : Wires)
    (pulls : List PullDone) : Type 0 where
  pub course : Course
  pub carried : CarriesOut o script most journal wires course
  pub told : (k : ℕ) → map (pull_line o.table.ids) (pulls_for k pulls) ≡ told_pulls o journal (course.deeds k)
