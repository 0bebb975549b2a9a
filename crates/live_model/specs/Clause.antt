-- What a run of `live` owes to its script.
use Rattle.std.specs.Prelude.{ℕ, List}
use Rattle.journal.specs.declared.command.Entry.{Entry}
use Rattle.journal.specs.declared.opening.Opening.{Opening}
use Rattle.journal.specs.Closed.{schedule_of}
use Rattle.live_text.specs.declared.value.Live.{Live}
use Rattle.workload.specs.declared.script.Script.{Script}
use Rattle.live_model.specs.Deeds.{Deeds, DoesScript}
use Rattle.live_model.specs.Pulls.{TellVersions}
use Rattle.live_model.specs.Sent.{AreGranted, EndsWork, IsSentOnce, Wires}
use Rattle.live_model.specs.Rounds.{Drives, Driving, KeepRounds}
use Rattle.live_model.specs.Printed.{TellsRun}

-- how the lines of each client were carried out, by the client's number, and the openings of the driver
pub record Course : Type 0 where
  pub deeds : Deeds
  pub driving : Driving

-- This course carries out the script: the journal is legal and ends the work; the entries of each client are its
-- script; pulls are told versions that fit their places; each opened run has its grants; the wires hold the schedule,
-- each pair once; the driver opens and closes its runs; and the rounds stand one after another.
pub record CarriesOut (o : Opening) (script : Script) (most : ℕ) (journal : List Entry) (wires : Wires) (x : Course)
    : Type 0 where
  pub work : EndsWork o script journal
  pub clients : DoesScript script journal x.deeds
  pub pulls : TellVersions journal x.deeds
  pub granted : AreGranted o journal
  pub sent : IsSentOnce o.table.flows (schedule_of o journal) wires
  pub driver : Drives script most journal x.driving
  pub rounds : KeepRounds x.deeds x.driving

-- some course carries out the script with this journal and these wires, and the value tells it
pub record IsLiveRun (o : Opening) (script : Script) (most : ℕ) (live : Live) (journal : List Entry) (wires : Wires)
    : Type 0 where
  pub course : Course
  pub carried : CarriesOut o script most journal wires course
  pub told : TellsRun o script journal course.deeds live
