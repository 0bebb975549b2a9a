-- What a run of `live` that was served to its end is.
use Rattle.std.specs.Prelude.{◌≡◌, ℕ, List, flat_map, Option}
use Rattle.std.specs.List.{range_with_len}
use Rattle.journal.specs.declared.command.Entry.{Entry}
use Rattle.journal.specs.declared.opening.Opening.{Opening}
use Rattle.journal.specs.Closed.{wire_of}
use Rattle.workload.specs.declared.script.Script.{Script}
use Rattle.live_text.specs.declared.value.PullLine.{PullLine}
use Rattle.live_model.specs.Clause.{CarriesOut, Course}
use Rattle.live_model.specs.Printed.{told_pulls}
use Rattle.live_model.specs.Sent.{Wires}
use Rattle.slot_runner.specs.Wires.{HaveMore}

-- Some course carries out the script with this journal and with what the wires were sent since, and these are the lines
-- of its pulls, by client and then by line.
pub record IsServed {W : Type 0} (runs : W → Option (List (ℕ × ℕ × ℕ))) (o : Opening) (script : Script) (most : ℕ)
    (journal : List Entry) (lines : List PullLine) (before now : List W) : Type 0 where
  pub sent : Wires
  pub course : Course
  pub carried : CarriesOut o script most journal sent course
  pub pulls : lines ≡ flat_map (λ client. told_pulls o journal (course.deeds client)) (range_with_len 1 script.clients)
  pub wires : HaveMore runs (λ port more. more ≡ sent port) o.table.ports before now

-- so it is with what the journal sent, and it is all that the driver has seen
pub record IsTold (o : Opening) (script : Script) (most : ℕ) (journal driven : List Entry) (lines : List PullLine)
    : Type 0 where
  pub all_seen : journal ≡ driven
  pub course : Course
  pub carried : CarriesOut o script most journal (wire_of o journal) course
  pub pulls : lines ≡ flat_map (λ client. told_pulls o journal (course.deeds client)) (range_with_len 1 script.clients)
