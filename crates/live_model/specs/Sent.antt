-- What the runs of the journal sent, and what the wires hold.
use Rattle.std.specs.Prelude.{◌≡◌, ℕ, ◌-◌, ◌<◌, ◌==◌, ◌&&◌, min, Bool, true, if◌then◌else◌, List, [], ◌∷◌, ◌++◌, length}
use Rattle.std.specs.Prelude.{Some}
use Rattle.std.specs.List.{slice_index_or}
use Rattle.coflow_units.specs.declared.fabric.Flow.{Flow}
use Rattle.coflow_units.specs.Flows.{coflow_of, ingress_of}
use Rattle.coflow_units.specs.Grants.{IsGrants, IsRunLength}
use Rattle.coflow_units.specs.Schedule.{holds}
use Rattle.journal.specs.declared.command.Command.TheVariants.{Open}
use Rattle.journal.specs.declared.command.Entry.{Entry}
use Rattle.journal.specs.declared.command.Reply.TheVariants.{Opened}
use Rattle.journal.specs.declared.opening.Opening.{Opening}
use Rattle.journal.specs.State.{is_present, owed, slot_end}
use Rattle.journal.specs.Fold.{state_of}
use Rattle.journal.specs.Journal.{IsLegal, line_of}
use Rattle.journal.specs.Closed.{times_on}
use Rattle.workload.specs.declared.script.Script.{Script}
use Rattle.live_model.specs.Script.{limit_of}

-- what each wire was sent, by its port: runs of so many units of a flow from a slot on, each as slot, flow and units
abbrev pub Wires : Type 0
Wires = ℕ → List (ℕ × ℕ × ℕ)

-- The journal is legal for the opening, whose limit is that of the script, and at its end no coflow that joined and did
-- not withdraw owes a unit.
pub record EndsWork (o : Opening) (script : Script) (journal : List Entry) : Type 0 where
  pub limit : o.limit ≡ limit_of o script
  pub legal : IsLegal o journal
  pub sent :
      (f : ℕ) → f < length o.table.flows → is_present (state_of o journal) (coflow_of o.table.flows f) ≡ true →
      owed o (state_of o journal) f ≡ 0

-- the flow stands in the slot of the schedule; slots count from 1
abbrev pub stands_in : List (List ℕ) → ℕ → ℕ → Bool
stands_in slots slot f = holds (slice_index_or ([] ∷ slots) slot []) f

-- Each pair of a slot and a flow of the schedule, whose slots count from 1, stands once in the wires, at the wire of
-- the flow's ingress, and the wires hold no other pair.
abbrev pub IsSentOnce : List Flow → List (List ℕ) → Wires → Type 0
IsSentOnce flows slots wires =
    (port slot f : ℕ) →
    times_on (wires port) slot f ≡ (if (ingress_of flows f == port) && stands_in slots slot f then 1 else 0)

-- the run that was opened after these entries has the grants of the line and of what is owed there, and the greatest
-- length that these, `most` and the last slot allow
pub record IsGranted (o : Opening) (before : List Entry) (e : Entry) (most slot slots count : ℕ) : Type 0 where
  pub granted : List ℕ
  pub grants : IsGrants o.table.flows (line_of o before) (owed o (state_of o before)) granted
  pub count_is : count ≡ length granted
  pub length_is : IsRunLength (owed o (state_of o before)) granted (min most (slot_end - slot)) slots
  pub run :
      (state_of o (before ++ e ∷ [])).run ≡ Some (record { first = slot; slots = slots; granted = granted; notes = [] })

-- each run that was opened has its grants
abbrev pub AreGranted : Opening → List Entry → Type 0
AreGranted o journal =
    (before more : List Entry) (e : Entry) (most slot slots count : ℕ) →
    journal ≡ before ++ e ∷ more → e.command ≡ Open most → e.reply ≡ Opened slot slots count →
    IsGranted o before e most slot slots count
