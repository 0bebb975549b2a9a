-- What the journal of a closed hall is.
use Rattle.std.specs.Prelude.{◌≡◌, List}
use Rattle.journal.specs.declared.command.Entry.{Entry}
use Rattle.master_core.specs.Master.{MasterFacts}
use Rattle.client_session.specs.Closes.{IsClosed}
use Rattle.client_session.specs.Models.{DriverModel, HallModel, SessionModel}

-- it is that of a master to which the hall may be closed
abbrev pub IsJournalOf : HallModel → DriverModel → List SessionModel → List Entry → Type 0
IsJournalOf hall driver sessions journal =
    (master : MasterFacts) × IsClosed hall driver sessions master × (journal ≡ master.journal)
