use Rattle.online_runs.proofs.AtTheEnd.{short_entries, short_slots}
use Rattle.online_runs.proofs.laws.online_runs_are_short.Goals as goal

pub returns-clause-entries : goal.returns-clause-entries
returns-clause-entries c = short_entries

pub returns-clause-slots : goal.returns-clause-slots
returns-clause-slots c = short_slots
