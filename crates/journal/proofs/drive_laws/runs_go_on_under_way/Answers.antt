use Rattle.journal.proofs.UnderWay.{closes, note_more, opens, others_more, sent_told}
use Rattle.journal.proofs.drive_laws.runs_go_on_under_way.Goals as goal

pub returns-clause-opens : goal.returns-clause-opens
returns-clause-opens c = opens

pub returns-clause-others : goal.returns-clause-others
returns-clause-others c = others_more

pub returns-clause-sent : goal.returns-clause-sent
returns-clause-sent c = sent_told

pub returns-clause-notes : goal.returns-clause-notes
returns-clause-notes c = note_more

pub returns-clause-closes : goal.returns-clause-closes
returns-clause-closes c = closes
