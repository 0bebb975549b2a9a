use Rattle.journal.proofs.OpenReplies.{open_reply}
use Rattle.journal.proofs.UnderWay.{close_reply, note_reply, note_taken}
use Rattle.journal.proofs.drive_laws.drivers_are_answered.Goals as goal

pub returns-clause-open : goal.returns-clause-open
returns-clause-open c = open_reply

pub returns-clause-note : goal.returns-clause-note
returns-clause-note c = note_reply

pub returns-clause-taken : goal.returns-clause-taken
returns-clause-taken c = note_taken

pub returns-clause-close : goal.returns-clause-close
returns-clause-close c = close_reply
