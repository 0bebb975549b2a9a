use Rattle.journal.proofs.UnderWay.{endings_both, noted_both, others_end_none, others_note_none}
use Rattle.journal.proofs.drive_laws.notes_are_counted.Goals as goal

pub returns-clause-noted : goal.returns-clause-noted
returns-clause-noted c = noted_both

pub returns-clause-noted_by_others : goal.returns-clause-noted_by_others
returns-clause-noted_by_others c = others_note_none

pub returns-clause-endings : goal.returns-clause-endings
returns-clause-endings c = endings_both

pub returns-clause-endings_by_others : goal.returns-clause-endings_by_others
returns-clause-endings_by_others c = others_end_none
