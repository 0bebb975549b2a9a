use Rattle.journal.proofs.RowChecks.{doors, skips_back, late_joiner, by_joining, by_order, newest_note, left_work, closes_in_full, ranks, fills, runs, last_slot, weights}
use Rattle.journal.proofs.laws.rows_hold.Goals as goal

pub returns-clause-ranks : goal.returns-clause-ranks
returns-clause-ranks c = ranks

pub returns-clause-fills : goal.returns-clause-fills
returns-clause-fills c = fills

pub returns-clause-runs : goal.returns-clause-runs
returns-clause-runs c = runs

pub returns-clause-last_slot : goal.returns-clause-last_slot
returns-clause-last_slot c = last_slot

pub returns-clause-weights : goal.returns-clause-weights
returns-clause-weights c = weights

pub returns-clause-closes_in_full : goal.returns-clause-closes_in_full
returns-clause-closes_in_full c = closes_in_full

pub returns-clause-doors : goal.returns-clause-doors
returns-clause-doors c = doors

pub returns-clause-skips_back : goal.returns-clause-skips_back
returns-clause-skips_back c = skips_back

pub returns-clause-late_joiner : goal.returns-clause-late_joiner
returns-clause-late_joiner c = late_joiner

pub returns-clause-by_joining : goal.returns-clause-by_joining
returns-clause-by_joining c = by_joining

pub returns-clause-by_order : goal.returns-clause-by_order
returns-clause-by_order c = by_order

pub returns-clause-newest_note : goal.returns-clause-newest_note
returns-clause-newest_note c = newest_note

pub returns-clause-left_work : goal.returns-clause-left_work
returns-clause-left_work c = left_work
