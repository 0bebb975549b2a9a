use Rattle.journal.proofs.RunRowChecks.{counted_grants_are, counted_notes_are, counted_runs_are, furthest_skips_are, noted_run_is, one_run_is, open_run_is, served_order_is}
use Rattle.journal.proofs.RunRowChecks.{counted_kinds_are, driven_apart_are, ended_flows_are, notes_in_order_are, slots_of_a_run_are, tallied_slots_are}
use Rattle.journal.proofs.RunRowChecks.{skipped_slots_are, twice_is, two_ports_are, withdrawal_between_is}
use Rattle.journal.proofs.run_laws.run_rows_hold.Goals as goal

pub returns-clause-served_order : goal.returns-clause-served_order
returns-clause-served_order c = served_order_is

pub returns-clause-noted_run : goal.returns-clause-noted_run
returns-clause-noted_run c = noted_run_is

pub returns-clause-skipped_slots : goal.returns-clause-skipped_slots
returns-clause-skipped_slots c = skipped_slots_are

pub returns-clause-withdrawal_between : goal.returns-clause-withdrawal_between
returns-clause-withdrawal_between c = withdrawal_between_is

pub returns-clause-open_run : goal.returns-clause-open_run
returns-clause-open_run c = open_run_is

pub returns-clause-one_run : goal.returns-clause-one_run
returns-clause-one_run c = one_run_is

pub returns-clause-two_ports : goal.returns-clause-two_ports
returns-clause-two_ports c = two_ports_are

pub returns-clause-twice_on_a_wire : goal.returns-clause-twice_on_a_wire
returns-clause-twice_on_a_wire c = twice_is

pub returns-clause-counted_runs : goal.returns-clause-counted_runs
returns-clause-counted_runs c = counted_runs_are

pub returns-clause-counted_grants : goal.returns-clause-counted_grants
returns-clause-counted_grants c = counted_grants_are

pub returns-clause-furthest_skips : goal.returns-clause-furthest_skips
returns-clause-furthest_skips c = furthest_skips_are

pub returns-clause-counted_notes : goal.returns-clause-counted_notes
returns-clause-counted_notes c = counted_notes_are

pub returns-clause-notes_in_order : goal.returns-clause-notes_in_order
returns-clause-notes_in_order c = notes_in_order_are

pub returns-clause-driven_apart : goal.returns-clause-driven_apart
returns-clause-driven_apart c = driven_apart_are

pub returns-clause-counted_kinds : goal.returns-clause-counted_kinds
returns-clause-counted_kinds c = counted_kinds_are

pub returns-clause-slots_of_a_run : goal.returns-clause-slots_of_a_run
returns-clause-slots_of_a_run c = slots_of_a_run_are

pub returns-clause-ended_flows : goal.returns-clause-ended_flows
returns-clause-ended_flows c = ended_flows_are

pub returns-clause-tallied_slots : goal.returns-clause-tallied_slots
returns-clause-tallied_slots c = tallied_slots_are
