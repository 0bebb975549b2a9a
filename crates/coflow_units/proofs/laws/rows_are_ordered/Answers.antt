use Rattle.coflow_units.proofs.RowOrders.{equal_ordering, unequal_ordering, empty_ordering, ties_ordering, realistic_ordering, other_coflow, rounded_up, later_port}
use Rattle.coflow_units.proofs.laws.rows_are_ordered.Goals as goal

pub returns-clause-equal_weights : goal.returns-clause-equal_weights
returns-clause-equal_weights c = equal_ordering

pub returns-clause-unequal_weights : goal.returns-clause-unequal_weights
returns-clause-unequal_weights c = unequal_ordering

pub returns-clause-one_empty : goal.returns-clause-one_empty
returns-clause-one_empty c = empty_ordering

pub returns-clause-all_ties : goal.returns-clause-all_ties
returns-clause-all_ties c = ties_ordering

pub returns-clause-realistic : goal.returns-clause-realistic
returns-clause-realistic c = realistic_ordering

pub returns-clause-other_coflow : goal.returns-clause-other_coflow
returns-clause-other_coflow c = other_coflow

pub returns-clause-rounded_up : goal.returns-clause-rounded_up
returns-clause-rounded_up c = rounded_up

pub returns-clause-later_port : goal.returns-clause-later_port
returns-clause-later_port c = later_port
