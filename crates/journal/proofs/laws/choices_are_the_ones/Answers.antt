use Rattle.journal.proofs.Instances.{is_the_ordering, only_ordering, are_the_grants, only_grants}
use Rattle.journal.proofs.laws.choices_are_the_ones.Goals as goal

pub returns-clause-ordering : goal.returns-clause-ordering
returns-clause-ordering c = is_the_ordering

pub returns-clause-only_ordering : goal.returns-clause-only_ordering
returns-clause-only_ordering c = only_ordering

pub returns-clause-grants : goal.returns-clause-grants
returns-clause-grants c = are_the_grants

pub returns-clause-only_grants : goal.returns-clause-only_grants
returns-clause-only_grants c = only_grants
