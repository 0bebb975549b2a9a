use Rattle.release_bound.proofs.ReleaseSteps.{released_feasible}
use Rattle.release_bound.proofs.ReleasedLaw.{total_law}
use Rattle.release_bound.proofs.laws.released_ordering_is_feasible.Goals as goal

pub returns-clause-feasible : goal.returns-clause-feasible
returns-clause-feasible c = released_feasible

pub returns-clause-total : goal.returns-clause-total
returns-clause-total c = λ by i arrival places slots ordering released. total_law i arrival places slots ordering.certificate
    (released_feasible by i arrival places ordering) released
