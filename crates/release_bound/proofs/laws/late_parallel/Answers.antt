use Rattle.coflow_units.proofs.Sums.{apart_from_pairs}
use Rattle.release_bound.proofs.LateLaw.{parallel_with_arrivals}
use Rattle.release_bound.proofs.laws.late_parallel.Goals as goal

pub returns : goal.returns
returns c = λ flows arrival slots port coflows released distinct. parallel_with_arrivals flows arrival slots coflows port released (apart_from_pairs coflows distinct)
