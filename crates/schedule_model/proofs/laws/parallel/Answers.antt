use Rattle.coflow_units.proofs.Sums.{apart_from_pairs}
use Rattle.schedule_model.proofs.SlotLoads.{parallel_law}
use Rattle.schedule_model.proofs.laws.parallel.Goals as goal

pub returns : goal.returns
returns c = λ flows slots port coflows valid distinct. parallel_law flows slots coflows port valid (apart_from_pairs coflows distinct)
