use Rattle.std.proofs.Common.{◌≡◌, map, subst}
use Rattle.std.specs.List.{range_with_len}
use Rattle.coflow_units.specs.Completion.{completion}
use Rattle.schedule_model.proofs.ends.completions.Goals as goal

pub completions_of_runs-requires-clause-names : goal.completions_of_runs-requires-clause-names
completions_of_runs-requires-clause-names c = rw c.kept.ensures.slots c.requires

pub returns : goal.returns
returns c = subst (λ s. c.in_ok-ends.ends.items ≡ map (λ x. completion c.args.flows.now s x) (range_with_len 0 c.args.coflows)) c.kept.ensures.slots c.in_ok-ends.ensures
