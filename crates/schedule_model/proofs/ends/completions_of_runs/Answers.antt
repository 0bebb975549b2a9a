use Rattle.std.proofs.Common.{◌≡◌, ◌∙◌, length, arith}
use Rattle.coflow_units.specs.Completion.{completion}
use Rattle.schedule_model.specs.RunList.{slots_in}
use Rattle.schedule_model.proofs.CostSums.{by_place}
use Rattle.schedule_model.proofs.TimeCounts.{refill}
use Rattle.schedule_model.proofs.ends.completions_of_runs.Goals as goal

pub returns : goal.returns
returns c =
    let count : length c.fill_ends.new.ends ≡ c.args.coflows = c.fill_ends.auto.ends ∙ c.deref_mut.ensures.len ∙ c.in_ok-ends.ensures.len in
    refill c.fill_ends.new.ends c.in_ok-ends.ends.items c.in_ok-ends.ends.len (c.fill_ends.auto.ends ∙ c.deref_mut.ensures.len)
    ∙ by_place (λ x. completion c.args.flows.now (slots_in c.args.runs.now) x) c.fill_ends.new.ends c.args.coflows count
    (λ k lt. c.in_ok-fill_ends.ensures k (omega (arith, lt, count, c.fill_ends.auto.ends)))
