use Rattle.std.proofs.Common.{arith, ap, length, List}
use Rattle.coflow_stats.specs.declared.value.Finished.{Finished}
use Rattle.stats_cli.proofs.NumberFacts.{cost_small, kept_runs}
use Rattle.stats_cli.proofs.numbers.text_of_right.Goals as goal

pub write_summaries-requires-clause-slots : goal.write_summaries-requires-clause-slots
write_summaries-requires-clause-slots c = (kept_runs c.args.report.now c.requires.report).short

pub write_summaries-requires-clause-few : goal.write_summaries-requires-clause-few
write_summaries-requires-clause-few c =
    omega (arith, ap (λ (xs : List Finished). length xs) c.as_slice-2.ensures, c.in_ok-coflows.ensures.count, c.requires.table.few_coflows)

pub write_summaries-requires-clause-cost : goal.write_summaries-requires-clause-cost
write_summaries-requires-clause-cost c =
    cost_small c.args.input.now.table c.args.input.now.weights _ c.args.report.now c.requires.table c.requires.report c.requires.weights c.requires.rests
