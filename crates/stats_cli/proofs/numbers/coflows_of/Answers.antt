use Rattle.std.proofs.Common.{length, sym, subst}
use Rattle.schedule_model.specs.RunList.{IsKept, NamesFlows, slots_in}
use Rattle.stats_cli.proofs.NumberFacts.{kept_runs, named_flows}
use Rattle.stats_cli.proofs.numbers.coflows_of.Goals as goal

pub finished_of-requires-clause-kept : goal.finished_of-requires-clause-kept
finished_of-requires-clause-kept c = subst IsKept (sym c.runs_of.ensures) (kept_runs c.args.report.now c.requires.report)

pub finished_of-requires-clause-names : goal.finished_of-requires-clause-names
finished_of-requires-clause-names c =
    subst (λ runs. NamesFlows (length c.args.input.now.table.flows) (slots_in runs)) (sym c.runs_of.ensures)
    (named_flows c.args.input.now.table c.args.input.now.weights _ c.args.report.now c.requires.rests)
