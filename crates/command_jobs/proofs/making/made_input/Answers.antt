use Rattle.std.proofs.Common.{◌∙◌}
use Rattle.command_jobs.proofs.MadeInput.{few_flows, few_units, made_gives, made_range, short_trace, short_weights, trace_reads, weights_read}
use Rattle.plans.proofs.PlanSound.{ids_differ}
use Rattle.command_jobs.proofs.making.made_input.Goals as goal

pub trace_of_text-requires-clause-short : goal.trace_of_text-requires-clause-short
trace_of_text-requires-clause-short c = short_trace c.args.seed c.as_slice.result.now (c.as_slice.ensures ∙ c.in_ok-made.ensures.trace)

pub trace_of_text-requires-clause-passes : goal.trace_of_text-requires-clause-passes
trace_of_text-requires-clause-passes c = trace_reads c.args.seed c.as_slice.result.now (c.as_slice.ensures ∙ c.in_ok-made.ensures.trace)

pub weights_of_text-read-requires-clause-short : goal.weights_of_text-read-requires-clause-short
weights_of_text-read-requires-clause-short c = short_weights c.args.seed c.as_slice-2.result.now (c.as_slice-2.ensures ∙ c.in_ok-made.ensures.weights)

pub weights_of_text-read-requires-clause-passes : goal.weights_of_text-read-requires-clause-passes
weights_of_text-read-requires-clause-passes c =
    weights_read c.args.seed c.as_slice.result.now c.as_slice-2.result.now c.in-Ok.trace (c.as_slice.ensures ∙ c.in_ok-made.ensures.trace) c.in-Ok.ensures.trace
    (c.as_slice-2.ensures ∙ c.in_ok-made.ensures.weights)

pub small_table-built-requires-clause-fits : goal.small_table-built-requires-clause-fits
small_table-built-requires-clause-fits c =
    few_flows c.args.seed c.args.unit.megabytes c.as_slice.result.now c.in-Ok.trace (c.as_slice.ensures ∙ c.in_ok-made.ensures.trace) c.in-Ok.ensures.trace
    c.args.unit.some

pub returns-clause-gives : goal.returns-clause-gives
returns-clause-gives c =
    made_gives c.args.seed c.as_slice.result.now c.as_slice-2.result.now c.in-Ok.trace c.in-Ok-read.weights c.args.unit.megabytes c.in-Ok-built.table
    (c.as_slice.ensures ∙ c.in_ok-made.ensures.trace) c.in-Ok.ensures.trace (c.as_slice-2.ensures ∙ c.in_ok-made.ensures.weights) c.in-Ok-read.ensures
    c.in-Ok-built.ensures.of

pub returns-clause-units : goal.returns-clause-units
returns-clause-units c =
    few_units c.args.seed c.args.unit.megabytes c.as_slice.result.now c.in-Ok.trace c.in-Ok-built.table (c.as_slice.ensures ∙ c.in_ok-made.ensures.trace)
    c.in-Ok.ensures.trace c.args.unit.some c.in-Ok.ensures.fits c.in-Ok-built.ensures.of

pub returns-clause-least : goal.returns-clause-least
returns-clause-least c = λ k d lt.
    (made_range c.args.seed c.as_slice.result.now c.as_slice-2.result.now c.in-Ok.trace c.in-Ok-read.weights (c.as_slice.ensures ∙ c.in_ok-made.ensures.trace)
    c.in-Ok.ensures.trace (c.as_slice-2.ensures ∙ c.in_ok-made.ensures.weights) c.in-Ok-read.ensures k d lt).0

pub returns-clause-most : goal.returns-clause-most
returns-clause-most c = λ k d lt.
    (made_range c.args.seed c.as_slice.result.now c.as_slice-2.result.now c.in-Ok.trace c.in-Ok-read.weights (c.as_slice.ensures ∙ c.in_ok-made.ensures.trace)
    c.in-Ok.ensures.trace (c.as_slice-2.ensures ∙ c.in_ok-made.ensures.weights) c.in-Ok-read.ensures k d lt).1

pub returns-clause-ids : goal.returns-clause-ids
returns-clause-ids c = ids_differ c.in-Ok.trace c.args.unit.megabytes c.in-Ok-built.table c.in-Ok.ensures.fits c.in-Ok-built.ensures.of
