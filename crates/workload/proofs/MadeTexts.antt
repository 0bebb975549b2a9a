-- The texts of a seed are read, and they say what was drawn.
use Rattle.std.proofs.Common.{◌≡◌, ℕ, ◌^◌, ◌≤◌, length, arith, ap, refl, ◌∙◌}
use Rattle.std.specs.Prelude.{None}
use Rattle.coflow_units.specs.declared.quantity.Quantity.{Quantity}
use Rattle.coflow_units.specs.declared.trace.Trace.{Trace}
use Rattle.flow_table.specs.Causes.{HasCause}
use Rattle.flow_table.specs.declared.fault.TableFault.TheVariants.{Limit}
use Rattle.flow_table.specs.Units.{units_in_all}
use Rattle.text_fields.specs.Checks.{first_fault}
use Rattle.trace_reader.specs.Trace.{trace_checks, trace_of}
use Rattle.trace_reader.proofs.TraceParts.{within_limits}
use Rattle.weights.specs.Weights.{text_checks, weights_of}
use Rattle.workload.specs.Coflows.{made_coflows}
use Rattle.workload.specs.Made.{made_trace, made_weights}
use Rattle.workload.specs.Text.{trace_text, weights_text}
use Rattle.workload.proofs.FlowsFit.{flows_fit, units_few}
use Rattle.workload.proofs.MadeRanges.{are_made, count_is}
use Rattle.workload.proofs.TracePasses.{trace_is_short, trace_passes, trace_says}
use Rattle.workload.proofs.WeightsPass.{weights_are_said, weights_are_short, weights_text_passes}

pub made_trace_short : (seed : ℕ) → length (trace_text (made_coflows seed)) ≤ 2 ^ 26
made_trace_short seed = trace_is_short (made_coflows seed) (are_made seed 200 (omega arith)) (count_is seed 200)

pub made_trace_passes : (seed : ℕ) → first_fault (trace_checks (trace_text (made_coflows seed))) ≡ None
made_trace_passes seed = trace_passes (made_coflows seed) (are_made seed 200 (omega arith)) (count_is seed 200)

pub made_trace_says : (seed : ℕ) → trace_of (trace_text (made_coflows seed)) ≡ made_trace seed
made_trace_says seed = trace_says (made_coflows seed) (are_made seed 200 (omega arith))

pub made_weights_short : (seed : ℕ) → length (weights_text (made_coflows seed)) ≤ 2 ^ 26
made_weights_short seed = weights_are_short (made_coflows seed) (are_made seed 200 (omega arith)) (count_is seed 200)

pub made_weights_pass : (seed : ℕ) → first_fault (text_checks (weights_text (made_coflows seed)) (trace_of (trace_text (made_coflows seed))).coflows) ≡ None
made_weights_pass seed =
    let made = are_made seed 200 (omega arith) in
    ap (λ (t : Trace). first_fault (text_checks (weights_text (made_coflows seed)) t.coflows)) (trace_says (made_coflows seed) made) ∙ weights_text_passes (made_coflows seed) made

pub made_weights_say : (seed : ℕ) → weights_of (weights_text (made_coflows seed)) (trace_of (trace_text (made_coflows seed))).coflows ≡ made_weights seed
made_weights_say seed =
    let made = are_made seed 200 (omega arith) in
    ap (λ (t : Trace). weights_of (weights_text (made_coflows seed)) t.coflows) (trace_says (made_coflows seed) made) ∙ weights_are_said (made_coflows seed) made

pub made_units_few : (seed unit : ℕ) → 1 ≤ unit → units_in_all (trace_of (trace_text (made_coflows seed))) unit ≤ 102400
made_units_few seed unit some =
    let cs = made_coflows seed in
    let made = are_made seed 200 (omega arith) in
    units_few (trace_of (trace_text cs)) unit cs (ap (λ (x : Trace). x.coflows) (trace_says cs made)) made (count_is seed 200) some

pub made_flows_few : (seed unit : ℕ) (which : Quantity) (count : ℕ) → 1 ≤ unit → HasCause (trace_of (trace_text (made_coflows seed))) unit (Limit which count) → ⊥
made_flows_few seed unit which count some cause =
    let cs = made_coflows seed in
    let made = are_made seed 200 (omega arith) in
    let many = count_is seed 200 in
    let t = trace_of (trace_text cs) in
    flows_fit t unit cs which count (ap (λ (x : Trace). x.coflows) (trace_says cs made)) (within_limits (trace_text cs) t (trace_passes cs made many) refl) made many some cause
