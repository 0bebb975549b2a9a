-- The texts of a seed, read as files are.
use Rattle.std.proofs.Common.{◌≡◌, ℕ, ◌^◌, ◌≤◌, ◌∙◌, List, length, ap, subst, sym, arith}
use Rattle.std.specs.Prelude.{All, None, sum_by}
use Rattle.coflow_units.specs.declared.fabric.Flow.{Flow}
use Rattle.coflow_units.specs.declared.quantity.Quantity.{Quantity}
use Rattle.coflow_units.specs.declared.trace.Trace.{Trace}
use Rattle.coflow_units.specs.Trace.{IsTrace}
use Rattle.flow_table.specs.Causes.{HasCause}
use Rattle.flow_table.specs.declared.fault.TableFault.TheVariants.{Limit}
use Rattle.flow_table.specs.Table.{IsTableOf, TableFacts}
use Rattle.flow_table.specs.Units.{units_in_all}
use Rattle.flow_table.proofs.Kept.{all_kept}
use Rattle.text_fields.specs.Checks.{first_fault}
use Rattle.trace_reader.specs.Trace.{trace_checks, trace_of}
use Rattle.weights.specs.Weights.{text_checks, weights_of}
use Rattle.weights.proofs.Range.{weights_in_range}
use Rattle.workload.specs.Coflows.{made_coflows}
use Rattle.workload.specs.Text.{trace_text, weights_text}
use Rattle.workload.proofs.MadeTexts.{made_flows_few, made_units_few, made_trace_passes, made_trace_short, made_weights_pass, made_weights_short}
use Rattle.command_jobs.specs.Make.{GivesMade}

module _ (seed : ℕ) (text : List ℕ) where
  pub short_trace : text ≡ trace_text (made_coflows seed) → length text ≤ 2 ^ 26
  short_trace is = subst (λ (xs : List ℕ). length xs ≤ 2 ^ 26) (sym is) (made_trace_short seed)

  pub trace_reads : text ≡ trace_text (made_coflows seed) → first_fault (trace_checks text) ≡ None
  trace_reads is = ap (λ (xs : List ℕ). first_fault (trace_checks xs)) is ∙ made_trace_passes seed

  pub short_weights : text ≡ weights_text (made_coflows seed) → length text ≤ 2 ^ 26
  short_weights is = subst (λ (xs : List ℕ). length xs ≤ 2 ^ 26) (sym is) (made_weights_short seed)

-- the coflows of a trace that was read from a text
says_coflows : (seed : ℕ) (text : List ℕ) (trace : Trace) → text ≡ trace_text (made_coflows seed) → trace ≡ trace_of text → trace ≡ trace_of (trace_text (made_coflows seed))
says_coflows seed text trace is of = of ∙ ap trace_of is

pub weights_read : (seed : ℕ) (text list : List ℕ) (trace : Trace) → text ≡ trace_text (made_coflows seed) → trace ≡ trace_of text → list ≡ weights_text (made_coflows seed) →
    first_fault (text_checks list trace.coflows) ≡ None
weights_read seed text list trace is of weights_are =
    ap (λ (xs : List ℕ). first_fault (text_checks xs trace.coflows)) weights_are ∙
    ap (λ (t : Trace). first_fault (text_checks (weights_text (made_coflows seed)) t.coflows)) (says_coflows seed text trace is of) ∙ made_weights_pass seed

pub few_flows : (seed unit : ℕ) (text : List ℕ) (trace : Trace) → text ≡ trace_text (made_coflows seed) → trace ≡ trace_of text → 1 ≤ unit → (which : Quantity) (count : ℕ) →
    HasCause trace unit (Limit which count) → ⊥
few_flows seed unit text trace is of some which count cause =
    made_flows_few seed unit which count some (subst (λ (t : Trace). HasCause t unit (Limit which count)) (says_coflows seed text trace is of) cause)

pub few_units : (seed unit : ℕ) (text : List ℕ) (trace : Trace) (table : TableFacts) → text ≡ trace_text (made_coflows seed) → trace ≡ trace_of text → 1 ≤ unit → IsTrace trace →
    IsTableOf trace unit table → sum_by (λ (x : Flow). x.units) table.flows ≤ 102400
few_units seed unit text trace table is of some fits table_is =
    omega (arith, all_kept trace unit table.flows fits table_is.flows, ap (λ (t : Trace). units_in_all t unit) (says_coflows seed text trace is of), made_units_few seed unit some)

module _ (seed : ℕ) (text list : List ℕ) (trace : Trace) (weights : List ℕ) where
  pub made_range : text ≡ trace_text (made_coflows seed) → trace ≡ trace_of text → list ≡ weights_text (made_coflows seed) → weights ≡ weights_of list trace.coflows →
      All (λ w. (1 ≤ w) × (w ≤ 2 ^ 32)) weights
  made_range is of weights_are said =
      subst (All (λ w. (1 ≤ w) × (w ≤ 2 ^ 32))) (sym said) (weights_in_range list trace.coflows (weights_read seed text list trace is of weights_are))

  pub made_gives : (unit : ℕ) (table : TableFacts) → text ≡ trace_text (made_coflows seed) → trace ≡ trace_of text → list ≡ weights_text (made_coflows seed) →
      weights ≡ weights_of list trace.coflows → IsTableOf trace unit table → GivesMade seed unit table weights
  made_gives unit table is of weights_are said table_is =
      let trace_says = says_coflows seed text trace is of in
      record {
        trace_text = record { short = made_trace_short seed; passes = made_trace_passes seed };
        weights_are = (
          made_weights_short seed,
          made_weights_pass seed,
          said ∙ ap (λ (xs : List ℕ). weights_of xs trace.coflows) weights_are ∙
              ap (λ (t : Trace). weights_of (weights_text (made_coflows seed)) t.coflows) trace_says,
        );
        table_is = subst (λ (t : Trace). IsTableOf t unit table) trace_says table_is;
      }
