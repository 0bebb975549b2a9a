-- The report of a line that is served, written and read back.
use Rattle.std.proofs.Common.{◌≡◌, ℕ, ◌+◌, ◌*◌, ◌<◌, ◌≤◌, List, length, refl, sym, arith}
use Rattle.std.specs.Prelude.{All, Err, Ok, sum_by}
use Rattle.coflow_units.specs.declared.fabric.Flow.{Flow}
use Rattle.flow_table.specs.Table.{TableFacts, instance_of}
use Rattle.report_text.specs.declared.fault.ReportFault.TheVariants.{BadText}
use Rattle.report_text.specs.declared.value.Report.{Report}
use Rattle.report_text.specs.Reading.{GivesReport}
use Rattle.report_text.specs.Report.{HasSmallNumbers, IsReport}
use Rattle.report_text.specs.Text.{report_text}
use Rattle.report_text.proofs.TextLaws.{reports_are_one}
use Rattle.report_text.proofs.TextLengths.{text_is_short}
use Rattle.plans.specs.ServedReport.{IsServedReport}
use Rattle.plans.specs.Weighed.{IsWeighed}
use Rattle.plans.proofs.ServedFacts.{few_places, ids_are_small, served_is_report, served_is_small}
use Rattle.plans.proofs.ServedRuns.{few_run_flows, few_runs}

module _ (t : TableFacts) (weights line : List ℕ) (r : Report) (s : IsServedReport (instance_of t weights) t.ids line r) where
  pub has_small_numbers : IsWeighed t weights → All (λ id. id < 4294967296) t.ids → HasSmallNumbers r
  has_small_numbers is ids = served_is_small t weights line r s is (ids_are_small t weights line r s ids)

  -- a reader answers no other report
  pub read_is_same : (read : Report) → IsWeighed t weights → All (λ id. id < 4294967296) t.ids → GivesReport (report_text r) (Ok read) → read ≡ r
  read_is_same read is ids given =
      reports_are_one read r given.report given.small (served_is_report t weights line r s is) (has_small_numbers is ids) (sym given.text)

  -- and refuses no line
  pub text_is_taken : (bad : ℕ) → IsWeighed t weights → All (λ id. id < 4294967296) t.ids → GivesReport (report_text r) (Err (BadText bad)) → ⊥
  text_is_taken bad is ids given =
      given.no_text r (record { report = served_is_report t weights line r s is; small = has_small_numbers is ids; text = refl })

  -- the text is short
  pub served_text_short : IsReport r → HasSmallNumbers r →
      length (report_text r) ≤ 200 + 200 * length t.ids + 50 * sum_by (λ (x : Flow). x.units) t.flows
  served_text_short fits small =
      omega (
        arith,
        text_is_short r fits small,
        few_places t weights line r s,
        few_runs t.flows line s.slots r.runs s.served s.runs,
        few_run_flows t.flows line s.slots r.runs s.served s.runs,
      )
