-- What a report must say to be right, whoever made it.
use Rattle.std.specs.Prelude.{◌≡◌, ℕ, ◌+◌, ◌*◌, ◌≤◌, List, length}
use Rattle.coflow_units.specs.Certificate.{IsCertificate, IsFeasible, bound, slack}
use Rattle.coflow_units.specs.Completion.{completion, cost}
use Rattle.coflow_units.specs.Flows.{Instance}
use Rattle.coflow_units.specs.Schedule.{IsValid}
use Rattle.flow_table.specs.Table.{TableFacts}
use Rattle.port_load.specs.LoadTable.{HasLoads, LoadTable}
use Rattle.report_text.specs.declared.value.Report.{Report}
use Rattle.schedule_model.specs.RunList.{slots_in}
use Rattle.cert_check.specs.Places.{certificate_in, coflows_in, ends_in}
use Rattle.cert_check.specs.Stated.{AreReal, AreRealIfAny}

-- The report is right for the instance, whose coflows have these ids by number. Its places are a feasible certificate.
-- Weights, where it states them, are the
-- instance's. Its bound is at most the certificate's, and its slack is the certificate's. Its runs are a valid
-- schedule, whose completions and cost it states.
-- And that cost is at most four times the stated bound and the stated slack.
pub record IsSound (i : Instance) (ids : List ℕ) (r : Report) : Type 0 where
  pub certificate : IsCertificate i (certificate_in ids r.places)
  pub weights : AreRealIfAny (coflows_in ids r.places) r.weights i.weight
  pub feasible : IsFeasible i.flows i.weight (certificate_in ids r.places)
  pub bound_is_low : r.bound ≤ bound i.flows (certificate_in ids r.places)
  pub slack_is : r.slack ≡ slack i.flows i.weight (certificate_in ids r.places)
  pub valid : IsValid i.flows (slots_in r.runs)
  pub ends : AreReal (coflows_in ids r.places) (ends_in r.places) (completion i.flows (slots_in r.runs))
  pub cost_is : r.cost ≡ cost i.flows i.weight i.coflows (slots_in r.runs)
  pub within_four : r.cost ≤ 4 * r.bound + r.slack

-- the loads are those of the table's flows
pub record AreLoadsOf (t : TableFacts) (loads : LoadTable) : Type 0 where
  pub coflows : loads.coflows ≡ length t.ids
  pub ports : loads.ports ≡ t.ports
  pub loads_are : HasLoads t.flows loads
