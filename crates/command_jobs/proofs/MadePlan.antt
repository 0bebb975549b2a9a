-- The plan of a made trace, read back from its own text.
use Rattle.std.proofs.Common.{◌≡◌, ℕ, ◌≤◌, ◌∙◌, List, length, ap, subst, sym}
use Rattle.std.specs.Prelude.{All}
use Rattle.coflow_units.specs.Flows.{IsDistinct}
use Rattle.cert_check.specs.Sound.{IsSound}
use Rattle.flow_table.specs.Table.{IsTable, TableFacts, instance_of}
use Rattle.report_text.specs.declared.value.Report.{Report}
use Rattle.report_text.specs.Made.{made_text}
use Rattle.report_text.specs.Reading.{IsTextOf}
use Rattle.report_text.specs.Report.{HasSmallNumbers, IsReport}
use Rattle.report_text.specs.Text.{report_text}
use Rattle.report_text.proofs.TextLaws.{reports_are_one}
use Rattle.command_jobs.specs.Make.{GivesMade, MadeOf, summary_of}
use Rattle.plans.specs.PlanReport.{IsPlanOf}
use Rattle.plans.proofs.PlanSound.{plan_is_sound}

pub read_is_planned : (planned read : Report) (text lent : List ℕ) → IsReport planned → HasSmallNumbers planned → text ≡ report_text planned → lent ≡ text → IsTextOf lent read →
    read ≡ planned
read_is_planned planned read text lent fits small written e back = reports_are_one read planned back.report back.small fits small (sym back.text ∙ e ∙ written)

module _ (t : TableFacts) (weights : List ℕ) (planned read : Report) where
  pub read_is_sound : IsTable t → IsDistinct t.ids → length weights ≡ length t.ids → All (λ w. 1 ≤ w) weights → IsPlanOf (instance_of t weights) t.ids planned →
      read ≡ planned → IsSound (instance_of t weights) t.ids read
  read_is_sound table once count least plan same =
      subst (λ (r : Report). IsSound (instance_of t weights) t.ids r) (sym same) (plan_is_sound t weights planned table once count least plan)

  pub made_of : (S : TableFacts → List (List ℕ) → Type 0) (seed unit : ℕ) (text : List ℕ) → IsTable t → IsDistinct t.ids → length weights ≡ length t.ids →
      All (λ w. 1 ≤ w) weights → (plan : IsPlanOf (instance_of t weights) t.ids planned) → S t plan.slots → read ≡ planned →
      GivesMade seed unit t weights → text ≡ made_text (summary_of seed t read) → MadeOf S seed unit text
  made_of S seed unit text table once count least plan sent same gives is = record {
    table = t;
    weights = weights;
    gives = gives;
    report = planned;
    planned = plan;
    sent = sent;
    sound = plan_is_sound t weights planned table once count least plan;
    text_is = is ∙ ap (λ (r : Report). made_text (summary_of seed t r)) same;
  }
