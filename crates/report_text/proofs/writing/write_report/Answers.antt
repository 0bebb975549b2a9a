use Rattle.std.proofs.Common.{◌≡◌, ◌++◌, []}
use Rattle.coflow_units.specs.Text.{ended}
use Rattle.report_text.specs.Text.{version_line}
use Rattle.report_text.proofs.TextSteps.{whole}
use Rattle.report_text.proofs.writing.write_report.Goals as goal

pub returns : goal.returns
returns c =
    let version : c.push_version.new.text.items ≡ [] ++ ended (version_line c.args.report.weights) = rw c.in_ok-head.ensures.items at c.in_ok-push_version.ensures in
    record {
      text = whole c.args.report c.push_version.new.text.items c.push_places.new.text.items c.push_totals.new.text.items c.with_runs.result version
          c.in_ok-push_places.ensures c.in_ok-push_totals.ensures c.with_runs.ensures;
    }
