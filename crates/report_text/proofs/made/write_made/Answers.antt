use Rattle.std.proofs.Common.{◌≡◌, ◌++◌, []}
use Rattle.coflow_units.specs.Text.{ended}
use Rattle.report_text.specs.Made.{seed_line}
use Rattle.report_text.proofs.MadeSteps.{summary}
use Rattle.report_text.proofs.made.write_made.Goals as goal

pub returns : goal.returns
returns c =
    let seed : c.push_named.new.text.items ≡ [] ++ ended (seed_line c.args.made.now.seed) = rw (c.new-text.ensures.items, c.from.ensures) at c.in_ok-push_named.ensures in
    record {
      text = summary c.args.made.now c.push_named.new.text.items c.push_counts.new.text.items c.push_named-2.new.text.items c.push_named-3.new.text.items
          c.push_named-4.new.text.items c.extend_from_slice.new.self.items
          seed c.in_ok-push_counts.ensures c.in_ok-push_named-2.ensures c.in_ok-push_named-3.ensures c.in_ok-push_named-4.ensures c.in_ok-extend_from_slice.ensures.items;
    }
