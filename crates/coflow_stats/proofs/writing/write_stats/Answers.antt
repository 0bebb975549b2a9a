use Rattle.std.proofs.Common.{◌≡◌, ◌++◌, ℕ, [], subst}
use Rattle.std.specs.Prelude.{codes}
use Rattle.coflow_units.specs.Text.{ended, spaced}
use Rattle.coflow_stats.proofs.TextParts.{whole}
use Rattle.coflow_stats.proofs.writing.write_stats.Goals as goal

pub returns : goal.returns
returns c =
    let first : c.extend_from_slice.new.self.items ≡ [] ++ codes "sincronia stats 1\n" = rw c.new-text.ensures.items at c.in_ok-extend_from_slice.ensures.items in
    let makespan : c.push_named.new.text.items ≡ c.push_net.new.text.items ++ ended (codes "makespan" ++ spaced c.args.stats.now.makespan) =
    subst (λ (n : ℕ). c.push_named.new.text.items ≡ c.push_net.new.text.items ++ ended (codes "makespan" ++ spaced n)) c.from.ensures c.in_ok-push_named.ensures in
    record {
      text = whole c.args.stats.now c.args.slot_ms c.extend_from_slice.new.self.items c.push_costs.new.text.items c.push_net.new.text.items c.push_named.new.text.items
          c.push_summaries.new.text.items c.push_ms.new.text.items c.extend_from_slice-2.new.self.items first c.in_ok-push_costs.ensures c.in_ok-push_net.ensures
          makespan c.in_ok-push_summaries.ensures c.in_ok-push_ms.ensures c.in_ok-extend_from_slice-2.ensures.items;
    }
