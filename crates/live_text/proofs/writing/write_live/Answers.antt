use Rattle.std.proofs.Common.{◌≡◌, ◌++◌, List, ℕ, [], map, subst}
use Rattle.std.specs.Prelude.{codes}
use Rattle.coflow_units.specs.Text.{text_of}
use Rattle.live_text.specs.declared.value.EntryLine.{EntryLine}
use Rattle.live_text.specs.declared.value.PullLine.{PullLine}
use Rattle.live_text.specs.Text.{entry_line, numbered, order_line, pull_line}
use Rattle.live_text.proofs.TextSteps.{whole}
use Rattle.live_text.proofs.writing.write_live.Goals as goal

pub returns : goal.returns
returns c =
    let l = c.args.live in
    let first : c.extend_from_slice.new.self.items ≡ [] ++ codes "sincronia live 1\n" = rw c.new-head.ensures.items at c.in_ok-extend_from_slice.ensures.items in
    let entries : c.push_entries.new.text.items ≡ c.extend_from_slice.new.self.items ++ text_of (numbered entry_line 1 l.entries) =
    subst (λ (xs : List EntryLine). c.push_entries.new.text.items ≡ c.extend_from_slice.new.self.items ++ text_of (numbered entry_line 1 xs)) c.as_slice.ensures
    c.in_ok-push_entries.ensures in
    let orders : c.push_orders.new.text.items ≡ c.push_entries.new.text.items ++ text_of (numbered order_line 1 l.orders) =
    subst (λ (xs : List (List ℕ)). c.push_orders.new.text.items ≡ c.push_entries.new.text.items ++ text_of (numbered order_line 1 xs)) c.as_slice-2.ensures
    c.in_ok-push_orders.ensures in
    let pulls : c.push_pulls.new.text.items ≡ c.push_orders.new.text.items ++ text_of (map pull_line l.pulls) =
    subst (λ (xs : List PullLine). c.push_pulls.new.text.items ≡ c.push_orders.new.text.items ++ text_of (map pull_line xs)) c.as_slice-3.ensures c.in_ok-push_pulls.ensures in
    record {
      text = whole l c.extend_from_slice.new.self.items c.push_entries.new.text.items c.push_orders.new.text.items c.push_pulls.new.text.items c.with_runs.result
          first entries orders pulls c.with_runs.ensures;
    }
