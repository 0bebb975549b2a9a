use Rattle.std.proofs.Common.{◌≡◌, ◌++◌, List, [], map, subst}
use Rattle.std.specs.Prelude.{codes}
use Rattle.coflow_units.specs.Text.{text_of}
use Rattle.replays.specs.declared.rows.ReplayRow.{ReplayRow}
use Rattle.replays.specs.Text.{row_line}
use Rattle.replays.proofs.ReplayText.{replayed}
use Rattle.replays.proofs.writing.write_replay.Goals as goal

pub returns : goal.returns
returns c =
    let first : c.extend_from_slice.new.self.items ≡ [] ++ codes "sincronia replay 1\n" = rw c.new-text.ensures.items at c.in_ok-extend_from_slice.ensures.items in
    let rows : c.push_rows.new.text.items ≡ c.push_named-2.new.text.items ++ text_of (map row_line c.args.report.now.rows) =
    subst (λ (rs : List ReplayRow). c.push_rows.new.text.items ≡ c.push_named-2.new.text.items ++ text_of (map row_line rs)) c.as_slice.ensures c.in_ok-push_rows.ensures in
    replayed c.args.report.now c.extend_from_slice.new.self.items c.push_named.new.text.items c.push_named-2.new.text.items c.push_rows.new.text.items
    c.extend_from_slice-2.new.self.items first c.in_ok-push_named.ensures c.in_ok-push_named-2.ensures rows c.in_ok-extend_from_slice-2.ensures.items
