use Rattle.std.proofs.Common.{◌≡◌, ◌++◌, List, [], map, subst}
use Rattle.std.specs.Prelude.{codes}
use Rattle.report_text.specs.declared.compared.RowLine.{RowLine}
use Rattle.report_text.specs.Compared.{row_line}
use Rattle.coflow_units.specs.Text.{text_of}
use Rattle.report_text.proofs.BenchText.{compared}
use Rattle.report_text.proofs.compared.write_compare.Goals as goal

pub returns : goal.returns
returns c =
    let first : c.extend_from_slice.new.self.items ≡ [] ++ codes "sincronia compare 1\n" = rw c.new-text.ensures.items at c.in_ok-extend_from_slice.ensures.items in
    let rows : c.push_rows.new.text.items ≡ c.push_named.new.text.items ++ text_of (map row_line c.args.compare.now.rows) =
    subst (λ (rs : List RowLine). c.push_rows.new.text.items ≡ c.push_named.new.text.items ++ text_of (map row_line rs)) c.as_slice.ensures c.in_ok-push_rows.ensures in
    record {
      text = compared c.args.compare.now c.extend_from_slice.new.self.items c.push_named.new.text.items c.push_rows.new.text.items c.extend_from_slice-2.new.self.items
          first c.in_ok-push_named.ensures rows c.in_ok-extend_from_slice-2.ensures.items;
    }
