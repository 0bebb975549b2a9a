use Rattle.std.proofs.Common.{◌≡◌, ◌++◌, List, [], map, subst}
use Rattle.std.specs.Prelude.{codes}
use Rattle.report_text.specs.declared.classed.Member.{Member}
use Rattle.report_text.specs.Classed.{member_line}
use Rattle.coflow_units.specs.Text.{text_of}
use Rattle.report_text.proofs.BenchText.{classed}
use Rattle.report_text.proofs.classed.write_classes.Goals as goal

pub returns : goal.returns
returns c =
    let first : c.extend_from_slice.new.self.items ≡ [] ++ codes "sincronia classes 1\n" = rw c.new-head.ensures.items at c.in_ok-extend_from_slice.ensures.items in
    let members : c.push_members.new.text.items ≡ c.extend_from_slice.new.self.items ++ text_of (map member_line c.args.classes.members) =
    subst (λ (ms : List Member). c.push_members.new.text.items ≡ c.extend_from_slice.new.self.items ++ text_of (map member_line ms)) c.as_slice.ensures
    c.in_ok-push_members.ensures in
    record {
      text = classed c.args.classes c.extend_from_slice.new.self.items c.push_members.new.text.items c.push_named.new.text.items c.push_named-2.new.text.items
          c.with_runs.result first members c.in_ok-push_named.ensures c.in_ok-push_named-2.ensures c.with_runs.ensures;
    }
