-- the lines so far
use Rattle.std.proofs.Common.{◌≡◌, take}
use Rattle.std.specs.Prelude.{All, map}
use Rattle.report_text.specs.declared.compared.RowLine.{RowLine}
use Rattle.report_text.specs.Compared.{IsName}
use Rattle.rankers.specs.Comparison.{line_of}
use Rattle.rankers.proofs.reporting.lines_of.Given as goal

abbrev pub invariant-loop-row : goal.invariant-loop-row
invariant-loop-row l = record {
  lines : l.lines.items ≡ map (line_of l.names) (take l.row-index l.rows);
  letters : All (λ (line : RowLine). IsName line.name) l.lines.items;
}
