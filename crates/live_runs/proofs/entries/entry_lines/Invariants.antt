-- the lines of the entries so far
use Rattle.std.proofs.Common.{◌≡◌, ◌≤◌, Some, length, map, take, vec_capacity}
use Rattle.live_model.specs.Printed.{told_entry}
use Rattle.live_runs.proofs.entries.entry_lines.Given as goal

abbrev pub invariant-loop-entry : goal.invariant-loop-entry
invariant-loop-entry l = record {
  lines : map (told_entry l.closed.opening) (take l.entry-index l.journal) ≡ map Some l.lines.items;
  many : length l.lines.items ≡ l.entry-index;
  room : length l.journal ≤ vec_capacity l.lines;
}
