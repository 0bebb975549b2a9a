use Rattle.std.proofs.Common.{◌≡◌, ℕ, ◌-◌, ◌<◌, ◌≤◌}
use Rattle.port_load.specs.MarkTable.{mark_at}
use Rattle.port_load.proofs.marks.Marks.next.Given as goal

abbrev pub invariant-words : goal.invariant-words
invariant-words l = record {
  after : l.from ≤ l.column;
  none : (c : ℕ) → l.from ≤ c → c < l.column → mark_at l.self l.row c ≡ 0;
}

abbrev pub decreases-words : goal.decreases-words
decreases-words l = l.self-inside.columns - l.column
