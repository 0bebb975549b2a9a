-- the parts so far
use Rattle.std.proofs.Common.{◌≡◌, ◌≤◌, length, vec_capacity}
use Rattle.live_rounds.specs.Parts.{AreParts}
use Rattle.live_rounds.proofs.part.parts_of.Given as goal

abbrev pub invariant-loop-index : goal.invariant-loop-index
invariant-loop-index l = record {
  many : length l.parts.items ≡ l.index;
  parts : AreParts l.lines 1 l.parts.items;
  room : l.clients ≤ vec_capacity l.parts;
}
