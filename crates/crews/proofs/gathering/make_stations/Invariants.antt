use Rattle.std.proofs.Common.{◌≡◌, ◌+◌, ◌≤◌, length, vec_capacity}
use Rattle.crews.specs.Gathering.{AreMade}
use Rattle.crews.proofs.gathering.make_stations.Given as goal

abbrev pub invariant-loop-number : goal.invariant-loop-number
invariant-loop-number g l = record {
  made : AreMade l.board l.share l.all.trays.items l.all.helpers.items l.all.stations.items;
  many : length l.all.stations.items + 1 ≡ l._number;
  trays : l.agents ≤ vec_capacity l.all.trays;
  helpers : l.agents ≤ vec_capacity l.all.helpers;
  stations : l.agents ≤ vec_capacity l.all.stations;
  wires : l.all.wires ≡ l.fn.all.wires;
  far : l.all.far ≡ l.fn.all.far;
}
