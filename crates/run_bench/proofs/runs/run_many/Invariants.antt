-- the crew may run again, at the same site
use Rattle.std.proofs.Common.{◌≡◌}
use Rattle.slot_runner.specs.Crews.{IsAt}
use Rattle.slot_runner.specs.Models.{MayRun}
use Rattle.run_bench.proofs.runs.run_many.Given as goal

abbrev pub invariant-loop-made : goal.invariant-loop-made
invariant-loop-made g l = record {
  may : MayRun l.hall l.crew.runner;
  site : IsAt l.site l.crew;
  places : l.crew.places ≡ l.fn.crew.places;
  ports : l.crew.runner.ports ≡ l.fn.crew.runner.ports;
}
