use Rattle.std.proofs.Common.{◌≡◌, ◌<◌, ◌^◌, take}
use Rattle.std.specs.Prelude.{All, map}
use Rattle.report_text.specs.declared.value.PlaceLine.{PlaceLine}
use Rattle.plans.specs.PlanReport.{line_from}
use Rattle.plans.proofs.places.place_lines.Given as goal

abbrev pub invariant-loop-place : goal.invariant-loop-place
invariant-loop-place l = record {
  lines : l.lines.items ≡ map (line_from l.table.ids l.ends) (take l.place-index l.places);
  ids : All (λ (line : PlaceLine). line.id < 2 ^ 32) l.lines.items;
}
