-- the canvas keeps the bars of the slots so far
use Rattle.std.proofs.Common.{◌≡◌, ◌<◌, ℕ, List, length, min, take}
use Rattle.schedule_model.specs.RunList.{slots_in}
use Rattle.picture.specs.declared.value.Bar.{Bar}
use Rattle.picture.specs.Bars.{IsRow, Serves}
use Rattle.picture.specs.Drawing.{Keeps, row_at}
use Rattle.picture.proofs.bars.bars_of.Given as goal

abbrev pub invariant-loop-place : goal.invariant-loop-place
invariant-loop-place l = record {
  all : List (List Bar);
  keeps : Keeps all l.canvas.rows.items l.canvas.count;
  row_each : length all ≡ l.ports;
  walk_runs : l.walk.runs ≡ l.runs;
  walk_place : l.walk.entered ≡ l.place;
  slots_are : l.slots ≡ length (slots_in (take l.place l.runs));
  row : (port : ℕ) → port < l.ports →
      IsRow (Serves l.flows (slots_in l.runs) l.window.side port) l.window.first (min l.window.last l.slots) (row_at all port);
}
