-- the flows so far are drawn
use Rattle.std.proofs.Common.{◌≡◌, length, take}
use Rattle.picture.proofs.DrawSteps.{DrawsTo}
use Rattle.picture.proofs.canvas.Canvas.draw.Given as goal

abbrev pub invariant-loop-number : goal.invariant-loop-number
invariant-loop-number l = record {
  row_each : length l.self.rows.items ≡ length l.fn.self.rows.items;
  drawn : DrawsTo l.flows (take l.number-index l.numbers) l.window l.fn.self.rows.items l.fn.self.count l.self.rows.items l.self.count;
}
