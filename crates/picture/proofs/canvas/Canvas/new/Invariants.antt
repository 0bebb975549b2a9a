-- the rows so far are empty
use Rattle.std.proofs.Common.{◌≡◌, [], replicate}
use Rattle.picture.proofs.canvas.Canvas.new.Given as goal

abbrev pub invariant-loop : goal.invariant-loop
invariant-loop l = l.rows.items ≡ replicate l.counter []
