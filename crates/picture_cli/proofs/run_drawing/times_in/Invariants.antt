-- the times of the publishings so far
use Rattle.std.proofs.Common.{◌≡◌, map, take}
use Rattle.online_text.specs.declared.value.Epoch.{Epoch}
use Rattle.picture_cli.proofs.run_drawing.times_in.Given as goal

abbrev pub invariant-loop-epoch : goal.invariant-loop-epoch
invariant-loop-epoch l = l.times.items ≡ map (λ (e : Epoch). e.time) (take l.epoch-index l.epochs)
