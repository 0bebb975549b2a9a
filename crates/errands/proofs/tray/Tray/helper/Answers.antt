use Rattle.std.proofs.Common.{rules}
use Rattle.errands.proofs.Steps.{makes_helper}
use Rattle.errands.proofs.tray.Tray.helper.Goals as goal

pub split_seat-place-requires : goal.split_seat-place-requires
split_seat-place-requires g c = (search rules, search rules, makes_helper _ _ _ _ _)
