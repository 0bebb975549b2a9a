use Rattle.std.proofs.Common.{rules, ap, ◌∙◌}
use Rattle.errands.proofs.Ends.{giver_free}
use Rattle.errands.proofs.Steps.{ends_on}
use Rattle.errands.proofs.tray.Tray.end.Goals as goal

pub store-requires : goal.store-requires
store-requires g c =
    let free = giver_free c.giver.inside.place.me.0.stage c.giver.inside.place.me.1 c.giver.invariant.1 (
      ap (λ e. e.out) c.giver.view_is ∙ c.requires.free.0,
      ap (λ e. e.over) c.giver.view_is ∙ c.requires.free.1,
    ) in
    (search rules, search rules, ends_on _ _ _ _ _ _ c.giver.invariant.0 free.0 free.1)
