use Rattle.picture.proofs.ColourFacts.{colours_rise, level_inside, level_monotone}
use Rattle.picture.proofs.laws.grey_keeps_the_order.Goals as goal

pub returns : goal.returns
returns c = record { lighter = colours_rise; monotone = level_monotone; inside = level_inside }
