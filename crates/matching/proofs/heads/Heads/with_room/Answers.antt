use Rattle.matching.proofs.heads.Heads.with_room.Goals as goal

pub returns-clause-least : goal.returns-clause-least
returns-clause-least c = c.in_ok-least.ensures.items_if_clones_equal (λ y e. e)
