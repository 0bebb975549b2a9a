use Rattle.std.proofs.Common.{rules}
use Rattle.turnstile.proofs.TurnSteps.{takes_one}
use Rattle.turnstile.proofs.steps.take_turn.Goals as goal

pub fetch_add-ticket-requires : goal.fetch_add-ticket-requires
fetch_add-ticket-requires g c = (search rules, search rules, takes_one _ _ _ _ _ _ _ c.requires.free.0 c.requires.free.1)
