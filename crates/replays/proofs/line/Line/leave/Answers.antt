use Rattle.std.proofs.Common.{rules}
use Rattle.std.proofs.lemmas.Fn.{filter_same}
use Rattle.replays.proofs.line.Line.leave.Goals as goal

pub returns-clause-line : goal.returns-clause-line
returns-clause-line c = filter_same _ _ _ (λ x b f' k. search rules) _ _ c.retain.ensures.filtered
