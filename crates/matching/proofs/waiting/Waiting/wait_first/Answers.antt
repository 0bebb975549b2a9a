use Rattle.std.proofs.lemmas.List.Elements.{Contains-append_left}
use Rattle.matching.proofs.waiting.Waiting.wait_first.Goals as goal

pub returns-clause-all : goal.returns-clause-all
returns-clause-all c = λ p lt. Contains-append_left c.push_below.new.self.ports c.clear.new.self.ports p (c.push_below.ensures.all p lt)
