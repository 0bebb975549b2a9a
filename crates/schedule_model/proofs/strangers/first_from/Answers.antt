use Rattle.std.proofs.Common.{subst}
use Rattle.std.specs.Prelude.{All, ◌<◌}
use Rattle.std.proofs.lemmas.List.{take_all}
use Rattle.std.proofs.lemmas.List.Elements.{All-more, Contains-get_or}
use Rattle.schedule_model.proofs.Ascending.{least_from}
use Rattle.schedule_model.proofs.strangers.first_from.Goals as goal

pub returns-then-number-limit : goal.returns-then-number-limit
returns-then-number-limit c = (
  Contains-get_or c.args.numbers.now c.loop-number.number-index 0 c.loop-number-test.true,
  c.if-number-limit.true,
  (λ g has le. least_from c.args.numbers.now c.loop-number.number-index c.args.limit g c.requires c.loop-number-test.true c.loop-number.invariant has le),
)

pub loop-number-preserved : goal.loop-number-preserved
loop-number-preserved c = All-more (λ f. f < c.args.limit) c.args.numbers.now c.loop-number.number-index 0 c.loop-number-test.true c.loop-number.invariant c.if-number-limit.false

pub returns : goal.returns
returns c = subst (All (λ f. f < c.args.limit)) (take_all c.loop-number.number-index c.args.numbers.now c.loop-number-test.false) c.loop-number.invariant
