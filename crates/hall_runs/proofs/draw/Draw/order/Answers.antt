-- What `leaving` asks is of any number of ports.
use Rattle.hall_runs.proofs.draw.Draw.order.Goals as goal

pub returns-in-96 : goal.returns-in-96
returns-in-96 c = record { order = c.leaving.ensures.order c.args.ports }
