use Rattle.slot_runner.proofs.Dismissed.{none_out_at, over_at}
use Rattle.run_bench.proofs.runs.time_camp.Goals as goal

pub disband-requires-clause-over : goal.disband-requires-clause-over
disband-requires-clause-over g c = over_at c.args.camp.site c.args.camp.crew c.requires.site c.run_in_camp-took.new.crew.places c.run_in_camp-took.ensures.over

pub disband-requires-clause-none : goal.disband-requires-clause-none
disband-requires-clause-none g c = none_out_at c.args.camp.site c.args.camp.crew c.requires.site c.run_in_camp-took.new.crew.places c.run_in_camp-took.ensures.over
