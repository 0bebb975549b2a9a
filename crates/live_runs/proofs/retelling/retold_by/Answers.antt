use Rattle.live_runs.proofs.retelling.retold_by.Goals as goal

pub retell-requires-clause-nothing : goal.retell-requires-clause-nothing
retell-requires-clause-nothing c = c.new-retold.ensures c.args.master.now.opening
