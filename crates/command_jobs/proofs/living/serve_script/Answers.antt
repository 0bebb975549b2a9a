use Rattle.std.proofs.Common.{ap, arith, length}
use Rattle.live_runs.proofs.ScriptsRead.{read_clients}
use Rattle.command_jobs.proofs.living.serve_script.Goals as goal

pub served_live-requires-clause-gates : goal.served_live-requires-clause-gates
served_live-requires-clause-gates g c κs within =
    omega (arith, read_clients c.args.files.input.table.ids c.args.files.script c.requires.script, c.requires.gates, ap length c.deref_mut.ensures.value)

pub returns-clause-text : goal.returns-clause-text
returns-clause-text g c = c.served_live.ensures.text

pub returns-clause-fault : goal.returns-clause-fault
returns-clause-fault g c = c.served_live.ensures.fault

pub returns-clause-sent : goal.returns-clause-sent
returns-clause-sent g c = c.served_live.ensures.sent
