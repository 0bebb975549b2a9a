use Rattle.journal_audit.proofs.OneVerdict.{one_verdict}
use Rattle.live_audits.proofs.Right.{run_is_yes}
use Rattle.live_audits.proofs.laws.printed_runs_are_audited_yes.Goals as goal

pub returns-clause-yes : goal.returns-clause-yes
returns-clause-yes c = λ o script most live journal wires once may run. run_is_yes o script most live journal wires once may run

pub returns-clause-only : goal.returns-clause-only
returns-clause-only c = λ o script most live journal wires verdict once may run audit.
    one_verdict o.table o.weights live verdict _ audit (run_is_yes o script most live journal wires once may run)
