use Rattle.std.proofs.Common.{refl, sym}
use Rattle.live_text.proofs.OneText.{live_one}
use Rattle.live_audits.proofs.ReadBack.{run_is_live}
use Rattle.live_audits.proofs.text_laws.printed_runs_are_read_back.Goals as goal

pub returns-clause-live : goal.returns-clause-live
returns-clause-live c = λ o script most live journal wires ok small given short some long run.
    run_is_live o script most live journal wires ok small given short some long run

pub returns-clause-same : goal.returns-clause-same
returns-clause-same c = λ o script most live journal wires read ok small given short some long run answer.
    live_one read live answer.live (run_is_live o script most live journal wires ok small given short some long run) (sym answer.text)

pub returns-clause-taken : goal.returns-clause-taken
returns-clause-taken c = λ o script most live journal wires line ok small given short some long run answer.
    answer.no_text live (record { live = run_is_live o script most live journal wires ok small given short some long run; text = refl })
