use Rattle.journal_audit.proofs.OneVerdict.{one_verdict}
use Rattle.live_audits.proofs.ReadBack.{read_is_yes}
use Rattle.live_audits.proofs.text_laws.printed_texts_are_audited_yes.Goals as goal

pub returns-clause-yes : goal.returns-clause-yes
returns-clause-yes c = λ o script most live journal wires read ok once small given short some long run answer.
    read_is_yes o script most live journal wires ok small given short some long run once read answer

pub returns-clause-only : goal.returns-clause-only
returns-clause-only c = λ o script most live journal wires read verdict ok once small given short some long run answer audit.
    one_verdict o.table o.weights read verdict _ audit (read_is_yes o script most live journal wires ok small given short some long run once read answer)
