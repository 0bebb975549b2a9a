use Rattle.journal_audit.proofs.OneVerdict.{one_verdict}
use Rattle.journal_audit.proofs.laws.verdict_is_one.Goals as goal

pub returns : goal.returns
returns c = λ t weights l a b x y. one_verdict t weights l a b x y
