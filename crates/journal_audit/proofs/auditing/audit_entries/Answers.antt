use Rattle.std.proofs.Common.{List, refl, subst}
use Rattle.live_text.specs.declared.value.EntryLine.{EntryLine}
use Rattle.journal_audit.specs.declared.verdict.AuditReason.TheVariants.{NoId}
use Rattle.journal_audit.specs.Reasons.{IsFirstUnknown}
use Rattle.journal_audit.specs.Stated.{journal_in, opening_for}
use Rattle.journal_audit.proofs.FirstReasons.{before_all, first_at}
use Rattle.journal_audit.proofs.auditing.audit_entries.Goals as goal

pub returns-in-Unknown : goal.returns-in-Unknown
returns-in-Unknown c =
    let first = (rw c.in-Unknown.is at c.in-Ok.ensures) c.args.table.ids c.requires.coflows in
    first_at (opening_for c.args.table c.args.weights c.args.live.now) c.args.live.now (journal_in c.args.table c.args.live.now) (NoId c.in-Unknown.position) refl
    (before_all (opening_for c.args.table c.args.weights c.args.live.now) c.args.live.now (journal_in c.args.table c.args.live.now))
    (subst (λ (l : List EntryLine). IsFirstUnknown c.args.table.ids l c.in-Unknown.position) c.as_slice.ensures first)
