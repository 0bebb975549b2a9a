-- The line of a verdict.
use Rattle.std.specs.Prelude.{ℕ, ◌++◌, List, codes}
use Rattle.coflow_units.specs.Text.{ended, spaced}
use Rattle.journal_audit.specs.declared.verdict.Audit.{Audit}
use Rattle.journal_audit.specs.declared.verdict.Audit.TheVariants.{No, Yes}
use Rattle.journal_audit.specs.declared.verdict.AuditReason.{AuditReason}
use Rattle.journal_audit.specs.declared.verdict.AuditReason.TheVariants.{NoClose, NoEntry, NoId, NoOrder, NoPull}
use Rattle.journal_audit.specs.declared.verdict.AuditReason.TheVariants.{NoRun, NoVersion}

-- why a printed journal is not right; the replies to an entry are not told
abbrev pub reason_line : AuditReason → List ℕ
reason_line (NoId position) = codes "no id" ++ spaced position
reason_line (NoEntry position stated real) = codes "no entry" ++ spaced position
reason_line (NoClose slot) = codes "no close" ++ spaced slot
reason_line (NoOrder version place) = codes "no order" ++ spaced version ++ spaced place
reason_line (NoPull client line stated real) =
    codes "no pull" ++ spaced client ++ spaced line ++ spaced stated ++ spaced real
reason_line (NoVersion client line) = codes "no version" ++ spaced client ++ spaced line
reason_line (NoRun slot) = codes "no run" ++ spaced slot

-- the line of a verdict on a printed journal
abbrev pub audit_line : Audit → List ℕ
audit_line (Yes entries versions slots) =
    codes "yes entries" ++ spaced entries ++ codes " versions" ++ spaced versions ++ codes " slots" ++ spaced slots
audit_line (No reason) = reason_line reason

-- the text with the line of a reason
abbrev pub reason_text : AuditReason → List ℕ
reason_text reason = ended (reason_line reason)

-- the text with the line of a verdict
abbrev pub audit_text : Audit → List ℕ
audit_text verdict = ended (audit_line verdict)
