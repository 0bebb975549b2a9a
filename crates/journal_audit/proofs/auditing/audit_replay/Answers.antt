use Rattle.std.proofs.Common.{List, refl, subst, ◌∙◌}
use Rattle.std.specs.Prelude.{All}
use Rattle.journal.specs.declared.opening.Opening.{Opening}
use Rattle.live_text.specs.declared.value.EntryLine.{EntryLine}
use Rattle.journal_audit.specs.declared.verdict.AuditReason.TheVariants.{NoEntry}
use Rattle.journal_audit.specs.Replayed.{IsWrongEntry}
use Rattle.journal_audit.specs.Stated.{IsKnown, journal_in, opening_for}
use Rattle.journal_audit.proofs.FirstReasons.{before_entries, first_at}
use Rattle.journal_audit.proofs.auditing.audit_replay.Goals as goal

pub returns-in-Some : goal.returns-in-Some
returns-in-Some c = λ t weights opening.
    let o = opening_for t weights c.args.live.now in
    let wrong : IsWrongEntry c.args.master.now.opening c.as_slice-entries.result.now c.in-Some.wrong = rw c.in-Some.is at c.in_ok-wrong.ensures.found in
    first_at o c.args.live.now (journal_in t c.args.live.now) (NoEntry c.in-Some.wrong.position c.in-Some.wrong.stated c.in-Some.wrong.real) refl
    (before_entries o c.args.live.now (journal_in t c.args.live.now)
    (subst (λ (x : Opening). All (λ (e : EntryLine). IsKnown x.table.ids e.word) c.args.live.now.entries) opening c.requires.known))
    (subst (λ (l : List EntryLine). IsWrongEntry o l c.in-Some.wrong) c.as_slice-entries.ensures
    (subst (λ (x : Opening). IsWrongEntry x c.as_slice-entries.result.now c.in-Some.wrong) opening wrong))

pub returns-in-None : goal.returns-in-None
returns-in-None c = λ t weights opening. c.verdict_of.ensures t weights (c.in_ok-wrong.ensures.opening ∙ opening)
