use Rattle.std.proofs.Common.{◌≡◌, ℕ, List, length, nat_eq, sym, ap, ◌∙◌, subst}
use Rattle.std.specs.Prelude.{All, max}
use Rattle.indexmap.specs.IndexMap.{get}
use Rattle.journal.specs.declared.opening.Opening.{Opening}
use Rattle.live_text.specs.declared.value.EntryLine.{EntryLine}
use Rattle.journal_audit.specs.Ids.{Finds}
use Rattle.journal_audit.specs.Stated.{IsKnown}
use Rattle.journal_audit.proofs.auditing.audit_commands.Goals as goal

pub audit_by_master-audited-requires-clause-coflows : goal.audit_by_master-audited-requires-clause-coflows
audit_by_master-audited-requires-clause-coflows c =
    subst (λ (o : Opening). Finds o.table.ids (get nat_eq c.args.coflows.now)) (sym c.in_ok-master.ensures.opening) c.requires.coflows

pub audit_by_master-audited-requires-clause-known : goal.audit_by_master-audited-requires-clause-known
audit_by_master-audited-requires-clause-known c =
    subst (λ (o : Opening). All (λ (e : EntryLine). IsKnown o.table.ids e.word) c.args.live.now.entries) (sym c.in_ok-master.ensures.opening) c.requires.known

pub returns : goal.returns
returns c =
    let limit : c.max-limit.result ≡ max (length c.args.live.now.entries) 1 = c.max-limit.ensures ∙ ap (λ (l : List EntryLine). max (length l) 1) c.as_slice.ensures in
    c.audit_by_master-audited.ensures c.args.table c.args.weights (c.in_ok-master.ensures.opening
    ∙ ap {B = Opening} (λ (n : ℕ). record { table = c.args.table; weights = c.args.weights; limit = n }) limit)
