use Rattle.journal_audit.proofs.auditing.audit_by_master.Goals as goal

pub audit_replay-audited-requires-clause-nothing : goal.audit_replay-audited-requires-clause-nothing
audit_replay-audited-requires-clause-nothing c = c.new-replayed.ensures c.args.master.now.opening c.args.live.now.orders
