use Rattle.journal.specs.Journal.{entry}
use Rattle.journal_audit.proofs.ReplaySteps.{entry_taken, version_made}
use Rattle.journal_audit.proofs.replay.take_down.Goals as goal

pub wrong_order_after-replayed-requires-clause-made : goal.wrong_order_after-replayed-requires-clause-made
wrong_order_after-replayed-requires-clause-made c = λ made.
    version_made c.args.master.now.journal c.answer.new.master.journal (entry c.args.who c.args.command c.in_ok-reply.reply) c.in_ok-reply.ensures.journal made

pub returns-clause-after : goal.returns-clause-after
returns-clause-after c =
    entry_taken c.args.master.now.opening c.answer.new.master.opening c.args.master.now.journal c.answer.new.master.journal c.args.orders.now c.args.replayed.now
    (record { schedule = c.answer.new.schedule; ranks = c.rank_newest.new.ranks; wrong = c.wrong_order_after-replayed.result })
    (entry c.args.who c.args.command c.in_ok-reply.reply) c.requires.before c.in_ok-reply.ensures.opening c.in_ok-reply.ensures.journal c.in_ok-reply.ensures.after
    c.in_ok-rank_newest.ensures c.wrong_order_after-replayed.ensures
