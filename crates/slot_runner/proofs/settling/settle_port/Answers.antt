use Rattle.std.proofs.Common.{◌+◌}
use Rattle.slot_runner.proofs.Settled.{by_report}
use Rattle.slot_runner.proofs.settling.settle_port.Goals as goal

-- src/settling.rt:77:31
pub unreachable-requires : goal.unreachable-requires
unreachable-requires c = let (grant, last, somebody) = c.requires.somebody in somebody (c.settle.ensures.nobody grant c.in-TakenBack.is last)

-- src/settling.rt:64:1
pub returns-clause-sent : goal.returns-clause-sent
returns-clause-sent c = λ grant last.
    let (word, before, tried, shows, e, latest) = c.settle.ensures.sent c.in-Sent.sent c.in-Sent.is in
    by_report c.args.port (c.args.board.now.ports + c.args.port) c.args.poster.now.view c.settle.new.poster.view grant last c.requires.none_out c.settle.ensures.seats.0
    c.settle.ensures.seats.1
    c.settle.ensures.posts word c.in-Sent.sent before tried e c.settle.ensures.returned
