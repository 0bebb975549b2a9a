use Rattle.std.proofs.Common.{IfOk, ℕ, List, arith, subst}
use Rattle.hall_online.specs.Told.{PublishesMore, SendsAll, SendsSoFar, StopsShort, TellsOnline}
use Rattle.command_jobs.proofs.onlining.serve_run.Goals as goal

pub returns-clause-text : goal.returns-clause-text
returns-clause-text g c =
    subst (λ (weights : List ℕ). IfOk c.served_online.result (λ text.
    (told : TellsOnline c.args.input.now.table weights c.args.options.slot_ms c.args.options.epoch text) ×
    SendsAll g.W.Wire.runs c.args.wires.now.items c.served_online.new.wires.items c.args.input.now.table told.online)) c.as_slice.ensures c.served_online.ensures.text

pub returns-clause-stops : goal.returns-clause-stops
returns-clause-stops g c = λ port e.
    subst (λ (weights : List ℕ). StopsShort g.W.Wire.runs c.args.wires.now.items c.served_online.new.wires.items port c.args.input.now.table weights
    c.args.options.slot_ms c.args.options.epoch) c.as_slice.ensures (c.served_online.ensures.stops port e)

pub returns-clause-too_many : goal.returns-clause-too_many
returns-clause-too_many g c = λ count e.
    subst (λ (weights : List ℕ). PublishesMore c.args.input.now.table weights c.args.options.slot_ms c.args.options.epoch count) c.as_slice.ensures
    (c.served_online.ensures.too_many count e)

pub served_online-requires-clause-wires : goal.served_online-requires-clause-wires
served_online-requires-clause-wires g c = omega (arith, c.requires.table.few_ports, c.requires.wires)

pub returns-clause-sent : goal.returns-clause-sent
returns-clause-sent g c =
    subst (λ (weights : List ℕ). SendsSoFar g.W.Wire.runs c.args.wires.now.items c.served_online.new.wires.items c.args.input.now.table weights
    c.args.options.slot_ms c.args.options.epoch) c.as_slice.ensures c.served_online.ensures.sent
