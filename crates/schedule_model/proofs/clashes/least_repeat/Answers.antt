use Rattle.schedule_model.proofs.PortMarks.{least_next, marks_next}
use Rattle.schedule_model.proofs.clashes.least_repeat.Goals as goal

pub returns-clause-used : goal.returns-clause-used
returns-clause-used c before slot next =
    marks_next c.args.flows.now c.args.side before slot c.args.left.now c.args.new.now c.args.used.now c.free_ports.new.used c.take_ports.new.used next c.free_ports.auto.used
    c.take_ports.auto.used c.free_ports.ensures c.take_ports.ensures.used

pub returns-clause-least : goal.returns-clause-least
returns-clause-least c before slot next =
    least_next c.args.flows.now c.args.side before slot c.args.left.now c.args.new.now c.args.used.now c.free_ports.new.used c.take_ports.new.used next c.free_ports.auto.used
    c.take_ports.auto.used c.free_ports.ensures c.take_ports.ensures.used c.take_ports.result c.requires.new c.requires.ports c.take_ports.ensures.least
