use Rattle.std.proofs.Common.{◌≡◌, ◌∙◌, Err, length, sym, ap}
use Rattle.release_bound.specs.declared.threshold.Threshold.TheVariants.{One}
use Rattle.hall_online.specs.declared.answer.OnlineFault.TheVariants.{TooMany, WireFault}
use Rattle.hall_online.proofs.HandedOn.{carried}
use Rattle.hall_online.specs.Told.{SendsAll}
use Rattle.hall_online.proofs.TextFacts.{fails_at, in_range, may_serve, sent_nothing, sent_so_far, stops_short, told_of, too_many}
use Rattle.hall_online.proofs.telling.served_online.Goals as goal

pub serve_online-requires-clause-arrival_each : goal.serve_online-requires-clause-arrival_each
serve_online-requires-clause-arrival_each g c κs within = ap length c.deref.ensures.value ∙ c.in_ok-arrivals.ensures.each

pub serve_online-requires-clause-arrival_range : goal.serve_online-requires-clause-arrival_range
serve_online-requires-clause-arrival_range g c κs within =
    in_range c.deref.result.now c.in_ok-arrivals.arrivals.items c.deref.ensures.value c.in_ok-arrivals.ensures.range

pub returns-clause-text : goal.returns-clause-text
returns-clause-text g c =
    told_of c.args.table.now c.args.weights.now c.args.slot_ms c.args.every
    (may_serve _ _ c.args.slot_ms _ c.coflows-within.ensures.table c.requires.weight_each c.requires.weight_range c.requires.epoch_some c.requires.epoch_fits)
    c.in_ok-arrivals.arrivals.items c.deref.result.now c.in_ok-arrivals.ensures.arrivals c.in_ok-arrivals.ensures.each c.in_ok-arrivals.ensures.range c.deref.ensures.value
    c.online_runs_are_one.ensures.too_many c.released_is_bound.ensures.total (c.released_ordering_is_feasible.ensures.feasible One)
    (SendsAll g.W.Wire.runs c.args.wires.now.items c.serve_online.new.wires.items c.args.table.now)
    c.in_ok-online.online c.in_ok-text.text c.in_ok-online.ensures.online c.in_ok-text.ensures.text c.in_ok-online.ensures.sent

pub returns-clause-sent : goal.returns-clause-sent
returns-clause-sent g c =
    sent_so_far c.args.table.now c.args.weights.now c.args.slot_ms c.args.every
    (may_serve _ _ c.args.slot_ms _ c.coflows-within.ensures.table c.requires.weight_each c.requires.weight_range c.requires.epoch_some c.requires.epoch_fits)
    c.in_ok-arrivals.arrivals.items c.deref.result.now c.in_ok-arrivals.ensures.arrivals c.in_ok-arrivals.ensures.each c.in_ok-arrivals.ensures.range c.deref.ensures.value
    g.W.Wire.runs c.args.wires.now.items c.serve_online.new.wires.items c.serve_online.ensures.wires

pub returns-in_err-arrivals-clause-sent : goal.returns-in_err-arrivals-clause-sent
returns-in_err-arrivals-clause-sent g c =
    sent_nothing c.args.table.now c.args.weights.now c.args.slot_ms c.args.every g.W.Wire.faults g.W.Wire.runs c.args.wires.now.items c.requires.wires

pub returns-in_err-online-clause-sent : goal.returns-in_err-online-clause-sent
returns-in_err-online-clause-sent g c =
    sent_so_far c.args.table.now c.args.weights.now c.args.slot_ms c.args.every
    (may_serve _ _ c.args.slot_ms _ c.coflows-within.ensures.table c.requires.weight_each c.requires.weight_range c.requires.epoch_some c.requires.epoch_fits)
    c.in_ok-arrivals.arrivals.items c.deref.result.now c.in_ok-arrivals.ensures.arrivals c.in_ok-arrivals.ensures.each c.in_ok-arrivals.ensures.range c.deref.ensures.value
    g.W.Wire.runs c.args.wires.now.items c.serve_online.new.wires.items c.serve_online.ensures.wires

pub returns-in_err-text-clause-sent : goal.returns-in_err-text-clause-sent
returns-in_err-text-clause-sent g c =
    sent_so_far c.args.table.now c.args.weights.now c.args.slot_ms c.args.every
    (may_serve _ _ c.args.slot_ms _ c.coflows-within.ensures.table c.requires.weight_each c.requires.weight_range c.requires.epoch_some c.requires.epoch_fits)
    c.in_ok-arrivals.arrivals.items c.deref.result.now c.in_ok-arrivals.ensures.arrivals c.in_ok-arrivals.ensures.each c.in_ok-arrivals.ensures.range c.deref.ensures.value
    g.W.Wire.runs c.args.wires.now.items c.serve_online.new.wires.items c.serve_online.ensures.wires

pub returns-in_err-online-clause-fault : goal.returns-in_err-online-clause-fault
returns-in_err-online-clause-fault g c = λ port e.
    let came : WireFault port ≡ c.in_err-online.field-0.0 = carried _ _ (WireFault port) c.from_residual-in_err-online.ensures.1 e in
    fails_at g.W.Wire.faults c.args.wires.now.items c.serve_online.new.wires.items c.args.table.now port c.requires.wires (c.in_err-online.ensures.fault port (ap Err (sym came)))

pub returns-in_err-online-clause-too_many : goal.returns-in_err-online-clause-too_many
returns-in_err-online-clause-too_many g c = λ count e.
    let came : TooMany count ≡ c.in_err-online.field-0.0 = carried _ _ (TooMany count) c.from_residual-in_err-online.ensures.1 e in
    too_many c.args.table.now c.args.weights.now c.args.slot_ms c.args.every
    (may_serve _ _ c.args.slot_ms _ c.coflows-within.ensures.table c.requires.weight_each c.requires.weight_range c.requires.epoch_some c.requires.epoch_fits)
    c.in_ok-arrivals.arrivals.items c.deref.result.now c.in_ok-arrivals.ensures.arrivals c.in_ok-arrivals.ensures.each c.in_ok-arrivals.ensures.range c.deref.ensures.value count
    (c.in_err-online.ensures.too_many count (ap Err (sym came)))

pub returns-in_err-online-clause-stops : goal.returns-in_err-online-clause-stops
returns-in_err-online-clause-stops g c = λ port e.
    let came : WireFault port ≡ c.in_err-online.field-0.0 = carried _ _ (WireFault port) c.from_residual-in_err-online.ensures.1 e in
    stops_short c.args.table.now c.args.weights.now c.args.slot_ms c.args.every
    (may_serve _ _ c.args.slot_ms _ c.coflows-within.ensures.table c.requires.weight_each c.requires.weight_range c.requires.epoch_some c.requires.epoch_fits)
    c.in_ok-arrivals.arrivals.items c.deref.result.now c.in_ok-arrivals.ensures.arrivals c.in_ok-arrivals.ensures.each c.in_ok-arrivals.ensures.range c.deref.ensures.value
    g.W.Wire.runs c.args.wires.now.items c.serve_online.new.wires.items port (c.in_err-online.ensures.stops port (ap Err (sym came)))
