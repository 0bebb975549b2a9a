use Rattle.live_serving.proofs.Whole.{none_served}
use Rattle.live_runs.specs.Run.{opening_with}
use Rattle.live_runs.proofs.RunsTold.{run_told, served_worded}
use Rattle.live_runs.proofs.running.run_live.Goals as goal

pub returns-in_err-again-clause-wires : goal.returns-in_err-again-clause-wires
returns-in_err-again-clause-wires g c =
    none_served g.W.Wire.faults g.W.Wire.runs (opening_with c.args.table c.args.weights c.args.limit) c.args.wires.now.items c.requires.wires

pub returns-in_err-master-clause-wires : goal.returns-in_err-master-clause-wires
returns-in_err-master-clause-wires g c =
    none_served g.W.Wire.faults g.W.Wire.runs (opening_with c.args.table c.args.weights c.args.limit) c.args.wires.now.items c.requires.wires

pub value_of-requires-clause-words : goal.value_of-requires-clause-words
value_of-requires-clause-words g c =
    let served = c.in_ok-served.served in
    served_worded g.W.Wire.runs (opening_with c.args.table c.args.weights c.args.limit) c.in_ok-master.master.opening served.master.opening c.args.script.now c.args.most
    served.master.journal served.pulls c.args.wires.now.items c.serve_live.new.wires.items c.in_ok-master.ensures.opening c.in_ok-served.ensures.opening
    c.in_ok-served.ensures.served

pub returns-clause-run : goal.returns-clause-run
returns-clause-run g c =
    let served = c.in_ok-served.served in
    run_told g.W.Wire.runs (opening_with c.args.table c.args.weights c.args.limit) c.in_ok-master.master.opening served.master.opening c.args.script.now c.args.most
    served.master.journal served.pulls c.args.wires.now.items c.serve_live.new.wires.items c.in_ok-master.ensures.opening c.in_ok-served.ensures.opening
    c.in_ok-served.ensures.served
    c.in_ok-live.live c.in_ok-live.ensures
