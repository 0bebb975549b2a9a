-- One agent alone.
use Rattle.std.proofs.Common.{List, ◌++◌, ap, ◌∙◌, arith}
use Rattle.port_board.specs.declared.view.Report.{Report}
use Rattle.port_agent.specs.Served.{taken}
use Rattle.port_agent.proofs.Halves.{served_alone, tried_alone}
use Rattle.port_agent.proofs.agents.+fn-serve_all-join_mut+arg2+fn-serve_all-join_mut+arg3+serve_all.Goals as goal

pub returns-then-agents-eq1-clause-served : goal.returns-then-agents-eq1-clause-served
returns-then-agents-eq1-clause-served g c c' =
    let told = c'.serve-served.ensures.round in
    served_alone g.W.Wire.faults g.W.Wire.runs c'.args.agents.now c'.serve-served.new.self c'.args.first told.took c'.args.wires.now c'.serve-served.new.wires
    c'.if-agents-eq1.true
    (told.done ∙ ap (λ (l : List Report). l ++ taken told.took) ((c'.requires.fresh.1 0 _ (omega (arith, c'.if-agents-eq1.true))).none_done)) told.attended

pub returns-then-agents-eq1-clause-tries : goal.returns-then-agents-eq1-clause-tries
returns-then-agents-eq1-clause-tries g c c' =
    let told = c'.serve-served.ensures.round in
    let fresh = c'.requires.fresh.1 0 _ (omega (arith, c'.if-agents-eq1.true)) in
    tried_alone c'.args.board.now.ports c'.args.first _ told.took c'.args.agents.now c'.serve-served.new.self _ c'.if-agents-eq1.true told.attended.as_many fresh.none_done
    fresh.no_looks
    told.done told.tries
