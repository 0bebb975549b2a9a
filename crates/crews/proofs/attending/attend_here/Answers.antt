use Rattle.std.proofs.Common.{rules, ◌≡◌, [], sym, ap, ◌∙◌, refl, subst}
use Rattle.port_board.specs.Views.{Sits, looked, takes_in}
use Rattle.crews.specs.Served.{AreCrewed}
use Rattle.crews.proofs.Crewed.{none_crewed, one_crewed}
use Rattle.crews.proofs.Ready.{empty_list, told_of}
use Rattle.crews.proofs.attending.attend_here.Goals as goal

pub returns-then-is_empty-clause-served : goal.returns-then-is_empty-clause-served
returns-then-is_empty-clause-served g c =
    let none : c.args.ports.now ≡ [] = empty_list c.args.ports.now (search rules) in
    subst (λ l. AreCrewed g.W.Wire.faults g.W.Wire.runs c.args.poster.now.view c.args.poster.now.view l c.args.wires.now c.args.wires.now) (sym none)
    (none_crewed g.W.Wire.faults g.W.Wire.runs c.args.poster.now.view c.args.wires.now c.requires.posted.0 c.requires.posted.1)

pub returns-clause-served : goal.returns-clause-served
returns-clause-served g c =
    let made = c.new_agent-agent.ensures.poster in
    let told = told_of c.args.poster.now.view c.new_agent-agent.new.poster.view made c.requires.posted in
    let lists = c.back.ensures.lists in
    one_crewed g.W.Wire.faults g.W.Wire.runs c.args.board.now.id c.args.board.now.ports c.args.poster.now.view c.new_agent-agent.new.poster.view c.new_agent-agent.new.poster.view
    c.back.new.poster.view
    [] c.args.ports.now c.args.wires.now c.args.wires.now c.args.wires.now c.attend_ports.new.wires c.new_agent-agent.result c.attend_ports.new.agent lists.0 made
    c.new_agent-agent.ensures.fresh
    c.attend_ports.ensures.tried (none_crewed g.W.Wire.faults g.W.Wire.runs c.new_agent-agent.new.poster.view c.args.wires.now told.0 told.1)
    (lists.1 ∙ ap (λ (z : Sits). looked 0 lists.0 (takes_in c.new_agent-agent.new.poster.view z.view)) c.into_seat.ensures) c.requires.distinct c.requires.distinct refl refl
    c.attend_ports.ensures.stay (c.back.ensures.posted, c.back.ensures.apart)
