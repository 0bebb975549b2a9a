use Rattle.std.proofs.Common.{◌≡◌, ◌∙◌, ◌+◌, ◌≤◌, ◌++◌, ap, arith, length, length-append, List, rules, subst, sym, vec_capacity}
use Rattle.slot_runner.proofs.Dismissed.{none_out_at, over_at}
use Rattle.client_session.specs.Models.{SessionModel}
use Rattle.journal.specs.declared.opening.Opening.{Opening}
use Rattle.slot_runner.specs.Models.{MayRun, RunnerModel}
use Rattle.live_serving.specs.Going.{IsGoing}
use Rattle.live_serving.specs.Wires.{HaveServed}
use Rattle.live_serving.proofs.Camped.{camp_fault, camp_least, camp_served, camp_wires}
use Rattle.live_serving.proofs.Whole.{ended_again, filled_again, none_served}
use Rattle.live_serving.proofs.live.serve_live.Goals as goal

pub returns-in_err-run-clause-wires : goal.returns-in_err-run-clause-wires
returns-in_err-run-clause-wires g c = none_served g.W.Wire.faults g.W.Wire.runs c.args.master.opening c.args.wires.now.items c.requires.wires

pub returns-in_default-clause-wires : goal.returns-in_default-clause-wires
returns-in_default-clause-wires g c =
    let same : c.into_camp.new.wires.items ≡ c.args.wires.now.items = search rules in
    subst (λ (l : List g.row.W.Denot). HaveServed g.W.Wire.runs c.args.master.opening c.args.wires.now.items l) (sym same)
    (none_served g.W.Wire.faults g.W.Wire.runs c.args.master.opening c.args.wires.now.items c.requires.wires)

pub into_camp-requires-clause-wires : goal.into_camp-requires-clause-wires
into_camp-requires-clause-wires g c =
    let going = c.in_ok-run.ensures.under_way c.args.most in
    omega (arith, going.drives.may.ports, ap (λ (o : Opening). o.table.ports) c.in_ok-run.ensures.opening, c.requires.wires)

pub serve_camp-answer-requires-clause-going : goal.serve_camp-answer-requires-clause-going
serve_camp-answer-requires-clause-going g c κs within =
    let run = c.in_ok-run.run' in
    subst (λ (x : RunnerModel × List SessionModel). IsGoing run.hall c.args.script.now c.args.most 0 x.0 x.1 run.pulls.items)
    (λ i. (sym c.in-Ok.ensures.camp.runner i, sym c.deref_mut.ensures.value i)) (c.in_ok-run.ensures.under_way c.args.most)

pub serve_camp-answer-requires-clause-gates : goal.serve_camp-answer-requires-clause-gates
serve_camp-answer-requires-clause-gates g c κs within =
    let going = c.in_ok-run.ensures.under_way c.args.most in
    omega (arith, c.split_at_mut-near.ensures.front_len, going.seated.each, ap (λ (l : List SessionModel). length l) c.deref_mut.ensures.value)

pub serve_camp-answer-requires-clause-wires : goal.serve_camp-answer-requires-clause-wires
serve_camp-answer-requires-clause-wires g c κs within =
    let going = c.in_ok-run.ensures.under_way c.args.most in
    omega (arith, c.in-Ok.ensures.camp.ports, going.drives.may.ports)

pub disband-driver-requires-clause-over : goal.disband-driver-requires-clause-over
disband-driver-requires-clause-over g c =
    let camp = c.in-Ok.camp in
    over_at camp.site camp.crew c.in-Ok.ensures.camp.at c.serve_camp-answer.new.crew.places c.serve_camp-answer.ensures.over

pub disband-driver-requires-clause-none : goal.disband-driver-requires-clause-none
disband-driver-requires-clause-none g c =
    let camp = c.in-Ok.camp in
    none_out_at camp.site camp.crew c.in-Ok.ensures.camp.at c.serve_camp-answer.new.crew.places c.serve_camp-answer.ensures.over

pub disband-driver-requires-clause-room : goal.disband-driver-requires-clause-room
disband-driver-requires-clause-room g c =
    let camp = c.in-Ok.camp in
    let going = c.in_ok-run.ensures.under_way c.args.most in
    let none : length c.into_camp.new.wires.items ≡ 0 = ap (λ (l : List g.row.W.Denot). length l) c.in-Ok.ensures.taken in
    let whole : length camp.crew.wires + length camp.far.items ≡ length c.args.wires.now.items = sym (length-append camp.crew.wires camp.far.items)
    ∙ ap (λ (l : List g.row.W.Denot). length l) c.in-Ok.ensures.camp.wires in
    let long = c.in-Ok.ensures.camp.ports ∙ going.drives.may.ports in
    let ports = c.serve_camp-answer.ensures.wires.may.ports in
    let room = c.into_camp.ensures.room in
    let small : length c.args.wires.now.items ≤ vec_capacity c.args.wires.now = search rules in
    omega (arith, none, whole, long, ports, room, small)

pub end-requires-clause-ended : goal.end-requires-clause-ended
end-requires-clause-ended g c =
    let run = c.in_ok-run.run' in
    ended_again c.serve_camp-answer.result run.hall c.args.script.now c.args.most run.sessions.len c.serve_camp-answer.new.crew.runner.driver c.disband-driver.result
    c.serve_camp-answer.new.sessions run.sessions.items c.serve_camp-answer.new.pulls.items c.disband-driver.ensures.driver run.sessions.ok.0
    (c.in_ok-run.ensures.under_way c.args.most).seated.each c.serve_camp-answer.ensures.done

pub end-requires-clause-filled : goal.end-requires-clause-filled
end-requires-clause-filled g c = λ e.
    let run = c.in_ok-run.run' in
    filled_again run.hall c.args.script.now c.args.most run.sessions.len c.serve_camp-answer.new.crew.runner.driver c.disband-driver.result c.serve_camp-answer.new.sessions
    run.sessions.items c.disband-driver.ensures.driver run.sessions.ok.0 (c.in_ok-run.ensures.under_way c.args.most).seated.each (c.serve_camp-answer.ensures.filled e)

pub returns-clause-served : goal.returns-clause-served
returns-clause-served g c =
    let run = c.in_ok-run.run' in
    let camp = c.in-Ok.camp in
    let is = c.in-Ok.ensures.camp in
    let going = c.in_ok-run.ensures.under_way c.args.most in
    camp_served g.W.Wire.faults g.W.Wire.runs run.hall c.args.master.opening c.in_ok-run.ensures.opening c.args.script.now c.args.most c.serve_camp-answer.result
    camp.crew c.serve_camp-answer.new.crew c.serve_camp-answer.new.sessions c.serve_camp-answer.new.pulls.items camp.far.items c.args.wires.now.items
    c.disband-driver.new.wires.items (ap (λ (r : RunnerModel). r.driver.journal) is.runner ∙ c.in_ok-run.ensures.none)
    (subst (MayRun run.hall) (sym is.runner) going.drives.may) (is.ports ∙ sym (ap (λ (r : RunnerModel). r.ports) is.runner)) is.wires
    (c.disband-driver.ensures.wires ∙ ap (λ (l : List g.row.W.Denot). l ++ (c.serve_camp-answer.new.crew.wires ++ camp.far.items)) c.in-Ok.ensures.taken)
    c.serve_camp-answer.ensures
    run.sessions.len run.sessions.items run.sessions.ok.0 going.seated.each c.disband-driver.result c.disband-driver.ensures.driver c.end.result c.end.ensures.no_stop
    (c.end.ensures.told c.args.most)

pub returns-clause-wires : goal.returns-clause-wires
returns-clause-wires g c =
    let run = c.in_ok-run.run' in
    let camp = c.in-Ok.camp in
    let is = c.in-Ok.ensures.camp in
    let going = c.in_ok-run.ensures.under_way c.args.most in
    camp_wires g.W.Wire.faults g.W.Wire.runs run.hall c.args.master.opening c.in_ok-run.ensures.opening c.args.script.now c.args.most c.serve_camp-answer.result
    camp.crew c.serve_camp-answer.new.crew c.serve_camp-answer.new.sessions c.serve_camp-answer.new.pulls.items camp.far.items c.args.wires.now.items
    c.disband-driver.new.wires.items (ap (λ (r : RunnerModel). r.driver.journal) is.runner ∙ c.in_ok-run.ensures.none)
    (subst (MayRun run.hall) (sym is.runner) going.drives.may) (is.ports ∙ sym (ap (λ (r : RunnerModel). r.ports) is.runner)) is.wires
    (c.disband-driver.ensures.wires ∙ ap (λ (l : List g.row.W.Denot). l ++ (c.serve_camp-answer.new.crew.wires ++ camp.far.items)) c.in-Ok.ensures.taken)
    c.serve_camp-answer.ensures

pub returns-clause-fault : goal.returns-clause-fault
returns-clause-fault g c = λ port e.
    let run = c.in_ok-run.run' in
    let camp = c.in-Ok.camp in
    let is = c.in-Ok.ensures.camp in
    let going = c.in_ok-run.ensures.under_way c.args.most in
    camp_fault g.W.Wire.faults g.W.Wire.runs run.hall c.args.master.opening c.in_ok-run.ensures.opening c.args.script.now c.args.most c.serve_camp-answer.result
    camp.crew c.serve_camp-answer.new.crew c.serve_camp-answer.new.sessions c.serve_camp-answer.new.pulls.items camp.far.items c.args.wires.now.items
    c.disband-driver.new.wires.items (ap (λ (r : RunnerModel). r.driver.journal) is.runner ∙ c.in_ok-run.ensures.none)
    (subst (MayRun run.hall) (sym is.runner) going.drives.may) (is.ports ∙ sym (ap (λ (r : RunnerModel). r.ports) is.runner)) is.wires
    (c.disband-driver.ensures.wires ∙ ap (λ (l : List g.row.W.Denot). l ++ (c.serve_camp-answer.new.crew.wires ++ camp.far.items)) c.in-Ok.ensures.taken)
    c.serve_camp-answer.ensures port (c.end.ensures.fault port e)

pub returns-clause-least : goal.returns-clause-least
returns-clause-least g c = λ port e.
    let run = c.in_ok-run.run' in
    let camp = c.in-Ok.camp in
    let is = c.in-Ok.ensures.camp in
    let going = c.in_ok-run.ensures.under_way c.args.most in
    camp_least g.W.Wire.faults g.W.Wire.runs run.hall c.args.master.opening c.in_ok-run.ensures.opening c.args.script.now c.args.most c.serve_camp-answer.result
    camp.crew c.serve_camp-answer.new.crew c.serve_camp-answer.new.sessions c.serve_camp-answer.new.pulls.items camp.far.items c.args.wires.now.items
    c.disband-driver.new.wires.items (ap (λ (r : RunnerModel). r.driver.journal) is.runner ∙ c.in_ok-run.ensures.none)
    (subst (MayRun run.hall) (sym is.runner) going.drives.may) (is.ports ∙ sym (ap (λ (r : RunnerModel). r.ports) is.runner)) is.wires
    (c.disband-driver.ensures.wires ∙ ap (λ (l : List g.row.W.Denot). l ++ (c.serve_camp-answer.new.crew.wires ++ camp.far.items)) c.in-Ok.ensures.taken)
    c.serve_camp-answer.ensures port (c.end.ensures.fault port e)
