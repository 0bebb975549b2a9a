use Rattle.std.proofs.Common.{◌≡◌, ◌<◌, Result, Err, length, slice_index_or, sym, subst, ap}
use Rattle.outside.specs.Rose.{Rose}
use Rattle.journal.specs.declared.opening.Opening.{Opening}
use Rattle.schedule_model.specs.RunList.{NamesFlows}
use Rattle.slot_runner.specs.Cuts.{HaveStopped}
use Rattle.slot_runner.specs.Wires.{AreAllUnits, HaveMore}
use Rattle.online_runs.specs.Deeds.{PublishesTooMany}
use Rattle.online_runs.specs.Input.{IsOnlineInput, online_opening}
use Rattle.online_runs.specs.declared.progress.Progress.{Progress}
use Rattle.hall_online.specs.declared.answer.OnlineFault.{OnlineFault}
use Rattle.hall_online.specs.declared.answer.OnlineFault.TheVariants.{NoMemory, TooMany, WireFault}
use Rattle.hall_online.specs.Serving.{EndsAs, HaveServed, IsOnlineBegun}
use Rattle.hall_online.proofs.Begins.{names_flows, none_served}
use Rattle.hall_online.proofs.online.served.Goals as goal

-- what a fault that is handed on is
abbrev fault_of : {S : Type 0} → Result S OnlineFault → OnlineFault
fault_of (Err fault) = fault
fault_of result = NoMemory

pub serve_by_camp-answer-requires-clause-under_way : goal.serve_by_camp-answer-requires-clause-under_way
serve_by_camp-answer-requires-clause-under_way g c κs within = (c.args.arrivals.now, c.args.every, c.in_ok-hall.ensures.under_way)

pub returns-in-Ok-clause-ends : goal.returns-in-Ok-clause-ends
returns-in-Ok-clause-ends g c =
    subst (EndsAs (online_opening c.args.table.now c.args.weights.now) c.args.arrivals.now c.args.every) (sym c.progress_of-progress.ensures)
    (subst (λ (x : Opening). EndsAs x c.args.arrivals.now c.args.every c.serve_by_camp-answer.new.kept.progress) c.in_ok-hall.ensures.opening
    (c.in-Ok.ensures.ends c.args.arrivals.now c.args.every c.in_ok-hall.ensures.under_way))

pub returns-in-Ok-clause-names : goal.returns-in-Ok-clause-names
returns-in-Ok-clause-names g c =
    subst (λ (p : Progress). NamesFlows (length c.args.table.now.flows) p.schedule) (sym c.progress_of-progress.ensures)
    (names_flows (online_opening c.args.table.now c.args.weights.now) c.args.arrivals.now c.args.every c.serve_by_camp-answer.new.kept.progress
    (subst (λ (x : Opening). IsOnlineInput x c.args.arrivals.now c.args.every) c.in_ok-hall.ensures.opening c.in_ok-hall.ensures.under_way.input)
    (subst (λ (x : Opening). EndsAs x c.args.arrivals.now c.args.every c.serve_by_camp-answer.new.kept.progress) c.in_ok-hall.ensures.opening
    (c.in-Ok.ensures.ends c.args.arrivals.now c.args.every c.in_ok-hall.ensures.under_way)))

pub returns-in-Ok-clause-sent : goal.returns-in-Ok-clause-sent
returns-in-Ok-clause-sent g c =
    subst (λ (p : Progress). HaveMore g.W.Wire.runs (AreAllUnits c.args.table.now.flows p.schedule) c.args.table.now.ports c.args.wires.now.items
    c.serve_by_camp-answer.new.wires.items) (sym c.progress_of-progress.ensures)
    (subst (λ (x : Opening). HaveMore g.W.Wire.runs (AreAllUnits x.table.flows c.serve_by_camp-answer.new.kept.progress.schedule) x.table.ports c.args.wires.now.items
    c.serve_by_camp-answer.new.wires.items) c.in_ok-hall.ensures.opening c.in-Ok.ensures.sent)

pub returns-in-Ok-clause-wires : goal.returns-in-Ok-clause-wires
returns-in-Ok-clause-wires g c =
    subst (λ (x : Opening). HaveServed g.W.Wire.runs x c.args.arrivals.now c.args.every c.args.wires.now.items c.serve_by_camp-answer.new.wires.items) c.in_ok-hall.ensures.opening
    (c.serve_by_camp-answer.ensures.served c.args.arrivals.now c.args.every c.in_ok-hall.ensures.under_way)

pub returns-in-Err-clause-wires : goal.returns-in-Err-clause-wires
returns-in-Err-clause-wires g c =
    subst (λ (x : Opening). HaveServed g.W.Wire.runs x c.args.arrivals.now c.args.every c.args.wires.now.items c.serve_by_camp-answer.new.wires.items) c.in_ok-hall.ensures.opening
    (c.serve_by_camp-answer.ensures.served c.args.arrivals.now c.args.every c.in_ok-hall.ensures.under_way)

pub returns-in_err-hall-clause-wires : goal.returns-in_err-hall-clause-wires
returns-in_err-hall-clause-wires g c =
    none_served g.W.Wire.faults g.W.Wire.runs (online_opening c.args.table.now c.args.weights.now) c.args.arrivals.now c.args.every c.args.wires.now.items c.requires.wires

pub returns-in-Err-clause-fault : goal.returns-in-Err-clause-fault
returns-in-Err-clause-fault g c = λ port e.
    let came : c.in-Err.fault ≡ WireFault port = ap fault_of e in
    subst (λ (x : Opening). (port < x.table.ports) × ((b a : g.row.W.Denot) → Rose (g.W.Wire.faults (slice_index_or c.args.wires.now.items port b))
    (g.W.Wire.faults (slice_index_or c.serve_by_camp-answer.new.wires.items port a))))
    c.in_ok-hall.ensures.opening (c.in-Err.ensures.fault port (ap Err came))

pub returns-in-Err-clause-too_many : goal.returns-in-Err-clause-too_many
returns-in-Err-clause-too_many g c = λ count e.
    let came : c.in-Err.fault ≡ TooMany count = ap fault_of e in
    subst (λ (x : Opening). PublishesTooMany x c.args.arrivals.now c.args.every count) c.in_ok-hall.ensures.opening
    (c.in-Err.ensures.too_many count c.args.arrivals.now c.args.every (ap Err came) c.in_ok-hall.ensures.under_way)

pub returns-in-Err-clause-stops : goal.returns-in-Err-clause-stops
returns-in-Err-clause-stops g c = λ port e.
    let came : c.in-Err.fault ≡ WireFault port = ap fault_of e in
    subst (λ (x : Opening). HaveStopped g.W.Wire.runs (IsOnlineBegun x c.args.arrivals.now c.args.every) x port c.args.wires.now.items c.serve_by_camp-answer.new.wires.items)
    c.in_ok-hall.ensures.opening (c.in-Err.ensures.stops port c.args.arrivals.now c.args.every (ap Err came) c.in_ok-hall.ensures.under_way)
