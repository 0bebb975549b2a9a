use Rattle.std.proofs.Common.{◌≡◌, ◌∙◌, ⊎_elim, ℕ, ◌<◌, ◌≤◌, Result, Err, slice_index_or, length, sym, subst, refl, ap, arith}
use Rattle.std.specs.Prelude.{All, slice_index}
use Rattle.std.specs.List.Sorted.{IsStrictlyIncreasing}
use Rattle.coflow_units.specs.declared.fabric.Flow.{Flow}
use Rattle.outside.specs.Rose.{Rose}
use Rattle.flow_table.specs.Table.{TableFacts}
use Rattle.slot_runner.specs.Cuts.{HaveStopped}
use Rattle.hall_online.specs.declared.answer.OnlineFault.{OnlineFault}
use Rattle.hall_online.specs.declared.answer.OnlineFault.TheVariants.{WireFault}
use Rattle.hall_online.specs.Serving.{IsOnlineBegun}
use Rattle.epochs.specs.Tallies.{IsTallied}
use Rattle.hall_online.proofs.RunSteps.{granted_flows, granted_rises, is_tallied, never_full, never_late, never_nothing, never_spent, owed_length, ran_enough, ran_fits}
use Rattle.hall_online.proofs.RunSteps.{ran_more, ran_on, ran_some, ran_time, run_fell, sent_more, served_more, some, stops_there}
use Rattle.hall_online.proofs.Besides.{stays_at}
use Rattle.hall_online.proofs.running.act_run.Goals as goal

abbrev port_of : {S : Type 0} → Result S OnlineFault → ℕ
port_of (Err (WireFault port)) = port
port_of result = 0

pub slot-requires-clause-may : goal.slot-requires-clause-may
slot-requires-clause-may g c =
    let (arrivals, every, s, h, first) = c.requires.may in
    h.ready.may

pub slot-requires-clause-most : goal.slot-requires-clause-most
slot-requires-clause-most g c =
    let (arrivals, every, s, h, first) = c.requires.may in
    some c.args.hall.now c.args.crew.now.runner arrivals every s c.args.progress.now h c.args.most first

pub push_run-requires-clause-some : goal.push_run-requires-clause-some
push_run-requires-clause-some g c =
    let (arrivals, every, s, h, first) = c.requires.may in
    let x = c.slot.ensures.ran c.in-Ran.slot c.in-Ran.length c.in-Ran.count c.in-Ran.is in
    ran_some c.args.hall.now c.args.crew.now.runner arrivals every s c.args.progress.now h c.args.most first g.W.Wire.faults g.W.Wire.runs c.slot.new.self.runner
    c.args.crew.now.wires
    c.slot.new.self.wires c.in-Ran.slot c.in-Ran.length c.in-Ran.count x

pub push_run-requires-clause-short : goal.push_run-requires-clause-short
push_run-requires-clause-short g c =
    let (arrivals, every, s, h, first) = c.requires.may in
    let x = c.slot.ensures.ran c.in-Ran.slot c.in-Ran.length c.in-Ran.count c.in-Ran.is in
    ran_fits c.args.hall.now c.args.crew.now.runner arrivals every s c.args.progress.now h c.args.most first g.W.Wire.faults g.W.Wire.runs c.slot.new.self.runner
    c.args.crew.now.wires
    c.slot.new.self.wires c.in-Ran.slot c.in-Ran.length c.in-Ran.count x

pub push_run-requires-clause-ascending : goal.push_run-requires-clause-ascending
push_run-requires-clause-ascending g c =
    let (arrivals, every, s, h, first) = c.requires.may in
    let x = c.slot.ensures.ran c.in-Ran.slot c.in-Ran.length c.in-Ran.count c.in-Ran.is in
    subst IsStrictlyIncreasing (sym c.granted-granted.ensures) (granted_rises c.args.hall.now c.args.crew.now.runner arrivals every s c.args.progress.now h c.args.most first
    c.slot.new.self.runner x.drive x.run)

pub spend-requires-clause-tallied : goal.spend-requires-clause-tallied
spend-requires-clause-tallied g c =
    let (arrivals, every, s, h, first) = c.requires.may in
    let flows : c.flows.result.now ≡ c.args.hall.now.setting.opening.table.flows = c.flows.ensures.flows ∙ ap (λ (t : TableFacts). t.flows) c.requires.table in
    subst (λ fs. IsTallied fs c.args.progress.now.left.items c.args.progress.now.owed.items) (sym flows)
    (is_tallied c.args.hall.now.setting.opening s c.args.crew.now.runner.driver.journal c.args.progress.now h.tells)

pub spend-requires-clause-within : goal.spend-requires-clause-within
spend-requires-clause-within g c =
    let (arrivals, every, s, h, first) = c.requires.may in
    let flows : c.flows.result.now ≡ c.args.hall.now.setting.opening.table.flows = c.flows.ensures.flows ∙ ap (λ (t : TableFacts). t.flows) c.requires.table in
    subst (λ n. All (λ (x : Flow). x.coflow < n) c.flows.result.now) (sym (owed_length c.args.hall.now.setting.opening s c.args.crew.now.runner.driver.journal c.args.progress.now
    h.tells))
    (subst (All (λ (x : Flow). x.coflow < length c.args.hall.now.setting.opening.table.ids)) (sym flows) h.input.opening.table.coflow)

pub spend-requires-clause-flow : goal.spend-requires-clause-flow
spend-requires-clause-flow g c =
    let (arrivals, every, s, h, first) = c.requires.may in
    let x = c.slot.ensures.ran c.in-Ran.slot c.in-Ran.length c.in-Ran.count c.in-Ran.is in
    let flows : c.flows.result.now ≡ c.args.hall.now.setting.opening.table.flows = c.flows.ensures.flows ∙ ap (λ (t : TableFacts). t.flows) c.requires.table in
    subst (λ fs. All (λ f. f < length fs) c.granted-granted.result.now) (sym flows)
    (subst (All (λ f. f < length c.args.hall.now.setting.opening.table.flows)) (sym c.granted-granted.ensures)
    (granted_flows c.args.hall.now c.args.crew.now.runner arrivals every s c.args.progress.now h c.args.most first c.slot.new.self.runner x.drive x.run))

pub spend-requires-clause-ascending : goal.spend-requires-clause-ascending
spend-requires-clause-ascending g c =
    let (arrivals, every, s, h, first) = c.requires.may in
    let x = c.slot.ensures.ran c.in-Ran.slot c.in-Ran.length c.in-Ran.count c.in-Ran.is in
    subst IsStrictlyIncreasing (sym c.granted-granted.ensures) (granted_rises c.args.hall.now c.args.crew.now.runner arrivals every s c.args.progress.now h c.args.most first
    c.slot.new.self.runner x.drive x.run)

pub spend-requires-clause-owes : goal.spend-requires-clause-owes
spend-requires-clause-owes g c =
    let (arrivals, every, s, h, first) = c.requires.may in
    let x = c.slot.ensures.ran c.in-Ran.slot c.in-Ran.length c.in-Ran.count c.in-Ran.is in
    subst (All (λ f. c.in-Ran.length ≤ slice_index c.args.progress.now.left.items f)) (sym c.granted-granted.ensures)
    (ran_enough c.args.hall.now c.args.crew.now.runner arrivals every s c.args.progress.now h c.args.most first g.W.Wire.faults g.W.Wire.runs c.slot.new.self.runner
    c.args.crew.now.wires
    c.slot.new.self.wires c.in-Ran.slot c.in-Ran.length c.in-Ran.count x)

pub returns-in_ok-push_run-in-Ran-clause-done : goal.returns-in_ok-push_run-in-Ran-clause-done
returns-in_ok-push_run-in-Ran-clause-done g c =
    λ arrivals every s h first.
    let x = c.slot.ensures.ran c.in-Ran.slot c.in-Ran.length c.in-Ran.count c.in-Ran.is in
    let flows : c.flows.result.now ≡ c.args.hall.now.setting.opening.table.flows = c.flows.ensures.flows ∙ ap (λ (t : TableFacts). t.flows) c.requires.table in
    ran_on c.args.hall.now c.args.crew.now.runner arrivals every s c.args.progress.now h c.args.most first g.W.Wire.faults g.W.Wire.runs c.slot.new.self.runner
    c.args.crew.now.wires
    c.slot.new.self.wires c.in-Ran.slot c.in-Ran.length c.in-Ran.count x c.granted-granted.result.now c.granted-granted.ensures c.slot.ensures.again _ refl
    (subst (λ fs. IsTallied fs c.spend.new.left.items c.spend.new.owed.items) flows c.spend.ensures.tallied) c.spend.ensures.each c.spend.ensures.left refl refl
    c.in_ok-push_run-in-Ran.ensures.pushed

pub returns-in_ok-push_run-in-Ran-clause-longer : goal.returns-in_ok-push_run-in-Ran-clause-longer
returns-in_ok-push_run-in-Ran-clause-longer g c =
    let (arrivals, every, s, h, first) = c.requires.may in
    let x = c.slot.ensures.ran c.in-Ran.slot c.in-Ran.length c.in-Ran.count c.in-Ran.is in
    ran_more c.args.hall.now c.args.crew.now.runner arrivals every s c.args.progress.now h c.args.most first g.W.Wire.faults g.W.Wire.runs c.slot.new.self.runner
    c.args.crew.now.wires
    c.slot.new.self.wires c.in-Ran.slot c.in-Ran.length c.in-Ran.count x

pub returns-in_ok-push_run-in-Ran-clause-sent : goal.returns-in_ok-push_run-in-Ran-clause-sent
returns-in_ok-push_run-in-Ran-clause-sent g c =
    let (arrivals, every, s, h, first) = c.requires.may in
    let x = c.slot.ensures.ran c.in-Ran.slot c.in-Ran.length c.in-Ran.count c.in-Ran.is in
    λ before had. sent_more c.args.hall.now c.args.crew.now.runner arrivals every s c.args.progress.now h c.args.most first c.slot.new.self.runner x.drive x.run g.W.Wire.faults
    g.W.Wire.runs before c.args.crew.now.wires c.slot.new.self.wires x.wires had

pub returns-in_ok-push_run-in-Ran-clause-fell : goal.returns-in_ok-push_run-in-Ran-clause-fell
returns-in_ok-push_run-in-Ran-clause-fell g c =
    let (arrivals, every, s, h, first) = c.requires.may in
    let x = c.slot.ensures.ran c.in-Ran.slot c.in-Ran.length c.in-Ran.count c.in-Ran.is in
    run_fell c.args.hall.now c.args.crew.now.runner arrivals every s c.args.progress.now h c.args.most first c.slot.new.self.runner x.drive x.run g.W.Wire.faults g.W.Wire.runs
    c.args.crew.now.wires c.args.crew.now.wires c.slot.new.self.wires x.wires c.requires.wires

pub returns-in_err-push_run-in-Ran-clause-fell : goal.returns-in_err-push_run-in-Ran-clause-fell
returns-in_err-push_run-in-Ran-clause-fell g c =
    let (arrivals, every, s, h, first) = c.requires.may in
    let x = c.slot.ensures.ran c.in-Ran.slot c.in-Ran.length c.in-Ran.count c.in-Ran.is in
    run_fell c.args.hall.now c.args.crew.now.runner arrivals every s c.args.progress.now h c.args.most first c.slot.new.self.runner x.drive x.run g.W.Wire.faults g.W.Wire.runs
    c.args.crew.now.wires c.args.crew.now.wires c.slot.new.self.wires x.wires c.requires.wires

pub returns-in_err-push_run-in-Ran-clause-served : goal.returns-in_err-push_run-in-Ran-clause-served
returns-in_err-push_run-in-Ran-clause-served g c =
    λ arrivals every s before h first had.
    let x = c.slot.ensures.ran c.in-Ran.slot c.in-Ran.length c.in-Ran.count c.in-Ran.is in
    served_more c.args.hall.now c.args.crew.now.runner arrivals every s c.args.progress.now h c.args.most first c.slot.new.self.runner x.drive x.run g.W.Wire.faults
    g.W.Wire.runs before
    c.args.crew.now.wires c.slot.new.self.wires x.wires had

pub returns-in-WireFault-clause-served : goal.returns-in-WireFault-clause-served
returns-in-WireFault-clause-served g c =
    λ arrivals every s before h first had.
    let x = c.slot.ensures.wire_fault c.in-WireFault.port c.in-WireFault.sent c.in-WireFault.is in
    served_more c.args.hall.now c.args.crew.now.runner arrivals every s c.args.progress.now h c.args.most first c.slot.new.self.runner x.drive x.run g.W.Wire.faults
    g.W.Wire.runs before
    c.args.crew.now.wires c.slot.new.self.wires x.wires had

pub returns-in-WireFault-clause-fell : goal.returns-in-WireFault-clause-fell
returns-in-WireFault-clause-fell g c =
    let (arrivals, every, s, h, first) = c.requires.may in
    let x = c.slot.ensures.wire_fault c.in-WireFault.port c.in-WireFault.sent c.in-WireFault.is in
    run_fell c.args.hall.now c.args.crew.now.runner arrivals every s c.args.progress.now h c.args.most first c.slot.new.self.runner x.drive x.run g.W.Wire.faults g.W.Wire.runs
    c.args.crew.now.wires c.args.crew.now.wires c.slot.new.self.wires x.wires c.requires.wires

pub returns-in-WireFault-clause-fault : goal.returns-in-WireFault-clause-fault
returns-in-WireFault-clause-fault g c =
    let (arrivals, every, s, h, first) = c.requires.may in
    let x = c.slot.ensures.wire_fault c.in-WireFault.port c.in-WireFault.sent c.in-WireFault.is in
    λ port e.
    subst (λ p. (p < c.args.hall.now.setting.opening.table.ports) × ((b a : g.row.W.Denot) → Rose (g.W.Wire.faults (slice_index_or c.args.crew.now.wires p b))
    (g.W.Wire.faults (slice_index_or c.slot.new.self.wires p a)))) (ap port_of e)
    (omega (arith, x.in_range, h.ready.may.ports), x.rose)

pub unreachable-requires : goal.unreachable-requires
unreachable-requires g c =
    let (arrivals, every, s, h, first) = c.requires.may in
    ⊎_elim (λ nothing. never_nothing c.args.hall.now c.args.crew.now.runner arrivals every s c.args.progress.now h c.args.most first c.slot.new.self.runner
    (c.slot.ensures.nothing nothing))
    (λ more. ⊎_elim (λ late. never_late c.args.hall.now c.args.crew.now.runner arrivals every s c.args.progress.now h c.args.most first c.slot.new.self.runner late.0
    (c.slot.ensures.late late.0 late.1))
    (λ more'. ⊎_elim (λ full. never_full c.args.hall.now c.args.crew.now.runner arrivals every s c.args.progress.now h c.args.most first c.slot.new.self.runner full.0
    (c.slot.ensures.full full.0 full.1))
    (λ more''. ⊎_elim (λ spent. never_spent c.args.hall.now c.args.crew.now.runner arrivals every s c.args.progress.now h c.args.most first (c.slot.ensures.spent spent).0)
    (λ none. c.slot.ensures.memory none) more'') more') more) c.in-Nothing.is

pub overflow_add-progress : goal.overflow_add-progress
overflow_add-progress g c =
    let (arrivals, every, s, h, first) = c.requires.may in
    let x = c.slot.ensures.ran c.in-Ran.slot c.in-Ran.length c.in-Ran.count c.in-Ran.is in
    omega (
      arith,
      ran_time c.args.hall.now c.args.crew.now.runner arrivals every s c.args.progress.now h c.args.most first g.W.Wire.faults g.W.Wire.runs c.slot.new.self.runner
          c.args.crew.now.wires
          c.slot.new.self.wires
          c.in-Ran.slot c.in-Ran.length c.in-Ran.count x,
    )

pub returns-in_ok-push_run-in-Ran-clause-served : goal.returns-in_ok-push_run-in-Ran-clause-served
returns-in_ok-push_run-in-Ran-clause-served g c =
    λ arrivals every s before h first had.
    let x = c.slot.ensures.ran c.in-Ran.slot c.in-Ran.length c.in-Ran.count c.in-Ran.is in
    served_more c.args.hall.now c.args.crew.now.runner arrivals every s c.args.progress.now h c.args.most first c.slot.new.self.runner x.drive x.run g.W.Wire.faults
    g.W.Wire.runs before
    c.args.crew.now.wires
    c.slot.new.self.wires x.wires had

pub returns-in-WireFault-clause-stops : goal.returns-in-WireFault-clause-stops
returns-in-WireFault-clause-stops g c =
    λ port arrivals every s before e h first had.
    let x = c.slot.ensures.wire_fault c.in-WireFault.port c.in-WireFault.sent c.in-WireFault.is in
    let o = c.args.hall.now.setting.opening in
    subst (λ p. HaveStopped g.W.Wire.runs (IsOnlineBegun o arrivals every) o p before c.slot.new.self.wires) (ap port_of e)
    (stops_there c.args.hall.now c.args.crew.now.runner arrivals every s c.args.progress.now h c.args.most first g.W.Wire.faults g.W.Wire.runs c.slot.new.self.runner before
    c.args.crew.now.wires c.slot.new.self.wires c.in-WireFault.port c.in-WireFault.sent x had)

pub returns-in_ok-push_run-in-Ran-clause-stays : goal.returns-in_ok-push_run-in-Ran-clause-stays
returns-in_ok-push_run-in-Ran-clause-stays g c =
    let (arrivals, every, s, h, first) = c.requires.may in
    stays_at c.args.crew.now c.slot.new.self c.slot.ensures.stays.0 c.slot.ensures.stays.1 (c.slot.ensures.again.ports ∙ sym h.ready.may.ports)

pub returns-in_err-push_run-in-Ran-clause-stays : goal.returns-in_err-push_run-in-Ran-clause-stays
returns-in_err-push_run-in-Ran-clause-stays g c =
    let (arrivals, every, s, h, first) = c.requires.may in
    stays_at c.args.crew.now c.slot.new.self c.slot.ensures.stays.0 c.slot.ensures.stays.1 (c.slot.ensures.again.ports ∙ sym h.ready.may.ports)

pub returns-in-WireFault-clause-stays : goal.returns-in-WireFault-clause-stays
returns-in-WireFault-clause-stays g c =
    let (arrivals, every, s, h, first) = c.requires.may in
    stays_at c.args.crew.now c.slot.new.self c.slot.ensures.stays.0 c.slot.ensures.stays.1 (c.slot.ensures.again.ports ∙ sym h.ready.may.ports)
