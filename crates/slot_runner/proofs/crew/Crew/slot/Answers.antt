-- What the answer of the opening comes to.
use Rattle.std.proofs.Common.{⊎_elim, ℕ, ◌≤◌, sym, ◌+◌, Some, ap, ◌∙◌, refl, subst}
use Rattle.journal.specs.declared.command.Command.TheVariants.{Open}
use Rattle.journal.specs.declared.command.Reply.TheVariants.{Late, NothingLeft}
use Rattle.journal.specs.State.{slot_end}
use Rattle.client_session.specs.Drivers.{IsDriverTurn}
use Rattle.client_session.specs.Models.{DriverModel}
use Rattle.slot_runner.specs.Carried.{IsCarriedOut}
use Rattle.slot_runner.specs.Crews.{CrewModel}
use Rattle.slot_runner.specs.Models.{MayRun}
use Rattle.slot_runner.specs.Slots.{IsAnswered, IsRan}
use Rattle.slot_runner.proofs.Concluded.{fault_port, fault_units, late_slot, not_before, opened_here, opens_run, run_count, run_slot, run_slots, runs_again, short_run, start}
use Rattle.slot_runner.proofs.Concluded.{whole_run}
use Rattle.slot_runner.proofs.Opens.{reply_is}
use Rattle.slot_runner.proofs.Refused.{after_full, after_late, after_nothing, answered, may_still}
use Rattle.slot_runner.proofs.crew.Crew.slot.Goals as goal

pub returns-in-Full-clause-again : goal.returns-in-Full-clause-again
returns-in-Full-clause-again g c =
    let o = c.args.hall.now.setting.opening in
    let old = c.args.self.now.runner in
    let mid = c.open_run.new.self in
    let turn = subst (λ (d : DriverModel). IsDriverTurn o (Open c.args.most) (o.table.ports + 2) d mid c.open_run.result)
    (ap (λ (m : CrewModel g.row.W.Denot). m.runner.driver) c.self.view_is) c.open_run.ensures.turn in
    subst (λ (m : CrewModel g.row.W.Denot). MayRun c.args.hall.now (record m.runner { driver = mid })) (sym c.self.view_is)
    (may_still c.args.hall.now old mid c.requires.may turn.place (after_full o c.args.most c.in-Full.count old.driver mid (turn.full c.in-Full.count c.in-Full.is)))

pub returns-in-Late-clause-late : goal.returns-in-Late-clause-late
returns-in-Late-clause-late g c = λ slot e.
    let o = c.args.hall.now.setting.opening in
    let old = c.args.self.now.runner in
    let mid = c.open_run.new.self in
    let turn = subst (λ (d : DriverModel). IsDriverTurn o (Open c.args.most) (o.table.ports + 2) d mid c.open_run.result)
    (ap (λ (m : CrewModel g.row.W.Denot). m.runner.driver) c.self.view_is) c.open_run.ensures.turn in
    let on = turn.done c.in-Done.receipt c.in-Done.is in
    subst (λ (m : CrewModel g.row.W.Denot). IsAnswered o c.args.most old (record m.runner { driver = mid }) (Late slot)) (sym c.self.view_is)
    (answered o c.args.most old mid c.in-Done.receipt (Late slot) turn.place on (c.in-Late.is ∙ ap (λ n. Late n) (ap late_slot e)))

pub returns-in-Late-clause-again : goal.returns-in-Late-clause-again
returns-in-Late-clause-again g c =
    let o = c.args.hall.now.setting.opening in
    let old = c.args.self.now.runner in
    let mid = c.open_run.new.self in
    let turn = subst (λ (d : DriverModel). IsDriverTurn o (Open c.args.most) (o.table.ports + 2) d mid c.open_run.result)
    (ap (λ (m : CrewModel g.row.W.Denot). m.runner.driver) c.self.view_is) c.open_run.ensures.turn in
    let on = turn.done c.in-Done.receipt c.in-Done.is in
    subst (λ (m : CrewModel g.row.W.Denot). MayRun c.args.hall.now (record m.runner { driver = mid })) (sym c.self.view_is)
    (may_still c.args.hall.now old mid c.requires.may turn.place (after_late o c.args.most c.in-Late.slot old.driver mid c.in-Done.receipt on c.requires.may.closed c.in-Late.is))

pub returns-in-NothingLeft-clause-nothing : goal.returns-in-NothingLeft-clause-nothing
returns-in-NothingLeft-clause-nothing g c = λ e.
    let o = c.args.hall.now.setting.opening in
    let old = c.args.self.now.runner in
    let mid = c.open_run.new.self in
    let turn = subst (λ (d : DriverModel). IsDriverTurn o (Open c.args.most) (o.table.ports + 2) d mid c.open_run.result)
    (ap (λ (m : CrewModel g.row.W.Denot). m.runner.driver) c.self.view_is) c.open_run.ensures.turn in
    let on = turn.done c.in-Done.receipt c.in-Done.is in
    subst (λ (m : CrewModel g.row.W.Denot). IsAnswered o c.args.most old (record m.runner { driver = mid }) NothingLeft) (sym c.self.view_is)
    (answered o c.args.most old mid c.in-Done.receipt NothingLeft turn.place on c.in-NothingLeft.is)

pub returns-in-NothingLeft-clause-again : goal.returns-in-NothingLeft-clause-again
returns-in-NothingLeft-clause-again g c =
    let o = c.args.hall.now.setting.opening in
    let old = c.args.self.now.runner in
    let mid = c.open_run.new.self in
    let turn = subst (λ (d : DriverModel). IsDriverTurn o (Open c.args.most) (o.table.ports + 2) d mid c.open_run.result)
    (ap (λ (m : CrewModel g.row.W.Denot). m.runner.driver) c.self.view_is) c.open_run.ensures.turn in
    let on = turn.done c.in-Done.receipt c.in-Done.is in
    subst (λ (m : CrewModel g.row.W.Denot). MayRun c.args.hall.now (record m.runner { driver = mid })) (sym c.self.view_is)
    (may_still c.args.hall.now old mid c.requires.may turn.place (after_nothing o c.args.most old.driver mid c.in-Done.receipt on c.requires.may.closed c.in-NothingLeft.is))

pub unreachable-requires : goal.unreachable-requires
unreachable-requires g c =
    let o = c.args.hall.now.setting.opening in
    let old = c.args.self.now.runner in
    let mid = c.open_run.new.self in
    let turn = subst (λ (d : DriverModel). IsDriverTurn o (Open c.args.most) (o.table.ports + 2) d mid c.open_run.result)
    (ap (λ (m : CrewModel g.row.W.Denot). m.runner.driver) c.self.view_is) c.open_run.ensures.turn in
    let on = turn.done c.in-Done.receipt c.in-Done.is in
    let reply = reply_is o c.args.most old.driver mid c.in-Done.receipt on c.requires.may.closed in
    ⊎_elim (λ nothing. c.in_default.not-NothingLeft nothing.0)
    (λ more. ⊎_elim (λ late. c.in_default.not-Late slot_end late.0) (λ opened. c.in_default.not-Opened _ _ _ opened.0) more) reply

pub carry_out-requires-clause-later : goal.carry_out-requires-clause-later
carry_out-requires-clause-later g c =
    let o = c.args.hall.now.setting.opening in
    let old = c.args.self.now.runner in
    let mid = c.open_run.new.self in
    let turn = subst (λ (d : DriverModel). IsDriverTurn o (Open c.args.most) (o.table.ports + 2) d mid c.open_run.result)
    (ap (λ (m : CrewModel g.row.W.Denot). m.runner.driver) c.self.view_is) c.open_run.ensures.turn in
    subst (λ (m : CrewModel g.row.W.Denot). m.runner.posted_to ≤ c.in-Opened.slot) (sym c.self.view_is)
    (not_before c.args.hall.now old c.requires.may c.args.most mid c.open_run.result c.in-Done.receipt turn c.in-Done.is c.in-Opened.slot c.in-Opened.length
    c.in-Opened.count
    c.in-Opened.is)

pub carry_out-requires-clause-run : goal.carry_out-requires-clause-run
carry_out-requires-clause-run g c =
    let o = c.args.hall.now.setting.opening in
    let old = c.args.self.now.runner in
    let mid = c.open_run.new.self in
    let turn = subst (λ (d : DriverModel). IsDriverTurn o (Open c.args.most) (o.table.ports + 2) d mid c.open_run.result)
    (ap (λ (m : CrewModel g.row.W.Denot). m.runner.driver) c.self.view_is) c.open_run.ensures.turn in
    opened_here c.args.hall.now old c.requires.may c.args.most mid c.open_run.result c.in-Done.receipt turn c.in-Done.is c.in-Opened.slot c.in-Opened.length c.in-Opened.count
    c.in-Opened.is

pub returns-in-None-clause-ran : goal.returns-in-None-clause-ran
returns-in-None-clause-ran g c = λ slot slots count e.
    let o = c.args.hall.now.setting.opening in
    let old = c.args.self.now.runner in
    let mid = c.open_run.new.self in
    let turn = subst (λ (d : DriverModel). IsDriverTurn o (Open c.args.most) (o.table.ports + 2) d mid c.open_run.result)
    (ap (λ (m : CrewModel g.row.W.Denot). m.runner.driver) c.self.view_is) c.open_run.ensures.turn in
    let begun = start c.args.hall.now old c.requires.may c.args.most mid c.open_run.result c.in-Done.receipt turn c.in-Done.is c.in-Opened.slot c.in-Opened.length c.in-Opened.count
    c.in-Opened.is in
    let x = subst (λ (m : CrewModel g.row.W.Denot). IsCarriedOut g.W.Wire.faults g.W.Wire.runs o old.driver.journal begun (record m.runner { driver = mid })
    c.carry_out.new.self.runner m.wires
    c.carry_out.new.self.wires c.carry_out.result) c.self.view_is (c.carry_out.ensures.run old.driver.journal begun refl refl
    (opens_run c.args.hall.now old c.requires.may c.args.most mid c.open_run.result c.in-Done.receipt turn c.in-Done.is c.in-Opened.slot c.in-Opened.length c.in-Opened.count
    c.in-Opened.is)) in
    subst (λ (z : ℕ × ℕ × ℕ). IsRan g.W.Wire.faults g.W.Wire.runs o c.args.most old c.carry_out.new.self.runner c.args.self.now.wires c.carry_out.new.self.wires z.0 z.1 z.2)
    (λ i. (ap run_slot e i, ap run_slots e i, ap run_count e i))
    (whole_run c.args.hall.now old c.requires.may c.args.most mid c.open_run.result c.in-Done.receipt turn c.in-Done.is c.in-Opened.slot c.in-Opened.length c.in-Opened.count
    c.in-Opened.is
    g.W.Wire.faults g.W.Wire.runs c.coflows-within.ensures.opening c.carry_out.new.self.runner c.args.self.now.wires c.carry_out.new.self.wires c.carry_out.result x c.in-None.is)

pub returns-in-None-clause-again : goal.returns-in-None-clause-again
returns-in-None-clause-again g c =
    let o = c.args.hall.now.setting.opening in
    let old = c.args.self.now.runner in
    let mid = c.open_run.new.self in
    let turn = subst (λ (d : DriverModel). IsDriverTurn o (Open c.args.most) (o.table.ports + 2) d mid c.open_run.result)
    (ap (λ (m : CrewModel g.row.W.Denot). m.runner.driver) c.self.view_is) c.open_run.ensures.turn in
    let begun = start c.args.hall.now old c.requires.may c.args.most mid c.open_run.result c.in-Done.receipt turn c.in-Done.is c.in-Opened.slot c.in-Opened.length c.in-Opened.count
    c.in-Opened.is in
    let x = subst (λ (m : CrewModel g.row.W.Denot). IsCarriedOut g.W.Wire.faults g.W.Wire.runs o old.driver.journal begun (record m.runner { driver = mid })
    c.carry_out.new.self.runner m.wires
    c.carry_out.new.self.wires c.carry_out.result) c.self.view_is (c.carry_out.ensures.run old.driver.journal begun refl refl
    (opens_run c.args.hall.now old c.requires.may c.args.most mid c.open_run.result c.in-Done.receipt turn c.in-Done.is c.in-Opened.slot c.in-Opened.length c.in-Opened.count
    c.in-Opened.is)) in
    runs_again c.args.hall.now old c.requires.may c.args.most mid c.open_run.result c.in-Done.receipt turn c.in-Done.is c.in-Opened.slot c.in-Opened.length c.in-Opened.count
    c.in-Opened.is
    g.W.Wire.faults g.W.Wire.runs c.coflows-within.ensures.opening c.carry_out.new.self.runner c.args.self.now.wires c.carry_out.new.self.wires c.carry_out.result x

pub returns-in-Some-clause-wire_fault : goal.returns-in-Some-clause-wire_fault
returns-in-Some-clause-wire_fault g c = λ port units e.
    let o = c.args.hall.now.setting.opening in
    let old = c.args.self.now.runner in
    let mid = c.open_run.new.self in
    let turn = subst (λ (d : DriverModel). IsDriverTurn o (Open c.args.most) (o.table.ports + 2) d mid c.open_run.result)
    (ap (λ (m : CrewModel g.row.W.Denot). m.runner.driver) c.self.view_is) c.open_run.ensures.turn in
    let begun = start c.args.hall.now old c.requires.may c.args.most mid c.open_run.result c.in-Done.receipt turn c.in-Done.is c.in-Opened.slot c.in-Opened.length c.in-Opened.count
    c.in-Opened.is in
    let x = subst (λ (m : CrewModel g.row.W.Denot). IsCarriedOut g.W.Wire.faults g.W.Wire.runs o old.driver.journal begun (record m.runner { driver = mid })
    c.carry_out.new.self.runner m.wires
    c.carry_out.new.self.wires c.carry_out.result) c.self.view_is (c.carry_out.ensures.run old.driver.journal begun refl refl
    (opens_run c.args.hall.now old c.requires.may c.args.most mid c.open_run.result c.in-Done.receipt turn c.in-Done.is c.in-Opened.slot c.in-Opened.length c.in-Opened.count
    c.in-Opened.is)) in
    short_run c.args.hall.now old c.requires.may c.args.most mid c.open_run.result c.in-Done.receipt turn c.in-Done.is c.in-Opened.slot c.in-Opened.length c.in-Opened.count
    c.in-Opened.is
    g.W.Wire.faults g.W.Wire.runs c.coflows-within.ensures.opening c.carry_out.new.self.runner c.args.self.now.wires c.carry_out.new.self.wires c.carry_out.result x port units
    (c.in-Some.is ∙ (λ i. Some (ap fault_port e i, ap fault_units e i)))

pub returns-in-Some-clause-again : goal.returns-in-Some-clause-again
returns-in-Some-clause-again g c =
    let o = c.args.hall.now.setting.opening in
    let old = c.args.self.now.runner in
    let mid = c.open_run.new.self in
    let turn = subst (λ (d : DriverModel). IsDriverTurn o (Open c.args.most) (o.table.ports + 2) d mid c.open_run.result)
    (ap (λ (m : CrewModel g.row.W.Denot). m.runner.driver) c.self.view_is) c.open_run.ensures.turn in
    let begun = start c.args.hall.now old c.requires.may c.args.most mid c.open_run.result c.in-Done.receipt turn c.in-Done.is c.in-Opened.slot c.in-Opened.length c.in-Opened.count
    c.in-Opened.is in
    let x = subst (λ (m : CrewModel g.row.W.Denot). IsCarriedOut g.W.Wire.faults g.W.Wire.runs o old.driver.journal begun (record m.runner { driver = mid })
    c.carry_out.new.self.runner m.wires
    c.carry_out.new.self.wires c.carry_out.result) c.self.view_is (c.carry_out.ensures.run old.driver.journal begun refl refl
    (opens_run c.args.hall.now old c.requires.may c.args.most mid c.open_run.result c.in-Done.receipt turn c.in-Done.is c.in-Opened.slot c.in-Opened.length c.in-Opened.count
    c.in-Opened.is)) in
    runs_again c.args.hall.now old c.requires.may c.args.most mid c.open_run.result c.in-Done.receipt turn c.in-Done.is c.in-Opened.slot c.in-Opened.length c.in-Opened.count
    c.in-Opened.is
    g.W.Wire.faults g.W.Wire.runs c.coflows-within.ensures.opening c.carry_out.new.self.runner c.args.self.now.wires c.carry_out.new.self.wires c.carry_out.result x
