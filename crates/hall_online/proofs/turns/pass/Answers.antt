use Rattle.std.proofs.Common.{refl, subst}
use Rattle.journal.specs.declared.command.Command.TheVariants.{Skip}
use Rattle.client_session.specs.Drivers.{IsDriverTurn}
use Rattle.client_session.specs.Models.{DriverModel}
use Rattle.hall_online.proofs.OwnTurns.{asked_so, is_done, ready_skipped}
use Rattle.hall_online.proofs.turns.pass.Goals as goal

pub unreachable-requires : goal.unreachable-requires
unreachable-requires g c =
    let hall = c.args.hall.now in
    let old = c.args.crew.now.runner in
    let mid = c.skip.new.self in
    let turn = subst (λ (d : DriverModel). IsDriverTurn hall.setting.opening (Skip c.args.to) 1 d mid c.skip.result) c.driver.ensures.driver c.skip.ensures.turn in
    let (r, is) = is_done hall old mid (Skip c.args.to) c.skip.result c.requires.ready c.requires.room refl turn in
    c.in_default.not-Done r is

pub returns-clause-ready : goal.returns-clause-ready
returns-clause-ready g c =
    let hall = c.args.hall.now in
    let old = c.args.crew.now.runner in
    let mid = c.skip.new.self in
    let turn = subst (λ (d : DriverModel). IsDriverTurn hall.setting.opening (Skip c.args.to) 1 d mid c.skip.result) c.driver.ensures.driver c.skip.ensures.turn in
    ready_skipped hall old mid c.args.to c.skip.result c.requires.ready c.requires.room turn c.requires.idle

pub returns-clause-asked : goal.returns-clause-asked
returns-clause-asked g c =
    let hall = c.args.hall.now in
    let old = c.args.crew.now.runner in
    let mid = c.skip.new.self in
    let turn = subst (λ (d : DriverModel). IsDriverTurn hall.setting.opening (Skip c.args.to) 1 d mid c.skip.result) c.driver.ensures.driver c.skip.ensures.turn in
    asked_so hall old mid (Skip c.args.to) c.skip.result c.requires.ready c.requires.room refl turn
