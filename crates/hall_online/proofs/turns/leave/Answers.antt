use Rattle.std.proofs.Common.{refl, subst}
use Rattle.journal.specs.declared.command.Command.TheVariants.{Withdraw}
use Rattle.client_session.specs.Drivers.{IsDriverTurn}
use Rattle.client_session.specs.Models.{DriverModel}
use Rattle.hall_online.proofs.OwnTurns.{asked_so, is_done, ready_quiet}
use Rattle.hall_online.proofs.turns.leave.Goals as goal

pub unreachable-requires : goal.unreachable-requires
unreachable-requires g c =
    let hall = c.args.hall.now in
    let old = c.args.crew.now.runner in
    let mid = c.withdraw.new.self in
    let turn = subst (λ (d : DriverModel). IsDriverTurn hall.setting.opening (Withdraw c.args.coflow) 1 d mid c.withdraw.result) c.driver.ensures.driver c.withdraw.ensures.turn in
    let (r, is) = is_done hall old mid (Withdraw c.args.coflow) c.withdraw.result c.requires.ready c.requires.room refl turn in
    c.in_default.not-Done r is

pub returns-clause-ready : goal.returns-clause-ready
returns-clause-ready g c =
    let hall = c.args.hall.now in
    let old = c.args.crew.now.runner in
    let mid = c.withdraw.new.self in
    let turn = subst (λ (d : DriverModel). IsDriverTurn hall.setting.opening (Withdraw c.args.coflow) 1 d mid c.withdraw.result) c.driver.ensures.driver c.withdraw.ensures.turn in
    ready_quiet hall old mid (Withdraw c.args.coflow) c.withdraw.result c.requires.ready c.requires.room refl turn refl

pub returns-clause-asked : goal.returns-clause-asked
returns-clause-asked g c =
    let hall = c.args.hall.now in
    let old = c.args.crew.now.runner in
    let mid = c.withdraw.new.self in
    let turn = subst (λ (d : DriverModel). IsDriverTurn hall.setting.opening (Withdraw c.args.coflow) 1 d mid c.withdraw.result) c.driver.ensures.driver c.withdraw.ensures.turn in
    asked_so hall old mid (Withdraw c.args.coflow) c.withdraw.result c.requires.ready c.requires.room refl turn
