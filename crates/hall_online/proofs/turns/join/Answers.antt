use Rattle.std.proofs.Common.{refl, subst}
use Rattle.journal.specs.declared.command.Command.TheVariants.{Register}
use Rattle.client_session.specs.Drivers.{IsDriverTurn}
use Rattle.client_session.specs.Models.{DriverModel}
use Rattle.hall_online.proofs.OwnTurns.{asked_so, is_done, ready_quiet}
use Rattle.hall_online.proofs.turns.join.Goals as goal

pub unreachable-requires : goal.unreachable-requires
unreachable-requires g c =
    let hall = c.args.hall.now in
    let old = c.args.crew.now.runner in
    let mid = c.register.new.self in
    let turn = subst (λ (d : DriverModel). IsDriverTurn hall.setting.opening (Register c.args.coflow) 1 d mid c.register.result) c.driver.ensures.driver c.register.ensures.turn in
    let (r, is) = is_done hall old mid (Register c.args.coflow) c.register.result c.requires.ready c.requires.room refl turn in
    c.in_default.not-Done r is

pub returns-clause-ready : goal.returns-clause-ready
returns-clause-ready g c =
    let hall = c.args.hall.now in
    let old = c.args.crew.now.runner in
    let mid = c.register.new.self in
    let turn = subst (λ (d : DriverModel). IsDriverTurn hall.setting.opening (Register c.args.coflow) 1 d mid c.register.result) c.driver.ensures.driver c.register.ensures.turn in
    ready_quiet hall old mid (Register c.args.coflow) c.register.result c.requires.ready c.requires.room refl turn refl

pub returns-clause-asked : goal.returns-clause-asked
returns-clause-asked g c =
    let hall = c.args.hall.now in
    let old = c.args.crew.now.runner in
    let mid = c.register.new.self in
    let turn = subst (λ (d : DriverModel). IsDriverTurn hall.setting.opening (Register c.args.coflow) 1 d mid c.register.result) c.driver.ensures.driver c.register.ensures.turn in
    asked_so hall old mid (Register c.args.coflow) c.register.result c.requires.ready c.requires.room refl turn
