use Rattle.std.proofs.Common.{refl, subst}
use Rattle.journal.specs.declared.command.Command.TheVariants.{Publish}
use Rattle.client_session.specs.Drivers.{IsDriverTurn}
use Rattle.client_session.specs.Models.{DriverModel}
use Rattle.hall_online.proofs.OwnTurns.{asked_so, is_done, places_out, ready_quiet}
use Rattle.hall_online.proofs.turns.publish.Goals as goal

pub unreachable-requires : goal.unreachable-requires
unreachable-requires g c =
    let hall = c.args.hall.now in
    let old = c.args.crew.now.runner in
    let mid = c.publish_out.new.self in
    let turn = subst (λ (d : DriverModel). IsDriverTurn hall.setting.opening Publish 1 d mid c.publish_out.result) c.driver.ensures.driver c.publish_out.ensures.turn in
    let (r, is) = is_done hall old mid Publish c.publish_out.result c.requires.ready c.requires.room refl turn in
    c.in_default.not-Done r is

pub returns-clause-ready : goal.returns-clause-ready
returns-clause-ready g c =
    let hall = c.args.hall.now in
    let old = c.args.crew.now.runner in
    let mid = c.publish_out.new.self in
    let turn = subst (λ (d : DriverModel). IsDriverTurn hall.setting.opening Publish 1 d mid c.publish_out.result) c.driver.ensures.driver c.publish_out.ensures.turn in
    ready_quiet hall old mid Publish c.publish_out.result c.requires.ready c.requires.room refl turn refl

pub returns-clause-asked : goal.returns-clause-asked
returns-clause-asked g c =
    let hall = c.args.hall.now in
    let old = c.args.crew.now.runner in
    let mid = c.publish_out.new.self in
    let turn = subst (λ (d : DriverModel). IsDriverTurn hall.setting.opening Publish 1 d mid c.publish_out.result) c.driver.ensures.driver c.publish_out.ensures.turn in
    asked_so hall old mid Publish c.publish_out.result c.requires.ready c.requires.room refl turn

pub returns-clause-order : goal.returns-clause-order
returns-clause-order g c =
    let hall = c.args.hall.now in
    let old = c.args.crew.now.runner in
    let mid = c.publish_out.new.self in
    let turn = subst (λ (d : DriverModel). IsDriverTurn hall.setting.opening Publish 1 d mid c.publish_out.result) c.driver.ensures.driver c.publish_out.ensures.turn in
    places_out hall old mid c.publish_out.result c.requires.ready c.requires.room turn c.args.places.now.items c.publish_out.new.places.items c.publish_out.ensures.places
