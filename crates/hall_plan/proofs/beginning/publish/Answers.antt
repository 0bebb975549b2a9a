use Rattle.hall_plan.proofs.PlanTurns.{order_of_places, places_are, published, published_done}
use Rattle.hall_plan.proofs.beginning.publish.Goals as goal

pub unreachable-requires : goal.unreachable-requires
unreachable-requires g c =
    let (r, is) = published_done c.args.hall.now c.args.driver.now c.publish_out.new.self c.publish_out.result c.requires.alone c.publish_out.ensures.turn in
    c.in_default.not-Done r is

pub returns-clause-alone : goal.returns-clause-alone
returns-clause-alone g c = published c.args.hall.now c.args.driver.now c.publish_out.new.self c.publish_out.result c.requires.alone c.publish_out.ensures.turn

pub returns-clause-places : goal.returns-clause-places
returns-clause-places g c =
    places_are c.args.hall.now c.args.driver.now c.publish_out.new.self c.publish_out.result c.requires.alone c.publish_out.ensures.turn c.args.places.now.items
    c.publish_out.new.places.items c.publish_out.ensures.places

pub returns-clause-order : goal.returns-clause-order
returns-clause-order g c =
    order_of_places c.args.hall.now c.args.driver.now c.publish_out.new.self c.publish_out.result c.requires.alone c.publish_out.ensures.turn c.args.places.now.items
    c.publish_out.new.places.items c.publish_out.ensures.places
