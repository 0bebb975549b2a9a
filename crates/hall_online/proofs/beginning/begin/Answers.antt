use Rattle.std.proofs.Common.{arith}
use Rattle.hall_online.proofs.Begins.{begins_so}
use Rattle.hall_online.proofs.beginning.begin.Goals as goal

pub course_of-requires-clause-coflows : goal.course_of-requires-clause-coflows
course_of-requires-clause-coflows c = omega (arith, c.requires.arrival_each, c.coflows-within.ensures.table.few_coflows)

pub returns-clause-under_way : goal.returns-clause-under_way
returns-clause-under_way c =
    begins_so c.in-Ok-hall_of.hall c.in-Ok-hall_of.runner c.args.table.now c.args.weights.now c.args.arrivals.now c.args.every c.in_ok-course.course c.in-Ok-no_progress.progress
    c.in-Ok-hall_of.ensures.opening c.in-Ok-hall_of.ensures.ready c.in-Ok-hall_of.ensures.none c.requires.arrival_each c.requires.arrival_range c.requires.epoch_some
    c.requires.epoch_fits c.in_ok-course.ensures c.in-Ok-no_progress.ensures.time c.in-Ok-no_progress.ensures.left c.in-Ok-no_progress.ensures.each c.in-Ok-no_progress.ensures.owed
    c.in-Ok-no_progress.ensures.present c.in-Ok-no_progress.ensures.epochs c.in-Ok-no_progress.ensures.schedule
