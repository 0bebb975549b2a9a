use Rattle.std.proofs.Common.{arith, refl}
use Rattle.hall_online.proofs.Actions.{left_done, left_longer, left_sends, leaves_low, room_here}
use Rattle.hall_online.proofs.acting.act_leave.Goals as goal

pub leave-requires-clause-ready : goal.leave-requires-clause-ready
leave-requires-clause-ready g c =
    let (arrivals, every, s, h, first) = c.requires.may in
    h.ready

pub leave-requires-clause-room : goal.leave-requires-clause-room
leave-requires-clause-room g c =
    let (arrivals, every, s, h, first) = c.requires.may in
    room_here c.args.hall.now c.args.crew.now.runner arrivals every s c.args.progress.now h

pub leave-requires-clause-coflow : goal.leave-requires-clause-coflow
leave-requires-clause-coflow g c =
    let (arrivals, every, s, h, first) = c.requires.may in
    leaves_low c.args.hall.now c.args.crew.now.runner arrivals every s c.args.progress.now h c.args.coflow first

pub index_mut-requires : goal.index_mut-requires
index_mut-requires g c =
    let (arrivals, every, s, h, first) = c.requires.may in
    let low = leaves_low c.args.hall.now c.args.crew.now.runner arrivals every s c.args.progress.now h c.args.coflow first in
    omega (arith, low, h.tells.each_present)

pub returns-clause-done : goal.returns-clause-done
returns-clause-done g c = λ arrivals every s h first.
    left_done c.args.hall.now c.args.crew.now.runner c.leave.new.crew.runner arrivals every s c.args.progress.now _ h c.leave.ensures.ready refl refl refl refl c.args.coflow first
    c.leave.ensures.asked refl refl

pub returns-clause-longer : goal.returns-clause-longer
returns-clause-longer g c =
    let (arrivals, every, s, h, first) = c.requires.may in
    left_longer c.args.hall.now c.args.crew.now.runner c.leave.new.crew.runner arrivals every s c.args.progress.now c.args.progress.now h c.leave.ensures.ready refl refl refl refl
    c.args.coflow first c.leave.ensures.asked

pub returns-clause-sends : goal.returns-clause-sends
returns-clause-sends g c =
    let (arrivals, every, s, h, first) = c.requires.may in
    left_sends c.args.hall.now c.args.crew.now.runner c.leave.new.crew.runner arrivals every s c.args.progress.now c.args.progress.now h c.leave.ensures.ready refl refl refl refl
    c.args.coflow first c.leave.ensures.asked
