use Rattle.std.proofs.Common.{arith, refl}
use Rattle.hall_online.proofs.Actions.{joined_done, joined_longer, joined_sends, joins_low, room_here}
use Rattle.hall_online.proofs.acting.act_join.Goals as goal

pub join-requires-clause-ready : goal.join-requires-clause-ready
join-requires-clause-ready g c =
    let (arrivals, every, s, h, first) = c.requires.may in
    h.ready

pub join-requires-clause-room : goal.join-requires-clause-room
join-requires-clause-room g c =
    let (arrivals, every, s, h, first) = c.requires.may in
    room_here c.args.hall.now c.args.crew.now.runner arrivals every s c.args.progress.now h

pub join-requires-clause-coflow : goal.join-requires-clause-coflow
join-requires-clause-coflow g c =
    let (arrivals, every, s, h, first) = c.requires.may in
    joins_low c.args.hall.now c.args.crew.now.runner arrivals every s c.args.progress.now h c.args.coflow first

pub index_mut-requires : goal.index_mut-requires
index_mut-requires g c =
    let (arrivals, every, s, h, first) = c.requires.may in
    let low = joins_low c.args.hall.now c.args.crew.now.runner arrivals every s c.args.progress.now h c.args.coflow first in
    omega (arith, low, h.tells.each_present)

pub returns-clause-done : goal.returns-clause-done
returns-clause-done g c = λ arrivals every s h first.
    joined_done c.args.hall.now c.args.crew.now.runner c.join.new.crew.runner arrivals every s c.args.progress.now _ h c.join.ensures.ready refl refl refl refl c.args.coflow first
    c.join.ensures.asked refl refl

pub returns-clause-longer : goal.returns-clause-longer
returns-clause-longer g c =
    let (arrivals, every, s, h, first) = c.requires.may in
    joined_longer c.args.hall.now c.args.crew.now.runner c.join.new.crew.runner arrivals every s c.args.progress.now c.args.progress.now h c.join.ensures.ready refl refl refl refl
    c.args.coflow first c.join.ensures.asked

pub returns-clause-sends : goal.returns-clause-sends
returns-clause-sends g c =
    let (arrivals, every, s, h, first) = c.requires.may in
    joined_sends c.args.hall.now c.args.crew.now.runner c.join.new.crew.runner arrivals every s c.args.progress.now c.args.progress.now h c.join.ensures.ready refl refl refl refl
    c.args.coflow first c.join.ensures.asked
