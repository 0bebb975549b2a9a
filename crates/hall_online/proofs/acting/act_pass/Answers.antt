use Rattle.std.proofs.Common.{refl}
use Rattle.hall_online.proofs.Actions.{pass_answer, pass_fits, pass_some, passed_done, passed_longer, passed_sends, room_here}
use Rattle.hall_online.proofs.acting.act_pass.Goals as goal

pub pass-requires-clause-ready : goal.pass-requires-clause-ready
pass-requires-clause-ready g c =
    let (arrivals, every, s, h, first) = c.requires.may in
    h.ready

pub pass-requires-clause-room : goal.pass-requires-clause-room
pass-requires-clause-room g c =
    let (arrivals, every, s, h, first) = c.requires.may in
    room_here c.args.hall.now c.args.crew.now.runner arrivals every s c.args.progress.now h

pub pass-requires-clause-idle : goal.pass-requires-clause-idle
pass-requires-clause-idle g c =
    let (arrivals, every, s, h, first) = c.requires.may in
    pass_answer c.args.hall.now c.args.crew.now.runner c.args.crew.now.runner arrivals every s c.args.progress.now c.args.progress.now h c.args.to first

pub push_run-requires-clause-some : goal.push_run-requires-clause-some
push_run-requires-clause-some g c =
    let (arrivals, every, s, h, first) = c.requires.may in
    pass_some c.args.hall.now c.args.crew.now.runner c.args.crew.now.runner arrivals every s c.args.progress.now c.args.progress.now h c.args.to first

pub push_run-requires-clause-short : goal.push_run-requires-clause-short
push_run-requires-clause-short g c =
    let (arrivals, every, s, h, first) = c.requires.may in
    pass_fits c.args.hall.now c.args.crew.now.runner c.args.crew.now.runner arrivals every s c.args.progress.now c.args.progress.now h c.args.to first

pub returns-clause-done : goal.returns-clause-done
returns-clause-done g c = λ arrivals every s h first.
    passed_done c.args.hall.now c.args.crew.now.runner c.pass.new.crew.runner arrivals every s c.args.progress.now _ h c.args.to first c.pass.ensures.ready
    c.pass.ensures.asked refl
    refl refl refl refl c.in_ok-push_run.ensures.pushed

pub returns-clause-longer : goal.returns-clause-longer
returns-clause-longer g c =
    let (arrivals, every, s, h, first) = c.requires.may in
    passed_longer c.args.hall.now c.args.crew.now.runner c.pass.new.crew.runner arrivals every s c.args.progress.now c.args.progress.now h c.args.to first c.pass.ensures.ready
    c.pass.ensures.asked

pub returns-clause-sends : goal.returns-clause-sends
returns-clause-sends g c =
    let (arrivals, every, s, h, first) = c.requires.may in
    passed_sends c.args.hall.now c.args.crew.now.runner c.pass.new.crew.runner arrivals every s c.args.progress.now c.args.progress.now h c.args.to first c.pass.ensures.ready
    c.pass.ensures.asked

pub returns-in_err-push_run-clause-longer : goal.returns-in_err-push_run-clause-longer
returns-in_err-push_run-clause-longer g c =
    let (arrivals, every, s, h, first) = c.requires.may in
    passed_longer c.args.hall.now c.args.crew.now.runner c.pass.new.crew.runner arrivals every s c.args.progress.now c.args.progress.now h c.args.to first c.pass.ensures.ready
    c.pass.ensures.asked

pub returns-in_err-push_run-clause-sends : goal.returns-in_err-push_run-clause-sends
returns-in_err-push_run-clause-sends g c =
    let (arrivals, every, s, h, first) = c.requires.may in
    passed_sends c.args.hall.now c.args.crew.now.runner c.pass.new.crew.runner arrivals every s c.args.progress.now c.args.progress.now h c.args.to first c.pass.ensures.ready
    c.pass.ensures.asked
