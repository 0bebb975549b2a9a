use Rattle.std.proofs.Common.{◌∙◌, ◌≤◌, [], ◌∷◌, ◌++◌, length, vec_capacity, refl, sym, subst, ap, arith}
use Rattle.std.specs.Prelude.{sum}
use Rattle.flow_table.specs.Table.{TableFacts}
use Rattle.journal.specs.Journal.{left_at}
use Rattle.online_runs.specs.Value.{epoch_of}
use Rattle.hall_online.proofs.Actions.{published_done, published_longer, published_sends, room_here}
use Rattle.hall_online.proofs.Publishing.{epoch_here, instance_here, left_fits, left_given, order_given, order_told}
use Rattle.hall_online.proofs.acting.act_publish.Goals as goal

pub publish-requires-clause-ready : goal.publish-requires-clause-ready
publish-requires-clause-ready g c =
    let (arrivals, every, s, h, first) = c.requires.may in
    h.ready

pub publish-requires-clause-room : goal.publish-requires-clause-room
publish-requires-clause-room g c =
    let (arrivals, every, s, h, first) = c.requires.may in
    room_here c.args.hall.now c.args.crew.now.runner arrivals every s c.args.progress.now h

pub publish-requires-clause-places_fit : goal.publish-requires-clause-places_fit
publish-requires-clause-places_fit g c =
    subst (λ (t : TableFacts). length t.ids ≤ vec_capacity c.args.orders.now.places) c.requires.table c.requires.places

pub epoch_of-requires-clause-each_left : goal.epoch_of-requires-clause-each_left
epoch_of-requires-clause-each_left g c =
    let (arrivals, every, s, h, first) = c.requires.may in
    ap length c.deref-2.ensures.value ∙ h.tells.each_left ∙ ap (λ (t : TableFacts). length t.flows) (sym c.requires.table)

pub epoch_of-requires-clause-each_present : goal.epoch_of-requires-clause-each_present
epoch_of-requires-clause-each_present g c =
    let (arrivals, every, s, h, first) = c.requires.may in
    ap length c.deref-3.ensures.value ∙ h.tells.each_present ∙ ap (λ (t : TableFacts). length t.ids) (sym c.requires.table)

pub epoch_of-requires-clause-units : goal.epoch_of-requires-clause-units
epoch_of-requires-clause-units g c =
    let (arrivals, every, s, h, first) = c.requires.may in
    omega (arith, ap sum c.deref-2.ensures.value, left_fits c.args.hall.now c.args.crew.now.runner arrivals every s c.args.progress.now h)

pub epoch_of-requires-clause-order : goal.epoch_of-requires-clause-order
epoch_of-requires-clause-order g c =
    let (arrivals, every, s, h, first) = c.requires.may in
    order_told c.args.hall.now c.args.crew.now.runner arrivals every s c.args.progress.now h c.args.table.now c.requires.table c.publish.new.places.items c.deref.result.now
    c.deref-2.result.now c.deref-3.result.now c.deref.ensures.value c.deref-2.ensures.value c.deref-3.ensures.value c.publish.ensures.order

pub returns-clause-done : goal.returns-clause-done
returns-clause-done g c =
    λ arrivals every s h first.
    let i = left_at c.args.hall.now.setting.opening c.args.crew.now.runner.driver.journal in
    let is =
    c.in_ok-epoch.ensures.epoch i c.args.hall.now.setting.opening.weights (instance_here c.args.hall.now c.args.crew.now.runner arrivals every s c.args.progress.now h)
    (order_given c.args.hall.now c.args.crew.now.runner arrivals every s c.args.progress.now h c.args.table.now c.requires.table c.publish.new.places.items c.deref.result.now
    c.deref-2.result.now c.deref-3.result.now c.deref.ensures.value c.deref-2.ensures.value c.deref-3.ensures.value c.publish.ensures.order)
    (left_given c.args.hall.now c.args.crew.now.runner arrivals every s c.args.progress.now h c.args.table.now c.requires.table c.publish.new.places.items c.deref.result.now
    c.deref-2.result.now c.deref-3.result.now c.deref.ensures.value c.deref-2.ensures.value c.deref-3.ensures.value c.publish.ensures.order) in
    published_done c.args.hall.now c.args.crew.now.runner c.publish.new.crew.runner arrivals every s c.args.progress.now _ h c.publish.ensures.ready refl refl refl refl first
    c.publish.ensures.asked
    (c.in_ok-push.ensures.items ∙ ap (λ e. c.args.progress.now.epochs.items ++ e ∷ [])
    (epoch_here c.args.hall.now c.args.crew.now.runner arrivals every s c.args.progress.now h c.in_ok-epoch.epoch
    (is ∙ ap (λ (t : TableFacts). epoch_of t.ids c.args.progress.now.time i) c.requires.table))) refl

pub returns-clause-longer : goal.returns-clause-longer
returns-clause-longer g c =
    let (arrivals, every, s, h, first) = c.requires.may in
    published_longer c.args.hall.now c.args.crew.now.runner c.publish.new.crew.runner arrivals every s c.args.progress.now c.args.progress.now h c.publish.ensures.ready
    refl refl refl
    refl first c.publish.ensures.asked

pub returns-in_err-epoch-clause-longer : goal.returns-in_err-epoch-clause-longer
returns-in_err-epoch-clause-longer g c =
    let (arrivals, every, s, h, first) = c.requires.may in
    published_longer c.args.hall.now c.args.crew.now.runner c.publish.new.crew.runner arrivals every s c.args.progress.now c.args.progress.now h c.publish.ensures.ready
    refl refl refl
    refl first c.publish.ensures.asked

pub returns-in_err-push-clause-longer : goal.returns-in_err-push-clause-longer
returns-in_err-push-clause-longer g c =
    let (arrivals, every, s, h, first) = c.requires.may in
    published_longer c.args.hall.now c.args.crew.now.runner c.publish.new.crew.runner arrivals every s c.args.progress.now c.args.progress.now h c.publish.ensures.ready
    refl refl refl
    refl first c.publish.ensures.asked

pub returns-clause-sends : goal.returns-clause-sends
returns-clause-sends g c =
    let (arrivals, every, s, h, first) = c.requires.may in
    published_sends c.args.hall.now c.args.crew.now.runner c.publish.new.crew.runner arrivals every s c.args.progress.now c.args.progress.now h c.publish.ensures.ready
    refl refl refl
    refl first c.publish.ensures.asked

pub returns-in_err-epoch-clause-sends : goal.returns-in_err-epoch-clause-sends
returns-in_err-epoch-clause-sends g c =
    let (arrivals, every, s, h, first) = c.requires.may in
    published_sends c.args.hall.now c.args.crew.now.runner c.publish.new.crew.runner arrivals every s c.args.progress.now c.args.progress.now h c.publish.ensures.ready
    refl refl refl
    refl first c.publish.ensures.asked

pub returns-in_err-push-clause-sends : goal.returns-in_err-push-clause-sends
returns-in_err-push-clause-sends g c =
    let (arrivals, every, s, h, first) = c.requires.may in
    published_sends c.args.hall.now c.args.crew.now.runner c.publish.new.crew.runner arrivals every s c.args.progress.now c.args.progress.now h c.publish.ensures.ready
    refl refl refl
    refl first c.publish.ensures.asked
