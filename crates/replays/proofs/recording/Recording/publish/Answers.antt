use Rattle.std.proofs.Common.{◌∙◌, ◌<◌, List, [], ◌∷◌, ◌++◌, length, sym, ap, subst}
use Rattle.std.specs.Prelude.{All}
use Rattle.coflow_units.specs.declared.plan.Place.{Place}
use Rattle.coflow_units.specs.declared.fabric.Side.TheVariants.{Ingress}
use Rattle.coflow_units.proofs.Fronts.{written_back}
use Rattle.bssi_order.specs.Order.{IsOrder}
use Rattle.master_core.specs.Published.{IsLeft}
use Rattle.master_core.proofs.PlaceSteps.{each_within}
use Rattle.online_text.specs.declared.value.Epoch.{Epoch}
use Rattle.online_text.specs.declared.value.OnlinePlace.{OnlinePlace}
use Rattle.replays.proofs.Charges.{epoch, epoch_is, line_charged}
use Rattle.replays.proofs.recording.Recording.publish.Goals as goal

pub fill_charges-requires-clause-within : goal.fill_charges-requires-clause-within
fill_charges-requires-clause-within c =
    let left = c.requires.may.left_is in
    let i = left.instance in
    let present = c.args.present.now in
    let places = c.order.new.self.ordering.places in
    let order : IsOrder i places = c.order.ensures.order i
    (subst (λ l. IsLeft i c.args.table.now.flows l c.args.self.now.weights.items present c.args.table.now.ports) (sym c.deref.ensures.value) left.is_left) in
    subst (All (λ (x : Place). x.coflow < length c.args.table.now.ids)) (sym c.places-places.ensures)
    (subst (λ n. All (λ (x : Place). x.coflow < n) places) left.each_present (each_within i places present order left.is_left.coflows_are))

pub bound_of-requires-clause-order : goal.bound_of-requires-clause-order
bound_of-requires-clause-order c =
    let left = c.requires.may.left_is in
    let i = left.instance in
    let present = c.args.present.now in
    let weights = c.args.self.now.weights.items in
    let order = c.order.ensures.order i
    (subst (λ l. IsLeft i c.args.table.now.flows l weights present c.args.table.now.ports) (sym c.deref.ensures.value) left.is_left) in (
      i,
      weights,
      left.is_instance,
      subst (IsOrder i) (sym c.places-places.ensures) order,
      subst (λ l. IsLeft i c.args.table.now.flows l weights present c.args.table.now.ports) (sym c.deref-2.ensures.value) left.is_left,
      left.weight,
    )

pub returns : goal.returns
returns c =
    let made = c.order.new.self in
    let table = c.args.table.now in
    let back = written_back made.charges.len c.fill_charges.new.charges made.charges.items (c.fill_charges.auto.charges ∙ c.deref_mut.ensures.len) in
    record {
      schedule = c.order.ensures.schedule;
      room = record {
        weights_are = c.order.ensures.room.weights_are;
        coflows = c.bound_of.ensures.size.coflows ∙ c.order.ensures.room.coflows;
        ports = c.bound_of.ensures.size.ports ∙ c.order.ensures.room.ports;
        room = c.order.ensures.room.room;
        each_charge = ap (λ (l : List OnlinePlace). length l) back ∙ c.fill_charges.auto.charges ∙ ap (λ (l : List OnlinePlace). length l) c.deref_mut.ensures.value ∙
            c.order.ensures.room.each_charge;
      };
      epochs = λ i inst is within.
          let weights = c.args.self.now.weights.items in
          let present = c.args.present.now in
          let order = subst (IsOrder i) (sym c.places-places.ensures)
          (c.order.ensures.order i (subst (λ l. IsLeft i table.flows l weights present table.ports) (sym c.deref.ensures.value) is)) in
          let worth = c.in_ok-bound.ensures.bound i weights inst order (subst (λ l. IsLeft i table.flows l weights present table.ports) (sym c.deref-2.ensures.value) is) in
          let none : OnlinePlace = record { id = 0; port = record { side = Ingress; number = 0 }; y = 0 } in
          let told = c.from_vec.ensures ∙ c.in_ok-charged.ensures none ∙
          line_charged i table.ids c.places-places.result.now c.fill_charges.new.charges c.deref-3.result.now c.args.line.now none (c.deref-3.ensures.value ∙ back) inst order
          c.fill_charges.ensures within in
          c.in_ok-push.ensures.items ∙
          ap (λ (l : List Epoch). l ++ epoch c.args.progress.now.time c.from_vec.result c.in_ok-bound.bound ∷ []) (ap (λ v. v.items) c.order.ensures.epochs) ∙
          ap (λ e. c.args.self.now.epochs.items ++ e ∷ []) (epoch_is c.args.progress.now.time _ _ _ _ told worth);
    }
