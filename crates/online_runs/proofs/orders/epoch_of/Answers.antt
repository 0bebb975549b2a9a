use Rattle.std.proofs.Common.{◌≡◌, ◌∙◌, ℕ, ◌<◌, List, ap, map, reverse, subst}
use Rattle.std.specs.Prelude.{All}
use Rattle.coflow_units.specs.declared.plan.Place.{Place}
use Rattle.journal.specs.Chosen.{the_ordering}
use Rattle.online_text.specs.declared.value.Epoch.{Epoch}
use Rattle.online_text.specs.declared.value.OnlinePlace.{OnlinePlace}
use Rattle.online_runs.specs.Value.{place_line}
use Rattle.online_runs.proofs.Bounds.{order_lines, places_below}
use Rattle.online_runs.proofs.orders.epoch_of.Goals as goal

abbrev epoch : ℕ → List OnlinePlace → ℕ → Epoch
epoch time places n = record { time = time; places = places; bound = n }

epoch_is : (time : ℕ) (ls ms : List OnlinePlace) (m n : ℕ) → ls ≡ ms → m ≡ n → epoch time ls m ≡ epoch time ms n
epoch_is time ls ms m n places worth = ap (λ l. epoch time l m) places ∙ ap (epoch time ms) worth

pub order_lines-requires : goal.order_lines-requires
order_lines-requires c =
    let (i, weights, inst, order, is, small) = c.requires.order in
    subst (λ n. All (λ (x : Place). x.coflow < n) c.args.places.now) c.requires.each_present
    (places_below i c.args.table.now.flows c.args.left.now weights c.args.present.now c.args.table.now.ports c.args.places.now inst order is)

pub returns-clause-epoch : goal.returns-clause-epoch
returns-clause-epoch c = λ i weights inst order is.
    let lines : c.from_vec.result ≡ map (place_line c.args.table.now.ids) (reverse (the_ordering i)) =
    c.from_vec.ensures ∙ c.in_ok-lines.ensures ∙
    order_lines i c.args.table.now.flows c.args.left.now weights c.args.present.now c.args.table.now.ports c.args.places.now inst order is c.args.table.now.ids in
    epoch_is c.args.time _ _ _ _ lines (c.in_ok-bound.ensures.bound i weights inst order is)
