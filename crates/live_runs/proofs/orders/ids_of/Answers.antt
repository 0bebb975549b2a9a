use Rattle.std.proofs.Common.{◌≤◌, List, ◌∷◌, [], ℕ, length, ap, ◌∙◌, arith, length-append}
use Rattle.std.proofs.lemmas.List.{take_all}
use Rattle.std.specs.List.{slice_index_or}
use Rattle.std.specs.Prelude.{map}
use Rattle.master_core.specs.Published.{ranked}
use Rattle.master_core.proofs.RankSteps.{ranked_len}
use Rattle.live_runs.proofs.OrdersTold.{ids_more}
use Rattle.live_runs.proofs.orders.ids_of.Goals as goal

pub loop-place-preserved : goal.loop-place-preserved
loop-place-preserved c =
    let at = c.loop-place in
    let many = at.invariant.many in
    let room = at.invariant.room in
    let items = c.push_reserved.ensures.items in
    record {
      ids = ids_more c.args.table.now.ids c.args.places.now at.place-index _ c.id.result at.ids.items c.push_reserved.new.self.items c.loop-place-test.true at.invariant.ids
          c.id.ensures items;
      many = omega (arith, many, ap (λ (l : List ℕ). length l) items, length-append at.ids.items (c.id.result ∷ []));
      room = omega (arith, room, c.push_reserved.ensures.capacity);
    }

pub returns : goal.returns
returns c =
    let all : length (ranked c.args.places.now) ≤ c.loop-place.place-index = omega (arith, c.loop-place-test.false, ranked_len c.args.places.now) in
    c.loop-place.invariant.ids ∙ ap (map (λ (x : ℕ). slice_index_or c.args.table.now.ids x 0)) (take_all c.loop-place.place-index (ranked c.args.places.now) all)
