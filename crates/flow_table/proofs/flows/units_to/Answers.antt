use Rattle.std.proofs.Common.{◌^◌, length, arith}
use Rattle.std.proofs.lemmas.List.{length-drop, length-take}
use Rattle.std.proofs.lemmas.Nat.{mul-le}
use Rattle.flow_table.specs.declared.spots.Spot.{Spot}
use Rattle.flow_table.specs.Targets.{own_rests}
use Rattle.flow_table.proofs.PairCounts.{pairs_bound}
use Rattle.flow_table.proofs.flows.units_to.Goals as goal

pub overflow_add-result : goal.overflow_add-result
overflow_add-result c =
    let own = own_rests c.args.rests.now c.args.target.now in
    let most = pairs_bound c.args.places.now own c.requires.few_places (omega (arith, length-take {A = Spot}, length-drop {A = Spot})) in
    omega (arith, c.pairs_below.ensures, most, mul-le c.args.target.now.whole (length c.args.places.now) (2 ^ 40) 4096 c.requires.whole c.requires.few_places)
