use Rattle.std.proofs.Common.{◌-◌, leb-true, get_or, length, ap, arith}
use Rattle.std.proofs.lemmas.List.{get_or_default}
use Rattle.flow_table.specs.declared.spots.Spot.{Spot}
use Rattle.flow_table.proofs.PairCounts.{far_apart, no_pairs}
use Rattle.flow_table.proofs.below.is_none_below.Goals as goal

pub returns-then-places-eq0 : goal.returns-then-places-eq0
returns-then-places-eq0 c = λ yes'. no_pairs c.args.places.now c.args.rests.now (λ i j d e li lj. absurd (omega arith))

pub returns-then-rests-eq0 : goal.returns-then-rests-eq0
returns-then-rests-eq0 c = λ yes'. no_pairs c.args.places.now c.args.rests.now (λ i j d e li lj. absurd (omega arith))

pub returns : goal.returns
returns c = λ least.
    let places = c.args.places.now in
    let rests = c.args.rests.now in
    let none : Spot = record { location = 0; number = 0 } in
    far_apart places rests (get_or places 0 none).number (get_or rests (length rests - 1) none).number c.requires.places_ascend c.requires.rests_ascend
    (λ d lt. ap (λ (s : Spot). s.number) (get_or_default places 0 d none lt)) (λ d lt. ap (λ (s : Spot). s.number) (get_or_default rests (length rests - 1) d none (omega arith)))
    (leb-true _ _ least)
