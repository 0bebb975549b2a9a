-- The orders of the worked rows, computed.
use Rattle.std.proofs.Common.{◌≡◌, ap, arith}
use Rattle.std.specs.List.{slice_index_or}
use Rattle.coflow_units.specs.Certificate.{Entry}
use Rattle.coflow_units.specs.Ordering.{IsOrdering}
use Rattle.coflow_units.specs.SmallCases.{at_a_later_port, first_ingress, too_dear}
use Rattle.coflow_units.specs.Rows.{equal_weights, equal_weights_places, unequal_weights, unequal_weights_places, one_empty, one_empty_places, all_ties, all_ties_places, realistic}
use Rattle.coflow_units.specs.Rows.{realistic_places}
use Rattle.coflow_units.proofs.RowChecks.{equal_instance, unequal_instance, empty_instance, ties_instance, realistic_instance}
use Rattle.coflow_units.proofs.OrderingExists.{ordering_exists}
use Rattle.coflow_units.proofs.OrderingLaws.{one_ordering}

pub equal_ordering : IsOrdering equal_weights equal_weights_places
equal_ordering = ordering_exists equal_weights equal_instance

pub unequal_ordering : IsOrdering unequal_weights unequal_weights_places
unequal_ordering = ordering_exists unequal_weights unequal_instance

pub empty_ordering : IsOrdering one_empty one_empty_places
empty_ordering = ordering_exists one_empty empty_instance

pub ties_ordering : IsOrdering all_ties all_ties_places
ties_ordering = ordering_exists all_ties ties_instance

pub realistic_ordering : IsOrdering realistic realistic_places
realistic_ordering = ordering_exists realistic realistic_instance

no_entry : Entry
no_entry = record { coflow = 0; port = first_ingress; y = 0 }

pub other_coflow : IsOrdering equal_weights unequal_weights_places → ⊥
other_coflow ordering =
    let same : equal_weights_places ≡ unequal_weights_places = one_ordering equal_weights equal_weights_places unequal_weights_places equal_ordering ordering in
    let coflow : 0 ≡ 1 = ap (λ entries. (slice_index_or entries 0 no_entry).coflow) same in
    omega (arith, coflow)

pub rounded_up : IsOrdering equal_weights too_dear → ⊥
rounded_up ordering =
    let same : equal_weights_places ≡ too_dear = one_ordering equal_weights equal_weights_places too_dear equal_ordering ordering in
    let y : 366503875925 ≡ 366503875926 = ap (λ entries. (slice_index_or entries 0 no_entry).y) same in
    omega (arith, y)

pub later_port : IsOrdering all_ties at_a_later_port → ⊥
later_port ordering =
    let same : all_ties_places ≡ at_a_later_port = one_ordering all_ties all_ties_places at_a_later_port ties_ordering ordering in
    let number : 0 ≡ 1 = ap (λ entries. (slice_index_or entries 0 no_entry).port.number) same in
    omega (arith, number)
