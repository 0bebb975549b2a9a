-- The spots of mappers and of reducers before they are sorted.
use Rattle.std.proofs.Common.{◌≡◌, ℕ, ◌+◌, ◌%◌, ◌<◌, List, [], ◌∷◌, ◌++◌, get_or, length, map, sym, ap, subst, ◌∙◌, arith}
use Rattle.std.specs.Prelude.{All, slice_index}
use Rattle.std.specs.List.{range_with_len}
use Rattle.std.specs.List.Sorted.{IsPermutation}
use Rattle.std.proofs.lemmas.List.{length-map}
use Rattle.std.proofs.lemmas.List.Elements.{All-map}
use Rattle.std.proofs.lemmas.List.FromFn.{get_or-range_with_len, length-range_with_len, map-range_with_len_more}
use Rattle.std.proofs.lemmas.List.Sorted.{All-permutation, length_permutation}
use Rattle.coflow_units.specs.declared.trace.Reducer.{Reducer}
use Rattle.flow_table.specs.declared.spots.Spot.{Spot}
use Rattle.flow_table.specs.Units.{units_of_reducer}

abbrev pub place_of : List ℕ → ℕ → Spot
place_of mappers place = record { location = slice_index mappers place; number = place }

abbrev pub rest_of : ℕ → ℕ → Reducer → Spot
rest_of unit mappers r = record { location = r.location; number = units_of_reducer unit r % mappers }

pub places_more : (mappers items : List ℕ) (spots : List Spot) (k : ℕ) → items ≡ mappers → spots ≡ map (place_of mappers) (range_with_len 0 k) →
    spots ++ record { location = get_or items k 0; number = k } ∷ [] ≡ map (place_of mappers) (range_with_len 0 (k + 1))
places_more mappers items spots k same so_far =
    ap (λ (l : List Spot). l ++ record { location = get_or items k 0; number = k } ∷ []) so_far ∙ ap (λ l. map (place_of mappers) (range_with_len 0 k) ++ place_of l k ∷ []) same
    ∙ sym (map-range_with_len_more (place_of mappers) 0 k k (omega arith))

pub made_count : {X : Type 0} (make : X → Spot) (xs : List X) (spots : List Spot) → IsPermutation (map make xs) spots → length spots ≡ length xs
made_count make xs spots moved = length_permutation (map make xs) spots moved ∙ length-map xs make

pub made_within : {X : Type 0} (P : Spot → Type 0) (make : X → Spot) (xs : List X) (spots : List Spot) → IsPermutation (map make xs) spots → All (λ x. P (make x)) xs → All P spots
made_within P make xs spots moved all = All-permutation P (map make xs) spots moved (All-map P make xs all)

pub places_within : (mappers : List ℕ) (ports : ℕ) → All (λ m. m < ports) mappers → All (λ k. (place_of mappers k).location < ports) (range_with_len 0 (length mappers))
places_within mappers ports all = λ k d lt.
    let short : k < length mappers = omega (arith, length-range_with_len 0 (length mappers)) in
    let place : get_or (range_with_len 0 (length mappers)) k d ≡ k = get_or-range_with_len 0 (length mappers) k d short ∙ omega arith in
    subst (λ n. get_or mappers n 0 < ports) (sym place) (all k 0 short)
