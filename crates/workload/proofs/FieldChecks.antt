-- The checks of the fields of a made trace hold.
use Rattle.std.proofs.Common.{◌≡◌, ℕ, suc, zero, ◌+◌, ◌*◌, ◌<◌, ◌≤◌, ◌^◌, List, [], ◌∷◌, ◌++◌, None, true, get_or, length, map, refl, sym, ap, ◌∙◌, zero-add, arith}
use Rattle.std.specs.Prelude.{All, decimal, nat_le, ◌&&◌}
use Rattle.std.specs.List.{flat_map, range_with_len}
use Rattle.std.proofs.lemmas.Bool.Decides.{nat_tests}
use Rattle.std.proofs.lemmas.List.{ext_get_or, get_or-map, get_or_append_left, length-map}
use Rattle.std.proofs.lemmas.List.FromFn.{get_or-map-range_with_len, length-map-range_with_len}
use Rattle.coflow_units.specs.declared.quantity.Quantity.{Quantity}
use Rattle.text_fields.specs.Checks.{Check, first_fault}
use Rattle.text_fields.specs.Decimals.{scaled_up}
use Rattle.text_fields.specs.Fields.{Text, field_at}
use Rattle.text_fields.specs.Numbers.{number}
use Rattle.text_fields.proofs.CheckLists.{pass_first}
use Rattle.trace_reader.specs.Checks.{each, number_checks, values}
use Rattle.trace_reader.specs.Coflow.{is_colon, is_reducer, location_part, mapper_checks, megabytes_part, reducer_checks, reducer_of}
use Rattle.trace_reader.specs.declared.fault.TraceFault.{TraceFault}
use Rattle.workload.specs.declared.coflow.MadeReducer.{MadeReducer}
use Rattle.workload.specs.Made.{said_reducer}
use Rattle.workload.proofs.CoflowFields.{reducer_text}
use Rattle.workload.proofs.DecimalFields.{cut_after, cut_before, is_a_decimal, is_a_number, lacks_colon, scaled_is, value_is}
use Rattle.workload.proofs.MadeRanges.{IsMadeReducer}

-- a number within its range
pub number_passes : (line k least most : ℕ) (which : Quantity) (n : ℕ) → n < 2 ^ 64 → least ≤ n → n ≤ most → first_fault (number_checks line k which least most (decimal n)) ≡ None
number_passes line k least most which n small low high =
    let t : (nat_le least (number (decimal n)) && nat_le (number (decimal n)) most) ≡ true = rw (value_is n small) (grind (arith, nat_tests)) in
    rw (is_a_number n small, t) refl

-- where the checks of each of some fields hold, all do
row_passes : (checks : ℕ → Text → List (Check TraceFault)) (k : ℕ) (texts : List Text) (a count : ℕ) →
    ((j : ℕ) → j < a + count → first_fault (checks (k + j) (field_at texts j)) ≡ None)
    → first_fault (flat_map (λ j. checks (k + j) (field_at texts j)) (range_with_len a count)) ≡ None
row_passes checks k texts a zero h = refl
row_passes checks k texts a (suc n) h =
    pass_first (checks (k + a) (field_at texts a)) (flat_map (λ j. checks (k + j) (field_at texts j)) (range_with_len (a + 1) n)) (h a (omega arith))
    ∙ row_passes checks k texts (a + 1) n (λ j lt. h j (omega arith))

-- what is at the places of the texts that are made of these elements
abbrev pub AreAt : {X : Type 0} → (X → Text) → List X → List Text → Type 0
AreAt {X} text xs texts = (j : ℕ) (d : X) → j < length xs → field_at texts j ≡ text (get_or xs j d)

pub at_front : {X : Type 0} (text : X → Text) (xs : List X) (others : List Text) → AreAt text xs (map text xs ++ others)
at_front text xs others = λ j d lt. get_or_append_left (map text xs) others [] j (omega (arith, length-map xs text)) ∙ get_or-map text xs j d [] lt

pub at_all : {X : Type 0} (text : X → Text) (xs : List X) → AreAt text xs (map text xs)
at_all text xs = λ j d lt. get_or-map text xs j d [] lt

pub each_passes : {X : Type 0} (text : X → Text) (P : X → Type 0) (checks : ℕ → Text → List (Check TraceFault)) (d : X) (k : ℕ) (xs : List X) (texts : List Text) →
    AreAt text xs texts → All P xs
    → ((i : ℕ) (x : X) → P x → first_fault (checks i (text x)) ≡ None) → first_fault (each checks k texts (length xs)) ≡ None
each_passes text P checks d k xs texts at h passes =
    row_passes checks k texts 0 (length xs) (λ j lt. let less : j < length xs = omega arith in rw (at j d less) (passes (k + j) (get_or xs j d) (h j d less)))

pub values_are : {X Y : Type 0} (text : X → Text) (value : Text → Y) (d : X) (e : Y) (xs : List X) (texts : List Text) → AreAt text xs texts →
    values value texts (length xs) ≡ map (λ x. value (text x)) xs
values_are text value d e xs texts at =
    let n = length-map-range_with_len (λ j. value (field_at texts j)) 0 (length xs) in
    ext_get_or e (values value texts (length xs)) (map (λ x. value (text x)) xs) (n ∙ sym (length-map xs (λ x. value (text x)))) (λ i lt.
    let less : i < length xs = omega arith in
    get_or-map-range_with_len (λ j. value (field_at texts j)) 0 (length xs) i i e less (zero-add i) ∙ ap value (at i d less) ∙ sym (get_or-map (λ x. value (text x)) xs i d e less))

-- a mapper
pub mapper_passes : (line k m : ℕ) → m < 150 → first_fault (mapper_checks 150 line k (decimal m)) ≡ None
mapper_passes line k m lt =
    let small : m < 2 ^ 64 = omega arith in
    let t : nat_le (number (decimal m)) 150 ≡ true = rw (value_is m small) (grind (arith, nat_tests)) in
    rw (is_a_number m small, t) refl

pub mappers_are : (mappers : List ℕ) → All (λ m. m < 150) mappers → map (λ m. number (decimal m)) mappers ≡ mappers
mappers_are [] h = refl
mappers_are (m ∷ ms) h = rw (value_is m (omega (arith, h 0 m (omega arith))), mappers_are ms (λ k d lt. h (suc k) d (omega arith))) refl

module _ (r : MadeReducer) (h : IsMadeReducer r) where
  location_is : location_part (reducer_text r) ≡ decimal r.location
  location_is = cut_before is_colon (decimal r.location) 58 (decimal r.megabytes) (lacks_colon r.location (omega (arith, h.location_small))) refl

  megabytes_are : megabytes_part (reducer_text r) ≡ decimal r.megabytes
  megabytes_are = cut_after is_colon (decimal r.location) 58 (decimal r.megabytes) (lacks_colon r.location (omega (arith, h.location_small))) refl

  small_location : r.location < 2 ^ 64
  small_location = omega (arith, h.location_small)

  small_megabytes : r.megabytes < 2 ^ 64
  small_megabytes = omega (arith, h.megabytes_few)

  -- a reducer
  pub reducer_passes : (line k : ℕ) → first_fault (reducer_checks 150 line k (reducer_text r)) ≡ None
  reducer_passes line k =
      let form : is_reducer (reducer_text r) ≡ true = rw (location_is, megabytes_are, is_a_number r.location small_location, is_a_decimal r.megabytes small_megabytes) refl in
      let low = h.location_small in
      let few = h.megabytes_few in
      let place : nat_le (number (location_part (reducer_text r))) 150 ≡ true = rw (location_is, value_is r.location small_location) (grind (arith, nat_tests)) in
      let size : nat_le (scaled_up 1000000 (megabytes_part (reducer_text r))) (2 ^ 40 * 1000000) ≡ true =
      rw (megabytes_are, scaled_is r.megabytes small_megabytes 1000000) (grind (arith, nat_tests)) in
      rw (form, place, size) refl

  pub reducer_is : reducer_of (reducer_text r) ≡ said_reducer r
  reducer_is = rw (location_is, megabytes_are, value_is r.location small_location, scaled_is r.megabytes small_megabytes 1000000) refl

pub reducers_are : (reducers : List MadeReducer) → All IsMadeReducer reducers → map (λ r. reducer_of (reducer_text r)) reducers ≡ map said_reducer reducers
reducers_are [] h = refl
reducers_are (r ∷ rs) h = rw (reducer_is r (h 0 r (omega arith)), reducers_are rs (λ k d lt. h (suc k) d (omega arith))) refl
