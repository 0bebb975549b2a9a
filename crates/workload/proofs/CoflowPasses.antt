-- The line of a made coflow passes, and says the coflow.
use Rattle.std.proofs.Common.{◌≡◌, ℕ, suc, ◌+◌, ◌-◌, ◌<◌, ◌^◌, List, [], ◌∷◌, ◌++◌, None, true, false, drop, length, length-drop, map, refl, sym, ap, ◌∙◌, arith}
use Rattle.std.specs.Prelude.{decimal, nat_eq, ◌==◌, not}
use Rattle.std.specs.List.{list_any}
use Rattle.std.proofs.lemmas.List.{length-map}
use Rattle.std.proofs.Math.Seq.{drop-append_seam}
use Rattle.coflow_units.specs.declared.quantity.Quantity.TheVariants as quantity
use Rattle.text_fields.specs.Checks.{Check, first_fault}
use Rattle.text_fields.specs.Fields.{Text}
use Rattle.text_fields.specs.Lines.{Line}
use Rattle.text_fields.specs.Numbers.{number}
use Rattle.text_fields.proofs.CheckLists.{pass_first}
use Rattle.trace_reader.specs.Checks.{each, number_checks}
use Rattle.trace_reader.specs.Coflow.{back_checks, behind_mappers, coflow_of, front_checks, id_checks, id_of, line_checks, mapper_checks, mapper_count, mappers_of, reducer_checks}
use Rattle.trace_reader.specs.Coflow.{reducer_count, reducer_of, reducers_of}
use Rattle.trace_reader.specs.declared.fault.TraceFault.{TraceFault}
use Rattle.trace_reader.specs.declared.fault.TraceFault.TheVariants as fault
use Rattle.trace_reader.proofs.LineParts.{coflow_is}
use Rattle.workload.specs.declared.coflow.MadeCoflow.{MadeCoflow}
use Rattle.workload.specs.Made.{said_coflow, said_reducer}
use Rattle.workload.proofs.CoflowFields.{back_texts, coflow_texts, reducer_text}
use Rattle.workload.proofs.DecimalFields.{value_is}
use Rattle.workload.proofs.FieldChecks.{at_all, at_front, each_passes, mapper_passes, mappers_are, number_passes, reducer_passes, reducers_are, values_are}
use Rattle.workload.proofs.MadeRanges.{IsMade, IsMadeReducer}

-- the line of a coflow that is read
abbrev pub read_line : ℕ → MadeCoflow → Line
read_line n c = record { number = n; texts = coflow_texts c }

-- the line behind its mappers
abbrev back_line : ℕ → MadeCoflow → Line
back_line n c = record { number = n; texts = back_texts c.reducers }

module _ (n : ℕ) (c : MadeCoflow) (h : IsMade c) where
  mappers_count : mapper_count (read_line n c) ≡ length c.mappers
  mappers_count = value_is (length c.mappers) (omega (arith, h.few_mappers))

  reducers_count : reducer_count (back_line n c) ≡ length c.reducers
  reducers_count = value_is (length c.reducers) (omega (arith, h.few_reducers))

  pub id_is : id_of (read_line n c) ≡ c.id
  id_is = value_is c.id (omega (arith, h.id_small))

  left_is : behind_mappers (read_line n c) ≡ back_line n c
  left_is =
      let e : 3 + mapper_count (read_line n c) ≡ suc (suc (suc (length (map decimal c.mappers)))) = omega (arith, mappers_count, length-map c.mappers decimal) in
      ap (λ (k : ℕ). record { number = n; texts = drop k (coflow_texts c) }) e ∙
      ap (λ (t : List Text). record { number = n; texts = t }) (drop-append_seam (map decimal c.mappers) (back_texts c.reducers))

  -- an id that no earlier line has
  id_passes : (earlier : List ℕ) → list_any (nat_eq c.id) earlier ≡ false → first_fault (id_checks earlier n (decimal c.id)) ≡ None
  id_passes earlier fresh =
      let small : c.id < 2 ^ 64 = omega (arith, h.id_small) in
      let t : list_any (nat_eq (number (decimal c.id))) earlier ≡ false = rw (value_is c.id small) fresh in
      pass_first (number_checks n 1 quantity.Id 0 (2 ^ 32 - 1) (decimal c.id))
      ((not (list_any (nat_eq (number (decimal c.id))) earlier), fault.DuplicateId n (number (decimal c.id))) ∷ [])
      (number_passes n 1 0 (2 ^ 32 - 1) quantity.Id c.id small (omega arith) (omega (arith, h.id_small)))
      ∙ rw t refl

  front_passes : (earlier : List ℕ) → list_any (nat_eq c.id) earlier ≡ false → first_fault (front_checks 150 earlier (read_line n c)) ≡ None
  front_passes earlier fresh =
      let named : List (Check TraceFault) = id_checks earlier n (decimal c.id) in
      let arrived : List (Check TraceFault) = number_checks n 2 quantity.Arrival 0 (2 ^ 32 - 1) (decimal c.arrival) in
      let mapped : List (Check TraceFault) = number_checks n 3 quantity.Mappers 1 4096 (decimal (length c.mappers)) in
      let texts : List Text = map decimal c.mappers ++ back_texts c.reducers in
      let mappers : List (Check TraceFault) = each (mapper_checks 150 n) 4 texts (mapper_count (read_line n c)) in
      let all : first_fault mappers ≡ None =
      rw mappers_count (each_passes decimal (λ m. m < 150) (mapper_checks 150 n) 0 4 c.mappers texts (at_front decimal c.mappers (back_texts c.reducers)) h.mappers_small
      (λ i m lt. mapper_passes n i m lt)) in
      pass_first named (arrived ++ (mapped ++ mappers)) (id_passes earlier fresh)
      ∙ (pass_first arrived (mapped ++ mappers)
      (number_passes n 2 0 (2 ^ 32 - 1) quantity.Arrival c.arrival (omega (arith, h.arrival_small)) (omega arith) (omega (arith, h.arrival_small)))
      ∙ (pass_first mapped mappers (number_passes n 3 1 4096 quantity.Mappers (length c.mappers) (omega (arith, h.few_mappers)) h.has_mapper (omega (arith, h.few_mappers))) ∙ all))

  back_passes : (k : ℕ) → first_fault (back_checks 150 k (back_line n c)) ≡ None
  back_passes k =
      let texts : List Text = map reducer_text c.reducers in
      let counted : List (Check TraceFault) = number_checks n k quantity.Reducers 0 4096 (decimal (length c.reducers)) in
      let rows : List (Check TraceFault) = each (reducer_checks 150 n) (k + 1) texts (reducer_count (back_line n c)) in
      let ended : List (Check TraceFault) =
      (length (drop (1 + reducer_count (back_line n c)) (back_texts c.reducers)) == 0, fault.BadLine n (k + 1 + reducer_count (back_line n c))) ∷ [] in
      let all : first_fault rows ≡ None =
      rw reducers_count (each_passes reducer_text IsMadeReducer (reducer_checks 150 n) (record { location = 0; megabytes = 0 }) (k + 1) c.reducers texts
      (at_all reducer_text c.reducers) h.reducers_small (λ i r made. reducer_passes r made n i)) in
      let count = reducers_count in
      let many = length-map c.reducers reducer_text in
      let left : length (drop (1 + reducer_count (back_line n c)) (back_texts c.reducers)) ≡ 0 = rw length-drop (omega arith) in
      let end : (length (drop (1 + reducer_count (back_line n c)) (back_texts c.reducers)) == 0) ≡ true = rw left refl in
      pass_first counted (rows ++ ended)
      (number_passes n k 0 4096 quantity.Reducers (length c.reducers) (omega (arith, h.few_reducers)) (omega arith) (omega (arith, h.few_reducers)))
      ∙ (pass_first rows ended all ∙ rw end refl)

  -- the line passes where no earlier line has the id
  pub line_passes : (earlier : List ℕ) → list_any (nat_eq c.id) earlier ≡ false → first_fault (line_checks 150 earlier (read_line n c)) ≡ None
  line_passes earlier fresh =
      let line = read_line n c in
      pass_first (front_checks 150 earlier line) (back_checks 150 (4 + mapper_count line) (behind_mappers line)) (front_passes earlier fresh)
      ∙ (ap (λ (l : Line). first_fault (back_checks 150 (4 + mapper_count line) l)) left_is ∙ back_passes (4 + mapper_count line))

  said_mappers : mappers_of (read_line n c) ≡ c.mappers
  said_mappers = rw mappers_count (values_are decimal number 0 0 c.mappers (map decimal c.mappers ++ back_texts c.reducers) (at_front decimal c.mappers (back_texts c.reducers)) ∙
      mappers_are c.mappers h.mappers_small)

  said_reducers : reducers_of (back_line n c) ≡ map said_reducer c.reducers
  said_reducers =
      rw reducers_count (values_are reducer_text reducer_of (record { location = 0; megabytes = 0 }) (record { location = 0; millionths = 0 }) c.reducers
      (map reducer_text c.reducers) (at_all reducer_text c.reducers)
      ∙ reducers_are c.reducers h.reducers_small)

  -- the line says the coflow
  pub says : coflow_of (read_line n c) ≡ said_coflow c
  says = sym (coflow_is (read_line n c) (back_line n c) c.id c.arrival c.mappers (map said_reducer c.reducers) (sym left_is) (sym id_is)
      (sym (value_is c.arrival (omega (arith, h.arrival_small)))) (sym said_mappers) (sym said_reducers))
