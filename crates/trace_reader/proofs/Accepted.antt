-- A text whose checks all hold says a trace within the limits.
use Rattle.std.proofs.Common.{◌≡◌, ◌≢◌, ℕ, ◌+◌, ◌-◌, ◌*◌, ◌^◌, ◌≤◌, ◌<◌, List, [], ◌∷◌, ◌++◌, ◌==◌, None, Bool, true, false, not, refl, ap, drop, length, map, get_or, append_assoc}
use Rattle.std.proofs.Common.{append-nil, length-append, arith}
use Rattle.std.specs.Prelude.{All, nat_eq, nat_lt}
use Rattle.std.specs.List.{list_any}
use Rattle.std.proofs.lemmas.Bool.Decides.{nat_tests}
use Rattle.std.proofs.lemmas.List.{length-map}
use Rattle.std.proofs.lemmas.List.Elements.{All-cons}
use Rattle.std.proofs.lemmas.List.Folds.{list_any_at}
use Rattle.std.proofs.lemmas.List.Quantifiers.{all_pairs_push}
use Rattle.coflow_units.specs.declared.quantity.Quantity.{Quantity}
use Rattle.coflow_units.specs.declared.quantity.Quantity.TheVariants as quantity
use Rattle.coflow_units.specs.declared.trace.Reducer.{Reducer}
use Rattle.coflow_units.specs.Flows.{IsDistinct}
use Rattle.coflow_units.specs.Trace.{IsCoflowLine, IsTrace, ids_of}
use Rattle.text_fields.specs.Checks.{Check, first_fault}
use Rattle.text_fields.specs.Fields.{Text, field_at}
use Rattle.text_fields.specs.Lines.{Line}
use Rattle.text_fields.specs.Numbers.{number}
use Rattle.text_fields.proofs.CheckLists.{all_hold, passed_parts}
use Rattle.trace_reader.specs.Checks.{each, number_checks}
use Rattle.trace_reader.specs.Coflow.{back_checks, behind_mappers, coflow_of, front_checks, id_checks, id_of, line_checks, mapper_checks, mapper_count, reducer_checks, reducer_of}
use Rattle.trace_reader.specs.Coflow.{reducer_count}
use Rattle.trace_reader.specs.Header.{coflow_count, header_checks, ports_of}
use Rattle.trace_reader.specs.Trace.{coflow_checks, lines_checks, lines_trace, missing}
use Rattle.trace_reader.specs.declared.fault.TraceFault.{TraceFault}
use Rattle.trace_reader.specs.declared.fault.TraceFault.TheVariants as fault
use Rattle.trace_reader.proofs.Rows.{all_values, length_values, row_passed}

-- A number that passes is in its range.
in_range : (line k least most : ℕ) (which : Quantity) (field : Text) → first_fault (number_checks line k which least most field) ≡ None →
    (least ≤ number field) × (number field ≤ most)
in_range line k least most which field e = let t = (all_hold (number_checks line k which least most field) e).1.0 in (grind (arith, nat_tests), grind (arith, nat_tests))

-- A mapper that passes is at a port.
mapper_in : (ports line k : ℕ) (field : Text) → first_fault (mapper_checks ports line k field) ≡ None → number field ≤ ports
mapper_in ports line k field e = let t = (all_hold (mapper_checks ports line k field) e).1.0 in grind (arith, nat_tests)

-- A reducer that passes is at a port, and within the limit.
reducer_in : (ports line k : ℕ) (field : Text) → first_fault (reducer_checks ports line k field) ≡ None →
    ((reducer_of field).location ≤ ports) × ((reducer_of field).millionths ≤ 2 ^ 40 * 1000000)
reducer_in ports line k field e =
    let h = all_hold (reducer_checks ports line k field) e in
    let s = h.1.0 in
    let t = h.1.1.0 in
    (grind (arith, nat_tests), grind (arith, nat_tests))

-- A line that passes says a coflow within the limits.
line_in : (ports : ℕ) (earlier : List ℕ) (line : Line) → first_fault (line_checks ports earlier line) ≡ None → IsCoflowLine ports (coflow_of line)
line_in ports earlier line e =
    let m = mapper_count line in
    let texts = drop 3 line.texts in
    let left = behind_mappers line in
    let r = reducer_count left in
    let named : List (Check TraceFault) = id_checks earlier line.number (field_at line.texts 0) in
    let arrived : List (Check TraceFault) = number_checks line.number 2 quantity.Arrival 0 (2 ^ 32 - 1) (field_at line.texts 1) in
    let mapped : List (Check TraceFault) = number_checks line.number 3 quantity.Mappers 1 4096 (field_at line.texts 2) in
    let mappers : List (Check TraceFault) = each (mapper_checks ports line.number) 4 texts m in
    let counted : List (Check TraceFault) = number_checks line.number (4 + m) quantity.Reducers 0 4096 (field_at left.texts 0) in
    let reducers : List (Check TraceFault) = each (reducer_checks ports line.number) (4 + m + 1) (drop 1 left.texts) r in
    let ended : List (Check TraceFault) = (length (drop (1 + r) left.texts) == 0, fault.BadLine line.number (4 + m + 1 + r)) ∷ [] in
    let whole = passed_parts (front_checks ports earlier line) (back_checks ports (4 + m) left) e in
    let front = passed_parts arrived (mapped ++ mappers) (passed_parts named (arrived ++ (mapped ++ mappers)) whole.0).1 in
    let behind = passed_parts mapped mappers front.1 in
    let back = passed_parts counted (reducers ++ ended) whole.1 in
    let sent = (passed_parts reducers ended back.1).0 in
    let m_in = in_range line.number 3 1 4096 quantity.Mappers (field_at line.texts 2) behind.0 in
    let r_in = in_range line.number (4 + m) 0 4096 quantity.Reducers (field_at left.texts 0) back.0 in
    let m_is = length_values number texts m in
    let r_is = length_values reducer_of (drop 1 left.texts) r in
    let sends = λ (j : ℕ) (less : j < r). reducer_in ports line.number (4 + m + 1 + j) (field_at (drop 1 left.texts) j)
    (row_passed (reducer_checks ports line.number) (4 + m + 1) (drop 1 left.texts) r j sent less) in
    record {
      has_mapper = rw m_is m_in.0;
      few_mappers = rw m_is m_in.1;
      mappers = all_values (λ (x : ℕ). x ≤ ports) number texts m
          (λ j less. mapper_in ports line.number (4 + j) (field_at texts j) (row_passed (mapper_checks ports line.number) 4 texts m j behind.1 less));
      few_reducers = rw r_is r_in.1;
      reducers = all_values (λ (x : Reducer). x.location ≤ ports) reducer_of (drop 1 left.texts) r (λ j less. (sends j less).0);
      sizes = all_values (λ (x : Reducer). x.millionths ≤ 2 ^ 40 * 1000000) reducer_of (drop 1 left.texts) r (λ j less. (sends j less).1);
    }

-- An id that passes is no earlier one.
fresh : (ports : ℕ) (earlier : List ℕ) (line : Line) → first_fault (line_checks ports earlier line) ≡ None → list_any (nat_eq (id_of line)) earlier ≡ false
fresh ports earlier line e =
    let front = (passed_parts (front_checks ports earlier line) (back_checks ports (4 + mapper_count line) (behind_mappers line)) e).0 in
    let rest : List (Check TraceFault) = number_checks line.number 2 quantity.Arrival 0 (2 ^ 32 - 1) (field_at line.texts 1) ++
    (number_checks line.number 3 quantity.Mappers 1 4096 (field_at line.texts 2) ++ each (mapper_checks ports line.number) 4 (drop 3 line.texts) (mapper_count line)) in
    let named = all_hold (id_checks earlier line.number (field_at line.texts 0)) (passed_parts (id_checks earlier line.number (field_at line.texts 0)) rest front).0 in
    go (list_any (nat_eq (id_of line)) earlier) refl named.1.1.0
  where
    go : (b : Bool) → list_any (nat_eq (id_of line)) earlier ≡ b → not (list_any (nat_eq (id_of line)) earlier) ≡ true → list_any (nat_eq (id_of line)) earlier ≡ false
    go false t h = t
    go true t h = let bad : false ≡ true = rw t at h in cc

-- Ids that differ, and one that is none of them, differ.
distinct_more : (ids : List ℕ) (id : ℕ) → IsDistinct ids → list_any (nat_eq id) ids ≡ false → IsDistinct (ids ++ (id ∷ []))
distinct_more ids id d e =
    all_pairs_push (λ (x : ℕ) (y : ℕ). x ≢ y) ids id d (λ k z less same.
    let eq : nat_eq id (get_or ids k z) ≡ true = grind (arith, nat_tests) in
    let found : list_any (nat_eq id) ids ≡ true = list_any_at (nat_eq id) ids k z less eq in
    cc)

-- Lines that pass are as many as the header says at most, their ids differ from each other and from the earlier ones, and each says a coflow within the limits.
pub lines_in : (ports count : ℕ) (earlier : List ℕ) (lines : List Line) → first_fault (coflow_checks ports count earlier lines) ≡ None → length earlier ≤ count → IsDistinct earlier
    → (length earlier + length lines ≤ count) × (IsDistinct (earlier ++ map id_of lines) × All (IsCoflowLine ports) (map coflow_of lines))
lines_in ports count earlier [] e few differ = (omega arith, (rw append-nil differ, λ k d less. absurd (omega arith)))
lines_in ports count earlier (line ∷ lines) e few differ =
    let others : List (Check TraceFault) = coflow_checks ports count (earlier ++ (id_of line ∷ [])) lines in
    let first : List (Check TraceFault) = (nat_lt (length earlier) count, fault.Extra line.number) ∷ [] in
    let parts = passed_parts first (line_checks ports earlier line ++ others) e in
    let room = (all_hold first parts.0).0 in
    let here = passed_parts (line_checks ports earlier line) others parts.1 in
    let more = length-append earlier (id_of line ∷ []) in
    let next = lines_in ports count (earlier ++ (id_of line ∷ [])) lines here.1 (rw more (grind (arith, nat_tests)))
    (distinct_more earlier (id_of line) differ (fresh ports earlier line here.0)) in
    (omega (arith, next.0, more), (rw append_assoc at next.1.0, All-cons (IsCoflowLine ports) (coflow_of line) (map coflow_of lines) (line_in ports earlier line here.0) next.1.1))

-- The ids of the coflows are those of the lines.
ids_are : (lines : List Line) → ids_of (map coflow_of lines) ≡ map id_of lines
ids_are [] = refl
ids_are (line ∷ lines) = ap (λ l. id_of line ∷ l) (ids_are lines)

-- No two of no ids are the same.
pub none_differ : IsDistinct []
none_differ = λ i j d before less. absurd (omega arith)

-- The counts of a header that passes are within the limits.
pub counts_in : (header : Line) → first_fault (header_checks header) ≡ None → (1 ≤ ports_of header) × ((ports_of header ≤ 1024) × (coflow_count header ≤ 4096))
counts_in header e =
    let h = all_hold (header_checks header) e in
    let ports = h.1.0 in
    let coflows = h.1.1.0 in
    (grind (arith, nat_tests), (grind (arith, nat_tests), grind (arith, nat_tests)))

-- A text whose checks all hold says a trace within the limits.
pub accepted : (lines : List Line) → first_fault (lines_checks lines) ≡ None → IsTrace (lines_trace lines)
accepted [] e = cc
accepted (header ∷ lines) e =
    let rest : List (Check TraceFault) = missing (length lines) (coflow_count header) ∷ [] in
    let coflows : List (Check TraceFault) = coflow_checks (ports_of header) (coflow_count header) [] lines in
    let parts = passed_parts (header_checks header) (coflows ++ rest) e in
    let counts = counts_in header parts.0 in
    let all = lines_in (ports_of header) (coflow_count header) [] lines (passed_parts coflows rest parts.1).0 (omega arith) none_differ in
    record {
      has_ports = counts.0;
      few_ports = counts.1.0;
      few_coflows = rw (length-map lines coflow_of) (omega (arith, all.0, counts.1.1));
      ids = rw (ids_are lines) all.1.0;
      lines = all.1.1;
    }
