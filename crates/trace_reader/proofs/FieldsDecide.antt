-- The numbers of lines decide nothing but what a fault names.
use Rattle.std.proofs.Common.{◌≡◌, ℕ, ◌+◌, List, [], ◌∷◌, ◌++◌, Some, None, Bool, true, false, refl, sym, ap, ◌∙◌, length, map, drop}
use Rattle.std.specs.Prelude.{◌==◌, nat_lt}
use Rattle.std.specs.List.{flat_map, range_with_len}
use Rattle.std.proofs.lemmas.List.{length-map, map-append}
use Rattle.text_fields.specs.Checks.{Check, first_fault}
use Rattle.text_fields.specs.Fields.{Text, field_at}
use Rattle.text_fields.specs.Lines.{Line}
use Rattle.text_fields.specs.Numbers.{number}
use Rattle.trace_reader.specs.Checks.{each}
use Rattle.trace_reader.specs.Coflow.{back_checks, behind_mappers, coflow_of, front_checks, id_of, line_checks, mapper_checks, mapper_count, reducer_checks, reducer_count}
use Rattle.trace_reader.specs.Header.{coflow_count, header_checks, ports_of}
use Rattle.trace_reader.specs.Trace.{coflow_checks, fields_of_lines, lines_checks, lines_trace, missing}
use Rattle.trace_reader.specs.declared.fault.TraceFault.{TraceFault}
use Rattle.trace_reader.specs.declared.fault.TraceFault.TheVariants as fault

-- What the checks test.
abbrev tests : List (Check TraceFault) → List Bool
tests checks = map (λ (c : Check TraceFault). c.0) checks

-- The tests alone decide whether a check fails.
tests_decide : (xs ys : List (Check TraceFault)) → tests xs ≡ tests ys → first_fault xs ≡ None → first_fault ys ≡ None
tests_decide xs [] e p = refl
tests_decide [] (y ∷ ys) e p = cc
tests_decide (x ∷ xs) (y ∷ ys) e p = go x.0 refl (λ t r. tests_decide xs ys t r)
  where
    go : (b : Bool) → x.0 ≡ b → (tests xs ≡ tests ys → first_fault xs ≡ None → first_fault ys ≡ None) → first_fault (y ∷ ys) ≡ None
    go true t rest = let s : y.0 ≡ true = cc in rw s (rest (cc) (rw t at p))
    go false t rest = let bad : Some x.1 ≡ None = rw t at p in cc

map-flat_map : {X : Type 0} (f : X → List (Check TraceFault)) (xs : List X) → tests (flat_map f xs) ≡ flat_map (λ x. tests (f x)) xs
map-flat_map f [] = refl
map-flat_map f (x ∷ xs) = map-append (λ (c : Check TraceFault). c.0) (f x) (flat_map f xs) ∙ ap (λ l. tests (f x) ++ l) (map-flat_map f xs)

abbrev line_of : ℕ → List Text → Line
line_of n texts = record { number = n; texts = texts }

module _ (ports : ℕ) (n m : ℕ) (texts : List Text) where
  mappers_same : (k : ℕ) (fields : List Text) (count : ℕ) → tests (each (mapper_checks ports n) k fields count) ≡ tests (each (mapper_checks ports m) k fields count)
  mappers_same k fields count =
      map-flat_map (λ j. mapper_checks ports n (k + j) (field_at fields j)) (range_with_len 0 count)
      ∙ sym (map-flat_map (λ j. mapper_checks ports m (k + j) (field_at fields j)) (range_with_len 0 count))

  reducers_same : (k : ℕ) (fields : List Text) (count : ℕ) → tests (each (reducer_checks ports n) k fields count) ≡ tests (each (reducer_checks ports m) k fields count)
  reducers_same k fields count =
      map-flat_map (λ j. reducer_checks ports n (k + j) (field_at fields j)) (range_with_len 0 count)
      ∙ sym (map-flat_map (λ j. reducer_checks ports m (k + j) (field_at fields j)) (range_with_len 0 count))

  front_same : (earlier : List ℕ) → tests (front_checks ports earlier (line_of n texts)) ≡ tests (front_checks ports earlier (line_of m texts))
  front_same earlier = rw (mappers_same 4 (drop 3 texts) (mapper_count (line_of n texts))) refl

  back_same : (k : ℕ) → tests (back_checks ports k (line_of n texts)) ≡ tests (back_checks ports k (line_of m texts))
  back_same k =
      let fields = drop 1 texts in
      let count = reducer_count (line_of n texts) in
      let end : (l : ℕ) → List (Check TraceFault) = λ l. (length (drop (1 + count) texts) == 0, fault.BadLine l (k + 1 + count)) ∷ [] in
      rw (
        map-append (λ (c : Check TraceFault). c.0) (each (reducer_checks ports n) (k + 1) fields count) (end n),
        map-append (λ (c : Check TraceFault). c.0) (each (reducer_checks ports m) (k + 1) fields count) (end m),
        reducers_same (k + 1) fields count,
      ) refl

-- What two lists of checks test, one after the other.
both_same : (xs ys us vs : List (Check TraceFault)) → tests xs ≡ tests us → tests ys ≡ tests vs → tests (xs ++ ys) ≡ tests (us ++ vs)
both_same xs ys us vs p q =
    let f = λ (c : Check TraceFault). c.0 in
    map-append f xs ys ∙ (ap (λ l. l ++ tests ys) p ∙ (ap (λ l. tests us ++ l) q ∙ sym (map-append f us vs)))

-- A line of the same fields has the same tests.
line_same : (ports : ℕ) (earlier : List ℕ) (a b : Line) → a.texts ≡ b.texts → tests (line_checks ports earlier a) ≡ tests (line_checks ports earlier b)
line_same ports earlier a b e =
    let count = mapper_count a in
    both_same (front_checks ports earlier a) (back_checks ports (4 + count) (behind_mappers a)) (front_checks ports earlier (line_of b.number a.texts))
    (back_checks ports (4 + count) (line_of b.number (drop (3 + count) a.texts)))
    (front_same ports a.number b.number a.texts earlier) (back_same ports a.number b.number (drop (3 + count) a.texts) (4 + count))
    ∙ ap (λ (t : List Text). tests (line_checks ports earlier (line_of b.number t))) e

-- Lines of the same fields have the same tests.
coflows_same : (ports count : ℕ) (earlier : List ℕ) (xs ys : List Line) → fields_of_lines xs ≡ fields_of_lines ys →
    tests (coflow_checks ports count earlier xs) ≡ tests (coflow_checks ports count earlier ys)
coflows_same ports count earlier [] [] e = refl
coflows_same ports count earlier [] (y ∷ ys) e = cc
coflows_same ports count earlier (x ∷ xs) [] e = cc
coflows_same ports count earlier (x ∷ xs) (y ∷ ys) e =
    let here : x.texts ≡ y.texts = cc in
    let rest : fields_of_lines xs ≡ fields_of_lines ys = cc in
    let id : id_of x ≡ id_of y = ap (λ (t : List Text). number (field_at t 0)) here in
    let later : tests (coflow_checks ports count (earlier ++ (id_of x ∷ [])) xs) ≡ tests (coflow_checks ports count (earlier ++ (id_of y ∷ [])) ys) =
    coflows_same ports count (earlier ++ (id_of x ∷ [])) xs ys rest ∙ ap (λ (i : ℕ). tests (coflow_checks ports count (earlier ++ (i ∷ [])) ys)) id in
    ap (λ l. nat_lt (length earlier) count ∷ l)
    (both_same (line_checks ports earlier x) (coflow_checks ports count (earlier ++ (id_of x ∷ [])) xs) (line_checks ports earlier y)
    (coflow_checks ports count (earlier ++ (id_of y ∷ [])) ys) (line_same ports earlier x y here) later)

-- Texts of the same fields have the same tests.
lines_same : (xs ys : List Line) → fields_of_lines xs ≡ fields_of_lines ys → tests (lines_checks xs) ≡ tests (lines_checks ys)
lines_same [] [] e = refl
lines_same [] (y ∷ ys) e = cc
lines_same (x ∷ xs) [] e = cc
lines_same (x ∷ xs) (y ∷ ys) e =
    let here : x.texts ≡ y.texts = cc in
    let rest : fields_of_lines xs ≡ fields_of_lines ys = cc in
    let n : length xs ≡ length ys = sym (length-map xs (λ (l : Line). l.texts)) ∙ (ap length rest ∙ length-map ys (λ (l : Line). l.texts)) in
    let header : tests (header_checks x) ≡ tests (header_checks y) = ap (λ (t : List Text). tests (header_checks (line_of 0 t))) here in
    let ports : ports_of x ≡ ports_of y = ap (λ (t : List Text). number (field_at t 0)) here in
    let count : coflow_count x ≡ coflow_count y = ap (λ (t : List Text). number (field_at t 1)) here in
    let coflows : tests (coflow_checks (ports_of x) (coflow_count x) [] xs) ≡ tests (coflow_checks (ports_of y) (coflow_count y) [] ys) =
    rw (ports, count) (coflows_same (ports_of y) (coflow_count y) [] xs ys rest) in
    let end : tests (missing (length xs) (coflow_count x) ∷ []) ≡ tests (missing (length ys) (coflow_count y) ∷ []) = rw (n, count) refl in
    both_same (header_checks x) (coflow_checks (ports_of x) (coflow_count x) [] xs ++ (missing (length xs) (coflow_count x) ∷ [])) (header_checks y)
    (coflow_checks (ports_of y) (coflow_count y) [] ys ++ (missing (length ys) (coflow_count y) ∷ [])) header
    (both_same (coflow_checks (ports_of x) (coflow_count x) [] xs) (missing (length xs) (coflow_count x) ∷ []) (coflow_checks (ports_of y) (coflow_count y) [] ys)
    (missing (length ys) (coflow_count y) ∷ []) coflows end)

-- Of texts of the same fields one is read where the other is.
pub accepted_alike : (xs ys : List Line) → fields_of_lines xs ≡ fields_of_lines ys → first_fault (lines_checks xs) ≡ None → first_fault (lines_checks ys) ≡ None
accepted_alike xs ys e p = tests_decide (lines_checks xs) (lines_checks ys) (lines_same xs ys e) p

said_alike : (xs ys : List Line) → fields_of_lines xs ≡ fields_of_lines ys → map coflow_of xs ≡ map coflow_of ys
said_alike [] [] e = refl
said_alike [] (y ∷ ys) e = cc
said_alike (x ∷ xs) [] e = cc
said_alike (x ∷ xs) (y ∷ ys) e =
    let here : x.texts ≡ y.texts = cc in
    let rest = said_alike xs ys (cc) in
    rw rest (ap (λ (t : List Text). coflow_of (line_of 0 t) ∷ map coflow_of ys) here)

-- Texts of the same fields say the same.
pub trace_alike : (xs ys : List Line) → fields_of_lines xs ≡ fields_of_lines ys → lines_trace xs ≡ lines_trace ys
trace_alike [] [] e = refl
trace_alike [] (y ∷ ys) e = cc
trace_alike (x ∷ xs) [] e = cc
trace_alike (x ∷ xs) (y ∷ ys) e =
    let here : x.texts ≡ y.texts = cc in
    let ports : ports_of x ≡ ports_of y = ap (λ (t : List Text). number (field_at t 0)) here in
    rw (ports, said_alike xs ys (cc)) refl
