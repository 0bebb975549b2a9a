-- Fields in a row.
use Rattle.std.proofs.Common.{◌≡◌, ℕ, ◌+◌, ◌-◌, ◌<◌, List, [], ◌∷◌, ◌++◌, Some, None, drop, refl, sym, ap, ◌∙◌, arith, Err, suc, zero, subst, append-nil, add-zero, length}
use Rattle.std.specs.Prelude.{All}
use Rattle.std.specs.List.{flat_map, range_with_len}
use Rattle.std.proofs.lemmas.Grind.{flat_map-append}
use Rattle.std.proofs.lemmas.List.FromFn.{get_or-map-range_with_len, length-map-range_with_len, map-range_with_len_more}
use Rattle.std.proofs.Math.Seq.{get_or-drop}
use Rattle.text_fields.specs.Checks.{Check, first_fault}
use Rattle.text_fields.specs.Fields.{Text, field_at}
use Rattle.text_fields.specs.Lines.{Line, without_first}
use Rattle.text_fields.proofs.CheckLists.{pass_first, fail_first, passed_parts}
use Rattle.trace_reader.specs.Checks.{Answers, each, is_no_memory, values}
use Rattle.trace_reader.specs.Coflow.{without}
use Rattle.trace_reader.specs.declared.fault.TraceFault.{TraceFault}
use Rattle.text_fields.proofs.PartAnswers.{retold}
use Rattle.coflow_units.proofs.Ranges.{range_append}

-- The fields before field j passed and say the items, and those from there on are left.
pub record SoFar {X : Type 0} (checks : ℕ → ℕ → Text → List (Check TraceFault)) (value : Text → X) (k : ℕ) (start now : Line) (items : List X) (j : ℕ) : Type 0 where
  pub left : now ≡ without j start
  pub passed : first_fault (each (checks start.number) k start.texts j) ≡ None
  pub items_are : items ≡ values value start.texts j

module _ (checks : ℕ → Text → List (Check TraceFault)) (k : ℕ) (texts : List Text) where
  abbrev at : ℕ → List (Check TraceFault)
  at j = checks (k + j) (field_at texts j)

  -- The checks before field j, those of field j, and those of m more.
  each_split : (j m : ℕ) → each checks k texts (j + suc m) ≡ each checks k texts j ++ (at j ++ flat_map at (range_with_len (j + 1) m))
  each_split j m =
      ap (flat_map at) (range_append 0 j (suc m)) ∙ flat_map-append at (range_with_len 0 j) (range_with_len (0 + j) (suc m))
      ∙ (let z : 0 + j ≡ j = omega arith in rw z refl)

  -- One field more passes.
  more_passed : (j : ℕ) → first_fault (each checks k texts j) ≡ None → first_fault (at j) ≡ None → first_fault (each checks k texts (j + 1)) ≡ None
  more_passed j before here =
      let s : each checks k texts (j + 1) ≡ each checks k texts j ++ (at j ++ []) = each_split j 0 in
      rw (s, pass_first (each checks k texts j) (at j ++ []) before, append-nil) here

  -- Field j is the first that fails.
  one_failed : (j count : ℕ) (f : TraceFault) → j < count → first_fault (each checks k texts j) ≡ None → first_fault (at j) ≡ Some f →
      first_fault (each checks k texts count) ≡ Some f
  one_failed j count f less before here =
      let m = count - j - 1 in
      let e : count ≡ j + suc m = omega (arith, less) in
      let rest = flat_map at (range_with_len (j + 1) m) in
      rw (e, each_split j m, pass_first (each checks k texts j) (at j ++ rest) before) (fail_first (at j) rest f here)

  -- Where all fields pass, field j does.
  pub row_passed : (count j : ℕ) → first_fault (each checks k texts count) ≡ None → j < count → first_fault (at j) ≡ None
  row_passed count j passed less =
      let m = count - j - 1 in
      let e : count ≡ j + suc m = omega (arith, less) in
      let rest = flat_map at (range_with_len (j + 1) m) in
      let all : first_fault (each checks k texts j ++ (at j ++ rest)) ≡ None = rw (e, each_split j m) at passed in
      (passed_parts (at j) rest (passed_parts (each checks k texts j) (at j ++ rest) all).1).0

-- So many fields say so many values.
pub length_values : {X : Type 0} (value : Text → X) (texts : List Text) (count : ℕ) → length (values value texts count) ≡ count
length_values value texts count = length-map-range_with_len (λ j. value (field_at texts j)) 0 count

-- What holds of the value of each field holds of all values.
pub all_values : {X : Type 0} (P : X → Type 0) (value : Text → X) (texts : List Text) (count : ℕ) → ((j : ℕ) → j < count → P (value (field_at texts j))) →
    All P (values value texts count)
all_values P value texts count h = λ k d lt.
    let less : k < count = omega (arith, length_values value texts count) in
    subst P (sym (get_or-map-range_with_len (λ j. value (field_at texts j)) 0 count k k d less (omega arith))) (h k less)

-- The first of the fields that are left.
field_left : (start now : Line) (j : ℕ) → now ≡ without j start → field_at now.texts 0 ≡ field_at start.texts j
field_left start now j e = rw (e, get_or-drop, add-zero) refl

drop_one : (j : ℕ) (texts : List Text) → drop 1 (drop j texts) ≡ drop (suc j) texts
drop_one zero texts = refl
drop_one (suc j) [] = refl
drop_one (suc j) (x ∷ texts) = drop_one j texts

left_more : (start now next : Line) (j : ℕ) → now ≡ without j start → next ≡ without_first now → next ≡ without (j + 1) start
left_more start now next j e n =
    n ∙ (ap without_first e ∙ (let s : suc j ≡ j + 1 = omega arith in rw (drop_one j start.texts, s) refl))

-- The loop over the fields goes on by one that passed.
pub goes_on : {X : Type 0} (checks : ℕ → ℕ → Text → List (Check TraceFault)) (value : Text → X) (k : ℕ) (start now next : Line) (front back : List X) (j line : ℕ) (field : Text)
    (x : X)
    → line ≡ start.number → field ≡ field_at now.texts 0 → next ≡ without_first now → (first_fault (checks line (k + j) field) ≡ None) × (x ≡ value field) →
    back ≡ front ++ (x ∷ [])
    → SoFar checks value k start now front j → SoFar checks value k start next back (j + 1)
goes_on checks value k start now next front back j line field x l f n h b s =
    let here : field ≡ field_at start.texts j = f ∙ field_left start now j s.left in
    let told : (first_fault (checks start.number (k + j) (field_at start.texts j)) ≡ None) × (x ≡ value (field_at start.texts j)) = rw (← l, ← here) h in
    record {
      left = left_more start now next j s.left n;
      passed = more_passed (checks start.number) k start.texts j s.passed told.0;
      items_are = b ∙ rw (s.items_are, told.1) (sym (map-range_with_len_more (λ i. value (field_at start.texts i)) 0 j j (omega arith)));
    }

-- The fault of a field is that of all.
pub fault_here : {X W : Type 0} (checks : ℕ → ℕ → Text → List (Check TraceFault)) (value : Text → X) (k : ℕ) (start now : Line) (items : List X) (j count line : ℕ) (field : Text)
    (P : X → Type 0) (Q : W → Type 0) (f : TraceFault)
    → line ≡ start.number → field ≡ field_at now.texts 0 → j < count → SoFar checks value k start now items j
    → Answers (checks line (k + j) field) P (Err f) → Answers (each (checks start.number) k start.texts count) Q (Err f)
fault_here checks value k start now items j count line field P Q f l e less s a =
    let here : field ≡ field_at start.texts j = e ∙ field_left start now j s.left in
    retold is_no_memory P Q (checks line (k + j) field) (each (checks start.number) k start.texts count) f
    (λ t. one_failed (checks start.number) k start.texts j count f less s.passed (rw (← l, ← here) t)) a
