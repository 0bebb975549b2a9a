-- What lines say one after another.
use Rattle.std.proofs.Common.{◌≡◌, ℕ, List, [], ◌∷◌, ◌++◌, Option, Some, None, Bool, true, false, refl, sym, ap, ◌∙◌, map, append_assoc}
use Rattle.std.specs.Prelude.{nat_eq, unwrap_or}
use Rattle.std.specs.List.{list_any}
use Rattle.std.specs.Map.{keys_of, lookup}
use Rattle.indexmap.specs.IndexMap.{insert_entry}
use Rattle.text_fields.specs.Checks.{first_fault}
use Rattle.text_fields.specs.Fields.{field_at}
use Rattle.text_fields.specs.Lines.{Line}
use Rattle.text_fields.proofs.CheckLists.{pass_first, passed_parts}
use Rattle.weights.specs.Checks.{id_of, weight_in, id_checks, fresh_checks, weight_checks, end_checks, line_checks, lines_checks}
use Rattle.weights.specs.Weights.{weight_of, IsSameIds}
use Rattle.coflow_units.specs.declared.trace.CoflowLine.{CoflowLine}
use Rattle.weights.specs.declared.fault.WeightsFault.{WeightsFault}
use Rattle.weights.specs.declared.fault.WeightsFault.TheVariants as fault

-- What each line says.
abbrev pub pairs : List Line → List (ℕ × ℕ)
pairs lines = map (λ (x : Line). (id_of x, weight_in x)) lines

-- An id that is new goes last.
pub insert_new : (es : List (ℕ × ℕ)) (k v : ℕ) → list_any (nat_eq k) (keys_of es) ≡ false → insert_entry nat_eq es k v ≡ es ++ ((k, v) ∷ [])
insert_new [] k v e = refl
insert_new (x ∷ es) k v e = go (nat_eq k x.0) refl (insert_new es k v)
  where
    go : (b : Bool) → nat_eq k x.0 ≡ b → (list_any (nat_eq k) (keys_of es) ≡ false → insert_entry nat_eq es k v ≡ es ++ ((k, v) ∷ [])) →
        insert_entry nat_eq (x ∷ es) k v ≡ (x ∷ es) ++ ((k, v) ∷ [])
    go true t rest = let bad : true ≡ false = rw t at e in cc
    go false t rest = rw t (ap (λ l. x ∷ l) (rest (rw t at e)))

-- The keys with one entry more.
pub keys_more : (es : List (ℕ × ℕ)) (k v : ℕ) → keys_of (es ++ ((k, v) ∷ [])) ≡ keys_of es ++ (k ∷ [])
keys_more [] k v = refl
keys_more (x ∷ es) k v = ap (λ l. x.0 ∷ l) (keys_more es k v)

-- The weight of an id, by its entry.
pub weight_is : (lines : List Line) (id : ℕ) → unwrap_or (lookup (nat_eq id) (pairs lines)) 1 ≡ weight_of lines id
weight_is [] id = refl
weight_is (x ∷ lines) id = go (nat_eq id (id_of x)) refl (weight_is lines id)
  where
    go : (b : Bool) → nat_eq id (id_of x) ≡ b → unwrap_or (lookup (nat_eq id) (pairs lines)) 1 ≡ weight_of lines id →
        unwrap_or (lookup (nat_eq id) (pairs (x ∷ lines))) 1 ≡ weight_of (x ∷ lines) id
    go true t rest = rw t refl
    go false t rest = rw t rest

-- Only which ids there are decides what is checked.
pub same_checks : (xs ys earlier : List ℕ) (lines : List Line) → IsSameIds xs ys → lines_checks xs earlier lines ≡ lines_checks ys earlier lines
same_checks xs ys earlier [] h = refl
same_checks xs ys earlier (line ∷ lines) h = rw (h (id_of line), same_checks xs ys (earlier ++ (id_of line ∷ [])) lines h) refl

-- The weight of each coflow, by the entries.
pub weights_are : (lines : List Line) (es : List (ℕ × ℕ)) (coflows : List CoflowLine) → es ≡ pairs lines →
    map (λ (x : CoflowLine). unwrap_or (lookup (nat_eq x.id) es) 1) coflows ≡ map (λ (x : CoflowLine). weight_of lines x.id) coflows
weights_are lines es [] e = refl
weights_are lines es (x ∷ coflows) e = rw (weights_are lines es coflows e, e, weight_is lines x.id) refl

-- A line that passes has an id that no earlier line has.
fresh_id : (ids earlier : List ℕ) (line : Line) → first_fault (line_checks ids earlier line) ≡ None → list_any (nat_eq (id_of line)) earlier ≡ false
fresh_id ids earlier line e =
    let behind = passed_parts (id_checks ids line.number (field_at line.texts 0))
    (fresh_checks earlier line.number (field_at line.texts 0) ++ (weight_checks line.number (field_at line.texts 1) ++ end_checks line)) e in
    let fresh = passed_parts (fresh_checks earlier line.number (field_at line.texts 0)) (weight_checks line.number (field_at line.texts 1) ++ end_checks line) behind.1 in
    go (list_any (nat_eq (id_of line)) earlier) refl fresh.0
  where
    go : (b : Bool) → list_any (nat_eq (id_of line)) earlier ≡ b → first_fault (fresh_checks earlier line.number (field_at line.texts 0)) ≡ None →
        list_any (nat_eq (id_of line)) earlier ≡ false
    go false t h = t
    go true t h = let bad : Some (fault.DuplicateId line.number (id_of line)) ≡ None = rw t at h in cc

-- The loop goes on by a line.
pub goes_on : (ids : List ℕ) (es more : List (ℕ × ℕ)) (id weight : ℕ) (line : Line) (left lines : List Line) (all : List (ℕ × ℕ)) (first : Option WeightsFault)
    → left ≡ line ∷ lines → first_fault (line_checks ids (keys_of es) line) ≡ None → id ≡ id_of line → weight ≡ weight_in line → more ≡ insert_entry nat_eq es id weight
    → (es ++ pairs left ≡ all) × (first_fault (lines_checks ids (keys_of es) left) ≡ first)
    → (more ++ pairs lines ≡ all) × (first_fault (lines_checks ids (keys_of more) lines) ≡ first)
goes_on ids es more id weight line left lines all first l passed i w m h =
    let fresh = fresh_id ids (keys_of es) line passed in
    let said : more ≡ es ++ ((id_of line, weight_in line) ∷ []) = m ∙ rw (i, w) (insert_new es (id_of line) (weight_in line) fresh) in
    let keys_are : keys_of more ≡ keys_of es ++ (id_of line ∷ []) = ap keys_of said ∙ keys_more es (id_of line) (weight_in line) in
    let next = pass_first (line_checks ids (keys_of es) line) (lines_checks ids (keys_of es ++ (id_of line ∷ [])) lines) passed in
    (rw (said, append_assoc) (rw l at h.0), rw keys_are (sym next ∙ rw l at h.1))
