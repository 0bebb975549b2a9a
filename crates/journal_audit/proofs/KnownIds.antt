-- Ids that are looked up.
use Rattle.std.proofs.Common.{◌≡◌, ◌==◌, ℕ, ◌<◌, List, Contains, get_or, length, position, sym, ap, ◌∙◌, arith}
use Rattle.std.specs.Prelude.{MatchOption, None, Option, Some, unwrap_or}
use Rattle.std.proofs.lemmas.Bool.{eqb-true}
use Rattle.std.proofs.lemmas.List.Quantifiers.{position-Some}
use Rattle.cert_check.specs.Places.{coflow_with}
use Rattle.cert_check.proofs.NameSteps.{known_within}
use Rattle.journal_audit.specs.Ids.{Finds}

pub found_known : (ids : List ℕ) (find : ℕ → Option ℕ) (id coflow : ℕ) → Finds ids find → find id ≡ Some coflow → Contains ids id × (coflow ≡ coflow_with ids id)
found_known ids find id coflow finds e =
    let at : position (λ x. x == id) ids ≡ Some coflow = sym (finds id) ∙ e in
    let here = position-Some (λ x. x == id) ids coflow id at in
    ((coflow, here.0, eqb-true (get_or ids coflow id) id here.1), sym (ap (λ (o : Option ℕ). unwrap_or o (length ids)) at))

pub not_found : (ids : List ℕ) (find : ℕ → Option ℕ) (id : ℕ) → Finds ids find → find id ≡ None → Contains ids id → ⊥
not_found ids find id finds e has =
    let past : coflow_with ids id ≡ length ids = ap (λ (o : Option ℕ). unwrap_or o (length ids)) (sym (finds id) ∙ e) in
    let within : coflow_with ids id < length ids = known_within ids id has in
    omega (arith, past, within)

pub known_or_not : (ids : List ℕ) (find : ℕ → Option ℕ) (id : ℕ) (o : Option ℕ) → o ≡ find id → Finds ids find →
    MatchOption o (Contains ids id → ⊥) (λ coflow. Contains ids id × (coflow ≡ coflow_with ids id))
known_or_not ids find id None e finds = not_found ids find id finds (sym e)
known_or_not ids find id (Some coflow) e finds = found_known ids find id coflow finds (sym e)
