-- What a sink took.
use Rattle.std.proofs.Common.{◌≡◌, ℕ, ◌<◌, List, ◌++◌, length, take, ap, subst, ◌∙◌}
use Rattle.std.specs.Prelude.{Option, Some, None, Ok, Err}
use Rattle.outside.specs.Sink.{TakesText}
use Rattle.command_files.specs.Written.{Appends, AppendsBeginning}

-- a text that was taken whole was appended
pub appended : {X : Type 0} (E : Type 0) (old new : Option (List ℕ)) (text lent : List ℕ) (x : X) → lent ≡ text → TakesText {E = E} old new lent (Ok x) → Appends old new text
appended E None new text lent x e takes = tt
appended E (Some old) new text lent x e takes = takes ∙ ap (λ t. Some (old ++ t)) e

-- of a text that was not taken whole a beginning was appended
pub begun : (X : Type 0) {E : Type 0} (old new : Option (List ℕ)) (text lent : List ℕ) (e : E) → lent ≡ text → TakesText {X = X} old new lent (Err e) →
    AppendsBeginning old new text
begun X None new text lent x e takes = tt
begun X (Some old) new text lent x e takes = subst (λ (t : List ℕ). (n : ℕ) × (n < length t) × (new ≡ Some (old ++ take n t))) e takes
