-- Why the weights of a file were not read.
use Rattle.std.specs.Prelude.{◌≡◌, ℕ, ◌≤◌, ◌+◌, ◌⊎◌, List, Option, Some, None, IfSome, length}
use Rattle.coflow_units.specs.declared.limits.TheConstants.{MAX_TEXT}
use Rattle.coflow_units.specs.declared.trace.CoflowLine.{CoflowLine}
use Rattle.coflow_units.specs.declared.quantity.Quantity.{Quantity}
use Rattle.coflow_units.specs.declared.quantity.Quantity.TheVariants.{Text}
use Rattle.outside.specs.Shelf.{Told}
use Rattle.text_fields.specs.Checks.{first_fault}
use Rattle.weights.specs.Weights.{text_checks}
use Rattle.weights.specs.declared.fault.WeightsFault.{WeightsFault}
use Rattle.weights.specs.declared.fault.WeightsFault.TheVariants as weights_fault
use Rattle.command_files.specs.declared.status.Status.{Status}
use Rattle.command_files.specs.declared.status.Status.TheVariants.{BadWeights, Limit, NoMemory, ReadFault}
use Rattle.command_files.specs.FileCauses.{NameFailed, ShelfFailed}
use Rattle.command_files.specs.Limits.{EachMayLimit}
use Rattle.command_files.specs.Inputs.{bytes_if}
use Rattle.command_files.specs.TraceCauses.{IsTooLong}

-- a fault of form in weights: no quantity is outside its range, and memory did not run out
abbrev pub IsWeightsForm : WeightsFault → Type 0
IsWeightsForm (weights_fault.Limit line which count) = ⊥
IsWeightsForm weights_fault.NoMemory = ⊥
IsWeightsForm fault = Unit {0}

-- there is a file of weights for these coflows, and this is its first fault
abbrev pub IsFaultOf : Option (List ℕ) → List CoflowLine → WeightsFault → Type 0
IsFaultOf None coflows fault = ⊥
IsFaultOf (Some text) coflows fault =
    (length text ≤ MAX_TEXT) × (first_fault (text_checks text coflows) ≡ Some fault)

-- there is a file, and it is too long
abbrev pub AreTooLong : Option (List ℕ) → Type 0
AreTooLong None = ⊥
AreTooLong (Some text) = IsTooLong text

-- the bytes of the weights are too many, or a quantity of them is outside its range and nothing before it is wrong
abbrev pub WeightsLimit : Option (List ℕ) → List CoflowLine → Quantity → ℕ → Type 0
WeightsLimit weights coflows which count = ((which ≡ Text) × (count ≡ MAX_TEXT + 1) × AreTooLong weights)
    ⊎ ((line : ℕ) × IsFaultOf weights coflows (weights_fault.Limit line which count))

-- the cause of a status that says why the weights of a file were not read
abbrev pub IsWeightsCause : ℕ → ℕ → Option Told → Option Told → Option (List ℕ) → List CoflowLine → Status → Type 0
IsWeightsCause before now old new name coflows (BadWeights fault) =
    IsWeightsForm fault × IfSome old (λ t. IsFaultOf (bytes_if t name) coflows fault)
IsWeightsCause before now old new name coflows (Limit which count) =
    EachMayLimit which × IfSome old (λ t. WeightsLimit (bytes_if t name) coflows which count)
IsWeightsCause before now old new (Some name) coflows (ReadFault count) =
    ShelfFailed before now old new (NameFailed name) count
IsWeightsCause before now old new name coflows NoMemory = Unit {0}
IsWeightsCause before now old new name coflows status = ⊥
