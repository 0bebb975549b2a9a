-- What the bytes of weights give, and why they give nothing.
use Rattle.std.proofs.Common.{◌≡◌, ℕ, ◌^◌, ◌≤◌, inl, inr, List, Option, Some, None, Err, length, sym, ap, subst, ◌∙◌, arith}
use Rattle.std.specs.Prelude.{All, IfSome, replicate}
use Rattle.std.proofs.lemmas.List.{length-map, length-replicate, get_or-replicate}
use Rattle.coflow_units.specs.declared.quantity.Quantity.{Quantity}
use Rattle.coflow_units.specs.declared.trace.CoflowLine.{CoflowLine}
use Rattle.outside.specs.Shelf.{Told, bytes_of}
use Rattle.text_fields.specs.Checks.{first_fault}
use Rattle.weights.specs.Checks.{Answers as WeightsAnswer}
use Rattle.weights.specs.Weights.{text_checks, weights_of}
use Rattle.weights.specs.declared.fault.WeightsFault.{WeightsFault}
use Rattle.weights.specs.declared.fault.WeightsFault.TheVariants as weights_fault
use Rattle.command_files.specs.declared.status.Status.{Status}
use Rattle.command_files.specs.declared.status.Status.TheVariants as status
use Rattle.command_files.specs.FileCauses.{IsFileCause}
use Rattle.command_files.specs.Inputs.{GiveWeights, IsWeightsOf, bytes_if}
use Rattle.command_files.specs.Shelves.{HasBytes}
use Rattle.command_files.specs.TraceCauses.{IsTooLong}
use Rattle.command_files.specs.WeightsCauses.{IsFaultOf, IsWeightsCause, IsWeightsForm, WeightsLimit}
use Rattle.command_files.specs.Faults.{IsStatusOfWeights}
use Rattle.command_files.proofs.LimitFacts.{text_may, weights_may}

weights_have : (old : Option Told) (name bytes lent : List ℕ) (coflows : List CoflowLine) (fault : WeightsFault) → HasBytes old name bytes → lent ≡ bytes → length bytes ≤ 2 ^ 26 →
    first_fault (text_checks lent coflows) ≡ Some fault →
    IfSome old (λ t. IsFaultOf (bytes_if t (Some name)) coflows fault)
weights_have None name bytes lent coflows fault has e short first = tt
weights_have (Some t) name bytes lent coflows fault has e short first =
    (subst (λ (xs : List ℕ). length xs ≤ 2 ^ 26) has short, ap (λ (xs : List ℕ). first_fault (text_checks xs coflows)) (sym (e ∙ has)) ∙ first)

bad_weights : (before now : ℕ) (old new : Option Told) (name bytes lent : List ℕ) (coflows : List CoflowLine) (fault : WeightsFault) (s : Status) → IsWeightsForm fault →
    HasBytes old name bytes → lent ≡ bytes → length bytes ≤ 2 ^ 26 → first_fault (text_checks lent coflows) ≡ Some fault →
    s ≡ status.BadWeights fault → IsWeightsCause before now old new (Some name) coflows s
bad_weights before now old new name bytes lent coflows fault s form has e short first is =
    subst (λ (x : Status). IsWeightsCause before now old new (Some name) coflows x) (sym is) (form, weights_have old name bytes lent coflows fault has e short first)

weights_limit : (old : Option Told) (name bytes lent : List ℕ) (coflows : List CoflowLine) (line : ℕ) (which : Quantity) (count : ℕ) → HasBytes old name bytes → lent ≡ bytes →
    length bytes ≤ 2 ^ 26 → first_fault (text_checks lent coflows) ≡ Some (weights_fault.Limit line which count) →
    IfSome old (λ t. WeightsLimit (bytes_if t (Some name)) coflows which count)
weights_limit None name bytes lent coflows line which count has e short first = tt
weights_limit (Some t) name bytes lent coflows line which count has e short first =
    inr (line, weights_have (Some t) name bytes lent coflows (weights_fault.Limit line which count) has e short first)

pub weights_cause : (before now : ℕ) (old new : Option Told) (name bytes lent : List ℕ) (coflows : List CoflowLine) (P : List ℕ → Type 0) (fault : WeightsFault) (s : Status) →
    HasBytes old name bytes → lent ≡ bytes → length bytes ≤ 2 ^ 26 →
    WeightsAnswer (text_checks lent coflows) P (Err fault) → IsStatusOfWeights fault s → IsWeightsCause before now old new (Some name) coflows s
weights_cause before now old new name bytes lent coflows P (weights_fault.BadLine line field) s has e short first is =
    bad_weights before now old new name bytes lent coflows (weights_fault.BadLine line field) s tt has e short first is
weights_cause before now old new name bytes lent coflows P (weights_fault.UnknownId line id) s has e short first is =
    bad_weights before now old new name bytes lent coflows (weights_fault.UnknownId line id) s tt has e short first is
weights_cause before now old new name bytes lent coflows P (weights_fault.DuplicateId line id) s has e short first is =
    bad_weights before now old new name bytes lent coflows (weights_fault.DuplicateId line id) s tt has e short first is
weights_cause before now old new name bytes lent coflows P (weights_fault.Limit line which count) s has e short first is =
    subst (λ (x : Status). IsWeightsCause before now old new (Some name) coflows x) (sym is)
    (weights_may lent coflows line which count first, weights_limit old name bytes lent coflows line which count has e short first)
weights_cause before now old new name bytes lent coflows P weights_fault.NoMemory s has e short first is =
    subst (λ (x : Status). IsWeightsCause before now old new (Some name) coflows x) (sym is) tt

pub file_to_weights : (before now : ℕ) (old new : Option Told) (name : List ℕ) (coflows : List CoflowLine) (s : Status) → IsFileCause 67108864 before now old new name s →
    IsWeightsCause before now old new (Some name) coflows s
file_to_weights before now old new name coflows (status.Limit which count) cause = (text_may which cause.0, go old cause.2) where
  go : (o : Option Told) → IfSome o (λ t. IsTooLong (bytes_of t name)) → IfSome o (λ t. WeightsLimit (bytes_if t (Some name)) coflows which count)
  go None long = tt
  go (Some t) long = inl (cause.0, cause.1, long)
file_to_weights before now old new name coflows (status.ReadFault count) cause = cause
file_to_weights before now old new name coflows status.NoMemory cause = tt
file_to_weights before now old new name coflows status.Ok cause = absurd cause
file_to_weights before now old new name coflows status.Usage cause = absurd cause
file_to_weights before now old new name coflows status.UnknownPolicy cause = absurd cause
file_to_weights before now old new name coflows status.No cause = absurd cause
file_to_weights before now old new name coflows (status.BadReport line) cause = absurd cause
file_to_weights before now old new name coflows (status.BadScript line field) cause = absurd cause
file_to_weights before now old new name coflows (status.BadOrder fault) cause = absurd cause
file_to_weights before now old new name coflows (status.BadTrace fault) cause = absurd cause
file_to_weights before now old new name coflows (status.BadWeights fault) cause = absurd cause
file_to_weights before now old new name coflows (status.WriteFault count) cause = absurd cause
file_to_weights before now old new name coflows (status.WireFault port count) cause = absurd cause

given_by : (old : Option Told) (name bytes lent : List ℕ) (coflows : List CoflowLine) (weights : List ℕ) → HasBytes old name bytes → lent ≡ bytes → length bytes ≤ 2 ^ 26 →
    first_fault (text_checks lent coflows) ≡ None → weights ≡ weights_of lent coflows →
    IfSome old (λ t. GiveWeights (bytes_if t (Some name)) coflows weights)
given_by None name bytes lent coflows weights has e short passes is = tt
given_by (Some t) name bytes lent coflows weights has e short passes is = (
  subst (λ (xs : List ℕ). length xs ≤ 2 ^ 26) has short,
  ap (λ (xs : List ℕ). first_fault (text_checks xs coflows)) (sym (e ∙ has)) ∙ passes,
  is ∙ ap (λ (xs : List ℕ). weights_of xs coflows) (e ∙ has),
)

pub weights_read : (old : Option Told) (name bytes lent : List ℕ) (coflows : List CoflowLine) (weights : List ℕ) → HasBytes old name bytes → lent ≡ bytes → length bytes ≤ 2 ^ 26 →
    first_fault (text_checks lent coflows) ≡ None → weights ≡ weights_of lent coflows →
    All (λ w. 1 ≤ w) weights → All (λ w. w ≤ 2 ^ 32) weights → IsWeightsOf old (Some name) coflows weights
weights_read old name bytes lent coflows weights has e short passes is least most = record {
  count = ap (λ (xs : List ℕ). length xs) is ∙ length-map coflows _;
  least = least;
  most = most;
  given = given_by old name bytes lent coflows weights has e short passes is;
}

no_file : (old : Option Told) (coflows : List CoflowLine) (weights : List ℕ) → weights ≡ replicate (length coflows) 1 →
    IfSome old (λ t. GiveWeights (bytes_if t None) coflows weights)
no_file None coflows weights is = tt
no_file (Some t) coflows weights is = is

pub weights_equal : (old : Option Told) (coflows : List CoflowLine) (weights : List ℕ) → weights ≡ replicate (length coflows) 1 → IsWeightsOf old None coflows weights
weights_equal old coflows weights is =
    let n = length coflows in
    record {
      count = ap (λ (xs : List ℕ). length xs) is ∙ length-replicate {A = ℕ} n 1;
      least = subst (All (λ w. 1 ≤ w)) (sym is) (λ k d lt. omega (arith, get_or-replicate n k 1 d (omega (arith, lt, length-replicate {A = ℕ} n 1))));
      most = subst (All (λ w. w ≤ 2 ^ 32)) (sym is) (λ k d lt. omega (arith, get_or-replicate n k 1 d (omega (arith, lt, length-replicate {A = ℕ} n 1))));
      given = no_file old coflows weights is;
    }
