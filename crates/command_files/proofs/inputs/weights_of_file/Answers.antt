use Rattle.std.proofs.Common.{◌≡◌, ◌≤◌, ◌^◌, ℕ, List, subst, sym}
use Rattle.std.specs.Prelude.{All, option_map}
use Rattle.weights.specs.Weights.{weights_of}
use Rattle.weights.proofs.Range.{weights_in_range}
use Rattle.command_files.specs.WeightsCauses.{IsWeightsCause}
use Rattle.command_files.specs.Faults.{IsStatusOfWeights}
use Rattle.command_files.specs.Inputs.{IsWeightsOf}
use Rattle.command_files.proofs.ShelfFacts.{passed_as}
use Rattle.command_files.proofs.WeightsFacts.{weights_cause, weights_read}
use Rattle.command_files.proofs.inputs.weights_of_file.Goals as goal

pub returns-clause-weights : goal.returns-clause-weights
returns-clause-weights g c =
    let given = c.in_ok-weights-2.ensures in
    let fits = subst (λ (xs : List ℕ). All (λ w. (1 ≤ w) × (w ≤ 2 ^ 32)) xs) (sym given.1) (weights_in_range c.deref.result.now c.args.trace.now.coflows given.0) in
    subst (λ o. IsWeightsOf (g.H.Shelf.told c.args.shelf.now) (option_map (λ s. s.now) o) c.args.trace.now.coflows c.in_ok-weights-2.weights) (sym c.in-Some.is)
    (weights_read (g.H.Shelf.told c.args.shelf.now) c.in-Some.name.now c.in_ok-bytes.bytes.items c.deref.result.now c.args.trace.now.coflows c.in_ok-weights-2.weights
    c.in_ok-bytes.ensures.bytes c.deref.ensures.value c.in_ok-bytes.ensures.short
    given.0 given.1 (λ k d lt. (fits k d lt).0) (λ k d lt. (fits k d lt).1))

pub returns-in_err-weights-2-clause-cause : goal.returns-in_err-weights-2-clause-cause
returns-in_err-weights-2-clause-cause g c =
    passed_as c.from_residual-in_err-weights-2.result (IsStatusOfWeights c.in_err-weights-2.field-0.0) _ c.from_residual-in_err-weights-2.ensures.1
    (λ s is. subst (λ o. IsWeightsCause (g.H.Shelf.faults c.args.shelf.now) (g.H.Shelf.faults c.read_file.new.shelf) (g.H.Shelf.told c.args.shelf.now)
    (g.H.Shelf.told c.read_file.new.shelf) (option_map (λ s. s.now) o) c.args.trace.now.coflows s) (sym c.in-Some.is)
    (weights_cause (g.H.Shelf.faults c.args.shelf.now) (g.H.Shelf.faults c.read_file.new.shelf) (g.H.Shelf.told c.args.shelf.now) (g.H.Shelf.told c.read_file.new.shelf)
    c.in-Some.name.now c.in_ok-bytes.bytes.items c.deref.result.now c.args.trace.now.coflows
    (λ w. w ≡ weights_of c.deref.result.now c.args.trace.now.coflows) c.in_err-weights-2.field-0.0 s c.in_ok-bytes.ensures.bytes c.deref.ensures.value c.in_ok-bytes.ensures.short
    c.in_err-weights-2.ensures is))
