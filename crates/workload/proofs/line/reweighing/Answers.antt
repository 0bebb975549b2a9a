use Rattle.std.proofs.Common.{rules, ◌≡◌, ℕ, List, None, Err, subst}
use Rattle.std.proofs.lemmas.Result.{err_from_is_err_and}
use Rattle.text_fields.specs.Checks.{first_fault}
use Rattle.text_fields.specs.Fields.{Text, field_at}
use Rattle.text_fields.specs.Lines.{Line, without_first}
use Rattle.text_fields.specs.Numbers.{number}
use Rattle.workload.specs.Checks.{Answers, end_checks, id_checks, is_no_memory, weight_checks}
use Rattle.workload.specs.Operands.{coflow_in, weight_in}
use Rattle.workload.specs.declared.script.Asked.{Asked}
use Rattle.workload.specs.declared.script.Asked.TheVariants as asked
use Rattle.text_fields.proofs.PartAnswers.{second_fails}
use Rattle.workload.proofs.line.reweighing.Goals as goal

pub returns-in_err-weight : goal.returns-in_err-weight
returns-in_err-weight c =
    let line : Line = c.args.fields.now in
    let ids : List ℕ = c.args.coflows.now in
    let passed : first_fault (id_checks ids line.number (field_at line.texts 0)) ≡ None = rw (← c.line-line.ensures, ← c.next.ensures.field) c.in_ok-coflow.ensures.0 in
    let second : c.next-2.result.now ≡ field_at line.texts 1 = search rules in
    let refused : Answers {V = ℕ} (weight_checks line.number (field_at line.texts 1)) (λ w. w ≡ number (field_at line.texts 1)) (Err c.in_err-weight.field-0.0) =
    subst (λ (x : Text). Answers {V = ℕ} (weight_checks line.number x) (λ w. w ≡ number x) (Err c.in_err-weight.field-0.0)) second
    (subst (λ (x : ℕ). Answers {V = ℕ} (weight_checks x c.next-2.result.now) (λ w. w ≡ number c.next-2.result.now) (Err c.in_err-weight.field-0.0)) c.line-line.ensures
    c.in_err-weight.ensures) in
    let (_, is, same) = err_from_is_err_and c.from_residual-in_err-weight.result c.from_residual-in_err-weight.ensures.1 in
    rw (is, same)
    (second_fails {V = ℕ} {W = Asked} is_no_memory (λ w. w ≡ number (field_at line.texts 1)) (λ a. a ≡ asked.Reweigh (coflow_in ids line) (weight_in line))
    (id_checks ids line.number (field_at line.texts 0)) (weight_checks line.number (field_at line.texts 1)) (end_checks (without_first (without_first line)) 5)
    c.in_err-weight.field-0.0 passed refused)
