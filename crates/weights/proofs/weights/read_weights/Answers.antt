use Rattle.std.proofs.Common.{◌≡◌, ℕ, List, [], map, nat_eq, unwrap_or, sym, ap, subst, ◌∙◌}
use Rattle.std.proofs.lemmas.Result.{err_from_is_err_and}
use Rattle.coflow_units.specs.declared.trace.CoflowLine.{CoflowLine}
use Rattle.indexmap.specs.IndexMap.{get}
use Rattle.text_fields.specs.Checks.{first_fault}
use Rattle.text_fields.specs.Lines.{Line, lines_of}
use Rattle.weights.specs.Checks.{is_no_memory, lines_checks}
use Rattle.coflow_units.specs.Trace.{ids_of}
use Rattle.weights.specs.Weights.{IsSameIds, text_checks, weights_of}
use Rattle.weights.proofs.LineLists.{pairs, same_checks, weights_are}
use Rattle.text_fields.proofs.PartAnswers.{retold}
use Rattle.weights.proofs.weights.read_weights.Goals as goal

pub returns-in_err-given : goal.returns-in_err-given
returns-in_err-given c =
    let coflows : List CoflowLine = c.args.trace.now.coflows in
    let ids : IsSameIds c.in_ok-known.known.keys (ids_of coflows) =
    subst (λ (x : List CoflowLine). IsSameIds c.in_ok-known.known.keys (ids_of x)) c.as_slice-coflows.ensures c.in_ok-known.ensures.0 in
    let lines : List Line = lines_of c.args.bytes.now in
    let (_, is, same) = err_from_is_err_and c.from_residual-in_err-given.result c.from_residual-in_err-given.ensures.1 in
    rw (is, same)
    (retold {W = List ℕ} is_no_memory (λ (es : List (ℕ × ℕ)). es ≡ pairs lines) (λ w. w ≡ weights_of c.args.bytes.now coflows) (lines_checks c.in_ok-known.known.keys [] lines)
    (text_checks c.args.bytes.now coflows) c.in_err-given.field-0.0
    (λ e. ap first_fault (sym (same_checks c.in_ok-known.known.keys (ids_of coflows) [] lines ids)) ∙ e) c.in_err-given.ensures)

pub returns : goal.returns
returns c =
    let coflows : List CoflowLine = c.args.trace.now.coflows in
    let ids : IsSameIds c.in_ok-known.known.keys (ids_of coflows) =
    subst (λ (x : List CoflowLine). IsSameIds c.in_ok-known.known.keys (ids_of x)) c.as_slice-coflows.ensures c.in_ok-known.ensures.0 in
    let lines : List Line = lines_of c.args.bytes.now in
    let given : c.in_ok-weights.weights.items ≡ map (λ (x : CoflowLine). unwrap_or (get nat_eq c.in_ok-given.given x.id) 1) coflows =
    c.in_ok-weights.ensures ∙ ap (map (λ (x : CoflowLine). unwrap_or (get nat_eq c.in_ok-given.given x.id) 1)) c.as_slice-coflows.ensures in (
      ap first_fault (sym (same_checks c.in_ok-known.known.keys (ids_of coflows) [] lines ids)) ∙ c.in_ok-given.ensures.0,
      c.from_vec.ensures ∙
          (given ∙ weights_are lines c.in_ok-given.given.entries coflows c.in_ok-given.ensures.1),
    )
