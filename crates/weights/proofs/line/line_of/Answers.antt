use Rattle.std.proofs.Common.{rules, ◌≡◌, ℕ, drop, ◌∙◌}
use Rattle.std.proofs.lemmas.Result.{err_from_is_err_and}
use Rattle.indexmap.specs.IndexMap.{keys}
use Rattle.text_fields.specs.Fields.{field_at}
use Rattle.text_fields.specs.Lines.{Line}
use Rattle.weights.specs.Checks.{id_of, weight_in}
use Rattle.text_fields.specs.Numbers.{number}
use Rattle.weights.proofs.LineParts.{id_passed, weight_passed, weight_refused, fresh_passed, fresh_fails, end_passed, end_fails, second_fails, third_fails, fourth_decides}
use Rattle.weights.proofs.line.line_of.Goals as goal

pub returns-then-contains_key : goal.returns-then-contains_key
returns-then-contains_key c =
    let line : Line = c.args.fields.now in
    let id = id_passed c.args.known.now.keys c.line-line.result line.number c.next.result.now (field_at line.texts 0) c.in_ok-id.id c.line-line.ensures c.next.ensures.field
    c.in_ok-id.ensures in
    second_fails c.args.known.now.keys (keys c.args.given.now) line _ id.0
    (fresh_fails c.args.given.now.entries c.line-line.result line.number (field_at line.texts 0) c.in_ok-id.id c.line-line.ensures id.1 c.if-contains_key.ensures)

pub returns-in_err-weight : goal.returns-in_err-weight
returns-in_err-weight c =
    let line : Line = c.args.fields.now in
    let id = id_passed c.args.known.now.keys c.line-line.result line.number c.next.result.now (field_at line.texts 0) c.in_ok-id.id c.line-line.ensures c.next.ensures.field
    c.in_ok-id.ensures in
    let fresh = fresh_passed c.args.given.now.entries line.number (field_at line.texts 0) c.in_ok-id.id id.1 c.if-contains_key.ensures in
    let second : c.next-2.result.now ≡ field_at line.texts 1 = search rules in
    let refused = weight_refused c.line-line.result line.number c.next-2.result.now (field_at line.texts 1) c.in_err-weight.field-0.0 c.line-line.ensures second
    c.in_err-weight.ensures in
    let (_, is, same) = err_from_is_err_and c.from_residual-in_err-weight.result c.from_residual-in_err-weight.ensures.1 in
    rw (is, same)
    (third_fails c.args.known.now.keys (keys c.args.given.now) line {V = ℕ} (λ v. v ≡ number (field_at line.texts 1)) (λ (v : ℕ × ℕ). (v.0 ≡ id_of line) × (v.1 ≡ weight_in line))
    c.in_err-weight.field-0.0 id.0 fresh refused)

pub returns-then-is_done : goal.returns-then-is_done
returns-then-is_done c =
    let line : Line = c.args.fields.now in
    let id = id_passed c.args.known.now.keys c.line-line.result line.number c.next.result.now (field_at line.texts 0) c.in_ok-id.id c.line-line.ensures c.next.ensures.field
    c.in_ok-id.ensures in
    let fresh = fresh_passed c.args.given.now.entries line.number (field_at line.texts 0) c.in_ok-id.id id.1 c.if-contains_key.ensures in
    let second : c.next-2.result.now ≡ field_at line.texts 1 = search rules in
    let weight = weight_passed c.line-line.result line.number c.next-2.result.now (field_at line.texts 1) c.in_ok-weight.weight c.line-line.ensures second
    c.in_ok-weight.ensures in
    let left : c.next-2.new.self.texts ≡ drop 2 line.texts = search rules in
    (fourth_decides c.args.known.now.keys (keys c.args.given.now) line id.0 fresh weight.0 ∙ end_passed line c.next-2.new.self.texts left c.if-is_done.ensures, (id.1, weight.1))

pub returns-else-is_done : goal.returns-else-is_done
returns-else-is_done c =
    let line : Line = c.args.fields.now in
    let id = id_passed c.args.known.now.keys c.line-line.result line.number c.next.result.now (field_at line.texts 0) c.in_ok-id.id c.line-line.ensures c.next.ensures.field
    c.in_ok-id.ensures in
    let fresh = fresh_passed c.args.given.now.entries line.number (field_at line.texts 0) c.in_ok-id.id id.1 c.if-contains_key.ensures in
    let second : c.next-2.result.now ≡ field_at line.texts 1 = search rules in
    let weight = weight_passed c.line-line.result line.number c.next-2.result.now (field_at line.texts 1) c.in_ok-weight.weight c.line-line.ensures second
    c.in_ok-weight.ensures in
    let left : c.next-2.new.self.texts ≡ drop 2 line.texts = search rules in
    fourth_decides c.args.known.now.keys (keys c.args.given.now) line id.0 fresh weight.0 ∙
    end_fails line c.line-line.result c.next-2.new.self.texts c.line-line.ensures left c.if-is_done.ensures
