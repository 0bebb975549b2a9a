use Rattle.std.proofs.Common.{rules, ◌≡◌, ℕ, ◌-◌, ◌^◌, Vec, Global, arith, ap, ◌∙◌, length}
use Rattle.std.proofs.lemmas.Result.{err_from_is_err_and}
use Rattle.coflow_units.specs.declared.quantity.Quantity.TheVariants as quantity
use Rattle.text_fields.specs.Fields.{field_at}
use Rattle.text_fields.specs.Lines.{Line}
use Rattle.text_fields.specs.Numbers.{number}
use Rattle.trace_reader.specs.declared.front.Front.{Front}
use Rattle.trace_reader.specs.Checks.{values}
use Rattle.trace_reader.specs.Parts.{IsFront}
use Rattle.trace_reader.proofs.Rows.{length_values}
use Rattle.trace_reader.proofs.LineParts.{id_passed, mapper_fails, number_passed}
use Rattle.trace_reader.proofs.front.front_of.Goals as goal

pub returns-in_err-mappers-clause-answer : goal.returns-in_err-mappers-clause-answer
returns-in_err-mappers-clause-answer c =
    let line : Line = c.args.fields.now in
    let second : c.next-2.result.now ≡ field_at line.texts 1 = search rules in
    let third : c.next-3.result.now ≡ field_at line.texts 2 = search rules in
    let named = id_passed c.args.ports c.args.ids.now.keys line c.line-line.result c.next.result.now c.line-line.ensures c.next.ensures.field c.in_ok-id.ensures.answer.0 in
    let arrived = number_passed c.line-line.result line.number 2 0 (2 ^ 32 - 1) c.in_ok-arrival.arrival quantity.Arrival c.next-2.result.now (field_at line.texts 1)
    c.line-line.ensures second c.in_ok-arrival.ensures in
    let mapped = number_passed c.line-line.result line.number 3 1 4096 c.in_ok-count.count quantity.Mappers c.next-3.result.now (field_at line.texts 2) c.line-line.ensures
    third c.in_ok-count.ensures in
    let (_, is, same) = err_from_is_err_and c.from_residual-in_err-mappers.result c.from_residual-in_err-mappers.ensures.1 in
    rw (is, same)
    (mapper_fails c.args.ports c.args.ids.now.keys line (λ (v : Vec ℕ Global). v.items ≡ values number c.next-3.new.self.texts c.in_ok-count.count)
    (IsFront (λ (v : Front). v.id) (λ v. v.arrival) (λ v. v.mappers.items) line) c.in_err-mappers.field-0.0
    c.next.new.self c.next-2.new.self c.next-3.new.self c.in_ok-count.count c.next.ensures.left c.next-2.ensures.left c.next-3.ensures.left named arrived.0 mapped
    c.in_err-mappers.ensures.answer)

pub returns-clause-few : goal.returns-clause-few
returns-clause-few c =
    let count : length c.in_ok-mappers.mappers.items ≡ c.in_ok-count.count = ap length c.in_ok-mappers.ensures.answer.1 ∙
    length_values number c.next-3.new.self.texts c.in_ok-count.count in
    omega (arith, count, c.in_ok-count.ensures)
