use Rattle.std.proofs.Common.{◌≡◌, ℕ, ◌+◌, List, Vec, Global, ◌∙◌, arith, drop, length, refl}
use Rattle.std.proofs.lemmas.Result.{err_from_is_err_and}
use Rattle.coflow_units.specs.declared.trace.CoflowLine.{CoflowLine}
use Rattle.coflow_units.specs.declared.trace.Reducer.{Reducer}
use Rattle.text_fields.specs.Lines.{Line}
use Rattle.text_fields.specs.Numbers.{number}
use Rattle.trace_reader.specs.declared.front.Front.{Front}
use Rattle.trace_reader.specs.Checks.{is_no_memory}
use Rattle.trace_reader.specs.Coflow.{back_checks, behind_mappers, coflow_of, front_checks, mappers_of, mapper_count, reducers_of}
use Rattle.trace_reader.specs.Parts.{IsFront}
use Rattle.text_fields.proofs.PartAnswers.{part_fails}
use Rattle.trace_reader.proofs.Rows.{length_values}
use Rattle.trace_reader.proofs.LineParts.{back_decides, back_fails, coflow_is}
use Rattle.trace_reader.proofs.coflows.coflow_of.Goals as goal

pub returns-in_err-front-clause-answer : goal.returns-in_err-front-clause-answer
returns-in_err-front-clause-answer c =
    let line : Line = c.args.fields.now in
    let (_, is, same) = err_from_is_err_and c.from_residual.result c.from_residual.ensures.1 in
    rw (is, same)
    (part_fails is_no_memory (IsFront (λ (v : Front). v.id) (λ v. v.arrival) (λ v. v.mappers.items) line) (λ (v : CoflowLine). v ≡ coflow_of line)
    (front_checks c.args.ports c.args.ids.now.keys line) (back_checks c.args.ports (4 + mapper_count line) (behind_mappers line))
    c.in_err-front.field-0.0 c.in_err-front.ensures.answer)

-- The number of reducers stands behind the mappers.
place_is : (line : Line) (k count : ℕ) (mappers : List ℕ) → mappers ≡ mappers_of line → count ≡ length mappers → k ≡ 4 + count → k ≡ 4 + mapper_count line
place_is line k count mappers m e f = f ∙ (rw (e, m, length_values number (drop 3 line.texts) (mapper_count line)) refl)

pub returns-in_err-reducers-clause-answer : goal.returns-in_err-reducers-clause-answer
returns-in_err-reducers-clause-answer c =
    let line : Line = c.args.fields.now in
    let count : c.len.result ≡ length c.in_ok-front.front.mappers.items = omega (arith, c.len.ensures, c.in_ok-front.front.mappers.ok.0) in
    let place = place_is line (4 + c.len.result) c.len.result c.in_ok-front.front.mappers.items c.in_ok-front.ensures.answer.1.mappers_are count refl in
    let (_, is, same) = err_from_is_err_and c.from_residual-in_err-reducers.result c.from_residual-in_err-reducers.ensures.1 in
    rw (is, same)
    (back_fails c.args.ports c.args.ids.now.keys line c.front_of.new.fields (4 + c.len.result) c.in_ok-front.ensures.left place
    (λ (v : Vec Reducer Global). v.items ≡ reducers_of c.front_of.new.fields) (λ (v : CoflowLine). v ≡ coflow_of line) c.in_err-reducers.field-0.0 c.in_ok-front.ensures.answer.0
    c.in_err-reducers.ensures)

pub returns-clause-answer : goal.returns-clause-answer
returns-clause-answer c =
    let line : Line = c.args.fields.now in
    let front = c.in_ok-front.ensures.answer in
    let count : c.len.result ≡ length c.in_ok-front.front.mappers.items = omega (arith, c.len.ensures, c.in_ok-front.front.mappers.ok.0) in
    let place = place_is line (4 + c.len.result) c.len.result c.in_ok-front.front.mappers.items front.1.mappers_are count refl in
    let mappers : c.from_vec.result ≡ mappers_of line = c.from_vec.ensures ∙ front.1.mappers_are in
    let reducers : c.from_vec-2.result ≡ reducers_of c.front_of.new.fields = c.from_vec-2.ensures ∙ c.in_ok-reducers.ensures.1 in (
      back_decides c.args.ports c.args.ids.now.keys line c.front_of.new.fields (4 + c.len.result) c.in_ok-front.ensures.left place front.0 ∙ c.in_ok-reducers.ensures.0,
      coflow_is line c.front_of.new.fields c.in_ok-front.front.id c.in_ok-front.front.arrival c.from_vec.result c.from_vec-2.result c.in_ok-front.ensures.left
          front.1.id_is front.1.arrival_is mappers reducers,
    )
