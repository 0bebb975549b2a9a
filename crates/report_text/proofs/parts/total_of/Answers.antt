use Rattle.std.proofs.Common.{◌≡◌, ◌++◌, [], arith, ap, ◌∙◌, append-nil}
use Rattle.coflow_units.specs.Text.{spaced}
use Rattle.report_text.proofs.LineText.{not_there, prefix_found}
use Rattle.report_text.proofs.PartText.{empty_is, not_empty, same_number, total_none}
use Rattle.report_text.proofs.parts.total_of.Goals as goal

pub returns-in_default : goal.returns-in_default
returns-in_default c = λ n small e. not_there c.args.word.now (spaced n) c.args.line.now c.in_default.ensures.cases e

pub returns-in_default-number_then : goal.returns-in_default-number_then
returns-in_default-number_then c = λ n small e.
    let word : c.args.line.now ≡ c.args.word.now ++ c.in-Some.rest.now =
    prefix_found c.args.word.now c.args.line.now c.in-Some.rest.now c.in-Some.ensures.cases.0 c.in-Some.ensures.cases.1 in
    c.in_default-number_then.ensures n [] (omega arith) tt (total_none c.args.word.now c.args.line.now c.in-Some.rest.now n word e)

pub returns-then-is_empty : goal.returns-then-is_empty
returns-then-is_empty c =
    let word : c.args.line.now ≡ c.args.word.now ++ c.in-Some.rest.now =
    prefix_found c.args.word.now c.args.line.now c.in-Some.rest.now c.in-Some.ensures.cases.0 c.in-Some.ensures.cases.1 in
    let none : c.in-Some-number_then.rest.now ≡ [] = empty_is c.in-Some-number_then.rest.now c.if-is_empty.ensures in
    let number : c.in-Some.rest.now ≡ spaced c.in-Some-number_then.total =
    c.in-Some-number_then.ensures.1 ∙ (ap (λ r. spaced c.in-Some-number_then.total ++ r) none ∙ append-nil (spaced c.in-Some-number_then.total)) in
    (omega (arith, c.in-Some-number_then.ensures.0), word ∙ ap (λ r. c.args.word.now ++ r) number)

pub returns-else-is_empty : goal.returns-else-is_empty
returns-else-is_empty c = λ n small e.
    let word : c.args.line.now ≡ c.args.word.now ++ c.in-Some.rest.now =
    prefix_found c.args.word.now c.args.line.now c.in-Some.rest.now c.in-Some.ensures.cases.0 c.in-Some.ensures.cases.1 in
    let same = same_number c.in-Some.rest.now c.in-Some-number_then.rest.now [] c.in-Some-number_then.total n (omega (arith, c.in-Some-number_then.ensures.0)) small
    c.in-Some-number_then.ensures.2 tt c.in-Some-number_then.ensures.1 (total_none c.args.word.now c.args.line.now c.in-Some.rest.now n word e) in
    not_empty c.in-Some-number_then.rest.now c.if-is_empty.ensures same.1
