use Rattle.std.proofs.Common.{◌≡◌, ◌∙◌}
use Rattle.std.specs.Prelude.{codes, decimal}
use Rattle.report_text.proofs.PutSteps.{puts_then}
use Rattle.report_text.proofs.piece.Piece.put_number.Goals as goal

pub returns-clause-taken : goal.returns-clause-taken
returns-clause-taken g c =
    let digits : c.as_bytes.result.now ≡ decimal c.args.number = c.as_bytes.ensures.value ∙ c.format.ensures.text in
    puts_then _ _ _ c.args.self.now c.put.new.self c.put-2.new.self (codes " ") (decimal c.args.number) c.put-2.result c.in_ok-put.ensures.taken
    (rw digits at c.put-2.ensures.taken)
