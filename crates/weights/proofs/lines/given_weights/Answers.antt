use Rattle.std.proofs.Common.{[]}
use Rattle.text_fields.specs.Checks.{first_fault}
use Rattle.text_fields.specs.Lines.{lines_of}
use Rattle.weights.specs.Checks.{lines_checks}
use Rattle.weights.proofs.LineLists.{goes_on, pairs}
use Rattle.weights.proofs.lines.given_weights.Goals as goal

pub loop-fields-preserved : goal.loop-fields-preserved
loop-fields-preserved c =
    goes_on c.args.known.now.keys c.loop-fields.given.entries c.insert.new.self.entries c.in_ok-id.id c.in_ok-id.weight c.in-Some.fields c.loop-fields.lines c.next.new.self
    (pairs (lines_of c.args.bytes.now)) (first_fault (lines_checks c.args.known.now.keys [] (lines_of c.args.bytes.now)))
    c.in-Some.ensures c.in_ok-id.ensures.0 c.in_ok-id.ensures.1.0 c.in_ok-id.ensures.1.1 c.in_ok-insert.ensures.entries c.loop-fields.invariant
