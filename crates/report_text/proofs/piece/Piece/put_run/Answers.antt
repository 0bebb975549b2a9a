use Rattle.std.proofs.Common.{◌++◌}
use Rattle.std.specs.Prelude.{codes}
use Rattle.std.specs.List.{flat_map}
use Rattle.coflow_units.specs.Text.{spaced}
use Rattle.report_text.proofs.PutSteps.{puts_cut, puts_line, puts_then}
use Rattle.report_text.proofs.piece.Piece.put_run.Goals as goal

pub returns-in_err-put-clause-taken : goal.returns-in_err-put-clause-taken
returns-in_err-put-clause-taken g c =
    let p = c.args.self.now in
    let q = c.put.new.self in
    let flows = flat_map spaced c.args.flows.now in
    let res = c.from_residual.result in
    puts_line _ _ p q c.args.slots c.args.flows.now res
    (puts_cut _ _ p q q (codes "run") (spaced c.args.slots ++ (flows ++ codes "\n")) c.in_err-put.field-0.0 res c.from_residual.ensures.0 c.in_err-put.ensures.taken)

pub returns-in_err-put_number-clause-taken : goal.returns-in_err-put_number-clause-taken
returns-in_err-put_number-clause-taken g c =
    let p = c.args.self.now in
    let q = c.put.new.self in
    let r = c.put_number.new.self in
    let flows = flat_map spaced c.args.flows.now in
    let res = c.from_residual-in_err-put_number.result in
    puts_line _ _ p r c.args.slots c.args.flows.now res
    (puts_then _ _ _ p q r (codes "run") (spaced c.args.slots ++ (flows ++ codes "\n")) res c.in_ok-put.ensures.taken
    (puts_cut _ _ q r r (spaced c.args.slots) (flows ++ codes "\n") c.in_err-put_number.field-0.0 res c.from_residual-in_err-put_number.ensures.0
    c.in_err-put_number.ensures.taken))

pub returns-in_err-put_flows-clause-taken : goal.returns-in_err-put_flows-clause-taken
returns-in_err-put_flows-clause-taken g c =
    let p = c.args.self.now in
    let q = c.put.new.self in
    let r = c.put_number.new.self in
    let s = c.put_flows.new.self in
    let flows = flat_map spaced c.args.flows.now in
    let res = c.from_residual-in_err-put_flows.result in
    puts_line _ _ p s c.args.slots c.args.flows.now res
    (puts_then _ _ _ p q s (codes "run") (spaced c.args.slots ++ (flows ++ codes "\n")) res c.in_ok-put.ensures.taken
    (puts_then _ _ _ q r s (spaced c.args.slots) (flows ++ codes "\n") res c.in_ok-put_number.ensures.taken
    (puts_cut _ _ r s s flows (codes "\n") c.in_err-put_flows.field-0.0 res c.from_residual-in_err-put_flows.ensures.0 c.in_err-put_flows.ensures.taken)))

pub returns-clause-taken : goal.returns-clause-taken
returns-clause-taken g c =
    let p = c.args.self.now in
    let q = c.put.new.self in
    let r = c.put_number.new.self in
    let s = c.put_flows.new.self in
    let t = c.put-2.new.self in
    let flows = flat_map spaced c.args.flows.now in
    let res = c.put-2.result in
    puts_line _ _ p t c.args.slots c.args.flows.now res
    (puts_then _ _ _ p q t (codes "run") (spaced c.args.slots ++ (flows ++ codes "\n")) res c.in_ok-put.ensures.taken
    (puts_then _ _ _ q r t (spaced c.args.slots) (flows ++ codes "\n") res c.in_ok-put_number.ensures.taken
    (puts_then _ _ _ r s t flows (codes "\n") res c.in_ok-put_flows.ensures.taken c.put-2.ensures.taken)))
