use Rattle.std.proofs.Common.{◌≡◌, ◌<◌, List, ℕ, None, arith}
use Rattle.coflow_units.specs.declared.limits.TheConstants.{MAX_COMMANDS}
use Rattle.std.proofs.lemmas.Bool.Decides.{nat_tests}
use Rattle.text_fields.specs.Checks.{first_fault}
use Rattle.text_fields.specs.Lines.{lines_of}
use Rattle.workload.specs.Checks.{line_checks}
use Rattle.workload.specs.Script.{script_of, step_of}
use Rattle.workload.specs.declared.script.Script.{Script}
use Rattle.workload.specs.declared.line.Step.{Step}
use Rattle.workload.proofs.ScriptSteps.{goes_on, line_fails, too_many}
use Rattle.workload.proofs.script.read_with.Goals as goal

pub returns-in-Err : goal.returns-in-Err
returns-in-Err c =
    let ids : List ℕ = c.args.coflows.now in
    line_fails ids (lines_of c.args.bytes.now) c.loop-fields.lines c.next.new.self c.in-Some.fields c.loop-fields.count c.loop-fields.draft.clients c.loop-fields.draft.rounds.items
    c.loop-fields.draft.lines.items c.in-Some.ensures c.loop-fields.invariant {V = Step} {W = Script} (λ step. step ≡ step_of ids c.in-Some.fields)
    (λ script. script ≡ script_of ids c.args.bytes.now) c.in-Err.fault c.in-Err.ensures

pub returns-then-count-eq-MAX_COMMANDS : goal.returns-then-count-eq-MAX_COMMANDS
returns-then-count-eq-MAX_COMMANDS c =
    let passed : first_fault (line_checks c.args.coflows.now c.in-Some.fields) ≡ None = c.in-Ok.ensures.0 in
    rw c.from.ensures (too_many c.args.coflows.now (lines_of c.args.bytes.now) c.loop-fields.lines c.next.new.self c.in-Some.fields c.loop-fields.count
    c.loop-fields.draft.clients c.loop-fields.draft.rounds.items c.loop-fields.draft.lines.items c.in-Some.ensures c.loop-fields.invariant passed c.if-count-eq-MAX_COMMANDS.true)

pub loop-fields-preserved : goal.loop-fields-preserved
loop-fields-preserved c =
    let passed : first_fault (line_checks c.args.coflows.now c.in-Some.fields) ≡ None = c.in-Ok.ensures.0 in
    let step : c.in-Ok.step ≡ step_of c.args.coflows.now c.in-Some.fields = c.in-Ok.ensures.1 in
    let few : c.loop-fields.count < MAX_COMMANDS = grind (arith, nat_tests) in
    goes_on c.args.coflows.now (lines_of c.args.bytes.now) c.loop-fields.lines c.next.new.self c.in-Some.fields c.loop-fields.count c.loop-fields.draft.clients
    c.loop-fields.draft.rounds.items c.loop-fields.draft.lines.items c.in-Some.ensures c.loop-fields.invariant c.in-Ok.step c.take.new.self.clients
    c.take.new.self.rounds.items c.take.new.self.lines.items passed step few c.in-Ok-take.ensures.clients c.in-Ok-take.ensures.rounds
