use Rattle.std.proofs.Common.{◌≡◌, ◌++◌, arith}
use Rattle.std.specs.Prelude.{codes}
use Rattle.std.specs.List.{flat_map}
use Rattle.coflow_units.specs.declared.plan.Run.{Run}
use Rattle.coflow_units.specs.Text.{spaced}
use Rattle.report_text.proofs.LineText.{not_there, prefix_found}
use Rattle.report_text.proofs.FlowText.{behind_run, length_is, run_found, stops_flows}
use Rattle.report_text.proofs.parts.read_run.Goals as goal

pub returns-then-length-eq0 : goal.returns-then-length-eq0
returns-then-length-eq0 c = λ run h e.
    let word : c.args.line.now ≡ codes "run" ++ c.in-Some.rest.now =
    prefix_found (codes "run") c.args.line.now c.in-Some.rest.now c.in-Some.ensures.cases.0 c.in-Some.ensures.cases.1 in
    let a = length_is run c.args.line.now c.in-Some.rest.now c.in-Some-count_then.rest.now c.in-Some-count_then.length h word e (omega (arith, c.in-Some-count_then.ensures.0))
    c.in-Some-count_then.ensures.1 c.in-Some-count_then.ensures.2 in
    absurd (omega (arith, a.0, h.0))

pub returns-then-not-branch : goal.returns-then-not-branch
returns-then-not-branch c = λ run h e.
    let word : c.args.line.now ≡ codes "run" ++ c.in-Some.rest.now =
    prefix_found (codes "run") c.args.line.now c.in-Some.rest.now c.in-Some.ensures.cases.0 c.in-Some.ensures.cases.1 in
    let a = length_is run c.args.line.now c.in-Some.rest.now c.in-Some-count_then.rest.now c.in-Some-count_then.length h word e (omega (arith, c.in-Some-count_then.ensures.0))
    c.in-Some-count_then.ensures.1 c.in-Some-count_then.ensures.2 in
    let none = rw c.if-not-branch.true at c.in_ok-read_flows.ensures in
    none run.flows h.2 a.1

pub returns-in_default : goal.returns-in_default
returns-in_default c = λ run h e.
    not_there (codes "run") (spaced run.length ++ flat_map spaced run.flows) c.args.line.now c.in_default.ensures.cases e

pub returns-in_default-count_then : goal.returns-in_default-count_then
returns-in_default-count_then c = λ run h e.
    let word : c.args.line.now ≡ codes "run" ++ c.in-Some.rest.now =
    prefix_found (codes "run") c.args.line.now c.in-Some.rest.now c.in-Some.ensures.cases.0 c.in-Some.ensures.cases.1 in
    c.in_default-count_then.ensures run.length (flat_map spaced run.flows) h.1 (stops_flows run.flows) (behind_run run c.args.line.now c.in-Some.rest.now word e)

pub returns : goal.returns
returns c =
    let word : c.args.line.now ≡ codes "run" ++ c.in-Some.rest.now =
    prefix_found (codes "run") c.args.line.now c.in-Some.rest.now c.in-Some.ensures.cases.0 c.in-Some.ensures.cases.1 in
    let run : Run = record { length = c.in-Some-count_then.length; flows = c.read_flows.new.flows.items } in
    let flows = rw c.if-not-branch.false at c.in_ok-read_flows.ensures in (
      (omega (arith, c.if-length-eq0.false), c.in-Some-count_then.ensures.0, flows.0),
      run_found run c.args.line.now c.in-Some.rest.now c.in-Some-count_then.rest.now word c.in-Some-count_then.ensures.1 flows.1,
    )
