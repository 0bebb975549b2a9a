-- Each run is the grants of its first slot, as long as the least that is left.
use Rattle.std.proofs.Common.{ℕ, ◌≡◌, ◌++◌, List, replicate, sym, ap, subst, ◌∙◌, arith}
use Rattle.coflow_units.specs.Served.{left_after}
use Rattle.coflow_units.proofs.ServedExists.{left_sum}
use Rattle.matching.specs.Matching.{IsSettled, listed_in}
use Rattle.slot_switch.proofs.RunSteps.{IsServing, all_served, left_after_run, run_has_slot, run_is_short, serve_run}
use Rattle.slot_switch.proofs.simulation.serve.Goals as goal

pub push_run-requires-clause-some : goal.push_run-requires-clause-some
push_run-requires-clause-some c =
    let flows = c.args.flows.now in
    let now = c.loop-grants.invariant in
    let left = left_after flows c.loop-grants.schedule in
    let granted = listed_in c.loop-grants.grants in
    run_has_slot flows c.args.order.now left granted c.least_left-length.result now.settled.grants (c.least_left-length.ensures flows c.args.order.now left now.settled)
    (omega (arith, c.count.ensures, c.loop-grants-test.true))

pub push_run-requires-clause-short : goal.push_run-requires-clause-short
push_run-requires-clause-short c =
    let flows = c.args.flows.now in
    let now = c.loop-grants.invariant in
    let left = left_after flows c.loop-grants.schedule in
    let granted = listed_in c.loop-grants.grants in
    run_is_short flows c.args.order.now c.loop-grants.schedule granted c.least_left-length.result now.serving now.settled.grants
    (c.least_left-length.ensures flows c.args.order.now left now.settled)
    (omega (arith, c.count.ensures, c.loop-grants-test.true)) c.requires.units

pub loop-grants-smaller : goal.loop-grants-smaller
loop-grants-smaller c =
    let flows = c.args.flows.now in
    let now = c.loop-grants.invariant in
    let left = left_after flows c.loop-grants.schedule in
    let granted = listed_in c.loop-grants.grants in
    let n = c.least_left-length.result in
    let step = serve_run flows c.args.order.now c.loop-grants.schedule granted n now.serving now.settled.grants
    (c.least_left-length.ensures flows c.args.order.now left now.settled) (omega (arith, c.count.ensures, c.loop-grants-test.true)) in
    omega (arith, step.1, ap (left_sum flows) (c.in_ok-push_run.ensures.pushed ∙ ap (λ (xs : List ℕ). c.loop-grants.schedule ++ replicate n xs) c.flows.ensures))

pub loop-grants-preserved : goal.loop-grants-preserved
loop-grants-preserved c =
    let flows = c.args.flows.now in
    let line = c.args.order.now in
    let now = c.loop-grants.invariant in
    let slots = c.loop-grants.schedule in
    let left = left_after flows slots in
    let granted = listed_in c.loop-grants.grants in
    let n = c.least_left-length.result in
    let pushed : c.push_run.new.self ≡ slots ++ replicate n granted = c.in_ok-push_run.ensures.pushed ∙ ap (λ (xs : List ℕ). slots ++ replicate n xs) c.flows.ensures in
    let step = serve_run flows line slots granted n now.serving now.settled.grants (c.least_left-length.ensures flows line left now.settled)
    (omega (arith, c.count.ensures, c.loop-grants-test.true)) in
    let after = left_after flows (slots ++ replicate n granted) in
    let settled = c.repair.ensures.settled flows line after (c.take_run.ensures.matching flows line left after now.settled (left_after_run flows slots granted n)) in
    record {
      serving = subst (λ (s : List (List ℕ)). IsServing flows line s) (sym pushed) step.0;
      settled = subst (λ (s : List (List ℕ)). IsSettled flows line (left_after flows s) c.repair.new.self) (sym pushed) settled;
    }

pub returns : goal.returns
returns c =
    let now = c.loop-grants.invariant in
    all_served c.args.flows.now c.args.order.now c.loop-grants.schedule (listed_in c.loop-grants.grants) c.requires.all now.serving now.settled.grants
    (omega (arith, c.count.ensures, c.loop-grants-test.false))
