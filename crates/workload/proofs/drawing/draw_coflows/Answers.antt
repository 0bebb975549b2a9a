use Rattle.std.proofs.Common.{ap, ◌∙◌, arith, refl}
use Rattle.workload.specs.declared.coflow.MadeCoflow.{MadeCoflow}
use Rattle.workload.proofs.CoflowSteps.{arrival_step, before_first, coflow_step, none_first, small_step, state_step}
use Rattle.workload.proofs.drawing.draw_coflows.Goals as goal

pub loop-index-init : goal.loop-index-init
loop-index-init c = record {
  items = c.new-coflows.ensures.items ∙ none_first c.args.seed;
  state = c.from_seed-numbers.ensures ∙ before_first c.args.seed;
  arrival = refl;
  small = omega arith;
}

pub loop-index-preserved : goal.loop-index-preserved
loop-index-preserved c =
    let seed = c.args.seed in
    let k = c.loop-index.index in
    let x = c.loop-index.numbers.state in
    let arrival = c.loop-index.arrival in
    let coflow = c.in_ok-coflow.coflow in
    let so_far = c.loop-index.invariant in
    let grown = ap (λ (m : MadeCoflow). m.arrival) c.in_ok-coflow.ensures.coflow in
    record {
      items = coflow_step seed k x arrival coflow c.loop-index.coflows.items c.push.new.self.items so_far.state so_far.arrival c.in_ok-coflow.ensures.coflow so_far.items
          c.in_ok-push.ensures.items;
      state = state_step seed k x c.draw_coflow.new.numbers.state so_far.state c.in_ok-coflow.ensures.state;
      arrival = arrival_step seed k x arrival coflow.arrival so_far.state so_far.arrival grown;
      small = small_step k x arrival coflow.arrival so_far.small grown;
    }
