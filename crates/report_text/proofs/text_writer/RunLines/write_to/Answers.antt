use Rattle.std.proofs.Common.{◌≡◌, ◌+◌, ◌<◌, [], get_or, length, refl, ap, ◌∙◌, arith}
use Rattle.coflow_units.specs.declared.plan.Run.{Run}
use Rattle.run_list.specs.Runs.{run_of}
use Rattle.std.proofs.lemmas.List.{take_all}
use Rattle.report_text.proofs.PutSteps.{puts_none}
use Rattle.report_text.proofs.WrittenLines.{end_failed, end_taken, line_failed, line_put, run_here}
use Rattle.report_text.proofs.text_writer.RunLines.write_to.Goals as goal

pub loop-init : goal.loop-init
loop-init g c =
    record {
      runs = c.self.view_is;
      entered = c.self.invariant.0;
      faults = refl;
      taken = rw (c.self.invariant.2) (puts_none _ []);
    }

pub enter-slots-requires : goal.enter-slots-requires
enter-slots-requires g c = omega (arith, ap length c.loop.invariant.runs, ap length c.self.view_is)

pub loop-preserved : goal.loop-preserved
loop-preserved g c =
    let runs = c.args.self in
    let k = c.loop.counter in
    let so_far = c.loop.invariant in
    let entered = c.enter-slots.ensures in
    let run : Run = run_of c.enter-slots.result c.flows.result.now in
    let lt : k < length runs = omega (arith, ap length c.self.view_is) in
    let here : run ≡ get_or runs k run =
    run_here runs c.loop.walk.runs c.enter-slots.new.self.runs k c.loop.walk.entered c.enter-slots.new.self.entered c.enter-slots.result c.flows.result.now so_far.runs
    so_far.entered entered.runs entered.entered entered.slots c.flows.ensures.flows in
    record {
      runs = entered.runs ∙ so_far.runs;
      entered = entered.entered ∙ ap (λ n. n + 1) so_far.entered;
      faults = c.in_ok-put_run.ensures.faults ∙ so_far.faults;
      taken = line_put _ _ _ c.loop.piece c.put_run.new.self runs k run lt here so_far.taken c.in_ok-put_run.ensures.taken;
    }

pub returns-in_err-put_run-clause-taken : goal.returns-in_err-put_run-clause-taken
returns-in_err-put_run-clause-taken g c =
    let runs = c.args.self in
    let k = c.loop.counter in
    let so_far = c.loop.invariant in
    let entered = c.enter-slots.ensures in
    let run : Run = run_of c.enter-slots.result c.flows.result.now in
    let lt : k < length runs = omega (arith, ap length c.self.view_is) in
    let here : run ≡ get_or runs k run =
    run_here runs c.loop.walk.runs c.enter-slots.new.self.runs k c.loop.walk.entered c.enter-slots.new.self.entered c.enter-slots.result c.flows.result.now so_far.runs
    so_far.entered entered.runs entered.entered entered.slots c.flows.ensures.flows in
    line_failed _ _ _ c.loop.piece c.put_run.new.self runs k run c.in_err-put_run.field-0.0 c.from_residual.result lt here c.from_residual.ensures.0 so_far.taken
    c.in_err-put_run.ensures.taken

pub returns-in_err-put-clause-taken : goal.returns-in_err-put-clause-taken
returns-in_err-put-clause-taken g c =
    let runs = c.args.self in
    let whole = take_all c.loop.counter runs (omega (arith, c.loop-test.false, ap length c.self.view_is)) in
    end_failed _ _ _ c.loop.piece c.put.new.self runs c.in_err-put.field-0.0 c.from_residual-in_err-put.result c.from_residual-in_err-put.ensures.0
    (rw whole at c.loop.invariant.taken) c.in_err-put.ensures.taken

pub returns-clause-taken : goal.returns-clause-taken
returns-clause-taken g c =
    let runs = c.args.self in
    let whole = take_all c.loop.counter runs (omega (arith, c.loop-test.false, ap length c.self.view_is)) in
    end_taken _ _ _ _ c.loop.piece c.put.new.self c.flush.new.self runs c.flush.result (rw whole at c.loop.invariant.taken) c.in_ok-put.ensures.taken c.flush.ensures.taken
    c.flush.ensures.emptied
