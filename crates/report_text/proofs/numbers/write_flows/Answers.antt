use Rattle.std.proofs.Common.{◌+◌, ◌<◌, ◌++◌, append-nil, length, take, refl, sym, ap, ◌∙◌, arith}
use Rattle.std.specs.Prelude.{decimal}
use Rattle.std.specs.List.{flat_map}
use Rattle.std.proofs.lemmas.List.{length-set, take_all}
use Rattle.coflow_units.specs.Text.{spaced}
use Rattle.report_text.proofs.FlowsText.{flows_step, width, width_more, width_within}
use Rattle.report_text.proofs.numbers.write_flows.Goals as goal

pub loop-flow-init : goal.loop-flow-init
loop-flow-init c = record { len = refl; end = omega arith; text = sym (append-nil (take c.args.start c.args.text.now)) }

pub bounds-text-end : goal.bounds-text-end
bounds-text-end c =
    let k = c.loop-flow.flow-index in
    omega (arith, width_more c.args.flows.now k c.loop-flow-test.true, width_within c.args.flows.now (k + 1))

pub overflow_add-end : goal.overflow_add-end
overflow_add-end c =
    let k = c.loop-flow.flow-index in
    omega (arith, c.width_of.ensures, width_more c.args.flows.now k c.loop-flow-test.true, width_within c.args.flows.now (k + 1))

pub overflow_add-end-in-loop-flow : goal.overflow_add-end-in-loop-flow
overflow_add-end-in-loop-flow c =
    let k = c.loop-flow.flow-index in
    omega (arith, c.width_of.ensures, width_more c.args.flows.now k c.loop-flow-test.true, width_within c.args.flows.now (k + 1))

pub write_digits-requires : goal.write_digits-requires
write_digits-requires c =
    let k = c.loop-flow.flow-index in
    let more = width_more c.args.flows.now k c.loop-flow-test.true in
    let within = width_within c.args.flows.now (k + 1) in
    let digits = ap (λ n. length (decimal n)) c.from.ensures in
    (omega (arith, c.width_of.ensures, digits), omega (arith, c.width_of.ensures, more, within, length-set c.loop-flow.text c.loop-flow.end 32))

pub loop-flow-preserved : goal.loop-flow-preserved
loop-flow-preserved c =
    let k = c.loop-flow.flow-index in
    let number = c.from.ensures in
    let more = width_more c.args.flows.now k c.loop-flow-test.true in
    let fits : c.loop-flow.end < length c.loop-flow.text = omega (arith, more, width_within c.args.flows.now (k + 1)) in
    record {
      len = c.write_digits.auto.buf ∙ (length-set c.loop-flow.text c.loop-flow.end 32 ∙ c.loop-flow.invariant.len);
      end = omega (arith, c.width_of.ensures, more);
      text =
          flows_step c.args.flows.now c.args.text.now c.loop-flow.text c.write_digits.new.buf k c.args.start c.loop-flow.end c.write_digits.result
          (c.loop-flow.end + (1 + c.width_of.result)) c.loop-flow-test.true fits
          (ap (λ w. c.loop-flow.end + (1 + w)) c.width_of.ensures) (rw number at c.write_digits.ensures.start) (rw number at c.write_digits.ensures.written)
          c.write_digits.ensures.before c.loop-flow.invariant.text;
    }

pub returns-clause-end : goal.returns-clause-end
returns-clause-end c = c.loop-flow.invariant.end ∙ ap (λ xs. c.args.start + width xs) (take_all c.loop-flow.flow-index c.args.flows.now c.loop-flow-test.false)

pub returns-clause-text : goal.returns-clause-text
returns-clause-text c =
    c.loop-flow.invariant.text
    ∙ ap (λ xs. take c.args.start c.args.text.now ++ flat_map spaced xs) (take_all c.loop-flow.flow-index c.args.flows.now c.loop-flow-test.false)
