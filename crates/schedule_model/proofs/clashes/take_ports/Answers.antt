use Rattle.std.proofs.Common.{◌<◌, true, arith, get_or, length, subst, sym, ◌∙◌}
use Rattle.std.proofs.lemmas.Bool.{false≢true}
use Rattle.std.proofs.lemmas.List.{length-set, take_all}
use Rattle.schedule_model.specs.Repeat.{IsTaken}
use Rattle.schedule_model.proofs.PortMarks.{take_one_more, take_one_same}
use Rattle.schedule_model.proofs.RepeatSteps.{IsLeast, least_falls, least_stays}
use Rattle.schedule_model.proofs.clashes.take_ports.Goals as goal

pub loop-flow-preserved-then-used-number : goal.loop-flow-preserved-then-used-number
loop-flow-preserved-then-used-number c =
    let flows = c.args.flows.now in
    let new = c.args.new.now in
    let used = c.loop-flow.used in
    let k = c.loop-flow.flow-index in
    let p = c.port_at-number.result in
    let lt = c.loop-flow-test.true in
    let inside : p < length used =
    omega (
      arith,
      c.port_at-number.ensures,
      c.requires.ports (get_or new k 0) record { coflow = 0; ingress = 0; egress = 0; units = 0 } (c.requires.names k 0 lt),
      c.loop-flow.auto.used,
    ) in
    record {
      marked = λ q in'. take_one_same flows c.args.side new used c.args.used.now k p q lt c.port_at-number.ensures c.if-used-number.true (c.loop-flow.invariant.marked q in');
      least = least_falls flows c.args.side c.args.used.now new k p c.lesser.result c.loop-flow.least c.requires.ascending lt c.port_at-number.ensures
          ((c.loop-flow.invariant.marked p inside).0 c.if-used-number.true) c.loop-flow.invariant.least c.lesser.ensures.within c.lesser.ensures.cases;
    }

pub loop-flow-preserved : goal.loop-flow-preserved
loop-flow-preserved c =
    let flows = c.args.flows.now in
    let new = c.args.new.now in
    let used = c.loop-flow.used in
    let k = c.loop-flow.flow-index in
    let p = c.port_at-number.result in
    let lt = c.loop-flow-test.true in
    let inside : p < length used =
    omega (
      arith,
      c.port_at-number.ensures,
      c.requires.ports (get_or new k 0) record { coflow = 0; ingress = 0; egress = 0; units = 0 } (c.requires.names k 0 lt),
      c.loop-flow.auto.used,
    ) in
    record {
      marked = λ q in'. take_one_more flows c.args.side new used c.args.used.now k p q lt c.port_at-number.ensures inside
          (c.loop-flow.invariant.marked q (omega (arith, in', length-set used p true)));
      least = least_stays flows c.args.side c.args.used.now new k p c.loop-flow.least lt c.port_at-number.ensures
          (λ taken. false≢true (sym c.if-used-number.false ∙ (c.loop-flow.invariant.marked p inside).1 taken)) c.loop-flow.invariant.least;
    }

pub returns-clause-least : goal.returns-clause-least
returns-clause-least c =
    subst (λ s. IsLeast (IsTaken c.args.flows.now c.args.side c.args.used.now s) c.loop-flow.least)
    (take_all c.loop-flow.flow-index c.args.new.now c.loop-flow-test.false) c.loop-flow.invariant.least
