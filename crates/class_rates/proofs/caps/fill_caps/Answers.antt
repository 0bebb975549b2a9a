use Rattle.std.proofs.Common.{◌+◌, ◌∙◌, arith, refl}
use Rattle.coflow_units.specs.declared.fabric.Side.TheVariants.{Egress, Ingress}
use Rattle.class_rates.proofs.CapSteps.{all_caps, caps_next, loads_next, no_caps, no_loads}
use Rattle.class_rates.proofs.caps.fill_caps.Goals as goal

pub loop-before-init : goal.loop-before-init
loop-before-init c = record {
  ingress_len = refl;
  egress_len = refl;
  caps_len = c.requires.length;
  ingress_is = no_loads c.args.flows.now c.args.numbers.now Ingress c.args.ingress.now c.args.classes c.requires.coflow c.requires.class c.requires.ingress;
  egress_is = no_loads c.args.flows.now c.args.numbers.now Egress c.args.egress.now c.args.classes c.requires.coflow c.requires.class c.requires.egress;
  caps_are = no_caps c.args.flows.now c.args.numbers.now c.args.caps.now c.args.classes c.requires.class c.requires.length c.requires.caps;
}

pub loop-before-preserved : goal.loop-before-preserved
loop-before-preserved c =
    let flows = c.args.flows.now in
    let numbers = c.args.numbers.now in
    let q = c.loop-before.before + 1 in
    let old = c.loop-before.invariant in
    record {
      ingress_len = c.add_class.auto.loads ∙ old.ingress_len;
      egress_len = c.add_class-in-loop-before.auto.loads ∙ old.egress_len;
      caps_len = c.set_caps.auto.caps ∙ old.caps_len;
      ingress_is = loads_next flows numbers q Ingress c.add_class.new.loads c.requires.coflow c.add_class.ensures;
      egress_is = loads_next flows numbers q Egress c.add_class-in-loop-before.new.loads c.requires.coflow c.add_class-in-loop-before.ensures;
      caps_are = caps_next flows numbers q c.set_caps.new.caps c.set_caps.ensures;
    }

pub returns : goal.returns
returns c = λ k lt. all_caps c.args.flows.now c.args.numbers.now c.loop-before.caps (c.loop-before.before + 1) c.args.classes k c.requires.class
    (omega (arith, c.loop-before-test.false)) c.loop-before.invariant.caps_are lt
