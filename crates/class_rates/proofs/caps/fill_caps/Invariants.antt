-- the loads and the caps are those of the classes so far
use Rattle.std.proofs.Common.{◌≡◌, ◌+◌, length}
use Rattle.coflow_units.specs.declared.fabric.Side.TheVariants.{Egress, Ingress}
use Rattle.class_rates.specs.Tallies.{HasCapsBelow, HasLoadsBelow}
use Rattle.class_rates.proofs.caps.fill_caps.Given as goal

abbrev pub invariant-loop-before : goal.invariant-loop-before
invariant-loop-before l = record {
  ingress_len : length l.ingress ≡ length l.fn.ingress;
  egress_len : length l.egress ≡ length l.fn.egress;
  caps_len : length l.caps ≡ length l.numbers;
  ingress_is : HasLoadsBelow l.flows l.numbers (l.before + 1) Ingress l.ingress;
  egress_is : HasLoadsBelow l.flows l.numbers (l.before + 1) Egress l.egress;
  caps_are : HasCapsBelow l.flows l.numbers (l.before + 1) l.caps;
}
