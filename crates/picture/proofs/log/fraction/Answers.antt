use Rattle.std.proofs.Common.{◌≡◌, ◌+◌, ◌-◌, suc, arith, subst}
use Rattle.picture.proofs.LogSteps.{HasBits, all_bits, bit_high, bit_low, few_bits, fits, no_bits}
use Rattle.picture.proofs.log.fraction.Goals.{then-square-ge4294967296, else-square-ge4294967296}
use Rattle.picture.proofs.log.fraction.Goals as goal

pub loop-init : goal.loop-init
loop-init c = no_bits c.args.start c.requires.from c.requires.below

pub overflow_mul-square : goal.overflow_mul-square
overflow_mul-square c = omega (arith, fits c.args.start c.loop.number c.loop.bits (10 - c.loop.counter) c.loop.invariant)

pub loop-preserved : goal.loop-preserved
loop-preserved c =
    let one_left : 10 - c.loop.counter ≡ suc (10 - (c.loop.counter + 1)) = omega arith in
    let has : HasBits c.args.start c.loop.number c.loop.bits (suc (10 - (c.loop.counter + 1))) =
    subst (HasBits c.args.start c.loop.number c.loop.bits) one_left c.loop.invariant in
    elim c.if-square-ge4294967296.branch [
      | then-square-ge4294967296 w ↦
          rw (w.number-is, w.bits-is) (bit_high c.args.start c.loop.number c.loop.bits (10 - (c.loop.counter + 1)) has w.if-square-ge4294967296.true)
      | else-square-ge4294967296 w ↦
          rw (w.number-is, w.bits-is) (bit_low c.args.start c.loop.number c.loop.bits (10 - (c.loop.counter + 1)) has w.if-square-ge4294967296.false)
    ]

pub returns : goal.returns
returns c =
    let none_left : 10 - c.loop.counter ≡ 0 = omega arith in
    record {
      fraction = all_bits c.args.start c.loop.number c.loop.bits (subst (HasBits c.args.start c.loop.number c.loop.bits) none_left c.loop.invariant);
      small = few_bits c.args.start c.loop.number c.loop.bits (10 - c.loop.counter) c.loop.invariant;
    }
