use Rattle.std.proofs.Common.{min, refl, ap, ◌∙◌, arith}
use Rattle.coflow_units.specs.Certificate.{used}
use Rattle.port_load.proofs.KeptSteps.{nought_at}
use Rattle.dual_cert.proofs.FirstPlaces.{entries_whole, port_in}
use Rattle.dual_cert.proofs.BudgetSteps.{most, place_paid}
use Rattle.dual_cert.proofs.budgets.payments.Goals as goal

pub loop-place-init : goal.loop-place-init
loop-place-init c = record { len = refl; paid = λ flows k has lt. omega (arith, nought_at 4096 k) }

pub pay_at-requires-clause-port_in : goal.pay_at-requires-clause-port_in
pay_at-requires-clause-port_in c = port_in c.args.loads.now c.args.charges.now c.loop-place.place c.requires.certificate (omega arith)

pub loop-place-preserved : goal.loop-place-preserved
loop-place-preserved c = record {
  len = omega (arith, c.loop-place.invariant.len, c.pay_at.auto.paid);
  paid = place_paid c.args.loads.now c.args.charges.now c.loop-place.place c.loop-place.paid c.pay_at.new.paid c.requires.certificate c.loop-place.invariant.paid (omega arith)
      c.pay_at.ensures;
}

pub returns : goal.returns
returns c = λ flows k has lt. c.loop-place.invariant.paid flows k has lt ∙ ap (λ l. min (used flows l k) most) (entries_whole c.loop-place.place c.args.charges.now (omega arith))
