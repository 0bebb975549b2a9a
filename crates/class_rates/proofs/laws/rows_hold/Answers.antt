use Rattle.std.proofs.Common.{refl}
use Rattle.class_rates.proofs.ClassRows.{orders_hold}
use Rattle.class_rates.proofs.laws.rows_hold.Goals as goal

pub returns-clause-along : goal.returns-clause-along
returns-clause-along c = record {
  three = refl;
  five = refl;
  two = refl;
}

pub returns-clause-loads : goal.returns-clause-loads
returns-clause-loads c = record {
  in_two = refl;
  in_three = refl;
  at_the_end = refl;
  no_load = refl;
  one = refl;
}

pub returns-clause-orders : goal.returns-clause-orders
returns-clause-orders c = orders_hold

pub returns-clause-caps : goal.returns-clause-caps
returns-clause-caps c = record {
  three_coflows_in_one = refl;
  three_coflows_in_two = refl;
  three_coflows_in_three = refl;
  ties_in_one = refl;
  ties_in_two = refl;
  weights_in_one = refl;
  weights_in_two = refl;
  weights_in_their_order = refl;
}
