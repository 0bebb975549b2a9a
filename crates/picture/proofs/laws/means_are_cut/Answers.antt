use Rattle.std.proofs.Common.{◌*◌}
use Rattle.std.proofs.Math.Nat.{div-mul-le_self, lt-div-mul-add}
use Rattle.std.proofs.lemmas.Grind.{div_ceil_times}
use Rattle.picture.proofs.laws.means_are_cut.Goals as goal

pub returns : goal.returns
returns c = record {
  enough = λ cost weight some. (div_ceil_times (10 * cost) weight some).0;
  least = λ cost weight some. (div_ceil_times (10 * cost) weight some).1;
  within = λ bound weight some. div-mul-le_self (10 * bound) weight;
  most = λ bound weight some. lt-div-mul-add some;
}
