use Rattle.std.proofs.Common.{◌*◌}
use Rattle.std.proofs.lemmas.Grind.{div_ceil_times}
use Rattle.picture.proofs.laws.ratio_is_cut_upwards.Goals as goal

pub returns : goal.returns
returns c = record {
  enough = λ cost bound some. (div_ceil_times (100 * cost) bound some).0;
  least = λ cost bound some. (div_ceil_times (100 * cost) bound some).1;
}
