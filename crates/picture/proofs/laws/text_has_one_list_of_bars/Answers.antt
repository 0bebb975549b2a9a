use Rattle.picture.proofs.ReadBack.{one_list_of_bars}
use Rattle.picture.proofs.laws.text_has_one_list_of_bars.Goals as goal

pub returns : goal.returns
returns c = one_list_of_bars
