use Rattle.std.proofs.Common.{get_or, []}
use Rattle.picture.proofs.RowLaws.{neighbours}
use Rattle.picture.proofs.laws.neighbours_differ.Goals as goal

pub returns : goal.returns
returns c = λ flows slots ports window rows port k d is lt. neighbours _ window.first window.last (get_or rows port []) k d (is.row port lt)
