use Rattle.picture_cli.proofs.PictureFacts.{means_of, near_best}
use Rattle.picture_cli.proofs.laws.title_bounds_every_schedule.Goals as goal

pub returns : goal.returns
returns c = record { ratio = near_best; means = means_of }
