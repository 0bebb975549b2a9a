use Rattle.std.proofs.Common.{rules}
use Rattle.errands.proofs.Steps.{begins_on, starts}
use Rattle.errands.proofs.tray.Tray.new.Goals as goal

pub vacant-requires : goal.vacant-requires
vacant-requires g c = starts g.T.Errand.fits g.T.Errand.done _

pub store-requires : goal.store-requires
store-requires g c = (search rules, search rules, begins_on _ _ _ _ _ _ (search rules) (search rules) (search rules))
