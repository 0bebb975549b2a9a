use Rattle.std.proofs.Common.{◌≡◌, ap, subst, ◌∙◌}
use Rattle.epochs.specs.Course.{Course}
use Rattle.epochs.specs.Course.{IsLaterArrival}
use Rattle.std.specs.Prelude.{None}
use Rattle.epochs.proofs.NextStops.{none_comes}
use Rattle.epochs.proofs.epochs.Epochs.idle_action.Goals as goal

pub returns-in-None : goal.returns-in-None
returns-in-None c =
    let s = c.args.self.now in
    let arrivals : c.deref.result.now ≡ s.arrivals = c.deref.ensures.value ∙ ap (λ (x : Course). x.arrivals) c.self.view_is in
    let none : IsLaterArrival s.arrivals c.args.time None = subst (λ xs. IsLaterArrival xs c.args.time None) arrivals c.in-None.ensures in
    none_comes s c.args.time c.requires.joined none
