use Rattle.std.proofs.Common.{◌≡◌, ◌≤◌, sym, ap, subst, ◌∙◌, arith}
use Rattle.epochs.specs.Course.{Course}
use Rattle.epochs.specs.Course.{IsLaterArrival, IsNextArrival, IsNextStop}
use Rattle.std.specs.Prelude.{None}
use Rattle.epochs.proofs.NextStops.{next_start, stop_with_arrival, stop_without_arrival}
use Rattle.epochs.proofs.epochs.Epochs.next_stop.Goals as goal

pub returns-in-Some : goal.returns-in-Some
returns-in-Some c =
    let s = c.args.self.now in
    let every : c.self.inside.every ≡ s.every = ap (λ (x : Course). x.every) c.self.view_is in
    let arrivals : c.deref.result.now ≡ s.arrivals = c.deref.ensures.value ∙ ap (λ (x : Course). x.arrivals) c.self.view_is in
    let some : 1 ≤ s.every = omega (arith, c.self.invariant.epoch_some, every) in
    let next : IsNextArrival s.arrivals c.args.time c.in-Some.at = subst (λ xs. IsNextArrival xs c.args.time c.in-Some.at) arrivals c.in-Some.ensures in
    stop_with_arrival s c.args.time c.in-Some.at c.min.result some next (rw every at c.min.ensures)

pub returns-in-None : goal.returns-in-None
returns-in-None c =
    let s = c.args.self.now in
    let every : c.self.inside.every ≡ s.every = ap (λ (x : Course). x.every) c.self.view_is in
    let arrivals : c.deref.result.now ≡ s.arrivals = c.deref.ensures.value ∙ ap (λ (x : Course). x.arrivals) c.self.view_is in
    let some : 1 ≤ s.every = omega (arith, c.self.invariant.epoch_some, every) in
    let none : IsLaterArrival s.arrivals c.args.time None = subst (λ xs. IsLaterArrival xs c.args.time None) arrivals c.in-None.ensures in
    subst (λ n. IsNextStop s c.args.time (next_start n c.args.time)) (sym every) (stop_without_arrival s c.args.time some none)
