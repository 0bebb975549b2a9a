-- The place of the port is that of its units.
use Rattle.std.proofs.Common.{◌==◌, get_or, sym, ◌∙◌}
use Rattle.std.proofs.lemmas.Bool.{eqb-true}
use Rattle.std.proofs.lemmas.List.Quantifiers.{position-Some}
use Rattle.std.proofs.lemmas.Option.{same_Some}
use Rattle.slot_runner.proofs.Apart.{none_listed}
use Rattle.slot_runner.proofs.settling.units_at.Goals as goal

pub returns-in_err-place-clause-none : goal.returns-in_err-place-clause-none
returns-in_err-place-clause-none c = λ none has. none_listed c.args.ports.now c.args.port (sym c.find_place.ensures ∙ c.in_err-place.was) has

pub returns-clause-found : goal.returns-clause-found
returns-clause-found c = λ units e.
    let k = c.in_ok-place.place in
    let (low, here, before) = position-Some (λ p. p == c.args.port) c.args.ports.now k 0 (sym c.find_place.ensures ∙ c.in_ok-place.was) in
    (k, low, eqb-true (get_or c.args.ports.now k 0) c.args.port here, same_Some (get_or c.args.sent.now k 0) units e)
