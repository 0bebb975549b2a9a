use Rattle.std.proofs.Common.{◌≡◌, ltb, true, arith}
use Rattle.std.proofs.lemmas.Bool.{lt-ltb}
use Rattle.picture.proofs.TextSteps.{more}
use Rattle.picture.proofs.run_title.push_ratio.Goals as goal

pub returns : goal.returns
returns c =
    let t = c.args.text.now.items in
    let some : ltb c.args.costs.arrivals c.args.costs.total ≡ true = lt-ltb c.args.costs.arrivals c.args.costs.total (omega (arith, c.if-costs.false)) in
    rw some (more t _ _ (more t _ _ (c.in_ok-extend_from_slice.ensures.items)
    (rw (c.hundredths.ensures, c.saturating_sub-cost.ensures) at c.in_ok-push_two_digits.ensures))
    (c.in_ok-extend_from_slice-2.ensures.items))
