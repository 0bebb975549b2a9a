use Rattle.std.proofs.Common.{◌≡◌, ltb, true, arith}
use Rattle.std.proofs.lemmas.Bool.{lt-ltb}
use Rattle.picture.specs.Means.{weight_sum}
use Rattle.picture.proofs.TextSteps.{more}
use Rattle.picture.proofs.means.push_title.Goals as goal

pub returns : goal.returns
returns c =
    let t = c.args.text.now.items in
    let some : ltb 0 (weight_sum c.args.picture.now) ≡ true =
    lt-ltb 0 (weight_sum c.args.picture.now) (omega (arith, c.weight_sum-weight.ensures, c.if-weight-eq0.false)) in
    rw some (more t _ _ (more t _ _ (more t _ _ (more t _ _ (more t _ _ (more t _ _ c.in_ok-extend_from_slice.ensures.items
    (rw c.mean_words.ensures at c.in_ok-extend_from_slice-2.ensures.items))
    c.in_ok-extend_from_slice-3.ensures.items)
    (rw (c.tenths_up.ensures, c.weight_sum-weight.ensures) at c.in_ok-push_one_digit.ensures))
    c.in_ok-extend_from_slice-4.ensures.items)
    (rw (c.tenths_down.ensures, c.weight_sum-weight.ensures) at c.in_ok-push_one_digit-2.ensures))
    c.in_ok-extend_from_slice-5.ensures.items)
