use Rattle.std.proofs.Common.{◌≡◌, ◌∙◌, true, sym}
use Rattle.picture.specs.Marks.{has_marks}
use Rattle.picture.proofs.TextSteps.{more}
use Rattle.picture.proofs.marks.push_marks.Goals as goal

pub returns : goal.returns
returns c =
    let t = c.args.text.now.items in
    let high : has_marks c.args.picture.now ≡ true = sym c.has_marks.ensures ∙ c.if-not-has_marks.false in
    rw high (more t _ _ (more t _ _ c.in_ok-extend_from_slice.ensures.items c.in_ok-push_all.ensures) c.in_ok-extend_from_slice-2.ensures.items)
