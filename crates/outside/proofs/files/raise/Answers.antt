use Rattle.std.proofs.Common.{◌<◌, length, refl, arith}
use Rattle.outside.proofs.FileSteps.{same_names, same_contents, kept_count, later_counts, risen_count}
use Rattle.outside.proofs.files.raise.Goals as goal

pub returns-then-number-files-clause-names : goal.returns-then-number-files-clause-names
returns-then-number-files-clause-names c = same_names c.args.files.now c.args.number _ c.index-files-number.result refl

pub returns-then-number-files-clause-contents : goal.returns-then-number-files-clause-contents
returns-then-number-files-clause-contents c = same_contents c.args.files.now c.args.number _ c.index-files-number.result refl

pub returns-then-number-files-clause-later : goal.returns-then-number-files-clause-later
returns-then-number-files-clause-later c =
    let inside : c.args.number < length c.args.files.now = omega arith in
    later_counts c.args.files.now c.args.number c.args.counts.now.missing _ c.index-files-number.result inside (omega (arith, c.saturating_add-file.ensures))

pub returns-then-number-files-clause-rose : goal.returns-then-number-files-clause-rose
returns-then-number-files-clause-rose c =
    let inside : c.args.number < length c.args.files.now = omega arith in
    risen_count c.args.files.now c.args.number c.args.counts.now.missing _ c.index-files-number.result inside c.saturating_add-file.ensures

pub returns-then-number-files-clause-others : goal.returns-then-number-files-clause-others
returns-then-number-files-clause-others c = λ k other within.
    let inside : c.args.number < length c.args.files.now = omega arith in
    kept_count c.args.files.now c.args.number c.args.counts.now.missing _ inside k other
