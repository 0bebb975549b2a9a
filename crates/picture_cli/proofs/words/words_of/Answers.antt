use Rattle.std.proofs.Common.{◌∙◌, ap, codes, refl, subst, sym}
use Rattle.std.proofs.lemmas.Option.{IfSome_then}
use Rattle.clap.specs.Words.{first_value, found_of}
use Rattle.command_words.specs.Words.{is_used}
use Rattle.picture_cli.specs.Words.{IsSaid, PictureSaid, said_with}
use Rattle.picture_cli.proofs.words.words_of.Goals as goal

pub returns-in-None-true-clause-some : goal.returns-in-None-true-clause-some
returns-in-None-true-clause-some c = record {
  options = said_with c.in_ok-options.options (codes "");
  besides = c.in_ok-options.ensures.some (codes "");
  said_is = refl;
  no_report = sym c.in-None-true.ensures;
  asked = ap is_used (sym c.get_str.ensures) ∙ sym c.in-None-true.ensures';
}

pub returns-in-Some-false-clause-some : goal.returns-in-Some-false-clause-some
returns-in-Some-false-clause-some c =
    let v = first_value (found_of c.args.matches.now) in
    IfSome_then c.with_report.result c.with_report.ensures.some (λ w is. subst (λ (s : PictureSaid). IsSaid v s) (sym is.1) (record {
      besides = c.in_ok-options.ensures.some c.in-Some-false.report.now;
      report = sym c.in-Some-false.ensures;
      report_fits = is.0;
      unasked = ap is_used (sym c.get_str.ensures) ∙ sym c.in-Some-false.ensures';
    }))
