use Rattle.stats_cli.proofs.NumberFacts.{rests_on}
use Rattle.stats_cli.proofs.numbers.text_of.Goals as goal

pub text_of_right-requires-clause-rests : goal.text_of_right-requires-clause-rests
text_of_right-requires-clause-rests c =
    rests_on c.yes_bounds_released_schedules.ensures.total c.args.input.now.table c.args.input.now.weights c.args.words.slot_ms c.args.report.now
    c.requires.report c.in_ok-check_report.ensures.accepted

pub returns-clause-numbers : goal.returns-clause-numbers
returns-clause-numbers c =
    let accepted = c.in_ok-check_report.ensures.accepted in
    let (coflows, are, text) = c.in_ok-text.ensures in
    record {
      accepted = accepted;
      rests = rests_on c.yes_bounds_released_schedules.ensures.total c.args.input.now.table c.args.input.now.weights c.args.words.slot_ms c.args.report.now
          c.requires.report accepted;
      coflows = coflows;
      coflows_are = are;
      text_is = text;
    }
