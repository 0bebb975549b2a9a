use Rattle.report_text.proofs.TextSteps.{named_written}
use Rattle.report_text.proofs.numbers.push_named.Goals as goal

pub returns : goal.returns
returns c =
    named_written c.args.name.now c.args.number c.args.text.now.items c.extend_from_slice.new.self.items c.push_number.new.text.items c.extend_from_slice-2.new.self.items
    c.in_ok-extend_from_slice.ensures.items c.in_ok-push_number.ensures c.in_ok-extend_from_slice-2.ensures.items
