use Rattle.std.proofs.Common.{◌≡◌, ◌++◌}
use Rattle.std.specs.Prelude.{codes, decimal}
use Rattle.report_text.proofs.TextSteps.{grown}
use Rattle.report_text.proofs.numbers.push_number.Goals as goal

pub returns : goal.returns
returns c =
    let digits : c.extend_from_slice-2.new.self.items ≡ c.extend_from_slice.new.self.items ++ decimal c.args.number =
    rw (c.as_bytes.ensures.value, c.format.ensures.text) at c.in_ok-extend_from_slice-2.ensures.items in
    grown c.args.text.now.items c.extend_from_slice.new.self.items c.extend_from_slice-2.new.self.items (codes " ") (decimal c.args.number)
    c.in_ok-extend_from_slice.ensures.items digits
