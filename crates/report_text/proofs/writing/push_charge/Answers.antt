use Rattle.std.proofs.Common.{◌≡◌, ◌++◌}
use Rattle.std.specs.Prelude.{OnOk}
use Rattle.report_text.specs.Text.{side_word}
use Rattle.coflow_units.specs.Text.{spaced}
use Rattle.report_text.proofs.TextSteps.{charge_written}
use Rattle.report_text.proofs.writing.push_charge.Goals as goal

pub returns : goal.returns
returns c =
    let p = c.args.line in
    let id : c.push_number.new.text.items ≡ c.args.text.now.items ++ spaced p.id = rw c.from.ensures at c.in_ok-push_number.ensures in
    let side : c.extend_from_slice-2.new.self.items ≡ c.extend_from_slice.new.self.items ++ side_word p.port.side =
    rw c.word_of.ensures at c.in_ok-extend_from_slice-2.ensures.items in
    let number : c.push_number-2.new.text.items ≡ c.extend_from_slice-2.new.self.items ++ spaced p.port.number = rw c.from-2.ensures at c.in_ok-push_number-2.ensures in
    let done : OnOk c.push_number-4.result (c.push_number-4.new.text.items ≡ c.push_number-3.new.text.items ++ spaced p.done) = rw c.from-3.ensures at c.push_number-4.ensures in
    charge_written c.push_number-4.result p c.args.text.now.items c.push_number.new.text.items c.extend_from_slice.new.self.items c.extend_from_slice-2.new.self.items
    c.push_number-2.new.text.items c.push_number-3.new.text.items c.push_number-4.new.text.items id c.in_ok-extend_from_slice.ensures.items side number
    c.in_ok-push_number-3.ensures done
