use Rattle.std.proofs.Common.{◌≡◌, ◌+◌, ◌++◌}
use Rattle.report_text.specs.Text.{charge_words, place_at, weight_at}
use Rattle.report_text.proofs.TextSteps.{place_written}
use Rattle.report_text.proofs.writing.push_place.Goals as goal

pub returns : goal.returns
returns c =
    let r = c.args.report.now in
    let k = c.args.place in
    let charge : c.push_charge.new.text.items ≡ c.push_number.new.text.items ++ charge_words (place_at r.places k) = rw c.as_slice.ensures at c.in_ok-push_charge.ensures in
    place_written (k + 1) (place_at r.places k) (weight_at r.weights k) c.args.text.now.items c.extend_from_slice.new.self.items c.push_number.new.text.items
    c.push_charge.new.text.items c.push_weight.new.text.items c.extend_from_slice-2.new.self.items c.in_ok-extend_from_slice.ensures.items c.in_ok-push_number.ensures charge
    c.in_ok-push_weight.ensures c.in_ok-extend_from_slice-2.ensures.items
