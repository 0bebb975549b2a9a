use Rattle.std.proofs.Common.{◌≡◌, ◌+◌, length, arith, rules}
use Rattle.report_text.specs.Text.{place_line}
use Rattle.report_text.proofs.DraftSteps.{place_taken}
use Rattle.report_text.proofs.draft.Draft.take_place.Goals as goal

pub returns : goal.returns
returns c =
    let count : c.len.result ≡ length c.args.self.now.places.items = search rules in
    let line : c.args.line.now ≡ place_line (length c.args.self.now.places.items + 1) c.in-Some.place c.in-Some.weight = rw count at c.in-Some.ensures.2 in
    place_taken c.args.self.now c.push.new.self c.push_weight.new.weights c.in-Some.place c.in-Some.weight c.args.line.now c.requires.draft c.requires.stage
    c.in_ok-push.ensures.items c.in_ok-push_weight.ensures c.in-Some.ensures.0 c.in-Some.ensures.1 line (omega (arith, count))
