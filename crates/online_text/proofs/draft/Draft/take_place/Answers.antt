use Rattle.std.proofs.Common.{◌≡◌, ◌+◌, length, arith, rules}
use Rattle.online_text.specs.Text.{order_line}
use Rattle.online_text.proofs.EpochSteps.{place_taken}
use Rattle.online_text.proofs.draft.Draft.take_place.Goals as goal

pub returns : goal.returns
returns c =
    let count : c.len.result ≡ length c.args.self.now.places.items = search rules in
    let line : c.args.line.now ≡ order_line (length c.args.self.now.places.items + 1) c.in-Some.place = rw count at c.in-Some.ensures.1 in
    place_taken c.args.self.now c.push.new.self c.in-Some.place c.args.line.now c.requires.draft c.requires.stage c.in_ok-push.ensures.items c.in-Some.ensures.0 line
    (omega (arith, count))
