use Rattle.std.proofs.Common.{◌≡◌, ◌+◌, length, arith, rules}
use Rattle.online_text.specs.Text.{release_line}
use Rattle.online_text.proofs.ListSteps.{release_taken}
use Rattle.online_text.proofs.draft.Draft.take_release.Goals as goal

pub returns : goal.returns
returns c =
    let count : c.len.result ≡ length c.args.self.now.release.items = search rules in
    let line : c.args.line.now ≡ release_line (length c.args.self.now.release.items + 1) c.in-Some.place = rw count at c.in-Some.ensures.1 in
    release_taken c.args.self.now c.push.new.self c.in-Some.place c.args.line.now c.requires.draft c.requires.stage c.in_ok-push.ensures.items c.in-Some.ensures.0 line
    (omega (arith, count))
