use Rattle.std.proofs.Common.{rules, ◌≡◌, Some, sym, ap, subst}
use Rattle.crews.specs.Parts.{IsAttended}
use Rattle.crews.proofs.serving.help.Goals as goal

pub answer-requires-clause-done : goal.answer-requires-clause-done
answer-requires-clause-done g c =
    let took : c.next-in-loop.new.helper ≡ (record c.loop.helper { out = Some c.in-Some-next.part }) = search rules in
    let about : c.next-in-loop.new.helper.about ≡ c.args.board.now = search rules in (
      c.in-Some-next.part,
      ap (λ e. e.out) took,
      subst (λ b. IsAttended g.W.Wire.faults g.W.Wire.runs b c.in-Some-next.part c.attended-part.result) (sym about)
          c.attended-part.ensures,
    )
