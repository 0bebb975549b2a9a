use Rattle.std.proofs.Common.{List, Ok, sym, subst, ◌∙◌}
use Rattle.std.specs.Prelude.{OnOk}
use Rattle.std.proofs.lemmas.Result.{err_from_is_err_and}
use Rattle.live_rounds.specs.declared.answer.PullDone.{PullDone}
use Rattle.live_serving.specs.Going.{IsEnded}
use Rattle.slot_runner.proofs.Sites.{still_at}
use Rattle.live_serving.proofs.WiresOn.{served_on}
use Rattle.live_serving.proofs.serving.serve.Goals as goal

pub run_out-requires-clause-site : goal.run_out-requires-clause-site
run_out-requires-clause-site g c =
    let s = c.play_all.ensures.stays in
    still_at c.args.stage.now.site.now c.args.crew.now c.play_all.new.crew c.requires.site s.0 s.1
    (c.play_all.ensures.wires.may.ports ∙ sym c.requires.going.drives.may.ports)

pub returns-clause-wires : goal.returns-clause-wires
returns-clause-wires g c =
    served_on g.W.Wire.faults g.W.Wire.runs c.args.stage.now.hall.now (Ok tt) c.run_out.result c.args.crew.now.runner c.play_all.new.crew.runner c.run_out.new.crew.runner
    c.args.crew.now.wires
    c.play_all.new.crew.wires c.run_out.new.crew.wires c.in_ok-play_all.ensures.wires c.run_out.ensures.wires

pub returns-in_err-play_all-clause-filled : goal.returns-in_err-play_all-clause-filled
returns-in_err-play_all-clause-filled g c =
    let (_, is, same) = err_from_is_err_and c.from_residual.result c.from_residual.ensures.1 in
    rw (is, same) c.in_err-play_all.ensures.filled

pub returns-in_err-play_all-clause-wires : goal.returns-in_err-play_all-clause-wires
returns-in_err-play_all-clause-wires g c =
    let (_, is, same) = err_from_is_err_and c.from_residual.result c.from_residual.ensures.1 in
    rw (is, same) c.in_err-play_all.ensures.wires

pub returns-clause-ended : goal.returns-clause-ended
returns-clause-ended g c =
    subst (λ (l : List PullDone). OnOk c.run_out.result (IsEnded c.args.stage.now.hall.now c.args.stage.now.script.now c.args.stage.now.most c.run_out.new.crew.runner.driver
    c.play_all.new.sessions l))
    c.deref.ensures.value c.run_out.ensures.ended

pub returns-clause-filled : goal.returns-clause-filled
returns-clause-filled g c = c.run_out.ensures.filled
