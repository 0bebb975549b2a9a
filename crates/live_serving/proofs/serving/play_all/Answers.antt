use Rattle.std.proofs.Common.{ap, arith, length, List, Ok, Err, refl, sym, ◌∙◌}
use Rattle.std.proofs.lemmas.Result.{err_from_is_err_and}
use Rattle.workload.specs.declared.script.Round.{Round}
use Rattle.slot_runner.proofs.Sites.{still_at}
use Rattle.live_serving.proofs.EndingRuns.{all_done}
use Rattle.live_serving.proofs.WiresOn.{served_first, served_on}
use Rattle.live_serving.proofs.serving.play_all.Goals as goal

pub loop-done-init : goal.loop-done-init
loop-done-init g c =
    let h = c.requires.going in
    record {
      going = h;
      gates = c.requires.gates;
      wires = served_first g.W.Wire.faults g.W.Wire.runs c.args.stage.now.hall.now (Ok tt) c.args.crew.now.runner c.args.crew.now.wires refl h.drives.may h.drives.seen
          c.requires.wires;
      at = refl;
      places = refl;
    }

pub play_round-requires-clause-site : goal.play_round-requires-clause-site
play_round-requires-clause-site g c κs within =
    let i = c.loop-done.invariant in
    still_at c.args.stage.now.site.now c.args.crew.now c.loop-done.crew c.requires.site i.at i.places (i.going.drives.may.ports ∙ sym c.requires.going.drives.may.ports)

pub returns-in_err-play_round-clause-wires : goal.returns-in_err-play_round-clause-wires
returns-in_err-play_round-clause-wires g c =
    let (_, is, same) = err_from_is_err_and c.from_residual.result c.from_residual.ensures.1 in
    rw (is, same)
    (served_on g.W.Wire.faults g.W.Wire.runs c.args.stage.now.hall.now (Ok tt) (Err c.in_err-play_round.field-0.0) c.args.crew.now.runner c.loop-done.crew.runner
    c.play_round.new.crew.runner
    c.args.crew.now.wires c.loop-done.crew.wires c.play_round.new.crew.wires c.loop-done.invariant.wires c.in_err-play_round.ensures.wires)

pub loop-done-preserved : goal.loop-done-preserved
loop-done-preserved g c =
    let next = c.in_ok-play_round.ensures.going in
    record {
      going = next;
      gates = omega (arith, c.loop-done.invariant.gates, c.loop-done.invariant.going.seated.each, next.seated.each);
      wires = served_on g.W.Wire.faults g.W.Wire.runs c.args.stage.now.hall.now (Ok tt) (Ok tt) c.args.crew.now.runner c.loop-done.crew.runner c.play_round.new.crew.runner
          c.args.crew.now.wires
          c.loop-done.crew.wires c.play_round.new.crew.wires c.loop-done.invariant.wires c.in_ok-play_round.ensures.wires;
      at = c.play_round.ensures.stays.0 ∙ c.loop-done.invariant.at;
      places = c.play_round.ensures.stays.1 ∙ c.loop-done.invariant.places;
    }

pub returns-clause-ending : goal.returns-clause-ending
returns-clause-ending g c =
    all_done c.args.stage.now.hall.now c.args.stage.now.script.now c.args.stage.now.most c.loop-done.done c.loop-done.crew.runner c.loop-done.sessions c.loop-done.pulls.items
    c.loop-done.invariant.going
    (omega (arith, c.loop-done.auto.done-end, c.loop-done-test.false, ap (λ (l : List Round). length l) c.as_slice-done-end.ensures))

pub returns-in_err-play_round-clause-filled : goal.returns-in_err-play_round-clause-filled
returns-in_err-play_round-clause-filled g c =
    let (_, is, same) = err_from_is_err_and c.from_residual.result c.from_residual.ensures.1 in
    rw (is, same) c.in_err-play_round.ensures.filled

pub returns-clause-wires : goal.returns-clause-wires
returns-clause-wires g c = c.loop-done.invariant.wires
