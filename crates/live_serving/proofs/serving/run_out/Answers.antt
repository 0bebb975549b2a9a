use Rattle.std.proofs.Common.{Ok, Err, ap, refl, subst, sym, ◌∙◌}
use Rattle.std.proofs.lemmas.Result.{err_from_is_err_and}
use Rattle.live_serving.specs.Openings.{IsOpening}
use Rattle.slot_runner.proofs.Sites.{still_at}
use Rattle.live_serving.proofs.EndingRuns.{ending_filled, ending_on, ends, slots_fall}
use Rattle.live_serving.proofs.OpeningSteps.{stop_in}
use Rattle.live_serving.proofs.WiresOn.{served_err, served_first, served_on, served_still}
use Rattle.live_serving.proofs.serving.run_out.Goals as goal

pub runs-init : goal.runs-init
runs-init g c =
    let h = c.requires.ending in
    record {
      ending = h;
      wires = served_first g.W.Wire.faults g.W.Wire.runs c.args.stage.now.hall.now (Ok tt) c.args.crew.now.runner c.args.crew.now.wires refl h.drives.may h.drives.seen
          c.requires.wires;
      at = refl;
      places = refl;
    }

pub open_once-requires-clause-site : goal.open_once-requires-clause-site
open_once-requires-clause-site g c =
    let i = c.runs.invariant in
    still_at c.args.stage.now.site.now c.args.crew.now c.runs.crew c.requires.site i.at i.places
    (i.ending.drives.may.ports ∙ sym c.requires.ending.drives.may.ports)

pub returns-in_err-some-clause-filled : goal.returns-in_err-some-clause-filled
returns-in_err-some-clause-filled g c = λ e.
    let (_, is, same) = err_from_is_err_and c.from_residual.result c.from_residual.ensures.1 in
    ending_filled c.args.stage.now.hall.now c.args.stage.now.script.now c.args.stage.now.most c.runs.crew.runner c.open_once.new.crew.runner c.args._sessions.now c.args._pulls.now
    c.runs.invariant.ending
    c.open_once.ensures.wires.may
    (subst (λ s. IsOpening c.args.stage.now.hall.now c.args.stage.now.most c.runs.crew.runner c.open_once.new.crew.runner (Err s)) (sym same ∙ ap stop_in (sym is ∙ e))
    c.in_err-some.ensures.opening)

pub returns-in_err-some-clause-wires : goal.returns-in_err-some-clause-wires
returns-in_err-some-clause-wires g c =
    let (_, is, same) = err_from_is_err_and c.from_residual.result c.from_residual.ensures.1 in
    rw (is, same)
    (served_err g.W.Wire.faults g.W.Wire.runs c.args.stage.now.hall.now c.in_err-some.field-0.0 c.args.crew.now.runner c.open_once.new.crew.runner c.args.crew.now.wires
    c.open_once.new.crew.wires
    (served_on g.W.Wire.faults g.W.Wire.runs c.args.stage.now.hall.now (Ok tt) (Err c.in_err-some.field-0.0) c.args.crew.now.runner c.runs.crew.runner c.open_once.new.crew.runner
    c.args.crew.now.wires
    c.runs.crew.wires c.open_once.new.crew.wires c.runs.invariant.wires c.in_err-some.ensures.wires))

pub returns-then-not-some-clause-ended : goal.returns-then-not-some-clause-ended
returns-then-not-some-clause-ended g c =
    ends c.args.stage.now.hall.now c.args.stage.now.script.now c.args.stage.now.most c.runs.crew.runner c.open_once.new.crew.runner c.args._sessions.now c.args._pulls.now
    c.runs.invariant.ending
    c.open_once.ensures.wires.may
    (subst (λ some. IsOpening c.args.stage.now.hall.now c.args.stage.now.most c.runs.crew.runner c.open_once.new.crew.runner (Ok some)) c.if-not-some.true
    c.in_ok-some.ensures.opening)

pub returns-then-not-some-clause-wires : goal.returns-then-not-some-clause-wires
returns-then-not-some-clause-wires g c =
    let h = c.open_once.ensures.wires in
    served_still g.W.Wire.faults g.W.Wire.runs c.args.stage.now.hall.now (Ok c.in_ok-some.some) (Ok tt) c.args.crew.now.runner c.open_once.new.crew.runner
    c.open_once.new.crew.runner c.args.crew.now.wires
    c.open_once.new.crew.wires refl h.may refl
    (served_on g.W.Wire.faults g.W.Wire.runs c.args.stage.now.hall.now (Ok tt) (Ok c.in_ok-some.some) c.args.crew.now.runner c.runs.crew.runner c.open_once.new.crew.runner
    c.args.crew.now.wires c.runs.crew.wires
    c.open_once.new.crew.wires c.runs.invariant.wires c.in_ok-some.ensures.wires)

pub runs-smaller : goal.runs-smaller
runs-smaller g c =
    let h = subst (λ some. IsOpening c.args.stage.now.hall.now c.args.stage.now.most c.runs.crew.runner c.open_once.new.crew.runner (Ok some)) c.if-not-some.false
    c.in_ok-some.ensures.opening in
    slots_fall c.args.stage.now.hall.now c.args.stage.now.script.now c.args.stage.now.most c.runs.crew.runner c.open_once.new.crew.runner c.args._sessions.now c.args._pulls.now
    c.runs.invariant.ending h.0 h.1 h.2
    c.open_once.ensures.wires.may

pub runs-preserved : goal.runs-preserved
runs-preserved g c =
    let h = subst (λ some. IsOpening c.args.stage.now.hall.now c.args.stage.now.most c.runs.crew.runner c.open_once.new.crew.runner (Ok some)) c.if-not-some.false
    c.in_ok-some.ensures.opening in
    let may = c.open_once.ensures.wires.may in
    record {
      ending = ending_on c.args.stage.now.hall.now c.args.stage.now.script.now c.args.stage.now.most c.runs.crew.runner c.open_once.new.crew.runner c.args._sessions.now
          c.args._pulls.now c.runs.invariant.ending
          h.0 h.1 h.2 may;
      wires = served_still g.W.Wire.faults g.W.Wire.runs c.args.stage.now.hall.now (Ok c.in_ok-some.some) (Ok tt) c.args.crew.now.runner c.open_once.new.crew.runner
          c.open_once.new.crew.runner
          c.args.crew.now.wires c.open_once.new.crew.wires refl may refl
          (served_on g.W.Wire.faults g.W.Wire.runs c.args.stage.now.hall.now (Ok tt) (Ok c.in_ok-some.some) c.args.crew.now.runner c.runs.crew.runner c.open_once.new.crew.runner
          c.args.crew.now.wires
          c.runs.crew.wires c.open_once.new.crew.wires c.runs.invariant.wires c.in_ok-some.ensures.wires);
      at = c.open_once.ensures.stays.0 ∙ c.runs.invariant.at;
      places = c.open_once.ensures.stays.1 ∙ c.runs.invariant.places;
    }
