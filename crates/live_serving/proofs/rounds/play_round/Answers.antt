use Rattle.std.proofs.Common.{◌+◌, ◌++◌, ap, refl, subst, sym, ◌∙◌, slice_index_or, Err}
use Rattle.std.proofs.lemmas.Result.{err_from_is_err_and}
use Rattle.client_session.specs.Levels.{IsLevel}
use Rattle.client_session.specs.Models.{DriverModel}
use Rattle.live_serving.specs.Going.{IsGoing}
use Rattle.live_serving.specs.Openings.{GoesOn}
use Rattle.live_serving.specs.Playing.{HasPlayed, Settles}
use Rattle.live_serving.proofs.GoingOn.{never_out, next_going, stop_filled}
use Rattle.live_serving.proofs.OpeningSteps.{stop_in}
use Rattle.live_serving.proofs.WiresOn.{served_stop}
use Rattle.live_serving.proofs.rounds.play_round.Goals as goal

pub pulls_of-requires : goal.pulls_of-requires
pulls_of-requires g c =
    let r = c.index-as_slice-done.result in
    record {
      never_spent = never_out c.args.stage.now.hall.now c.args.stage.now.script.now c.args.stage.now.most c.args.done c.args.crew.now.runner c.advance-came.new.crew.runner
          c.args.sessions.now
          c.advance-came.new.sessions c.args.pulls.now.items r c.requires.going c.requires.one_more
          (c.index-as_slice-done.is ∙ ap (λ l. slice_index_or l c.args.done r) c.as_slice.ensures) c.advance-came.ensures.wires.may c.advance-came.result.0
          c.advance-came.ensures.clients;
    }

pub returns-in_err-more-clause-filled : goal.returns-in_err-more-clause-filled
returns-in_err-more-clause-filled g c = λ e.
    let r = c.index-as_slice-done.result in
    let (_, is, same) = err_from_is_err_and c.from_residual.result c.from_residual.ensures.1 in
    stop_filled c.args.stage.now.hall.now c.args.stage.now.script.now c.args.stage.now.most c.args.done c.args.crew.now.runner c.advance-came.new.crew.runner c.args.sessions.now
    c.advance-came.new.sessions
    c.args.pulls.now.items r c.requires.going c.requires.one_more (c.index-as_slice-done.is ∙ ap (λ l. slice_index_or l c.args.done r) c.as_slice.ensures)
    c.advance-came.ensures.wires.may c.advance-came.result.0 c.advance-came.result.1
    (subst (λ s. Settles c.advance-came.result (Err s)) (sym same ∙ ap stop_in (sym is ∙ e)) c.in_err-more.ensures) c.advance-came.ensures.clients
    c.advance-came.ensures.driver

pub returns-in_err-more-clause-wires : goal.returns-in_err-more-clause-wires
returns-in_err-more-clause-wires g c =
    let (_, is, same) = err_from_is_err_and c.from_residual.result c.from_residual.ensures.1 in
    rw (is, same)
    (served_stop g.W.Wire.faults g.W.Wire.runs c.args.stage.now.hall.now c.advance-came.result.0 c.advance-came.result.1 c.in_err-more.field-0.0 c.args.crew.now.runner
    c.advance-came.new.crew.runner c.args.crew.now.wires c.advance-came.new.crew.wires c.in_err-more.ensures c.advance-came.ensures.wires)

pub returns-clause-going : goal.returns-clause-going
returns-clause-going g c =
    let r = c.index-as_slice-done.result in
    let mid = c.advance-came.new.crew.runner in
    let new = record mid { driver = c.level.new.driver } in
    let settled = c.in_ok-more.ensures in
    let level = subst (λ (d : DriverModel). IsLevel d c.level.new.driver c.advance-came.new.sessions c.level.new.sessions) c.driver.ensures.driver c.level.ensures.level in
    let items = c.in_ok-extend_from_slice.ensures.items ∙ ap (λ l. c.args.pulls.now.items ++ l) c.deref.ensures.value in
    subst (IsGoing c.args.stage.now.hall.now c.args.stage.now.script.now c.args.stage.now.most (c.args.done + 1) new c.level.new.sessions) (sym items)
    (next_going c.args.stage.now.hall.now c.args.stage.now.script.now c.args.stage.now.most c.args.done c.args.crew.now.runner mid c.args.sessions.now c.advance-came.new.sessions
    c.args.pulls.now.items r
    c.requires.going c.requires.one_more (c.index-as_slice-done.is ∙ ap (λ l. slice_index_or l c.args.done r) c.as_slice.ensures) c.advance-came.ensures.wires.may new
    c.level.new.sessions c.in_ok-more.more settled.1
    (subst (HasPlayed c.args.stage.now.hall.now r.lines c.args.sessions.now c.advance-came.new.sessions) settled.0 c.advance-came.ensures.clients)
    (subst (GoesOn c.args.stage.now.hall.now c.args.stage.now.most r.runs c.args.crew.now.runner mid) settled.2 c.advance-came.ensures.driver) level refl)
