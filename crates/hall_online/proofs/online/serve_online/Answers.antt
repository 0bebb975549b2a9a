use Rattle.std.proofs.Common.{◌∙◌, reverse, sym, subst}
use Rattle.slot_runner.specs.Wires.{AreAllUnits, HaveMore}
use Rattle.online_runs.specs.Input.{online_opening}
use Rattle.online_runs.proofs.Releases.{all_within, lines_turned}
use Rattle.hall_online.proofs.Begins.{told_so}
use Rattle.hall_online.proofs.online.serve_online.Goals as goal

pub told-requires-clause-places : goal.told-requires-clause-places
told-requires-clause-places g c =
    all_within c.args.table.now c.args.weights.now c.in_ok-released.released.places.items c.in_ok-released.ensures.certificate.certificate

pub returns-clause-online : goal.returns-clause-online
returns-clause-online g c =
    let made = c.in_ok-released.released in
    told_so (online_opening c.args.table.now c.args.weights.now) c.args.arrivals.now c.args.every c.in_ok-progress.progress c.in_ok-online.online
    c.in_ok-progress.ensures.ends c.in_ok-online.ensures.epochs c.in_ok-online.ensures.done c.in_ok-online.ensures.cost (
      reverse made.places.items,
      c.in_ok-released.ensures.certificate,
      c.in_ok-online.ensures.release ∙ lines_turned c.args.table.now made.places.items,
      c.in_ok-online.ensures.total ∙ c.in_ok-released.ensures.total,
    )
    c.in_ok-online.ensures.runs

pub returns-clause-sent : goal.returns-clause-sent
returns-clause-sent g c =
    subst (λ slots. HaveMore g.W.Wire.runs (AreAllUnits c.args.table.now.flows slots) c.args.table.now.ports c.args.wires.now.items c.served.new.wires.items)
    (sym c.in_ok-online.ensures.runs.same) c.in_ok-progress.ensures.sent
