use Rattle.std.proofs.Common.{sym, ◌∙◌}
use Rattle.slot_runner.proofs.Sites.{still_at}
use Rattle.hall_plan.proofs.Besides.{served_so}
use Rattle.hall_plan.proofs.serving.serve_all.Goals as goal

pub dismiss-requires : goal.dismiss-requires
dismiss-requires g c = record {
  site = still_at c.args.site.now c.args.crew.now c.serve-served.new.crew c.requires.site c.serve-served.ensures.stays.0 c.serve-served.ensures.stays.1
      (c.serve-served.ensures.ports ∙ sym c.requires.runner.may.ports);
}

pub returns : goal.returns
returns g c = let s = c.serve-served.ensures in
    served_so g.W.Wire.faults g.W.Wire.runs c.args.hall.now c.args.crew.now c.serve-served.new.crew c.dismiss.new.self c.serve-served.result c.dismiss.ensures s.stays.1
    (λ over. record { schedule = s.schedule; sent = s.sent; wires = s.wires; fault = s.fault; least = s.least; stops = s.stops; over = over; ports = s.ports })
