use Rattle.std.proofs.Common.{sym, ◌∙◌}
use Rattle.slot_runner.proofs.Sites.{still_at}
use Rattle.live_serving.proofs.Crewed.{served_so}
use Rattle.live_serving.proofs.camping.serve_all.Goals as goal

pub dismiss-requires : goal.dismiss-requires
dismiss-requires g c =
    let s = c.serve-served.ensures in
    record {
      site = still_at c.args.stage.now.site.now c.args.crew.now c.serve-served.new.crew c.requires.site s.stays.0 s.stays.1
          (s.wires.may.ports ∙ sym c.requires.going.drives.may.ports);
    }

pub returns : goal.returns
returns g c =
    let s = c.serve-served.ensures in
    served_so g.W.Wire.faults g.W.Wire.runs c.args.stage.now.hall.now c.args.stage.now.script.now c.args.stage.now.most c.args.crew.now c.serve-served.new.crew c.dismiss.new.self
    c.serve-served.new.sessions c.serve-served.new.pulls.items c.serve-served.result c.dismiss.ensures s.stays.1
    (λ over. record { done = s.ended; filled = s.filled; wires = s.wires; over = over })
