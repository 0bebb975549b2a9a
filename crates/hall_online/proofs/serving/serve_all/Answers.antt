use Rattle.std.proofs.Common.{◌∙◌}
use Rattle.hall_online.proofs.Besides.{dismissed, site_stays}
use Rattle.hall_online.proofs.serving.serve_all.Goals as goal

pub dismiss-requires : goal.dismiss-requires
dismiss-requires g c = record { site = site_stays c.args.site.now c.args.crew.now c.serve-served.new.crew c.requires.may.at c.serve-served.ensures.stays }

pub returns : goal.returns
returns g c =
    let s = c.serve-served.ensures in
    let (arrivals, every, h) = c.requires.may.under_way in
    dismissed g.W.Wire.faults g.W.Wire.runs c.args.hall.now c.args.crew.now c.serve-served.new.crew c.dismiss.new.self c.args.kept.now c.serve-served.new.kept
    c.serve-served.result c.dismiss.ensures s.stays.places
    (λ over. record {
      ends = s.ends;
      sent = s.sent;
      served = s.served;
      fault = s.fault;
      stops = s.stops;
      too_many = s.too_many;
      over = over;
      ports = s.stays.ports ∙ h.ready.may.ports;
    })
