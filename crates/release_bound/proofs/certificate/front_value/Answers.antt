use Rattle.std.proofs.Common.{◌≡◌, ◌+◌, ◌*◌, ap, ap₂, ◌∙◌, arith}
use Rattle.coflow_units.specs.Certificate.{front}
use Rattle.coflow_units.specs.Load.{load_of_all}
use Rattle.dual_cert.specs.TableCertificate.{entries_to, port_at}
use Rattle.dual_cert.proofs.ValueSteps.{front_load_is}
use Rattle.release_bound.proofs.certificate.front_value.Goals as goal

pub returns : goal.returns
returns c = λ flows arrival has arrives.
    let charges = c.args.charges.now in
    let place = c.args.place in
    let whole = front_load_is flows charges place c.requires.place_in in
    let load : c.total-load.result ≡ load_of_all flows (front (entries_to (place + 1) charges)) (port_at charges place) = c.total-load.ensures.load flows has ∙ whole in
    omega (
      arith,
      c.squares.ensures.value flows has,
      ap (λ n. n * n) whole,
      ap₂ (λ a b. a * b) (c.first_arrival-first.ensures.first flows arrival has arrives) load,
    )
