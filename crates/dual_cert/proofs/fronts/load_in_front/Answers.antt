use Rattle.std.proofs.Common.{ℕ, ◌+◌, cond, sym, ap, ◌∙◌, arith}
use Rattle.coflow_units.specs.Certificate.{front}
use Rattle.coflow_units.proofs.Sums.{any_in, any_not}
use Rattle.port_load.specs.LoadTable.{load_at}
use Rattle.dual_cert.specs.TableCertificate.{entries_to, port_at}
use Rattle.dual_cert.proofs.fronts.load_in_front.Goals as goal

pub returns-then-places-coflow : goal.returns-then-places-coflow
returns-then-places-coflow c =
    let charges = c.args.charges.now in
    let place = c.args.place in
    let k = c.args.coflow in
    let out = c.requires.places.late k place (omega (arith, c.requires.coflow_in, c.coflows.ensures.limit)) c.requires.place_in c.if-places-coflow.true in
    sym (ap {B = ℕ} (λ b. cond b (load_at c.args.loads.now k (port_at charges place)) 0) (any_not (front (entries_to (place + 1) charges)) k out))

pub returns : goal.returns
returns c =
    let charges = c.args.charges.now in
    let place = c.args.place in
    let k = c.args.coflow in
    let here = c.requires.places.early k place (omega (arith, c.requires.coflow_in, c.coflows.ensures.limit)) c.requires.place_in c.if-places-coflow.false in
    c.get.ensures ∙ sym (ap {B = ℕ} (λ b. cond b (load_at c.args.loads.now k (port_at charges place)) 0) (any_in (front (entries_to (place + 1) charges)) k here))
