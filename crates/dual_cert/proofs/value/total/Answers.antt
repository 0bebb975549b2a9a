use Rattle.std.proofs.Common.{◌≡◌, ◌+◌, sym, ap, ◌∙◌, arith}
use Rattle.dual_cert.specs.PlaceTable.{load_up_to}
use Rattle.dual_cert.specs.TableCertificate.{port_at}
use Rattle.dual_cert.proofs.FirstPlaces.{port_in}
use Rattle.dual_cert.proofs.FrontSums.{sum_next, sum_to}
use Rattle.dual_cert.proofs.ValueSteps.{front_load_is, front_total, load_is, total_past, total_small}
use Rattle.dual_cert.proofs.value.total.Goals as goal

pub next_loaded-coflow-requires-clause-port_in : goal.next_loaded-coflow-requires-clause-port_in
next_loaded-coflow-requires-clause-port_in c = port_in c.args.loads.now c.args.charges.now c.args.place c.requires.certificate c.requires.place_in

pub load_in_front-total-requires-clause-port_in : goal.load_in_front-total-requires-clause-port_in
load_in_front-total-requires-clause-port_in c = port_in c.args.loads.now c.args.charges.now c.args.place c.requires.certificate c.requires.place_in

pub loaded-init : goal.loaded-init
loaded-init c =
    let e = c.next_loaded-coflow.ensures in
    record {
      within = omega (arith, e.within, c.coflows-coflows.ensures.coflows_are);
      total_is = sym (total_past c.args.loads.now c.args.charges.now c.args.place 0 c.next_loaded-coflow.result e.after e.none);
    }

pub overflow_add-total : goal.overflow_add-total
overflow_add-total c =
    let t = c.args.loads.now in
    let charges = c.args.charges.now in
    let k = c.loaded.coflow in
    let small = total_small t charges c.args.place (k + 1) c.requires.certificate c.requires.totals_fit c.requires.place_in
    (omega (arith, c.loaded-test.true, c.coflows-coflows.ensures.coflows_are)) in
    omega (arith, c.loaded.invariant.total_is, c.load_in_front-total.ensures, sum_next (load_up_to t charges c.args.place) k, small)

pub next_loaded-coflow-requires-in-loaded-clause-port_in : goal.next_loaded-coflow-requires-in-loaded-clause-port_in
next_loaded-coflow-requires-in-loaded-clause-port_in c = port_in c.args.loads.now c.args.charges.now c.args.place c.requires.certificate c.requires.place_in

pub loaded-preserved : goal.loaded-preserved
loaded-preserved c =
    let t = c.args.loads.now in
    let charges = c.args.charges.now in
    let k = c.loaded.coflow in
    let e = c.next_loaded-coflow-in-loaded.ensures in
    let past = total_past t charges c.args.place (k + 1) c.next_loaded-coflow-in-loaded.result e.after e.none in
    record {
      within = omega (arith, e.within, c.coflows-coflows.ensures.coflows_are);
      total_is = omega (arith, c.loaded.invariant.total_is, c.load_in_front-total.ensures, sum_next (load_up_to t charges c.args.place) k, past);
    }

pub returns-clause-load : goal.returns-clause-load
returns-clause-load c = λ flows has.
    let t = c.args.loads.now in
    let charges = c.args.charges.now in
    let place = c.args.place in
    let end : c.loaded.coflow ≡ t.coflows = omega (arith, c.loaded-test.false, c.loaded.invariant.within, c.coflows-coflows.ensures.coflows_are) in
    c.loaded.invariant.total_is ∙ ap (sum_to (load_up_to t charges place)) end ∙ front_total t charges place c.requires.certificate
    ∙ load_is flows t (port_at charges place) charges (place + 1) has (port_in t charges place c.requires.certificate c.requires.place_in) ∙
    sym (front_load_is flows charges place c.requires.place_in)

pub returns-clause-fits : goal.returns-clause-fits
returns-clause-fits c =
    omega (
      arith,
      c.loaded.invariant.total_is,
      total_small c.args.loads.now c.args.charges.now c.args.place c.loaded.coflow c.requires.certificate c.requires.totals_fit c.requires.place_in
          (omega (arith, c.loaded.invariant.within, c.coflows-coflows.ensures.coflows_are)),
    )
