use Rattle.std.proofs.Common.{◌≡◌, ◌+◌, ◌*◌, ◌≤◌, sym, ap, ap₂, ◌∙◌, arith}
use Rattle.coflow_units.specs.Certificate.{front, front_load}
use Rattle.coflow_units.specs.Load.{squares_of_loads}
use Rattle.dual_cert.specs.PlaceTable.{load_up_to}
use Rattle.dual_cert.specs.TableCertificate.{entries_to, port_at}
use Rattle.dual_cert.proofs.FirstPlaces.{port_in}
use Rattle.dual_cert.proofs.FrontSums.{sum_next, sum_to}
use Rattle.dual_cert.proofs.ValueSteps.{front_load_is, front_squares_total, front_total, load_is, square_fits, square_up_to, squares_are, squares_past, squares_small, total_past}
use Rattle.dual_cert.proofs.ValueSteps.{total_small}
use Rattle.dual_cert.proofs.value.squares.Goals as goal

pub next_loaded-coflow-requires-clause-port_in : goal.next_loaded-coflow-requires-clause-port_in
next_loaded-coflow-requires-clause-port_in c = port_in c.args.loads.now c.args.charges.now c.args.place c.requires.certificate c.requires.place_in

pub load_in_front-load-requires-clause-port_in : goal.load_in_front-load-requires-clause-port_in
load_in_front-load-requires-clause-port_in c = port_in c.args.loads.now c.args.charges.now c.args.place c.requires.certificate c.requires.place_in

pub loaded-init : goal.loaded-init
loaded-init c =
    let e = c.next_loaded-coflow.ensures in
    record {
      within = omega (arith, e.within, c.coflows-coflows.ensures.coflows_are);
      total_is = sym (total_past c.args.loads.now c.args.charges.now c.args.place 0 c.next_loaded-coflow.result e.after e.none);
      squares_are = sym (squares_past c.args.loads.now c.args.charges.now c.args.place 0 c.next_loaded-coflow.result e.after e.none);
    }

pub overflow_add-total : goal.overflow_add-total
overflow_add-total c =
    let t = c.args.loads.now in
    let charges = c.args.charges.now in
    let k = c.loaded.coflow in
    let small = total_small t charges c.args.place (k + 1) c.requires.certificate c.requires.totals_fit c.requires.place_in
    (omega (arith, c.loaded-test.true, c.coflows-coflows.ensures.coflows_are)) in
    omega (arith, c.loaded.invariant.total_is, c.load_in_front-load.ensures, sum_next (load_up_to t charges c.args.place) k, small)

pub overflow_add-squares : goal.overflow_add-squares
overflow_add-squares c =
    let t = c.args.loads.now in
    let charges = c.args.charges.now in
    let k = c.loaded.coflow in
    let small = squares_small t charges c.args.place (k + 1) c.requires.certificate c.requires.totals_fit c.requires.place_in
    (omega (arith, c.loaded-test.true, c.coflows-coflows.ensures.coflows_are)) in
    omega (arith, c.loaded.invariant.squares_are, ap (λ n. n * n) c.load_in_front-load.ensures, sum_next (square_up_to t charges c.args.place) k, small)

pub next_loaded-coflow-requires-in-loaded-clause-port_in : goal.next_loaded-coflow-requires-in-loaded-clause-port_in
next_loaded-coflow-requires-in-loaded-clause-port_in c = port_in c.args.loads.now c.args.charges.now c.args.place c.requires.certificate c.requires.place_in

pub loaded-preserved : goal.loaded-preserved
loaded-preserved c =
    let t = c.args.loads.now in
    let charges = c.args.charges.now in
    let k = c.loaded.coflow in
    let e = c.next_loaded-coflow-in-loaded.ensures in
    let past = total_past t charges c.args.place (k + 1) c.next_loaded-coflow-in-loaded.result e.after e.none in
    let past' = squares_past t charges c.args.place (k + 1) c.next_loaded-coflow-in-loaded.result e.after e.none in
    record {
      within = omega (arith, e.within, c.coflows-coflows.ensures.coflows_are);
      total_is = omega (arith, c.loaded.invariant.total_is, c.load_in_front-load.ensures, sum_next (load_up_to t charges c.args.place) k, past);
      squares_are = omega (arith, c.loaded.invariant.squares_are, ap (λ n. n * n) c.load_in_front-load.ensures, sum_next (square_up_to t charges c.args.place) k, past');
    }

pub overflow_mul-result : goal.overflow_mul-result
overflow_mul-result c =
    let within = total_small c.args.loads.now c.args.charges.now c.args.place c.loaded.coflow c.requires.certificate c.requires.totals_fit c.requires.place_in
    (omega (arith, c.loaded.invariant.within, c.coflows-coflows.ensures.coflows_are)) in
    omega (arith, square_fits c.loaded.total (omega (arith, c.loaded.invariant.total_is, within)))

pub overflow_add-result : goal.overflow_add-result
overflow_add-result c =
    let t = c.args.loads.now in
    let charges = c.args.charges.now in
    let le : c.loaded.coflow ≤ t.coflows = omega (arith, c.loaded.invariant.within, c.coflows-coflows.ensures.coflows_are) in
    let within = total_small t charges c.args.place c.loaded.coflow c.requires.certificate c.requires.totals_fit c.requires.place_in le in
    let within' = squares_small t charges c.args.place c.loaded.coflow c.requires.certificate c.requires.totals_fit c.requires.place_in le in
    omega (arith, square_fits c.loaded.total (omega (arith, c.loaded.invariant.total_is, within)), c.loaded.invariant.squares_are, within')

pub returns-clause-fits : goal.returns-clause-fits
returns-clause-fits c =
    let t = c.args.loads.now in
    let charges = c.args.charges.now in
    let le : c.loaded.coflow ≤ t.coflows = omega (arith, c.loaded.invariant.within, c.coflows-coflows.ensures.coflows_are) in
    let within = total_small t charges c.args.place c.loaded.coflow c.requires.certificate c.requires.totals_fit c.requires.place_in le in
    let within' = squares_small t charges c.args.place c.loaded.coflow c.requires.certificate c.requires.totals_fit c.requires.place_in le in
    omega (arith, square_fits c.loaded.total (omega (arith, c.loaded.invariant.total_is, within)), c.loaded.invariant.squares_are, within')

pub returns-clause-value : goal.returns-clause-value
returns-clause-value c = λ flows has.
    let t = c.args.loads.now in
    let charges = c.args.charges.now in
    let place = c.args.place in
    let port = port_at charges place in
    let in' = port_in t charges place c.requires.certificate c.requires.place_in in
    let end : c.loaded.coflow ≡ t.coflows = omega (arith, c.loaded-test.false, c.loaded.invariant.within, c.coflows-coflows.ensures.coflows_are) in
    let total : c.loaded.total ≡ front_load flows (entries_to (place + 1) charges) =
    c.loaded.invariant.total_is ∙ ap (sum_to (load_up_to t charges place)) end ∙ front_total t charges place c.requires.certificate ∙
    load_is flows t port charges (place + 1) has in' ∙ sym (front_load_is flows charges place c.requires.place_in) in
    let squares : c.loaded.squares ≡ squares_of_loads flows (front (entries_to (place + 1) charges)) port =
    c.loaded.invariant.squares_are ∙ ap (sum_to (square_up_to t charges place)) end ∙ front_squares_total t charges place c.requires.certificate ∙
    squares_are flows t port charges (place + 1) has in' in
    ap₂ (λ a b. a * a + b) total squares
