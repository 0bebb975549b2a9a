use Rattle.std.proofs.Common.{◌≡◌, ◌+◌, subst, sym, ◌∙◌, arith}
use Rattle.dual_cert.proofs.FirstPlaces.{port_in}
use Rattle.release_bound.proofs.ArrivalSteps.{FirstSoFar, first_is, first_keep, first_past, first_take}
use Rattle.release_bound.proofs.certificate.first_arrival.Goals.{else-load_in_front-gt0, then-load_in_front-gt0}
use Rattle.release_bound.proofs.certificate.first_arrival.Goals as goal

pub next_loaded-coflow-requires-clause-port_in : goal.next_loaded-coflow-requires-clause-port_in
next_loaded-coflow-requires-clause-port_in c = port_in c.args.loads.now c.args.charges.now c.args.place c.requires.certificate c.requires.place_in

pub load_in_front-requires-clause-port_in : goal.load_in_front-requires-clause-port_in
load_in_front-requires-clause-port_in c = port_in c.args.loads.now c.args.charges.now c.args.place c.requires.certificate c.requires.place_in

pub next_loaded-coflow-requires-in-loaded-clause-port_in : goal.next_loaded-coflow-requires-in-loaded-clause-port_in
next_loaded-coflow-requires-in-loaded-clause-port_in c = port_in c.args.loads.now c.args.charges.now c.args.place c.requires.certificate c.requires.place_in

pub loaded-preserved : goal.loaded-preserved
loaded-preserved c =
    let t = c.args.loads.now in
    let charges = c.args.charges.now in
    let place = c.args.place in
    let arrivals = c.args.arrivals.now in
    let k = c.loaded.coflow in
    let e = c.next_loaded-coflow-in-loaded.ensures in
    let so_far = c.loaded.invariant.so_far in
    let more : FirstSoFar t charges place arrivals (k + 1) c.if-load_in_front-gt0.first = elim c.if-load_in_front-gt0.branch [
      | then-load_in_front-gt0 w ↦ subst (λ first. FirstSoFar t charges place arrivals (k + 1) first) (sym (w.first-is ∙ w.sooner-first.ensures))
          (first_take t charges place arrivals k c.loaded.first so_far (omega (arith, w.if-load_in_front-gt0.true, c.load_in_front.ensures)))
      | else-load_in_front-gt0 w ↦ subst (λ first. FirstSoFar t charges place arrivals (k + 1) first) (sym w.first-is)
          (first_keep t charges place arrivals k c.loaded.first so_far (omega (arith, w.if-load_in_front-gt0.false, c.load_in_front.ensures)))
    ] in
    record {
      within = omega (arith, e.within, c.coflows-coflows.ensures.coflows_are);
      so_far = first_past t charges place arrivals (k + 1) c.next_loaded-coflow-in-loaded.result c.if-load_in_front-gt0.first more e.after e.none;
    }

pub returns-clause-first : goal.returns-clause-first
returns-clause-first c = λ flows arrival has arrives.
    let t = c.args.loads.now in
    let end : c.loaded.coflow ≡ t.coflows = omega (arith, c.loaded-test.false, c.loaded.invariant.within, c.coflows-coflows.ensures.coflows_are) in
    let so_far = subst (λ n. FirstSoFar t c.args.charges.now c.args.place c.args.arrivals.now n c.loaded.first) end c.loaded.invariant.so_far in
    c.unwrap_or.ensures ∙
    first_is t c.args.charges.now c.args.place c.args.arrivals.now c.loaded.first c.requires.certificate so_far.is flows arrival has arrives
    (port_in t c.args.charges.now c.args.place c.requires.certificate c.requires.place_in)
