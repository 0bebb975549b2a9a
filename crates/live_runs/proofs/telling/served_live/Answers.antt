use Rattle.std.proofs.Common.{◌≡◌, ℕ, Result, Err, ap, arith, refl, subst, sym}
use Rattle.std.specs.Result.{IsErrAnd}
use Rattle.live_model.specs.Clause.{IsLiveRun}
use Rattle.live_runs.specs.Run.{opening_with}
use Rattle.live_serving.specs.declared.answer.LiveFault.{LiveFault}
use Rattle.live_serving.specs.declared.answer.LiveFault.TheVariants.{WireFault}
use Rattle.live_serving.specs.Wires.{HaveServed, HaveStopped}
use Rattle.live_runs.specs.Told.{live_opening}
use Rattle.live_runs.proofs.SentFacts.{all_sent}
use Rattle.live_runs.proofs.telling.served_live.Goals as goal

-- what a fault that is handed on is
carried : {S : Type 0} (P : LiveFault → Type 0) (x : Result S LiveFault) (f : LiveFault) → IsErrAnd x P → x ≡ Err f → P f
carried P x f h e = subst (λ r. IsErrAnd r P) e h

pub run_live-requires-clause-limit : goal.run_live-requires-clause-limit
run_live-requires-clause-limit g c κs within = c.limit_of_read-limit.ensures.limit (opening_with c.args.table c.args.weights 0) refl

pub run_live-requires-clause-asked : goal.run_live-requires-clause-asked
run_live-requires-clause-asked g c κs within =
    c.scripts_may_be_asked.ensures.asked (opening_with c.args.table c.args.weights c.limit_of_read-limit.result) c.args.script.now c.requires.script

pub run_live-requires-clause-clients : goal.run_live-requires-clause-clients
run_live-requires-clause-clients g c κs within = c.scripts_may_be_asked.ensures.clients c.args.table.ids c.args.script.now c.requires.script

pub returns-clause-text : goal.returns-clause-text
returns-clause-text g c =
    let told = c.in_ok-live.ensures.run in
    let run : IsLiveRun (live_opening c.args.table c.args.weights c.args.script.now) c.args.script.now c.args.most c.in_ok-live.live told.journal told.sent =
    subst (λ (n : ℕ). IsLiveRun (opening_with c.args.table c.args.weights n) c.args.script.now c.args.most c.in_ok-live.live told.journal told.sent)
    (c.limit_of_read-limit.ensures.limit (opening_with c.args.table c.args.weights 0) refl) told.run in (
      record { live = c.in_ok-live.live; journal = told.journal; wires = told.sent; run = run; text_is = c.in_ok-text.ensures.text },
      all_sent c.args.table.flows _ told.sent run.carried.sent g.W.Wire.faults g.W.Wire.runs c.args.table.ports c.args.wires.now.items c.run_live.new.wires.items told.wires,
    )

pub returns-clause-sent : goal.returns-clause-sent
returns-clause-sent g c =
    subst (λ (n : ℕ). HaveServed g.W.Wire.runs (opening_with c.args.table c.args.weights n) c.args.wires.now.items c.run_live.new.wires.items)
    (c.limit_of_read-limit.ensures.limit (opening_with c.args.table c.args.weights 0) refl) c.run_live.ensures.wires

pub returns-in_err-live-clause-sent : goal.returns-in_err-live-clause-sent
returns-in_err-live-clause-sent g c =
    subst (λ (n : ℕ). HaveServed g.W.Wire.runs (opening_with c.args.table c.args.weights n) c.args.wires.now.items c.run_live.new.wires.items)
    (c.limit_of_read-limit.ensures.limit (opening_with c.args.table c.args.weights 0) refl) c.run_live.ensures.wires

pub returns-in_err-text-clause-sent : goal.returns-in_err-text-clause-sent
returns-in_err-text-clause-sent g c =
    subst (λ (n : ℕ). HaveServed g.W.Wire.runs (opening_with c.args.table c.args.weights n) c.args.wires.now.items c.run_live.new.wires.items)
    (c.limit_of_read-limit.ensures.limit (opening_with c.args.table c.args.weights 0) refl) c.run_live.ensures.wires

pub returns-in_err-live-clause-fault : goal.returns-in_err-live-clause-fault
returns-in_err-live-clause-fault g c = λ port e.
    let came : WireFault port ≡ c.in_err-live.field-0.0 = carried _ _ (WireFault port) c.from_residual.ensures.1 e in
    let fault = c.in_err-live.ensures.fault port (ap Err (sym came)) in
    record {
      fits = fault.0;
      wire = omega (arith, fault.0, c.requires.wires);
      rose = fault.1;
      stopped = subst (λ (n : ℕ). HaveStopped g.W.Wire.runs (opening_with c.args.table c.args.weights n) port c.args.wires.now.items c.run_live.new.wires.items)
          (c.limit_of_read-limit.ensures.limit (opening_with c.args.table c.args.weights 0) refl) (c.in_err-live.ensures.least port (ap Err (sym came)));
    }
