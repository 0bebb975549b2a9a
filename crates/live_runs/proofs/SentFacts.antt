-- What a run sent are all units of its schedule.
use Rattle.std.proofs.Common.{◌≡◌, ◌∙◌, ℕ, ◌+◌, List, Option, ap, arith, refl, sym, suc, zero}
use Rattle.std.specs.Prelude.{◌==◌, ◌&&◌, [], Bool, false, true, if◌then◌else◌}
use Rattle.coflow_units.specs.declared.fabric.Flow.{Flow}
use Rattle.coflow_units.specs.Flows.{ingress_of}
use Rattle.coflow_units.specs.Schedule.{holds}
use Rattle.journal.specs.Closed.{times_on}
use Rattle.slot_runner.specs.Wires.{AreAllUnits, HaveMore, units_at}
use Rattle.slot_runner.proofs.WireSteps.{have_so, unit_there}
use Rattle.live_model.specs.Sent.{IsSentOnce, Wires}

module _ (flows : List Flow) (slots : List (List ℕ)) (wires : Wires) (once : IsSentOnce flows slots wires) where
  units_are_sent : (port : ℕ) (sent : List (ℕ × ℕ × ℕ)) → sent ≡ wires port → AreAllUnits flows slots port sent
  units_are_sent port sent is zero f = ap (λ s. times_on s 0 f) is ∙ once port 0 f ∙ none (ingress_of flows f == port)
    where
      none : (b : Bool) → ◌≡◌ {A = ℕ} (if b && holds [] f then 1 else 0) 0
      none true = refl
      none false = refl
  units_are_sent port sent is (suc k) f =
      let next : suc k ≡ k + 1 = omega arith in
      ap (λ s. times_on s (suc k) f) is ∙ once port (suc k) f ∙ sym (unit_there flows slots port k f) ∙ ap (λ n. units_at flows slots port n f) (sym next)

  pub all_sent : {W : Type 0} (faults : W → ℕ) (runs : W → Option (List (ℕ × ℕ × ℕ))) (ports : ℕ) (before after : List W) →
      HaveMore runs (λ port more. more ≡ wires port) ports before after → HaveMore runs (AreAllUnits flows slots) ports before after
  all_sent faults runs ports before after sent =
      have_so faults runs (λ port more. more ≡ wires port) (AreAllUnits flows slots) ports before after units_are_sent sent
