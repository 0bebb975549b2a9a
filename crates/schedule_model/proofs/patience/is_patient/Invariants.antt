-- the slots so far are patient, and the counts are those of them
use Rattle.std.proofs.Common.{◌≡◌, ℕ, get_or, length, take}
use Rattle.coflow_units.specs.Patient.{IsPatient}
use Rattle.coflow_units.specs.Schedule.{times}
use Rattle.schedule_model.specs.RunList.{slots_in}
use Rattle.schedule_model.proofs.patience.is_patient.Given as goal

abbrev pub invariant-loop-place : goal.invariant-loop-place
invariant-loop-place l = record {
  walk_runs : l.walk.runs ≡ l.initial.walk.runs;
  walk_place : l.walk.entered ≡ l.place;
  ingress_count : length l.ingress.items ≡ l.ports;
  egress_count : length l.egress.items ≡ l.ports;
  count : length l.counts.items ≡ length l.flows;
  times_are : (f : ℕ) → get_or l.counts.items f 0 ≡ times (slots_in (take l.place l.initial.walk.runs)) f;
  patient : IsPatient l.flows l.order (slots_in (take l.place l.initial.walk.runs));
}
