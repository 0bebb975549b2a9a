-- the slots so far are clear, and the tables have the ports of the flows of the last run
use Rattle.std.proofs.Common.{◌≡◌, length, take}
use Rattle.std.specs.Prelude.{All}
use Rattle.coflow_units.specs.declared.fabric.Side.TheVariants.{Ingress, Egress}
use Rattle.coflow_units.specs.Schedule.{IsClear}
use Rattle.run_list.specs.Runs.{flows_before}
use Rattle.schedule_model.specs.Repeat.{Marks}
use Rattle.schedule_model.specs.RunList.{slots_in}
use Rattle.schedule_model.proofs.clashes.find_clash.Given as goal

abbrev pub invariant-loop-place : goal.invariant-loop-place
invariant-loop-place l = record {
  walk_runs : l.walk.runs ≡ l.runs;
  walk_place : l.walk.entered ≡ l.place;
  slot_is : l.slot ≡ length (slots_in (take l.place l.runs));
  ingress_count : length l.ingress.items ≡ l.ports;
  egress_count : length l.egress.items ≡ l.ports;
  ingress_marks : Marks l.flows Ingress (flows_before l.runs l.place) l.ingress.items;
  egress_marks : Marks l.flows Egress (flows_before l.runs l.place) l.egress.items;
  clear : All (IsClear l.flows) (slots_in (take l.place l.runs));
}
