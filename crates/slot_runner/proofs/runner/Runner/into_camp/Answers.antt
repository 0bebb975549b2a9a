-- What is gathered is the crew of the runner.
use Rattle.std.proofs.Common.{rules, ap, ◌∙◌, arith}
use Rattle.std.proofs.lemmas.List.{length-map}
use Rattle.crews.specs.Sections.{place_of}
use Rattle.crews.proofs.Whole.{as_long}
use Rattle.slot_runner.specs.Models.{RunnerModel}
use Rattle.slot_runner.proofs.runner.Runner.into_camp.Goals as goal

pub returns-clause-camp : goal.returns-clause-camp
returns-clause-camp g c =
    let all = c.in-Some.ensures.gathered in
    let long = as_long c.in-Some.gathered.wires.items all.there in
    let many = length-map c.in-Some.gathered.stations.items place_of in
    let ports = ap (λ (m : RunnerModel). m.ports) c.self.view_is in
    record {
      runner = search rules;
      at = record { board = c.self.invariant.0; ports = search rules; trays = omega (arith, many, all.as_many); ready = all.ready };
      helpers = all.helpers;
      wires = all.wires;
      ports = long ∙ all.ports ∙ ports;
      many = many ∙ all.as_many;
    }
