use Rattle.std.proofs.Common.{flat_map, ◌∙◌}
use Rattle.std.specs.List.{range_with_len}
use Rattle.live_runs.proofs.laws.closed_halls_are_told.Goals as goal

pub returns : goal.returns
returns c = λ o script most journal wires pulls live carried entries orders lines runs. record {
  course = carried.course;
  carried = carried.carried;
  told = record {
    entries = entries;
    orders = orders;
    pulls = lines ∙ (λ i. flat_map (λ client. carried.told client i) (range_with_len 1 script.clients));
    runs = runs;
  };
}
