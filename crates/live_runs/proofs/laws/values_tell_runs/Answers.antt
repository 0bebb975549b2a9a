use Rattle.live_runs.proofs.laws.values_tell_runs.Goals as goal

pub returns : goal.returns
returns c = λ o script most journal wires course live carried entries orders pulls runs. record {
  course = course;
  carried = carried;
  told = record { entries = entries; orders = orders; pulls = pulls; runs = runs };
}
