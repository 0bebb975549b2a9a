use Rattle.std.proofs.Common.{[], ap, sym, ◌∙◌, slice_index_or}
use Rattle.coflow_units.specs.Schedule.{holds}
use Rattle.online_runs.proofs.OneRun.{is_part, never_both, one_run}
use Rattle.online_runs.proofs.laws.online_runs_are_one.Goals as goal

pub returns-clause-one : goal.returns-clause-one
returns-clause-one c = one_run c.action_is_one.ensures

pub returns-clause-too_many : goal.returns-clause-too_many
returns-clause-too_many c = never_both c.action_is_one.ensures

pub returns-clause-part : goal.returns-clause-part
returns-clause-part c = λ o arrivals every slots journal k f i h run is.
    is_part c.action_is_one.ensures o arrivals every h.deeds journal i h.so_far run k f (ap (λ l. holds (slice_index_or l k []) f) (sym h.slots_are) ∙ is)
