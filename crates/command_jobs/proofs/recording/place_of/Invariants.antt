-- none of those before has the name
use Rattle.std.proofs.Common.{◌≢◌, ◌<◌, ℕ, map}
use Rattle.std.specs.List.{slice_index_or}
use Rattle.rankers.specs.Meaning.{Meaning}
use Rattle.command_jobs.proofs.recording.place_of.Given as goal

abbrev pub invariant-loop-place : goal.invariant-loop-place
invariant-loop-place g l = (k : ℕ) (d : Meaning) → k < l.place →
    (slice_index_or (map (λ b. (goal.Ranker-dyn g (b.vtable, b.value)).meaning b.value) l.fn.bench) k d).name ≢ l.fn.policy
