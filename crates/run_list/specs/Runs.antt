-- Lists of runs, and walks over them.
use Rattle.std.specs.Prelude.{◌≡◌, ◌≢◌, ℕ, ◌+◌, ◌≤◌, Bool, true, false, List, [], filter, length, nat_eq, not, suc, zero}
use Rattle.std.specs.List.{list_any, slice_index_or}
use Rattle.coflow_units.specs.declared.plan.Run.{Run}

-- the run of so many slots that serves the flows
abbrev pub run_of : ℕ → List ℕ → Run
run_of slots flows = record { length = slots; flows = flows }

-- the run, with so many slots more
abbrev pub longer : Run → ℕ → Run
longer run slots = run_of (run.length + slots) run.flows

-- the numbers of a list that do not stand in another
abbrev pub without : List ℕ → List ℕ → List ℕ
without xs ys = filter (λ f. not (list_any (nat_eq f) ys)) xs

-- the flows of the run before the one with this place; before the first run there are none
abbrev pub flows_before : List Run → ℕ → List ℕ
flows_before runs zero = []
flows_before runs (suc k) = (slice_index_or runs k (run_of 0 [])).flows

-- the answer tells whether there is a last run and it serves these flows
abbrev pub IsLast : List Run → List ℕ → Bool → Type 0
IsLast runs flows true =
    (1 ≤ length runs) × ((k : ℕ) (r : Run) → k + 1 ≡ length runs → (slice_index_or runs k r).flows ≡ flows)
IsLast runs flows false =
    (k : ℕ) (r : Run) → k + 1 ≡ length runs → (slice_index_or runs k r).flows ≢ flows

-- a walk over a list of runs: the list, and how many of its runs were entered; the last of these is the one that the
-- walk is in
pub record Walked : Type 0 where
  pub runs : List Run
  pub entered : ℕ
