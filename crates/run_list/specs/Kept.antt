-- How a list of runs is kept: a mark for each run, and the numbers that tell the flows of all of them.
use Rattle.std.specs.Prelude.{◌≡◌, ℕ, ◌+◌, ◌<◌, ◌==◌, ◌≤◌, All, Bool, List, [], ◌∷◌, drop, if◌then◌else◌, length, nat_lt, slice_index_or, take, vec_capacity}
use Rattle.std.specs.List.{sum_by}
use Rattle.std.specs.List.Sorted.{IsStrictlyIncreasing}
use Rattle.coflow_units.specs.declared.plan.Run.{Run}
use Rattle.run_list.specs.declared.mark.Mark.{Mark}
use Rattle.run_list.specs.declared.turnover.Turnover.{Turnover}
use Rattle.run_list.specs.Runs.{flows_before, run_of, without}

-- the numbers that stand in just one of two ascending lists, of which the first begins with x, and `rest` gives those
-- for what is behind x
abbrev pub toggled_from : ℕ → (List ℕ → List ℕ) → List ℕ → List ℕ
toggled_from x rest [] = x ∷ rest []
toggled_from x rest (y ∷ ys) =
    if nat_lt x y then x ∷ rest (y ∷ ys) else (if x == y then rest ys else y ∷ toggled_from x rest ys)

-- the same of any two ascending lists
abbrev pub toggled : List ℕ → List ℕ → List ℕ
toggled [] ys = ys
toggled (x ∷ xs) ys = toggled_from x (toggled xs) ys

-- the flows that the numbers of a run tell, where the run before it has the flows `before`: the numbers themselves, or
-- else the flows to which they change those
abbrev pub told : List ℕ → Bool → List ℕ → List ℕ
told before whole numbers = if whole then numbers else toggled before numbers

-- the same of a mark, whose numbers are the first of those
abbrev pub flows_of : List ℕ → Mark → List ℕ → List ℕ
flows_of before mark numbers = told before mark.whole (take mark.size numbers)

-- the runs that the marks and the numbers tell, after a run of the flows `before`
abbrev pub runs_of : List ℕ → List Mark → List ℕ → List Run
runs_of before [] numbers = []
runs_of before (mark ∷ marks) numbers =
    let flows = flows_of before mark numbers in
    run_of mark.slots flows ∷ runs_of flows marks (drop mark.size numbers)

-- the flows of the last of them
abbrev pub last_of : List ℕ → List Mark → List ℕ → List ℕ
last_of before [] numbers = before
last_of before (mark ∷ marks) numbers = last_of (flows_of before mark numbers) marks (drop mark.size numbers)

-- how many numbers the marks have
abbrev pub size_of : List Mark → ℕ
size_of marks = sum_by (λ (mark : Mark). mark.size) marks

-- the numbers of each mark ascend
abbrev pub DoAscend : List Mark → List ℕ → Type 0
DoAscend [] numbers = Unit {0}
DoAscend (mark ∷ marks) numbers = IsStrictlyIncreasing (take mark.size numbers) ×
    DoAscend marks (drop mark.size numbers)

-- the numbers are those of the marks and ascend in each, each run ascends, and none has more than `widest` flows
pub record IsTold (marks : List Mark) (numbers : List ℕ) (widest : ℕ) : Type 0 where
  pub sizes : size_of marks ≡ length numbers
  pub numbers_ascend : DoAscend marks numbers
  pub ascending : All (λ (run : Run). IsStrictlyIncreasing run.flows) (runs_of [] marks numbers)
  pub within : All (λ (run : Run). length run.flows ≤ widest) (runs_of [] marks numbers)

-- so they are, `last` has the flows of the last run, and each flow is below the bound
pub record IsKept (marks : List Mark) (numbers last : List ℕ) (widest bound : ℕ) : Type 0 where
  pub told : IsTold marks numbers widest
  pub below : All (λ (run : Run). All (λ f. f < bound) run.flows) (runs_of [] marks numbers)
  pub last_is : last_of [] marks numbers ≡ last
  pub last_ascends : IsStrictlyIncreasing last

-- so many runs were entered and so many numbers read; `flows` are those of the run that was entered last, and the
-- marks and numbers that are left tell the runs that are left
pub record IsWalking (marks : List Mark) (numbers : List ℕ) (entered read : ℕ) (flows : List ℕ) : Type 0 where
  pub entered_within : entered ≤ length marks
  pub read_so_far : read + size_of (drop entered marks) ≡ length numbers
  pub left_ascends : DoAscend (drop entered marks) (drop read numbers)
  pub rest : runs_of flows (drop entered marks) (drop read numbers) ≡ drop entered (runs_of [] marks numbers)
  pub before : entered ≡ 0 → flows ≡ []
  pub here : (k : ℕ) (run : Run) → k + 1 ≡ entered → flows ≡ (slice_index_or (runs_of [] marks numbers) k run).flows
  pub ascends : IsStrictlyIncreasing flows

-- the flows that are gone and those that come tell what changes from some flows to others
pub record IsTurn (turnover : Turnover) (olds news : List ℕ) : Type 0 where
  pub gone : turnover.gone.items ≡ without olds news
  pub come : turnover.come.items ≡ without news olds

-- there is room for so many flows that are gone, and for so many that come
pub record HasRoom (turnover : Turnover) (gone come : ℕ) : Type 0 where
  pub for_gone : gone ≤ vec_capacity turnover.gone
  pub for_come : come ≤ vec_capacity turnover.come

-- what changed with the run that was entered last
pub record HasTurned (runs : List Run) (entered : ℕ) (turnover : Turnover) : Type 0 where
  pub before : entered ≡ 0 → IsTurn turnover [] []
  pub here : (k : ℕ) (run : Run) → k + 1 ≡ entered →
      IsTurn turnover (flows_before runs k) (slice_index_or runs k run).flows
  pub gone_ascends : IsStrictlyIncreasing turnover.gone.items
  pub come_ascends : IsStrictlyIncreasing turnover.come.items

-- the same of a walk whose flows are the first `count` of a buffer, where all buffers have room for each run
pub record IsWalk (marks : List Mark) (numbers : List ℕ) (entered read : ℕ) (flows : List ℕ) (count : ℕ)
    (next : List ℕ) (turnover : Turnover) : Type 0 where
  pub told : IsTold marks numbers (length flows)
  pub walking : IsWalking marks numbers entered read (take count flows)
  pub turned : HasTurned (runs_of [] marks numbers) entered turnover
  pub held : count ≤ length flows
  pub same : length next ≡ length flows
  pub room : HasRoom turnover (length flows) (length flows)
