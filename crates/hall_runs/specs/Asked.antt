-- What may be asked of a hall of so many coflows and ports.
use Rattle.std.specs.Prelude.{ℕ, ◌<◌, ◌≤◌}
use Rattle.coflow_units.specs.declared.limits.TheConstants.{MAX_WEIGHT}
use Rattle.hall_runs.specs.declared.draw.Ask.{Ask}
use Rattle.hall_runs.specs.declared.draw.Ask.TheVariants.{Register, Withdraw, Publish, PullTurn, Reweigh, Pull}
use Rattle.hall_runs.specs.declared.draw.Order.{Order}
use Rattle.hall_runs.specs.declared.draw.Order.TheVariants.{Open, Short, Close, Skip, Register as Joins}
use Rattle.hall_runs.specs.declared.draw.Order.TheVariants.{Withdraw as Leaves, Publish as Publishes}

-- the ask is of one of so many coflows, and its weight is one that a coflow may have
abbrev pub IsAskOf : ℕ → Ask → Type 0
IsAskOf coflows (Register c) = c < coflows
IsAskOf coflows (Withdraw c) = c < coflows
IsAskOf coflows Publish = Unit {0}
IsAskOf coflows (PullTurn c) = c < coflows
IsAskOf coflows (Reweigh c weight) = (c < coflows) × (1 ≤ weight) × (weight ≤ MAX_WEIGHT)
IsAskOf coflows (Pull c) = c < coflows

-- the order is of one of so many coflows or ports, and a run has a slot
abbrev pub IsOrderOf : ℕ → ℕ → Order → Type 0
IsOrderOf coflows ports (Open most) = 1 ≤ most
IsOrderOf coflows ports (Short port sent) = port < ports
IsOrderOf coflows ports Close = Unit {0}
IsOrderOf coflows ports (Skip to) = Unit {0}
IsOrderOf coflows ports (Joins c) = c < coflows
IsOrderOf coflows ports (Leaves c) = c < coflows
IsOrderOf coflows ports Publishes = Unit {0}
