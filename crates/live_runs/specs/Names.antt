-- Which coflow a command names.
use Rattle.std.specs.Prelude.{ℕ, ◌<◌}
use Rattle.journal.specs.declared.command.Command.{Command}
use Rattle.journal.specs.declared.command.Command.TheVariants.{Register, Withdraw, Pull, Reweigh}

-- the coflow that the command names is one of so many
abbrev pub NamesCoflow : ℕ → Command → Type 0
NamesCoflow coflows (Register c) = c < coflows
NamesCoflow coflows (Withdraw c) = c < coflows
NamesCoflow coflows (Pull c) = c < coflows
NamesCoflow coflows (Reweigh c w) = c < coflows
NamesCoflow coflows k = Unit {0}
