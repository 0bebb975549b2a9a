-- What a script asks, line by line.
use Rattle.std.specs.Prelude.{ℕ, ◌+◌, ◌*◌, ◌==◌, Bool, true, false, if◌then◌else◌, List, [], ◌∷◌, ◌++◌, length, map}
use Rattle.std.specs.Prelude.{sum_by}
use Rattle.std.specs.List.{filter}
use Rattle.coflow_units.specs.declared.fabric.Flow.{Flow}
use Rattle.journal.specs.declared.command.Command.{Command}
use Rattle.journal.specs.declared.command.Command.TheVariants.{Register as RegisterCommand}
use Rattle.journal.specs.declared.command.Command.TheVariants.{Withdraw as WithdrawCommand}
use Rattle.journal.specs.declared.command.Command.TheVariants.{Publish as PublishCommand, Pull as PullCommand}
use Rattle.journal.specs.declared.command.Command.TheVariants.{Reweigh as ReweighCommand}
use Rattle.journal.specs.declared.opening.Opening.{Opening}
use Rattle.workload.specs.declared.script.Asked.{Asked}
use Rattle.workload.specs.declared.script.Asked.TheVariants.{Register, Withdraw, Publish, Pull, Reweigh}
use Rattle.workload.specs.declared.script.ScriptLine.{ScriptLine}
use Rattle.workload.specs.declared.script.Round.{Round}
use Rattle.workload.specs.declared.script.Script.{Script}

-- the master's command for what a line asks
abbrev pub command_of : Asked → Command
command_of (Register c) = RegisterCommand c
command_of (Withdraw c) = WithdrawCommand c
command_of Publish = PublishCommand
command_of (Pull c) = PullCommand c
command_of (Reweigh c w) = ReweighCommand c w

-- the line asks for a rank
abbrev pub is_pull : Asked → Bool
is_pull (Pull c) = true
is_pull asked = false

-- the coflow whose rank is asked, or 0 where none is
abbrev pub coflow_pulled : Asked → ℕ
coflow_pulled (Pull c) = c
coflow_pulled asked = 0

-- the lines of rounds that are numbered from n on, in script order, each with the number of its round
abbrev pub lines_from : ℕ → List Round → List (ℕ × ScriptLine)
lines_from n [] = []
lines_from n (r ∷ rs) = map (λ x. (n, x)) r.lines ++ lines_from (n + 1) rs

-- the lines of a script in their order, each with the number of its round; rounds count from 0
abbrev pub lines_of : Script → List (ℕ × ScriptLine)
lines_of s = lines_from 0 s.rounds

-- the lines of one client, in script order
abbrev pub lines_by : Script → ℕ → List (ℕ × ScriptLine)
lines_by s client = filter (λ x. x.1.client == client) (lines_of s)

-- of rounds that are numbered from n on, the numbers of those that have a run of slots beside them
abbrev pub slot_rounds_from : ℕ → List Round → List ℕ
slot_rounds_from n [] = []
slot_rounds_from n (r ∷ rs) = (if r.runs then n ∷ [] else []) ++ slot_rounds_from (n + 1) rs

-- the rounds that have a run of slots beside them
abbrev pub slot_rounds : Script → List ℕ
slot_rounds s = slot_rounds_from 0 s.rounds

-- the journal's limit: the lines that ask something, twice the rounds, twice the units, and 2
abbrev pub limit_of : Opening → Script → ℕ
limit_of o s = length (lines_of s) + 2 * length s.rounds + 2 * sum_by (λ (x : Flow). x.units) o.table.flows + 2
