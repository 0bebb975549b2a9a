-- The text of the summary of a made workload, line by line.
use Rattle.std.specs.Prelude.{ℕ, ◌<◌, ◌^◌, ◌++◌, List, [], ◌∷◌, codes}
use Rattle.coflow_units.specs.Text.{spaced, text_of}
use Rattle.report_text.specs.Text.{bound_line, slack_line, cost_line}
use Rattle.report_text.specs.declared.made.Made.{Made}

-- each number of the summary is below 2^128, as each number of its type is
pub record IsSmallMade (m : Made) : Type 0 where
  pub seed : m.seed < 2 ^ 128
  pub flows : m.flows < 2 ^ 128
  pub units : m.units < 2 ^ 128
  pub bound : m.bound < 2 ^ 128
  pub slack : m.slack < 2 ^ 128
  pub cost : m.cost < 2 ^ 128

-- the first line has the seed
abbrev pub seed_line : ℕ → List ℕ
seed_line seed = codes "sincronia make" ++ spaced seed

-- how many coflows, flows and units there are: a made workload has 200 coflows
abbrev pub counts_line : Made → List ℕ
counts_line m = codes "coflows 200 flows" ++ spaced m.flows ++ codes " units" ++ spaced m.units

-- the lines of a summary
abbrev pub made_lines : Made → List (List ℕ)
made_lines m = seed_line m.seed ∷ counts_line m ∷ bound_line m.bound ∷ slack_line m.slack ∷ cost_line m.cost ∷ codes
    "check yes" ∷ codes "end" ∷ []

-- the text of a summary
abbrev pub made_text : Made → List ℕ
made_text m = text_of (made_lines m)
