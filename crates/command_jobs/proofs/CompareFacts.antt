-- What the laws say of a comparison.
use Rattle.std.proofs.Common.{◌≡◌, ℕ, List, Option, drop, subst, take}
use Rattle.std.specs.Prelude.{All}
use Rattle.coflow_units.specs.Flows.{Instance}
use Rattle.command_words.specs.Jobs.{trace_name}
use Rattle.command_words.specs.Words.{Said}
use Rattle.flow_table.specs.Table.{TableFacts, instance_of}
use Rattle.rankers.specs.FactsTold.{FactsTold, IsFacts, IsFactsOf}
use Rattle.rankers.proofs.RowFacts.{costs_above}
use Rattle.outside.specs.Shelf.{Told}
use Rattle.rankers.specs.Meaning.{Meaning}
use Rattle.command_files.specs.Inputs.{IsInput}
use Rattle.command_jobs.specs.Compare.{ComparisonOf, IsFactsOfFiles, WritesComparison}
use Rattle.command_files.specs.Written.{Appends}
use Rattle.plans.proofs.PlanTotals.{bound_low}

pub writes_comparison : (told : Option Told) (said : Said) (bench : List Meaning) (old new : Option (List ℕ)) (text : List ℕ) → ComparisonOf told said bench text →
    Appends old new text → WritesComparison told said bench old new
writes_comparison told said bench old new text compares written =
    let i : Instance = instance_of compares.table compares.weights in
    record {
      text = text;
      compares = compares;
      bounds = bound_low i compares.comparison.bound compares.bound_is;
      below = costs_above compares.table compares.weights bench compares.comparison compares.compares (bound_low i compares.comparison.bound compares.bound_is);
      written = written;
    }

-- ---- the rankers that are gone

module _ (told : Option Told) (said : Said) (table : TableFacts) (weights lent : List ℕ)
    (input : IsInput told (trace_name said.job) said.weights said.unit table weights) (same : lent ≡ weights) where
  asked_of_files : (A : FactsTold → Type 0) → ((facts : FactsTold) × IsFacts facts × IsFactsOf table lent facts × A facts) →
      (facts : FactsTold) × IsFactsOfFiles told said facts × A facts
  asked_of_files A (facts, fit, are, asked) = (
    facts,
    record {
      table = table;
      weights = weights;
      input = input;
      facts_fit = fit;
      facts_are = subst (λ ws. IsFactsOf table ws facts) same are;
    },
    asked,
  )

  -- those that were asked with the facts of a table were asked with those of the files that give it
  pub left_of_files : {X : Type 0} (A : X → FactsTold → Type 0) (xs new : List X) →
      ((reached : ℕ) × (new ≡ drop reached xs) × All (λ b. (facts : FactsTold) × IsFacts facts × IsFactsOf table lent facts × A b facts) (take reached xs)) →
      (reached : ℕ) × (new ≡ drop reached xs) × All (λ b. (facts : FactsTold) × IsFactsOfFiles told said facts × A b facts) (take reached xs)
  left_of_files A xs new (reached, rest, all) = (reached, rest, λ k d lt. asked_of_files (A _) (all k d lt))
