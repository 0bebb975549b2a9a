-- What `compare` reads and writes.
use Rattle.std.specs.Prelude.{◌≡◌, ℕ, ◌≤◌, List, Option}
use Rattle.coflow_units.specs.Completion.{cost}
use Rattle.coflow_units.specs.Schedule.{IsValid}
use Rattle.command_words.specs.Jobs.{trace_name}
use Rattle.command_words.specs.Words.{Said}
use Rattle.flow_table.specs.Table.{TableFacts, instance_of}
use Rattle.rankers.specs.Comparison.{IsBelowCosts, IsComparison}
use Rattle.rankers.specs.FactsTold.{FactsTold, IsFacts, IsFactsOf}
use Rattle.outside.specs.Shelf.{Told}
use Rattle.plans.specs.Totals.{IsPlanBound}
use Rattle.rankers.specs.Meaning.{Meaning}
use Rattle.report_text.specs.declared.compared.Compare.{Compare}
use Rattle.report_text.specs.Compared.{compare_text}
use Rattle.command_files.specs.Inputs.{IsInput}
use Rattle.command_files.specs.Written.{Appends}

-- the instance that the files give, the comparison of the rankers of the bench on it, and the text of the comparison
pub record ComparisonOf (told : Option Told) (said : Said) (bench : List Meaning) (text : List ℕ) : Type 0 where
  pub table : TableFacts
  pub weights : List ℕ
  pub input : IsInput told (trace_name said.job) said.weights said.unit table weights
  pub comparison : Compare
  pub bound_is : IsPlanBound (instance_of table weights) comparison.bound
  pub compares : IsComparison table weights bench comparison
  pub text_is : text ≡ compare_text comparison

-- what a ranker is told of the instance that the files give
pub record IsFactsOfFiles (told : Option Told) (said : Said) (facts : FactsTold) : Type 0 where
  pub table : TableFacts
  pub weights : List ℕ
  pub input : IsInput told (trace_name said.job) said.weights said.unit table weights
  pub facts_fit : IsFacts facts
  pub facts_are : IsFactsOf table weights facts

-- The text of the comparison was written. Its bound is at most the cost of every valid schedule of the instance that the
-- files give, so no cost of a row is below it.
pub record WritesComparison (told : Option Told) (said : Said) (bench : List Meaning) (old new : Option (List ℕ)) :
    Type 0 where
  pub text : List ℕ
  pub compares : ComparisonOf told said bench text
  pub bounds : (slots : List (List ℕ)) → IsValid compares.table.flows slots → compares.comparison.bound ≤
      cost compares.table.flows (instance_of compares.table compares.weights).weight
      (instance_of compares.table compares.weights).coflows slots
  pub below : IsBelowCosts compares.comparison
  pub written : Appends old new text
