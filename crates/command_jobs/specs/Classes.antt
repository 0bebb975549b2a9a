-- What `classes` reads and writes.
use Rattle.std.specs.Prelude.{◌≡◌, ℕ, List, Option}
use Rattle.command_words.specs.Jobs.{trace_name}
use Rattle.command_words.specs.Words.{Said}
use Rattle.flow_table.specs.Table.{TableFacts}
use Rattle.rankers.specs.ClassList.{IsClassList}
use Rattle.outside.specs.Shelf.{Told}
use Rattle.report_text.specs.declared.classed.ClassText.{ClassText}
use Rattle.report_text.specs.Classed.{class_text}
use Rattle.command_files.specs.Inputs.{IsInput}
use Rattle.command_files.specs.Written.{Appends}

-- the instance that the files give, its coflows in as many classes as are said, folded as is said, and the text of these classes
pub record ClassesOf (told : Option Told) (said : Said) (text : List ℕ) : Type 0 where
  pub table : TableFacts
  pub weights : List ℕ
  pub input : IsInput told (trace_name said.job) said.weights said.unit table weights
  pub list : ClassText
  pub classes : IsClassList table weights said.fold said.classes list
  pub text_is : text ≡ class_text list

-- the text of the classes was written
pub record WritesClasses (told : Option Told) (said : Said) (old new : Option (List ℕ)) : Type 0 where
  pub text : List ℕ
  pub classes : ClassesOf told said text
  pub written : Appends old new text
