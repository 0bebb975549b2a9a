-- What was written.
use Rattle.std.specs.Prelude.{List, ℕ, Option}
use Rattle.outside.specs.Shelf.{Told}
use Rattle.command_files.specs.Written.{Appends, AppendsBeginning}
use Rattle.stats_cli.specs.Numbers.{TellsNumbers}
use Rattle.stats_cli.specs.Words.{StatsSaid}

-- the text was written whole
pub record WritesStats (told : Option Told) (said : StatsSaid) (old new : Option (List ℕ)) : Type 0 where
  pub text : List ℕ
  pub tells : TellsNumbers told said text
  pub written : Appends old new text

-- a beginning of the text was written, which is shorter than the text
pub record WritesFront (told : Option Told) (said : StatsSaid) (old new : Option (List ℕ)) : Type 0 where
  pub text : List ℕ
  pub tells : TellsNumbers told said text
  pub written : AppendsBeginning old new text
