-- What was written.
use Rattle.std.specs.Prelude.{List, ℕ, Option}
use Rattle.outside.specs.Shelf.{Told}
use Rattle.command_files.specs.Written.{Appends, AppendsBeginning}
use Rattle.picture_cli.specs.Drawn.{Draws}
use Rattle.picture_cli.specs.Words.{PictureSaid}

-- the picture was written whole
pub record WritesPicture (told : Option Told) (said : PictureSaid) (old new : Option (List ℕ)) : Type 0 where
  pub text : List ℕ
  pub draws : Draws told said text
  pub written : Appends old new text

-- a beginning of the picture was written, which is shorter than the picture
pub record WritesFront (told : Option Told) (said : PictureSaid) (old new : Option (List ℕ)) : Type 0 where
  pub text : List ℕ
  pub draws : Draws told said text
  pub written : AppendsBeginning old new text
