-- What a reader of online runs answers.
use Rattle.std.specs.Prelude.{◌≡◌, ℕ, ◌<◌, ◌≤◌, ◌++◌, List, Result, Ok, Err, codes, length}
use Rattle.report_text.specs.declared.fault.ReportFault.{ReportFault}
use Rattle.report_text.specs.declared.fault.ReportFault.TheVariants.{BadText, NoMemory}
use Rattle.coflow_units.specs.Text.{text_of}
use Rattle.online_text.specs.declared.value.Online.{Online}
use Rattle.online_text.specs.Online.{HasSmallNumbers, IsOnline}
use Rattle.online_text.specs.Text.{online_lines, online_text}

-- the bytes are the text of the online run
pub record IsTextOf (bytes : List ℕ) (o : Online) : Type 0 where
  pub online : IsOnline o
  pub small : HasSmallNumbers o
  pub text : bytes ≡ online_text o

-- the bytes begin with n whole lines, with which the text of some online run begins
pub record IsBeginning (bytes : List ℕ) (n : ℕ) : Type 0 where
  pub whole : Online
  pub online : IsOnline whole
  pub small : HasSmallNumbers whole
  pub front : List (List ℕ)
  pub others : List (List ℕ)
  pub lines : online_lines whole ≡ front ++ others
  pub count : length front ≡ n
  pub rest : List ℕ
  pub text : bytes ≡ text_of front ++ rest

-- the bytes are the text of no online run, and the line is the first one that no text of an online run has after the
-- lines before it
pub record IsBadAt (bytes : List ℕ) (line : ℕ) : Type 0 where
  pub no_text : (o : Online) → IsTextOf bytes o → ⊥
  pub counted : 1 ≤ line
  pub before : (n : ℕ) → n < line → IsBeginning bytes n
  pub here : IsBeginning bytes line → ⊥

-- a reader answers the online run whose text the bytes are, or the first line that is wrong; want of memory is free
abbrev pub GivesOnline : List ℕ → Result Online ReportFault → Type 0
GivesOnline bytes (Ok o) = IsTextOf bytes o
GivesOnline bytes (Err (BadText line)) = IsBadAt bytes line
GivesOnline bytes (Err NoMemory) = Unit {0}

-- the bytes begin with the first line of the text of an online run
abbrev pub BeginsOnline : List ℕ → Type 0
BeginsOnline bytes = (rest : List ℕ) × (bytes ≡ codes "sincronia online 2\n" ++ rest)
