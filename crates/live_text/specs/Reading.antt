-- What a reader of printed journals answers.
use Rattle.std.specs.Prelude.{◌≡◌, ℕ, ◌<◌, ◌≤◌, ◌++◌, List, Result, Ok, Err, length}
use Rattle.report_text.specs.declared.fault.ReportFault.{ReportFault}
use Rattle.report_text.specs.declared.fault.ReportFault.TheVariants.{BadText, NoMemory}
use Rattle.coflow_units.specs.Text.{text_of}
use Rattle.live_text.specs.declared.value.Live.{Live}
use Rattle.live_text.specs.Live.{IsLive}
use Rattle.live_text.specs.Text.{live_lines, live_text}

-- the bytes are the text of the printed journal
pub record IsTextOf (bytes : List ℕ) (l : Live) : Type 0 where
  pub live : IsLive l
  pub text : bytes ≡ live_text l

-- the bytes begin with n whole lines, with which the text of some printed journal begins
pub record IsBeginning (bytes : List ℕ) (n : ℕ) : Type 0 where
  pub whole : Live
  pub live : IsLive whole
  pub front : List (List ℕ)
  pub others : List (List ℕ)
  pub lines : live_lines whole ≡ front ++ others
  pub count : length front ≡ n
  pub rest : List ℕ
  pub text : bytes ≡ text_of front ++ rest

-- the bytes are the text of no printed journal, and the line is the first one that no such text has after the lines
-- before it
pub record IsBadAt (bytes : List ℕ) (line : ℕ) : Type 0 where
  pub no_text : (l : Live) → IsTextOf bytes l → ⊥
  pub counted : 1 ≤ line
  pub before : (n : ℕ) → n < line → IsBeginning bytes n
  pub here : IsBeginning bytes line → ⊥

-- a reader answers the printed journal whose text the bytes are, or the first line that is wrong; want of memory is
-- free
abbrev pub GivesLive : List ℕ → Result Live ReportFault → Type 0
GivesLive bytes (Ok l) = IsTextOf bytes l
GivesLive bytes (Err (BadText line)) = IsBadAt bytes line
GivesLive bytes (Err NoMemory) = Unit {0}
