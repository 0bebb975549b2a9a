-- The text of the classes of a trace, line by line.
use Rattle.std.specs.Prelude.{ℕ, ◌<◌, ◌^◌, ◌++◌, List, [], ◌∷◌, All, codes, map}
use Rattle.report_text.specs.Text.{cost_line, run_line}
use Rattle.coflow_units.specs.Text.{spaced, text_of}
use Rattle.report_text.specs.declared.classed.ClassText.{ClassText}
use Rattle.report_text.specs.declared.classed.Member.{Member}
use Rattle.report_text.specs.Readers.{IsRun}

-- the line of a member: its class and its id
abbrev pub member_line : Member → List ℕ
member_line m = codes "member" ++ spaced m.class_number ++ spaced m.id

-- the line of the cap
abbrev pub cap_line : ℕ → List ℕ
cap_line cap = codes "cap" ++ spaced cap

-- the lines of classes
abbrev pub class_lines : ClassText → List (List ℕ)
class_lines c = (codes "sincronia classes 1" ∷ []) ++ map member_line c.members ++
    (cap_line c.cap ∷ cost_line c.cost ∷ []) ++ map run_line c.runs ++ (codes "end" ∷ [])

-- the text of classes
abbrev pub class_text : ClassText → List ℕ
class_text c = text_of (class_lines c)

-- the numbers of a member are below 2^128, as those of its type are
pub record IsSmallMember (m : Member) : Type 0 where
  pub class_number : m.class_number < 2 ^ 128
  pub id : m.id < 2 ^ 128

-- the same of each number, and the runs are such as a report may have
pub record IsSmallClasses (c : ClassText) : Type 0 where
  pub members : All IsSmallMember c.members
  pub cap : c.cap < 2 ^ 128
  pub cost : c.cost < 2 ^ 128
  pub runs : All IsRun c.runs
