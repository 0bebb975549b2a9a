-- The open run of the fields that keep it.
use Rattle.std.specs.Prelude.{◌≡◌, ℕ, Bool, false, List, Option, Some, None, length}
use Rattle.matching.specs.declared.tables.Tables.{Tables}
use Rattle.matching.specs.Matching.{listed_in, ports_of}
use Rattle.master_core.specs.declared.runs.OpenRun.{OpenRun}
use Rattle.master_core.specs.OpenRun.{KeptRun, note_at}

-- where a run is open, the number of its grants is kept with it
abbrev pub KeepsCount : Tables → Option OpenRun → Type 0
KeepsCount m None = Unit {0}
KeepsCount m (Some x) = x.count ≡ length (listed_in m)

-- there is a place for the note of each port, and nothing is noted where no note was made
pub record AreRuns (m : Tables) (noted : List (Option ℕ)) (has_notes : Bool) (current : Option OpenRun) : Type 0 where
  pub noted_len : length noted ≡ ports_of m
  pub quiet : has_notes ≡ false → (ingress : ℕ) → note_at noted ingress ≡ None
  pub count : KeepsCount m current

-- where a run is open, its grants are those that are kept
abbrev pub kept_run : Tables → List (Option ℕ) → Option OpenRun → Option KeptRun
kept_run m noted None = None
kept_run m noted (Some x) =
    Some (record { first = x.first; slots = x.slots; granted = listed_in m; tables = m; noted = noted })
