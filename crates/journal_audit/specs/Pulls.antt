-- What pulls may be told.
use Rattle.std.specs.Prelude.{◌≡◌, ◌≢◌, ℕ, ◌<◌, ◌≤◌, ◌&&◌, if◌then◌else◌, nat_le, List, Contains, length}
use Rattle.std.specs.List.{slice_index_or}
use Rattle.cert_check.specs.Places.{coflow_with}
use Rattle.journal.specs.declared.command.Entry.{Entry}
use Rattle.journal.specs.declared.opening.Opening.{Opening}
use Rattle.journal.specs.Journal.{rank_of, version_of}
use Rattle.journal.specs.State.{has}
use Rattle.live_text.specs.declared.value.PullLine.{PullLine}

abbrev pub pull_at : List PullLine → ℕ → PullLine
pull_at pulls k = slice_index_or pulls k (record { client = 0; line = 0; id = 0; version = 0; rank = 0 })

-- the rank that a pull should be told: that of its coflow in its version, and 0 where the journal has no such version
-- or the table no such id
abbrev pub real_rank : Opening → List Entry → PullLine → ℕ
real_rank o journal p =
    if has o.table.ids p.id && nat_le p.version (version_of journal)
    then rank_of o journal p.version (coflow_with o.table.ids p.id)
    else 0

-- the pull at this index names a version up to the newest one, has the id of a coflow, and no pull before of the same
-- client names a greater version
pub record HasVersion (ids : List ℕ) (newest : ℕ) (pulls : List PullLine) (index : ℕ) : Type 0 where
  pub made : (pull_at pulls index).version ≤ newest
  pub known : Contains ids (pull_at pulls index).id
  pub no_greater : (k : ℕ) → k < index → (pull_at pulls k).client ≡ (pull_at pulls index).client →
      (pull_at pulls k).version ≤ (pull_at pulls index).version

-- the pull of this client at this line is the first with a wrong rank
pub record IsFirstWrongRank (o : Opening) (journal : List Entry) (pulls : List PullLine)
    (client line stated real : ℕ) : Type 0 where
  pub index : ℕ
  pub inside : index < length pulls
  pub client_is : (pull_at pulls index).client ≡ client
  pub line_is : (pull_at pulls index).line ≡ line
  pub says : (pull_at pulls index).rank ≡ stated
  pub should : real_rank o journal (pull_at pulls index) ≡ real
  pub differ : stated ≢ real
  pub before : (k : ℕ) → k < index → (pull_at pulls k).rank ≡ real_rank o journal (pull_at pulls k)

-- the pull of this client at this line is the first with a version that it may not have
pub record IsFirstWrongVersion (ids : List ℕ) (newest : ℕ) (pulls : List PullLine) (client line : ℕ) : Type 0 where
  pub index : ℕ
  pub inside : index < length pulls
  pub client_is : (pull_at pulls index).client ≡ client
  pub line_is : (pull_at pulls index).line ≡ line
  pub wrong : HasVersion ids newest pulls index → ⊥
  pub before : (k : ℕ) → k < index → HasVersion ids newest pulls k
