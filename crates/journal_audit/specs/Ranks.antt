-- Tables that tell the ranks of coflows in the orders of a journal.
use Rattle.std.specs.Prelude.{◌≡◌, ℕ, ◌+◌, ◌<◌, List, Option, length, unwrap_or}
use Rattle.std.specs.List.{slice_index_or}
use Rattle.journal.specs.declared.command.Entry.{Entry}
use Rattle.journal.specs.declared.opening.Opening.{Opening}
use Rattle.journal.specs.Journal.{rank_of, version_of}

-- what a lookup tells, and 0 where it finds nothing
abbrev pub told : Option ℕ → ℕ
told found = unwrap_or found 0

-- there is a table for each version that the journal makes, which tells the rank of each coflow in its order
abbrev pub AreRanks : {M : Type 0} → (M → ℕ → Option ℕ) → Opening → List Entry → List M → Type 0
AreRanks {M} find o journal tables =
    (length tables ≡ version_of journal) × ((k coflow : ℕ) (d : M) → k < version_of journal →
    told (find (slice_index_or tables k d) coflow) ≡ rank_of o journal (k + 1) coflow)
