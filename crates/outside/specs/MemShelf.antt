-- What a shelf in memory tells.
use Rattle.std.specs.Prelude.{◌≡◌, ◌↔◌, ℕ, Bool, List, Contains, length}
use Rattle.outside.specs.declared.shelf.Place4.{Place4}
use Rattle.outside.specs.declared.mem_shelf.MemShelf.{MemShelf}
use Rattle.outside.specs.Shelf.{Told, faults_of}
use Rattle.outside.specs.Files.{CountsName, HasNoFile, LeavesOtherNames, count_at, counts_of, is_started, memory_told}

abbrev pub mem_told : MemShelf → Told
mem_told shelf =
    memory_told shelf.files.items (count_at (counts_of shelf.files.items) shelf.counts.missing) shelf.places

abbrev pub mem_started : MemShelf → Place4 → Bool
mem_started shelf = is_started shelf.places

abbrev pub mem_faults : MemShelf → ℕ
mem_faults shelf = shelf.counts.all

-- the last call is one of those that fail
abbrev pub FailsNow : MemShelf → Type 0
FailsNow shelf = Contains shelf.fails.items shelf.calls

-- the name was not put
abbrev pub IsMissing : MemShelf → List ℕ → Type 0
IsMissing shelf name = HasNoFile shelf.files.items name

-- of every other name it is as before whether it was put
abbrev pub LeavesOthers : MemShelf → MemShelf → List ℕ → Type 0
LeavesOthers old new name = LeavesOtherNames old.files.items new.files.items name

-- how many names the shelf holds
abbrev pub count_of : MemShelf → ℕ
count_of shelf = length shelf.files.items

-- one name more where the name was not put, and else as many as before
abbrev pub CountsOnce : MemShelf → MemShelf → List ℕ → Type 0
CountsOnce old new name = CountsName old.files.items new.files.items name

-- the same names were put
abbrev pub HasSameNames : MemShelf → MemShelf → Type 0
HasSameNames old new = (name : List ℕ) → IsMissing new name ↔ IsMissing old name

-- no name has another count of faults
abbrev pub HasSameCounts : MemShelf → MemShelf → Type 0
HasSameCounts old new = (name : List ℕ) → faults_of (mem_told new) name ≡ faults_of (mem_told old) name

-- a read gives at most so many bytes
abbrev pub piece_of : MemShelf → ℕ
piece_of shelf = shelf.piece.size

-- the calls that fail stay the same, and so many calls were made
abbrev pub HasMade : MemShelf → MemShelf → ℕ → Type 0
HasMade old new calls = (new.fails.items ≡ old.fails.items) × (new.calls ≡ calls)
