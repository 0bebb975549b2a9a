-- The files of a job.
use Rattle.std.specs.Prelude.{◌≡◌, ℕ, List, [], ◌∷◌, codes, max}
use Rattle.outside.specs.declared.mem_shelf.MemShelf.{MemShelf}
use Rattle.outside.specs.MemShelf.{IsMissing, count_of, mem_faults, mem_told, piece_of}
use Rattle.outside.specs.Shelf.{bytes_of}

-- the file with this name is there, and has these bytes
abbrev pub HasBytes : List ℕ → List ℕ → MemShelf → Type 0
HasBytes name bytes shelf = (bytes_of (mem_told shelf) name ≡ bytes) × (IsMissing shelf name → ⊥)

-- the files `t` and `s` have these bytes, and there is no third
pub record HasBoth (trace beside : List ℕ) (shelf : MemShelf) : Type 0 where
  pub trace_is : HasBytes (codes "t") trace shelf
  pub beside_is : HasBytes (codes "s") beside shelf
  pub count : count_of shelf ≡ 2

-- No call was made yet, and so none failed. A read gives at most so many bytes, but may give one, and this call alone
-- fails.
pub record IsUnread (piece failing_call : ℕ) (shelf : MemShelf) : Type 0 where
  pub calls : shelf.calls ≡ 0
  pub faults : mem_faults shelf ≡ 0
  pub piece_is : piece_of shelf ≡ max piece 1
  pub fails : shelf.fails.items ≡ failing_call ∷ []
