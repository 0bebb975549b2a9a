-- What a shelf that never fails tells.
use Rattle.std.specs.Prelude.{ℕ, Bool}
use Rattle.outside.specs.declared.shelf.Place4.{Place4}
use Rattle.outside.specs.declared.sure_shelf.SureShelf.{SureShelf}
use Rattle.outside.specs.Shelf.{Told}
use Rattle.outside.specs.Files.{is_started, memory_told}

abbrev pub sure_told : SureShelf → Told
sure_told shelf = memory_told shelf.files.items (λ _. 0) shelf.places

-- a read gives at most so many bytes
abbrev pub sure_piece : SureShelf → ℕ
sure_piece shelf = shelf.piece.size

abbrev pub sure_started : SureShelf → Place4 → Bool
sure_started shelf = is_started shelf.places
