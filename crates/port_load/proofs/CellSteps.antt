-- Blocks of cells are made and numbers set in them.
use Rattle.std.proofs.Common.{◌≡◌, ◌≢◌, ℕ, ◌+◌, ◌*◌, ◌/◌, ◌%◌, ◌<◌, ◌≤◌, inl, inr, Bool, true, false, cond, List, [], ◌∷◌, ◌++◌, length, get_or, zero, suc, sym, ap, subst, ◌∙◌, ap₂}
use Rattle.std.proofs.Common.{arith, length-set, mod-lt, div-lt_iff_lt-mul, div-add-mod'}
use Rattle.std.specs.Prelude.{◌==◌, map, replicate, slice_index, slice_set, sum_by}
use Rattle.std.specs.List.{range_with_len}
use Rattle.std.proofs.lemmas.Bool.{cases_eq, eq-eqb, ne_eqb}
use Rattle.std.proofs.lemmas.Grind.{get_or_default_zero, same_number_lists}
use Rattle.std.proofs.lemmas.List.{append_assoc, get_or-append-add, get_or_append_left, replicate-append-replicate, get_or-replicate, get_or-set_same, get_or-set_other}
use Rattle.std.proofs.lemmas.List.{length-append, length-replicate}
use Rattle.std.proofs.lemmas.List.FromFn.{get_or-map-range_with_len, length-map-range_with_len, length-range_with_len}
use Rattle.std.proofs.lemmas.Nat.{div-mul-add, mod-mul-add}
use Rattle.std.proofs.Math.ListN.{get_or-eq_default}
use Rattle.std.proofs.Math.Nat.{mul-le-mul}
use Rattle.coflow_units.proofs.Sums.{sum_mono, sum_same, sum_zero, sum_ones}
use Rattle.coflow_units.proofs.Ranges.{in_range}
use Rattle.port_load.specs.CellTable.{CellTable, IsBlocks, cell_of, cells_in, no_block, opened}
use Rattle.port_load.specs.MarkTable.{width}
use Rattle.port_load.proofs.Grid.{in_table, sum_grows}

-- ---- how many blocks are there

at_most_one : (b : Bool) → cond b 0 1 ≤ 1
at_most_one true = omega arith
at_most_one false = omega arith

pub opened_most : (blocks : List ℕ) → opened blocks ≤ length blocks
opened_most blocks =
    let numbers = range_with_len 0 (length blocks) in
    omega (
      arith,
      sum_mono (λ k. cond (slice_index blocks k == no_block) 0 1) (λ (k : ℕ). 1) numbers (λ k has. at_most_one (slice_index blocks k == no_block)),
      sum_ones numbers,
      length-range_with_len 0 (length blocks),
    )

pub opened_more : (blocks : List ℕ) (place b : ℕ) → place < length blocks → slice_index blocks place ≡ no_block → b ≢ no_block →
    opened (slice_set blocks place b) ≡ opened blocks + 1
opened_more blocks place b lt none some =
    let f = λ (k : ℕ). cond (slice_index blocks k == no_block) 0 1 in
    let g = λ (k : ℕ). cond (slice_index (slice_set blocks place b) k == no_block) 0 1 in
    let before = ap {B = ℕ} (λ x. cond x 0 1) (eq-eqb (slice_index blocks place) no_block none) in
    let after = ap {B = ℕ} (λ x. cond (x == no_block) 0 1) (get_or-set_same blocks place b 0 lt) ∙ ap {B = ℕ} (λ x. cond x 0 1) (ne_eqb b no_block some) in
    ap (λ n. sum_by g (range_with_len 0 n)) (length-set blocks place b)
    ∙ sum_grows f g (length blocks) place 1 lt (omega (arith, before, after)) (λ k lk ne. ap {B = ℕ} (λ x. cond (x == no_block) 0 1) (get_or-set_other blocks place k b 0 ne))

few_words : (columns : ℕ) → columns ≤ 4096 → width columns ≤ 65
few_words columns le = omega (arith, le)

-- ---- cells

abbrev pub read : ℕ → List ℕ → List ℕ → ℕ → ℕ
read columns blocks numbers k = cell_of columns blocks numbers (k / columns) (k % columns)

some_columns : (rows columns k : ℕ) → k < rows * columns → 0 < columns
some_columns rows zero k lt = absurd (omega (arith, lt))
some_columns rows (suc n) k lt = omega arith

row_of_cell : (rows columns k : ℕ) → k < rows * columns → k / columns < rows
row_of_cell rows columns k lt = (div-lt_iff_lt-mul (some_columns rows columns k lt)).1 lt

pub place_in : (rows columns : ℕ) (blocks : List ℕ) (row column : ℕ) → length blocks ≡ rows * width columns → row < rows → column < columns →
    row * width columns + column / 64 < length blocks
place_in rows columns blocks row column len lr lc =
    let within : column / 64 < width columns = omega arith in
    omega (arith, len, in_table (width columns) row (column / 64) rows lr within)

pub cell_in_list : (t : CellTable) (row column : ℕ) → row < t.rows → column < t.columns →
    slice_index (cells_in t) (row * t.columns + column) ≡ cell_of t.columns t.blocks t.numbers row column
cell_in_list t row column lr lc =
    let k = row * t.columns + column in
    get_or-map-range_with_len (read t.columns t.blocks t.numbers) 0 (t.rows * t.columns) k k 0 (in_table t.columns row column t.rows lr lc) (omega arith)
    ∙ ap (λ r. cell_of t.columns t.blocks t.numbers r (k % t.columns)) (div-mul-add row t.columns column lc)
    ∙ ap (λ c. cell_of t.columns t.blocks t.numbers row c) (mod-mul-add row t.columns column lc)

-- there are fewer numbers than any that a missing block could stand for
pub few_numbers : (rows columns : ℕ) (blocks numbers : List ℕ) (room : ℕ) → IsBlocks rows columns blocks numbers room → length numbers + 64 ≤ no_block * 64
few_numbers rows columns blocks numbers room is =
    let few : rows * width columns ≤ 4096 * 65 = mul-le-mul is.rows_limit (few_words columns is.columns_limit) in
    omega (arith, few, opened_most blocks, is.numbers_len, is.blocks_len)

-- a block that is not there reads as 0
pub none_reads : (rows columns : ℕ) (blocks numbers : List ℕ) (room b c : ℕ) → IsBlocks rows columns blocks numbers room → b ≡ no_block → slice_index numbers (b * 64 + c) ≡ 0
none_reads rows columns blocks numbers room b c is none = get_or-eq_default numbers 0 (omega (arith, none, few_numbers rows columns blocks numbers room is))

-- ---- a table of zeros

none_opened : (blocks : List ℕ) → ((k : ℕ) → k < length blocks → slice_index blocks k ≡ no_block) → opened blocks ≡ 0
none_opened blocks none =
    let numbers = range_with_len 0 (length blocks) in
    sum_same (λ k. cond (slice_index blocks k == no_block) 0 1) (λ (k : ℕ). 0) numbers
    (λ k has. ap {B = ℕ} (λ x. cond x 0 1) (eq-eqb (slice_index blocks k) no_block (none k (in_range (length blocks) k has)))) ∙ sum_zero numbers

pub blocks_none : (rows columns count room : ℕ) (blocks : List ℕ) → rows ≤ 4096 → columns ≤ 4096 → count ≡ rows * width columns → blocks ≡ replicate count no_block →
    64 * count ≤ room → IsBlocks rows columns blocks [] room
blocks_none rows columns count room blocks lr lc count_is is le =
    let len : length blocks ≡ count = ap length is ∙ length-replicate count no_block in
    let none : (k : ℕ) → k < length blocks →
    slice_index blocks k ≡ no_block = λ k lt. ap (λ xs. slice_index xs k) is ∙ get_or-replicate count k no_block 0 (omega (arith, lt, len)) in
    record {
      rows_limit = lr;
      columns_limit = lc;
      blocks_len = len ∙ count_is;
      numbers_len = omega (arith, none_opened blocks none);
      inside = λ k lt some. absurd (some (none k lt));
      apart = λ j k lj lk some same. absurd (some (none j lj));
      room_is = omega (arith, len, le);
    }

nothing : (xs : List ℕ) (k : ℕ) → xs ≡ [] → slice_index xs k ≡ 0
nothing xs k is = get_or-eq_default xs 0 (omega (arith, ap length is))

pub cells_none : (t : CellTable) (rows columns : ℕ) → t.rows ≡ rows → t.columns ≡ columns → t.numbers ≡ [] → cells_in t ≡ replicate (rows * columns) 0
cells_none t rows columns rows_are columns_are empty =
    let n = t.rows * t.columns in
    let n_is : n ≡ rows * columns = ap₂ (λ a b. a * b) rows_are columns_are in
    same_number_lists (cells_in t) (replicate (rows * columns) 0) (length-map-range_with_len (read t.columns t.blocks t.numbers) 0 n ∙ n_is ∙
    sym (length-replicate {A = ℕ} (rows * columns) 0))
    (λ k lt.
    let lk : k < n = omega (arith, lt, length-map-range_with_len (read t.columns t.blocks t.numbers) 0 n) in
    get_or-map-range_with_len (read t.columns t.blocks t.numbers) 0 n k k 0 lk (omega arith) ∙ nothing t.numbers _ empty ∙
    sym (get_or-replicate (rows * columns) k 0 0 (omega (arith, lk, n_is))))

-- ---- a number is set in a block that is there

same_place : (columns r c r' c' : ℕ) → c < columns → c' < columns → r * width columns + c / 64 ≡ r' * width columns + c' / 64 → c % 64 ≡ c' % 64 →
    r * columns + c ≡ r' * columns + c'
same_place columns r c r' c' lc lc' place rest =
    let low : c / 64 < width columns = omega arith in
    let low' : c' / 64 < width columns = omega arith in
    let row : r ≡ r' = sym (div-mul-add r (width columns) (c / 64) low) ∙ ap (λ k. k / width columns) place ∙ div-mul-add r' (width columns) (c' / 64) low' in
    let part : c / 64 ≡ c' / 64 = sym (mod-mul-add r (width columns) (c / 64) low) ∙ ap (λ k. k % width columns) place ∙ mod-mul-add r' (width columns) (c' / 64) low' in
    let column : c ≡ c' = omega (arith, part, rest) in
    ap (λ k. k * columns + c) row ∙ ap (λ k. r' * columns + k) column

whole_cell : (columns k : ℕ) → 0 < columns → k / columns * columns + k % columns ≡ k
whole_cell columns k some = div-add-mod' k columns

-- another cell stands elsewhere, or nowhere
other_cell : (rows columns : ℕ) (blocks numbers : List ℕ) (room row column k v : ℕ) → IsBlocks rows columns blocks numbers room → row < rows → column < columns →
    slice_index blocks (row * width columns + column / 64) ≢ no_block →
    k < rows * columns → k ≢ row * columns + column →
    read columns blocks (slice_set numbers (slice_index blocks (row * width columns + column / 64) * 64 + column % 64) v) k ≡ read columns blocks numbers k
other_cell rows columns blocks numbers room row column k v is lr lc there lk ne =
    let some = some_columns rows columns k lk in
    let r = k / columns in
    let c = k % columns in
    let lr' = row_of_cell rows columns k lk in
    let lc' : c < columns = mod-lt k some in
    let p = row * width columns + column / 64 in
    let p' = r * width columns + c / 64 in
    get_or-set_other numbers (slice_index blocks p * 64 + column % 64) (slice_index blocks p' * 64 + c % 64) v 0 (λ e.
    let same : slice_index blocks p ≡ slice_index blocks p' = omega (arith, e) in
    let rest : column % 64 ≡ c % 64 = omega (arith, e) in
    let place = is.apart p p' (place_in rows columns blocks row column is.blocks_len lr lc) (place_in rows columns blocks r c is.blocks_len lr' lc') there same in
    ne (sym (same_place columns row column r c lc lc' place rest ∙ whole_cell columns k some)))

own_cell : (rows columns : ℕ) (blocks numbers : List ℕ) (room row column v : ℕ) → IsBlocks rows columns blocks numbers room → row < rows → column < columns →
    slice_index blocks (row * width columns + column / 64) ≢ no_block →
    read columns blocks (slice_set numbers (slice_index blocks (row * width columns + column / 64) * 64 + column % 64) v) (row * columns + column) ≡ v
own_cell rows columns blocks numbers room row column v is lr lc there =
    let p = row * width columns + column / 64 in
    let q = slice_index blocks p * 64 + column % 64 in
    let inside = is.inside p (place_in rows columns blocks row column is.blocks_len lr lc) there in
    ap (λ r. cell_of columns blocks (slice_set numbers q v) r ((row * columns + column) % columns)) (div-mul-add row columns column lc)
    ∙ ap (λ c. cell_of columns blocks (slice_set numbers q v) row c) (mod-mul-add row columns column lc)
    ∙ get_or-set_same numbers q v 0 (omega (arith, inside))

pub cells_set : (t : CellTable) (room row column q v : ℕ) → IsBlocks t.rows t.columns t.blocks t.numbers room → row < t.rows → column < t.columns →
    slice_index t.blocks (row * width t.columns + column / 64) ≢ no_block →
    q ≡ slice_index t.blocks (row * width t.columns + column / 64) * 64 + column % 64 →
    cells_in (record { rows = t.rows; columns = t.columns; blocks = t.blocks; numbers = slice_set t.numbers q v }) ≡ slice_set (cells_in t) (row * t.columns + column) v
cells_set t room row column q v is lr lc there q_is =
    let n = t.rows * t.columns in
    let f = read t.columns t.blocks t.numbers in
    let g = read t.columns t.blocks (slice_set t.numbers q v) in
    let at = row * t.columns + column in
    let len = length-map-range_with_len f 0 n in
    let inside : at < n = in_table t.columns row column t.rows lr lc in
    same_number_lists (map g (range_with_len 0 n)) (slice_set (map f (range_with_len 0 n)) at v)
    (length-map-range_with_len g 0 n ∙ sym (length-set (map f (range_with_len 0 n)) at v ∙ len)) (λ k lt.
    let lk : k < n = omega (arith, lt, length-map-range_with_len g 0 n) in
    let new = get_or-map-range_with_len g 0 n k k 0 lk (omega arith) in
    elim (cases_eq k at) [
      | inl e ↦
          let here : g at ≡ v = ap (λ j. read t.columns t.blocks (slice_set t.numbers j v) at) q_is ∙
          own_cell t.rows t.columns t.blocks t.numbers room row column v is lr lc there in
          new ∙ ap g e ∙ here ∙ sym (ap (slice_index (slice_set (map f (range_with_len 0 n)) at v)) e ∙
          get_or-set_same (map f (range_with_len 0 n)) at v 0 (omega (arith, inside, len)))
      | inr ne ↦
          let stays : g k ≡ f k = ap (λ j. read t.columns t.blocks (slice_set t.numbers j v) k) q_is ∙
          other_cell t.rows t.columns t.blocks t.numbers room row column k v is lr lc there lk ne in
          new ∙ stays ∙ sym (get_or-set_other (map f (range_with_len 0 n)) at k v 0 ne ∙ get_or-map-range_with_len f 0 n k k 0 lk (omega arith))
    ])

-- what is read from a block that is there is the cell
pub cell_read : (t : CellTable) (room row column q was : ℕ) → IsBlocks t.rows t.columns t.blocks t.numbers room → row < t.rows → column < t.columns →
    slice_index t.blocks (row * width t.columns + column / 64) ≢ no_block →
    q ≡ slice_index t.blocks (row * width t.columns + column / 64) * 64 + column % 64 → was ≡ get_or t.numbers q was →
    was ≡ slice_index (cells_in t) (row * t.columns + column)
cell_read t room row column q was is lr lc there q_is read_is =
    let p = row * width t.columns + column / 64 in
    let block_in = is.inside p (place_in t.rows t.columns t.blocks row column is.blocks_len lr lc) there in
    read_is ∙ get_or_default_zero t.numbers q was (omega (arith, q_is, block_in)) ∙ ap (slice_index t.numbers) q_is ∙ sym (cell_in_list t row column lr lc)

pub blocks_set : (rows columns : ℕ) (blocks numbers : List ℕ) (room q v : ℕ) → IsBlocks rows columns blocks numbers room → IsBlocks rows columns blocks (slice_set numbers q v) room
blocks_set rows columns blocks numbers room q v is = record {
  rows_limit = is.rows_limit;
  columns_limit = is.columns_limit;
  blocks_len = is.blocks_len;
  numbers_len = length-set numbers q v ∙ is.numbers_len;
  inside = λ k lt some. omega (arith, is.inside k lt some, length-set numbers q v);
  apart = is.apart;
  room_is = is.room_is;
}

-- ---- a block is made

pub blocks_opened : (rows columns : ℕ) (blocks numbers : List ℕ) (room place b : ℕ) → IsBlocks rows columns blocks numbers room → place < length blocks →
    slice_index blocks place ≡ no_block → b * 64 ≡ length numbers →
    IsBlocks rows columns (slice_set blocks place b) (numbers ++ replicate 64 0) room
blocks_opened rows columns blocks numbers room place b is lt none b_is =
    let few = few_numbers rows columns blocks numbers room is in
    let some : b ≢ no_block = λ e. omega (arith, e, b_is, few) in
    let len : length (numbers ++ replicate 64 0) ≡ length numbers + 64 = length-append numbers (replicate 64 0) ∙ ap (λ n. length numbers + n) (length-replicate {A = ℕ} 64 0) in
    let own = get_or-set_same blocks place b 0 lt in
    let other = λ (k : ℕ) (ne : k ≢ place). get_or-set_other blocks place k b 0 ne in
    let used : (k : ℕ) → k < length blocks → slice_index blocks k ≢ no_block → slice_index blocks k ≢ b = λ k lk there e. omega (arith, e, b_is, is.inside k lk there) in
    record {
      rows_limit = is.rows_limit;
      columns_limit = is.columns_limit;
      blocks_len = length-set blocks place b ∙ is.blocks_len;
      numbers_len = omega (arith, len, is.numbers_len, opened_more blocks place b lt none some);
      inside = λ k lk there. elim (cases_eq k place) [
        | inl e ↦ omega (arith, ap (slice_index (slice_set blocks place b)) e, own, b_is, len)
        | inr ne ↦ omega (arith, other k ne, is.inside k (omega (arith, lk, length-set blocks place b)) (λ no. there (other k ne ∙ no)), len)
      ];
      apart = λ j k lj lk there same. elim (cases_eq j place) [
        | inl ej ↦ elim (cases_eq k place) [
          | inl ek ↦ ej ∙ sym ek
          | inr nk ↦
              let as_b : slice_index blocks k ≡ b = sym (other k nk) ∙ sym same ∙ ap (slice_index (slice_set blocks place b)) ej ∙ own in
              absurd (used k (omega (arith, lk, length-set blocks place b)) (λ no. some (sym as_b ∙ no)) as_b)
        ]
        | inr nj ↦ elim (cases_eq k place) [
          | inl ek ↦
              let as_b : slice_index blocks j ≡ b = sym (other j nj) ∙ same ∙ ap (slice_index (slice_set blocks place b)) ek ∙ own in
              absurd (used j (omega (arith, lj, length-set blocks place b)) (λ no. some (sym as_b ∙ no)) as_b)
          | inr nk ↦ is.apart j k (omega (arith, lj, length-set blocks place b)) (omega (arith, lk, length-set blocks place b)) (λ no. there (other j nj ∙ no))
              (sym (other j nj) ∙ same ∙ other k nk)
        ]
      ];
      room_is = omega (arith, is.room_is, length-set blocks place b);
    }

-- there is room for one block more where one is not there
pub room_for_one : (rows columns : ℕ) (blocks numbers : List ℕ) (room place : ℕ) → IsBlocks rows columns blocks numbers room → place < length blocks →
    slice_index blocks place ≡ no_block → length numbers + 64 ≤ room
room_for_one rows columns blocks numbers room place is lt none =
    let more = opened_more blocks place 0 lt none (λ e. omega (arith, e)) in
    omega (arith, more, opened_most (slice_set blocks place 0), length-set blocks place 0, is.numbers_len, is.room_is)

more_reads : (rows columns : ℕ) (blocks numbers : List ℕ) (room b place k c : ℕ) → IsBlocks rows columns blocks numbers room → place < length blocks →
    slice_index blocks place ≡ no_block → b * 64 ≡ length numbers → k < length blocks → c < 64 →
    slice_index (numbers ++ replicate 64 0) (slice_index (slice_set blocks place b) k * 64 + c) ≡ slice_index numbers (slice_index blocks k * 64 + c)
more_reads rows columns blocks numbers room b place k c is lt none b_is lk lc =
    let few = few_numbers rows columns blocks numbers room is in
    let more = numbers ++ replicate 64 0 in
    let len : length more ≡ length numbers + 64 = length-append numbers (replicate 64 0) ∙ ap (λ n. length numbers + n) (length-replicate {A = ℕ} 64 0) in
    elim (cases_eq k place) [
      | inl e ↦
          let block : slice_index (slice_set blocks place b) k ≡ b = ap (slice_index (slice_set blocks place b)) e ∙ get_or-set_same blocks place b 0 lt in
          let at : slice_index (slice_set blocks place b) k * 64 + c ≡ length numbers + c = omega (arith, block, b_is) in
          ap (slice_index more) at ∙ get_or-append-add numbers (replicate 64 0) c 0 ∙ get_or-replicate 64 c 0 0 lc
          ∙ sym (none_reads rows columns blocks numbers room (slice_index blocks k) c is (ap (slice_index blocks) e ∙ none))
      | inr ne ↦
          let at : slice_index (slice_set blocks place b) k * 64 + c ≡ slice_index blocks k * 64 + c = ap (λ n. n * 64 + c) (get_or-set_other blocks place k b 0 ne) in
          ap (slice_index more) at ∙ elim (cases_eq (slice_index blocks k) no_block) [
            | inl gone ↦ get_or-eq_default more 0 (omega (arith, gone, few, len)) ∙ sym (none_reads rows columns blocks numbers room (slice_index blocks k) c is gone)
            | inr there ↦ get_or_append_left numbers (replicate 64 0) 0 (slice_index blocks k * 64 + c) (omega (arith, is.inside k lk there, lc))
          ]
    ]

pub cells_opened : (t : CellTable) (room place b : ℕ) → IsBlocks t.rows t.columns t.blocks t.numbers room → place < length t.blocks → slice_index t.blocks place ≡ no_block →
    b * 64 ≡ length t.numbers →
    cells_in (record { rows = t.rows; columns = t.columns; blocks = slice_set t.blocks place b; numbers = t.numbers ++ replicate 64 0 }) ≡ cells_in t
cells_opened t room place b is lt none b_is =
    let n = t.rows * t.columns in
    let f = read t.columns t.blocks t.numbers in
    let g = read t.columns (slice_set t.blocks place b) (t.numbers ++ replicate 64 0) in
    same_number_lists (map g (range_with_len 0 n)) (map f (range_with_len 0 n)) (length-map-range_with_len g 0 n ∙ sym (length-map-range_with_len f 0 n)) (λ k lk'.
    let lk : k < n = omega (arith, lk', length-map-range_with_len g 0 n) in
    let some = some_columns t.rows t.columns k lk in
    let inside = place_in t.rows t.columns t.blocks (k / t.columns) (k % t.columns) is.blocks_len (row_of_cell t.rows t.columns k lk) (mod-lt k some) in
    let c : (k % t.columns) % 64 < 64 = omega arith in
    get_or-map-range_with_len g 0 n k k 0 lk (omega arith)
    ∙ more_reads t.rows t.columns t.blocks t.numbers room b place ((k / t.columns) * width t.columns + (k % t.columns) / 64) ((k % t.columns) % 64) is lt none b_is inside c
    ∙ sym (get_or-map-range_with_len f 0 n k k 0 lk (omega arith)))

pub one_zero_more : (xs : List ℕ) (k : ℕ) → (xs ++ replicate k 0) ++ 0 ∷ [] ≡ xs ++ replicate (k + 1) 0
one_zero_more xs k = append_assoc xs (replicate k 0) (0 ∷ []) ∙ ap (λ ys. xs ++ ys) (replicate-append-replicate k 1 0)

abbrev pub cell_table : ℕ → ℕ → List ℕ → List ℕ → CellTable
cell_table rows columns blocks numbers = record { rows = rows; columns = columns; blocks = blocks; numbers = numbers }

-- the same table, where its parts are the same
pub cells_along : (rows columns : ℕ) (blocks numbers : List ℕ) (rows' columns' : ℕ) (blocks' numbers' : List ℕ) → rows' ≡ rows → columns' ≡ columns → blocks' ≡ blocks →
    numbers' ≡ numbers →
    cells_in (cell_table rows' columns' blocks' numbers') ≡ cells_in (cell_table rows columns blocks numbers)
cells_along rows columns blocks numbers rows' columns' blocks' numbers' r c b n =
    ap (λ k. cells_in (cell_table k columns' blocks' numbers')) r ∙ ap (λ k. cells_in (cell_table rows k blocks' numbers')) c ∙
    ap (λ xs. cells_in (cell_table rows columns xs numbers')) b ∙ ap (λ xs. cells_in (cell_table rows columns blocks xs)) n

pub blocks_along : (rows columns : ℕ) (blocks numbers : List ℕ) (room rows' columns' : ℕ) (blocks' numbers' : List ℕ) (room' : ℕ) → rows' ≡ rows → columns' ≡ columns →
    blocks' ≡ blocks → numbers' ≡ numbers → room' ≡ room →
    IsBlocks rows columns blocks numbers room → IsBlocks rows' columns' blocks' numbers' room'
blocks_along rows columns blocks numbers room rows' columns' blocks' numbers' room' r c b n o is =
    subst (λ k. IsBlocks k columns' blocks' numbers' room') (sym r)
    (subst (λ k. IsBlocks rows k blocks' numbers' room') (sym c)
    (subst (λ xs. IsBlocks rows columns xs numbers' room') (sym b)
    (subst (λ xs. IsBlocks rows columns blocks xs room') (sym n) (subst (λ k. IsBlocks rows columns blocks numbers k) (sym o) is))))
