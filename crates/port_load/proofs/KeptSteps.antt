-- The totals of a table follow its cells.
use Rattle.std.proofs.Common.{◌≡◌, ◌≢◌, ℕ, ◌+◌, ◌-◌, ◌*◌, ◌<◌, ◌≤◌, inl, inr, List, length, refl, sym, ap, subst, ◌∙◌, arith, length-set}
use Rattle.std.specs.Prelude.{replicate, slice_index, slice_set}
use Rattle.std.specs.List.{range_with_len}
use Rattle.std.proofs.lemmas.List.{get_or-replicate, length-replicate, get_or-set_same, get_or-set_other}
use Rattle.std.proofs.Math.ListN.{get_or-eq_default}
use Rattle.std.proofs.lemmas.Bool.{cases_eq, cases_lt}
use Rattle.coflow_units.proofs.Sums.{member_within_sum, sum_same, sum_zero}
use Rattle.coflow_units.specs.declared.fabric.Port.{Port}
use Rattle.coflow_units.specs.declared.fabric.Side.{Side}
use Rattle.coflow_units.specs.declared.fabric.Side.TheVariants.{Ingress, Egress}
use Rattle.coflow_units.specs.Ordering.{port_place, port_place_on}
use Rattle.coflow_units.proofs.Ranges.{in_range}
use Rattle.port_load.specs.Kept.{IsKept, row_total}
use Rattle.port_load.specs.MarkTable.{HasShapeOf, MarkTable, mark_at}
use Rattle.port_load.specs.LoadTable.{DropsCoflow, LoadTable, load_at, total_at}
use Rattle.port_load.proofs.Grid.{below_in, in_table, other_place, sum_grows}

-- a cell after one was written
cell_same : (cells : List ℕ) (place v : ℕ) → place < length cells → slice_index (slice_set cells place v) place ≡ v
cell_same cells place v lt = get_or-set_same cells place v 0 lt

cell_other : (cells : List ℕ) (place q v : ℕ) → q ≢ place → slice_index (slice_set cells place v) q ≡ slice_index cells q
cell_other cells place q v ne = get_or-set_other cells place q v 0 ne

-- a cell of another row or column
pub written_other : (cells : List ℕ) (n row column r c v : ℕ) → column < n → c < n → (r ≡ row → c ≡ column → ⊥) →
    slice_index (slice_set cells (row * n + column) v) (r * n + c) ≡ slice_index cells (r * n + c)
written_other cells n row column r c v lt lt' differ = cell_other cells (row * n + column) (r * n + c) v (other_place n r c row column lt' lt differ)

pub written_same : (cells : List ℕ) (n rows row column r v : ℕ) → length cells ≡ rows * n → row < rows → column < n → r ≡ row →
    slice_index (slice_set cells (row * n + column) v) (r * n + column) ≡ v
written_same cells n rows row column r v len lr lc e =
    ap (λ k. slice_index (slice_set cells (row * n + column) v) (k * n + column)) e ∙ cell_same cells (row * n + column) v (omega (arith, len, in_table n row column rows lr lc))

-- the total of a row after one of its cells grew, and of another row
pub row_grows : (cells : List ℕ) (n rows row column old units : ℕ) → length cells ≡ rows * n → row < rows → column < n → old ≡ slice_index cells (row * n + column) →
    row_total (slice_set cells (row * n + column) (old + units)) n row ≡ row_total cells n row + units
row_grows cells n rows row column old units len lr lc is =
    sum_grows (λ c. slice_index cells (row * n + c)) (λ c. slice_index (slice_set cells (row * n + column) (old + units)) (row * n + c)) n column units lc
    (written_same cells n rows row column row (old + units) len lr lc refl ∙ ap (λ k. k + units) is)
    (λ c lt ne. written_other cells n row column row c (old + units) lc lt (λ er ec. ne ec))

pub row_stays : (cells : List ℕ) (n row column r v : ℕ) → column < n → r ≢ row → row_total (slice_set cells (row * n + column) v) n r ≡ row_total cells n r
row_stays cells n row column r v lc ne =
    sum_same (λ c. slice_index (slice_set cells (row * n + column) v) (r * n + c)) (λ c. slice_index cells (r * n + c)) (range_with_len 0 n)
    (λ c has. written_other cells n row column r c v lc (in_range n c has) (λ er ec. ne er))

-- a column is marked or it is not
one_mark : (m : MarkTable) (row column r c : ℕ) → r ≡ row → c ≡ column → mark_at m row column ≡ 1 → mark_at m r c ≡ 0 → ⊥
one_mark m row column r c er ec one none = omega (arith, one, none, ap (λ k. mark_at m k c) er, ap (λ k. mark_at m row k) ec)

-- a mark was set at a row and a column, and none goes
pub record IsMarkedAt (old new : MarkTable) (row column : ℕ) : Type 0 where
  pub shape : HasShapeOf old new
  pub marked : mark_at new row column ≡ 1
  pub others : (r c : ℕ) → mark_at new r c ≡ 0 → mark_at old r c ≡ 0

-- units are added to a cell and to the total of its row
pub kept_more : (coflows ports : ℕ) (cells totals : List ℕ) (by_port by_coflow by_port' by_coflow' : MarkTable) (row coflow units old total : ℕ) →
    IsKept coflows ports cells totals by_port by_coflow → row < ports + ports → coflow < coflows →
    old ≡ slice_index cells (row * coflows + coflow) → total ≡ slice_index totals row → IsMarkedAt by_port by_port' row coflow → IsMarkedAt by_coflow by_coflow' coflow row →
    IsKept coflows ports (slice_set cells (row * coflows + coflow) (old + units)) (slice_set totals row (total + units)) by_port' by_coflow'
kept_more coflows ports cells totals by_port by_coflow by_port' by_coflow' row coflow units old total kept lr lc is total_is at_port of_coflow = record {
  coflows_limit = kept.coflows_limit;
  has_ports = kept.has_ports;
  ports_limit = kept.ports_limit;
  cells_len = length-set cells (row * coflows + coflow) (old + units) ∙ kept.cells_len;
  totals_len = length-set totals row (total + units) ∙ kept.totals_len;
  port_rows = at_port.shape.rows ∙ kept.port_rows;
  port_columns = at_port.shape.columns ∙ kept.port_columns;
  coflow_rows = of_coflow.shape.rows ∙ kept.coflow_rows;
  coflow_columns = of_coflow.shape.columns ∙ kept.coflow_columns;
  total = λ r lt. elim (cases_eq r row) [
    | inl e ↦ ap (λ k. slice_index (slice_set totals row (total + units)) k) e ∙ cell_same totals row (total + units) (omega (arith, kept.totals_len)) ∙
        ap (λ k. k + units) (total_is ∙ kept.total row lr)
        ∙ sym (row_grows cells coflows (ports + ports) row coflow old units kept.cells_len lr lc is) ∙
        ap (λ k. row_total (slice_set cells (row * coflows + coflow) (old + units)) coflows k) (sym e)
    | inr ne ↦ cell_other totals row r (total + units) ne ∙ kept.total r lt ∙ sym (row_stays cells coflows row coflow r (old + units) lc ne)
  ];
  by_port_none = λ c r lt lt' mark.
      written_other cells coflows row coflow r c (old + units) lc lt (λ er ec. one_mark by_port' row coflow r c er ec at_port.marked mark) ∙
      kept.by_port_none c r lt lt' (at_port.others r c mark);
  by_coflow_none = λ c r lt lt' mark.
      written_other cells coflows row coflow r c (old + units) lc lt (λ er ec. one_mark by_coflow' coflow row c r ec er of_coflow.marked mark) ∙
      kept.by_coflow_none c r lt lt' (of_coflow.others c r mark);
}

-- a cell is within the total of its row
pub cell_within : (coflows ports : ℕ) (cells totals : List ℕ) (by_port by_coflow : MarkTable) (row coflow : ℕ) → IsKept coflows ports cells totals by_port by_coflow →
    row < ports + ports → coflow < coflows →
    slice_index cells (row * coflows + coflow) ≤ slice_index totals row
cell_within coflows ports cells totals by_port by_coflow row coflow kept lr lc =
    omega (arith, kept.total row lr, member_within_sum (λ c. slice_index cells (row * coflows + c)) (range_with_len 0 coflows) coflow (below_in coflows coflow lc))

-- ---- the same in the words of the table

abbrev pub table_of : ℕ → ℕ → List ℕ → LoadTable
table_of coflows ports cells = record { coflows = coflows; ports = ports; cells = cells }

pub total_fits : (t : LoadTable) (coflows ports : ℕ) (cells totals : List ℕ) (by_port by_coflow : MarkTable) (port : Port) (row units most : ℕ) →
    IsKept coflows ports cells totals by_port by_coflow → table_of coflows ports cells ≡ t →
    row ≡ port_place ports port → row < ports + ports → total_at t port + units < most → slice_index totals row + units < most
total_fits t coflows ports cells totals by_port by_coflow port row units most kept view is lt fits =
    let here = subst (λ (x : LoadTable). total_at x port + units < most) (sym view) fits in
    let same = ap (λ r. row_total cells coflows r) is in
    omega (arith, kept.total row lt, same, here)

pub coflow_inside : (t : LoadTable) (coflows ports : ℕ) (cells : List ℕ) (c : ℕ) → table_of coflows ports cells ≡ t → c < t.coflows → c < coflows
coflow_inside t coflows ports cells c view lt = subst (λ (x : LoadTable). c < x.coflows) (sym view) lt

pub port_inside : (t : LoadTable) (coflows ports : ℕ) (cells : List ℕ) (c : ℕ) → table_of coflows ports cells ≡ t → c < t.ports → c < ports
port_inside t coflows ports cells c view lt = subst (λ (x : LoadTable). c < x.ports) (sym view) lt

-- the cell of a table seen from its list of cells
pub cell_is : (t : LoadTable) (coflows ports : ℕ) (cells : List ℕ) (c row : ℕ) (port : Port) → table_of coflows ports cells ≡ t → row ≡ port_place ports port →
    slice_index cells (row * coflows + c) ≡ load_at t c port
cell_is t coflows ports cells c row port view is = ap (λ r. slice_index cells (r * coflows + c)) is ∙ ap (λ (x : LoadTable). load_at x c port) view

-- ---- a table of noughts

pub nought_at : (n k : ℕ) → slice_index (replicate n 0) k ≡ 0
nought_at n k = elim (cases_lt k n) [
  | inl lt ↦ get_or-replicate n k 0 0 lt
  | inr le ↦ get_or-eq_default (replicate n 0) 0 (omega (arith, length-replicate {A = ℕ} n 0, le))
]

noughts_total : (n columns row : ℕ) → row_total (replicate n 0) columns row ≡ 0
noughts_total n columns row = sum_same (λ c. slice_index (replicate n 0) (row * columns + c)) (λ c. 0) (range_with_len 0 columns) (λ c has. nought_at n (row * columns + c)) ∙
    sum_zero (range_with_len 0 columns)

pub record HasSize (m : MarkTable) (rows columns : ℕ) : Type 0 where
  pub rows_are : m.rows ≡ rows
  pub columns_are : m.columns ≡ columns

pub kept_nought : (coflows ports m n : ℕ) (cells totals : List ℕ) (by_port by_coflow : MarkTable) → coflows ≤ 4096 → 1 ≤ ports → ports ≤ 1025 → cells ≡ replicate m 0 →
    m ≡ (ports + ports) * coflows → totals ≡ replicate n 0 → n ≡ ports + ports →
    HasSize by_port (ports + ports) coflows → HasSize by_coflow coflows (ports + ports) → IsKept coflows ports cells totals by_port by_coflow
kept_nought coflows ports m n cells totals by_port by_coflow lc some lp cells_are m_is totals_are n_is at_port of_coflow = record {
  coflows_limit = lc;
  has_ports = some;
  ports_limit = lp;
  cells_len = ap length cells_are ∙ length-replicate m 0 ∙ m_is;
  totals_len = ap length totals_are ∙ length-replicate n 0 ∙ n_is;
  port_rows = at_port.rows_are;
  port_columns = at_port.columns_are;
  coflow_rows = of_coflow.rows_are;
  coflow_columns = of_coflow.columns_are;
  total = λ row lt. ap (λ xs. slice_index xs row) totals_are ∙ nought_at n row ∙ sym (noughts_total m coflows row) ∙ ap (λ xs. row_total xs coflows row) (sym cells_are);
  by_port_none = λ c row lt lr mark. ap (λ xs. slice_index xs (row * coflows + c)) cells_are ∙ nought_at m (row * coflows + c);
  by_coflow_none = λ c row lt lr mark. ap (λ xs. slice_index xs (row * coflows + c)) cells_are ∙ nought_at m (row * coflows + c);
}

-- ---- no load, and no marks

-- the cell of a row is that of a port
none_in_row : (t : LoadTable) → ((c : ℕ) (port : Port) → c < t.coflows → port.number < t.ports → load_at t c port ≡ 0) → (c row : ℕ) → c < t.coflows → row < t.ports + t.ports →
    slice_index t.cells (row * t.coflows + c) ≡ 0
none_in_row t none c row lc lr = elim (cases_lt row t.ports) [
  | inl lt ↦ none c (record { side = Ingress; number = row }) lc lt
  | inr le ↦
      let at = none c (record { side = Egress; number = row - t.ports }) lc (omega (arith, le)) in
      let same : row ≡ t.ports + (row - t.ports) = omega (arith, le) in
      ap (λ r. slice_index t.cells (r * t.coflows + c)) same ∙ at
]

pub kept_unmarked : (t : LoadTable) (coflows ports : ℕ) (cells totals : List ℕ) (by_port by_coflow by_port' by_coflow' : MarkTable) →
    IsKept coflows ports cells totals by_port by_coflow → table_of coflows ports cells ≡ t →
    ((c : ℕ) (port : Port) → c < t.coflows → port.number < t.ports → load_at t c port ≡ 0) →
    HasShapeOf by_port by_port' → HasShapeOf by_coflow by_coflow' → IsKept coflows ports cells totals by_port' by_coflow'
kept_unmarked t coflows ports cells totals by_port by_coflow by_port' by_coflow' kept view none at_port of_coflow =
    let here = subst (λ (x : LoadTable). (c : ℕ) (port : Port) → c < x.coflows → port.number < x.ports → load_at x c port ≡ 0) (sym view) none in
    record {
      coflows_limit = kept.coflows_limit;
      has_ports = kept.has_ports;
      ports_limit = kept.ports_limit;
      cells_len = kept.cells_len;
      totals_len = kept.totals_len;
      port_rows = at_port.rows ∙ kept.port_rows;
      port_columns = at_port.columns ∙ kept.port_columns;
      coflow_rows = of_coflow.rows ∙ kept.coflow_rows;
      coflow_columns = of_coflow.columns ∙ kept.coflow_columns;
      total = kept.total;
      by_port_none = λ c row lc lr mark. none_in_row (table_of coflows ports cells) here c row lc lr;
      by_coflow_none = λ c row lc lr mark. none_in_row (table_of coflows ports cells) here c row lc lr;
    }

-- ---- a coflow less

pub kept_less : (coflows ports : ℕ) (cells totals cells' totals' : List ℕ) (by_port by_coflow : MarkTable) (coflow : ℕ) → IsKept coflows ports cells totals by_port by_coflow →
    coflow < coflows → length cells' ≡ length cells → length totals' ≡ length totals →
    ((row : ℕ) → row < length totals → slice_index cells' (row * coflows + coflow) ≡ 0) →
    ((row other : ℕ) → row < length totals → other < coflows → other ≢ coflow → slice_index cells' (row * coflows + other) ≡ slice_index cells (row * coflows + other)) →
    ((row : ℕ) → row < length totals → slice_index totals' row + slice_index cells (row * coflows + coflow) ≡ slice_index totals row) →
    IsKept coflows ports cells' totals' by_port by_coflow
kept_less coflows ports cells totals cells' totals' by_port by_coflow coflow kept lc cells_len totals_len gone others taken =
    let still_none : (c row : ℕ) → c < coflows → row < ports + ports → slice_index cells (row * coflows + c) ≡ 0 → slice_index cells' (row * coflows + c) ≡ 0 = λ c row l lr none.
    let lt : row < length totals = omega (arith, kept.totals_len) in
    elim (cases_eq c coflow) [
      | inl e ↦ ap (λ k. slice_index cells' (row * coflows + k)) e ∙ gone row lt
      | inr ne ↦ others row c lt l ne ∙ none
    ] in
    record {
      coflows_limit = kept.coflows_limit;
      has_ports = kept.has_ports;
      ports_limit = kept.ports_limit;
      cells_len = cells_len ∙ kept.cells_len;
      totals_len = totals_len ∙ kept.totals_len;
      port_rows = kept.port_rows;
      port_columns = kept.port_columns;
      coflow_rows = kept.coflow_rows;
      coflow_columns = kept.coflow_columns;
      total = λ row lr.
          let lt : row < length totals = omega (arith, kept.totals_len) in
          let grows = sum_grows (λ c. slice_index cells' (row * coflows + c)) (λ c. slice_index cells (row * coflows + c)) coflows coflow
          (slice_index cells (row * coflows + coflow)) lc (omega (arith, gone row lt)) (λ c l ne. sym (others row c lt l ne)) in
          omega (arith, grows, kept.total row lr, taken row lt);
      by_port_none = λ c row l lr mark. still_none c row l lr (kept.by_port_none c row l lr mark);
      by_coflow_none = λ c row l lr mark. still_none c row l lr (kept.by_coflow_none c row l lr mark);
    }

place_on : (s : Side) (ports number : ℕ) → number < ports → port_place_on s ports number < ports + ports
place_on Ingress ports number lt = omega arith
place_on Egress ports number lt = omega arith

pub place_in_rows : (ports : ℕ) (port : Port) → port.number < ports → port_place ports port < ports + ports
place_in_rows ports port lt = place_on port.side ports port.number lt

pub drops_one : (t : LoadTable) (coflows ports : ℕ) (cells cells' : List ℕ) (coflow rows : ℕ) → table_of coflows ports cells ≡ t → rows ≡ ports + ports →
    ((row : ℕ) → row < rows → slice_index cells' (row * coflows + coflow) ≡ 0) →
    ((row other : ℕ) → row < rows → other < coflows → other ≢ coflow → slice_index cells' (row * coflows + other) ≡ slice_index cells (row * coflows + other)) →
    DropsCoflow t (table_of coflows ports cells') coflow
drops_one t coflows ports cells cells' coflow rows view rows_are gone others =
    subst (λ (x : LoadTable). DropsCoflow x (table_of coflows ports cells') coflow) view record {
      size = record { coflows = refl; ports = refl };
      gone = λ port lp. gone (port_place ports port) (omega (arith, place_in_rows ports port lp));
      others = λ other port lo ne lp. others (port_place ports port) other (omega (arith, place_in_rows ports port lp)) lo ne;
    }

-- a coflow without a mark at a port has no load there
pub none_at_port : (t : LoadTable) (coflows ports : ℕ) (cells totals : List ℕ) (by_port by_coflow : MarkTable) (port : Port) (row c : ℕ) →
    IsKept coflows ports cells totals by_port by_coflow → table_of coflows ports cells ≡ t →
    row ≡ port_place ports port → row < ports + ports → c < coflows → mark_at by_port row c ≡ 0 → load_at t c port ≡ 0
none_at_port t coflows ports cells totals by_port by_coflow port row c kept view is lr lc none = sym (cell_is t coflows ports cells c row port view is) ∙
    kept.by_port_none c row lc lr none

-- the total of a port is that of its row
pub total_on : (t : LoadTable) (coflows ports : ℕ) (cells totals : List ℕ) (by_port by_coflow : MarkTable) (side : Side) (number : ℕ) →
    IsKept coflows ports cells totals by_port by_coflow → table_of coflows ports cells ≡ t → number < ports →
    slice_index totals (port_place_on side ports number) ≡ total_at t record { side = side; number = number }
total_on t coflows ports cells totals by_port by_coflow side number k view lt =
    subst (λ (x : LoadTable). slice_index totals (port_place_on side ports number) ≡ total_at x record { side = side; number = number }) view
    (k.total (port_place_on side ports number) (place_on side ports number lt))
