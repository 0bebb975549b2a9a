-- A column of a table is cleared row by row.
use Rattle.std.proofs.Common.{◌≡◌, ◌≢◌, ℕ, ◌+◌, ◌-◌, ◌*◌, ◌<◌, ◌≤◌, inl, inr, List, length, refl, ap, subst, ◌∙◌, arith, length-set}
use Rattle.std.specs.Prelude.{slice_index, slice_set}
use Rattle.std.proofs.lemmas.Bool.{cases_eq, cases_lt}
use Rattle.std.proofs.lemmas.List.{get_or-set_same, get_or-set_other}
use Rattle.port_load.specs.Kept.{IsColumnCleared}
use Rattle.port_load.proofs.KeptSteps.{written_other, written_same}

pub record ClearedSoFar (before totals_before cells totals : List ℕ) (n column done : ℕ) : Type 0 where
  pub cells_len : length cells ≡ length before
  pub totals_len : length totals ≡ length totals_before
  pub gone : (row : ℕ) → row < done → slice_index cells (row * n + column) ≡ 0
  pub later : (row : ℕ) → done ≤ row → row < length totals_before → slice_index cells (row * n + column) ≡ slice_index before (row * n + column)
  pub others : (row other : ℕ) → row < length totals_before → other < n → other ≢ column → slice_index cells (row * n + other) ≡ slice_index before (row * n + other)
  pub taken : (row : ℕ) → row < done → slice_index totals row + slice_index before (row * n + column) ≡ slice_index totals_before row
  pub whole : (row : ℕ) → done ≤ row → slice_index totals row ≡ slice_index totals_before row

pub cleared_none : (before totals_before : List ℕ) (n column : ℕ) → ClearedSoFar before totals_before before totals_before n column 0
cleared_none before totals_before n column = record {
  cells_len = refl;
  totals_len = refl;
  gone = λ row lt. absurd (omega arith);
  later = λ row le lt. refl;
  others = λ row other lr lo ne. refl;
  taken = λ row lt. absurd (omega arith);
  whole = λ row le. refl;
}

pub cleared_more : (before totals_before cells totals : List ℕ) (n column done : ℕ) → ClearedSoFar before totals_before cells totals n column done →
    length before ≡ length totals_before * n → column < n → done < length totals_before →
    slice_index before (done * n + column) ≤ slice_index totals_before done →
    ClearedSoFar before totals_before (slice_set cells (done * n + column) 0) (slice_set totals done (slice_index totals done - slice_index cells (done * n + column))) n column
    (done + 1)
cleared_more before totals_before cells totals n column done so_far len lc lt within =
    let cells_len : length cells ≡ length totals_before * n = so_far.cells_len ∙ len in
    let other_row = λ (row : ℕ) (ne : row ≢ done). written_other cells n done column row column 0 lc lc (λ er ec. ne er) in
    let v = slice_index totals done - slice_index cells (done * n + column) in
    record {
      cells_len = length-set cells (done * n + column) 0 ∙ so_far.cells_len;
      totals_len = length-set totals done v ∙ so_far.totals_len;
      gone = λ row lr. elim (cases_eq row done) [
        | inl e ↦ written_same cells n (length totals_before) done column row 0 cells_len lt lc e
        | inr ne ↦ other_row row ne ∙ so_far.gone row (omega (arith, ne))
      ];
      later = λ row le lr. other_row row (λ e. omega (arith, e, le)) ∙ so_far.later row (omega arith) lr;
      others = λ row other lr lo ne. written_other cells n done column row other 0 lc lo (λ er ec. ne ec) ∙ so_far.others row other lr lo ne;
      taken = λ row lr. elim (cases_eq row done) [
        | inl e ↦
            let new = ap (λ k. slice_index (slice_set totals done v) k) e ∙ get_or-set_same totals done v 0 (omega (arith, so_far.totals_len)) in
            omega (
              arith,
              new,
              so_far.whole done (omega arith),
              so_far.later done (omega arith) lt,
              ap (λ k. slice_index before (k * n + column)) e,
              ap (λ k. slice_index totals_before k) e,
            )
        | inr ne ↦ ap (λ k. k + slice_index before (row * n + column)) (get_or-set_other totals done row v 0 ne) ∙ so_far.taken row (omega (arith, ne))
      ];
      whole = λ row le. get_or-set_other totals done row v 0 (λ e. omega (arith, e, le)) ∙ so_far.whole row (omega arith);
    }

-- rows without a number in the column are passed by
pub cleared_past : (before totals_before cells totals : List ℕ) (n column done next : ℕ) → ClearedSoFar before totals_before cells totals n column done → done ≤ next →
    next ≤ length totals_before →
    ((row : ℕ) → done ≤ row → row < next → slice_index before (row * n + column) ≡ 0) → ClearedSoFar before totals_before cells totals n column next
cleared_past before totals_before cells totals n column done next so_far after within none = record {
  cells_len = so_far.cells_len;
  totals_len = so_far.totals_len;
  gone = λ row lt. elim (cases_lt row done) [
    | inl old ↦ so_far.gone row old
    | inr new ↦ so_far.later row new (omega arith) ∙ none row new lt
  ];
  later = λ row le lr. so_far.later row (omega arith) lr;
  others = so_far.others;
  taken = λ row lt. elim (cases_lt row done) [
    | inl old ↦ so_far.taken row old
    | inr new ↦ omega (arith, so_far.whole row new, none row new lt)
  ];
  whole = λ row le. so_far.whole row (omega arith);
}

pub cleared_along : (before totals_before before' totals_before' cells totals : List ℕ) (n column : ℕ) → before ≡ before' → totals_before ≡ totals_before' →
    IsColumnCleared before totals_before cells totals n column → IsColumnCleared before' totals_before' cells totals n column
cleared_along before totals_before before' totals_before' cells totals n column e f cleared =
    subst (λ xs. IsColumnCleared xs totals_before' cells totals n column) e (subst (λ ys. IsColumnCleared before ys cells totals n column) f cleared)
