-- Rows are emptied; ranks come into rows, and end.
use Rattle.std.proofs.Common.{◌≡◌, ◌≢◌, ℕ, ◌+◌, ◌*◌, ◌/◌, ◌%◌, ◌≤◌, ◌<◌, ◌⊎◌, ◌++◌, inl, inr, List, length, get_or, set, replicate, drop, refl, sym, ap, ◌∙◌, arith}
use Rattle.std.proofs.lemmas.Bool.{cases_eq, cases_lt}
use Rattle.std.proofs.lemmas.List.{get_or-set_same, get_or-set_other, length-set}
use Rattle.std.proofs.lemmas.Nat.{mul-le}
use Rattle.matching.specs.declared.rows.Rows.{Rows}
use Rattle.matching.specs.Kept.{Graph}
use Rattle.matching.specs.Board.{IsGraph}
use Rattle.matching.specs.Rows.{bit_of, owes_at, row_of, GoesOn, HasLast, HoldsRows, IsBlank, IsOpen, IsRows, IsShaped}
use Rattle.matching.proofs.BitSteps.{one_place, place_in, set_in, cleared_in, set_here, set_elsewhere, cleared_here, cleared_elsewhere, bit_is, front_cleared, front_size}

-- the same ranks owe
abbrev pub IsSameOwing : ℕ → (ℕ → ℕ) → (ℕ → ℕ) → Type 0
IsSameOwing count left lower = (r : ℕ) → r < count → (0 < left r → 0 < lower r) × (0 < lower r → 0 < left r)

-- ---- the rows that are in use, and what is behind them

pub blank_holds : (ports : ℕ) (rows : Rows) → IsShaped ports rows → IsBlank rows → rows.count ≡ 0 → HoldsRows ports rows
blank_holds ports rows shape blank none = record { shape = shape; fits = omega (arith, none); behind = λ k e _ _ _. blank k e }

pub rows_hold : (ports : ℕ) (g : Graph) (left : ℕ → ℕ) (rows : Rows) → IsRows ports g left rows → HoldsRows ports rows
rows_hold ports g left rows w = record {
  shape = w.shape;
  fits = w.fits;
  behind = λ k e from lk le. bit_is rows.owes.items (k * rows.width) e (λ one.
      let (r, lt, here, _, _) = w.only k e lk le one in
      omega (arith, w.row r lt, here, from));
}

-- the words of the rows in use
pub used_fits : (ports : ℕ) (rows : Rows) → HoldsRows ports rows → rows.count * rows.width ≤ length rows.owes.items
used_fits ports rows h = omega (arith, mul-le rows.count rows.width (length rows.first.items) rows.width h.fits (omega arith), h.shape.words)

pub record IsEmptied (old new : Rows) : Type 0 where
  pub width : new.width ≡ old.width
  pub count : new.count ≡ 0
  pub first : new.first.items ≡ old.first.items
  pub owes : new.owes.items ≡ replicate (old.count * old.width) 0 ++ drop (old.count * old.width) old.owes.items

pub emptied_holds : (ports : ℕ) (old new : Rows) → IsEmptied old new → HoldsRows ports old → HoldsRows ports new
emptied_holds ports old new m h =
    let used = old.count * old.width in
    let inside : used ≤ length old.owes.items = used_fits ports old h in
    let size = ap (λ (xs : List ℕ). length xs) m.first in
    let bit : (k e : ℕ) → k < length old.first.items → e < 64 * old.width → owes_at new k e ≡ 0 = λ k e lk le.
    ap (λ xs. bit_of xs (k * new.width) e) m.owes ∙ ap (λ n. bit_of (replicate used 0 ++ drop used old.owes.items) (k * n) e) m.width ∙
    front_cleared old.owes.items used (k * old.width) e (λ from. elim (cases_lt k old.count) [
      | inl lt ↦ absurd (omega (arith, from, place_in old.width k e old.count lt le))
      | inr ge ↦ h.behind k e (omega (arith, ge)) lk le
    ]) in
    record {
      shape = record {
        wide = omega (arith, h.shape.wide, m.width);
        few = omega (arith, size, h.shape.few);
        words = ap (λ xs. length xs) m.owes ∙ front_size old.owes.items used inside ∙ h.shape.words ∙ ap (λ n. n * old.width) (sym size) ∙
            ap (λ n. length new.first.items * n) (sym m.width);
      };
      fits = omega (arith, m.count);
      behind = λ k e _ lk le. bit k e (omega (arith, lk, size)) (omega (arith, le, m.width));
    }

pub no_rows : (ports : ℕ) (g : Graph) (left : ℕ → ℕ) (rows : Rows) → HoldsRows ports rows → rows.count ≡ 0 → rows.ranked ≡ 0 → IsRows ports g left rows
no_rows ports g left rows holds none none' = record {
  shape = holds.shape;
  fits = holds.fits;
  ranked = omega (arith, none');
  known = omega (arith, none');
  inside = λ k lt. absurd (omega (arith, lt, none));
  row = λ r lt. absurd (omega (arith, lt, none'));
  first = λ r lt. absurd (omega (arith, lt, none'));
  follows = λ r s less lt. absurd (omega (arith, lt, none'));
  rises = λ r s less lt. absurd (omega (arith, lt, none'));
  owed = λ r e lt. absurd (omega (arith, lt, none'));
  only = λ k e lk le one. absurd (omega (arith, holds.behind k e (omega (arith, none)) lk le, one));
}

pub same_rows : (ports : ℕ) (g : Graph) (left lower : ℕ → ℕ) (rows : Rows) → IsSameOwing g.count left lower → IsRows ports g left rows → IsRows ports g lower rows
same_rows ports g left lower rows same w = record {
  shape = w.shape;
  fits = w.fits;
  ranked = w.ranked;
  known = w.known;
  inside = w.inside;
  row = w.row;
  first = w.first;
  follows = w.follows;
  rises = w.rises;
  owed = λ r e lt some at_r. w.owed r e lt ((same r (omega (arith, lt, w.ranked))).1 some) at_r;
  only = λ k e lk le one. let (r, lt, here, at_r, some) = w.only k e lk le one in (r, lt, here, at_r, (same r (omega (arith, lt, w.ranked))).0 some);
}

-- ---- a row for the next rank

pub last_row_takes : (ports : ℕ) (g : Graph) (left : ℕ → ℕ) (rows : Rows) (rank : ℕ) → IsRows ports g left rows → HasLast rows →
    rows.ranked ≡ rank → GoesOn g rank → IsOpen g rows rank
last_row_takes ports g left rows rank w last is (s, before, same, less) =
    let lt : s < rows.ranked = omega (arith, is, before) in
    let row : row_of rows s + 1 ≡ rows.count = last s (omega (arith, is, before)) in
    record {
      some = omega (arith, row);
      first = λ k lk. ap (λ j. get_or rows.first.items j 0) {x = k} {y = row_of rows s} (omega (arith, lk, row)) ∙ w.first s lt ∙ same;
      later = λ r lr here. elim (cases_eq r s) [
        | inl e ↦ omega (arith, ap g.second e, less)
        | inr ne ↦ omega (arith, w.rises r s (omega (arith, ne, lr, is, before)) lt (omega (arith, here, row)), less)
      ];
    }

-- a new row, of a port
pub record IsOpened (old new : Rows) (port : ℕ) : Type 0 where
  pub width : new.width ≡ old.width
  pub count : new.count ≡ old.count + 1
  pub ranked : new.ranked ≡ old.ranked
  pub first : new.first.items ≡ set old.first.items old.count port
  pub row : new.row.items ≡ old.row.items
  pub owes : new.owes.items ≡ old.owes.items

row_is : (old new : Rows) → new.row.items ≡ old.row.items → (r : ℕ) → row_of new r ≡ row_of old r
row_is old new e r = ap (λ xs. get_or xs r 0) e

owes_is : (old new : Rows) → new.owes.items ≡ old.owes.items → new.width ≡ old.width → (k e : ℕ) → owes_at new k e ≡ owes_at old k e
owes_is old new same width k e = ap (λ xs. bit_of xs (k * new.width) e) same ∙ ap (λ n. bit_of old.owes.items (k * n) e) width

port_there : (old new : Rows) (port : ℕ) → IsOpened old new port → old.count < length old.first.items → get_or new.first.items old.count 0 ≡ port
port_there old new port o room = ap (λ xs. get_or xs old.count 0) o.first ∙ get_or-set_same old.first.items old.count port 0 room

port_kept : (old new : Rows) (port k : ℕ) → IsOpened old new port → k < old.count → get_or new.first.items k 0 ≡ get_or old.first.items k 0
port_kept old new port k o lt = ap (λ xs. get_or xs k 0) o.first ∙ get_or-set_other old.first.items old.count k port 0 (omega (arith, lt))

pub row_opened : (ports : ℕ) (g : Graph) (left : ℕ → ℕ) (old new : Rows) (port : ℕ) → IsRows ports g left old →
    old.count < length old.first.items → port < ports → IsOpened old new port →
    IsRows ports g left new
row_opened ports g left old new port w room low o =
    let size : length new.first.items ≡ length old.first.items = ap (λ xs. length xs) o.first ∙ length-set old.first.items old.count port in
    record {
      shape = record {
        wide = omega (arith, w.shape.wide, o.width);
        few = omega (arith, size, w.shape.few);
        words = ap (λ xs. length xs) o.owes ∙ w.shape.words ∙ ap (λ n. n * old.width) (sym size) ∙ ap (λ n. length new.first.items * n) (sym o.width);
      };
      fits = omega (arith, o.count, room, size);
      ranked = omega (arith, o.ranked, w.ranked);
      known = omega (arith, o.ranked, w.known, ap (λ xs. length xs) o.row);
      inside = λ k lt. elim (cases_eq k old.count) [
        | inl e ↦ omega (arith, ap (λ j. get_or new.first.items j 0) e, port_there old new port o room, low)
        | inr ne ↦ let less : k < old.count = omega (arith, lt, ne, o.count) in omega (arith, port_kept old new port k o less, w.inside k less)
      ];
      row = λ r lt. omega (arith, row_is old new o.row r, w.row r (omega (arith, lt, o.ranked)), o.count);
      first = λ r lt. let lr : r < old.ranked = omega (arith, lt, o.ranked) in
          ap (λ j. get_or new.first.items j 0) (row_is old new o.row r) ∙ port_kept old new port (row_of old r) o (w.row r lr) ∙ w.first r lr;
      follows = λ r s less lt. omega (arith, row_is old new o.row r, row_is old new o.row s, w.follows r s less (omega (arith, lt, o.ranked)));
      rises = λ r s less lt same. w.rises r s less (omega (arith, lt, o.ranked)) (sym (row_is old new o.row r) ∙ same ∙ row_is old new o.row s);
      owed = λ r e lt some at_r. owes_is old new o.owes o.width (row_of new r) e ∙ ap (λ k. owes_at old k e) (row_is old new o.row r) ∙
          w.owed r e (omega (arith, lt, o.ranked)) some at_r;
      only = λ k e lk le one.
          let (r, lt, here, at_r, some) = w.only k e (omega (arith, lk, size)) (omega (arith, le, o.width)) (sym (owes_is old new o.owes o.width k e) ∙ one) in
          (r, omega (arith, lt, o.ranked), row_is old new o.row r ∙ here, at_r, some);
    }

pub opened_takes : (ports : ℕ) (g : Graph) (left : ℕ → ℕ) (old new : Rows) (rank : ℕ) → IsRows ports g left old →
    old.count < length old.first.items → IsOpened old new (g.first rank) →
    IsOpen g new rank
opened_takes ports g left old new rank w room o = record {
  some = omega (arith, o.count);
  first = λ k lk. ap (λ j. get_or new.first.items j 0) {x = k} {y = old.count} (omega (arith, lk, o.count)) ∙ port_there old new (g.first rank) o room;
  later = λ r lt here. absurd (omega (arith, here, row_is old new o.row r, o.count, w.row r (omega (arith, lt, o.ranked))));
}

-- ---- a rank comes into the last row

pub record IsMarked (old new : Rows) (k e : ℕ) (rank : ℕ) : Type 0 where
  pub width : new.width ≡ old.width
  pub count : new.count ≡ old.count
  pub ranked : new.ranked ≡ rank + 1
  pub first : new.first.items ≡ old.first.items
  pub row : new.row.items ≡ set old.row.items rank k
  pub owes : new.owes.items ≡ set old.owes.items (k * old.width + e / 64) (set_in (get_or old.owes.items (k * old.width + e / 64) 0) e)

abbrev IsHere : ℕ → ℕ → ℕ → ℕ → Type 0
IsHere k e l f = (l ≡ k) × (f ≡ e)

apart_there : (w k e l f : ℕ) → e < 64 * w → f < 64 * w → (IsHere k e l f → ⊥) → k * w + e / 64 ≡ l * w + f / 64 → e % 64 ≡ f % 64 → ⊥
apart_there w k e l f low low' apart same rest = let (a, b) = one_place w k e l f low low' same rest in apart (sym a, sym b)

here_or_not : (k e l f : ℕ) → IsHere k e l f ⊎ (IsHere k e l f → ⊥)
here_or_not k e l f = elim (cases_eq l k) [
  | inr ne ↦ inr (λ h. ne h.0)
  | inl a ↦ elim (cases_eq f e) [ inl b ↦ inl (a, b) | inr ne ↦ inr (λ h. ne h.1) ]
]

module _ (ports : ℕ) (g : Graph) (left : ℕ → ℕ) (old new : Rows) (k e rank : ℕ) (graph : IsGraph ports g) (w : IsRows ports g left old) (m : IsMarked old new k e rank) where
  set_at : k < length old.first.items → e < 64 * old.width → owes_at new k e ≡ 1
  set_at lk le =
      ap (λ xs. bit_of xs (k * new.width) e) m.owes ∙
      ap (λ n. bit_of (set old.owes.items (k * old.width + e / 64) (set_in (get_or old.owes.items (k * old.width + e / 64) 0) e)) (k * n) e) m.width ∙
      set_here old.owes.items (k * old.width + e / 64) e (omega (arith, place_in old.width k e (length old.first.items) lk le, w.shape.words)) (k * old.width) refl

  same_at : (l f : ℕ) → k < length old.first.items → e < 64 * old.width → f < 64 * old.width → (IsHere k e l f → ⊥) → owes_at new l f ≡ owes_at old l f
  same_at l f lk le lf apart =
      ap (λ xs. bit_of xs (l * new.width) f) m.owes ∙
      ap (λ n. bit_of (set old.owes.items (k * old.width + e / 64) (set_in (get_or old.owes.items (k * old.width + e / 64) 0) e)) (l * n) f) m.width ∙
      set_elsewhere old.owes.items (k * old.width + e / 64) e (omega (arith, place_in old.width k e (length old.first.items) lk le, w.shape.words)) (l * old.width) f
      (apart_there old.width k e l f le lf apart)

  row_kept : (r : ℕ) → r < rank → row_of new r ≡ row_of old r
  row_kept r lt = ap (λ xs. get_or xs r 0) m.row ∙ get_or-set_other old.row.items rank r k 0 (omega (arith, lt))

  row_there : rank < length old.row.items → row_of new rank ≡ k
  row_there room = ap (λ xs. get_or xs rank 0) m.row ∙ get_or-set_same old.row.items rank k 0 room

  pub rank_marked : old.ranked ≡ rank → rank < g.count → rank < length old.row.items → k + 1 ≡ old.count → g.second rank ≡ ports + e → 0 < left rank → IsOpen g old rank →
      IsRows ports g left new
  rank_marked is lt room last at_rank some open' =
      let lk : k < length old.first.items = omega (arith, last, w.fits) in
      let le : e < 64 * old.width = omega (arith, at_rank, graph.second rank lt, w.shape.wide) in
      let size = ap (λ (xs : List ℕ). length xs) m.first in
      record {
        shape = record {
          wide = omega (arith, w.shape.wide, m.width);
          few = omega (arith, size, w.shape.few);
          words = ap (λ xs. length xs) m.owes ∙ length-set old.owes.items (k * old.width + e / 64) (set_in (get_or old.owes.items (k * old.width + e / 64) 0) e) ∙ w.shape.words ∙
              ap (λ n. n * old.width) (sym size) ∙ ap (λ n. length new.first.items * n) (sym m.width);
        };
        fits = omega (arith, m.count, size, w.fits);
        ranked = omega (arith, m.ranked, lt);
        known = omega (arith, m.ranked, room, ap (λ xs. length xs) m.row, length-set old.row.items rank k);
        inside = λ j lj. omega (arith, ap (λ xs. get_or xs j 0) m.first, w.inside j (omega (arith, lj, m.count)));
        row = λ r lr. elim (cases_eq r rank) [
          | inl same ↦ omega (arith, ap (row_of new) same, row_there room, last, m.count)
          | inr ne ↦ let less : r < rank = omega (arith, lr, ne, m.ranked) in omega (arith, row_kept r less, w.row r (omega (arith, less, is)), m.count)
        ];
        first = λ r lr. ap (λ xs. get_or xs (row_of new r) 0) m.first ∙ elim (cases_eq r rank) [
          | inl same ↦ ap (λ j. get_or old.first.items j 0) (ap (row_of new) same ∙ row_there room) ∙ open'.first k last ∙ ap g.first (sym same)
          | inr ne ↦ let less : r < rank = omega (arith, lr, ne, m.ranked) in ap (λ j. get_or old.first.items j 0) (row_kept r less) ∙ w.first r (omega (arith, less, is))
        ];
        follows = λ r s less ls. let lr : r < rank = omega (arith, less, ls, m.ranked) in elim (cases_eq s rank) [
          | inl same ↦ omega (arith, ap (row_of new) same, row_there room, row_kept r lr, w.row r (omega (arith, lr, is)), last)
          | inr ne ↦ let ls' : s < rank = omega (arith, ls, ne, m.ranked) in omega (arith, row_kept r lr, row_kept s ls', w.follows r s less (omega (arith, ls', is)))
        ];
        rises = λ r s less ls both. let lr : r < rank = omega (arith, less, ls, m.ranked) in elim (cases_eq s rank) [
          | inl same ↦ omega (arith, ap g.second same, open'.later r (omega (arith, lr, is)) (omega (arith, both, row_kept r lr, ap (row_of new) same, row_there room, last)))
          | inr ne ↦ let ls' : s < rank = omega (arith, ls, ne, m.ranked) in w.rises r s less (omega (arith, ls', is)) (sym (row_kept r lr) ∙ both ∙ row_kept s ls')
        ];
        owed = λ r f lr owes at_r. elim (cases_eq r rank) [
          | inl same ↦
              let fe : f ≡ e = omega (arith, at_r, at_rank, ap g.second same) in
              ap (owes_at new (row_of new r)) fe ∙ ap (λ j. owes_at new j e) (ap (row_of new) same ∙ row_there room) ∙ set_at lk le
          | inr ne ↦
              let less : r < rank = omega (arith, lr, ne, m.ranked) in
              let lf : f < 64 * old.width = omega (arith, at_r, graph.second r (omega (arith, less, lt)), w.shape.wide) in
              let was = w.owed r f (omega (arith, less, is)) owes at_r in
              ap (λ j. owes_at new j f) (row_kept r less) ∙ elim (here_or_not k e (row_of old r) f) [
                | inl (a, b) ↦ ap (owes_at new (row_of old r)) b ∙ ap (λ j. owes_at new j e) a ∙ set_at lk le
                | inr apart ↦ same_at (row_of old r) f lk le lf apart ∙ was
              ]
        ];
        only = λ l f ll lf one. elim (here_or_not k e l f) [
          | inl (a, b) ↦ (rank, omega (arith, m.ranked), row_there room ∙ sym a, at_rank ∙ ap (λ x. ports + x) (sym b), some)
          | inr apart ↦
              let (r, lr, here, at_r, owes) = w.only l f (omega (arith, ll, size)) (omega (arith, lf, m.width))
              (sym (same_at l f lk le (omega (arith, lf, m.width)) apart) ∙ one) in
              (r, omega (arith, lr, is, m.ranked), row_kept r (omega (arith, lr, is)) ∙ here, at_r, owes)
        ];
      }

  pub marked_last : old.ranked ≡ rank → rank < length old.row.items → k + 1 ≡ old.count → HasLast new
  marked_last is room last r next = let same : r ≡ rank = omega (arith, next, m.ranked) in omega (arith, ap (row_of new) same, row_there room, last, m.count)

-- ---- a rank ends

pub record IsCleared (old new : Rows) (k e : ℕ) : Type 0 where
  pub width : new.width ≡ old.width
  pub count : new.count ≡ old.count
  pub ranked : new.ranked ≡ old.ranked
  pub first : new.first.items ≡ old.first.items
  pub row : new.row.items ≡ old.row.items
  pub owes : new.owes.items ≡ set old.owes.items (k * old.width + e / 64) (cleared_in (get_or old.owes.items (k * old.width + e / 64) 0) e)

pub rank_cleared : (ports : ℕ) (g : Graph) (left lower : ℕ → ℕ) (old new : Rows) (e rank : ℕ) → IsGraph ports g →
    IsRows ports g left old → rank < old.ranked → g.second rank ≡ ports + e →
    lower rank ≡ 0 → ((r : ℕ) → r ≢ rank → lower r ≡ left r) → IsCleared old new (row_of old rank) e → IsRows ports g lower new
rank_cleared ports g left lower old new e rank graph w lt at_rank ended others m =
    let k = row_of old rank in
    let lk : k < length old.first.items = omega (arith, w.row rank lt, w.fits) in
    let low : e < 64 * old.width = omega (arith, at_rank, graph.second rank (omega (arith, lt, w.ranked)), w.shape.wide) in
    let size = ap (λ (xs : List ℕ). length xs) m.first in
    let inside : k * old.width + e / 64 < length old.owes.items = omega (arith, place_in old.width k e (length old.first.items) lk low, w.shape.words) in
    let clear : owes_at new k e ≡ 0 =
    ap (λ xs. bit_of xs (k * new.width) e) m.owes ∙
    ap (λ n. bit_of (set old.owes.items (k * old.width + e / 64) (cleared_in (get_or old.owes.items (k * old.width + e / 64) 0) e)) (k * n) e) m.width ∙
    cleared_here old.owes.items (k * old.width + e / 64) e inside (k * old.width) refl in
    let same_at : (l f : ℕ) → f < 64 * old.width → (IsHere k e l f → ⊥) → owes_at new l f ≡ owes_at old l f = λ l f lf apart.
    ap (λ xs. bit_of xs (l * new.width) f) m.owes ∙
    ap (λ n. bit_of (set old.owes.items (k * old.width + e / 64) (cleared_in (get_or old.owes.items (k * old.width + e / 64) 0) e)) (l * n) f) m.width ∙
    cleared_elsewhere old.owes.items (k * old.width + e / 64) e inside (l * old.width) f (apart_there old.width k e l f low lf apart) in
    record {
      shape = record {
        wide = omega (arith, w.shape.wide, m.width);
        few = omega (arith, size, w.shape.few);
        words = ap (λ xs. length xs) m.owes ∙ length-set old.owes.items (k * old.width + e / 64) (cleared_in (get_or old.owes.items (k * old.width + e / 64) 0) e) ∙ w.shape.words ∙
            ap (λ n. n * old.width) (sym size) ∙ ap (λ n. length new.first.items * n) (sym m.width);
      };
      fits = omega (arith, m.count, size, w.fits);
      ranked = omega (arith, m.ranked, w.ranked);
      known = omega (arith, m.ranked, w.known, ap (λ xs. length xs) m.row);
      inside = λ j lj. omega (arith, ap (λ xs. get_or xs j 0) m.first, w.inside j (omega (arith, lj, m.count)));
      row = λ r lr. omega (arith, row_is old new m.row r, w.row r (omega (arith, lr, m.ranked)), m.count);
      first = λ r lr. ap (λ xs. get_or xs (row_of new r) 0) m.first ∙ ap (λ j. get_or old.first.items j 0) (row_is old new m.row r) ∙ w.first r (omega (arith, lr, m.ranked));
      follows = λ r s less ls. omega (arith, row_is old new m.row r, row_is old new m.row s, w.follows r s less (omega (arith, ls, m.ranked)));
      rises = λ r s less ls both. w.rises r s less (omega (arith, ls, m.ranked)) (sym (row_is old new m.row r) ∙ both ∙ row_is old new m.row s);
      owed = λ r f lr owes at_r.
          let lr' : r < old.ranked = omega (arith, lr, m.ranked) in
          let ne : r ≢ rank = λ x. omega (arith, owes, ap lower x, ended) in
          let lf : f < 64 * old.width = omega (arith, at_r, graph.second r (omega (arith, lr', w.ranked)), w.shape.wide) in
          ap (λ j. owes_at new j f) (row_is old new m.row r) ∙ same_at (row_of old r) f lf (λ h. twice r f lr' ne at_r h) ∙
          w.owed r f lr' (omega (arith, owes, others r ne)) at_r;
      only = λ l f ll lf one. elim (here_or_not k e l f) [
        | inl (a, b) ↦ absurd (omega (arith, one, ap (owes_at new l) b ∙ ap (λ j. owes_at new j e) a ∙ clear))
        | inr apart ↦
            let (r, lr, here, at_r, owes) = w.only l f (omega (arith, ll, size)) (omega (arith, lf, m.width)) (sym (same_at l f (omega (arith, lf, m.width)) apart) ∙ one) in
            let ne : r ≢ rank = λ x. apart (sym here ∙ ap (row_of old) x, omega (arith, at_r, at_rank, ap g.second x)) in
            (r, omega (arith, lr, m.ranked), row_is old new m.row r ∙ here, at_r, omega (arith, owes, others r ne))
      ];
    }
  where
    twice : (r f : ℕ) → r < old.ranked → r ≢ rank → g.second r ≡ ports + f → IsHere (row_of old rank) e (row_of old r) f → ⊥
    twice r f lr ne at_r (a, b) = elim (cases_lt r rank) [
      | inl less ↦ omega (arith, w.rises r rank less lt a, at_r, at_rank, b)
      | inr ge ↦ omega (arith, w.rises rank r (omega (arith, ge, ne)) lr (sym a), at_r, at_rank, b)
    ]

-- one that has no row
pub rowless_ends : (ports : ℕ) (g : Graph) (left lower : ℕ → ℕ) (rows : Rows) (rank : ℕ) → IsRows ports g left rows → rows.ranked ≤ rank → ((r : ℕ) → r ≢ rank → lower r ≡ left r) →
    IsRows ports g lower rows
rowless_ends ports g left lower rows rank w ge others =
    let still : (r : ℕ) → r < rows.ranked → lower r ≡ left r = λ r lt. others r (omega (arith, lt, ge)) in
    record {
      shape = w.shape;
      fits = w.fits;
      ranked = w.ranked;
      known = w.known;
      inside = w.inside;
      row = w.row;
      first = w.first;
      follows = w.follows;
      rises = w.rises;
      owed = λ r e lt some at_r. w.owed r e lt (omega (arith, some, still r lt)) at_r;
      only = λ k e lk le one. let (r, lt, here, at_r, some) = w.only k e lk le one in (r, lt, here, at_r, omega (arith, some, still r lt));
    }
