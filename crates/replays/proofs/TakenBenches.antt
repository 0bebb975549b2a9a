-- The rankers that were taken off a bench, and their rows.
use Rattle.std.proofs.Common.{◌≡◌, ℕ, ◌+◌, ◌<◌, ◌⊎◌, inl, inr, List, [], ◌∷◌, ◌++◌, drop, get_or, length, map, take, refl, sym, ap, subst, ◌∙◌, arith, suc}
use Rattle.std.proofs.lemmas.List.{get_or-drop, length-drop, length-map, length-take, map-append, take-append-drop, take_more}
use Rattle.rankers.specs.Meaning.{Meaning}
use Rattle.replays.specs.declared.rows.Replayed.{Replayed}
use Rattle.replays.specs.declared.rows.ReplayRow.{ReplayRow}
use Rattle.replays.specs.Moments.{Input}
use Rattle.replays.specs.Replayed.{AreRowsFrom, IsCutOff, IsReplayed, IsTooManyFor, StopsAt, WereTaken}

abbrev row_of : ℕ → List ℕ → Replayed → ReplayRow
row_of index name result = record { index = index; name = name; result = result }

-- one row more
rows_push : (x : Input) (i : ℕ) (ms : List Meaning) (rows : List ReplayRow) (m : Meaning) (result : Replayed) → AreRowsFrom x i ms rows → IsReplayed x m result →
    AreRowsFrom x i (ms ++ m ∷ []) (rows ++ row_of (i + length ms) m.name result ∷ [])
rows_push x i [] rows m result are replayed =
    let e : i + 0 ≡ i = omega arith in
    (result, [], replayed, ap (λ l. l ++ row_of (i + 0) m.name result ∷ []) are ∙ ap (λ k. row_of k m.name result ∷ []) e, refl)
rows_push x i (n ∷ ms) rows m result (first, rest, came, is, more) replayed =
    let e : i + suc (length ms) ≡ i + 1 + length ms = omega arith in (
      first,
      rest ++ row_of (i + 1 + length ms) m.name result ∷ [],
      came,
      ap (λ l. l ++ row_of (i + suc (length ms)) m.name result ∷ []) is ∙ ap (λ k. row_of i n.name first ∷ (rest ++ row_of k m.name result ∷ [])) e,
      rows_push x (i + 1) ms rest m result more replayed,
    )

-- the rows of all but the last
all_but_last : (x : Input) (i : ℕ) (ms : List Meaning) (m : Meaning) (rows : List ReplayRow) → AreRowsFrom x i (ms ++ m ∷ []) rows →
    (before : List ReplayRow) × AreRowsFrom x i ms before
all_but_last x i [] m rows are = ([], refl)
all_but_last x i (n ∷ ms) m rows (first, rest, came, is, more) =
    let (before, are) = all_but_last x (i + 1) ms m rest more in
    (row_of i n.name first ∷ before, (first, before, came, refl, are))

by_last : (ms : List Meaning) → (ms ≡ []) ⊎ ((init : List Meaning) × (last : Meaning) × (ms ≡ init ++ last ∷ []))
by_last [] = inl refl
by_last (m ∷ ms) = elim (by_last ms) [
  | inl none ↦ inr ([], m, ap (λ l. m ∷ l) none)
  | inr (init, last, is) ↦ inr (m ∷ init, last, ap (λ l. m ∷ l) is)
]

-- where all were taken off, and the replay of each came to something
pub all_taken : (x : Input) (bench left : List Meaning) (rows : List ReplayRow) → AreRowsFrom x 1 bench rows → left ≡ [] → IsCutOff x bench left
all_taken x bench left rows are none = elim (by_last bench) [
  | inl empty ↦ inl (empty ∙ sym none)
  | inr (init, last, is) ↦
      let (before, came) = all_but_last x 1 init last rows (subst (λ ms. AreRowsFrom x 1 ms rows) is are) in
      inr (record { before = init; last = last; bench_is = is ∙ ap (λ l. init ++ last ∷ l) (sym none); rows = before; came = came })
]

-- ---- a bench of which so many were taken off

module _ {X : Type 0} (meaning : X → Meaning) (x : Input) (all now new : List X) (index : ℕ) (b : X) (left : now ≡ drop index all) (taken : now ≡ b ∷ new) where
  is_next : drop index all ≡ b ∷ new
  is_next = sym left ∙ taken

  inside : index < length all
  inside = omega (arith, ap (λ xs. length xs) is_next, length-drop index all)

  parts : all ≡ take index all ++ b ∷ new
  parts = sym (take-append-drop index all) ∙ ap (λ l. take index all ++ l) is_next

  -- the replays of those before this one came to something
  pub were_taken : (rows : List ReplayRow) → AreRowsFrom x 1 (map meaning (take index all)) rows → WereTaken x (map meaning all) (map meaning new)
  were_taken rows are = record {
    before = map meaning (take index all);
    last = meaning b;
    bench_is = ap (map meaning) parts ∙ map-append meaning (take index all) (b ∷ new);
    rows = rows;
    came = are;
  }

  -- and this one stops it
  pub stops_at : (rows : List ReplayRow) (count : ℕ) → AreRowsFrom x 1 (map meaning (take index all)) rows → IsTooManyFor x (meaning b) count →
      StopsAt x count (map meaning all) (map meaning new)
  stops_at rows count are too_many = record {
    taken = record {
      before = map meaning (take index all);
      last = meaning b;
      bench_is = ap (map meaning) parts ∙ map-append meaning (take index all) (b ∷ new);
      rows = rows;
      came = are;
    };
    too_many = too_many;
  }

  -- and that of this one
  pub taken_more : (rows more : List ReplayRow) (name : List ℕ) (result : Replayed) → AreRowsFrom x 1 (map meaning (take index all)) rows → IsReplayed x (meaning b) result →
      more ≡ rows ++ row_of (index + 1) name result ∷ [] → name ≡ (meaning b).name → AreRowsFrom x 1 (map meaning (take (index + 1) all)) more
  taken_more rows more name result are replayed is named =
      let before = take index all in
      let at : get_or all index b ≡ b = ap (λ k. get_or all k b) zero_more ∙ sym (get_or-drop index all 0 b) ∙ ap (λ xs. get_or xs 0 b) is_next in
      let front : take (index + 1) all ≡ before ++ b ∷ [] = take_more all index b inside ∙ ap (λ y. before ++ y ∷ []) at in
      let count : 1 + length (map meaning before) ≡ index + 1 = omega (arith, length-map before meaning, length-take index all, inside) in
      let row = ap (λ (n : List ℕ). row_of (index + 1) n result) named ∙ ap (λ k. row_of k (meaning b).name result) (sym count) in
      subst (λ ms. AreRowsFrom x 1 ms more) (sym (ap (map meaning) front ∙ map-append meaning before (b ∷ [])))
      (subst (AreRowsFrom x 1 (map meaning before ++ meaning b ∷ [])) (sym (is ∙ ap (λ r. rows ++ r ∷ []) row))
      (rows_push x 1 (map meaning before) rows (meaning b) result are replayed))
    where
      zero_more : index ≡ index + 0
      zero_more = omega arith
