-- The bars of a port, with the slots up to a later one.
use Rattle.std.proofs.Common.{◌≡◌, ℕ, ◌+◌, ◌-◌, ◌≤◌, ◌<◌, inl, inr, List, [], ◌∷◌, ◌++◌, length, get_or, take, Contains, refl, sym, ap, subst, ◌∙◌, arith}
use Rattle.std.specs.Prelude.{All, AllPairs}
use Rattle.std.proofs.lemmas.Bool.{cases_lt}
use Rattle.std.proofs.lemmas.List.{get_or_append_left, get_or_default, get_or_push, length-append, take_all, take_more}
use Rattle.std.proofs.lemmas.List.Elements.{All-contains, All-push, Contains-append_left, Contains-push, Contains-push_cases}
use Rattle.std.proofs.lemmas.List.Quantifiers.{all_pairs_push}
use Rattle.picture.specs.declared.value.Bar.{Bar}
use Rattle.picture.specs.Bars.{IsBar, IsRow}
use Rattle.picture.specs.Drawing.{Grows, IsApart, longer}

abbrev Before : Bar → Bar → Type 0
Before a b = a.last < b.first

-- what a stretch adds to the slots up to the old last one: its coflow is served in its slots, and no other one
pub record Adds (S : ℕ → ℕ → Type 0) (first last : ℕ) (s : Bar) : Type 0 where
  pub some : s.first ≤ s.last
  pub from : first ≤ s.first
  pub later : last < s.first
  pub next : first < s.first → s.first ≡ last + 1
  pub served : (slot : ℕ) → s.first ≤ slot → slot ≤ s.last → S slot s.coflow
  pub only : (slot coflow : ℕ) → s.first ≤ slot → slot ≤ s.last → S slot coflow → coflow ≡ s.coflow

-- a new slot is one of the stretch
new_slot : (S : ℕ → ℕ → Type 0) (first last slot : ℕ) (s : Bar) → Adds S first last s → first ≤ slot → last < slot → s.first ≤ slot
new_slot S first last slot s adds from lt = elim (cases_lt first s.first) [
  | inl h ↦ omega (arith, adds.next h, lt)
  | inr h ↦ omega (arith, h, from)
]

-- parts of a list with a last element
all_before : (P : Bar → Type 0) (xs : List Bar) (x : Bar) → All P (xs ++ x ∷ []) → All P xs
all_before P xs x all k d lt = subst P (get_or_append_left xs (x ∷ []) d k lt) (all k d (omega (arith, lt, length-append xs (x ∷ []))))

pairs_before : (xs : List Bar) (x : Bar) → AllPairs Before (xs ++ x ∷ []) → AllPairs Before xs
pairs_before xs x pairs i j d lt within =
    subst (λ y. Before (get_or xs i d) y) (get_or_append_left xs (x ∷ []) d j within)
    (subst (λ y. Before y (get_or (xs ++ x ∷ []) j d)) (get_or_append_left xs (x ∷ []) d i (omega arith))
    (pairs i j d lt (omega (arith, within, length-append xs (x ∷ [])))))

before_last : (xs : List Bar) (x : Bar) → AllPairs Before (xs ++ x ∷ []) → (k : ℕ) (d : Bar) → k < length xs → (get_or xs k d).last < x.first
before_last xs x pairs k d lt =
    subst (λ y. Before (get_or xs k d) y) (get_or_push xs x d (length xs) refl)
    (subst (λ y. Before y (get_or (xs ++ x ∷ []) (length xs) d)) (get_or_append_left xs (x ∷ []) d k lt)
    (pairs k (length xs) d lt (omega (arith, length-append xs (x ∷ [])))))

-- a bar that ends before the old last slot
bar_stays : (S : ℕ → ℕ → Type 0) (first last more : ℕ) (b : Bar) → IsBar S first last b → b.last < last → last ≤ more → IsBar S first more b
bar_stays S first last more b is lt le = record {
  some = is.some;
  from = is.from;
  upto = omega (arith, is.upto, le);
  each_slot = is.each_slot;
  not_before = is.not_before;
  not_after = λ h s. is.not_after lt s;
}

-- the bar that the stretch goes on from
bar_grows : (S : ℕ → ℕ → Type 0) (first last : ℕ) (s b : Bar) → Adds S first last s → IsBar S first last b → b.coflow ≡ s.coflow → b.last + 1 ≡ s.first →
    IsBar S first s.last (longer b s.last)
bar_grows S first last s b adds is same next = record {
  some = omega (arith, is.some, next, adds.some);
  from = is.from;
  upto = omega arith;
  each_slot = λ slot from upto. elim (cases_lt b.last slot) [
    | inl lt ↦ subst (S slot) (sym same) (adds.served slot (omega (arith, lt, next)) upto)
    | inr le ↦ is.each_slot slot from le
  ];
  not_before = is.not_before;
  not_after = λ lt h. absurd (omega (arith, lt));
}

joined : (S : ℕ → ℕ → Type 0) (first last : ℕ) (s : Bar) (before : List Bar) (b : Bar) → Adds S first last s → IsRow S first last (before ++ b ∷ []) → b.coflow ≡ s.coflow →
    b.last + 1 ≡ s.first → IsRow S first s.last (before ++ longer b s.last ∷ [])
joined S first last s before b adds row same next =
    let is : IsBar S first last b = All-contains (IsBar S first last) (before ++ b ∷ []) b row.bars (Contains-push before b) in
    let old : All (IsBar S first last) before = all_before (IsBar S first last) before b row.bars in
    record {
      bars = All-push (IsBar S first s.last) before (longer b s.last)
          (λ k d lt. bar_stays S first last s.last (get_or before k d) (old k d lt) (omega (arith, before_last before b row.ascending k d lt, is.some, is.upto))
          (omega (arith, adds.later, adds.some))) (bar_grows S first last s b adds is same next);
      all = λ slot coflow from upto served. elim (cases_lt last slot) [
        | inl lt ↦
            let here = adds.only slot coflow (new_slot S first last slot s adds from lt) upto served in
            (longer b s.last, Contains-push before (longer b s.last), record { of_coflow = same ∙ sym here; from = omega (arith, is.some, is.upto, lt); upto = upto })
        | inr le ↦
            let (x, has, covers) = row.all slot coflow from le served in
            elim (Contains-push_cases before b x has) [
              | inl h ↦ (x, Contains-append_left before (longer b s.last ∷ []) x h, covers)
              | inr e ↦ (
                longer b s.last,
                Contains-push before (longer b s.last),
                record {
                  of_coflow = ap (λ (y : Bar). y.coflow) e ∙ covers.of_coflow;
                  from = omega (arith, ap (λ (y : Bar). y.first) e, covers.from);
                  upto = upto;
                },
              )
            ]
      ];
      ascending = all_pairs_push Before before (longer b s.last) (pairs_before before b row.ascending) (before_last before b row.ascending);
    }

-- a bar that ends with the old last slot is the last one
pub last_bar : (S : ℕ → ℕ → Type 0) (first last : ℕ) (row : List Bar) (b : Bar) → IsRow S first last row → Contains row b → b.last ≡ last →
    (before : List Bar) × (row ≡ before ++ b ∷ [])
last_bar S first last row b r has end =
    let (k, lt, is) = has in
    elim (cases_lt (k + 1) (length row)) [
      | inl inside ↦
          let apart : (get_or row k b).last < (get_or row (k + 1) b).first = r.ascending k (k + 1) b (omega arith) inside in
          let later : IsBar S first last (get_or row (k + 1) b) = r.bars (k + 1) b inside in
          absurd (omega (arith, apart, later.some, later.upto, ap (λ (y : Bar). y.last) is, end))
      | inr le ↦ (take k row, sym (take_all (k + 1) row le) ∙ take_more row k b lt ∙ ap (λ y. take k row ++ y ∷ []) is)
    ]

begun : (S : ℕ → ℕ → Type 0) (first last : ℕ) (s : Bar) (row : List Bar) → Adds S first last s → IsRow S first last row → IsApart row s → IsRow S first s.last (row ++ s ∷ [])
begun S first last s row adds r apart =
    let alone : (x : Bar) → Contains row x → x.last ≡ last → x.coflow ≡ s.coflow → last + 1 ≡ s.first → ⊥ =
    λ x has end same next. let (before, e) = last_bar S first last row x r has end in
    apart before x record { row_is = e; same = same; next = omega (arith, end, next) } in
    let stays : (x : Bar) → Contains row x → IsBar S first last x → IsBar S first s.last x =
    λ x has is. record {
      some = is.some;
      from = is.from;
      upto = omega (arith, is.upto, adds.later, adds.some);
      each_slot = is.each_slot;
      not_before = is.not_before;
      not_after = λ lt h. elim (cases_lt x.last last) [
        | inl before ↦ is.not_after before h
        | inr le ↦
            let next : s.first ≡ last + 1 = adds.next (omega (arith, is.from, is.some, is.upto, adds.later, le)) in
            alone x has (omega (arith, is.upto, le))
            (adds.only (x.last + 1) x.coflow (omega (arith, next, le, is.upto)) (omega (arith, lt)) h) (sym next)
      ];
    } in
    record {
      bars = All-push (IsBar S first s.last) row s (λ k d lt. stays (get_or row k d) (k, lt, get_or_again row k d lt) (r.bars k d lt)) record {
        some = adds.some;
        from = adds.from;
        upto = omega arith;
        each_slot = adds.served;
        not_before = λ lt h.
            let next = adds.next lt in
            let (x, has, covers) = r.all (s.first - 1) s.coflow (omega arith) (omega (arith, next)) h in
            let is : IsBar S first last x = All-contains (IsBar S first last) row x r.bars has in
            alone x has (omega (arith, covers.upto, is.upto, next)) covers.of_coflow (sym next);
        not_after = λ lt h. absurd (omega (arith, lt));
      };
      all = λ slot coflow from upto served. elim (cases_lt last slot) [
        | inl lt ↦
            let inside = new_slot S first last slot s adds from lt in
            (s, Contains-push row s, record { of_coflow = sym (adds.only slot coflow inside upto served); from = inside; upto = upto })
        | inr le ↦ let (x, has, covers) = r.all slot coflow from le served in (x, Contains-append_left row (s ∷ []) x has, covers)
      ];
      ascending = all_pairs_push Before row s r.ascending (λ k d lt. let is : IsBar S first last (get_or row k d) = r.bars k d lt in omega (arith, is.upto, adds.later));
    }
  where
    get_or_again : (xs : List Bar) (k : ℕ) (d : Bar) → k < length xs → get_or xs k (get_or xs k d) ≡ get_or xs k d
    get_or_again xs k d lt = get_or_default xs k (get_or xs k d) d lt

pub row_grows : (S : ℕ → ℕ → Type 0) (first last : ℕ) (s : Bar) (row new : List Bar) → Adds S first last s → IsRow S first last row → Grows row s new → IsRow S first s.last new
row_grows S first last s row new adds r grows = elim grows [
  | inl h ↦
      let (before, b, on, new_is) = h in
      subst (IsRow S first s.last) (sym new_is) (joined S first last s before b adds (subst (IsRow S first last) on.row_is r) on.same on.next)
  | inr h ↦ subst (IsRow S first s.last) (sym h.1) (begun S first last s row adds r h.0)
]

-- slots in which nothing is served
pub row_waits : (S : ℕ → ℕ → Type 0) (first last more : ℕ) (row : List Bar) → IsRow S first last row → last ≤ more →
    ((slot coflow : ℕ) → first ≤ slot → last < slot → slot ≤ more → S slot coflow → ⊥) → IsRow S first more row
row_waits S first last more row r le nothing = record {
  bars = λ k d lt.
      let x = get_or row k d in
      let is : IsBar S first last x = r.bars k d lt in
      record {
        some = is.some;
        from = is.from;
        upto = omega (arith, is.upto, le);
        each_slot = is.each_slot;
        not_before = is.not_before;
        not_after = λ inside h. elim (cases_lt x.last last) [
          | inl before ↦ is.not_after before h
          | inr end ↦ nothing (x.last + 1) x.coflow (omega (arith, is.from, is.some)) (omega (arith, end)) (omega (arith, inside)) h
        ];
      };
  all = λ slot coflow from upto served. elim (cases_lt last slot) [
    | inl lt ↦ absurd (nothing slot coflow from lt upto served)
    | inr h ↦ r.all slot coflow from h served
  ];
  ascending = r.ascending;
}
