-- What the canvas keeps of all bars, one stretch more.
use Rattle.std.proofs.Common.{◌≡◌, ℕ, ◌+◌, ◌-◌, ◌^◌, ◌≤◌, ◌<◌, ◌⊎◌, inl, inr, List, [], ◌∷◌, ◌++◌, length, get_or}
use Rattle.std.proofs.Common.{min, replicate, set, take, Bool, true, false, cond, refl, sym, ap, ◌∙◌, arith, zero, suc, append_assoc}
use Rattle.std.proofs.lemmas.Bool.{cases_eq}
use Rattle.std.proofs.lemmas.List.{get_or-set_other, get_or-set_same, get_or_push, length-append, length-set, take_all, take_more, take_more_set}
use Rattle.std.proofs.lemmas.List.Sums.{sum_by-cons, sum_by-set}
use Rattle.picture.specs.declared.value.Bar.{Bar}
use Rattle.picture.specs.Bars.{bar_count}
use Rattle.picture.specs.Drawing.{EndsWith, GoesOn, Grows, IsApart, IsJoined, Keeps, longer, row_at, with_row}

-- a list is empty or has a last element
with_last : (xs : List Bar) → (xs ≡ []) ⊎ ((before : List Bar) × (b : Bar) × (xs ≡ before ++ b ∷ []))
with_last [] = inl refl
with_last (x ∷ xs) = elim (with_last xs) [
  | inl e ↦ inr ([], x, ap (λ l. x ∷ l) e)
  | inr h ↦ let (before, b, e) = h in inr (x ∷ before, b, ap (λ l. x ∷ l) e)
]

not_empty : (xs : List Bar) (x : Bar) → xs ++ x ∷ [] ≡ [] → ⊥
not_empty xs x e = omega (arith, ap length e, length-append xs (x ∷ []))

same_last : (xs ys : List Bar) (x y : Bar) → xs ++ x ∷ [] ≡ ys ++ y ∷ [] → x ≡ y
same_last xs ys x y e =
    let lengths : length xs ≡ length ys = omega (arith, ap length e, length-append xs (x ∷ []), length-append ys (y ∷ [])) in
    sym (get_or_push xs x x (length xs) refl) ∙ ap (λ l. get_or l (length xs) x) e ∙ get_or_push ys y x (length xs) (sym lengths)

no_front : (front xs : List Bar) → xs ≡ front ++ xs → front ≡ []
no_front [] xs e = refl
no_front (f ∷ front) xs e = absurd (omega (arith, ap length e, length-append front xs))

-- a stretch that goes on from no kept bar goes on from no bar
pub apart_in_all : (front kept : List Bar) (all : List Bar) (s : Bar) → all ≡ front ++ kept → (kept ≡ [] → all ≡ []) → IsApart kept s → IsApart all s
apart_in_all front kept all s all_is none apart before b on = elim (with_last kept) [
  | inl e ↦ not_empty before b (sym on.row_is ∙ none e)
  | inr h ↦
      let (m, y, e) = h in
      let both : (front ++ m) ++ y ∷ [] ≡ before ++ b ∷ [] = append_assoc front m (y ∷ []) ∙ ap (λ l. front ++ l) (sym e) ∙ sym all_is ∙ on.row_is in
      let same : b ≡ y = sym (same_last (front ++ m) before y b both) in
      apart m y record {
        row_is = e;
        same = ap (λ (x : Bar). x.coflow) (sym same) ∙ on.same;
        next = omega (arith, on.next, ap (λ (x : Bar). x.last) same);
      }
]

-- the rows after a port's row was replaced
pub count_set : (rows : List (List Bar)) (port : ℕ) (row : List Bar) → port < length rows → bar_count (with_row rows port row) + length (row_at rows port) ≡
    bar_count rows + length row
count_set rows port row lt = sum_by-set length rows port row [] lt

ends_set : (all kept : List (List Bar)) (port : ℕ) (row new front : List Bar) → length kept ≡ length all → port < length kept → ((q : ℕ) →
    EndsWith (row_at all q) (row_at kept q)) →
    row ≡ front ++ new → (new ≡ [] → row ≡ []) → (q : ℕ) → EndsWith (row_at (with_row all port row) q) (row_at (with_row kept port new) q)
ends_set all kept port row new front each lt ends row_is none q = elim (cases_eq q port) [
  | inl e ↦
      let here : row_at (with_row all port row) q ≡ row = ap (row_at (with_row all port row)) e ∙ get_or-set_same all port row [] (omega (arith, each, lt)) in
      let there : row_at (with_row kept port new) q ≡ new = ap (row_at (with_row kept port new)) e ∙ get_or-set_same kept port new [] lt in
      (front, here ∙ row_is ∙ ap (λ l. front ++ l) (sym there), λ nil. here ∙ none (sym there ∙ nil))
  | inr apart ↦
      let here : row_at (with_row all port row) q ≡ row_at all q = get_or-set_other all port q row [] apart in
      let there : row_at (with_row kept port new) q ≡ row_at kept q = get_or-set_other kept port q new [] apart in
      let (f, is, nil) = ends q in
      (f, here ∙ is ∙ ap (λ l. f ++ l) (sym there), λ e. here ∙ nil (sym there ∙ e))
]

-- a stretch that was joined
pub keeps_joined : (all kept : List (List Bar)) (count port : ℕ) (s : Bar) (new : List Bar) → Keeps all kept count → port < length kept → IsJoined (row_at kept port) s new →
    (row : List Bar) × Grows (row_at all port) s row × Keeps (with_row all port row) (with_row kept port new) count
keeps_joined all kept count port s new k lt joins =
    let (before, b, on, new_is) = joins in
    let (front, all_is, none) = k.ends port in
    let row : List Bar = front ++ new in
    let at : port < length all = omega (arith, lt, k.row_each) in
    let old_is : row_at all port ≡ (front ++ before) ++ b ∷ [] = all_is ∙ ap (λ l. front ++ l) on.row_is ∙ sym (append_assoc front before (b ∷ [])) in
    let row_is : row ≡ (front ++ before) ++ longer b s.last ∷ [] = ap (λ l. front ++ l) new_is ∙ sym (append_assoc front before (longer b s.last ∷ [])) in
    let lengths : length row ≡ length (row_at all port) =
    omega (arith, ap length row_is, ap length old_is, length-append (front ++ before) (longer b s.last ∷ []), length-append (front ++ before) (b ∷ [])) in
    let counts : bar_count (with_row all port row) ≡ bar_count all = omega (arith, count_set all port row at, lengths) in (
      row,
      inl (front ++ before, b, record { row_is = old_is; same = on.same; next = on.next }, row_is),
      record {
        counted = k.counted ∙ ap (λ n. min n (2 ^ 64 - 1)) (sym counts);
        row_each = length-set kept port new ∙ k.row_each ∙ sym (length-set all port row);
        ends = ends_set all kept port row new front k.row_each lt k.ends refl (λ e. absurd (not_empty before (longer b s.last) (sym new_is ∙ e)));
        whole = λ few.
            let same : kept ≡ all = k.whole (omega (arith, few, counts)) in
            let rows : row_at kept port ≡ front ++ row_at kept port = ap (λ l. row_at l port) same ∙ all_is in
            let alone : front ≡ [] = no_front front (row_at kept port) rows in
            ap (λ l. with_row l port new) same ∙ ap (λ l. with_row all port (l ++ new)) (sym alone);
      },
    )

min_more : (n c m : ℕ) → c ≡ min n (2 ^ 64 - 1) → m ≡ min (c + 1) (2 ^ 64 - 1) → m ≡ min (n + 1) (2 ^ 64 - 1)
min_more n c m e f = grind arith

-- a stretch that begins a bar
pub keeps_begun : (all kept : List (List Bar)) (count more port : ℕ) (s : Bar) (keeps : Bool) (new : List Bar) → Keeps all kept count → port < length kept →
    IsApart (row_at kept port) s → (count < 262144 → keeps ≡ true) → new ≡ cond keeps (row_at kept port) [] ++ s ∷ [] → more ≡ min (count + 1) (2 ^ 64 - 1) →
    (row : List Bar) × Grows (row_at all port) s row × Keeps (with_row all port row) (with_row kept port new) more
keeps_begun all kept count more port s keeps new k lt apart small new_is more_is =
    let (front, all_is, none) = k.ends port in
    let row : List Bar = row_at all port ++ s ∷ [] in
    let at : port < length all = omega (arith, lt, k.row_each) in
    let counts : bar_count (with_row all port row) ≡ bar_count all + 1 =
    omega (arith, count_set all port row at, length-append (row_at all port) (s ∷ [])) in
    let ends : (f : List Bar) × (row ≡ f ++ new) = kept_front keeps front (row_at kept port) all_is new_is in (
      row,
      inr (apart_in_all front (row_at kept port) (row_at all port) s all_is none apart, refl),
      record {
        counted = min_more (bar_count all) count more k.counted more_is ∙ ap (λ n. min n (2 ^ 64 - 1)) (sym counts);
        row_each = length-set kept port new ∙ k.row_each ∙ sym (length-set all port row);
        ends = ends_set all kept port row new ends.0 k.row_each lt k.ends ends.1 (λ e. absurd (not_empty (cond keeps (row_at kept port) []) s (sym new_is ∙ e)));
        whole = λ few.
            let same : kept ≡ all = k.whole (omega (arith, few, counts)) in
            let kept_all : keeps ≡ true = small (within (bar_count all) count k.counted (omega (arith, few, counts))) in
            let new_row : new ≡ row = new_is ∙ ap (λ b. cond b (row_at kept port) [] ++ s ∷ []) kept_all ∙ ap (λ l. row_at l port ++ s ∷ []) same in
            ap (λ l. with_row l port new) same ∙ ap (λ l. with_row all port l) new_row;
      },
    )
  where
    within : (n c : ℕ) → c ≡ min n (2 ^ 64 - 1) → n + 1 ≤ 262144 → c < 262144
    within n c e le = grind arith

    kept_front : (keeps : Bool) (front old : List Bar) → row_at all port ≡ front ++ old → new ≡ cond keeps old [] ++ s ∷ [] →
        (f : List Bar) × (row_at all port ++ s ∷ [] ≡ f ++ new)
    kept_front true front old is e = (front, ap (λ l. l ++ s ∷ []) is ∙ append_assoc front old (s ∷ []) ∙ ap (λ l. front ++ l) (sym e))
    kept_front false front old is e = (row_at all port, ap (λ l. row_at all port ++ l) (sym e))

-- the last bar was made longer
pub join_is : (xs old : List Bar) (n : ℕ) (b s : Bar) → xs ≡ old → n ≡ length xs → 0 < n → b ≡ get_or xs (n - 1) b → b.coflow ≡ s.coflow → b.last ≡ s.first - 1 → 1 ≤ s.first →
    (before : List Bar) × (x : Bar) × GoesOn old s before x × (set xs (n - 1) record { coflow = b.coflow; first = b.first; last = s.last } ≡ before ++ longer x s.last ∷ [])
join_is xs old n b s view len some is same next counted =
    let lt : n - 1 < length xs = omega (arith, len, some) in
    let y : Bar = record { coflow = b.coflow; first = b.first; last = s.last } in
    let whole : xs ≡ take (n - 1) xs ++ b ∷ [] =
    sym (take_all (n - 1 + 1) xs (omega (arith, len))) ∙ take_more xs (n - 1) b lt ∙ ap (λ x. take (n - 1) xs ++ x ∷ []) (sym is) in (
      take (n - 1) xs,
      b,
      record { row_is = sym view ∙ whole; same = same; next = omega (arith, next, counted) },
      sym (take_all (n - 1 + 1) (set xs (n - 1) y) (omega (arith, len, length-set xs (n - 1) y))) ∙ take_more_set xs (n - 1) y lt,
    )

-- how many bars there are, by the count
pub few_bars : (n count : ℕ) → count ≡ min n (2 ^ 64 - 1) → count ≤ 262144 → n ≤ 262144
few_bars n count e le = grind arith

pub many_bars : (n count : ℕ) → count ≡ min n (2 ^ 64 - 1) → 262144 < count → 262144 < n
many_bars n count e lt = grind arith

-- a new canvas
pub keeps_nothing : (ports : ℕ) (rows : List (List Bar)) (count : ℕ) → rows ≡ replicate ports [] → count ≡ 0 → Keeps rows rows count
keeps_nothing ports rows count rows_are zero_is = record {
  counted = zero_is ∙ sym (ap (λ n. min n (2 ^ 64 - 1)) (ap bar_count rows_are ∙ empty ports));
  row_each = refl;
  ends = λ port. ([], refl, λ e. e);
  whole = λ few. refl;
}
  where
    empty : (n : ℕ) → bar_count (replicate {A = List Bar} n []) ≡ 0
    empty zero = refl
    empty (suc n) = omega (arith, sum_by-cons {X = List Bar} (λ row. length row) [] (replicate n []), empty n)
