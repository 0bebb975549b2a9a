-- The line: what its coflows have in common, and one more coflow of it.
use Rattle.std.proofs.Common.{◌≡◌, ℕ, ◌+◌, ◌<◌, ◌≤◌, Bool, true, false, List, [], ◌∷◌, ◌++◌, length, take, cond, get_or, Contains, inl, inr, sym, ap, ◌∙◌, arith, append_assoc}
use Rattle.std.proofs.Common.{append-nil}
use Rattle.std.specs.Prelude.{All, ◌==◌, ◌&&◌, not, if◌then◌else◌}
use Rattle.std.specs.List.{filter}
use Rattle.std.proofs.lemmas.Bool.{and_parts, cases_Bool, eqb-true, ne_eqb}
use Rattle.std.proofs.lemmas.List.{take_all}
use Rattle.std.proofs.lemmas.List.Elements.{All-contains, All-map, Contains-append_cases, Contains-append_left, Contains-append_right, filter_more}
use Rattle.coflow_units.specs.declared.plan.Place.{Place}
use Rattle.coflow_units.specs.Flows.{IsDistinct}
use Rattle.coflow_units.specs.Grants.{place_in}
use Rattle.coflow_units.proofs.Lists.{filter_in, keeps}
use Rattle.coflow_units.proofs.Sums.{Apart, all_of_members, any_has, any_in, apart_from_pairs, in_first, in_tail, pairs_from_apart}
use Rattle.journal.specs.State.{has}
use Rattle.journal.specs.Line.{rank_in}
use Rattle.master_core.specs.Attendance.{marked}
use Rattle.master_core.specs.Published.{ranked}
use Rattle.master_core.specs.Waiting.{waits}

filter_apart : (p : ℕ → Bool) (xs : List ℕ) → Apart xs → Apart (filter p xs)
filter_apart p [] h = tt
filter_apart p (x ∷ xs) h = elim (cases_Bool (p x)) [
  | inl t ↦ rw t ((λ in'. h.0 (filter_in p xs x in').0), filter_apart p xs h.1)
  | inr f ↦ rw f (filter_apart p xs h.1)
]

join_apart : (xs ys : List ℕ) → Apart xs → Apart ys → ((x : ℕ) → Contains xs x → Contains ys x → ⊥) → Apart (xs ++ ys)
join_apart [] ys hx hy none = hy
join_apart (x ∷ xs) ys hx hy none = (
  (λ in'. elim (Contains-append_cases xs ys x in') [ inl h ↦ hx.0 h | inr h ↦ none x (in_first x xs) h ]),
  join_apart xs ys hx.1 hy (λ z a b. none z (in_tail x xs z a) b),
)

-- a coflow without a rank is not among the ranked
unranked_apart : (xs : List ℕ) (c : ℕ) → (rank_in xs c == 0) ≡ true → Contains xs c → ⊥
unranked_apart xs c e in' =
    let zero : rank_in xs c ≡ 0 = eqb-true (rank_in xs c) 0 e in
    let some : rank_in xs c ≡ place_in xs c + 1 = ap (λ (b : Bool). if b then place_in xs c + 1 else 0) (any_in xs c in') in
    omega (arith, zero, some)

pub line_once : (p : ℕ → Bool) (order joined : List ℕ) → IsDistinct order → IsDistinct joined → IsDistinct (filter p order ++ filter (λ c. (rank_in order c == 0) && p c) joined)
line_once p order joined once_order once_joined =
    let q = λ (c : ℕ). (rank_in order c == 0) && p c in
    pairs_from_apart (filter p order ++ filter q joined)
    (join_apart (filter p order) (filter q joined) (filter_apart p order (apart_from_pairs order once_order)) (filter_apart q joined (apart_from_pairs joined once_joined))
    (λ x a b. unranked_apart order x (and_parts (rank_in order x == 0) (p x) (filter_in q joined x b).1).0 (filter_in p order x a).0))

pub line_within : (p : ℕ → Bool) (order joined : List ℕ) (n : ℕ) → All (λ c. c < n) order → All (λ c. c < n) joined →
    All (λ c. c < n) (filter p order ++ filter (λ c. (rank_in order c == 0) && p c) joined)
line_within p order joined n low_order low_joined =
    let q = λ (c : ℕ). (rank_in order c == 0) && p c in
    all_of_members (λ c. c < n) (filter p order ++ filter q joined) (λ x in'. elim (Contains-append_cases (filter p order) (filter q joined) x in') [
      | inl h ↦ All-contains (λ (c : ℕ). c < n) order x low_order (filter_in p order x h).0
      | inr h ↦ All-contains (λ (c : ℕ). c < n) joined x low_joined (filter_in q joined x h).0
    ])

pub places_within : (places : List Place) (n : ℕ) → All (λ (x : Place). x.coflow < n) places → All (λ c. c < n) (ranked places)
places_within places n low = All-map (λ (c : ℕ). c < n) (λ (x : Place). x.coflow) places low

-- one more coflow is looked at, and joins where it passes
pub joins : (p : ℕ → Bool) (old xs items items' : List ℕ) (i x : ℕ) → items ≡ old ++ filter p (take i xs) → i < length xs → get_or xs i 0 ≡ x → p x ≡ true →
    items' ≡ items ++ x ∷ [] → items' ≡ old ++ filter p (take (i + 1) xs)
joins p old xs items items' i x so_far lt is passes more =
    more ∙ ap (λ l. l ++ x ∷ []) so_far ∙ append_assoc old (filter p (take i xs)) (x ∷ [])
    ∙ ap (λ l. old ++ l) (sym (filter_more p xs i 0 lt ∙ ap (λ y. filter p (take i xs) ++ cond (p y) (y ∷ []) []) is ∙ ap (λ b. filter p (take i xs) ++ cond b (x ∷ []) []) passes))

pub passes_by : (p : ℕ → Bool) (old xs items : List ℕ) (i x : ℕ) → items ≡ old ++ filter p (take i xs) → i < length xs → get_or xs i 0 ≡ x → p x ≡ false →
    items ≡ old ++ filter p (take (i + 1) xs)
passes_by p old xs items i x so_far lt is fails =
    so_far ∙ ap (λ l. old ++ l) (sym (filter_more p xs i 0 lt ∙ ap (λ y. filter p (take i xs) ++ cond (p y) (y ∷ []) []) is ∙
    ap (λ b. filter p (take i xs) ++ cond b (x ∷ []) []) fails ∙ append-nil (filter p (take i xs))))

pub all_looked_at : (p : ℕ → Bool) (old xs items : List ℕ) (i : ℕ) → items ≡ old ++ filter p (take i xs) → length xs ≤ i → items ≡ old ++ filter p xs
all_looked_at p old xs items i so_far le = so_far ∙ ap (λ l. old ++ filter p l) (take_all i xs le)

pub line_made : (p q : ℕ → Bool) (places places' : List Place) (joined joined' first all : List ℕ) → places ≡ places' → joined ≡ joined' → first ≡ filter p (ranked places) →
    all ≡ first ++ filter q joined → all ≡ filter p (ranked places') ++ filter q joined'
line_made p q places places' joined joined' first all e f a b =
    b ∙ ap (λ l. l ++ filter q joined) a ∙ ap (λ (l : List Place). filter p (ranked l) ++ filter q joined) e ∙ ap (λ l. filter p (ranked places') ++ filter q l) f

pub rank_zero : (order : List ℕ) (c : ℕ) → (rank_in order c == 0) ≡ not (has order c)
rank_zero order c = elim (cases_Bool (has order c)) [
  | inl t ↦ ne_eqb (rank_in order c) 0 (λ e. omega (arith, e, ap (λ (b : Bool). if b then place_in order c + 1 else 0) t)) ∙ sym (ap not t)
  | inr f ↦ ap (λ (b : Bool). (if b then place_in order c + 1 else 0) == 0) f ∙ sym (ap not f)
]

-- who is present is in the line
pub line_all : (present : List Bool) (order joined : List ℕ) (c : ℕ) → marked present c ≡ true → has joined c ≡ true →
    has (filter (marked present) order ++ filter (waits order present) joined) c ≡ true
line_all present order joined c here there = any_in (filter (marked present) order ++ filter (waits order present) joined) c (elim (cases_Bool (has order c)) [
  | inl t ↦ Contains-append_left (filter (marked present) order) (filter (waits order present) joined) c (keeps (marked present) order c (any_has order c t) here)
  | inr f ↦ Contains-append_right (filter (marked present) order) (filter (waits order present) joined) c
      (keeps (waits order present) joined c (any_has joined c there) (ap (λ b. b && marked present c) (rank_zero order c ∙ ap not f) ∙ here))
])
