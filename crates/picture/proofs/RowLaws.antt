-- A port has one list of bars.
use Rattle.std.proofs.Common.{◌≡◌, ◌≢◌, ℕ, ◌+◌, ◌-◌, ◌≤◌, ◌<◌, inl, inr, List, [], length, get_or, Contains, refl, sym, ap, subst, ◌∙◌, arith}
use Rattle.std.specs.Prelude.{All}
use Rattle.std.proofs.lemmas.Bool.{cases_lt}
use Rattle.std.proofs.lemmas.List.{same_lists, get_or_default}
use Rattle.std.proofs.lemmas.List.Elements.{All-contains, All-weaker}
use Rattle.coflow_units.specs.declared.fabric.Flow.{Flow}
use Rattle.picture.specs.declared.value.Bar.{Bar}
use Rattle.picture.specs.declared.value.Window.{Window}
use Rattle.picture.specs.Bars.{Covers, IsBar, IsBars, IsRow}
use Rattle.picture.proofs.OneList.{one_list}

abbrev bar : ℕ → ℕ → ℕ → Bar
bar c f l = record { coflow = c; first = f; last = l }

pub same_bar : (a b : Bar) → a.coflow ≡ b.coflow → a.first ≡ b.first → a.last ≡ b.last → a ≡ b
same_bar a b c f l = ap (λ n. bar n a.first a.last) c ∙ ap (λ n. bar b.coflow n a.last) f ∙ ap (λ n. bar b.coflow b.first n) l

-- of two bars of one coflow, none begins within the other, and none ends there
first_within : (S : ℕ → ℕ → Type 0) (first last : ℕ) (a b : Bar) → IsBar S first last a → IsBar S first last b → b.coflow ≡ a.coflow → a.first ≤ b.last → a.first ≤ b.first
first_within S first last a b is_a is_b same le = elim (cases_lt b.first a.first) [
  | inl lt ↦
      let slot : S (a.first - 1) b.coflow = is_b.each_slot (a.first - 1) (omega arith) (omega arith) in
      absurd (is_a.not_before (omega (arith, is_b.from)) (subst (S (a.first - 1)) same slot))
  | inr h ↦ h
]

last_within : (S : ℕ → ℕ → Type 0) (first last : ℕ) (a b : Bar) → IsBar S first last a → IsBar S first last b → b.coflow ≡ a.coflow → b.first ≤ a.last → b.last ≤ a.last
last_within S first last a b is_a is_b same le = elim (cases_lt a.last b.last) [
  | inl lt ↦
      let slot : S (a.last + 1) b.coflow = is_b.each_slot (a.last + 1) (omega arith) (omega arith) in
      absurd (is_a.not_after (omega (arith, is_b.upto)) (subst (S (a.last + 1)) same slot))
  | inr h ↦ h
]

-- two bars of one coflow with a slot in common are one
pub common_slot : (S : ℕ → ℕ → Type 0) (first last slot : ℕ) (a b : Bar) → IsBar S first last a → IsBar S first last b → Covers a slot b.coflow → Covers b slot b.coflow → a ≡ b
common_slot S first last slot a b is_a is_b ca cb =
    let firsts : a.first ≡ b.first = omega (
      arith,
      ca.from,
      ca.upto,
      cb.from,
      cb.upto,
      first_within S first last a b is_a is_b (sym ca.of_coflow) (omega (arith, ca.from, cb.upto)),
      first_within S first last b a is_b is_a ca.of_coflow (omega (arith, cb.from, ca.upto)),
    ) in
    let lasts : a.last ≡ b.last = omega (
      arith,
      last_within S first last a b is_a is_b (sym ca.of_coflow) (omega (arith, cb.from, ca.upto)),
      last_within S first last b a is_b is_a ca.of_coflow (omega (arith, ca.from, cb.upto)),
    ) in
    same_bar a b ca.of_coflow firsts lasts

in_other : (S : ℕ → ℕ → Type 0) (first last : ℕ) (row : List Bar) (a : Bar) → IsRow S first last row → IsBar S first last a → Contains row a
in_other S first last row a r is =
    let (b, has, covers) = r.all a.first a.coflow is.from (omega (arith, is.some, is.upto)) (is.each_slot a.first (omega arith) is.some) in
    let other : IsBar S first last b = All-contains (IsBar S first last) row b r.bars has in
    subst (Contains row) (common_slot S first last a.first b a other is covers record { of_coflow = refl; from = omega arith; upto = is.some }) has

abbrev HasSlot : Bar → Type 0
HasSlot b = b.first ≤ b.last

strict_bars : (a b : Bar) → HasSlot a → HasSlot b → a.last < b.first → b.last < a.first → ⊥
strict_bars a b sa sb ab ba = omega arith

has_slots : (S : ℕ → ℕ → Type 0) (first last : ℕ) (row : List Bar) → IsRow S first last row → All HasSlot row
has_slots S first last row r = All-weaker (IsBar S first last) HasSlot (λ b is. is.some) row r.bars

pub one_row : (S : ℕ → ℕ → Type 0) (first last : ℕ) (a b : List Bar) → IsRow S first last a → IsRow S first last b → a ≡ b
one_row S first last a b ra rb =
    one_list (λ (x : Bar) (y : Bar). x.last < y.first) HasSlot a b strict_bars (has_slots S first last a ra) (has_slots S first last b rb) ra.ascending rb.ascending
    (λ x has. in_other S first last b x rb (All-contains (IsBar S first last) a x ra.bars has))
    (λ x has. in_other S first last a x ra (All-contains (IsBar S first last) b x rb.bars has))

pub one_picture : (flows : List Flow) (slots : List (List ℕ)) (ports : ℕ) (window : Window) (a b : List (List Bar)) → IsBars flows slots ports window a →
    IsBars flows slots ports window b → a ≡ b
one_picture flows slots ports window a b ra rb =
    same_lists a b (ra.row_each ∙ sym rb.row_each) (λ k d lt. get_or_default a k d [] lt
    ∙ one_row _ window.first window.last (get_or a k []) (get_or b k []) (ra.row k (omega (arith, lt, ra.row_each))) (rb.row k (omega (arith, lt, ra.row_each)))
    ∙ get_or_default b k [] d (omega (arith, lt, ra.row_each, rb.row_each)))

pub neighbours : (S : ℕ → ℕ → Type 0) (first last : ℕ) (row : List Bar) (k : ℕ) (d : Bar) → IsRow S first last row → k + 1 < length row →
    (get_or row k d).last + 1 ≡ (get_or row (k + 1) d).first → (get_or row k d).coflow ≢ (get_or row (k + 1) d).coflow
neighbours S first last row k d r lt next same =
    let a = get_or row k d in
    let b = get_or row (k + 1) d in
    let is_a : IsBar S first last a = r.bars k d (omega arith) in
    let is_b : IsBar S first last b = r.bars (k + 1) d lt in
    let slot : S (a.last + 1) b.coflow = is_b.each_slot (a.last + 1) (omega (arith, next)) (omega (arith, next, is_b.some)) in
    is_a.not_after (omega (arith, next, is_b.some, is_b.upto)) (subst (S (a.last + 1)) (sym same) slot)
