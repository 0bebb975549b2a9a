-- The coflows of a schedule, one more.
use Rattle.std.proofs.Common.{◌≡◌, ℕ, ◌+◌, ◌≤◌, ◌<◌, inl, inr, leb, leb-true, List, [], ◌∷◌, ◌++◌, length, get_or, map, max, not, refl, sym, ap, subst, ◌∙◌, arith}
use Rattle.std.specs.Prelude.{◌⊎◌, ◌==◌, sum_by}
use Rattle.std.specs.List.{range_with_len}
use Rattle.std.proofs.lemmas.Bool.{cases_Bool, cases_eq}
use Rattle.std.proofs.lemmas.List.{get_or_append_left, get_or_push}
use Rattle.std.proofs.lemmas.List.Elements.{All-push, All-weaker, Contains-append_left, Contains-push}
use Rattle.std.proofs.lemmas.List.FromFn.{get_or-map-range_with_len, length-map-range_with_len}
use Rattle.std.proofs.lemmas.List.Filters.{length-filter_both, sum_by-filter_both}
use Rattle.coflow_units.specs.declared.fabric.Flow.{Flow}
use Rattle.flow_table.specs.Table.{TableFacts}
use Rattle.port_load.specs.Bottleneck.{IsBottleneck}
use Rattle.port_load.specs.LoadTable.{HasLoads, LoadTable}
use Rattle.coflow_stats.specs.Finished.{IsGreatestLoad, IsLongest, flows_in}

-- what holds of each element by number, and of one more
pub each_more : {X : Type 0} (P : ℕ → X → Type 0) (xs ys : List X) (x : X) (k : ℕ) (d : X) → ys ≡ xs ++ (x ∷ []) → length xs ≡ k → ((c : ℕ) → c < k → P c (get_or xs c d)) → P k x →
    (c : ℕ) → c < k + 1 → P c (get_or ys c d)
each_more P xs ys x k d grown count old new c lt = elim (cases_eq c k) [
  | inl e ↦ subst (λ n. P n (get_or ys n d)) (sym e) (subst (λ l. P k (get_or l k d)) (sym grown) (subst (P k) (sym (get_or_push xs x d k count)) new))
  | inr apart ↦
      let before : c < k = omega (arith, apart, lt) in
      let inside : c < length xs = omega (arith, before, count) in
      subst (λ l. P c (get_or l c d)) (sym grown) (subst (P c) (sym (get_or_append_left xs (x ∷ []) d c inside)) (old c before))
]

max_cases : (a b : ℕ) → (max a b ≡ b) ⊎ (max a b ≡ a)
max_cases a b = elim (cases_Bool (leb a b)) [
  | inl e ↦ inl (omega (arith, leb-true a b e))
  | inr e ↦ inr (grind (arith, e))
]

-- the longest flow, one flow more
pub longest_more : (flows : List Flow) (x : Flow) (n : ℕ) → IsLongest flows n → IsLongest (flows ++ (x ∷ [])) (max x.units n)
longest_more flows x n l = record {
  most = All-push (λ (y : Flow). y.units ≤ max x.units n) flows x
      (All-weaker (λ (y : Flow). y.units ≤ n) (λ (y : Flow). y.units ≤ max x.units n) (λ y le. omega (arith, le)) flows l.most) (omega arith);
  some = elim (max_cases x.units n) [
    | inl e ↦ elim l.some [
      | inl none ↦ let zero : x.units ≡ max x.units n = omega (arith, e, none.1) in inr (x, Contains-push flows x, zero)
      | inr (y, has, is) ↦ inr (y, Contains-append_left flows (x ∷ []) y has, is ∙ sym e)
    ]
    | inr e ↦ inr (x, Contains-push flows x, sym e)
  ];
}

pub no_flow : IsLongest [] 0
no_flow = record {
  most = λ k d lt. absurd (omega arith);
  some = inl (refl, refl);
}

-- the flows of a coflow are no more than all flows, and have no more units
pub few_flows : (t : TableFacts) (coflow most : ℕ) → length t.flows ≤ most → length (flows_in t coflow) ≤ most
few_flows t coflow most le =
    let p = λ (x : Flow). x.coflow == coflow in
    omega (arith, le, length-filter_both p (λ (x : Flow). not (p x)) (λ x. refl) t.flows)

pub few_units : (t : TableFacts) (coflow most : ℕ) → sum_by (λ (x : Flow). x.units) t.flows ≤ most → sum_by (λ (x : Flow). x.units) (flows_in t coflow) ≤ most
few_units t coflow most le =
    let p = λ (x : Flow). x.coflow == coflow in
    omega (arith, le, sum_by-filter_both p (λ (x : Flow). not (p x)) (λ x. refl) (λ (x : Flow). x.units) t.flows)

-- the greatest of the loads that a table has of the flows
pub greatest_is : (t : TableFacts) (loads : LoadTable) (coflow n : ℕ) → HasLoads t.flows loads → loads.ports ≡ t.ports → coflow < loads.coflows → IsBottleneck loads coflow n →
    IsGreatestLoad t coflow n
greatest_is t loads coflow n has ports known b = record {
  most = λ port inside.
      let within : port.number < loads.ports = omega (arith, inside, ports) in
      subst (λ x. x ≤ n) (has coflow port known within) (b.most port within);
  some =
      let (port, inside, is) = b.some in
      (port, omega (arith, inside, ports), sym (has coflow port known inside) ∙ is);
}

-- a list that has a number for each number
pub count_of : (f : ℕ → ℕ) (xs : List ℕ) (n : ℕ) → xs ≡ map f (range_with_len 0 n) → length xs ≡ n
count_of f xs n is = ap length is ∙ length-map-range_with_len f 0 n

pub number_at : (f : ℕ → ℕ) (xs : List ℕ) (n k x : ℕ) → xs ≡ map f (range_with_len 0 n) → k < n → x ≡ get_or xs k x → x ≡ f k
number_at f xs n k x is lt here = here ∙ ap (λ l. get_or l k x) is ∙ get_or-map-range_with_len f 0 n k k x lt (omega arith)
