-- Lists that repeat nothing, and the order of a certificate, which has each coflow once.
use Rattle.std.proofs.Common.{◌≡◌, ◌≢◌, ℕ, ◌≤◌, ◌<◌, true, List, length}
use Rattle.std.proofs.Common.{reverse, Contains, refl, sym, ap, subst, ◌∙◌, arith}
use Rattle.std.specs.Prelude.{AllPairs}
use Rattle.std.specs.List.{list_any, range_with_len}
use Rattle.std.proofs.Math.Dec.{eqb}
use Rattle.std.proofs.lemmas.Bool.{eqb-true, eq-eqb}
use Rattle.std.proofs.lemmas.Bool.Decides.{Decides-eqb}
use Rattle.std.proofs.lemmas.List.{length-reverse}
use Rattle.std.proofs.lemmas.List.Elements.{All-contains}
use Rattle.std.proofs.lemmas.List.Sorted.{IsPermutation-reverse}
use Rattle.std.proofs.lemmas.Map.Made.{IsDistinct-from_AllPairs}
use Rattle.std.proofs.lemmas.Map.Steps.{le-length_from_below, length-le_from_distinct_below}
use Rattle.coflow_units.specs.Certificate.{front}
use Rattle.coflow_units.proofs.Lists.{any_from, any_where, in_reverse, into_reverse, number_below, number_in}
use Rattle.coflow_units.proofs.Sums.{all_of_members}
use Rattle.class_rates.specs.Classes.{IsPermutation}
use Rattle.flow_table.specs.Table.{TableFacts}
use Rattle.rankers.specs.FactsTold.{IsBssiOrder}
use Rattle.rankers.proofs.Moved.{moved_apart}

by_test : (xs : List ℕ) (q : ℕ) → list_any (eqb q) xs ≡ true → Contains xs q
by_test xs q e =
    let (x, has, at) = any_where (eqb q) xs e in
    subst (Contains xs) (sym (eqb-true q x at)) has

pub few_below : (n : ℕ) (xs : List ℕ) → AllPairs (λ x y. x ≢ y) xs → ((q : ℕ) → Contains xs q → q < n) → length xs ≤ n
few_below n xs apart low = length-le_from_distinct_below xs n (IsDistinct-from_AllPairs Decides-eqb xs apart) (λ q e. low q (by_test xs q e))

many_below : (n : ℕ) (xs : List ℕ) → ((q : ℕ) → q < n → Contains xs q) → n ≤ length xs
many_below n xs all = le-length_from_below xs n (λ q lt. any_from (eqb q) xs q (all q lt) (eq-eqb q q refl))

-- ---- the order of a certificate of all coflows

pub bssi_permutation : (t : TableFacts) (weights order : List ℕ) → IsBssiOrder t weights order → (length order ≡ length t.ids) × IsPermutation order
bssi_permutation t weights order is =
    let n = length t.ids in
    let certificate = is.ordering.certificate in
    let coflows = front is.entries in
    let low = λ (q : ℕ) (has : Contains coflows q). number_below 0 n q (All-contains (Contains (range_with_len 0 n)) coflows q certificate.coflow has) in
    let all = λ (q : ℕ) (lt : q < n). All-contains (Contains coflows) (range_with_len 0 n) q certificate.all (number_in 0 n q (omega arith) (omega (arith, lt))) in
    let fewer = few_below n coflows certificate.once (λ q has. omega (arith, low q has)) in
    let more = many_below n coflows all in
    let count : length (reverse coflows) ≡ n = omega (arith, length-reverse coflows, fewer, more) in
    let whole : IsPermutation (reverse coflows) = record {
      distinct = moved_apart coflows (reverse coflows) (IsPermutation-reverse coflows) certificate.once;
      known = all_of_members (λ c. c < length (reverse coflows)) (reverse coflows) (λ c has. omega (arith, count, low c (in_reverse coflows c has)));
      all = λ c lt. into_reverse coflows c (all c (omega (arith, count, lt)));
    } in
    (ap (λ xs. length xs) is.order_is ∙ count, subst IsPermutation (sym is.order_is) whole)
