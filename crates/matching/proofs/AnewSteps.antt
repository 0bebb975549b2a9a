-- The lists of the granted flows and of their ports, made anew.
use Rattle.std.proofs.Common.{◌≡◌, ◌≢◌, ℕ, ◌+◌, ◌≤◌, ◌<◌, inl, inr, List, [], ◌∷◌, ◌++◌, length, get_or, map, Contains, refl, sym, ap, subst, ◌∙◌, arith}
use Rattle.std.proofs.Math.Dec.{eqb}
use Rattle.std.specs.List.Sorted.{IsNonDecreasingBy, IsPermutation, IsStrictlyIncreasing}
use Rattle.std.proofs.lemmas.Bool.{cases_eq}
use Rattle.std.proofs.lemmas.Bool.Decides.{Decides-eqb}
use Rattle.std.proofs.lemmas.List.{get_or-map, get_or_default, length-map, map_push}
use Rattle.std.proofs.lemmas.List.Elements.{Contains-push, Contains-push_cases, Contains-append_left, Contains-get_or}
use Rattle.std.proofs.lemmas.List.Kept.{AllPairs-from_increasing}
use Rattle.std.proofs.lemmas.List.Quantifiers.{all_pairs_push}
use Rattle.std.proofs.lemmas.List.Sorted.{Contains-permutation, IsPermutation-map, IsPermutation-sym}
use Rattle.std.proofs.lemmas.Map.Keys.{IsDistinct-IsPermutation, IsStrictlyIncreasing-from_distinct}
use Rattle.std.proofs.lemmas.Map.Made.{IsDistinct-from_AllPairs}
use Rattle.coflow_units.specs.Flows.{IsDistinct}
use Rattle.coflow_units.proofs.Bools.{flips}
use Rattle.coflow_units.proofs.Sums.{nothing_in}
use Rattle.matching.specs.declared.listing.Listed.{Listed}
use Rattle.matching.specs.declared.ranks.Ranks.{Ranks}
use Rattle.matching.specs.Board.{no_rank, first_of, IsRanks}
use Rattle.matching.specs.Listing.{IsCollected, IsFirstSide, IsShown}
use Rattle.matching.specs.Ranking.{number_of}
use Rattle.matching.proofs.RankSteps.{one_number}

abbrev pub flow_of : Listed → ℕ
flow_of x = x.flow

abbrev pub port_of : Listed → ℕ
port_of x = x.port

abbrev no_pair : Listed
no_pair = record { flow = 0; port = 0 }

pub none_collected : (ranks : Ranks) (at : List ℕ) → IsCollected ranks at (λ p. p < 0) []
none_collected ranks at = record {
  port = λ x has. absurd (nothing_in x has);
  known = λ x has. absurd (nothing_in x has);
  number = λ x has. absurd (nothing_in x has);
  all = λ p lt. absurd (omega (arith, lt));
  once = λ i j d less lt. absurd (omega arith);
}

pub collect_skips : (ranks : Ranks) (at : List ℕ) (n : ℕ) (pairs : List Listed) → ranks.count ≤ no_rank → get_or at n 0 ≡ no_rank → IsCollected ranks at (λ p. p < n) pairs →
    IsCollected ranks at (λ p. p < n + 1) pairs
collect_skips ranks at n pairs few none c = record {
  port = λ x has. omega (arith, c.port x has);
  known = c.known;
  number = c.number;
  all = λ p lt known. elim (cases_eq p n) [
    | inl e ↦ absurd (omega (arith, known, ap (λ q. get_or at q 0) e, none, few))
    | inr ne ↦ c.all p (omega (arith, lt, ne)) known
  ];
  once = c.once;
}

begins : (ranks : Ranks) (at : List ℕ) (p : ℕ) → IsFirstSide ranks at → ranks.count ≤ no_rank → p < length at → get_or at p 0 < ranks.count → first_of ranks (get_or at p 0) ≡ p
begins ranks at p side few low known = elim (side p low) [
  | inl none ↦ absurd (omega (arith, none, known, few))
  | inr (_, first) ↦ first
]

pub collect_takes : (ranks : Ranks) (at : List ℕ) (n : ℕ) (pairs : List Listed) → IsRanks ranks → IsFirstSide ranks at → n < length at → get_or at n 0 < ranks.count →
    IsCollected ranks at (λ p. p < n) pairs → IsCollected ranks at (λ p. p < n + 1) (pairs ++ record { flow = number_of ranks (get_or at n 0); port = n } ∷ [])
collect_takes ranks at n pairs k side low stands c = record {
  port = λ x has. elim (Contains-push_cases pairs next x has) [
    | inl old ↦ omega (arith, c.port x old)
    | inr same ↦ omega (arith, ap port_of same)
  ];
  known = λ x has. elim (Contains-push_cases pairs next x has) [
    | inl old ↦ c.known x old
    | inr same ↦ subst (λ (y : Listed). get_or at y.port 0 < ranks.count) same stands
  ];
  number = λ x has. elim (Contains-push_cases pairs next x has) [
    | inl old ↦ c.number x old
    | inr same ↦ subst (λ (y : Listed). number_of ranks (get_or at y.port 0) ≡ y.flow) same refl
  ];
  all = λ p lt known. elim (cases_eq p n) [
    | inl e ↦ subst (λ q. Contains (pairs ++ next ∷ []) record { flow = number_of ranks (get_or at q 0); port = q }) (sym e) (Contains-push pairs next)
    | inr ne ↦ Contains-append_left pairs (next ∷ []) record { flow = number_of ranks (get_or at p 0); port = p } (c.all p (omega (arith, lt, ne)) known)
  ];
  once = subst (λ (xs : List ℕ). IsDistinct xs) (sym (map_push flow_of pairs next))
      (all_pairs_push (λ (x : ℕ) (y : ℕ). x ≢ y) (map flow_of pairs) (flow_of next) c.once
      (λ j d less same.
      let lt : j < length pairs = omega (arith, less, length-map pairs flow_of) in
      other j lt (sym (get_or-map flow_of pairs j no_pair d lt) ∙ same)));
} where
  next : Listed
  next = record { flow = number_of ranks (get_or at n 0); port = n }

  other : (j : ℕ) → j < length pairs → flow_of (get_or pairs j no_pair) ≢ number_of ranks (get_or at n 0)
  other j less same =
      let x = get_or pairs j no_pair in
      let has = Contains-get_or pairs j no_pair less in
      let before = c.port x has in
      let known = c.known x has in
      let one : get_or at x.port 0 ≡ get_or at n 0 = one_number ranks (get_or at x.port 0) (get_or at n 0) k known stands (c.number x has ∙ same) in
      omega (
        arith,
        before,
        begins ranks at x.port side k.graph.few (omega (arith, before, low)) known,
        ap (first_of ranks) one,
        begins ranks at n side k.graph.few low stands,
      )

pub sorted_shown : (ranks : Ranks) (at : List ℕ) (pairs sorted : List Listed) → IsFirstSide ranks at → IsCollected ranks at (λ p. p < length at) pairs →
    IsPermutation pairs sorted → IsNonDecreasingBy flow_of sorted → IsShown ranks at (map flow_of sorted) (map port_of sorted)
sorted_shown ranks at pairs sorted side c moved up = record {
  size = length-map sorted port_of ∙ sym size;
  side = side;
  rises = λ i j less lj. AllPairs-from_increasing (map flow_of sorted) strict i j 0 less lj;
  low = λ k lt. let in' = inside k lt in omega (arith, port_is k lt, c.port (get_or sorted k no_pair) in');
  known = λ k lt. subst (λ p. get_or at p 0 < ranks.count) (sym (port_is k lt)) (c.known (get_or sorted k no_pair) (inside k lt));
  number = λ k lt. ap (λ p. number_of ranks (get_or at p 0)) (port_is k lt) ∙ c.number (get_or sorted k no_pair) (inside k lt) ∙
      sym (get_or-map flow_of sorted k no_pair 0 (omega (arith, lt, size)));
  all = λ p lp known.
      let x : Listed = record { flow = number_of ranks (get_or at p 0); port = p } in
      let (k, lk, e) = Contains-permutation pairs sorted x moved (c.all p lp known) in
      (k, omega (arith, lk, size), port_is k (omega (arith, lk, size)) ∙ ap port_of (sym (get_or_default sorted k x no_pair lk) ∙ e));
} where
  size : length (map flow_of sorted) ≡ length sorted
  size = length-map sorted flow_of

  inside : (k : ℕ) → k < length (map flow_of sorted) → Contains pairs (get_or sorted k no_pair)
  inside k lt =
      Contains-permutation sorted pairs (get_or sorted k no_pair) (IsPermutation-sym pairs sorted moved) (Contains-get_or sorted k no_pair (omega (arith, lt, size)))

  port_is : (k : ℕ) → k < length (map flow_of sorted) → get_or (map port_of sorted) k 0 ≡ (get_or sorted k no_pair).port
  port_is k lt = get_or-map port_of sorted k no_pair 0 (omega (arith, lt, size))

  ascends : IsNonDecreasingBy (λ (x : ℕ). x) (map flow_of sorted)
  ascends i j d le lt = omega (
    arith,
    get_or-map flow_of sorted i no_pair d (omega (arith, le, lt, size)),
    get_or-map flow_of sorted j no_pair d (omega (arith, lt, size)),
    up i j no_pair le (omega (arith, lt, size)),
  )

  strict : IsStrictlyIncreasing (map flow_of sorted)
  strict =
      let once = IsDistinct-from_AllPairs Decides-eqb (map flow_of pairs) c.once in
      IsStrictlyIncreasing-from_distinct (map flow_of sorted) ascends
      (IsDistinct-IsPermutation eqb flips (map flow_of pairs) (map flow_of sorted) (IsPermutation-map flow_of pairs sorted moved) once)
