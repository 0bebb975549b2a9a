-- The ranking of the flows of a line, one flow after another.
use Rattle.std.proofs.Common.{◌≡◌, ◌≢◌, ℕ, ◌+◌, ◌≤◌, ◌<◌, ◌⊎◌, inl, inr, List, Contains, length, get_or, set, map, sym, ap, subst, ◌∙◌, arith}
use Rattle.std.specs.Prelude.{All}
use Rattle.std.specs.List.{range_with_len}
use Rattle.std.proofs.Math.Dec.{eqb}
use Rattle.std.proofs.lemmas.Bool.{cases_eq, cases_lt, eqb-true}
use Rattle.std.proofs.lemmas.Bool.Decides.{Decides-eqb}
use Rattle.std.proofs.lemmas.Grind.{get_or-set_at}
use Rattle.std.proofs.lemmas.List.{get_or-set_other, get_or-map}
use Rattle.std.proofs.lemmas.List.Elements.{All-contains}
use Rattle.std.proofs.lemmas.List.FromFn.{get_or-range_with_len, length-range_with_len, length-map-range_with_len}
use Rattle.std.proofs.lemmas.Map.Made.{IsDistinct-from_AllPairs}
use Rattle.std.proofs.lemmas.Map.Steps.{length-le_from_distinct_below}
use Rattle.coflow_units.specs.declared.fabric.Flow.{Flow}
use Rattle.coflow_units.specs.Flows.{coflow_of, ingress_of, egress_of, IsDistinct}
use Rattle.coflow_units.specs.Grants.{place_in, ComesBefore, IsLookedAt}
use Rattle.coflow_units.specs.Starts.{IsStarts}
use Rattle.coflow_units.proofs.LinePlaces.{at_place_zero, in_front, not_itself, old_or_next, one_more, place_at}
use Rattle.coflow_units.proofs.Lists.{any_where}
use Rattle.matching.specs.declared.ranks.Ranked.{Ranked}
use Rattle.matching.specs.declared.ranks.Ranks.{Ranks}
use Rattle.matching.specs.Board.{ranked_at, IsRanks}
use Rattle.matching.specs.Ranking.{number_of, IsCoflowAt, IsRanking}
use Rattle.matching.specs.Waits.{IsPushed}

-- ---- different numbers below a bound are at most so many

pub distinct_below : (number : ℕ → ℕ) (count bound : ℕ) → ((r : ℕ) → r < count → number r < bound) → ((r s : ℕ) → r < s → s < count → number r ≢ number s) → count ≤ bound
distinct_below number count bound low apart =
    let xs = map number (range_with_len 0 count) in
    let size = length-map-range_with_len number 0 count in
    let at : (k d : ℕ) → k < count → get_or xs k d ≡ number k = λ k d lt. get_or-map number (range_with_len 0 count) k 0 d (omega (arith, lt, length-range_with_len 0 count)) ∙
    ap number (get_or-range_with_len 0 count k 0 lt ∙ omega arith) in
    let once : IsDistinct xs = λ i j d less lt same.
    apart i j less (omega (arith, lt, size)) (sym (at i d (omega (arith, less, lt, size))) ∙ same ∙ at j d (omega (arith, lt, size))) in
    let all : All (λ x. x < bound) xs = λ k d lt. let here : k < count = omega (arith, lt, size) in omega (arith, at k d here, low k here) in
    omega (
      arith,
      size,
      length-le_from_distinct_below xs bound (IsDistinct-from_AllPairs Decides-eqb xs once) (λ q e. let (x, has, same) = any_where (eqb q) xs e in
          subst (λ n. n < bound) (sym (eqb-true q x same)) (All-contains (λ n. n < bound) xs x all has)),
    )

-- the numbers of two ranks are different
pub one_number : (ranks : Ranks) (q r : ℕ) → IsRanks ranks → q < ranks.count → r < ranks.count → number_of ranks q ≡ number_of ranks r → q ≡ r
one_number ranks q r k lq lr e = elim (cases_eq q r) [
  | inl same ↦ same
  | inr ne ↦ elim (cases_lt q r) [
    | inl low ↦ absurd (k.apart q r low lr e)
    | inr high ↦ absurd (k.apart r q (omega (arith, high, ne)) lq (sym e))
  ]
]

-- ---- one flow more

pub has_room : (flows : List Flow) (line : List ℕ) (left : ℕ → ℕ) (k n : ℕ) (ranks : Ranks) → n < length flows → place_in line (coflow_of flows n) ≡ k →
    IsRanking flows line left k n ranks → ranks.count < length flows
has_room flows line left k n ranks lt here so_far =
    let numbers = λ (r : ℕ). get_or (set (map (number_of ranks) (range_with_len 0 (ranks.count + 1))) ranks.count n) r 0 in
    let size = length-map-range_with_len (number_of ranks) 0 (ranks.count + 1) in
    let last : numbers ranks.count ≡ n =
    get_or-set_at (map (number_of ranks) (range_with_len 0 (ranks.count + 1))) ranks.count ranks.count n 0 (omega arith) (omega (arith, size)) in
    let old : (r : ℕ) → r < ranks.count → numbers r ≡ number_of ranks r = λ r low.
    get_or-set_other (map (number_of ranks) (range_with_len 0 (ranks.count + 1))) ranks.count r n 0 (omega (arith, low))
    ∙ get_or-map (number_of ranks) (range_with_len 0 (ranks.count + 1)) r 0 0 (omega (arith, low, length-range_with_len 0 (ranks.count + 1)))
    ∙ ap (number_of ranks) (get_or-range_with_len 0 (ranks.count + 1) r 0 (omega (arith, low)) ∙ omega arith) in
    let most : ranks.count + 1 ≤ length flows = distinct_below numbers (ranks.count + 1) (length flows)
    (λ r low. elim (cases_lt r ranks.count) [
      | inl less ↦ omega (arith, old r less, so_far.flow r less)
      | inr more ↦ let e : r ≡ ranks.count = omega (arith, low, more) in omega (arith, ap numbers e, last, lt)
    ])
    (λ r s less low same. elim (cases_lt s ranks.count) [
      | inl small ↦ not_itself flows line (number_of ranks s)
          (subst (λ x. ComesBefore flows line x (number_of ranks s)) (sym (old r (omega (arith, less, small))) ∙ same ∙ old s small) (so_far.rises r s less small))
      | inr more ↦
          let e : s ≡ ranks.count = omega (arith, low, more) in
          let small : r < ranks.count = omega (arith, less, e) in
          not_itself flows line n (subst (λ x. ComesBefore flows line x n) (sym (old r small) ∙ same ∙ ap numbers e ∙ last)
          (in_front flows line k n (number_of ranks r) here (so_far.looked_at r small)))
    ]) in
    omega (arith, most)

pub skips : (flows : List Flow) (line : List ℕ) (left : ℕ → ℕ) (k n : ℕ) (ranks : Ranks) → left n ≡ 0 → IsRanking flows line left k n ranks →
    IsRanking flows line left k (n + 1) ranks
skips flows line left k n ranks nothing so_far = record {
  flow = so_far.flow;
  looked_at = λ r lt. one_more flows line k n (number_of ranks r) (so_far.looked_at r lt);
  owed = so_far.owed;
  rises = so_far.rises;
  all = λ f lt seen some. elim (old_or_next flows line k n f seen) [
    | inl old ↦ so_far.all f lt old some
    | inr same ↦ absurd (omega (arith, nothing, ap left same, some))
  ];
  first_is = so_far.first_is;
  second_is = so_far.second_is;
  sources = so_far.sources;
}

pub record IsRanked (flows : List Flow) (n : ℕ) (old new : Ranks) (x : Ranked) : Type 0 where
  pub number_is : x.number ≡ n
  pub first_is : x.first ≡ ingress_of flows n
  pub second_is : x.second ≡ old.ports + egress_of flows n
  pub ports : new.ports ≡ old.ports
  pub count : new.count ≡ old.count + 1
  pub items : new.flows.items ≡ set old.flows.items old.count x
  pub room : old.count < length old.flows.items
  pub source : IsPushed old.sources.ports new.sources.ports x.first

pub ranks_next : (flows : List Flow) (line : List ℕ) (left : ℕ → ℕ) (k n : ℕ) (old new : Ranks) (x : Ranked) → IsRanked flows n old new x → n < length flows →
    place_in line (coflow_of flows n) ≡ k → 0 < left n → IsRanking flows line left k n old →
    IsRanking flows line left k (n + 1) new
ranks_next flows line left k n old new x p lt here some so_far = record {
  flow = λ r lr. elim (split r lr) [
    | inl (low, e) ↦ subst (λ (y : Ranked). y.number < length flows) (sym e) (so_far.flow r low)
    | inr (_, e) ↦ subst (λ (y : Ranked). y.number < length flows) (sym e) (omega (arith, p.number_is, lt))
  ];
  looked_at = λ r lr. elim (split r lr) [
    | inl (low, e) ↦ subst (λ (y : Ranked). IsLookedAt flows line k (n + 1) y.number) (sym e) (one_more flows line k n (number_of old r) (so_far.looked_at r low))
    | inr (_, e) ↦ subst (λ (y : Ranked). IsLookedAt flows line k (n + 1) y.number) (sym e)
        (subst (λ m. IsLookedAt flows line k (n + 1) m) (sym p.number_is) (inr (here, omega arith)))
  ];
  owed = λ r lr. elim (split r lr) [
    | inl (low, e) ↦ subst (λ (y : Ranked). 0 < left y.number) (sym e) (so_far.owed r low)
    | inr (_, e) ↦ subst (λ (y : Ranked). 0 < left y.number) (sym e) (subst (λ m. 0 < left m) (sym p.number_is) some)
  ];
  rises = λ r s less ls. elim (split r (omega (arith, less, ls))) [
    | inr (at, _) ↦ absurd (omega (arith, at, less, ls, p.count))
    | inl (low, e) ↦ subst (λ (y : Ranked). ComesBefore flows line y.number (number_of new s)) (sym e) (elim (split s ls) [
      | inl (low', e') ↦ subst (λ (y : Ranked). ComesBefore flows line (number_of old r) y.number) (sym e') (so_far.rises r s less low')
      | inr (_, e') ↦ subst (λ (y : Ranked). ComesBefore flows line (number_of old r) y.number) (sym e')
          (subst (λ m. ComesBefore flows line (number_of old r) m) (sym p.number_is) (in_front flows line k n (number_of old r) here (so_far.looked_at r low)))
    ])
  ];
  all = λ f lf seen owes. elim (old_or_next flows line k n f seen) [
    | inl before ↦ let (r, low, e) = so_far.all f lf before owes in (r, omega (arith, low, p.count), ap (λ (y : Ranked). y.number) (kept r low) ∙ e)
    | inr same ↦ (old.count, omega (arith, p.count), ap (λ (y : Ranked). y.number) last ∙ p.number_is ∙ sym same)
  ];
  first_is = λ r lr. elim (split r lr) [
    | inl (low, e) ↦ subst (λ (y : Ranked). y.first ≡ ingress_of flows y.number) (sym e) (so_far.first_is r low)
    | inr (_, e) ↦ subst (λ (y : Ranked). y.first ≡ ingress_of flows y.number) (sym e) (p.first_is ∙ ap (ingress_of flows) (sym p.number_is))
  ];
  second_is = λ r lr. elim (split r lr) [
    | inl (low, e) ↦ subst (λ (y : Ranked). y.second ≡ new.ports + egress_of flows y.number) (sym e) (omega (arith, so_far.second_is r low, p.ports))
    | inr (_, e) ↦ subst (λ (y : Ranked). y.second ≡ new.ports + egress_of flows y.number) (sym e) (omega (arith, p.second_is, p.ports, ap (egress_of flows) p.number_is))
  ];
  sources = λ r lr. elim (split r lr) [
    | inl (low, e) ↦ subst (λ (y : Ranked). Contains new.sources.ports y.first) (sym e) (p.source.keeps (ranked_at old.flows.items r).first (so_far.sources r low))
    | inr (_, e) ↦ subst (λ (y : Ranked). Contains new.sources.ports y.first) (sym e) p.source.has
  ];
} where
  last : ranked_at new.flows.items old.count ≡ x
  last = ap (λ (xs : List Ranked). ranked_at xs old.count) p.items ∙ get_or-set_at old.flows.items old.count old.count x record { first = 0; second = 0; number = 0 } (omega arith)
      p.room

  kept : (r : ℕ) → r < old.count → ranked_at new.flows.items r ≡ ranked_at old.flows.items r
  kept r low = ap (λ (xs : List Ranked). ranked_at xs r) p.items ∙ get_or-set_other old.flows.items old.count r x record { first = 0; second = 0; number = 0 } (omega (arith, low))

  split : (r : ℕ) → r < new.count → ((r < old.count) × (ranked_at new.flows.items r ≡ ranked_at old.flows.items r)) ⊎ ((r ≡ old.count) × (ranked_at new.flows.items r ≡ x))
  split r lr = elim (cases_lt r old.count) [
    | inl low ↦ inl (low, kept r low)
    | inr more ↦ let e : r ≡ old.count = omega (arith, lr, p.count, more) in inr (e, ap (λ i. ranked_at new.flows.items i) e ∙ last)
  ]

-- ---- one coflow after another

pub front_moves : (flows : List Flow) (line : List ℕ) (left : ℕ → ℕ) (k n k' n' : ℕ) (ranks : Ranks) →
    ((f : ℕ) → f < length flows → IsLookedAt flows line k n f → IsLookedAt flows line k' n' f) →
    ((f : ℕ) → f < length flows → IsLookedAt flows line k' n' f → IsLookedAt flows line k n f) → IsRanking flows line left k n ranks → IsRanking flows line left k' n' ranks
front_moves flows line left k n k' n' ranks there back so_far = record {
  flow = so_far.flow;
  looked_at = λ r lt. there (number_of ranks r) (so_far.flow r lt) (so_far.looked_at r lt);
  owed = so_far.owed;
  rises = so_far.rises;
  all = λ f lt seen some. so_far.all f lt (back f lt seen) some;
  first_is = so_far.first_is;
  second_is = so_far.second_is;
  sources = so_far.sources;
}

pub next_coflow : (flows : List Flow) (line starts : List ℕ) (k : ℕ) → IsStarts flows starts → IsDistinct line → k < length line → get_or line k 0 + 1 < length starts →
    IsCoflowAt flows line k (get_or starts (get_or line k 0) 0) (get_or starts (get_or line k 0 + 1) 0)
next_coflow flows line starts k at once lt in' = record {
  placed = λ f low high. ap (place_in line) (at.own (get_or line k 0) f in' low high) ∙ place_at line k once lt;
  all = λ f within here.
      let own : coflow_of flows f ≡ get_or line k 0 = sym (at_place_zero line (coflow_of flows f) (omega (arith, here, lt))) ∙ ap (λ (i : ℕ). get_or line i 0) here in
      let (_, low, high) = at.all f within in
      (omega (arith, low, ap (λ (d : ℕ). get_or starts d 0) own), omega (arith, high, ap (λ (d : ℕ). get_or starts (d + 1) 0) own));
}

pub coflow_begins : (flows : List Flow) (line : List ℕ) (left : ℕ → ℕ) (k first end : ℕ) (ranks : Ranks) → IsCoflowAt flows line k first end → IsRanking flows line left k 0 ranks →
    IsRanking flows line left k first ranks
coflow_begins flows line left k first end ranks next so_far = front_moves flows line left k 0 k first ranks
    (λ f lt seen. elim seen [
      | inl low ↦ inl low
      | inr (_, low) ↦ absurd (omega (arith, low))
    ])
    (λ f lt seen. elim seen [
      | inl low ↦ inl low
      | inr (here, low) ↦ absurd (omega (arith, low, (next.all f lt here).0))
    ]) so_far

pub coflow_ends : (flows : List Flow) (line : List ℕ) (left : ℕ → ℕ) (k first end n : ℕ) (ranks : Ranks) → IsCoflowAt flows line k first end → end ≤ n →
    IsRanking flows line left k n ranks → IsRanking flows line left (k + 1) 0 ranks
coflow_ends flows line left k first end n ranks next le so_far = front_moves flows line left k n (k + 1) 0 ranks
    (λ f lt seen. elim seen [
      | inl low ↦ inl (omega (arith, low))
      | inr (here, _) ↦ inl (omega (arith, here))
    ])
    (λ f lt seen. elim seen [
      | inl low ↦ elim (cases_lt (place_in line (coflow_of flows f)) k) [
        | inl less ↦ inl less
        | inr more ↦ let here : place_in line (coflow_of flows f) ≡ k = omega (arith, low, more) in inr (here, omega (arith, (next.all f lt here).1, le))
      ]
      | inr (_, low) ↦ absurd (omega (arith, low))
    ]) so_far
