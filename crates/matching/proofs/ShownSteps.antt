-- The lists of the granted flows and of their ports, where one goes out or in.
use Rattle.std.proofs.Common.{◌≡◌, ◌≢◌, ℕ, ◌+◌, ◌-◌, ◌≤◌, ◌<◌, ◌⊎◌, inl, inr, List, ◌∷◌, length, get_or, set, zero, suc, refl, sym, ap, subst, ◌∙◌, arith, length-set}
use Rattle.std.specs.List.{insert, remove}
use Rattle.std.specs.List.Sorted.{IsBinarySearchResult}
use Rattle.std.specs.Ordering.{nat_cmp}
use Rattle.std.specs.Prelude.{Ok, Err}
use Rattle.std.proofs.lemmas.Bool.{cases_eq, cases_lt}
use Rattle.std.proofs.lemmas.List.Sorted.{searched}
use Rattle.std.proofs.lemmas.Grind.{get_or-set_at}
use Rattle.std.proofs.lemmas.List.{get_or-set_other}
use Rattle.std.proofs.lemmas.List.Edits.{length-insert, length-remove, get_or-insert_below, get_or-insert_at, get_or-insert_above, get_or-remove_below, get_or-remove_above}
use Rattle.matching.specs.declared.listing.Listing.{Listing}
use Rattle.matching.specs.declared.ranks.Ranks.{Ranks}
use Rattle.matching.specs.Board.{no_rank, first_of, IsRanks}
use Rattle.matching.specs.Listing.{IsFirstSide, IsListed, IsNothingListed, IsShown}
use Rattle.matching.specs.Ranking.{number_of}
use Rattle.matching.proofs.RankSteps.{distinct_below, one_number}

pub nothing_shown : (ranks : Ranks) (l : Listing) → ranks.count ≤ no_rank → IsNothingListed l → IsListed ranks l
nothing_shown ranks l few none = record {
  size = ap (λ (xs : List ℕ). length xs) none.ports ∙ sym flows;
  side = λ p lt. inl (none.shown p lt);
  rises = λ i j less lt. absurd (omega (arith, lt, flows));
  low = λ k lt. absurd (omega (arith, lt, flows));
  known = λ k lt. absurd (omega (arith, lt, flows));
  number = λ k lt. absurd (omega (arith, lt, flows));
  all = λ p lt known. absurd (omega (arith, none.shown p lt, known, few));
} where
  flows : length l.flows.items ≡ 0
  flows = ap (λ (xs : List ℕ). length xs) none.flows

side_set : (ranks : Ranks) (shown : List ℕ) (port v : ℕ) → (v ≡ no_rank) ⊎ ((v < ranks.count) × (first_of ranks v ≡ port)) → IsFirstSide ranks shown →
    IsFirstSide ranks (set shown port v)
side_set ranks shown port v fits side = λ p lt.
    let low : p < length shown = omega (arith, lt, length-set shown port v) in
    elim (cases_eq p port) [
      | inl e ↦
          let is = get_or-set_at shown port p v 0 e (omega (arith, e, low)) in
          elim fits [
            | inl none ↦ inl (is ∙ none)
            | inr (known, first) ↦ inr (omega (arith, is, known), ap (first_of ranks) is ∙ first ∙ sym e)
          ]
      | inr ne ↦
          let same = get_or-set_other shown port p v 0 ne in
          elim (side p low) [
            | inl none ↦ inl (same ∙ none)
            | inr (known, first) ↦ inr (omega (arith, same, known), ap (first_of ranks) same ∙ first)
          ]
    ]

module _ {ranks : Ranks} {shown flows ports : List ℕ} (s : IsShown ranks shown flows ports) where
  pub ports_apart : (i j : ℕ) → i < length flows → j < length flows → i ≢ j → get_or ports i 0 ≢ get_or ports j 0
  ports_apart i j li lj ne e = elim (cases_lt i j) [
    | inl low ↦ omega (arith, s.rises i j low lj, same)
    | inr high ↦ omega (arith, s.rises j i (omega (arith, high, ne)) li, same)
  ] where
    same : get_or flows i 0 ≡ get_or flows j 0
    same = sym (s.number i li) ∙ ap (λ p. number_of ranks (get_or shown p 0)) e ∙ s.number j lj

  -- at most as many flows are listed as there are ports
  pub at_most_ports : length flows ≤ length shown
  at_most_ports = distinct_below (λ k. get_or ports k 0) (length flows) (length shown) s.low
      (λ i j less lt e. ports_apart i j (omega (arith, less, lt)) lt (λ same. omega (arith, less, same)) e)

  pub ascends : (i j : ℕ) → i ≤ j → j < length flows → get_or flows i 0 ≤ get_or flows j 0
  ascends i j le lj = elim (cases_eq i j) [
    | inl e ↦ omega (arith, ap (λ k. get_or flows k 0) e)
    | inr ne ↦ omega (arith, s.rises i j (omega (arith, le, ne)) lj)
  ]

  pub goes_out : (port k : ℕ) → k < length flows → get_or ports k 0 ≡ port → ranks.count ≤ no_rank → IsShown ranks (set shown port no_rank) (remove flows k) (remove ports k)
  goes_out port k lt at_k few = record {
    size = omega (arith, size, length-remove ports k lt', s.size);
    side = side_set ranks shown port no_rank (inl refl) s.side;
    rises = λ i j less lj. elim (cases_lt j k) [
      | inl low ↦ omega (arith, get_or-remove_below flows k 0 j low lt, get_or-remove_below flows k 0 i (omega (arith, less, low)) lt, s.rises i j less (omega (arith, low, lt)))
      | inr high ↦ elim (cases_lt i k) [
        | inl low ↦ omega (
          arith,
          get_or-remove_above flows k 0 j high lt,
          get_or-remove_below flows k 0 i low lt,
          s.rises i (j + 1) (omega (arith, less)) (omega (arith, lj, size)),
        )
        | inr high' ↦ omega (
          arith,
          get_or-remove_above flows k 0 j high lt,
          get_or-remove_above flows k 0 i high' lt,
          s.rises (i + 1) (j + 1) (omega (arith, less)) (omega (arith, lj, size)),
        )
      ]
    ];
    low = λ j lj. let (i, li, _, _, port_is) = place j lj in omega (arith, port_is, s.low i li, length-set shown port no_rank);
    known = λ j lj. let (i, li, ne, _, port_is) = place j lj in omega (arith, stays j i li ne port_is, s.known i li);
    number = λ j lj. let (i, li, ne, flow_is, port_is) = place j lj in ap (number_of ranks) (stays j i li ne port_is) ∙ s.number i li ∙ sym flow_is;
    all = λ p lp known.
        let low : p < length shown = omega (arith, lp, length-set shown port no_rank) in
        let ne : p ≢ port = λ e. omega (arith, get_or-set_at shown port p no_rank 0 e (omega (arith, e, low)), known, few) in
        let (i, li, at_i) = s.all p low (omega (arith, get_or-set_other shown port p no_rank 0 ne, known)) in
        elim (cases_lt i k) [
          | inl below ↦ (i, omega (arith, below, lt, size), get_or-remove_below ports k 0 i below lt' ∙ at_i)
          | inr above ↦
              let other : i ≢ k = λ e. ne (sym at_i ∙ ap (λ j. get_or ports j 0) e ∙ at_k) in
              let next : i - 1 + 1 ≡ i = omega (arith, above, other) in
              (i - 1, omega (arith, li, size, above, other), get_or-remove_above ports k 0 (i - 1) (omega (arith, above, other)) lt' ∙ ap (λ j. get_or ports j 0) next ∙ at_i)
        ];
  } where
    lt' : k < length ports
    lt' = omega (arith, lt, s.size)

    size : length (remove flows k) + 1 ≡ length flows
    size = length-remove flows k lt

    place : (j : ℕ) → j < length (remove flows k) →
        (i : ℕ) × (i < length flows) × (i ≢ k) × (get_or (remove flows k) j 0 ≡ get_or flows i 0) × (get_or (remove ports k) j 0 ≡ get_or ports i 0)
    place j lj = elim (cases_lt j k) [
      | inl low ↦ (j, omega (arith, low, lt), (λ e. omega (arith, e, low)), get_or-remove_below flows k 0 j low lt, get_or-remove_below ports k 0 j low lt')
      | inr high ↦ (j + 1, omega (arith, lj, size), (λ e. omega (arith, e, high)), get_or-remove_above flows k 0 j high lt, get_or-remove_above ports k 0 j high lt')
    ]

    stays : (j i : ℕ) → i < length flows → i ≢ k → get_or (remove ports k) j 0 ≡ get_or ports i 0 →
        get_or (set shown port no_rank) (get_or (remove ports k) j 0) 0 ≡ get_or shown (get_or ports i 0) 0
    stays j i li ne is =
        ap (λ p. get_or (set shown port no_rank) p 0) is ∙
        get_or-set_other shown port (get_or ports i 0) no_rank 0 (λ e. ports_apart i k li lt ne (e ∙ sym at_k))

  -- ---- the number of what is listed at a port is searched for

  pub finds : (port i x : ℕ) (xs : List ℕ) → xs ≡ flows → port < length shown → get_or shown port 0 < ranks.count → x ≡ number_of ranks (get_or shown port 0) →
      IsBinarySearchResult (λ y. nat_cmp y x) xs (Ok i) → (i < length flows) × (get_or ports i 0 ≡ port)
  finds port i x xs e low known is found =
      let (lt, at) = searched flows x (Ok i) (subst (λ ys. IsBinarySearchResult (λ y. nat_cmp y x) ys (Ok i)) e found) ascends in
      let (k, lk, at_k) = s.all port low known in
      let same : get_or flows k 0 ≡ get_or flows i 0 = sym (s.number k lk) ∙ ap (λ p. number_of ranks (get_or shown p 0)) at_k ∙ sym is ∙ sym at in
      let one : k ≡ i = elim (cases_eq k i) [
        | inl e' ↦ e'
        | inr ne ↦ elim (cases_lt k i) [
          | inl less ↦ absurd (omega (arith, s.rises k i less lt, same))
          | inr more ↦ absurd (omega (arith, s.rises i k (omega (arith, more, ne)) lk, same))
        ]
      ] in
      (lt, ap (λ j. get_or ports j 0) (sym one) ∙ at_k)

  pub misses_none : (port i x : ℕ) (xs : List ℕ) → xs ≡ flows → port < length shown → get_or shown port 0 < ranks.count → x ≡ number_of ranks (get_or shown port 0) →
      IsBinarySearchResult (λ y. nat_cmp y x) xs (Err i) → ⊥
  misses_none port i x xs e low known is missed =
      let (_, below, above) = searched flows x (Err i) (subst (λ ys. IsBinarySearchResult (λ y. nat_cmp y x) ys (Err i)) e missed) ascends in
      let (k, lk, at_k) = s.all port low known in
      let same : get_or flows k 0 ≡ x = sym (s.number k lk) ∙ ap (λ p. number_of ranks (get_or shown p 0)) at_k ∙ sym is in
      elim (cases_lt k i) [
        | inl less ↦ omega (arith, below k less, same)
        | inr more ↦ omega (arith, above k more lk, same)
      ]

  -- ---- a rank goes in

  -- no listed flow begins at a port at which nothing is listed
  fresh : (port : ℕ) → get_or shown port 0 ≡ no_rank → ranks.count ≤ no_rank → (k : ℕ) → k < length flows → get_or ports k 0 ≢ port
  fresh port none few k lt e = omega (arith, s.known k lt, ap (λ p. get_or shown p 0) e, none, few)

  -- then there is room for one more
  pub has_space : (port : ℕ) → port < length shown → get_or shown port 0 ≡ no_rank → ranks.count ≤ no_rank → length flows < length shown
  has_space port low none few = omega (arith, distinct_below (λ k. get_or (port ∷ ports) k 0) (length flows + 1) (length shown) within apart) where
    within : (k : ℕ) → k < length flows + 1 → get_or (port ∷ ports) k 0 < length shown
    within zero lt = low
    within (suc k) lt = s.low k (omega (arith, lt))

    apart : (i j : ℕ) → i < j → j < length flows + 1 → get_or (port ∷ ports) i 0 ≢ get_or (port ∷ ports) j 0
    apart i zero less lt e = omega (arith, less)
    apart zero (suc j) less lt e = fresh port none few j (omega (arith, lt)) (sym e)
    apart (suc i) (suc j) less lt e = ports_apart i j (omega (arith, less, lt)) (omega (arith, lt)) (λ same. omega (arith, less, same)) e

  -- a rank that begins at a port at which nothing is listed is not listed
  not_listed : (port rank : ℕ) → IsRanks ranks → get_or shown port 0 ≡ no_rank → rank < ranks.count → first_of ranks rank ≡ port → (k : ℕ) → k < length flows →
      get_or flows k 0 ≢ number_of ranks rank
  not_listed port rank known none lt first k lk e =
      let here = get_or shown (get_or ports k 0) 0 in
      let same : here ≡ rank = one_number ranks here rank known (s.known k lk) lt (s.number k lk ∙ e) in
      elim (s.side (get_or ports k 0) (s.low k lk)) [
        | inl nothing ↦ omega (arith, nothing, s.known k lk, known.graph.few)
        | inr (_, begins) ↦ fresh port none known.graph.few k lk (sym begins ∙ ap (first_of ranks) same ∙ first)
      ]

  -- so a search for its number finds nothing
  pub finds_none : (port rank i x : ℕ) (xs : List ℕ) → xs ≡ flows → IsRanks ranks → get_or shown port 0 ≡ no_rank → rank < ranks.count → first_of ranks rank ≡ port →
      x ≡ number_of ranks rank → IsBinarySearchResult (λ y. nat_cmp y x) xs (Ok i) → ⊥
  finds_none port rank i x xs e known none lt first is found =
      let (li, at) = searched flows x (Ok i) (subst (λ ys. IsBinarySearchResult (λ y. nat_cmp y x) ys (Ok i)) e found) ascends in
      not_listed port rank known none lt first i li (at ∙ is)

  pub record IsPlaceFor (rank i : ℕ) : Type 0 where
    pub within : i ≤ length flows
    pub below : (k : ℕ) → k < i → get_or flows k 0 < number_of ranks rank
    pub above : (k : ℕ) → i ≤ k → k < length flows → number_of ranks rank < get_or flows k 0

  pub place_found : (rank i x : ℕ) (xs : List ℕ) → xs ≡ flows → x ≡ number_of ranks rank → IsBinarySearchResult (λ y. nat_cmp y x) xs (Err i) → IsPlaceFor rank i
  place_found rank i x xs e is missed =
      let (le, below, above) = searched flows x (Err i) (subst (λ ys. IsBinarySearchResult (λ y. nat_cmp y x) ys (Err i)) e missed) ascends in
      record {
        within = le;
        below = λ k less. omega (arith, below k less, is);
        above = λ k more lk. omega (arith, above k more lk, is);
      }

  pub goes_in : (port rank i : ℕ) → IsPlaceFor rank i → port < length shown → get_or shown port 0 ≡ no_rank → ranks.count ≤ no_rank → rank < ranks.count →
      first_of ranks rank ≡ port → IsShown ranks (set shown port rank) (insert flows i (number_of ranks rank)) (insert ports i port)
  goes_in port rank i at inside none few known first = record {
    size = omega (arith, size, length-insert ports i port le, s.size);
    side = side_set ranks shown port rank (inr (known, first)) s.side;
    rises = λ a b less lb. elim (cases a) [
      | inl low ↦ elim (cases b) [
        | inl low' ↦ omega (arith, below a low, below b low', s.rises a b less (omega (arith, low', at.within)))
        | inr (inl e) ↦ omega (arith, below a low, here b e, at.below a low)
        | inr (inr (d, e, high)) ↦ omega (arith, below a low, above b d e high, s.rises a d (omega (arith, low, high)) (omega (arith, lb, size, e)))
      ]
      | inr (inl same) ↦ elim (cases b) [
        | inl low' ↦ absurd (omega (arith, same, low', less))
        | inr (inl e) ↦ absurd (omega (arith, same, e, less))
        | inr (inr (d, e, high)) ↦ omega (arith, here a same, above b d e high, at.above d high (omega (arith, lb, size, e)))
      ]
      | inr (inr (u, is, up)) ↦ elim (cases b) [
        | inl low' ↦ absurd (omega (arith, is, up, low', less))
        | inr (inl e) ↦ absurd (omega (arith, is, up, e, less))
        | inr (inr (d, e, high)) ↦ omega (arith, above a u is up, above b d e high, s.rises u d (omega (arith, is, e, less)) (omega (arith, lb, size, e)))
      ]
    ];
    low = λ j lj. elim (place j lj) [
      | inl (_, port_is) ↦ omega (arith, port_is, inside, length-set shown port rank)
      | inr (d, ld, _, port_is) ↦ omega (arith, port_is, s.low d ld, length-set shown port rank)
    ];
    known = λ j lj. elim (place j lj) [
      | inl (_, port_is) ↦ omega (arith, enters j port_is, known)
      | inr (d, ld, _, port_is) ↦ omega (arith, stays j d ld port_is, s.known d ld)
    ];
    number = λ j lj. elim (place j lj) [
      | inl (flow_is, port_is) ↦ ap (number_of ranks) (enters j port_is) ∙ sym flow_is
      | inr (d, ld, flow_is, port_is) ↦ ap (number_of ranks) (stays j d ld port_is) ∙ s.number d ld ∙ sym flow_is
    ];
    all = λ p lp some. elim (cases_eq p port) [
      | inl e ↦ (i, omega (arith, size, at.within), get_or-insert_at ports i port 0 le ∙ sym e)
      | inr ne ↦
          let (j, lj, at_j) = s.all p (omega (arith, lp, length-set shown port rank)) (omega (arith, get_or-set_other shown port p rank 0 ne, some)) in
          elim (cases_lt j i) [
            | inl low ↦ (j, omega (arith, lj, size), get_or-insert_below ports i port 0 j low le ∙ at_j)
            | inr high ↦ (j + 1, omega (arith, lj, size), get_or-insert_above ports i port 0 j high le ∙ at_j)
          ]
    ];
  } where
    n : ℕ
    n = number_of ranks rank

    le : i ≤ length ports
    le = omega (arith, at.within, s.size)

    size : length (insert flows i n) ≡ length flows + 1
    size = length-insert flows i n at.within

    cases : (j : ℕ) → (j < i) ⊎ ((j ≡ i) ⊎ ((d : ℕ) × (j ≡ d + 1) × (i ≤ d)))
    cases j = elim (cases_lt j i) [
      | inl low ↦ inl low
      | inr high ↦ elim (cases_eq j i) [
        | inl e ↦ inr (inl e)
        | inr ne ↦ inr (inr (j - 1, omega (arith, high, ne), omega (arith, high, ne)))
      ]
    ]

    below : (j : ℕ) → j < i → get_or (insert flows i n) j 0 ≡ get_or flows j 0
    below j low = get_or-insert_below flows i n 0 j low at.within

    here : (j : ℕ) → j ≡ i → get_or (insert flows i n) j 0 ≡ n
    here j e = ap (λ q. get_or (insert flows i n) q 0) e ∙ get_or-insert_at flows i n 0 at.within

    above : (j d : ℕ) → j ≡ d + 1 → i ≤ d → get_or (insert flows i n) j 0 ≡ get_or flows d 0
    above j d e high = ap (λ q. get_or (insert flows i n) q 0) e ∙ get_or-insert_above flows i n 0 d high at.within

    place : (j : ℕ) → j < length (insert flows i n) →
        ((get_or (insert flows i n) j 0 ≡ n) × (get_or (insert ports i port) j 0 ≡ port))
        ⊎ ((d : ℕ) × (d < length flows) × (get_or (insert flows i n) j 0 ≡ get_or flows d 0) × (get_or (insert ports i port) j 0 ≡ get_or ports d 0))
    place j lj = elim (cases j) [
      | inl low ↦ inr (j, omega (arith, low, at.within), below j low, get_or-insert_below ports i port 0 j low le)
      | inr (inl e) ↦ inl (here j e, ap (λ q. get_or (insert ports i port) q 0) e ∙ get_or-insert_at ports i port 0 le)
      | inr (inr (d, e, high)) ↦ inr (d, omega (arith, lj, size, e), above j d e high, ap (λ q. get_or (insert ports i port) q 0) e ∙ get_or-insert_above ports i port 0 d high le)
    ]

    enters : (j : ℕ) → get_or (insert ports i port) j 0 ≡ port → get_or (set shown port rank) (get_or (insert ports i port) j 0) 0 ≡ rank
    enters j is = get_or-set_at shown port (get_or (insert ports i port) j 0) rank 0 is inside

    stays : (j d : ℕ) → d < length flows → get_or (insert ports i port) j 0 ≡ get_or ports d 0 →
        get_or (set shown port rank) (get_or (insert ports i port) j 0) 0 ≡ get_or shown (get_or ports d 0) 0
    stays j d ld is = ap (λ p. get_or (set shown port rank) p 0) is ∙ get_or-set_other shown port (get_or ports d 0) rank 0 (fresh port none few d ld)
