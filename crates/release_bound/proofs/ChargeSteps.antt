-- The charges of a list of places, and which coflow pays more than its budget.
use Rattle.std.proofs.Common.{◌≡◌, ℕ, ◌+◌, ◌-◌, ◌*◌, ◌^◌, ◌<◌, ◌≤◌, ◌⊎◌, inl, inr, List, [], ◌∷◌, ◌++◌}
use Rattle.std.proofs.Common.{None, Option, Some, length, map, min, reverse, take, get_or, Contains, refl, sym, ap, subst, ◌∙◌}
use Rattle.std.proofs.Common.{arith, zero, suc}
use Rattle.std.specs.Prelude.{All, IfSome, slice_index}
use Rattle.std.specs.List.{range_with_len, slice_index_or}
use Rattle.std.proofs.lemmas.Bool.{cases_eq, cases_lt}
use Rattle.std.proofs.lemmas.List.{get_or_default, get_or-reverse, length-map, length-reverse, map-append, reverse-reverse, take_more}
use Rattle.std.proofs.lemmas.List.FromFn.{length-range_with_len}
use Rattle.coflow_units.specs.declared.fabric.Flow.{Flow}
use Rattle.coflow_units.specs.declared.fabric.Side.TheVariants.{Ingress}
use Rattle.coflow_units.specs.Certificate.{Entry, budget, front, scale, used}
use Rattle.coflow_units.proofs.Sums.{apart_from_pairs, members_at_most, sum_ones}
use Rattle.port_load.specs.LoadTable.{LoadTable}
use Rattle.port_load.proofs.Grid.{below_in}
use Rattle.bssi_order.proofs.StandSteps.{all_along}
use Rattle.dual_cert.specs.declared.cert.Charge.{Charge}
use Rattle.dual_cert.specs.TableCertificate.{HasLoadsOf, HasWeightsOf, IsCertificateOf, all_entries, entries_to, entry_at}
use Rattle.dual_cert.proofs.BudgetSteps.{most}
use Rattle.dual_cert.proofs.FirstPlaces.{map_reverse, named_in}
use Rattle.release_bound.specs.declared.place.ReleasePlace.{ReleasePlace}
use Rattle.release_bound.specs.Release.{IsReleasedFeasible, entries_of, entry_of}
use Rattle.release_bound.proofs.LateLaw.{in_map}
use Rattle.release_bound.specs.ReleaseTable.{IsLeastReleasedInfeasible, StaysAt, charge_of, lesser_of}

-- the place with a number; a number past the end has zeros, and is read only where it is known to be a place's
abbrev pub place_at : List ReleasePlace → ℕ → ReleasePlace
place_at places k = slice_index_or places k record { coflow = 0; port = record { side = Ingress; number = 0 }; y = 0; z = 0 }

-- ---- the charges

few_coflows : (t : LoadTable) (entries : List Entry) → IsCertificateOf t entries → length (front entries) ≤ t.coflows
few_coflows t entries certificate =
    let within = members_at_most (λ c. 1) (front entries) (range_with_len 0 t.coflows) (apart_from_pairs (front entries) certificate.once)
    (λ c has some. below_in t.coflows c (named_in t entries certificate c has)) in
    omega (arith, within, sum_ones (front entries), sum_ones (range_with_len 0 t.coflows), length-range_with_len 0 t.coflows)

pub few_places : (t : LoadTable) (places : List ReleasePlace) → IsCertificateOf t (entries_of (reverse places)) → length places ≤ t.coflows
few_places t places certificate =
    omega (
      arith,
      few_coflows t (entries_of (reverse places)) certificate,
      length-map (entries_of (reverse places)) (λ (e : Entry). e.coflow),
      length-map (reverse places) entry_of,
      length-reverse places,
    )

charged : (places : List ReleasePlace) → map entry_at (map charge_of places) ≡ map entry_of places
charged [] = refl
charged (r ∷ rs) = ap (λ l. entry_of r ∷ l) (charged rs)

pub entries_charged : (charges : List Charge) (places : List ReleasePlace) → charges ≡ map charge_of places → all_entries charges ≡ entries_of (reverse places)
entries_charged charges places is = ap all_entries is ∙ ap reverse (charged places) ∙ sym (map_reverse entry_of places)

taken : (k : ℕ) (places : List ReleasePlace) → take k (map charge_of places) ≡ map charge_of (take k places)
taken zero places = refl
taken (suc k) [] = refl
taken (suc k) (r ∷ rs) = ap (λ l. charge_of r ∷ l) (taken k rs)

pub entries_charged_to : (charges : List Charge) (places : List ReleasePlace) (k : ℕ) → charges ≡ map charge_of places → entries_to k charges ≡ entries_of (reverse (take k places))
entries_charged_to charges places k is =
    ap (λ cs. reverse (map entry_at (take k cs))) is ∙ ap (λ cs. reverse (map entry_at cs)) (taken k places) ∙ entries_charged (map charge_of (take k places)) (take k places) refl

pub length_charged : (charges : List Charge) (places : List ReleasePlace) → charges ≡ map charge_of places → length charges ≡ length places
length_charged charges places is = ap length is ∙ length-map places charge_of

-- one charge more is written
pub charge_more : (places : List ReleasePlace) (k : ℕ) → k < length places →
    map charge_of (take (k + 1) places) ≡ map charge_of (take k places) ++ charge_of (place_at places k) ∷ []
charge_more places k lt =
    ap (map charge_of) (take_more places k record { coflow = 0; port = record { side = Ingress; number = 0 }; y = 0; z = 0 } lt) ∙
    map-append charge_of (take k places) (place_at places k ∷ [])

-- ---- the least coflow that stays out of its budget

abbrev pub IsOver : List ℕ → List ℕ → ReleasePlace → Type 0
IsOver paid weights r = slice_index weights r.coflow * 2 ^ 40 < min (slice_index paid r.coflow + r.z) most

-- none of the first places is over, or this is the least coflow of those that are
abbrev pub IsLeastOf : List ℕ → List ℕ → List ReleasePlace → ℕ → Option ℕ → Type 0
IsLeastOf paid weights places k None = (j : ℕ) → j < k → IsOver paid weights (place_at places j) → ⊥
IsLeastOf paid weights places k (Some c) =
    ((j : ℕ) × (j < k) × ((place_at places j).coflow ≡ c) × IsOver paid weights (place_at places j))
    × ((j : ℕ) → j < k → IsOver paid weights (place_at places j) → c ≤ (place_at places j).coflow)

pub record LeastSoFar (paid weights : List ℕ) (places : List ReleasePlace) (k : ℕ) (least : Option ℕ) : Type 0 where
  pub small : (j : ℕ) → j < k → slice_index weights (place_at places j).coflow < 2 ^ 64
  pub is : IsLeastOf paid weights places k least

pub least_none : (paid weights : List ℕ) (places : List ReleasePlace) → LeastSoFar paid weights places 0 None
least_none paid weights places = record {
  small = λ j lt. absurd (omega (arith, lt));
  is = λ j lt over. omega (arith, lt);
}

small_more : (paid weights : List ℕ) (places : List ReleasePlace) (k : ℕ) (least : Option ℕ) → LeastSoFar paid weights places k least →
    slice_index weights (place_at places k).coflow < 2 ^ 64 → (j : ℕ) → j < k + 1 → slice_index weights (place_at places j).coflow < 2 ^ 64
small_more paid weights places k least so_far small j lt = elim (cases_eq j k) [
  | inl e ↦ subst (λ n. slice_index weights (place_at places n).coflow < 2 ^ 64) (sym e) small
  | inr ne ↦ so_far.small j (omega (arith, lt, ne))
]

at_or_before : (paid weights : List ℕ) (places : List ReleasePlace) (k c j : ℕ) → ((j : ℕ) → j < k → IsOver paid weights (place_at places j) → c ≤ (place_at places j).coflow) →
    j < k + 1 → IsOver paid weights (place_at places j) → (c ≤ (place_at places j).coflow) ⊎ (j ≡ k)
at_or_before paid weights places k c j least lt over = elim (cases_eq j k) [
  | inl e ↦ inr e
  | inr ne ↦ inl (least j (omega (arith, lt, ne)) over)
]

least_from : (paid weights : List ℕ) (places : List ReleasePlace) (k : ℕ) (least : Option ℕ) → IsLeastOf paid weights places k least → IsOver paid weights (place_at places k) →
    IsLeastOf paid weights places (k + 1) (Some (lesser_of least (place_at places k).coflow))
least_from paid weights places k None none over = (
  (k, omega arith, refl, over),
  λ j lt over'. elim (cases_eq j k) [
    | inl e ↦ omega (arith, ap (λ n. (place_at places n).coflow) e)
    | inr ne ↦ absurd (none j (omega (arith, lt, ne)) over')
  ],
)
least_from paid weights places k (Some c) ((j, lj, at, oj), least) over =
    let mine = (place_at places k).coflow in (
      elim (cases_lt c mine) [
        | inl less ↦ (j, omega (arith, lj), omega (arith, at, less), oj)
        | inr more ↦ (k, omega arith, omega (arith, more), over)
      ],
      λ n lt over'. elim (at_or_before paid weights places k c n least lt over') [
        | inl le ↦ omega (arith, le)
        | inr e ↦ omega (arith, ap (λ m. (place_at places m).coflow) e)
      ],
    )

least_past : (paid weights : List ℕ) (places : List ReleasePlace) (k : ℕ) (least : Option ℕ) → IsLeastOf paid weights places k least →
    (IsOver paid weights (place_at places k) → ⊥) →
    IsLeastOf paid weights places (k + 1) least
least_past paid weights places k None none within = λ j lt over. elim (cases_eq j k) [
  | inl e ↦ within (subst (λ n. IsOver paid weights (place_at places n)) e over)
  | inr ne ↦ none j (omega (arith, lt, ne)) over
]
least_past paid weights places k (Some c) ((j, lj, at, oj), least) within = (
  (j, omega (arith, lj), at, oj),
  λ n lt over. elim (at_or_before paid weights places k c n least lt over) [
    | inl le ↦ le
    | inr e ↦ absurd (within (subst (λ m. IsOver paid weights (place_at places m)) e over))
  ],
)

pub least_over : (paid weights : List ℕ) (places : List ReleasePlace) (k : ℕ) (least : Option ℕ) → LeastSoFar paid weights places k least →
    slice_index weights (place_at places k).coflow < 2 ^ 64 → IsOver paid weights (place_at places k) →
    LeastSoFar paid weights places (k + 1) (Some (lesser_of least (place_at places k).coflow))
least_over paid weights places k least so_far small over = record {
  small = small_more paid weights places k least so_far small;
  is = least_from paid weights places k least so_far.is over;
}

pub least_within : (paid weights : List ℕ) (places : List ReleasePlace) (k : ℕ) (least : Option ℕ) → LeastSoFar paid weights places k least →
    slice_index weights (place_at places k).coflow < 2 ^ 64 → (IsOver paid weights (place_at places k) → ⊥) → LeastSoFar paid weights places (k + 1) least
least_within paid weights places k least so_far small within = record {
  small = small_more paid weights places k least so_far small;
  is = least_past paid weights places k least so_far.is within;
}

-- ---- what that says of flows and weights

-- what is paid, for all flows that fit
abbrev pub IsPaidBy : LoadTable → List Entry → List ℕ → Type 0
IsPaidBy t entries paid = (flows : List Flow) (c : ℕ) → HasLoadsOf flows t entries → c < t.coflows → slice_index paid c ≡ min (used flows entries c) most

over_is : (u p z w b : ℕ) → p ≡ min u (2 ^ 128 - 1) → b ≡ w * 2 ^ 40 → w * 2 ^ 40 < min (p + z) (2 ^ 128 - 1) → b < u + z
over_is u p z w b e f lt = omega (arith, e, f, lt)

within_is : (u p z w b : ℕ) → p ≡ min u (2 ^ 128 - 1) → b ≡ w * 2 ^ 40 → w < 2 ^ 64 → min (p + z) (2 ^ 128 - 1) ≤ w * 2 ^ 40 → u + z ≤ b
within_is u p z w b e f small le = omega (arith, e, f, small, le)

pub named_at : (places : List ReleasePlace) (k : ℕ) → k < length places → Contains (reverse places) (place_at places k)
named_at places k lt =
    let d : ReleasePlace = record { coflow = 0; port = record { side = Ingress; number = 0 }; y = 0; z = 0 } in
    let j = length places - 1 - k in
    let in' : j < length (reverse places) = omega (arith, length-reverse places) in
    let back : length places - 1 - j ≡ k = omega arith in
    let at : get_or (reverse places) j d ≡ get_or places k d = get_or-reverse places j d (omega arith) ∙ ap (λ n. get_or places n d) back in
    (j, in', get_or_default (reverse places) j (place_at places k) d in' ∙ at)

pub in_front : (places : List ReleasePlace) (r : ReleasePlace) → Contains places r → Contains (front (entries_of places)) r.coflow
in_front places r has = in_map (λ (e : Entry). e.coflow) (entries_of places) (entry_of r) (in_map entry_of places r has)

-- a place that is not over stays within its budget
stays_where : (t : LoadTable) (weights paid : List ℕ) (places : List ReleasePlace) (n : ℕ) → IsCertificateOf t (entries_of (reverse places)) →
    IsPaidBy t (entries_of (reverse places)) paid → n < length places → slice_index weights (place_at places n).coflow < 2 ^ 64 → (IsOver paid weights (place_at places n) → ⊥) →
    (flows : List Flow) (weight : ℕ → ℕ) → HasLoadsOf flows t (entries_of (reverse places)) → HasWeightsOf weight weights (entries_of (reverse places)) →
    StaysAt flows weight (reverse places) (place_at places n)
stays_where t weights paid places n certificate is lt small within flows weight has hasw =
    let r = place_at places n in
    let here = in_front (reverse places) r (named_at places n lt) in
    let owed = is flows r.coflow has (named_in t (entries_of (reverse places)) certificate r.coflow here) in
    within_is (used flows (entries_of (reverse places)) r.coflow) (slice_index paid r.coflow) r.z (slice_index weights r.coflow) (budget weight r.coflow) owed
    (ap (λ n. n * scale) (hasw r.coflow here)) small
    (elim (cases_lt (slice_index weights r.coflow * 2 ^ 40) (min (slice_index paid r.coflow + r.z) most)) [
      | inl over ↦ absurd (within over)
      | inr le ↦ le
    ])

stays_place : (t : LoadTable) (weights paid : List ℕ) (places : List ReleasePlace) (k c : ℕ) → IsCertificateOf t (entries_of (reverse places)) →
    IsPaidBy t (entries_of (reverse places)) paid → LeastSoFar paid weights places k (Some c) → k ≡ length places →
    (flows : List Flow) (weight : ℕ → ℕ) → HasLoadsOf flows t (entries_of (reverse places)) → HasWeightsOf weight weights (entries_of (reverse places)) →
    (n : ℕ) → n < length places → (place_at places n).coflow < c → StaysAt flows weight (reverse places) (place_at places n)
stays_place t weights paid places k c certificate is so_far end flows weight has hasw n ln lt =
    stays_where t weights paid places n certificate is ln (so_far.small n (omega (arith, ln, end)))
    (λ over. let le = so_far.is.1 n (omega (arith, ln, end)) over in omega (arith, le, lt)) flows weight has hasw

-- what holds at each number holds of the list from its end
all_back : (P : ReleasePlace → Type 0) (places : List ReleasePlace) → ((n : ℕ) → n < length places → P (place_at places n)) → All P (reverse places)
all_back P places each =
    all_along P (reverse places) (subst (All P) (sym (reverse-reverse places)) (λ n d lt. subst P (get_or_default places n
    record { coflow = 0; port = record { side = Ingress; number = 0 }; y = 0; z = 0 } d lt) (each n lt)))

pub least_place : (t : LoadTable) (weights paid : List ℕ) (places : List ReleasePlace) (k c : ℕ) → IsCertificateOf t (entries_of (reverse places)) →
    IsPaidBy t (entries_of (reverse places)) paid → LeastSoFar paid weights places k (Some c) → k ≡ length places →
    (flows : List Flow) (weight : ℕ → ℕ) → HasLoadsOf flows t (entries_of (reverse places)) → HasWeightsOf weight weights (entries_of (reverse places)) →
    IsLeastReleasedInfeasible flows weight (reverse places) c
least_place t weights paid places k c certificate is so_far end flows weight has hasw =
    let (j, lj, at, over) = so_far.is.0 in
    let r = place_at places j in
    let stands = named_at places j (omega (arith, lj, end)) in
    let here = in_front (reverse places) r stands in
    let owed = is flows r.coflow has (named_in t (entries_of (reverse places)) certificate r.coflow here) in
    record {
      place = r;
      stands = stands;
      coflow_is = at;
      above = subst (λ n. budget weight n < used flows (entries_of (reverse places)) n + r.z) at
          (over_is (used flows (entries_of (reverse places)) r.coflow) (slice_index paid r.coflow) r.z (slice_index weights r.coflow) (budget weight r.coflow) owed
          (ap (λ n. n * scale) (hasw r.coflow here)) over);
      least = all_back (λ (x : ReleasePlace). x.coflow < c → StaysAt flows weight (reverse places) x) places
          (λ n ln. λ lt. stays_place t weights paid places k c certificate is so_far end flows weight has hasw n ln lt);
    }

pub none_over : (t : LoadTable) (weights paid : List ℕ) (places : List ReleasePlace) (k : ℕ) → IsCertificateOf t (entries_of (reverse places)) →
    IsPaidBy t (entries_of (reverse places)) paid → LeastSoFar paid weights places k None → k ≡ length places →
    (flows : List Flow) (weight : ℕ → ℕ) → HasLoadsOf flows t (entries_of (reverse places)) → HasWeightsOf weight weights (entries_of (reverse places)) →
    IsReleasedFeasible flows weight (reverse places)
none_over t weights paid places k certificate is so_far end flows weight has hasw =
    all_back (λ (x : ReleasePlace). StaysAt flows weight (reverse places) x) places
    (λ n ln. stays_where t weights paid places n certificate is ln (so_far.small n (omega (arith, ln, end))) (so_far.is n (omega (arith, ln, end))) flows weight has hasw)

pub least_told : (t : LoadTable) (weights paid : List ℕ) (places : List ReleasePlace) (k : ℕ) (least : Option ℕ) → IsCertificateOf t (entries_of (reverse places)) →
    IsPaidBy t (entries_of (reverse places)) paid → LeastSoFar paid weights places k least → k ≡ length places →
    (flows : List Flow) (weight : ℕ → ℕ) → HasLoadsOf flows t (entries_of (reverse places)) → HasWeightsOf weight weights (entries_of (reverse places)) →
    IfSome least (λ coflow. IsLeastReleasedInfeasible flows weight (reverse places) coflow)
least_told t weights paid places k None certificate is so_far end flows weight has hasw = tt
least_told t weights paid places k (Some c) certificate is so_far end flows weight has hasw =
    least_place t weights paid places k c certificate is so_far end flows weight has hasw

pub least_in : (t : LoadTable) (weights paid : List ℕ) (places : List ReleasePlace) (k : ℕ) (least : Option ℕ) → IsCertificateOf t (entries_of (reverse places)) →
    LeastSoFar paid weights places k least → k ≡ length places → IfSome least (λ coflow. coflow < t.coflows)
least_in t weights paid places k None certificate so_far end = tt
least_in t weights paid places k (Some c) certificate so_far end =
    let (j, lj, at, over) = so_far.is.0 in
    subst (λ n. n < t.coflows) at (named_in t (entries_of (reverse places)) certificate (place_at places j).coflow
    (in_front (reverse places) (place_at places j) (named_at places j (omega (arith, lj, end)))))
