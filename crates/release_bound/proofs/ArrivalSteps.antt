-- The first arrival of a place's front, and the earliest end of a coflow, from a table of loads.
use Rattle.std.proofs.Common.{◌≡◌, ℕ, ◌+◌, ◌<◌, ◌≤◌, inl, inr, Bool, true, cond, List, []}
use Rattle.std.proofs.Common.{◌∷◌, None, Option, Some, Contains, refl, sym, ap, ◌∙◌, arith, true≢false}
use Rattle.std.specs.Prelude.{map, not, slice_index, unwrap_or, ◌==◌}
use Rattle.std.specs.List.{range_with_len}
use Rattle.std.proofs.lemmas.Bool.{cases_Bool, cases_eq, cases_lt, eq-eqb, ne_eqb}
use Rattle.std.proofs.lemmas.List.Elements.{Contains-append_left, Contains-append_right}
use Rattle.coflow_units.specs.declared.fabric.Flow.{Flow}
use Rattle.coflow_units.specs.declared.fabric.Port.{Port}
use Rattle.coflow_units.specs.declared.fabric.Side.{Side}
use Rattle.coflow_units.specs.declared.fabric.Side.TheVariants.{Egress, Ingress}
use Rattle.coflow_units.specs.Load.{load}
use Rattle.coflow_units.specs.Certificate.{front}
use Rattle.coflow_units.proofs.Lists.{filter_in, keeps}
use Rattle.coflow_units.proofs.Numbers.{zero_or_more}
use Rattle.coflow_units.proofs.Sums.{any_has, any_in, first_or_tail, in_first, in_tail, nothing_in}
use Rattle.port_load.specs.Bottleneck.{IsBottleneck}
use Rattle.port_load.specs.LoadTable.{LoadTable, load_at}
use Rattle.port_load.proofs.Grid.{below_in}
use Rattle.bssi_order.proofs.TableSteps.{seen_before}
use Rattle.dual_cert.specs.declared.cert.Charge.{Charge}
use Rattle.dual_cert.specs.PlaceTable.{is_up_to, load_up_to}
use Rattle.dual_cert.specs.TableCertificate.{HasLoadsOf, IsCertificateOf, all_entries, entries_to, port_at}
use Rattle.dual_cert.proofs.FirstPlaces.{first_in, named_in}
use Rattle.dual_cert.proofs.FrontSums.{nought_either}
use Rattle.release_bound.specs.Release.{all_ports, bottleneck, earliest_end, first_arrival, greatest_of, least_of, loaded}
use Rattle.release_bound.specs.ReleaseTable.{HasArrivalsOf, lesser_of}
use Rattle.release_bound.proofs.LateLaw.{from_map, greatest_below, in_map, least_below}
use Rattle.release_bound.proofs.SizeLaw.{in_range}

-- ---- the first arrival so far

-- none of the first coflows has load in the place's front, or this is the least arrival of those that have
abbrev pub IsFirstOf : LoadTable → List Charge → ℕ → List ℕ → ℕ → Option ℕ → Type 0
IsFirstOf t charges place arrivals done None = (c : ℕ) → c < done → load_up_to t charges place c ≡ 0
IsFirstOf t charges place arrivals done (Some a) =
    ((c : ℕ) × (c < done) × (0 < load_up_to t charges place c) × (slice_index arrivals c ≡ a))
    × ((c : ℕ) → c < done → 0 < load_up_to t charges place c → a ≤ slice_index arrivals c)

pub record FirstSoFar (t : LoadTable) (charges : List Charge) (place : ℕ) (arrivals : List ℕ) (done : ℕ) (first : Option ℕ) : Type 0 where
  pub is : IsFirstOf t charges place arrivals done first

pub first_none : (t : LoadTable) (charges : List Charge) (place : ℕ) (arrivals : List ℕ) → FirstSoFar t charges place arrivals 0 None
first_none t charges place arrivals = record { is = λ c lt. absurd (omega (arith, lt)) }

-- coflows without load on the port are passed by
pub first_past : (t : LoadTable) (charges : List Charge) (place : ℕ) (arrivals : List ℕ) (done next : ℕ) (first : Option ℕ) → FirstSoFar t charges place arrivals done first →
    done ≤ next → ((c : ℕ) → done ≤ c → c < next → load_at t c (port_at charges place) ≡ 0) → FirstSoFar t charges place arrivals next first
first_past t charges place arrivals done next None so_far after none = record {
  is = λ c lt. elim (cases_lt c done) [
    | inl old ↦ so_far.is c old
    | inr new ↦ nought_either (is_up_to charges place c) (load_at t c (port_at charges place)) (none c new lt)
  ];
}
first_past t charges place arrivals done next (Some a) so_far after none =
    let ((c, lt, some, is), least) = so_far.is in
    record {
      is = (
        (c, omega (arith, lt, after), some, is),
        λ k lk has. least k (seen_before (load_up_to t charges place) done next k
            (λ n ln lt'. nought_either (is_up_to charges place n) (load_at t n (port_at charges place)) (none n ln lt')) lk has) has,
      );
    }

first_from : (t : LoadTable) (charges : List Charge) (place : ℕ) (arrivals : List ℕ) (k : ℕ) (first : Option ℕ) → IsFirstOf t charges place arrivals k first →
    0 < load_up_to t charges place k → IsFirstOf t charges place arrivals (k + 1) (Some (lesser_of first (slice_index arrivals k)))
first_from t charges place arrivals k None none some = (
  (k, omega arith, some, refl),
  λ c lt has. elim (cases_eq c k) [
    | inl e ↦ omega (arith, ap (slice_index arrivals) e)
    | inr ne ↦ absurd (omega (arith, has, none c (omega (arith, lt, ne))))
  ],
)
first_from t charges place arrivals k (Some a) ((c, lc, has_c, is), least) some = (
  elim (cases_lt a (slice_index arrivals k)) [
    | inl less ↦ (c, omega (arith, lc), has_c, omega (arith, is, less))
    | inr more ↦ (k, omega arith, some, omega (arith, more))
  ],
  λ n lt has. elim (cases_eq n k) [
    | inl e ↦ omega (arith, ap (slice_index arrivals) e)
    | inr ne ↦ omega (arith, least n (omega (arith, lt, ne)) has)
  ],
)

pub first_take : (t : LoadTable) (charges : List Charge) (place : ℕ) (arrivals : List ℕ) (k : ℕ) (first : Option ℕ) → FirstSoFar t charges place arrivals k first →
    0 < load_up_to t charges place k → FirstSoFar t charges place arrivals (k + 1) (Some (lesser_of first (slice_index arrivals k)))
first_take t charges place arrivals k first so_far some = record { is = first_from t charges place arrivals k first so_far.is some }

first_by : (t : LoadTable) (charges : List Charge) (place : ℕ) (arrivals : List ℕ) (k : ℕ) (first : Option ℕ) → IsFirstOf t charges place arrivals k first →
    load_up_to t charges place k ≡ 0 → IsFirstOf t charges place arrivals (k + 1) first
first_by t charges place arrivals k None so_far none = λ c lt. elim (cases_eq c k) [
  | inl e ↦ ap (load_up_to t charges place) e ∙ none
  | inr ne ↦ so_far c (omega (arith, lt, ne))
]
first_by t charges place arrivals k (Some a) ((c, lc, has_c, is), least) none = (
  (c, omega (arith, lc), has_c, is),
  λ n lt has. elim (cases_eq n k) [
    | inl e ↦ absurd (omega (arith, has, ap (load_up_to t charges place) e, none))
    | inr ne ↦ least n (omega (arith, lt, ne)) has
  ],
)

pub first_keep : (t : LoadTable) (charges : List Charge) (place : ℕ) (arrivals : List ℕ) (k : ℕ) (first : Option ℕ) → FirstSoFar t charges place arrivals k first →
    load_up_to t charges place k ≡ 0 → FirstSoFar t charges place arrivals (k + 1) first
first_keep t charges place arrivals k first so_far none = record { is = first_by t charges place arrivals k first so_far.is none }

-- ---- the first arrival

none_loaded : (flows : List Flow) (port : Port) (cs : List ℕ) → ((c : ℕ) → Contains cs c → load flows c port ≡ 0) → loaded flows port cs ≡ []
none_loaded flows port [] none = refl
none_loaded flows port (c ∷ cs) none =
    let out = ap not (eq-eqb (load flows c port) 0 (none c (in_first c cs))) in
    ap {A = Bool} {B = List ℕ} (λ b. cond b (c ∷ loaded flows port cs) (loaded flows port cs)) out ∙ none_loaded flows port cs (λ d has. none d (in_tail c cs d has))

least_above : (xs : List ℕ) (a n : ℕ) → Contains xs n → ((x : ℕ) → Contains xs x → a ≤ x) → a ≤ least_of xs
least_above [] a n has each = absurd (nothing_in n has)
least_above (x ∷ []) a n has each = each x (in_first x [])
least_above (x ∷ y ∷ ys) a n has each =
    omega (arith, each x (in_first x (y ∷ ys)), least_above (y ∷ ys) a y (in_first y ys) (λ z h. each z (in_tail x (y ∷ ys) z h)))

-- in the front, the load up to the place is the load of the flows
up_to_is : (t : LoadTable) (charges : List Charge) (place c : ℕ) (flows : List Flow) → HasLoadsOf flows t (all_entries charges) → (port_at charges place).number < t.ports →
    Contains (front (entries_to (place + 1) charges)) c → load_up_to t charges place c ≡ load flows c (port_at charges place)
up_to_is t charges place c flows has lp in' =
    ap {B = ℕ} (λ b. cond b (load_at t c (port_at charges place)) 0) (any_in (front (entries_to (place + 1) charges)) c in') ∙
    has c (port_at charges place) (first_in (place + 1) charges c in') lp

in_front_of : (t : LoadTable) (charges : List Charge) (place c : ℕ) → 0 < load_up_to t charges place c → Contains (front (entries_to (place + 1) charges)) c
in_front_of t charges place c some = elim (cases_Bool (is_up_to charges place c)) [
  | inl here ↦ any_has (front (entries_to (place + 1) charges)) c here
  | inr out ↦ absurd (omega (arith, some, ap {B = ℕ} (λ b. cond b (load_at t c (port_at charges place)) 0) out))
]

not_none : (n : ℕ) → not (n == 0) ≡ true → 0 < n
not_none n is = elim (zero_or_more n) [
  | inl none ↦ absurd (true≢false (sym is ∙ ap not (eq-eqb n 0 none)))
  | inr some ↦ some
]

pub first_is : (t : LoadTable) (charges : List Charge) (place : ℕ) (arrivals : List ℕ) (first : Option ℕ) → IsCertificateOf t (all_entries charges) →
    IsFirstOf t charges place arrivals t.coflows first → (flows : List Flow) (arrival : ℕ → ℕ) → HasLoadsOf flows t (all_entries charges) →
    HasArrivalsOf arrival arrivals (all_entries charges) → (port_at charges place).number < t.ports →
    unwrap_or first 0 ≡ first_arrival flows arrival (front (entries_to (place + 1) charges)) (port_at charges place)
first_is t charges place arrivals None certificate none flows arrival has arrives lp =
    let port = port_at charges place in
    let cs = front (entries_to (place + 1) charges) in
    sym (ap (λ l. least_of (map arrival l)) (none_loaded flows port cs (λ c in'.
    sym (up_to_is t charges place c flows has lp in') ∙ none c (named_in t (all_entries charges) certificate c (first_in (place + 1) charges c in')))))
first_is t charges place arrivals (Some a) certificate ((k, lk, has_k, is), least) flows arrival has arrives lp =
    let port = port_at charges place in
    let cs = front (entries_to (place + 1) charges) in
    let loads = loaded flows port cs in
    let here = in_front_of t charges place k has_k in
    let some : 0 < load flows k port = omega (arith, has_k, up_to_is t charges place k flows has lp here) in
    let time = arrives k (first_in (place + 1) charges k here) in
    let mine : Contains (map arrival loads) (arrival k) = in_map arrival loads k (keeps (λ c. not (load flows c port == 0)) cs k here
    (ap not (ne_eqb (load flows k port) 0 (λ e. omega (arith, some, e))))) in
    let low : a ≤ least_of (map arrival loads) = least_above (map arrival loads) a (arrival k) mine (λ n in'.
    let (c, has_c, at) = from_map arrival loads n in' in
    let (in_cs, loaded_c) = filter_in (λ c. not (load flows c port == 0)) cs c has_c in
    let up : 0 < load_up_to t charges place c = omega (arith, not_none (load flows c port) loaded_c, up_to_is t charges place c flows has lp in_cs) in
    let within = least c (named_in t (all_entries charges) certificate c (first_in (place + 1) charges c in_cs)) up in
    omega (arith, within, at, arrives c (first_in (place + 1) charges c in_cs))) in
    omega (arith, low, least_below (map arrival loads) (arrival k) mine, time, is)

-- ---- the earliest end

pub greatest_above : (xs : List ℕ) (n : ℕ) → Contains xs n → n ≤ greatest_of xs
greatest_above [] n has = absurd (nothing_in n has)
greatest_above (x ∷ xs) n has = elim (first_or_tail x xs n has) [
  | inl e ↦ omega (arith, e)
  | inr later ↦ omega (arith, greatest_above xs n later)
]

port_in_all : (side : Side) (n ports : ℕ) → n < ports → Contains (all_ports ports) record { side = side; number = n }
port_in_all Ingress n ports lt =
    Contains-append_left (map (λ k. record { side = Ingress; number = k }) (range_with_len 0 ports)) (map (λ k. record { side = Egress; number = k }) (range_with_len 0 ports))
    record { side = Ingress; number = n }
    (in_map (λ (k : ℕ). record { side = Ingress; number = k }) (range_with_len 0 ports) n (below_in ports n lt))
port_in_all Egress n ports lt =
    Contains-append_right (map (λ k. record { side = Ingress; number = k }) (range_with_len 0 ports)) (map (λ k. record { side = Egress; number = k }) (range_with_len 0 ports))
    record { side = Egress; number = n }
    (in_map (λ (k : ℕ). record { side = Egress; number = k }) (range_with_len 0 ports) n (below_in ports n lt))

bottleneck_is : (t : LoadTable) (c number : ℕ) (flows : List Flow) → ((port : Port) → port.number < t.ports → load_at t c port ≡ load flows c port) → IsBottleneck t c number →
    number ≡ bottleneck flows t.ports c
bottleneck_is t c number flows has is =
    let xs = map (load flows c) (all_ports t.ports) in
    let (port, lt, at) = is.some in
    let mine = in_map (load flows c) (all_ports t.ports) port (port_in_all port.side port.number t.ports lt) in
    let high = greatest_below xs number (λ n in'.
    let (p, has_p, e) = from_map (load flows c) (all_ports t.ports) n in' in
    let lp = in_range t.ports p has_p in
    omega (arith, is.most p lp, has p lp, e)) in
    omega (arith, high, greatest_above xs (load flows c port) mine, at, has port lt)

pub end_none : (t : LoadTable) (c number : ℕ) (flows : List Flow) (arrival : ℕ → ℕ) → ((port : Port) → port.number < t.ports → load_at t c port ≡ load flows c port) →
    IsBottleneck t c number → number ≡ 0 → 0 ≡ earliest_end flows arrival t.ports c
end_none t c number flows arrival has is none =
    let e : bottleneck flows t.ports c ≡ 0 = sym (bottleneck_is t c number flows has is) ∙ none in
    sym (ap {A = Bool} {B = ℕ} (λ b. cond b 0 (arrival c + bottleneck flows t.ports c)) (eq-eqb (bottleneck flows t.ports c) 0 e))

pub end_some : (t : LoadTable) (c number a : ℕ) (flows : List Flow) (arrival : ℕ → ℕ) → ((port : Port) → port.number < t.ports → load_at t c port ≡ load flows c port) →
    IsBottleneck t c number → (number ≡ 0 → ⊥) → arrival c ≡ a → a + number ≡ earliest_end flows arrival t.ports c
end_some t c number a flows arrival has is some time =
    let e = bottleneck_is t c number flows has is in
    let big : bottleneck flows t.ports c ≡ 0 → ⊥ = λ none. some (e ∙ none) in
    omega (arith, time, e, ap {A = Bool} {B = ℕ} (λ b. cond b 0 (arrival c + bottleneck flows t.ports c)) (ne_eqb (bottleneck flows t.ports c) 0 big))
