-- The value of a released certificate, place by place, and how large it can be.
use Rattle.std.proofs.Common.{◌≡◌, ℕ, ◌+◌, ◌*◌, ◌^◌, ◌<◌, ◌≤◌, List, [], ◌∷◌, ◌++◌, length, map, reverse, take, drop, Contains, refl, sym, ap, ap₂, subst, ◌∙◌, arith}
use Rattle.std.specs.Prelude.{All, slice_index}
use Rattle.std.proofs.lemmas.List.{get_or-map, reverse-append, take-append-drop, take_more}
use Rattle.coflow_units.specs.declared.fabric.Flow.{Flow}
use Rattle.coflow_units.specs.declared.fabric.Port.{Port}
use Rattle.coflow_units.specs.declared.fabric.Side.TheVariants.{Ingress}
use Rattle.coflow_units.specs.Flows.{Instance}
use Rattle.coflow_units.specs.Load.{load}
use Rattle.coflow_units.specs.Certificate.{Entry, IsCertificate, front}
use Rattle.coflow_units.proofs.Sums.{all_of_members}
use Rattle.port_load.specs.LoadTable.{LoadTable, load_at, total_at}
use Rattle.dual_cert.specs.declared.cert.Charge.{Charge}
use Rattle.dual_cert.specs.TableCertificate.{HasLoadsOf, IsCertificateOf, all_entries, entries_to, port_at}
use Rattle.dual_cert.proofs.ValueSteps.{budgets_within, fronts_within, weight_small}
use Rattle.release_bound.specs.declared.place.ReleasePlace.{ReleasePlace}
use Rattle.release_bound.specs.Release.{earliest_end, entries_of, front_value, released_value}
use Rattle.release_bound.specs.ReleaseTable.{HasArrivalsOf, StaysInReleasedBudget, charge_of}
use Rattle.release_bound.proofs.ChargeSteps.{entries_charged, entries_charged_to, in_front, named_at, place_at}
use Rattle.release_bound.proofs.SizeLaw.{size_law}

turned : (places : List ReleasePlace) (k : ℕ) → k < length places → reverse (take (k + 1) places) ≡ place_at places k ∷ reverse (take k places)
turned places k lt =
    ap reverse (take_more places k record { coflow = 0; port = record { side = Ingress; number = 0 }; y = 0; z = 0 } lt) ∙ reverse-append (take k places) (place_at places k ∷ [])

value_more : (flows : List Flow) (arrival : ℕ → ℕ) (ports : ℕ) (places : List ReleasePlace) (k : ℕ) → k < length places →
    released_value flows arrival ports (reverse (take (k + 1) places)) ≡
    (place_at places k).y * front_value flows arrival (front (entries_of (place_at places k ∷ reverse (take k places)))) (place_at places k).port +
    2 * ((place_at places k).z * earliest_end flows arrival ports (place_at places k).coflow) + released_value flows arrival ports (reverse (take k places))
value_more flows arrival ports places k lt = ap (released_value flows arrival ports) (turned places k lt)

pub record TotalSoFar (t : LoadTable) (arrivals : List ℕ) (places : List ReleasePlace) (value k : ℕ) : Type 0 where
  pub is : (flows : List Flow) (arrival : ℕ → ℕ) → HasLoadsOf flows t (entries_of (reverse places)) → HasArrivalsOf arrival arrivals (entries_of (reverse places)) →
      value ≡ released_value flows arrival t.ports (reverse (take k places))

pub total_none : (t : LoadTable) (arrivals : List ℕ) (places : List ReleasePlace) → TotalSoFar t arrivals places 0 0
total_none t arrivals places = record { is = λ flows arrival has arrives. refl }

-- what a place's front adds for each unit of y, for all flows and arrivals that fit
abbrev pub IsFrontValue : LoadTable → List ℕ → List Charge → ℕ → ℕ → Type 0
IsFrontValue t arrivals charges k n = (flows : List Flow) (arrival : ℕ → ℕ) → HasLoadsOf flows t (all_entries charges) → HasArrivalsOf arrival arrivals (all_entries charges) →
    n ≡ front_value flows arrival (front (entries_to (k + 1) charges)) (port_at charges k)

-- the earliest end of a coflow, for all flows and arrivals that fit
abbrev pub IsEndOf : LoadTable → List ℕ → ℕ → ℕ → Type 0
IsEndOf t arrivals c h = (flows : List Flow) (arrival : ℕ → ℕ) → ((port : Port) → port.number < t.ports → load_at t c port ≡ load flows c port) →
    arrival c ≡ slice_index arrivals c → h ≡ earliest_end flows arrival t.ports c

port_same : (charges : List Charge) (places : List ReleasePlace) (k : ℕ) → charges ≡ map charge_of places → k < length places → port_at charges k ≡ (place_at places k).port
port_same charges places k is lt =
    ap (λ cs. port_at cs k) is ∙
    ap (λ (x : Charge). x.port) (get_or-map charge_of places k (record { coflow = 0; port = record { side = Ingress; number = 0 }; y = 0; z = 0 })
    (record { coflow = 0; port = record { side = Ingress; number = 0 }; y = 0 }) lt)

pub total_step : (t : LoadTable) (arrivals : List ℕ) (charges : List Charge) (places : List ReleasePlace) (value k n h : ℕ) → charges ≡ map charge_of places →
    TotalSoFar t arrivals places value k → IsFrontValue t arrivals charges k n → IsEndOf t arrivals (place_at places k).coflow h → k < length places →
    TotalSoFar t arrivals places (value + ((place_at places k).y * n + 2 * ((place_at places k).z * h))) (k + 1)
total_step t arrivals charges places value k n h is so_far fronts ends lt = record {
  is = λ flows arrival has arrives.
      let r = place_at places k in
      let before = reverse (take k places) in
      let same = entries_charged charges places is in
      let n_is = fronts flows arrival (subst (λ l. HasLoadsOf flows t l) (sym same) has) (subst (λ l. HasArrivalsOf arrival arrivals l) (sym same) arrives) in
      let entries : entries_to (k + 1) charges ≡ entries_of (r ∷ before) = entries_charged_to charges places (k + 1) is ∙ ap entries_of (turned places k lt) in
      let n_is' : n ≡ front_value flows arrival (front (entries_of (r ∷ before))) r.port =
      n_is ∙ ap₂ (λ l p. front_value flows arrival (front l) p) entries (port_same charges places k is lt) in
      let here = in_front (reverse places) r (named_at places k lt) in
      let h_is = ends flows arrival (λ port lp. has r.coflow port here lp) (arrives r.coflow here) in
      omega (
        arith,
        so_far.is flows arrival has arrives,
        ap (λ m. r.y * m) n_is',
        ap (λ m. r.z * m) h_is,
        value_more flows arrival t.ports places k lt,
      );
}

-- ---- sizes

end_value : (flows : List Flow) (arrival : ℕ → ℕ) (ports : ℕ) (later before : List ReleasePlace) →
    released_value flows arrival ports before ≤ released_value flows arrival ports (later ++ before)
end_value flows arrival ports [] before = omega arith
end_value flows arrival ports (r ∷ later) before = omega (arith, end_value flows arrival ports later before)

first_value : (flows : List Flow) (arrival : ℕ → ℕ) (ports k : ℕ) (places : List ReleasePlace) →
    released_value flows arrival ports (reverse (take k places)) ≤ released_value flows arrival ports (reverse places)
first_value flows arrival ports k places =
    let split : reverse places ≡ reverse (drop k places) ++ reverse (take k places) = ap reverse (sym (take-append-drop k places)) ∙ reverse-append (take k places)
    (drop k places) in
    subst (λ l. released_value flows arrival ports (reverse (take k places)) ≤ released_value flows arrival ports l) (sym split)
    (end_value flows arrival ports (reverse (drop k places)) (reverse (take k places)))

-- the coflows of the places alone, with these flows and weights
abbrev instance_of : LoadTable → List Flow → (ℕ → ℕ) → List Entry → Instance
instance_of t flows weight entries = record { coflows = front entries; weight = weight; ports = t.ports; flows = flows }

certificate_of : (t : LoadTable) (flows : List Flow) (weight : ℕ → ℕ) (entries : List Entry) → IsCertificateOf t entries →
    IsCertificate (instance_of t flows weight entries) entries
certificate_of t flows weight entries certificate = record {
  once = certificate.once;
  coflow = all_of_members (Contains (front entries)) (front entries) (λ c has. has);
  all = all_of_members (Contains (front entries)) (front entries) (λ c has. has);
  port = certificate.port;
}

pub total_fits : (t : LoadTable) (weights arrivals : List ℕ) (places : List ReleasePlace) (value k : ℕ) → IsCertificateOf t (entries_of (reverse places)) → t.coflows ≤ 4096 →
    ((port : Port) → port.number < t.ports → total_at t port ≤ 2 ^ 40) → All (λ w. w ≤ 2 ^ 32) weights → All (λ a. a ≤ 2 ^ 32) arrivals →
    StaysInReleasedBudget t weights (reverse places) → TotalSoFar t arrivals places value k → value ≤ 2 ^ 126
total_fits t weights arrivals places value k certificate few totals weights_fit arrivals_fit stays so_far =
    let entries = entries_of (reverse places) in
    let arrival = λ (c : ℕ). slice_index arrivals c in
    let is = so_far.is stays.flows arrival stays.has_loads (λ c has. refl) in
    let within = first_value stays.flows arrival t.ports k places in
    let fits = size_law (instance_of t stays.flows stays.weight entries) arrival (reverse places) (2 ^ 40) (2 ^ 32) (certificate_of t stays.flows stays.weight entries certificate)
    stays.feasible (fronts_within t stays.flows entries (2 ^ 40) certificate stays.has_loads totals) (λ c has. weight_small arrivals (2 ^ 32) c arrivals_fit) in
    let budgets = budgets_within t stays.weight weights entries (2 ^ 32) certificate stays.has_weights weights_fit in
    omega (arith, is, within, fits, budgets, few)
