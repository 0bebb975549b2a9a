-- There is one released certificate by a threshold at most.
use Rattle.std.proofs.Common.{◌≡◌, ℕ, ◌-◌, ◌*◌, ◌/◌, ◌<◌, ◌≤◌, ◌⊎◌, inl, inr, List, [], ◌∷◌, Contains, refl, sym, ap, subst, ◌∙◌, arith}
use Rattle.std.proofs.lemmas.List.Elements.{All-contains}
use Rattle.coflow_units.specs.declared.fabric.Flow.{Flow}
use Rattle.coflow_units.specs.declared.fabric.Port.{Port}
use Rattle.coflow_units.specs.declared.fabric.Side.{Side}
use Rattle.coflow_units.specs.declared.fabric.Side.TheVariants.{Egress, Ingress}
use Rattle.coflow_units.specs.Flows.{Instance}
use Rattle.coflow_units.specs.Load.{load, load_of_all}
use Rattle.coflow_units.specs.Certificate.{Entry, front}
use Rattle.coflow_units.specs.Ordering.{IsPlacedBusy, port_place, port_place_on, residual}
use Rattle.coflow_units.proofs.Sums.{Apart, apart_from_pairs, first_or_tail, in_first, in_tail, nothing_in, same_members}
use Rattle.release_bound.specs.declared.place.ReleasePlace.{ReleasePlace}
use Rattle.release_bound.specs.declared.threshold.Threshold.{Threshold}
use Rattle.release_bound.specs.Release.{IsReleasedCertificate, entries_of, entry_of}
use Rattle.release_bound.specs.ReleaseOrder.{IsLate, IsPlacedReleased, IsReleasedBy, IsReleasedOrdered, quarters_of}
use Rattle.release_bound.proofs.Lateness.{late_or_early}
use Rattle.release_bound.proofs.ReleaseSteps.{same_step}

abbrev port_on : Side → ℕ → Port
port_on s n = record { side = s; number = n }

abbrev place_of : ℕ → Port → ℕ → ℕ → ReleasePlace
place_of c p y z = record { coflow = c; port = p; y = y; z = z }

-- each of two is first among both: by a lesser key, or by an equal key and a number that is not greater
first_both : (a b m n : ℕ) → (b < a) ⊎ ((b ≡ a) × (m ≤ n)) → (a < b) ⊎ ((a ≡ b) × (n ≤ m)) → m ≡ n
first_both a b m n (inl x) (inl y) = absurd (omega arith)
first_both a b m n (inl x) (inr y) = absurd (omega (arith, y.0))
first_both a b m n (inr x) (inl y) = absurd (omega (arith, x.0))
first_both a b m n (inr x) (inr y) = omega (arith, x.1, y.1)

-- the port at a place is one alone
one_at : (ports : ℕ) (s t : Side) (m n : ℕ) → m < ports → n < ports → port_place_on s ports m ≡ port_place_on t ports n → port_on s m ≡ port_on t n
one_at ports Ingress Ingress m n lm ln e = ap (port_on Ingress) e
one_at ports Ingress Egress m n lm ln e = absurd (omega arith)
one_at ports Egress Ingress m n lm ln e = absurd (omega arith)
one_at ports Egress Egress m n lm ln e = let same : m ≡ n = omega arith in ap (port_on Egress) same

-- ---- one step

-- two coflows that the rule of the ordering certificate places on one port
one_busy : (flows : List Flow) (weight : ℕ → ℕ) (later : List Entry) (coflows : List ℕ) (r s : ReleasePlace) → r.port ≡ s.port → Contains coflows r.coflow →
    Contains coflows s.coflow → IsPlacedBusy flows weight later coflows (entry_of r) → IsPlacedBusy flows weight later coflows (entry_of s) →
    (r.coflow ≡ s.coflow) × (r.y ≡ s.y)
one_busy flows weight later coflows r s port inr' ins br bs0 =
    let p = r.port in
    let left = residual flows weight later in
    let bs = subst (λ p. IsPlacedBusy flows weight later coflows (record { coflow = s.coflow; port = p; y = s.y })) (sym port) bs0 in
    let same : s.coflow ≡ r.coflow = first_both (left s.coflow * load flows r.coflow p) (left r.coflow * load flows s.coflow p) s.coflow r.coflow
    (br.least s.coflow ins bs.has_load) (bs.least r.coflow inr' br.has_load) in
    (sym same, br.y_is ∙ ap (λ c. left c / load flows c p) (sym same) ∙ sym bs.y_is)

one_step : (quarters : ℕ) (flows : List Flow) (weight arrival : ℕ → ℕ) (ports : ℕ) (later : List Entry) (coflows : List ℕ) (r s : ReleasePlace) → Contains coflows r.coflow →
    Contains coflows s.coflow → IsPlacedReleased quarters flows weight arrival ports later coflows r → IsPlacedReleased quarters flows weight arrival ports later coflows s → r ≡ s
one_step quarters flows weight arrival ports later coflows r s inr' ins a b =
    let total = load_of_all flows coflows in
    let left = residual flows weight later in
    let port : r.port ≡ s.port = one_at ports r.port.side s.port.side r.port.number s.port.number a.port.in_range b.port.in_range
    (first_both (total r.port) (total s.port) (port_place ports r.port) (port_place ports s.port)
    (a.port.greatest s.port b.port.in_range) (b.port.greatest r.port a.port.in_range)) in
    let latest : b.latest ≡ a.latest = first_both (arrival a.latest) (arrival b.latest) b.latest a.latest
    (a.is_latest.latest b.latest b.is_latest.member) (b.is_latest.latest a.latest a.is_latest.member) in
    let there : IsLate quarters (total r.port) (arrival a.latest) ≡ IsLate quarters (total s.port) (arrival b.latest) =
    ap (λ p. IsLate quarters (total p) (arrival a.latest)) port ∙ ap (λ c. IsLate quarters (total s.port) (arrival c)) (sym latest) in
    let both : (r.coflow ≡ s.coflow) × (r.y ≡ s.y) = elim (late_or_early quarters (total r.port) (arrival a.latest)) [
      | inl late ↦
          let late' = subst (λ X. X) there late in
          (a.late_coflow late ∙ sym latest ∙ sym (b.late_coflow late'), a.late_y late ∙ sym (b.late_y late'))
      | inr early ↦ one_busy flows weight later coflows r s port inr' ins (a.early early) (b.early (λ late. early (subst (λ X. X) (sym there) late)))
    ] in
    let z : r.z ≡ s.z = a.z_is ∙ ap (λ c. left c - r.y * load flows c r.port) both.0 ∙ ap (λ y. left s.coflow - y * load flows s.coflow r.port) both.1 ∙
    ap (λ p. left s.coflow - s.y * load flows s.coflow p) port ∙ sym b.z_is in
    ap (λ c. place_of c r.port r.y r.z) both.0 ∙ ap (λ p. place_of s.coflow p r.y r.z) port ∙ ap (λ y. place_of s.coflow s.port y r.z) both.1 ∙
    ap (λ z. place_of s.coflow s.port s.y z) z

-- ---- all places

rest_in : (c : ℕ) (xs ys : List ℕ) → Apart (c ∷ xs) → ((d : ℕ) → Contains (c ∷ xs) d → Contains (c ∷ ys) d) → (d : ℕ) → Contains xs d → Contains ys d
rest_in c xs ys apart to d has = elim (first_or_tail c ys d (to d (in_tail c xs d has))) [
  | inl same ↦ absurd (apart.0 (subst (Contains xs) (sym same) has))
  | inr h ↦ h
]

one_released : (quarters : ℕ) (flows : List Flow) (weight arrival : ℕ → ℕ) (ports : ℕ) (later : List Entry) (a b : List ReleasePlace) →
    IsReleasedOrdered quarters flows weight arrival ports later a → IsReleasedOrdered quarters flows weight arrival ports later b →
    Apart (front (entries_of a)) → Apart (front (entries_of b)) → ((c : ℕ) → Contains (front (entries_of a)) c → Contains (front (entries_of b)) c) →
    ((c : ℕ) → Contains (front (entries_of b)) c → Contains (front (entries_of a)) c) → a ≡ b
one_released quarters flows weight arrival ports later [] [] oa ob aa ab to from = refl
one_released quarters flows weight arrival ports later [] (s ∷ b) oa ob aa ab to from =
    absurd (nothing_in s.coflow (from s.coflow (in_first s.coflow (front (entries_of b)))))
one_released quarters flows weight arrival ports later (r ∷ a) [] oa ob aa ab to from =
    absurd (nothing_in r.coflow (to r.coflow (in_first r.coflow (front (entries_of a)))))
one_released quarters flows weight arrival ports later (r ∷ a) (s ∷ b) oa ob aa ab to from =
    let xs = front (entries_of a) in
    let ys = front (entries_of b) in
    let loads = λ (port : Port). same_members (λ c. load flows c port) (s.coflow ∷ ys) (r.coflow ∷ xs) ab aa from to in
    let there = same_step quarters flows weight arrival ports later (s.coflow ∷ ys) (r.coflow ∷ xs) s loads to from ob.0 in
    let here : r ≡ s = one_step quarters flows weight arrival ports later (r.coflow ∷ xs) r s (in_first r.coflow xs) (from s.coflow (in_first s.coflow ys)) oa.0 there in
    let coflow : r.coflow ≡ s.coflow = ap (λ (x : ReleasePlace). x.coflow) here in
    let to' = subst (λ c. (d : ℕ) → Contains (r.coflow ∷ xs) d → Contains (c ∷ ys) d) (sym coflow) to in
    let from' = subst (λ c. (d : ℕ) → Contains (c ∷ ys) d → Contains (r.coflow ∷ xs) d) (sym coflow) from in
    let apart = subst (λ c. Apart (c ∷ ys)) (sym coflow) ab in
    let rest = one_released quarters flows weight arrival ports (entry_of r ∷ later) a b oa.1
    (subst (λ x. IsReleasedOrdered quarters flows weight arrival ports (entry_of x ∷ later) b) (sym here) ob.1) aa.1 ab.1
    (rest_in r.coflow xs ys aa to') (rest_in r.coflow ys xs apart from') in
    ap (λ x. x ∷ a) here ∙ ap (λ l. s ∷ l) rest

-- the coflows of one certificate are those of the other
named_by_both : (i : Instance) (a b : List ReleasePlace) → IsReleasedCertificate i a → IsReleasedCertificate i b → (c : ℕ) → Contains (front (entries_of a)) c →
    Contains (front (entries_of b)) c
named_by_both i a b ca cb c has = All-contains (Contains (front (entries_of b))) i.coflows c cb.all (All-contains (Contains i.coflows) (front (entries_of a)) c ca.coflow has)

pub one_certificate : (by : Threshold) (i : Instance) (arrival : ℕ → ℕ) (a b : List ReleasePlace) → IsReleasedBy by i arrival a → IsReleasedBy by i arrival b → a ≡ b
one_certificate by i arrival a b ra rb =
    one_released (quarters_of by) i.flows i.weight arrival i.ports [] a b ra.ordered rb.ordered (apart_from_pairs (front (entries_of a)) ra.certificate.once)
    (apart_from_pairs (front (entries_of b)) rb.certificate.once) (named_by_both i a b ra.certificate rb.certificate) (named_by_both i b a rb.certificate ra.certificate)
