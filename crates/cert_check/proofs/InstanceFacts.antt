-- Places that name each coflow once, as a certificate of the instance and beside the table of its loads.
use Rattle.std.proofs.Common.{◌≡◌, ℕ, ◌+◌, ◌*◌, ◌≤◌, ◌<◌, inl, inr, List, [], ◌∷◌, ◌++◌, length, reverse, refl, sym, ap, subst, ◌∙◌, arith, Contains}
use Rattle.std.specs.Prelude.{All, map, slice_index, sum_by}
use Rattle.std.specs.List.{range_with_len}
use Rattle.std.proofs.lemmas.List.{length-map, reverse-append}
use Rattle.std.proofs.Math.Nat.{mul-le-mul_left}
use Rattle.std.proofs.lemmas.List.Sums.{sum_by-cons}
use Rattle.std.proofs.lemmas.List.Elements.{All-contains, All-head, All-map, All-nil, All-push, All-tail, Contains-push_cases}
use Rattle.coflow_units.specs.declared.fabric.Port.{Port}
use Rattle.coflow_units.specs.Certificate.{Entry, IsCertificate, IsFeasible, bound, budget, div_up, dual_value, front, slack, unspent}
use Rattle.coflow_units.specs.Flows.{IsDistinct}
use Rattle.coflow_units.specs.Load.{load_of_all}
use Rattle.coflow_units.proofs.Numbers.{div_up_least}
use Rattle.coflow_units.proofs.Lists.{in_reverse, into_reverse, number_below, number_in, reverse-cons}
use Rattle.coflow_units.proofs.Sums.{Apart, all_of_members, apart_from_pairs, in_first, in_tail, nothing_in, pairs_from_apart}
use Rattle.port_load.specs.LoadTable.{LoadTable, total_at}
use Rattle.port_load.proofs.FlowSteps.{loads_within}
use Rattle.port_load.proofs.LoadSums.{within_units}
use Rattle.dual_cert.specs.TableCertificate.{HasLoadsOf, HasWeightsOf, IsCertificateOf, StaysInBudget}
use Rattle.dual_cert.proofs.FirstPlaces.{map_reverse}
use Rattle.dual_cert.proofs.SizeLaws.{unspent_fits, value_fits}
use Rattle.schedule_model.proofs.CostSums.{weight_small}
use Rattle.dual_cert.proofs.OfInstance.{certificate_of, loads_of_coflows, stays_of}
use Rattle.flow_table.specs.Table.{IsTable, TableFacts, instance_of}
use Rattle.report_text.specs.declared.value.PlaceLine.{PlaceLine}
use Rattle.cert_check.specs.Places.{NamesEach, certificate_in, coflows_in, entry_for}
use Rattle.cert_check.specs.Sound.{AreLoadsOf}
use Rattle.cert_check.proofs.NameSteps.{at_most, count_ids}

pub count_coflows : (ids : List ℕ) (lines : List PlaceLine) → length (coflows_in ids lines) ≡ length lines
count_coflows ids lines = length-map _ _ ∙ count_ids lines

pub few_places : (ids : List ℕ) (lines : List PlaceLine) → NamesEach (length ids) (coflows_in ids lines) → length lines ≤ length ids
few_places ids lines names =
    omega (
      arith,
      count_coflows ids lines,
      at_most (coflows_in ids lines) (length ids) (apart_from_pairs (coflows_in ids lines) names.once)
          (λ c has. All-contains (λ c. c < length ids) (coflows_in ids lines) c names.coflow has),
    )

-- ---- lists from the other end

pub apart_push : (xs : List ℕ) (x : ℕ) → Apart xs → (Contains xs x → ⊥) → Apart (xs ++ x ∷ [])
apart_push [] x apart out = ((λ has. nothing_in x has), tt)
apart_push (y ∷ ys) x apart out = (
  (λ has. elim (Contains-push_cases ys x y has) [
    | inl earlier ↦ apart.0 earlier
    | inr e ↦ out (subst (λ n. Contains (y ∷ ys) n) (sym e) (in_first y ys))
  ]),
  apart_push ys x apart.1 (λ has. out (in_tail y ys x has)),
)

pub apart_reverse : (xs : List ℕ) → Apart xs → Apart (reverse xs)
apart_reverse [] apart = tt
apart_reverse (x ∷ xs) apart = subst Apart (sym (reverse-cons x xs)) (apart_push (reverse xs) x (apart_reverse xs apart.1) (λ has. apart.0 (in_reverse xs x has)))

pub all_reverse : {X : Type 0} (P : X → Type 0) (xs : List X) → All P xs → All P (reverse xs)
all_reverse P [] all = All-nil P
all_reverse P (x ∷ xs) all = subst (All P) (sym (reverse-append (x ∷ []) xs)) (All-push P (reverse xs) x (all_reverse P xs (All-tail P x xs all)) (All-head P x xs all))

-- ---- the places as a certificate

coflows_are : (ids : List ℕ) (lines : List PlaceLine) → map (λ (e : Entry). e.coflow) (map (entry_for ids) lines) ≡ coflows_in ids lines
coflows_are ids [] = refl
coflows_are ids (p ∷ ps) = ap (λ l. (entry_for ids p).coflow ∷ l) (coflows_are ids ps)

pub front_is : (ids : List ℕ) (lines : List PlaceLine) → front (certificate_in ids lines) ≡ reverse (coflows_in ids lines)
front_is ids lines = map_reverse (λ (e : Entry). e.coflow) (map (entry_for ids) lines) ∙ ap reverse (coflows_are ids lines)

ports_are : (ids : List ℕ) (ports : ℕ) (lines : List PlaceLine) → All (λ (p : PlaceLine). p.port.number < ports) lines →
    All (λ (e : Entry). e.port.number < ports) (map (entry_for ids) lines)
ports_are ids ports lines all = All-map (λ (e : Entry). e.port.number < ports) (entry_for ids) lines all

pub is_certificate : (t : TableFacts) (weights : List ℕ) (lines : List PlaceLine) → NamesEach (length t.ids) (coflows_in t.ids lines) →
    All (λ (p : PlaceLine). p.port.number < t.ports) lines → IsCertificate (instance_of t weights) (certificate_in t.ids lines)
is_certificate t weights lines names ports =
    let coflows = coflows_in t.ids lines in
    let n = length t.ids in
    record {
      once = subst IsDistinct (sym (front_is t.ids lines)) (pairs_from_apart (reverse coflows) (apart_reverse coflows (apart_from_pairs coflows names.once)));
      coflow = subst (All (Contains (range_with_len 0 n))) (sym (front_is t.ids lines))
          (all_of_members (Contains (range_with_len 0 n)) (reverse coflows)
          (λ c has. number_in 0 n c (omega arith) (omega (arith, All-contains (λ c. c < n) coflows c names.coflow (in_reverse coflows c has)))));
      all = subst (λ l. All (Contains l) (range_with_len 0 n)) (sym (front_is t.ids lines))
          (all_of_members (Contains (reverse coflows)) (range_with_len 0 n) (λ c has. into_reverse coflows c (names.all c (omega (arith, number_below 0 n c has)))));
      port = all_reverse (λ (e : Entry). e.port.number < t.ports) (map (entry_for t.ids) lines) (ports_are t.ids t.ports lines ports);
    }

-- ---- the same beside the loads

module _ (t : TableFacts) (loads : LoadTable) (weights : List ℕ) (entries : List Entry) (of_table : AreLoadsOf t loads)
    (certificate : IsCertificate (instance_of t weights) entries) where
  pub beside_table : IsCertificateOf loads entries
  beside_table = certificate_of (instance_of t weights) loads entries certificate (sym of_table.ports)
      (λ c has. omega (arith, of_table.coflows, number_below 0 (length t.ids) c has))

  pub has_loads : HasLoadsOf t.flows loads entries
  has_loads = loads_of_coflows (instance_of t weights) loads entries certificate (sym of_table.ports)
      (λ c port has lt. of_table.loads_are c port (omega (arith, of_table.coflows, number_below 0 (length t.ids) c has)) (omega (arith, of_table.ports)))

  pub has_weights : HasWeightsOf (λ c. slice_index weights c) weights entries
  has_weights = λ c has. refl

  pub in_budget : IsFeasible t.flows (λ c. slice_index weights c) entries → StaysInBudget loads weights entries
  in_budget feasible = stays_of t.flows (λ c. slice_index weights c) loads weights entries has_loads has_weights feasible

pub totals_fit : (t : TableFacts) (loads : LoadTable) → IsTable t → AreLoadsOf t loads → (port : Port) → port.number < loads.ports → total_at loads port ≤ 1099511627776
totals_fit t loads table of_table port lt = omega (arith, loads_within t.flows loads of_table.loads_are port lt, table.few_units)

-- the entries are a certificate of the instance, also beside the table of its loads
pub record Settled (t : TableFacts) (loads : LoadTable) (weights : List ℕ) (places : List PlaceLine) (entries : List Entry) : Type 0 where
  pub ports : All (λ (p : PlaceLine). p.port.number < t.ports) places
  pub entries_are : entries ≡ certificate_in t.ids places
  pub certificate : IsCertificate (instance_of t weights) entries
  pub beside : IsCertificateOf loads entries
  pub loads_are : HasLoadsOf t.flows loads entries

-- the places as they were read, and the certificate that was made of them
pub settled : (t : TableFacts) (loads : LoadTable) (weights coflows : List ℕ) (lent places : List PlaceLine) (ports : ℕ) (cert : List Entry) → AreLoadsOf t loads →
    NamesEach (length t.ids) (coflows_in t.ids places) → lent ≡ places → ports ≡ t.ports →
    All (λ (p : PlaceLine). p.port.number < ports) lent → coflows ≡ coflows_in t.ids places → ((ids : List ℕ) → coflows ≡ coflows_in ids lent → cert ≡ map (entry_for ids) lent) →
    Settled t loads weights places (reverse cert)
settled t loads weights coflows lent places ports cert of_table names is p all c made =
    let in' = subst (λ (l : List PlaceLine). All (λ (x : PlaceLine). x.port.number < t.ports) l) is (subst (λ n. All (λ (x : PlaceLine). x.port.number < n) lent) p all) in
    let e : reverse cert ≡ certificate_in t.ids places = ap reverse (made t.ids (c ∙ ap (coflows_in t.ids) (sym is)) ∙ ap (map (entry_for t.ids)) is) in
    let certificate = subst (IsCertificate (instance_of t weights)) (sym e) (is_certificate t weights places names in') in
    record {
      ports = in';
      entries_are = e;
      certificate = certificate;
      beside = beside_table t loads weights (reverse cert) of_table certificate;
      loads_are = has_loads t loads weights (reverse cert) of_table certificate;
    }

-- ---- how large a bound and a slack can be

sum_at_most : (w : ℕ → ℕ) (most : ℕ) (xs : List ℕ) → ((x : ℕ) → w x ≤ most) → sum_by w xs ≤ length xs * most
sum_at_most w most [] small = omega arith
sum_at_most w most (x ∷ xs) small = omega (arith, sum_by-cons w x xs, small x, sum_at_most w most xs small)

div_up_at_most : (n d : ℕ) → 0 < d → div_up n d ≤ n
div_up_at_most n d some = div_up_least n d n some (omega (arith, mul-le-mul_left n some))

pub values_fit : (t : TableFacts) (weights : List ℕ) (entries : List Entry) (low stated : ℕ) → IsTable t → IsCertificate (instance_of t weights) entries →
    All (λ w. w ≤ 4294967296) weights → IsFeasible t.flows (λ c. slice_index weights c) entries →
    low ≤ bound t.flows entries → stated ≡ slack t.flows (λ c. slice_index weights c) entries → 4 * low + stated < 340282366920938463463374607431768211456
values_fit t weights entries low stated table certificate small feasible lower same =
    let weight = λ (c : ℕ). slice_index weights c in
    let apart = apart_from_pairs (front entries) certificate.once in
    let count = at_most (front entries) (length t.ids) apart
    (λ c has. omega (arith, number_below 0 (length t.ids) c (All-contains (Contains (range_with_len 0 (length t.ids))) (front entries) c certificate.coflow has))) in
    let budgets = sum_at_most (budget weight) 4722366482869645213696 (front entries) (λ c. omega (arith, weight_small weights c small)) in
    let sum : sum_by (budget weight) (front entries) ≤ 19342813113834066795298816 = omega (arith, count, budgets, table.few_coflows) in
    let load = λ (port : Port) (lt : port.number < t.ports). let l : load_of_all t.flows (front entries) port ≤ 1099511627776 =
    omega (arith, within_units t.flows (front entries) port apart, table.few_units) in l in
    let value = value_fits t.flows weight t.ports 1099511627776 entries apart certificate.port feasible load in
    let left = unspent_fits t.flows weight t.ports 1099511627776 entries certificate.port load in
    omega (
      arith,
      lower,
      same,
      sum,
      value,
      left,
      div_up_at_most (dual_value t.flows entries) 2199023255552 (omega arith),
      div_up_at_most (2 * unspent t.flows weight entries) 1099511627776 (omega arith),
    )
