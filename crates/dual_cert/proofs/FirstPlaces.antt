-- The entries of the first places of a list of charges.
use Rattle.std.proofs.Common.{◌≡◌, ℕ, ◌+◌, ◌<◌, ◌≤◌, inl, inr, List, [], ◌∷◌, ◌++◌, map, reverse, length, take, drop, Contains, refl, sym, ap, subst, ◌∙◌, arith, zero, suc}
use Rattle.std.specs.Prelude.{All}
use Rattle.std.proofs.lemmas.Bool.{cases_eq}
use Rattle.std.proofs.lemmas.List.{map-append, reverse-append, take_all, take-append-drop}
use Rattle.std.proofs.lemmas.List.{take_more}
use Rattle.std.proofs.lemmas.List.Elements.{All-cons, All-contains, All-head, All-nil, All-tail}
use Rattle.coflow_units.specs.declared.fabric.Flow.{Flow}
use Rattle.coflow_units.specs.declared.fabric.Side.TheVariants.{Ingress}
use Rattle.coflow_units.specs.Certificate.{Entry, dual_value, front, over_places, used}
use Rattle.coflow_units.proofs.Sums.{Apart, first_or_tail, in_first, in_tail, nothing_in}
use Rattle.port_load.specs.LoadTable.{LoadTable}
use Rattle.dual_cert.specs.declared.cert.Charge.{Charge}
use Rattle.dual_cert.specs.TableCertificate.{IsCertificateOf, all_entries, charge_at, coflow_at, entries_to, entry_at, port_at}

pub map_reverse : {X Y : Type 0} (f : X → Y) (xs : List X) → map f (reverse xs) ≡ reverse (map f xs)
map_reverse f [] = refl
map_reverse f (x ∷ xs) =
    ap (map f) (reverse-append (x ∷ []) xs) ∙ map-append f (reverse xs) (x ∷ []) ∙ ap (λ l. l ++ f x ∷ []) (map_reverse f xs) ∙ sym (reverse-append (f x ∷ []) (map f xs))

-- one more place
pub entries_more : (k : ℕ) (charges : List Charge) → k < length charges → entries_to (k + 1) charges ≡ entry_at (charge_at charges k) ∷ entries_to k charges
entries_more k charges lt =
    ap (λ l. reverse (map entry_at l)) (take_more charges k record { coflow = 0; port = record { side = Ingress; number = 0 }; y = 0 } lt)
    ∙ ap reverse (map-append entry_at (take k charges) (charge_at charges k ∷ []))
    ∙ reverse-append (map entry_at (take k charges)) (entry_at (charge_at charges k) ∷ [])

pub entries_suc : (k : ℕ) (charges : List Charge) → k < length charges → entries_to (suc k) charges ≡ entry_at (charge_at charges k) ∷ entries_to k charges
entries_suc k charges lt =
    let e : suc k ≡ k + 1 = omega arith in
    ap (λ n. entries_to n charges) e ∙ entries_more k charges lt

pub entries_whole : (k : ℕ) (charges : List Charge) → length charges ≤ k → entries_to k charges ≡ all_entries charges
entries_whole k charges le = ap (λ l. reverse (map entry_at l)) (take_all k charges le)

-- the entries of the places from number k on, from the last to the first
abbrev pub entries_from : ℕ → List Charge → List Entry
entries_from k charges = reverse (map entry_at (drop k charges))

pub entries_split : (k : ℕ) (charges : List Charge) → all_entries charges ≡ entries_from k charges ++ entries_to k charges
entries_split k charges =
    ap (λ l. reverse (map entry_at l)) (sym (take-append-drop k charges))
    ∙ ap reverse (map-append entry_at (take k charges) (drop k charges))
    ∙ reverse-append (map entry_at (take k charges)) (map entry_at (drop k charges))

-- ---- an end of a list of entries

end_apart : (later before : List Entry) → Apart (front (later ++ before)) → Apart (front before)
end_apart [] before apart = apart
end_apart (e ∷ later) before apart = end_apart later before apart.1

end_in : (later before : List Entry) (c : ℕ) → Contains (front before) c → Contains (front (later ++ before)) c
end_in [] before c has = has
end_in (e ∷ later) before c has = in_tail e.coflow (front (later ++ before)) c (end_in later before c has)

end_has : (later before : List Entry) (e : Entry) → Contains before e → Contains (later ++ before) e
end_has [] before e has = has
end_has (x ∷ later) before e has = in_tail x (later ++ before) e (end_has later before e has)

end_used : (flows : List Flow) (later before : List Entry) (c : ℕ) → used flows before c ≤ used flows (later ++ before) c
end_used flows [] before c = omega arith
end_used flows (e ∷ later) before c = omega (arith, end_used flows later before c)

end_value : (flows : List Flow) (later before : List Entry) → dual_value flows before ≤ dual_value flows (later ++ before)
end_value flows [] before = omega arith
end_value flows (e ∷ later) before = omega (arith, end_value flows later before)

end_places : (flows : List Flow) (number : ℕ → ℕ) (later before : List Entry) → over_places flows number before ≤ over_places flows number (later ++ before)
end_places flows number [] before = omega arith
end_places flows number (e ∷ later) before = omega (arith, end_places flows number later before)

-- ---- the same of the first places

pub first_apart : (k : ℕ) (charges : List Charge) → Apart (front (all_entries charges)) → Apart (front (entries_to k charges))
first_apart k charges apart = end_apart (entries_from k charges) (entries_to k charges) (subst (λ l. Apart (front l)) (entries_split k charges) apart)

pub first_in : (k : ℕ) (charges : List Charge) (c : ℕ) → Contains (front (entries_to k charges)) c → Contains (front (all_entries charges)) c
first_in k charges c has = subst (λ l. Contains (front l) c) (sym (entries_split k charges)) (end_in (entries_from k charges) (entries_to k charges) c has)

pub first_used : (flows : List Flow) (k : ℕ) (charges : List Charge) (c : ℕ) → used flows (entries_to k charges) c ≤ used flows (all_entries charges) c
first_used flows k charges c =
    subst (λ l. used flows (entries_to k charges) c ≤ used flows l c) (sym (entries_split k charges)) (end_used flows (entries_from k charges) (entries_to k charges) c)

pub first_value : (flows : List Flow) (k : ℕ) (charges : List Charge) → dual_value flows (entries_to k charges) ≤ dual_value flows (all_entries charges)
first_value flows k charges = subst (λ l. dual_value flows (entries_to k charges) ≤ dual_value flows l) (sym (entries_split k charges))
    (end_value flows (entries_from k charges) (entries_to k charges))

pub first_places : (flows : List Flow) (number : ℕ → ℕ) (k : ℕ) (charges : List Charge) →
    over_places flows number (entries_to k charges) ≤ over_places flows number (all_entries charges)
first_places flows number k charges =
    subst (λ l. over_places flows number (entries_to k charges) ≤ over_places flows number l) (sym (entries_split k charges))
    (end_places flows number (entries_from k charges) (entries_to k charges))

-- ---- members

pub entry_in : (k : ℕ) (charges : List Charge) → k < length charges → Contains (all_entries charges) (entry_at (charge_at charges k))
entry_in k charges lt =
    let here = subst (λ l. Contains l (entry_at (charge_at charges k))) (sym (entries_more k charges lt)) (in_first (entry_at (charge_at charges k)) (entries_to k charges)) in
    subst (λ l. Contains l (entry_at (charge_at charges k))) (sym (entries_split (k + 1) charges))
    (end_has (entries_from (k + 1) charges) (entries_to (k + 1) charges) (entry_at (charge_at charges k)) here)

-- a coflow is in the front of its own place and of those after it
pub in_front : (k : ℕ) (charges : List Charge) (place : ℕ) → place < k → k ≤ length charges → Contains (front (entries_to k charges)) (coflow_at charges place)
in_front zero charges place lt le = absurd (omega arith)
in_front (suc k) charges place lt le = subst (λ l. Contains (front l) (coflow_at charges place)) (sym (entries_suc k charges (omega arith))) (elim (cases_eq place k) [
  | inl e ↦ subst (λ n. Contains (coflow_at charges k ∷ front (entries_to k charges)) (coflow_at charges n)) (sym e) (in_first (coflow_at charges k) (front (entries_to k charges)))
  | inr ne ↦ in_tail (coflow_at charges k) (front (entries_to k charges)) (coflow_at charges place) (in_front k charges place (omega (arith, ne)) (omega arith))
])

-- and in no earlier one
pub not_before : (place : ℕ) (charges : List Charge) → place < length charges → Apart (front (all_entries charges)) →
    Contains (front (entries_to place charges)) (coflow_at charges place) → ⊥
not_before place charges lt apart has = (subst (λ l. Apart (front l)) (entries_more place charges lt) (first_apart (place + 1) charges apart)).0 has

pub coflow_in : (t : LoadTable) (charges : List Charge) (place : ℕ) → IsCertificateOf t (all_entries charges) → place < length charges → coflow_at charges place < t.coflows
coflow_in t charges place certificate lt =
    All-contains (λ (e : Entry). e.coflow < t.coflows) (all_entries charges) (entry_at (charge_at charges place)) certificate.coflow (entry_in place charges lt)

pub port_in : (t : LoadTable) (charges : List Charge) (place : ℕ) → IsCertificateOf t (all_entries charges) → place < length charges → (port_at charges place).number < t.ports
port_in t charges place certificate lt =
    All-contains (λ (e : Entry). e.port.number < t.ports) (all_entries charges) (entry_at (charge_at charges place)) certificate.port (entry_in place charges lt)

front_below : (n : ℕ) (entries : List Entry) → All (λ (e : Entry). e.coflow < n) entries → (c : ℕ) → Contains (front entries) c → c < n
front_below n [] all c has = absurd (nothing_in c has)
front_below n (e ∷ before) all c has = elim (first_or_tail e.coflow (front before) c has) [
  | inl same ↦ subst (λ k. k < n) same (All-head (λ (x : Entry). x.coflow < n) e before all)
  | inr later ↦ front_below n before (All-tail (λ (x : Entry). x.coflow < n) e before all) c later
]

pub named_in : (t : LoadTable) (entries : List Entry) → IsCertificateOf t entries → (c : ℕ) → Contains (front entries) c → c < t.coflows
named_in t entries certificate c has = front_below t.coflows entries certificate.coflow c has

pub all_from_front : (n : ℕ) (entries : List Entry) → ((c : ℕ) → Contains (front entries) c → c < n) → All (λ (e : Entry). e.coflow < n) entries
all_from_front n [] below = All-nil (λ (e : Entry). e.coflow < n)
all_from_front n (e ∷ before) below =
    All-cons (λ (x : Entry). x.coflow < n) e before (below e.coflow (in_first e.coflow (front before)))
    (all_from_front n before (λ c has. below c (in_tail e.coflow (front before) c has)))

-- a coflow of the first places is that of one of them
pub place_of : (k : ℕ) (charges : List Charge) (c : ℕ) → k ≤ length charges → Contains (front (entries_to k charges)) c → (place : ℕ) × (place < k) × (coflow_at charges place ≡ c)
place_of zero charges c le has = absurd (nothing_in c has)
place_of (suc k) charges c le has =
    elim (first_or_tail (coflow_at charges k) (front (entries_to k charges)) c (subst (λ l. Contains (front l) c) (entries_suc k charges (omega arith)) has)) [
      | inl e ↦ (k, omega arith, e)
      | inr later ↦ let (place, lt, e) = place_of k charges c (omega arith) later in (place, omega arith, e)
    ]
