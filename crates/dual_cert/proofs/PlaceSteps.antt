-- The table of places is filled place by place.
use Rattle.std.proofs.Common.{◌≡◌, ◌≢◌, ℕ, ◌+◌, ◌<◌, ◌≤◌, inl, inr, ◌⊎◌, List, length, Contains, sym, ap, subst, ◌∙◌, arith, length-set}
use Rattle.std.specs.Prelude.{slice_index, slice_set, replicate}
use Rattle.std.proofs.lemmas.Bool.{cases_eq}
use Rattle.std.proofs.lemmas.List.{get_or-replicate, get_or-set_same, get_or-set_other, length-replicate}
use Rattle.coflow_units.specs.Certificate.{front}
use Rattle.coflow_units.proofs.Sums.{apart_from_pairs}
use Rattle.port_load.specs.LoadTable.{LoadTable}
use Rattle.dual_cert.specs.declared.cert.Charge.{Charge}
use Rattle.dual_cert.specs.PlaceTable.{HasPlaces}
use Rattle.dual_cert.specs.TableCertificate.{IsCertificateOf, all_entries, coflow_at, entries_to}
use Rattle.dual_cert.proofs.FirstPlaces.{coflow_in, in_front, not_before, place_of}

pub record PlacedSoFar (charges : List Charge) (places : List ℕ) (k : ℕ) : Type 0 where
  pub len : length places ≡ 4096
  pub own : (p : ℕ) → p < k → slice_index places (coflow_at charges p) ≡ p
  pub other : (c : ℕ) → c < 4096 → (length charges ≤ slice_index places c) ⊎ ((slice_index places c < k) × (coflow_at charges (slice_index places c) ≡ c))

pub placed_none : (charges : List Charge) (most : ℕ) → length charges ≤ most → PlacedSoFar charges (replicate 4096 most) 0
placed_none charges most le = record {
  len = length-replicate 4096 most;
  own = λ p lt. absurd (omega (arith, lt));
  other = λ c lt. inl (omega (arith, le, get_or-replicate 4096 c most 0 lt));
}

pub placed_more : (t : LoadTable) (charges : List Charge) (places : List ℕ) (k : ℕ) → IsCertificateOf t (all_entries charges) → t.coflows ≤ 4096 → PlacedSoFar charges places k →
    k < length charges →
    PlacedSoFar charges (slice_set places (coflow_at charges k) k) (k + 1)
placed_more t charges places k certificate few so_far lt =
    let here = coflow_at charges k in
    let inside : here < length places = omega (arith, so_far.len, few, coflow_in t charges k certificate lt) in
    let same = get_or-set_same places here k 0 inside in
    let not_here : (p : ℕ) → p < k → coflow_at charges p ≢ here = λ p lp e.
    not_before k charges lt (apart_from_pairs (front (all_entries charges)) certificate.once)
    (subst (λ c. Contains (front (entries_to k charges)) c) e (in_front k charges p lp (omega (arith, lt)))) in
    record {
      len = length-set places here k ∙ so_far.len;
      own = λ p lp. elim (cases_eq p k) [
        | inl e ↦ ap (λ j. slice_index (slice_set places here k) (coflow_at charges j)) e ∙ same ∙ sym e
        | inr ne ↦ let before : p < k = omega (arith, lp, ne) in get_or-set_other places here (coflow_at charges p) k 0 (not_here p before) ∙ so_far.own p before
      ];
      other = λ c lc. elim (cases_eq c here) [
        | inl e ↦
            let is : slice_index (slice_set places here k) c ≡ k = ap (slice_index (slice_set places here k)) e ∙ same in
            inr (omega (arith, is), ap (coflow_at charges) is ∙ sym e)
        | inr ne ↦
            let is : slice_index (slice_set places here k) c ≡ slice_index places c = get_or-set_other places here c k 0 ne in
            elim (so_far.other c lc) [
              | inl none ↦ inl (omega (arith, none, is))
              | inr (below, at) ↦ inr (omega (arith, below, is), ap (coflow_at charges) is ∙ at)
            ]
      ];
    }

pub placed_all : (charges : List Charge) (places : List ℕ) (k : ℕ) → PlacedSoFar charges places k → k ≡ length charges → HasPlaces charges places
placed_all charges places k so_far end = record {
  len = so_far.len;
  early = λ c place lc lp le. elim (so_far.other c lc) [
    | inl none ↦ absurd (omega (arith, none, lp, le))
    | inr (below, at) ↦ subst (λ x. Contains (front (entries_to (place + 1) charges)) x) at
        (in_front (place + 1) charges (slice_index places c) (omega (arith, le)) (omega (arith, lp)))
  ];
  late = λ c place lc lp lt has.
      let (p, before, at) = place_of (place + 1) charges c (omega (arith, lp)) has in
      let own = so_far.own p (omega (arith, before, lp, end)) in
      let is : slice_index places c ≡ p = ap (slice_index places) (sym at) ∙ own in
      omega (arith, is, before, lt);
}
