-- The first of the thresholds that has the greatest total, of those tried so far.
use Rattle.std.proofs.Common.{◌≡◌, ℕ, ◌+◌, ◌<◌, ◌≤◌, inl, inr, List, [], ◌∷◌, get_or, refl, sym, ap, subst, ◌∙◌, arith, zero, suc}
use Rattle.std.proofs.lemmas.Bool.{cases_lt}
use Rattle.coflow_units.specs.Flows.{Instance}
use Rattle.release_bound.specs.declared.place.ReleasePlace.{ReleasePlace}
use Rattle.release_bound.specs.declared.threshold.Threshold.{Threshold}
use Rattle.release_bound.specs.declared.threshold.Threshold.TheVariants.{Zero, Half, ThreeQuarters, One, OneAndHalf, Two}
use Rattle.release_bound.specs.Release.{released_total}
use Rattle.release_bound.specs.ReleaseOrder.{IsReleasedBy, quarters_of}
use Rattle.release_bound.specs.Best.{IsBestReleased}

-- all thresholds, the least first
abbrev pub thresholds : List Threshold
thresholds = Zero ∷ Half ∷ ThreeQuarters ∷ One ∷ OneAndHalf ∷ Two ∷ []

abbrev quarters : List ℕ
quarters = 0 ∷ 2 ∷ 3 ∷ 4 ∷ 6 ∷ 8 ∷ []

-- the place of a threshold among them
abbrev pub index : Threshold → ℕ
index Zero = 0
index Half = 1
index ThreeQuarters = 2
index One = 3
index OneAndHalf = 4
index Two = 5

at_index : (b : Threshold) → get_or thresholds (index b) Zero ≡ b
at_index Zero = refl
at_index Half = refl
at_index ThreeQuarters = refl
at_index One = refl
at_index OneAndHalf = refl
at_index Two = refl

quarters_at : (b : Threshold) → get_or quarters (index b) 0 ≡ quarters_of b
quarters_at Zero = refl
quarters_at Half = refl
quarters_at ThreeQuarters = refl
quarters_at One = refl
quarters_at OneAndHalf = refl
quarters_at Two = refl

index_below : (b : Threshold) → index b < 6
index_below Zero = omega arith
index_below Half = omega arith
index_below ThreeQuarters = omega arith
index_below One = omega arith
index_below OneAndHalf = omega arith
index_below Two = omega arith

rises : (k : ℕ) → k < 5 → get_or quarters k 0 < get_or quarters (k + 1) 0
rises zero lt = omega arith
rises (suc zero) lt = omega arith
rises (suc (suc zero)) lt = omega arith
rises (suc (suc (suc zero))) lt = omega arith
rises (suc (suc (suc (suc zero)))) lt = omega arith
rises (suc (suc (suc (suc (suc k))))) lt = absurd (omega (arith, lt))

rise : (m n : ℕ) → m < n → n < 6 → get_or quarters m 0 < get_or quarters n 0
rise m zero lt small = absurd (omega (arith, lt))
rise m (suc n) lt small =
    let e : n + 1 ≡ suc n = omega arith in
    let step = subst (λ k. get_or quarters n 0 < get_or quarters k 0) e (rises n (omega (arith, small))) in
    elim (cases_lt m n) [
      | inl low ↦ omega (arith, step, rise m n low (omega (arith, small)))
      | inr past ↦ let same : n ≡ m = omega (arith, lt, past) in subst (λ k. get_or quarters k 0 < get_or quarters (suc n) 0) same step
    ]

-- a lesser threshold stands before
lesser_before : (a b : Threshold) → quarters_of a < quarters_of b → index a < index b
lesser_before a b lt = elim (cases_lt (index a) (index b)) [
  | inl low ↦ low
  | inr past ↦ elim (cases_lt (index b) (index a)) [
    | inl more ↦ absurd (omega (arith, lt, rise (index b) (index a) more (index_below a), quarters_at a, quarters_at b))
    | inr same ↦
        let e : index a ≡ index b = omega (arith, past, same) in
        absurd (omega (arith, lt, quarters_at a, quarters_at b, ap (λ k. get_or quarters k 0) e))
  ]
]

-- of the thresholds up to the place, the first that has the greatest total
pub record IsBestUpTo (n : ℕ) (i : Instance) (arrival : ℕ → ℕ) (places : List ReleasePlace) (total : ℕ) : Type 0 where
  pub by : Threshold
  pub tried : index by ≤ n
  pub certificate : IsReleasedBy by i arrival places
  pub total_is : total ≡ released_total i.flows arrival i.ports places
  pub best : (other : Threshold) → index other ≤ n → (others : List ReleasePlace) × IsReleasedBy other i arrival others ×
      (released_total i.flows arrival i.ports others ≤ total) × (index other < index by → released_total i.flows arrival i.ports others < total)

pub best_first : (i : Instance) (arrival : ℕ → ℕ) (places : List ReleasePlace) (total : ℕ) → IsReleasedBy Zero i arrival places →
    total ≡ released_total i.flows arrival i.ports places → IsBestUpTo 0 i arrival places total
best_first i arrival places total certificate is = record {
  by = Zero;
  tried = omega arith;
  certificate = certificate;
  total_is = is;
  best = λ other first.
      let none : index other ≡ 0 = omega (arith, first) in
      let e : Zero ≡ other = ap (λ k. get_or thresholds k Zero) (sym none) ∙ at_index other in
      (places, subst (λ b. IsReleasedBy b i arrival places) e certificate, omega (arith, is), λ lt. absurd (omega (arith, lt)));
}

-- a threshold that comes next
module _ (n : ℕ) (i : Instance) (arrival : ℕ → ℕ) (places : List ReleasePlace) (total : ℕ) (so_far : IsBestUpTo n i arrival places total) (b : Threshold) (at : index b ≡ n + 1)
    (news : List ReleasePlace) (sum : ℕ) (certificate : IsReleasedBy b i arrival news) (is : sum ≡ released_total i.flows arrival i.ports news) where
  the_next : (other : Threshold) → index other ≡ n + 1 → b ≡ other
  the_next other e = sym (at_index b) ∙ ap (λ k. get_or thresholds k Zero) (at ∙ sym e) ∙ at_index other

  pub best_new : total < sum → IsBestUpTo (n + 1) i arrival news sum
  best_new more = record {
    by = b;
    tried = omega (arith, at);
    certificate = certificate;
    total_is = is;
    best = λ other within. elim (cases_lt n (index other)) [
      | inl last ↦
          let e = the_next other (omega (arith, last, within)) in
          (news, subst (λ a. IsReleasedBy a i arrival news) e certificate, omega (arith, is), λ lt. absurd (omega (arith, lt, last, at)))
      | inr before ↦
          let (others, released, le, less) = so_far.best other before in
          (others, released, omega (arith, le, more), λ lt. omega (arith, le, more))
    ];
  }

  pub best_old : sum ≤ total → IsBestUpTo (n + 1) i arrival places total
  best_old most = record {
    by = so_far.by;
    tried = omega (arith, so_far.tried);
    certificate = so_far.certificate;
    total_is = so_far.total_is;
    best = λ other within. elim (cases_lt n (index other)) [
      | inl last ↦
          let e = the_next other (omega (arith, last, within)) in
          (news, subst (λ a. IsReleasedBy a i arrival news) e certificate, omega (arith, is, most), λ lt. absurd (omega (arith, lt, last, so_far.tried)))
      | inr before ↦ so_far.best other before
    ];
  }

pub best_of_all : (i : Instance) (arrival : ℕ → ℕ) (places : List ReleasePlace) (total : ℕ) → IsBestUpTo 5 i arrival places total → IsBestReleased i arrival places total
best_of_all i arrival places total h = record {
  by = h.by;
  certificate = h.certificate;
  total_is = h.total_is;
  best = λ other.
      let (others, released, le, less) = h.best other (omega (arith, index_below other)) in
      (others, released, le, λ lt. less (lesser_before other h.by lt));
}

-- the thresholds behind the first
pub index_of : (k : ℕ) (d : Threshold) → k < 5 → index (get_or (Half ∷ ThreeQuarters ∷ One ∷ OneAndHalf ∷ Two ∷ []) k d) ≡ k + 1
index_of zero d lt = refl
index_of (suc zero) d lt = refl
index_of (suc (suc zero)) d lt = refl
index_of (suc (suc (suc zero))) d lt = refl
index_of (suc (suc (suc (suc zero)))) d lt = refl
index_of (suc (suc (suc (suc (suc k))))) d lt = absurd (omega (arith, lt))
