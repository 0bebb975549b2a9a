-- When an arrival is late: a load and an arrival are so or not, and the program's test says which.
use Rattle.std.proofs.Common.{ℕ, ◌*◌, ◌<◌, ◌≤◌, ◌-◌, ◌⊎◌, inl, inr, arith}
use Rattle.coflow_units.proofs.Numbers.{zero_or_more}
use Rattle.release_bound.specs.declared.threshold.Threshold.{Threshold}
use Rattle.release_bound.specs.declared.threshold.Threshold.TheVariants.{Zero, Half, ThreeQuarters, One, OneAndHalf, Two}
use Rattle.release_bound.specs.ReleaseOrder.{IsLate, quarters_of}

-- a threshold is at most twice the load
pub few_quarters : (by : Threshold) → quarters_of by ≤ 8
few_quarters Zero = omega arith
few_quarters Half = omega arith
few_quarters ThreeQuarters = omega arith
few_quarters One = omega arith
few_quarters OneAndHalf = omega arith
few_quarters Two = omega arith

pub not_late : (quarters load arrival : ℕ) → 0 < load → 0 < quarters → 4 * arrival ≤ quarters * load → IsLate quarters load arrival → ⊥
not_late quarters load arrival some part le (inl none) = omega arith
not_late quarters load arrival some part le (inr (inl none)) = omega arith
not_late quarters load arrival some part le (inr (inr less)) = omega arith

pub late_or_early : (quarters load arrival : ℕ) → IsLate quarters load arrival ⊎ (IsLate quarters load arrival → ⊥)
late_or_early quarters load arrival = elim (zero_or_more load) [
  | inl none ↦ inl (inl none)
  | inr some ↦ elim (zero_or_more quarters) [
    | inl none ↦ inl (inr (inl none))
    | inr part ↦ elim (zero_or_more (4 * arrival - quarters * load)) [
      | inl within ↦ inr (not_late quarters load arrival some part (omega (arith, within)))
      | inr above ↦ inl (inr (inr (omega (arith, above))))
    ]
  ]
]

-- where nobody is late there is load
pub has_load : (quarters load arrival : ℕ) → (IsLate quarters load arrival → ⊥) → 0 < load
has_load quarters load arrival early = elim (zero_or_more load) [
  | inl none ↦ absurd (early (inl none))
  | inr some ↦ some
]
