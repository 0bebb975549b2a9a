-- Unfit answers, worked out by hand.
use Rattle.std.proofs.Common.{◌≡◌, inl, inr, [], ◌∷◌, subst, arith}
use Rattle.coflow_units.proofs.Sums.{in_first, nothing_in}
use Rattle.rankers.specs.Rows.{UnfitRows}
use Rattle.rankers.specs.Scores.{IsNew}

zero_is_new : IsNew 2 (0 ∷ 0 ∷ []) 0
zero_is_new = record {
  known = omega arith;
  once = λ has. nothing_in 0 has;
}

pub unfit_rows : UnfitRows
unfit_rows = record {
  repeated = record {
    counted = omega arith;
    inside = omega arith;
    unfit = inr (in_first 0 []);
    before = λ k lt. let e : 0 ≡ k = omega (arith, lt) in subst (IsNew 2 (0 ∷ 0 ∷ [])) e zero_is_new;
  };
  unknown = record {
    counted = omega arith;
    inside = omega arith;
    unfit = inl (omega arith);
    before = λ k lt. absurd (omega (arith, lt));
  };
}
