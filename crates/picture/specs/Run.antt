-- What the picture of an online run shows. A time is how many slots have ended by then.
use Rattle.std.specs.Prelude.{◌≡◌, ℕ, ◌-◌, ◌≤◌, ◌^◌, ◌&&◌, Bool, leb, List, All, filter, length}
use Rattle.coflow_units.specs.declared.limits.TheConstants.{MAX_COFLOWS}
use Rattle.picture.specs.declared.run_value.RunPicture.{RunPicture}
use Rattle.picture.specs.declared.value.Span.{Span}
use Rattle.picture.specs.declared.value.Step.{Step}
use Rattle.picture.specs.Curve.{IsCurve}
use Rattle.picture.specs.Layout.{IsSpan}

-- a slot of the span ends at this time, or the first one begins
abbrev pub is_edge : Span → ℕ → Bool
is_edge s time = leb (s.first - 1) time && leb time s.last

-- The picture shows a run whose coflows arrive at these times and are completed at the ends of these slots, and whose
-- orders are published at these times: how many coflows there are, the curve of arrivals and that of completions, and
-- the publishings at edges of the span, in the order of the run.
pub record IsRunOf (arrived ends published : List ℕ) (p : RunPicture) : Type 0 where
  pub count : p.coflows ≡ length arrived
  pub arrivals : IsCurve arrived p.arrivals
  pub done : IsCurve ends p.done
  pub ticks_are : p.ticks ≡ filter (is_edge p.span) published

-- The span has a slot, and a schedule may have its last slot. There are no more coflows than a trace may have, and none
-- of the curves rises above them. No order is published behind the span. A hundred times the cost is a number of 128
-- bits.
pub record IsRunDrawable (p : RunPicture) : Type 0 where
  pub span : IsSpan p.span
  pub few : p.coflows ≤ MAX_COFLOWS
  pub arrivals : All (λ (s : Step). s.done ≤ p.coflows) p.arrivals
  pub done : All (λ (s : Step). s.done ≤ p.coflows) p.done
  pub ticks : All (λ time. time ≤ p.span.last) p.ticks
  pub small_cost : p.costs.cost ≤ 2 ^ 120
