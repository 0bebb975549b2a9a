-- One coflow more.
use Rattle.std.proofs.Common.{◌≡◌, ℕ, suc, ◌+◌, ◌*◌, ◌<◌, ◌≤◌, List, [], ◌∷◌, ◌++◌, arith, ap, sym, ◌∙◌, refl, zero-add}
use Rattle.std.proofs.lemmas.List.FromFn.{sum_by-map-range_with_len_more}
use Rattle.std.proofs.Math.Nat.{mod-lt}
use Rattle.workload.specs.declared.coflow.MadeCoflow.{MadeCoflow}
use Rattle.workload.specs.Coflows.{arrival_before, before_coflow, behind_coflow, coflow_at, coflow_from, first_coflows, growth}
use Rattle.workload.specs.Draws.{draw}
use Rattle.workload.proofs.DrawSteps.{element_more}

pub draw_below : (m x : ℕ) → 0 < m → draw m x < m
unfolding draw
draw_below m x lt = mod-lt _ lt

pub before_first : (seed : ℕ) → seed ≡ before_coflow seed 0
unfolding before_coflow
before_first seed = refl

before_more : (seed k : ℕ) → before_coflow seed (k + 1) ≡ behind_coflow (before_coflow seed k)
unfolding before_coflow
before_more seed k = let e : k + 1 ≡ suc k = omega arith in ap (before_coflow seed) e

pub state_step : (seed k x new : ℕ) → x ≡ before_coflow seed k → new ≡ behind_coflow x → new ≡ before_coflow seed (k + 1)
state_step seed k x new here step = step ∙ (ap behind_coflow here ∙ sym (before_more seed k))

pub arrival_step : (seed k x arrival new : ℕ) → x ≡ before_coflow seed k → arrival ≡ arrival_before seed k → new ≡ arrival + growth x → new ≡ arrival_before seed (k + 1)
arrival_step seed k x arrival new here before step = rw (step, before, here, sum_by-map-range_with_len_more growth (before_coflow seed) 0 k k (zero-add k)) refl

pub small_step : (k x arrival new : ℕ) → arrival ≤ 100 * k → new ≡ arrival + growth x → new ≤ 100 * (k + 1)
small_step k x arrival new small step = let lt = draw_below 100 x (omega arith) in omega arith

pub none_first : (seed : ℕ) → [] ≡ first_coflows seed 0
unfolding first_coflows
none_first seed = refl

pub coflow_step : (seed k x arrival : ℕ) (coflow : MadeCoflow) (old new : List MadeCoflow) → x ≡ before_coflow seed k → arrival ≡ arrival_before seed k →
    coflow ≡ coflow_from (k + 1) arrival x → old ≡ first_coflows seed k → new ≡ old ++ (coflow ∷ []) → new ≡ first_coflows seed (k + 1)
unfolding first_coflows
coflow_step seed k x arrival coflow old new here before made so_far step =
    element_more (coflow_at seed) k coflow old new so_far step (made ∙ (ap (λ a. coflow_from (k + 1) a x) before ∙ ap (coflow_from (k + 1) (arrival_before seed k)) here))
