-- What the picture of policies shows: for each policy its cost and the curve of the coflows that it completes.
use Rattle.std.specs.Prelude.{◌≡◌, ◌≢◌, ℕ, ◌<◌, ◌≤◌, ◌^◌, ltb, List, [], All, AllPairs, Contains, filter, length, map}
use Rattle.std.specs.List.{flat_map}
use Rattle.coflow_units.specs.declared.limits.TheConstants.{MAX_COFLOWS, MAX_SLOT}
use Rattle.coflow_stats.specs.Stats.{IsSmall}
use Rattle.coflow_stats.specs.Summary.{IsSummary}
use Rattle.picture.specs.declared.policies_value.PoliciesPicture.{PoliciesPicture}
use Rattle.picture.specs.declared.policies_value.Policy.{Policy}
use Rattle.picture.specs.declared.policies_value.TheConstants.{MAX_POLICIES}
use Rattle.picture.specs.declared.value.Step.{Step}
use Rattle.picture.specs.Curve.{IsCurve}

-- of the slots in which coflows are completed those of the coflows that have units: a coflow without units has 0
abbrev pub served_ends : List ℕ → List ℕ
served_ends ends = filter (ltb 0) ends

-- A policy of this name and cost whose schedule completes the coflows in these slots: the curve of those that have
-- units, and how many there are, their sum, median and percentiles.
pub record IsPolicyOf (name : List ℕ) (cost : ℕ) (ends : List ℕ) (p : Policy) : Type 0 where
  pub name_is : p.name ≡ name
  pub cost_is : p.cost ≡ cost
  pub curve : IsCurve (served_ends ends) p.steps
  pub times : IsSummary (served_ends ends) p.times

-- the slots of the steps of all policies
abbrev pub step_slots : List Policy → List ℕ
step_slots policies = flat_map (λ (x : Policy). map (λ (s : Step). s.slot) x.steps) policies

-- the costs of policies
abbrev pub costs_of : List Policy → List ℕ
costs_of policies = map (λ (x : Policy). x.cost) policies

-- the greatest number of a list
pub record IsGreatestOf (numbers : List ℕ) (greatest : ℕ) : Type 0 where
  pub among : Contains numbers greatest
  pub most : All (λ n. n ≤ greatest) numbers

-- The policy can be drawn where so many coflows have units: there is one, its curve ascends, from slot 1 to one that a
-- schedule may have, up to all of them, and its completions are summed up.
pub record IsReady (coflows : ℕ) (x : Policy) : Type 0 where
  pub some : x.steps ≢ []
  pub ascending : AllPairs (λ (a : Step) (b : Step). a.slot < b.slot) x.steps
  pub counted : All (λ (s : Step). 1 ≤ s.slot) x.steps
  pub short : All (λ (s : Step). s.slot ≤ MAX_SLOT) x.steps
  pub few : All (λ (s : Step). s.done ≤ coflows) x.steps
  pub times : IsSmall x.times
  pub each : x.times.count ≡ coflows

-- The picture shows these policies on so many coflows, under this bound: how far its axes reach are the greatest cost
-- and the last slot in which one of them completes a coflow.
pub record IsPoliciesOf (policies : List Policy) (coflows bound : ℕ) (p : PoliciesPicture) : Type 0 where
  pub policies_are : p.policies ≡ policies
  pub coflows_is : p.coflows ≡ coflows
  pub bound_is : p.bound ≡ bound
  pub most : IsGreatestOf (costs_of policies) p.most
  pub last : IsGreatestOf (step_slots policies) p.last

-- The policy is ready. It costs no less than the bound, and no more than the most, and it completes no coflow behind
-- the last slot.
pub record IsPolicyDrawable (p : PoliciesPicture) (x : Policy) : Type 0 where
  pub ready : IsReady p.coflows x
  pub above : p.bound ≤ x.cost
  pub most : x.cost ≤ p.most
  pub inside : All (λ (s : Step). s.slot ≤ p.last) x.steps

-- There are no more policies than there are looks for, and each can be drawn. No cost is above 2^96, a trace may have
-- so many coflows, and a schedule may have the last slot.
pub record IsPoliciesDrawable (p : PoliciesPicture) : Type 0 where
  pub few : length p.policies ≤ MAX_POLICIES
  pub each : All (IsPolicyDrawable p) p.policies
  pub above : p.bound ≤ p.most
  pub small_cost : p.most ≤ 2 ^ 96
  pub counted : 1 ≤ p.last
  pub short : p.last ≤ MAX_SLOT
  pub some_coflows : 1 ≤ p.coflows
  pub few_coflows : p.coflows ≤ MAX_COFLOWS
