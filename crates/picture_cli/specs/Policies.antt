-- The picture of policies side by side: the schedules of their second rounds on one trace.
use Rattle.std.specs.Prelude.{◌≡◌, ◌≢◌, ℕ, ◌*◌, ◌==◌, ◌≤◌, Bool, List, [], ◌∷◌, Option, filter, length, replicate}
use Rattle.std.specs.Prelude.{All, slice_index, sum_by}
use Rattle.std.specs.List.{list_any, range_with_len}
use Rattle.class_rates.specs.declared.fold.Fold.TheVariants.{Count}
use Rattle.coflow_units.specs.declared.fabric.Flow.{Flow}
use Rattle.coflow_units.specs.declared.limits.TheConstants.{MAX_SLOT}
use Rattle.coflow_units.specs.Completion.{cost}
use Rattle.coflow_units.specs.Flows.{Instance, coflow_of}
use Rattle.coflow_units.specs.Schedule.{IsValid}
use Rattle.command_files.specs.Inputs.{IsInput}
use Rattle.command_files.specs.declared.status.Status.TheVariants as status
use Rattle.command_words.specs.Jobs.Job.{compare_job}
use Rattle.command_words.specs.Words.{Said}
use Rattle.flow_table.specs.Table.{TableFacts, instance_of}
use Rattle.outside.specs.Shelf.{Told}
use Rattle.picture.specs.declared.policies_value.PoliciesPicture.{PoliciesPicture}
use Rattle.picture.specs.declared.policies_value.Policy.{Policy}
use Rattle.picture.specs.Policies.{IsPoliciesOf, IsPolicyOf, IsReady, served_ends}
use Rattle.picture.specs.PoliciesSvg.{policies_text}
use Rattle.plans.specs.Totals.{IsPlanBound}
use Rattle.rankers.specs.declared.ending.Ended.{Ended as Row}
use Rattle.rankers.specs.declared.scoring.Came.TheVariants as came
use Rattle.rankers.specs.Ends.{IsSecondRound}
use Rattle.rankers.specs.FactsTold.{FactsTold, IsFacts, IsFactsOf}
use Rattle.rankers.specs.Kinds.{attained, bssi, fifo, sebf, wsebf}
use Rattle.rankers.specs.Meaning.{Meaning}
use Rattle.rankers.specs.Scores.{ends_in}
use Rattle.picture_cli.specs.Words.{PoliciesSaid}
use Rattle.picture_cli.specs.declared.status.PictureStatus.{PictureStatus}
use Rattle.picture_cli.specs.declared.status.PictureStatus.TheVariants as drawn

-- what `sincronia compare` would be said with the same files
abbrev pub compare_of : PoliciesSaid → Said
compare_of said = record {
  job = compare_job said.trace;
  weights = said.weights;
  unit = said.unit;
  agents = 4;
  epoch = 1024;
  run = 1;
  slot_ms = 8;
  classes = 8;
  fold = Count;
}

-- the policies of the picture of so many coflows, in its order
abbrev pub rankers_for : ℕ → List Meaning
rankers_for coflows = bssi ∷ wsebf ∷ sebf ∷ fifo ∷ attained (replicate coflows 0) ∷ []

-- The policy is that of a ranker: of its name, with cost and completions of the schedule of its second round, which is
-- a valid one.
pub record IsPolicyOfRanker (i : Instance) (facts : FactsTold) (m : Meaning) (x : Policy) : Type 0 where
  pub slots : List (List ℕ)
  pub round : IsSecondRound i facts m slots
  pub valid : IsValid i.flows slots
  pub policy : IsPolicyOf m.name (cost i.flows i.weight i.coflows slots) (ends_in i slots) x

-- the policies are those of the rankers, in their order
abbrev pub ArePolicies : Instance → FactsTold → List Meaning → List Policy → Type 0
ArePolicies i facts [] xs = xs ≡ []
ArePolicies i facts (m ∷ ms) xs = (x : Policy) × (rest : List Policy) × IsPolicyOfRanker i facts m x ×
    (xs ≡ x ∷ rest) × ArePolicies i facts ms rest

-- a flow is of this coflow
abbrev pub has_flow : List Flow → ℕ → Bool
has_flow flows coflow = list_any (λ f. coflow_of flows f == coflow) (range_with_len 0 (length flows))

-- how many coflows of a table have units
abbrev pub coflows_with_units : TableFacts → ℕ
coflows_with_units t = length (filter (has_flow t.flows) (range_with_len 0 (length t.ids)))

-- what came of a ranker are the slots of so many coflows, which a schedule may have, and one of them has units
pub record HasEnds (coflows : ℕ) (row : Row) : Type 0 where
  pub ends : List ℕ
  pub came_is : row.came ≡ came.Ends ends
  pub each : length ends ≡ coflows
  pub short : All (λ end. end ≤ MAX_SLOT) ends
  pub some : served_ends ends ≢ []

-- the policy is that of the row, and costs the sum of weight times slot
pub record IsShown (ws : List ℕ) (row : Row) (x : Policy) : Type 0 where
  pub ends : List ℕ
  pub came_is : row.came ≡ came.Ends ends
  pub policy : IsPolicyOf row.name
      (sum_by (λ c. slice_index ws c * slice_index ends c) (range_with_len 0 (length ws))) ends x
  pub ready : IsReady (length (served_ends ends)) x

-- the policies are those of the rows, in their order
abbrev pub AreShown : List ℕ → List Row → List Policy → Type 0
AreShown ws [] xs = xs ≡ []
AreShown ws (row ∷ rows) xs = (x : Policy) × (rest : List Policy) × IsShown ws row x × (xs ≡ x ∷ rest) ×
    AreShown ws rows rest

-- The picture shows the policies of the rankers on an instance, on the coflows that have units, under the bound that
-- the plan of the instance has: no policy and no valid schedule costs less than that.
pub record ShowsPolicies (t : TableFacts) (ws : List ℕ) (p : PoliciesPicture) : Type 0 where
  pub facts : FactsTold
  pub facts_fit : IsFacts facts
  pub facts_are : IsFactsOf t ws facts
  pub policies : ArePolicies (instance_of t ws) facts (rankers_for (length t.ids)) p.policies
  pub bound_is : IsPlanBound (instance_of t ws) p.bound
  pub bounds : (slots : List (List ℕ)) → IsValid t.flows slots →
      p.bound ≤ cost t.flows (instance_of t ws).weight (instance_of t ws).coflows slots
  pub below : All (λ (x : Policy). p.bound ≤ x.cost) p.policies
  pub coflows_are : p.coflows ≡ coflows_with_units t
  pub shows : IsPoliciesOf p.policies p.coflows p.bound p

-- the text is that of such a picture
pub record DrawsPolicies (t : TableFacts) (ws : List ℕ) (text : List ℕ) : Type 0 where
  pub picture : PoliciesPicture
  pub shows : ShowsPolicies t ws picture
  pub text_is : text ≡ policies_text picture

-- why a table has no picture of policies: it has no units, so its schedules have no slot
abbrev pub HasNoPolicies : TableFacts → PictureStatus → Type 0
HasNoPolicies t (drawn.NoSlots first last) = (first ≡ 1) × (last ≡ 0) × (t.flows ≡ [])
HasNoPolicies t (drawn.Ended s) = s ≡ status.NoMemory
HasNoPolicies t s = ⊥

-- the table and the weights that the files give, and what holds of them
pub record Given (told : Option Told) (said : PoliciesSaid) (Holds : TableFacts → List ℕ → Type 0) : Type 0 where
  pub table : TableFacts
  pub list : List ℕ
  pub input : IsInput told said.trace said.weights said.unit table list
  pub holds : Holds table list
