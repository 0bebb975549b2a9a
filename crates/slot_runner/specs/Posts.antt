-- The posts of a run, one for each flow that it grants, at the ingress port of the flow, in the order of the flows.
use Rattle.std.specs.Prelude.{◌≡◌, ℕ, List, ◌++◌, map, Some}
use Rattle.coflow_units.specs.declared.fabric.Flow.{Flow}
use Rattle.coflow_units.specs.Flows.{ingress_of}
use Rattle.port_board.specs.declared.view.Grant.{Grant}
use Rattle.port_board.specs.declared.view.Settlement.{Settlement}
use Rattle.port_board.specs.declared.view.View.{View}
use Rattle.port_board.specs.Views.{grant, settlement}

-- the post of a flow at its ingress port, one slot after the other from the first one on
abbrev pub post_of : List Flow → ℕ → ℕ → ℕ → Grant
post_of flows first slots f = grant (ingress_of flows f) first f slots

-- what is posted where these flows are granted
abbrev pub posts_of : List Flow → List ℕ → ℕ → ℕ → List Grant
posts_of flows granted first slots = map (λ f. post_of flows first slots f) granted

-- how it is settled, where so many units were sent from each port
abbrev pub settlements_of : List Flow → List ℕ → (ℕ → ℕ) → ℕ → ℕ → List Settlement
settlements_of flows granted sent first slots =
    map (λ f. settlement (post_of flows first slots f) (Some (sent (ingress_of flows f)))) granted

-- these flows were posted, and all else of the poster is as before
pub record IsPosted (flows : List Flow) (granted : List ℕ) (first slots : ℕ) (v w : View) : Type 0 where
  pub posts : w.posts ≡ v.posts ++ posts_of flows granted first slots
  pub settled : w.settled ≡ v.settled
  pub back : w.back ≡ v.back
  pub made : w.made ≡ v.made
