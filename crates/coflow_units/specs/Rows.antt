-- Small instances with the certificates and schedules that were worked out for them by hand.
use Rattle.std.specs.Prelude.{◌≡◌, ℕ, ◌==◌, if◌then◌else◌, List, [], ◌∷◌}
use Rattle.coflow_units.specs.declared.fabric.Flow.{Flow}
use Rattle.coflow_units.specs.declared.fabric.Side.TheVariants.{Ingress, Egress}
use Rattle.coflow_units.specs.Flows.{Instance, IsInstance}
use Rattle.coflow_units.specs.Completion.{cost}
use Rattle.coflow_units.specs.Schedule.{slots_of}
use Rattle.coflow_units.specs.Certificate.{Entry, bound, order_of, slack}
use Rattle.coflow_units.specs.Served.{IsServed}

abbrev flow : ℕ → ℕ → ℕ → ℕ → Flow
flow coflow ingress egress units = record { coflow = coflow; ingress = ingress; egress = egress; units = units }

abbrev at_ingress : ℕ → ℕ → ℕ → Entry
at_ingress coflow number y = record { coflow = coflow; port = record { side = Ingress; number = number }; y = y }

abbrev at_egress : ℕ → ℕ → ℕ → Entry
at_egress coflow number y = record { coflow = coflow; port = record { side = Egress; number = number }; y = y }

-- the schedule that serves the order of the entries, their bound and slack, and the schedule's cost; the entries stand
-- from the last place to the first
pub record IsRow (i : Instance) (entries : List Entry) (slots : List (List ℕ)) (low lack total : ℕ) : Type 0 where
  pub instance : IsInstance i
  pub served : IsServed i.flows (order_of entries) slots
  pub bound_is : bound i.flows entries ≡ low
  pub slack_is : slack i.flows i.weight entries ≡ lack
  pub cost_is : cost i.flows i.weight i.coflows slots ≡ total

-- two coflows of one flow each, at the same two ports
abbrev pub two_flows : List Flow
two_flows = flow 0 0 1 3 ∷ flow 1 0 1 1 ∷ []

abbrev pub equal_weights : Instance
equal_weights = record { coflows = 0 ∷ 1 ∷ []; weight = λ c. 1; ports = 3; flows = two_flows }

abbrev pub equal_weights_places : List Entry
equal_weights_places = at_ingress 0 0 366503875925 ∷ at_ingress 1 0 733007751851 ∷ []

abbrev pub equal_weights_slots : List (List ℕ)
equal_weights_slots = slots_of ((1, 1 ∷ []) ∷ (3, 0 ∷ []) ∷ [])

abbrev pub EqualWeights : Type 0
EqualWeights = IsRow equal_weights equal_weights_places equal_weights_slots 5 1 5

-- the same with weight 5 for the longer one
abbrev pub unequal_weights : Instance
unequal_weights = record { coflows = 0 ∷ 1 ∷ []; weight = λ c. if c == 0 then 5 else 1; ports = 3; flows = two_flows }

abbrev pub unequal_weights_places : List Entry
unequal_weights_places = at_ingress 1 0 1099511627776 ∷ at_ingress 0 0 733007751850 ∷ []

abbrev pub unequal_weights_slots : List (List ℕ)
unequal_weights_slots = slots_of ((3, 0 ∷ []) ∷ (1, 1 ∷ []) ∷ [])

abbrev pub UnequalWeights : Type 0
UnequalWeights = IsRow unequal_weights unequal_weights_places unequal_weights_slots 19 1 19

-- a coflow without a flow takes the first place
abbrev pub one_empty : Instance
one_empty = record { coflows = 0 ∷ 1 ∷ []; weight = λ c. 1; ports = 2; flows = flow 1 0 1 2 ∷ [] }

abbrev pub one_empty_places : List Entry
one_empty_places = at_ingress 1 0 549755813888 ∷ at_ingress 0 0 0 ∷ []

abbrev pub one_empty_slots : List (List ℕ)
one_empty_slots = slots_of ((2, 0 ∷ []) ∷ [])

abbrev pub OneEmpty : Type 0
OneEmpty = IsRow one_empty one_empty_places one_empty_slots 2 0 2

-- equal loads and equal ratios: the first port, and the greatest number at the later place
abbrev pub all_ties : Instance
all_ties = record {
  coflows = 0 ∷ 1 ∷ [];
  weight = λ c. 1;
  ports = 2;
  flows = flow 0 0 0 1 ∷ flow 0 1 0 1 ∷ flow 1 0 1 1 ∷ flow 1 1 1 1 ∷ [];
}

abbrev pub all_ties_places : List Entry
all_ties_places = at_ingress 1 0 1099511627776 ∷ at_egress 0 0 0 ∷ []

abbrev pub all_ties_slots : List (List ℕ)
all_ties_slots = slots_of ((1, 0 ∷ 3 ∷ []) ∷ (1, 1 ∷ 2 ∷ []) ∷ [])

abbrev pub AllTies : Type 0
AllTies = IsRow all_ties all_ties_places all_ties_slots 3 0 4

-- three coflows among 151 ports on each side
abbrev pub realistic : Instance
realistic = record {
  coflows = 0 ∷ 1 ∷ 2 ∷ [];
  weight = λ c. 1;
  ports = 151;
  flows = flow 0 20 93 1 ∷ flow 1 7 7 2 ∷ flow 1 7 93 5 ∷ flow 2 20 38 3 ∷ flow 2 20 93 1 ∷ flow 2 64 38 2 ∷ flow 2 110
      38 2 ∷ [];
}

abbrev pub realistic_places : List Entry
realistic_places = at_ingress 1 7 157073089682 ∷ at_egress 2 38 157073089682 ∷ at_ingress 0 20 1099511627776 ∷ []

abbrev pub realistic_slots : List (List ℕ)
realistic_slots = slots_of ((1, 0 ∷ 1 ∷ 5 ∷ []) ∷ (1, 1 ∷ 3 ∷ []) ∷ (2, 2 ∷ 3 ∷ []) ∷ (1, 4 ∷ 5 ∷ []) ∷
    (2, 2 ∷ 6 ∷ []) ∷ (1, 2 ∷ []) ∷ [])

abbrev pub Realistic : Type 0
Realistic = IsRow realistic realistic_places realistic_slots 15 1 16
