-- The small cases, decided.
use Rattle.std.proofs.Common.{◌≡◌, ℕ, ◌+◌, ◌*◌, ◌^◌, ◌<◌, ◌≤◌, inl, inr, List, [], ◌∷◌, Contains, refl, ap, arith, zero, suc}
use Rattle.std.specs.List.{slice_index_or}
use Rattle.std.proofs.lemmas.Bool.{ltb-true}
use Rattle.std.proofs.lemmas.List.Elements.{All-from_recursion}
use Rattle.coflow_units.specs.Flows.{FlowBefore, IsInstance, IsWhole, SharesPort, units_of}
use Rattle.coflow_units.specs.Grants.{IsGrants}
use Rattle.coflow_units.specs.Schedule.{IsClear, IsRuns, IsValid}
use Rattle.coflow_units.specs.Patient.{IsPatient}
use Rattle.coflow_units.specs.Served.{IsServed}
use Rattle.coflow_units.specs.Certificate.{Entry, IsBelowLoads, IsCertificate, IsFeasible, TakesGreatestPorts, budget, used}
use Rattle.coflow_units.specs.Load.{load_of_all, loads}
use Rattle.coflow_units.specs.Trace.{IsCoflowLine, IsTrace}
use Rattle.coflow_units.specs.declared.fabric.Flow.{Flow}
use Rattle.coflow_units.specs.declared.fabric.Port.{Port}
use Rattle.coflow_units.specs.declared.trace.CoflowLine.{CoflowLine}
use Rattle.coflow_units.specs.declared.trace.Reducer.{Reducer}
use Rattle.coflow_units.specs.Rows.{equal_weights, equal_weights_places, equal_weights_slots, two_flows}
use Rattle.coflow_units.specs.SmallCases.{TwoFlowsHold, TwoFlowsRefuse, all_sent, at_an_idle_port, crossing, first_ingress, from_port_one, line_of, one_left_out, past_the_ports}
use Rattle.coflow_units.specs.SmallCases.{trace_with, turned, cut_in_two, idle_first, longer_first, longer_first_slots, named_twice, one_each, one_too_few, out_of_range, too_dear}
use Rattle.coflow_units.proofs.CertificateSteps.{used_outside}
use Rattle.coflow_units.proofs.GrantsExist.{grants_exist}
use Rattle.coflow_units.proofs.RowChecks.{equal_instance, named}
use Rattle.coflow_units.proofs.ServedExists.{served_exists}
use Rattle.coflow_units.proofs.ServedLaws.{grants_clear, served_valid, served_patient}
use Rattle.coflow_units.proofs.ServeLaws.{one_served}
use Rattle.coflow_units.proofs.RunLengths.{one_run_length, run_length_is}
use Rattle.coflow_units.proofs.Bools.{part}
use Rattle.coflow_units.proofs.Sums.{all_of_members, first_or_tail, in_first, in_tail, not_the_other, nothing_in, pairs_from_apart}

served_case : IsServed two_flows (0 ∷ 1 ∷ []) longer_first_slots
served_case = served_exists two_flows (0 ∷ 1 ∷ []) (named two_flows (0 ∷ 1 ∷ []) refl)

two_runs : (k : ℕ) (r : ℕ × List ℕ) → k + 1 < 2 → (slice_index_or longer_first k r).1 ≡ (slice_index_or longer_first (k + 1) r).1 → ⊥
two_runs zero r lt e = cc
two_runs (suc k) r lt e = omega (arith, lt)

runs_case : IsRuns longer_first_slots longer_first
runs_case = record {
  same = refl;
  lengths = All-from_recursion (λ (r : ℕ × List ℕ). 1 ≤ r.0) longer_first (omega arith, (omega arith, tt));
  maximal = two_runs;
}

not_of_two : (c : ℕ) → Contains (0 ∷ 1 ∷ []) (suc (suc c)) → ⊥
not_of_two c has = elim (first_or_tail 0 (1 ∷ []) (suc (suc c)) has) [
  | inl e ↦ omega (arith, e)
  | inr later ↦ elim (first_or_tail 1 [] (suc (suc c)) later) [
    | inl e ↦ omega (arith, e)
    | inr none ↦ nothing_in (suc (suc c)) none
  ]
]

feasible_case : IsFeasible two_flows one_each equal_weights_places
feasible_case zero = omega (arith, ltb-true (used two_flows equal_weights_places 0) (budget one_each 0 + 1) refl)
feasible_case (suc zero) = omega (arith, ltb-true (used two_flows equal_weights_places 1) (budget one_each 1 + 1) refl)
feasible_case (suc (suc c)) = omega (arith, used_outside two_flows equal_weights_places (suc (suc c)) (not_of_two c))

certificate_case : IsCertificate equal_weights equal_weights_places
certificate_case = record {
  once = pairs_from_apart (0 ∷ 1 ∷ []) ((λ has. elim (first_or_tail 1 [] 0 has) [ inl e ↦ omega (arith, e) | inr none ↦ nothing_in 0 none ]), ((λ has. nothing_in 1 has), tt));
  coflow = all_of_members (Contains (0 ∷ 1 ∷ [])) (0 ∷ 1 ∷ []) (λ x has. has);
  all = all_of_members (Contains (0 ∷ 1 ∷ [])) (0 ∷ 1 ∷ []) (λ x has. has);
  port = All-from_recursion (λ (e : Entry). e.port.number < 3) equal_weights_places (omega arith, (omega arith, tt));
}

both_at_most : (port : Port) → load_of_all two_flows (0 ∷ 1 ∷ []) port ≤ 4
both_at_most port =
    omega (
      arith,
      part (loads 0 port record { coflow = 0; ingress = 0; egress = 1; units = 3 }) 3,
      part (loads 1 port record { coflow = 1; ingress = 0; egress = 1; units = 1 }) 1,
    )

shorter_at_most : (port : Port) → load_of_all two_flows (1 ∷ []) port ≤ 1
shorter_at_most port = omega (arith, part (loads 1 port record { coflow = 1; ingress = 0; egress = 1; units = 1 }) 1)

greatest_case : TakesGreatestPorts two_flows 3 equal_weights_places
greatest_case = ((λ port lt. both_at_most port), ((λ port lt. shorter_at_most port), tt))

flows_in_order : (k : ℕ) (d : Flow) → k + 1 < 2 → FlowBefore (slice_index_or two_flows k d) (slice_index_or two_flows (k + 1) d)
flows_in_order zero d lt = inl (omega arith)
flows_in_order (suc k) d lt = absurd (omega (arith, lt))

whole_case : IsWhole equal_weights
whole_case = record {
  instance = equal_instance;
  numbered = refl;
  weights = λ k d lt. omega arith;
  units = All-from_recursion (λ (x : Flow). 1 ≤ x.units) two_flows (omega arith, (omega arith, tt));
  sorted = flows_in_order;
}

line_case : (id : ℕ) → IsCoflowLine 1 (line_of id)
line_case id = record {
  has_mapper = omega arith;
  few_mappers = omega arith;
  mappers = All-from_recursion (λ m. m ≤ 1) (0 ∷ []) (omega arith, tt);
  few_reducers = omega arith;
  reducers = All-from_recursion (λ (r : Reducer). r.location ≤ 1) (line_of id).reducers (omega arith, tt);
  sizes = All-from_recursion (λ (r : Reducer). r.millionths ≤ 2 ^ 40 * 1000000) (line_of id).reducers (omega arith, tt);
}

trace_case : IsTrace (trace_with (line_of 7 ∷ line_of 8 ∷ []))
trace_case = record {
  has_ports = omega arith;
  few_ports = omega arith;
  few_coflows = omega arith;
  ids = pairs_from_apart (7 ∷ 8 ∷ []) ((λ has. elim (first_or_tail 8 [] 7 has) [ inl e ↦ omega (arith, e) | inr none ↦ nothing_in 7 none ]), ((λ has. nothing_in 8 has), tt));
  lines = All-from_recursion (λ (x : CoflowLine). IsCoflowLine 1 x) (line_of 7 ∷ line_of 8 ∷ []) (line_case 7, (line_case 8, tt));
}

pub two_flows_hold : TwoFlowsHold
two_flows_hold = record {
  first_load = refl;
  both_loads = refl;
  valid = served_valid two_flows (0 ∷ 1 ∷ []) longer_first_slots served_case;
  runs = runs_case;
  ends = refl;
  costs = refl;
  granted = grants_exist two_flows (0 ∷ 1 ∷ []) (units_of two_flows);
  served = served_case;
  patient = served_patient two_flows (0 ∷ 1 ∷ []) longer_first_slots served_case;
  feasible = feasible_case;
  certificate = certificate_case;
  all_kept = refl;
  length = run_length_is (units_of two_flows) (0 ∷ []) 2;
  apart = grants_clear crossing (0 ∷ 1 ∷ []) (units_of crossing) (0 ∷ 1 ∷ []) (grants_exist crossing (0 ∷ 1 ∷ []) (units_of crossing));
  greatest = greatest_case;
  below = ((λ some. omega arith), ((λ some. omega arith), tt));
  whole = whole_case;
  line = line_case 7;
  trace = trace_case;
  fits = (omega arith, omega arith);
}

no_ports : IsInstance out_of_range → ⊥
no_ports i = omega (arith, i.egress 0 record { coflow = 0; ingress = 0; egress = 0; units = 0 } (omega arith))

one_port : IsClear two_flows (0 ∷ 1 ∷ []) → ⊥
one_port clear = omega (arith, clear.apart 0 1 (in_first 0 (1 ∷ [])) (in_tail 0 (1 ∷ []) 1 (in_first 1 [])) (inl refl))

cross : SharesPort crossing 0 1 → ⊥
cross (inl e) = omega (arith, e)
cross (inr e) = omega (arith, e)

short : IsValid two_flows one_too_few → ⊥
short valid = omega (arith, valid.served 0 (omega arith))

cut : IsRuns longer_first_slots cut_in_two → ⊥
cut runs = runs.maximal 0 (0, []) (omega arith) refl

idle_grants : IsGrants two_flows (0 ∷ 1 ∷ []) (units_of two_flows) [] → ⊥
idle_grants g = elim (g.rest 0 (omega arith) (in_first 0 (1 ∷ [])) (omega arith)) [
  | inl has ↦ nothing_in 0 has
  | inr blocked ↦ nothing_in blocked.0 blocked.1
]

other_order : IsServed two_flows (0 ∷ 1 ∷ []) equal_weights_slots → ⊥
other_order served =
    let same : equal_weights_slots ≡ longer_first_slots = one_served two_flows (0 ∷ 1 ∷ []) equal_weights_slots longer_first_slots served served_case in
    let first : 1 ≡ 0 = ap (λ slots. slice_index_or (slice_index_or slots 0 []) 0 7) same in
    omega (arith, first)

waits_for_nobody : IsPatient two_flows (0 ∷ 1 ∷ []) idle_first → ⊥
waits_for_nobody patient = elim (patient 0 0 (omega arith) (omega arith) (omega arith)) [
  | inl has ↦ nothing_in 0 has
  | inr waits ↦ nothing_in waits.0 waits.1
]

dear : IsFeasible two_flows one_each too_dear → ⊥
dear feasible = omega (arith, feasible 0, ltb-true (budget one_each 0) (used two_flows too_dear 0) refl)

twice : IsCertificate equal_weights named_twice → ⊥
twice certificate = certificate.once 0 1 0 (omega arith) (omega arith) refl

lacks_one : IsCertificate equal_weights one_left_out → ⊥
lacks_one certificate = not_the_other (certificate.all 1 0 (omega arith))

port_three : IsCertificate equal_weights past_the_ports → ⊥
port_three certificate = omega (arith, certificate.port 1 record { coflow = 0; port = first_ingress; y = 0 } (omega arith))

no_ingress : IsInstance from_port_one → ⊥
no_ingress i = omega (arith, i.ingress 0 record { coflow = 0; ingress = 0; egress = 0; units = 0 } (omega arith))

idle_port : TakesGreatestPorts two_flows 3 at_an_idle_port → ⊥
idle_port greatest = omega (arith, greatest.1.0 first_ingress (omega arith))

as_much_as_the_load : IsBelowLoads two_flows one_each equal_weights_places → ⊥
as_much_as_the_load below = omega (arith, below.1.0 (omega arith))

not_sorted : IsWhole turned → ⊥
not_sorted whole = elim (whole.sorted 0 record { coflow = 0; ingress = 0; egress = 0; units = 0 } (omega arith)) [
  | inl lt ↦ omega (arith, lt)
  | inr same ↦ omega (arith, same.0)
]

no_units : IsWhole all_sent → ⊥
no_units whole = omega (arith, whole.units 0 record { coflow = 0; ingress = 0; egress = 0; units = 0 } (omega arith))

no_location : IsCoflowLine 0 (line_of 7) → ⊥
no_location line = omega (arith, line.reducers 0 record { location = 0; millionths = 0 } (omega arith))

same_id : IsTrace (trace_with (line_of 7 ∷ line_of 7 ∷ [])) → ⊥
same_id trace = trace.ids 0 1 0 (omega arith) (omega arith) refl

pub two_flows_refuse : TwoFlowsRefuse
two_flows_refuse = record {
  instance = no_ports;
  shared = one_port;
  crossed = cross;
  valid = short;
  runs = cut;
  granted = idle_grants;
  shorter = λ l. omega (arith, one_run_length (units_of two_flows) (0 ∷ []) 2 1 2 l (run_length_is (units_of two_flows) (0 ∷ []) 2));
  longer = λ l. omega (arith, l.owed 0 (in_first 0 []));
  served = other_order;
  patient = waits_for_nobody;
  feasible = dear;
  certificate = twice;
  left_out = lacks_one;
  port_in_range = port_three;
  ingress_in_range = no_ingress;
  greatest = idle_port;
  below = as_much_as_the_load;
  unsorted = not_sorted;
  without_units = no_units;
  line = no_location;
  trace = same_id;
  late_slot = λ fits. omega (arith, fits.0);
  large_flow = λ fits. omega (arith, fits.1);
}
