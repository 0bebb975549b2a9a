-- Flows of a trace are of its coflows and between its locations.
use Rattle.std.proofs.Common.{◌≡◌, ℕ, ◌+◌, ◌<◌, ◌≤◌, inl, inr, Bool, true, false, List, [], get_or, length, refl, ap, ◌∙◌, arith}
use Rattle.std.specs.Prelude.{All, if◌then◌else◌, ◌==◌, slice_index}
use Rattle.std.proofs.lemmas.Bool.{cases_lt, ne_eqb}
use Rattle.std.proofs.lemmas.List.{get_or_past}
use Rattle.std.proofs.lemmas.List.Elements.{All-contains}
use Rattle.std.proofs.lemmas.List.Sums.{get_or-le-sum_by}
use Rattle.coflow_units.specs.declared.fabric.Flow.{Flow}
use Rattle.coflow_units.specs.declared.trace.CoflowLine.{CoflowLine}
use Rattle.coflow_units.specs.declared.trace.Reducer.{Reducer}
use Rattle.coflow_units.specs.declared.trace.Trace.{Trace}
use Rattle.coflow_units.specs.Trace.{IsCoflowLine, IsTrace}
use Rattle.coflow_units.proofs.Sums.{sum_same, sum_zero}
use Rattle.coflow_units.proofs.Ranges.{in_range}
use Rattle.flow_table.specs.FlowsOf.{HaveUnits, IsFlowsOf}
use Rattle.flow_table.specs.Units.{share, units_of_reducer}
use Rattle.flow_table.specs.Sent.{line_of, places, sent, sent_by, sent_of}
use Rattle.flow_table.proofs.FlowOrder.{own_term, term}
use Rattle.flow_table.proofs.Shares.{picked}

-- past the last coflow nothing is sent
pub no_coflow : (t : Trace) (unit c i e : ℕ) → length t.coflows ≤ c → sent t unit c i e ≡ 0
no_coflow t unit c i e past = ap (λ (x : CoflowLine). sent_by unit x i e) (get_or_past t.coflows c record { id = 0; arrival = 0; mappers = []; reducers = [] } past)

pub no_mapper_at : (number : ℕ) (x : CoflowLine) (units i : ℕ) → IsCoflowLine number x → number < i → sent_of x units i ≡ 0
no_mapper_at number x units i line past =
    sum_same (λ place. if slice_index x.mappers place == i then share (length x.mappers) units place else 0) (λ place. 0) (places x)
    (λ place has. ap (λ b. picked b (share (length x.mappers) units place))
    (ne_eqb (slice_index x.mappers place) i (λ same. omega (arith, same, line.mappers place 0 (in_range (length x.mappers) place has)))))
    ∙ sum_zero (places x)

pub no_ingress : (unit number : ℕ) (x : CoflowLine) (i e : ℕ) → IsCoflowLine number x → number < i → sent_by unit x i e ≡ 0
no_ingress unit number x i e line past =
    sum_same (λ (r : Reducer). if r.location == e then sent_of x (units_of_reducer unit r) i else 0) (λ r. 0) x.reducers
    (λ r has. ap (λ n. picked (r.location == e) n) (no_mapper_at number x (units_of_reducer unit r) i line past) ∙ nought (r.location == e))
    ∙ sum_zero x.reducers
  where
    nought : (b : Bool) → picked b 0 ≡ 0
    nought true = refl
    nought false = refl

pub no_egress : (unit number : ℕ) (x : CoflowLine) (i e : ℕ) → IsCoflowLine number x → number < e → sent_by unit x i e ≡ 0
no_egress unit number x i e line past =
    sum_same (λ (r : Reducer). if r.location == e then sent_of x (units_of_reducer unit r) i else 0) (λ r. 0) x.reducers
    (λ r has. ap (λ b. picked b (sent_of x (units_of_reducer unit r) i))
    (ne_eqb r.location e (λ same. omega (arith, same, All-contains (λ (y : Reducer). y.location ≤ number) x.reducers r line.reducers has))))
    ∙ sum_zero x.reducers

-- a flow is sent
pub flow_is_sent : (sends : ℕ → ℕ → ℕ → ℕ) (flows : List Flow) → HaveUnits sends flows → (k : ℕ) (d : Flow) → k < length flows →
    1 ≤ sends (get_or flows k d).coflow (get_or flows k d).ingress (get_or flows k d).egress
flow_is_sent sends flows h k d lt =
    let x = get_or flows k d in
    let part = get_or-le-sum_by (term x.coflow x.ingress x.egress) flows k d lt in
    omega (arith, part, own_term x, h.units k d lt, h.sent x.coflow x.ingress x.egress)

pub record AreWithin (t : Trace) (flows : List Flow) : Type 0 where
  pub coflow : All (λ (x : Flow). x.coflow < length t.coflows) flows
  pub ingress : All (λ (x : Flow). x.ingress < t.number + 1) flows
  pub egress : All (λ (x : Flow). x.egress < t.number + 1) flows

pub flows_within : (t : Trace) (unit : ℕ) (flows : List Flow) → IsTrace t → IsFlowsOf t unit flows → AreWithin t flows
flows_within t unit flows trace h = record {
  coflow = in_coflows;
  ingress = λ k d lt. elim (cases_lt t.number (get_or flows k d).ingress) [
    | inl past ↦ absurd (omega (
      arith,
      flow_is_sent (sent t unit) flows h k d lt,
      no_ingress unit t.number (line_of t (get_or flows k d).coflow) (get_or flows k d).ingress
          (get_or flows k d).egress (trace.lines _ _ (in_coflows k d lt)) past,
    ))
    | inr in' ↦ omega arith
  ];
  egress = λ k d lt. elim (cases_lt t.number (get_or flows k d).egress) [
    | inl past ↦ absurd (omega (
      arith,
      flow_is_sent (sent t unit) flows h k d lt,
      no_egress unit t.number (line_of t (get_or flows k d).coflow) (get_or flows k d).ingress (get_or flows k d).egress (trace.lines _ _ (in_coflows k d lt)) past,
    ))
    | inr in' ↦ omega arith
  ];
}
  where
    in_coflows : All (λ (x : Flow). x.coflow < length t.coflows) flows
    in_coflows k d lt = elim (cases_lt (get_or flows k d).coflow (length t.coflows)) [
      | inl in' ↦ in'
      | inr past ↦ absurd (omega (
        arith,
        flow_is_sent (sent t unit) flows h k d lt,
        no_coflow t unit (get_or flows k d).coflow (get_or flows k d).ingress (get_or flows k d).egress
            past,
      ))
    ]
