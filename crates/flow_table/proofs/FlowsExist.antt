-- Each trace has flows.
use Rattle.std.proofs.Common.{◌≡◌, ℕ, ◌+◌, ◌<◌, ◌≤◌, inl, inr, List, [], ◌∷◌, ◌++◌, length, refl, sym, subst, arith, zero, suc}
use Rattle.std.proofs.lemmas.Bool.{cases_lt}
use Rattle.coflow_units.specs.declared.fabric.Flow.{Flow}
use Rattle.coflow_units.specs.declared.trace.Trace.{Trace}
use Rattle.coflow_units.specs.Trace.{IsTrace}
use Rattle.flow_table.specs.FlowsOf.{HaveUnitsBefore, IsFlowsOf}
use Rattle.flow_table.specs.Sent.{line_of, sent}
use Rattle.flow_table.proofs.FlowSteps.{have_all, next_coflow, next_egress, next_ingress, push}
use Rattle.flow_table.proofs.Within.{no_coflow, no_egress, no_ingress}

module _ (sends : ℕ → ℕ → ℕ → ℕ) where
  upto_egress : (c i n : ℕ) (flows : List Flow) → HaveUnitsBefore sends c i 0 flows → (more : List Flow) × HaveUnitsBefore sends c i n more
  upto_egress c i zero flows h = (flows, h)
  upto_egress c i (suc n) flows h =
      let (more, so_far) = upto_egress c i n flows h in
      let next : n + 1 ≡ suc n = omega arith in
      elim (cases_lt 0 (sends c i n)) [
        | inl some ↦
            let longer : List Flow = more ++ record { coflow = c; ingress = i; egress = n; units = sends c i n } ∷ [] in
            (longer, subst (λ k. HaveUnitsBefore sends c i k longer) next (push sends c i n more so_far (sends c i n) (omega arith) refl))
        | inr none ↦ (more, next_egress sends c i n more so_far (suc n) (omega arith) (λ z low high. let e : z ≡ n = omega arith in at_end c i n z e (omega arith)))
      ]
    where
      at_end : (c i n z : ℕ) → z ≡ n → sends c i n ≡ 0 → sends c i z ≡ 0
      at_end c i n z e none = subst (λ k. sends c i k ≡ 0) (sym e) none

  upto_ingress : (c ports n : ℕ) (flows : List Flow) → ((i e : ℕ) → ports ≤ e → sends c i e ≡ 0) → HaveUnitsBefore sends c 0 0 flows →
      (more : List Flow) × HaveUnitsBefore sends c n 0 more
  upto_ingress c ports zero flows past h = (flows, h)
  upto_ingress c ports (suc n) flows past h =
      let (more, so_far) = upto_ingress c ports n flows past h in
      let (row, in_row) = upto_egress c n ports more so_far in
      let next : n + 1 ≡ suc n = omega arith in
      (row, subst (λ k. HaveUnitsBefore sends c k 0 row) next (next_ingress sends c n ports row in_row (λ z low. past n z low)))

  upto_coflow : (coflows ports n : ℕ) → n ≤ coflows → ((c i e : ℕ) → c < coflows → ports ≤ e → sends c i e ≡ 0) → ((c i e : ℕ) → c < coflows → ports ≤ i → sends c i e ≡ 0) →
      (flows : List Flow) × HaveUnitsBefore sends n 0 0 flows
  upto_coflow coflows ports zero le past_egress past_ingress = (
    [],
    record {
      sorted = λ k d lt. absurd (omega arith);
      units = λ k d lt. absurd (omega arith);
      before = λ k d lt. absurd (omega arith);
      sent = λ c i e lt. absurd (grind arith);
    },
  )
  upto_coflow coflows ports (suc n) le past_egress past_ingress =
      let (flows, so_far) = upto_coflow coflows ports n (omega arith) past_egress past_ingress in
      let (more, all) = upto_ingress n ports ports flows (λ i e past. past_egress n i e (omega arith) past) so_far in
      let next : n + 1 ≡ suc n = omega arith in
      (more, subst (λ k. HaveUnitsBefore sends k 0 0 more) next (next_coflow sends n ports more all (λ i e past. past_ingress n i e (omega arith) past)))

pub flows_are_there : (t : Trace) (unit : ℕ) → IsTrace t → (flows : List Flow) × IsFlowsOf t unit flows
flows_are_there t unit trace =
    let n = length t.coflows in
    let (flows, all) = upto_coflow (sent t unit) n (t.number + 1) n (omega arith) (λ c i e lt past. no_egress unit t.number (line_of t c) i e (trace.lines c _ lt) (omega arith))
    (λ c i e lt past. no_ingress unit t.number (line_of t c) i e (trace.lines c _ lt) (omega arith)) in
    (flows, have_all (sent t unit) n flows all (λ c i e past. no_coflow t unit c i e past))
