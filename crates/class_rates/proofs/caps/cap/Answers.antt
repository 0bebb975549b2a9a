use Rattle.std.proofs.Common.{◌≡◌, ◌≤◌, ◌<◌, ◌*◌, ◌∙◌, ℕ, List, ap, arith, get_or, length, subst, sym}
use Rattle.std.specs.Prelude.{All, sum_by}
use Rattle.std.specs.List.{range_with_len}
use Rattle.std.proofs.lemmas.List.Elements.{All-weaker}
use Rattle.coflow_units.specs.declared.fabric.Flow.{Flow}
use Rattle.schedule_model.specs.Weights.{weight_of}
use Rattle.schedule_model.proofs.TimeCounts.{refill}
use Rattle.class_rates.specs.Cap.{cap}
use Rattle.class_rates.specs.Classes.{class_of}
use Rattle.class_rates.specs.Tallies.{coflows_of, number_at}
use Rattle.class_rates.proofs.CapSteps.{caps_small, summed}
use Rattle.class_rates.proofs.caps.cap.Goals as goal

pub weighted_sum-total-requires-clause-small : goal.weighted_sum-total-requires-clause-small
weighted_sum-total-requires-clause-small c =
    let flows = c.flows.result.now in
    let numbers = c.numbers.result.now in
    let caps = c.fill_caps.new.caps in
    let filled = c.fill_caps.auto.caps ∙ c.deref_mut-3.ensures.len in
    let now : c.deref.result.now ≡ caps = c.deref.ensures.value ∙ refill caps c.in_ok-caps.caps.items c.in_ok-caps.caps.len filled in
    let len : length numbers ≡ length c.args.table.now.ids = ap length c.numbers.ensures.numbers ∙ c.requires.classes in
    let known : All (λ (x : Flow). x.coflow < length numbers) flows = subst (All (λ (x : Flow). x.coflow < length numbers)) (sym c.flows.ensures.flows)
    (All-weaker (λ (x : Flow). x.coflow < length c.args.table.now.ids) (λ (x : Flow). x.coflow < length numbers) (λ x lt. omega (arith, lt, len)) c.args.table.now.flows
    c.flows.ensures.table.coflow) in
    let few : sum_by (λ (x : Flow). x.units) flows ≤ 1099511627776 = subst (λ (xs : List Flow). sum_by (λ (x : Flow). x.units) xs ≤ 1099511627776) (sym c.flows.ensures.flows)
    c.flows.ensures.table.few_units in
    let long : length caps ≡ length numbers = filled ∙ c.in_ok-caps.ensures.len ∙ c.requires.weights ∙ sym len in
    subst (All (λ (n : ℕ). n ≤ 2199023255552)) (sym now) (caps_small flows numbers caps known few long c.fill_caps.ensures)

pub returns : goal.returns
returns c =
    let numbers = c.numbers.result.now in
    let caps = c.fill_caps.new.caps in
    let w = weight_of c.args.weights.now in
    let filled = c.fill_caps.auto.caps ∙ c.deref_mut-3.ensures.len in
    let now : c.deref.result.now ≡ caps = c.deref.ensures.value ∙ refill caps c.in_ok-caps.caps.items c.in_ok-caps.caps.len filled in
    let len : length numbers ≡ length c.args.table.now.ids = ap length c.numbers.ensures.numbers ∙ c.requires.classes in
    c.weighted_sum-total.ensures
    ∙ ap (λ (n : ℕ). sum_by (λ k. w k * get_or c.deref.result.now k 0) (range_with_len 0 n)) (c.requires.weights ∙ sym len)
    ∙ ap (λ (xs : List ℕ). sum_by (λ k. w k * get_or xs k 0) (coflows_of numbers)) now
    ∙ summed c.flows.result.now numbers caps w c.fill_caps.ensures
    ∙ ap (λ (xs : List Flow). cap xs w (coflows_of numbers) (number_at numbers)) c.flows.ensures.flows
    ∙ ap (λ (xs : List ℕ). cap c.args.table.now.flows w (coflows_of xs) (number_at xs)) c.numbers.ensures.numbers
    ∙ ap (λ (n : ℕ). cap c.args.table.now.flows w (range_with_len 0 n) (class_of c.args.classes.now)) c.requires.classes
