use Rattle.std.proofs.Common.{◌≡◌, ℕ, ◌<◌, length, slice_index, ap, sym, subst, ◌∙◌, arith}
use Rattle.coflow_units.specs.Completion.{completion}
use Rattle.coflow_units.specs.Schedule.{IsValid}
use Rattle.flow_table.specs.Table.{instance_of}
use Rattle.cert_check.proofs.EndFacts.{cost_is, count_of, ends_are}
use Rattle.schedule_model.specs.RunList.{slots_in}
use Rattle.schedule_model.proofs.ValidSteps.{valid_names}
use Rattle.online_check.specs.Done.{ids_done, slots_done}
use Rattle.online_check.proofs.DoneSteps.{count_slots, done_at, ends_along, runs_kept, told_end}
use Rattle.online_check.proofs.Firsts.{first_wrong_cost, first_wrong_end}
use Rattle.online_check.proofs.Verdicts.{slots_listed}
use Rattle.online_check.proofs.ends.wrong_ends.Goals as goal

pub completions_of_runs-requires-clause-kept : goal.completions_of_runs-requires-clause-kept
completions_of_runs-requires-clause-kept c = runs_kept c.args.online.now c.requires.online

pub completions_of_runs-requires-clause-names : goal.completions_of_runs-requires-clause-names
completions_of_runs-requires-clause-names c =
    let slots = slots_in c.args.online.now.runs in
    valid_names c.flows.result.now slots (subst (λ l. IsValid l slots) (sym c.flows.ensures.flows) c.requires.valid)

pub first_wrong_end-requires-clause-each : goal.first_wrong_end-requires-clause-each
first_wrong_end-requires-clause-each c =
    let t = c.args.table.now in
    let o = c.args.online.now in
    let done : c.as_slice-done.result.now ≡ o.done = c.as_slice-done.ensures in
    let listed : ids_done o.done ≡ t.ids = ap ids_done (sym done) ∙ c.in_default.ensures in
    let count = slots_listed t.ids o listed in
    let of = ends_are t.flows c.flows.result.now (slots_in o.runs) c.in_ok-ends.ends.items c.deref.result.now
    (length t.ids) c.coflows.result c.flows.ensures.flows c.coflows.ensures.coflows c.deref.ensures.value c.in_ok-ends.ensures in
    let real = completion t.flows (slots_in o.runs) in
    omega (arith, count_slots o.done, ap length done, count, count_of c.deref.result.now real (length t.ids) of)

pub first_wrong_end-requires-clause-few : goal.first_wrong_end-requires-clause-few
first_wrong_end-requires-clause-few c =
    let t = c.args.table.now in
    let o = c.args.online.now in
    let of = ends_are t.flows c.flows.result.now (slots_in o.runs) c.in_ok-ends.ends.items c.deref.result.now
    (length t.ids) c.coflows.result c.flows.ensures.flows c.coflows.ensures.coflows c.deref.ensures.value c.in_ok-ends.ensures in
    let real = completion t.flows (slots_in o.runs) in
    omega (arith, count_of c.deref.result.now real (length t.ids) of, c.coflows.ensures.table.few_coflows)

pub index-requires : goal.index-requires
index-requires c =
    let t = c.args.table.now in
    let o = c.args.online.now in
    let done : c.as_slice-done.result.now ≡ o.done = c.as_slice-done.ensures in
    let listed : ids_done o.done ≡ t.ids = ap ids_done (sym done) ∙ c.in_default.ensures in
    let count = slots_listed t.ids o listed in
    let of = ends_are t.flows c.flows.result.now (slots_in o.runs) c.in_ok-ends.ends.items c.deref.result.now
    (length t.ids) c.coflows.result c.flows.ensures.flows c.coflows.ensures.coflows c.deref.ensures.value c.in_ok-ends.ensures in
    let real = completion t.flows (slots_in o.runs) in
    let inside = c.in-Some-first_wrong_end.ensures.line in
    omega (
      arith,
      inside,
      count_slots c.as_slice-done.result.now,
      ap length done,
      count_slots o.done,
      count,
      count_of c.deref.result.now real (length t.ids) of,
      c.deref.ensures.len,
    )

pub returns-in-Some-first_wrong_end : goal.returns-in-Some-first_wrong_end
returns-in-Some-first_wrong_end c = λ arrival.
    let t = c.args.table.now in
    let o = c.args.online.now in
    let done : c.as_slice-done.result.now ≡ o.done = c.as_slice-done.ensures in
    let listed : ids_done o.done ≡ t.ids = ap ids_done (sym done) ∙ c.in_default.ensures in
    let count = slots_listed t.ids o listed in
    let of = ends_are t.flows c.flows.result.now (slots_in o.runs) c.in_ok-ends.ends.items c.deref.result.now
    (length t.ids) c.coflows.result c.flows.ensures.flows c.coflows.ensures.coflows c.deref.ensures.value c.in_ok-ends.ensures in
    let real = completion t.flows (slots_in o.runs) in
    let coflow = c.in-Some-first_wrong_end.coflow in
    let told = told_end o.done c.as_slice-done.result.now c.deref.result.now c.in_ok-ends.ends.items real (length t.ids) coflow c.index.result.now done
    c.deref.ensures.value of count c.in-Some-first_wrong_end.ensures c.index.ensures in
    first_wrong_end (instance_of t c.args.weights.now) arrival t.ids o coflow (done_at c.as_slice-done.result.now coflow).slot c.index.result.now listed
    (omega (arith, told.line, count)) told

pub cost_of-real-requires-clause-each : goal.cost_of-real-requires-clause-each
cost_of-real-requires-clause-each c =
    let t = c.args.table.now in
    let o = c.args.online.now in
    let of = ends_are t.flows c.flows.result.now (slots_in o.runs) c.in_ok-ends.ends.items c.deref-2.result.now
    (length t.ids) c.coflows.result c.flows.ensures.flows c.coflows.ensures.coflows c.deref-2.ensures.value c.in_ok-ends.ensures in
    let real = completion t.flows (slots_in o.runs) in
    omega (arith, count_of c.deref-2.result.now real (length t.ids) of, c.requires.weight_each)

pub returns-then-stated-real : goal.returns-then-stated-real
returns-then-stated-real c = λ arrival.
    let t = c.args.table.now in
    let o = c.args.online.now in
    let done : c.as_slice-done.result.now ≡ o.done = c.as_slice-done.ensures in
    let listed : ids_done o.done ≡ t.ids = ap ids_done (sym done) ∙ c.in_default.ensures in
    let count = slots_listed t.ids o listed in
    let of = ends_are t.flows c.flows.result.now (slots_in o.runs) c.in_ok-ends.ends.items c.deref.result.now
    (length t.ids) c.coflows.result c.flows.ensures.flows c.coflows.ensures.coflows c.deref.ensures.value c.in_ok-ends.ensures in
    let real = completion t.flows (slots_in o.runs) in
    let ends = ends_along (slots_done o.done) c.deref.result.now real (length t.ids) of
    (subst (λ l. (k : ℕ) → k < length c.deref.result.now → slice_index (slots_done l) k ≡ slice_index c.deref.result.now k) done c.in_default-first_wrong_end.ensures) in
    let lent = ends_are t.flows c.flows.result.now (slots_in o.runs) c.in_ok-ends.ends.items c.deref-2.result.now
    (length t.ids) c.coflows.result c.flows.ensures.flows c.coflows.ensures.coflows c.deref-2.ensures.value c.in_ok-ends.ensures in
    let value = cost_is t.flows (slots_in o.runs) c.args.weights.now c.deref-2.result.now (length t.ids) c.cost_of-real.result lent c.requires.weight_each
    (c.cost_of-real.ensures.cost t.flows (slots_in o.runs)) in
    first_wrong_cost (instance_of t c.args.weights.now) arrival t.ids o c.cost_of-real.result listed count ends value c.if-stated-real.true

pub returns : goal.returns
returns c = λ arrival.
    let t = c.args.table.now in
    let o = c.args.online.now in
    let done : c.as_slice-done.result.now ≡ o.done = c.as_slice-done.ensures in
    let listed : ids_done o.done ≡ t.ids = ap ids_done (sym done) ∙ c.in_default.ensures in
    let count = slots_listed t.ids o listed in
    let of = ends_are t.flows c.flows.result.now (slots_in o.runs) c.in_ok-ends.ends.items c.deref.result.now
    (length t.ids) c.coflows.result c.flows.ensures.flows c.coflows.ensures.coflows c.deref.ensures.value c.in_ok-ends.ensures in
    let real = completion t.flows (slots_in o.runs) in
    let ends = ends_along (slots_done o.done) c.deref.result.now real (length t.ids) of
    (subst (λ l. (k : ℕ) → k < length c.deref.result.now → slice_index (slots_done l) k ≡ slice_index c.deref.result.now k) done c.in_default-first_wrong_end.ensures) in
    let lent = ends_are t.flows c.flows.result.now (slots_in o.runs) c.in_ok-ends.ends.items c.deref-2.result.now
    (length t.ids) c.coflows.result c.flows.ensures.flows c.coflows.ensures.coflows c.deref-2.ensures.value c.in_ok-ends.ensures in
    let value = cost_is t.flows (slots_in o.runs) c.args.weights.now c.deref-2.result.now (length t.ids) c.cost_of-real.result lent c.requires.weight_each
    (c.cost_of-real.ensures.cost t.flows (slots_in o.runs)) in
    record { listed = listed; ends = ends; cost_is = c.if-stated-real.false ∙ value }
