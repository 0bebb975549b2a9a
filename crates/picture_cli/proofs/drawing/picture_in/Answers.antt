use Rattle.std.proofs.Common.{◌≡◌, ◌≤◌, ◌<◌, ◌^◌, ◌∙◌, ℕ, List, length, min, refl, ap, sym, subst, arith}
use Rattle.cert_check.proofs.SlotSteps.{runs_kept}
use Rattle.cert_check.proofs.Verdicts.{names_each}
use Rattle.cert_check.specs.Places.{NamesEach, coflows_in}
use Rattle.std.specs.Prelude.{sum}
use Rattle.schedule_model.specs.RunList.{slots_in}
use Rattle.picture.specs.declared.value.Bar.{Bar}
use Rattle.picture.specs.declared.value.TheConstants.{MAX_BARS}
use Rattle.picture.specs.Bars.{bar_count}
use Rattle.picture.specs.Order.{IsPlaces}
use Rattle.report_text.specs.declared.value.PlaceLine.{PlaceLine}
use Rattle.picture_cli.specs.Words.{report_by}
use Rattle.picture_cli.proofs.PictureFacts.{bars_along, bars_inside, bound_small, clear_along, cost_small, curve_along, ends_along, names_along, names_flows, slots_short, weights_small, window_same}
use Rattle.picture_cli.proofs.drawing.picture_in.Goals as goal

pub window_in-window-requires : goal.window_in-window-requires
window_in-window-requires c = slots_short c.args.report.now c.requires.report

pub bars_of-requires-clause-clear : goal.bars_of-requires-clause-clear
bars_of-requires-clause-clear c =
    clear_along c.args.input.now.table.flows c.flows.result.now (slots_in c.args.report.now.runs) c.flows.ensures.flows c.requires.right.valid.clear

pub bars_of-requires-clause-short : goal.bars_of-requires-clause-short
bars_of-requires-clause-short c = slots_short c.args.report.now c.requires.report

pub completions_of_runs-requires-clause-kept : goal.completions_of_runs-requires-clause-kept
completions_of_runs-requires-clause-kept c = runs_kept c.args.report.now c.requires.report

pub completions_of_runs-requires-clause-names : goal.completions_of_runs-requires-clause-names
completions_of_runs-requires-clause-names c =
    names_along c.args.input.now.table.flows c.flows-2.result.now (slots_in c.args.report.now.runs) c.flows-2.ensures.flows
    (names_flows c.args.input.now.table c.args.input.now.weights c.args.report.now c.requires.right)

pub places_in-requires : goal.places_in-requires
places_in-requires c =
    subst (λ (lines : List PlaceLine). NamesEach (length c.args.input.now.table.ids) (coflows_in c.args.input.now.table.ids lines)) (sym c.as_slice-2.ensures)
    (names_each c.args.input.now.table c.args.input.now.weights c.args.report.now.places c.requires.right.certificate)

pub returns-clause-shows : goal.returns-clause-shows
returns-clause-shows c =
    let table = c.args.input.now.table in
    let slots = slots_in c.args.report.now.runs in
    let said = report_by c.args.words in
    record {
      window_is = window_same c.window_in-window.result said.side said.from (min said.to (length slots)) c.window_in-window.ensures.side c.window_in-window.ensures.first
          c.window_in-window.ensures.last;
      some = omega arith;
      bars = bars_along table.flows c.flows.result.now slots table.ports c.ports.result c.window_in-window.result c.in_ok-rows.rows.items c.from_vec.result
          c.flows.ensures.flows c.ports.ensures.ports c.from_vec.ensures c.in_ok-rows.ensures.bars;
      few = subst (λ (xs : List (List Bar)). bar_count xs ≤ MAX_BARS) (sym c.from_vec.ensures) c.in_ok-rows.ensures.few;
      ends_are = ends_along table.flows c.flows-2.result.now slots c.in_ok-ends.ends.items c.from_vec-2.result (length table.ids) c.coflows.result
          c.flows-2.ensures.flows c.coflows.ensures.coflows c.from_vec-2.ensures c.in_ok-ends.ensures;
      curve = curve_along c.in_ok-ends.ends.items c.deref.result.now c.from_vec-2.result c.in_ok-steps.steps.items c.from_vec-3.result
          c.deref.ensures.value c.from_vec-2.ensures c.from_vec-3.ensures c.in_ok-steps.ensures;
      ids_are = c.in_ok-ids.ensures;
      weights_are = c.in_ok-weights.ensures ∙ c.as_slice.ensures;
      places_are = subst (λ lines. IsPlaces (coflows_in table.ids lines) c.in_ok-places.places) c.as_slice-2.ensures c.in_ok-places.ensures;
      cost_is = refl;
      bound_is = refl;
    }

pub returns-clause-drawable : goal.returns-clause-drawable
returns-clause-drawable c =
    let table = c.args.input.now.table in
    let short = slots_short c.args.report.now c.requires.report in
    let last : c.window_in-window.result.last ≡ min c.args.words.to (length (slots_in c.args.report.now.runs)) = c.window_in-window.ensures.last in
    let rows : length c.from_vec.result ≡ table.ports = ap (λ (xs : List (List Bar)). length xs) c.from_vec.ensures ∙ c.in_ok-rows.ensures.bars.row_each ∙ c.ports.ensures.ports in
    let weights : c.in_ok-weights.weights ≡ c.args.input.now.weights = c.in_ok-weights.ensures ∙ c.as_slice.ensures in
    record {
      counted = omega (arith, c.window_in-window.ensures.first, c.args.words.some_first);
      some = omega arith;
      short = omega (arith, last, short);
      has_ports = omega (arith, rows, c.ports.ensures.table.has_ports);
      few_ports = omega (arith, rows, c.ports.ensures.table.few_ports);
      inside = bars_inside c.flows.result.now (slots_in c.args.report.now.runs) c.ports.result c.window_in-window.result c.in_ok-rows.rows.items c.from_vec.result
          c.from_vec.ensures c.in_ok-rows.ensures.bars;
      small_weights = subst (λ (ws : List ℕ). sum ws < 2 ^ 64) (sym weights)
          (weights_small table c.args.input.now.weights c.ports.ensures.table c.requires.count c.requires.weights);
      small_cost = cost_small table c.args.input.now.weights c.args.report.now c.ports.ensures.table c.requires.report c.requires.weights c.requires.right;
      small_bound = bound_small table c.args.input.now.weights c.args.report.now c.ports.ensures.table c.requires.report c.requires.weights c.requires.right;
    }
