use Rattle.std.proofs.Common.{◌≡◌, ◌+◌, ◌-◌, ◌<◌, drop, length, take, ap, ◌∙◌, arith}
use Rattle.std.specs.Prelude.{filter, slice_index, ◌==◌}
use Rattle.std.proofs.lemmas.Grind.{get_or_default_zero}
use Rattle.coflow_units.specs.declared.fabric.Flow.{Flow}
use Rattle.flow_table.specs.Table.{TableFacts}
use Rattle.flow_table.proofs.TableSteps.{part_of_coflow}
use Rattle.flow_table.proofs.table.Table.of_coflow.Goals as goal

pub returns : goal.returns
returns c =
    let s = c.self.inside in
    let k = c.args.coflow in
    let t : TableFacts = record { flows = s.flows.items; starts = s.starts.items; ports = s.ports; ids = s.ids.items; arrivals = s.arrivals.items } in
    let lt : k < length t.ids = omega (arith, ap (λ (x : TableFacts). length x.ids) c.self.view_is, c.requires) in
    let first : c.index.result.now ≡ slice_index t.starts k = c.index.ensures ∙ get_or_default_zero t.starts k c.index.result.now (omega (arith, c.self.invariant.starts_len)) in
    let end : c.index-2.result.now ≡ slice_index t.starts (k + 1) =
    c.index-2.ensures ∙ get_or_default_zero t.starts (k + 1) c.index-2.result.now (omega (arith, c.self.invariant.starts_len)) in
    c.part_of.ensures ∙ ap (λ l. take (c.index-2.result.now - c.index.result.now) (drop c.index.result.now l)) c.deref.ensures.value
    ∙ ap (λ n. take (n - c.index.result.now) (drop c.index.result.now t.flows)) end ∙ ap (λ n. take (slice_index t.starts (k + 1) - n) (drop n t.flows)) first
    ∙ part_of_coflow t k c.self.invariant lt ∙ ap (λ (x : TableFacts). filter (λ (y : Flow). y.coflow == k) x.flows) c.self.view_is
