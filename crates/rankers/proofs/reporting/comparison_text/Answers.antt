use Rattle.std.proofs.Common.{◌≡◌, ◌≤◌, ℕ, List, length, refl, sym, ap, ap₂, subst, ◌∙◌}
use Rattle.std.specs.Prelude.{All, map}
use Rattle.std.proofs.lemmas.List.Elements.{All-nil}
use Rattle.flow_table.specs.Table.{instance_of}
use Rattle.rankers.specs.declared.row.Row.{Row}
use Rattle.rankers.specs.FactsTold.{IsFacts, IsFactsOf}
use Rattle.rankers.specs.Meaning.{Meaning}
use Rattle.report_text.specs.declared.compared.Compare.{Compare}
use Rattle.rankers.specs.Comparison.{line_of, names_of}
use Rattle.rankers.proofs.RowFacts.{left_asked, names_count, rows_count, rows_known}
use Rattle.rankers.proofs.reporting.comparison_text.Goals as goal

pub lines_of-listed-requires-clause-counted : goal.lines_of-listed-requires-clause-counted
lines_of-listed-requires-clause-counted g c =
    subst (All (λ (row : Row). 1 ≤ row.index)) (sym c.deref-3.ensures.value)
    (rows_count (instance_of c.args.table.now c.args.weights.now) c.in-Ok.facts (map (λ b. (goal.Ranker-dyn g (b.vtable, b.value)).meaning b.value) c.args.bench.now.items)
    c.in-Ok-compared.rows.items c.in-Ok-compared.ensures.rows)

pub lines_of-listed-requires-clause-known : goal.lines_of-listed-requires-clause-known
lines_of-listed-requires-clause-known g c =
    let ms : List Meaning = map (λ b. (goal.Ranker-dyn g (b.vtable, b.value)).meaning b.value) c.args.bench.now.items in
    let names : c.deref-2.result.now ≡ names_of ms = c.deref-2.ensures.value ∙ (c.in_ok-names.ensures.names ∙
    ap (λ bs. names_of (map (λ b. (goal.Ranker-dyn g (b.vtable, b.value)).meaning b.value) bs)) c.deref.ensures.value) in
    subst (All (λ (row : Row). row.index ≤ length c.deref-2.result.now)) (sym c.deref-3.ensures.value)
    (rows_known (instance_of c.args.table.now c.args.weights.now) c.in-Ok.facts ms c.deref-2.result.now c.in-Ok-compared.rows.items (names_count ms c.deref-2.result.now names)
    c.in-Ok-compared.ensures.rows)

pub returns-clause-text : goal.returns-clause-text
returns-clause-text g c =
    let ms : List Meaning = map (λ b. (goal.Ranker-dyn g (b.vtable, b.value)).meaning b.value) c.args.bench.now.items in
    let names : c.deref-2.result.now ≡ names_of ms = c.deref-2.ensures.value ∙ (c.in_ok-names.ensures.names ∙
    ap (λ bs. names_of (map (λ b. (goal.Ranker-dyn g (b.vtable, b.value)).meaning b.value) bs)) c.deref.ensures.value) in
    let compared : Compare = record { bound = c.args.bound; rows = c.from_vec.result } in (
      compared,
      refl,
      record {
        facts = c.in-Ok.facts;
        facts_fit = c.coflows-within.ensures.facts;
        facts_are = c.in-Ok.ensures;
        rows = c.in-Ok-compared.rows.items;
        rows_are = c.in-Ok-compared.ensures.rows;
        lines_are = c.from_vec.ensures ∙ (c.in_ok-lines.ensures.lines ∙ ap₂ (λ (ns : List (List ℕ)) (rs : List Row). map (line_of ns) rs) names c.deref-3.ensures.value);
      },
      c.in_ok-text.ensures.text,
    )

pub returns-in_err-names-clause-left : goal.returns-in_err-names-clause-left
returns-in_err-names-clause-left g c = (0, refl, All-nil _)

pub returns-in_default-clause-left : goal.returns-in_default-clause-left
returns-in_default-clause-left g c = (0, refl, All-nil _)

pub returns-in_default-compared-clause-left : goal.returns-in_default-compared-clause-left
returns-in_default-compared-clause-left g c =
    left_asked (λ b f. (goal.Ranker-dyn g (b.vtable, b.value)).answered b.value f) IsFacts (IsFactsOf c.args.table.now c.args.weights.now) c.in-Ok.facts
    c.args.bench.now.items c.compare-compared.new.bench.items c.coflows-within.ensures.facts c.in-Ok.ensures c.compare-compared.ensures.left

pub returns-in_err-lines-clause-left : goal.returns-in_err-lines-clause-left
returns-in_err-lines-clause-left g c =
    left_asked (λ b f. (goal.Ranker-dyn g (b.vtable, b.value)).answered b.value f) IsFacts (IsFactsOf c.args.table.now c.args.weights.now) c.in-Ok.facts
    c.args.bench.now.items c.compare-compared.new.bench.items c.coflows-within.ensures.facts c.in-Ok.ensures c.compare-compared.ensures.left

pub returns-in_err-text-clause-left : goal.returns-in_err-text-clause-left
returns-in_err-text-clause-left g c =
    left_asked (λ b f. (goal.Ranker-dyn g (b.vtable, b.value)).answered b.value f) IsFacts (IsFactsOf c.args.table.now c.args.weights.now) c.in-Ok.facts
    c.args.bench.now.items c.compare-compared.new.bench.items c.coflows-within.ensures.facts c.in-Ok.ensures c.compare-compared.ensures.left

pub returns-clause-left : goal.returns-clause-left
returns-clause-left g c =
    left_asked (λ b f. (goal.Ranker-dyn g (b.vtable, b.value)).answered b.value f) IsFacts (IsFactsOf c.args.table.now c.args.weights.now) c.in-Ok.facts
    c.args.bench.now.items c.compare-compared.new.bench.items c.coflows-within.ensures.facts c.in-Ok.ensures c.compare-compared.ensures.left
