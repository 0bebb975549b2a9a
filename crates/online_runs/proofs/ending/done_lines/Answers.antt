use Rattle.std.proofs.Common.{◌∙◌, ℕ, [], ◌∷◌, ◌++◌, map, sym, ap, arith}
use Rattle.std.specs.Prelude.{slice_index}
use Rattle.std.specs.List.{range_with_len}
use Rattle.std.proofs.lemmas.List.FromFn.{map-range_with_len_more}
use Rattle.online_runs.proofs.Endings.{line_at}
use Rattle.online_runs.proofs.ending.done_lines.Goals as goal

pub loop-coflow-preserved : goal.loop-coflow-preserved
loop-coflow-preserved c =
    let n = c.loop-coflow.coflow in
    let f = line_at c.args.table.now.ids c.args.ends.now in
    c.in_ok-push.ensures.items ∙ ap (λ l. l ++ record { id = c.id.result; slot = slice_index c.args.ends.now n } ∷ []) c.loop-coflow.invariant ∙
    ap (λ (i : ℕ). map f (range_with_len 0 n) ++ record { id = i; slot = slice_index c.args.ends.now n } ∷ []) c.id.ensures ∙
    sym (map-range_with_len_more f 0 n n (omega arith))
