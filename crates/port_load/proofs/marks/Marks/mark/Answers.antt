use Rattle.std.proofs.Common.{◌+◌, ◌*◌, ◌/◌, ◌%◌, ◌^◌, ◌<◌, length, refl, sym, ap, ◌∙◌, arith}
use Rattle.std.specs.Prelude.{bit_or}
use Rattle.std.proofs.lemmas.Grind.{get_or_default_zero}
use Rattle.port_load.specs.MarkTable.{MarkTable, mark_at}
use Rattle.port_load.proofs.Grid.{in_table}
use Rattle.port_load.proofs.MarkSteps.{marked_at, others_stay, set_bit}
use Rattle.port_load.proofs.marks.Marks.mark.Goals as goal

pub returns-clause-marked : goal.returns-clause-marked
returns-clause-marked c =
    let s = c.self.inside in
    let place = c.args.row * (s.columns / 64 + 1) + c.args.column / 64 in
    let lr : c.args.row < s.rows = omega (arith, c.requires.row_in, ap (λ (x : MarkTable). x.rows) c.self.view_is) in
    let lc : c.args.column / 64 < s.columns / 64 + 1 = omega (arith, c.requires.column_in, ap (λ (x : MarkTable). x.columns) c.self.view_is) in
    let inside : place < length s.words.items = omega (arith, c.self.invariant.words_len, in_table (s.columns / 64 + 1) c.args.row (c.args.column / 64) s.rows lr lc) in
    marked_at s.words.items s.columns c.args.row c.args.column place (bit_or c.index_mut.result.now (1 * 2 ^ (c.args.column % 64) % 2 ^ 64)) refl inside
    (set_bit c.index_mut.result.now (c.args.column % 64) (omega arith))

pub returns-clause-others : goal.returns-clause-others
returns-clause-others c = λ r k none.
    let s = c.self.inside in
    let place = c.args.row * (s.columns / 64 + 1) + c.args.column / 64 in
    let lr : c.args.row < s.rows = omega (arith, c.requires.row_in, ap (λ (x : MarkTable). x.rows) c.self.view_is) in
    let lc : c.args.column / 64 < s.columns / 64 + 1 = omega (arith, c.requires.column_in, ap (λ (x : MarkTable). x.columns) c.self.view_is) in
    let inside : place < length s.words.items = omega (arith, c.self.invariant.words_len, in_table (s.columns / 64 + 1) c.args.row (c.args.column / 64) s.rows lr lc) in
    let word = c.index_mut.ensures.value ∙ get_or_default_zero s.words.items place c.index_mut.result.now inside in
    sym (ap (λ (x : MarkTable). mark_at x r k) c.self.view_is) ∙ others_stay s.words.items s.columns place c.index_mut.result.now (1 * 2 ^ (c.args.column % 64) % 2 ^ 64) r k inside
    word none
