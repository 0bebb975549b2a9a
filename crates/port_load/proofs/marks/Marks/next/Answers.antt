use Rattle.std.proofs.Common.{◌≡◌, ◌+◌, ◌*◌, ◌/◌, ◌%◌, ◌^◌, ◌<◌, inl, inr, length, sym, ap, ◌∙◌, arith, rules, div-le_self, w64}
use Rattle.std.proofs.lemmas.Bool.{cases_lt}
use Rattle.std.proofs.lemmas.Grind.{get_or_default_zero}
use Rattle.std.proofs.lemmas.Nat.Bits.{bit_at-trailing_zeros}
use Rattle.port_load.specs.MarkTable.{MarkTable, mark_at, width}
use Rattle.port_load.proofs.Grid.{in_table}
use Rattle.port_load.proofs.MarkSteps.{none_before_bit, none_in_word}
use Rattle.port_load.proofs.marks.Marks.next.Goals as goal

pub overflow_add-column : goal.overflow_add-column
overflow_add-column c =
    let fits : c.index.result.now < 2 ^ 64 = search rules in
    let low = bit_at-trailing_zeros w64 (c.index.result.now / 2 ^ (c.words.column % 64)) (omega (arith, c.if-word-gt0.true))
    (omega (arith, fits, div-le_self c.index.result.now (2 ^ (c.words.column % 64)))) in
    omega (arith, low.0, c.words-test.true, c.self.invariant.columns_limit)

pub returns-then-word-gt0-clause-none : goal.returns-then-word-gt0-clause-none
returns-then-word-gt0-clause-none c = λ k le lt.
    let s = c.self.inside in
    let at = c.words.column in
    let w = c.index.result.now in
    let lr : c.args.row < s.rows = omega (arith, c.requires.row_in, ap (λ (x : MarkTable). x.rows) c.self.view_is) in
    let lc : at / 64 < s.columns / 64 + 1 = omega (arith, c.words-test.true) in
    let inside : c.args.row * width s.columns + at / 64 < length s.words.items =
    omega (arith, c.self.invariant.words_len, in_table (width s.columns) c.args.row (at / 64) s.rows lr lc) in
    let is : w ≡ _ = c.index.ensures ∙ get_or_default_zero s.words.items (c.args.row * width s.columns + at / 64) w inside in
    let fits : c.index.result.now < 2 ^ 64 = search rules in
    elim (cases_lt k at) [
      | inl old ↦ c.words.invariant.none k le old
      | inr new ↦ sym (ap (λ (x : MarkTable). mark_at x c.args.row k) c.self.view_is)
          ∙ none_before_bit s.words.items s.columns c.args.row at w is fits (omega (arith, c.if-word-gt0.true)) (omega (arith, fits, div-le_self w (2 ^ (at % 64)))) k new
          (omega (arith, lt, c.min.ensures))
    ]

pub overflow_mul-column : goal.overflow_mul-column
overflow_mul-column c = omega (arith, c.words-test.true, c.self.invariant.columns_limit)

pub words-preserved : goal.words-preserved
words-preserved c =
    let s = c.self.inside in
    let at = c.words.column in
    let w = c.index.result.now in
    let lr : c.args.row < s.rows = omega (arith, c.requires.row_in, ap (λ (x : MarkTable). x.rows) c.self.view_is) in
    let lc : at / 64 < s.columns / 64 + 1 = omega (arith, c.words-test.true) in
    let inside : c.args.row * width s.columns + at / 64 < length s.words.items =
    omega (arith, c.self.invariant.words_len, in_table (width s.columns) c.args.row (at / 64) s.rows lr lc) in
    let is : w ≡ _ = c.index.ensures ∙ get_or_default_zero s.words.items (c.args.row * width s.columns + at / 64) w inside in
    record {
      after = omega (arith, c.words.invariant.after);
      none = λ k le lt. elim (cases_lt k at) [
        | inl old ↦ c.words.invariant.none k le old
        | inr new ↦ sym (ap (λ (x : MarkTable). mark_at x c.args.row k) c.self.view_is) ∙
            none_in_word s.words.items s.columns c.args.row at w is (omega (arith, c.if-word-gt0.false)) k new lt
      ];
    }
