use Rattle.std.proofs.Common.{◌≡◌, ◌+◌, ◌*◌, ◌^◌, ◌<◌, inl, inr, get_or, ap, ◌∙◌, arith, rules, length, w64}
use Rattle.std.specs.Prelude.{bit_and}
use Rattle.std.specs.Int.{trailing_zeros}
use Rattle.std.proofs.lemmas.Bool.{cases_lt}
use Rattle.std.proofs.lemmas.Grind.{get_or_default_zero}
use Rattle.std.proofs.lemmas.Nat.{and_le_l, mul-add-lt}
use Rattle.matching.proofs.BitSteps.{IsLeastCommon, least_common, none_common}
use Rattle.matching.proofs.rows.Rows.least_free.Goals as goal

pub returns-then-both-gt0 : goal.returns-then-both-gt0
returns-then-both-gt0 c =
    let rows = c.args.self.now in
    let word = c.loop-word.word in
    let start = c.args.row * rows.width in
    let both = bit_and c.index.result.now (get_or c.args.free.now word 0) in
    let inside : start + word < length rows.owes.items = omega (
      arith,
      mul-add-lt c.args.row rows.width word (length rows.first.items) c.requires.row c.loop-word-test.true,
      c.requires.words,
    ) in
    let is : both ≡ bit_and (get_or rows.owes.items (start + word) 0) (get_or c.args.free.now word 0) =
    ap (λ x. bit_and x (get_or c.args.free.now word 0)) (c.index.ensures ∙ get_or_default_zero rows.owes.items (start + word) c.index.result.now inside) in
    let fits : c.index.result.now < 2 ^ 64 = search rules in
    let small : both < 2 ^ 64 = omega (arith, fits, and_le_l c.index.result.now (get_or c.args.free.now word 0)) in
    let least : IsLeastCommon rows.owes.items c.args.free.now start word (trailing_zeros w64 both) =
    least_common rows.owes.items c.args.free.now start word both is (omega (arith, c.if-both-gt0.true)) small in (
      omega (arith, c.loop-word-test.true, least.low),
      least.first,
      least.second,
      λ e lt owed. elim (cases_lt e (64 * word)) [ inl old ↦ c.loop-word.invariant e old owed | inr new ↦ least.before e new lt owed ],
    )

pub loop-word-preserved : goal.loop-word-preserved
loop-word-preserved c = λ e lt owed.
    let rows = c.args.self.now in
    let word = c.loop-word.word in
    let start = c.args.row * rows.width in
    let both = bit_and c.index.result.now (get_or c.args.free.now word 0) in
    let inside : start + word < length rows.owes.items = omega (
      arith,
      mul-add-lt c.args.row rows.width word (length rows.first.items) c.requires.row c.loop-word-test.true,
      c.requires.words,
    ) in
    let is : both ≡ bit_and (get_or rows.owes.items (start + word) 0) (get_or c.args.free.now word 0) =
    ap (λ x. bit_and x (get_or c.args.free.now word 0)) (c.index.ensures ∙ get_or_default_zero rows.owes.items (start + word) c.index.result.now inside) in
    elim (cases_lt e (64 * word)) [
      | inl old ↦ c.loop-word.invariant e old owed
      | inr new ↦ none_common rows.owes.items c.args.free.now start word both e is (omega (arith, c.if-both-gt0.false)) new lt owed
    ]
